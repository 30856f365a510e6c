use Rattle.std.proofs.Common.{◌≡◌, ◌≤◌, length, ap, ◌∙◌, subst, arith}
use Rattle.std.specs.Prelude.{None}
use Rattle.std.proofs.lemmas.List.{get_or_past}
use Rattle.plx_commands.specs.Places.{at}
use Rattle.plx_rules.specs.Holds.{first_hold}
use Rattle.plx_rules.specs.Session.{Known}
use Rattle.plx_appliance.specs.Kept.{known_of}
use Rattle.plx_appliance.specs.Tokens.{image_hold, image_leases}
use Rattle.plx_appliance.proofs.Dropping.{images-dropped-all, images-dropped-next}
use Rattle.plx_appliance.proofs.holdings.Holdings.drop_images.Goals as goal

pub loop-index-preserved : goal.loop-index-preserved
loop-index-preserved c =
    let k = known_of c.args.self.now in
    let leases = image_leases c.args.self.now.leases.leases.items in
    let now = image_leases c.loop-index.self.leases.leases.items in
    let new = image_leases c.drop_lease.new.self.leases.leases.items in
    let P : Known → Type 0 = λ q. new ≡ at now c.loop-index.index (first_hold (q.sessions c.loop-index.index) c.args.reading (now c.loop-index.index)) in
    let is = subst P c.loop-index.invariant.1 c.drop_lease.ensures.leases in (
      c.drop_lease.ensures.setting ∙ c.loop-index.invariant.0,
      c.drop_lease.ensures.known ∙ c.loop-index.invariant.1,
      c.drop_lease.ensures.space ∙ c.loop-index.invariant.2,
      images-dropped-next k c.args.reading leases now new c.loop-index.index c.loop-index.invariant.3 is,
    )

pub returns-clause-leases : goal.returns-clause-leases
returns-clause-leases c =
    let h = c.args.self.now in
    let items = h.leases.leases.items in
    images-dropped-all (known_of h) c.args.reading (image_leases items) (image_leases c.loop-index.self.leases.leases.items) c.loop-index.index c.loop-index.invariant.3
    (λ image past.
    let out : length items ≤ image = omega (arith, past, c.loop-index-test.false, h.leases.long, h.leases.leases.ok.0) in
    ap image_hold (get_or_past items image None out))
