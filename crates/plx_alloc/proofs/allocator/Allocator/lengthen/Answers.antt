use Rattle.std.proofs.Common.{◌≡◌, ℕ, None, refl, sym, ap, ◌∙◌, subst}
use Rattle.plx_commands.proofs.Places.{at-same}
use Rattle.plx_commands.specs.Places.{at as with_hold}
use Rattle.plx_lease.specs.Renewing.{longer_hold}
use Rattle.plx_rules.specs.Holds.{Hold, Nothing}
use Rattle.plx_rules.specs.Holds.{Held as HeldBy}
use Rattle.plx_alloc.specs.Tables.{held_of, extent_hold, extent_leases}
use Rattle.plx_alloc.proofs.Lengthened.{at-twice}
use Rattle.plx_alloc.proofs.Suited.{hold-none}
use Rattle.plx_alloc.proofs.allocator.Allocator.lengthen.Goals as goal

pub put_held-requires-clause-free : goal.put_held-requires-clause-free
put_held-requires-clause-free c =
    let extent = c.args.extent.0 in
    let out = c.take_held.new.self in
    let own : c.renewed.result.lease.0.0 ≡ extent = ap (λ k. k.0.0) c.renewed.ensures.lease ∙ c.args.self.now.own extent c.in-Some.held (sym c.in-Some.ensures.taken) in
    let none : held_of out extent ≡ None =
    hold-none (held_of out extent) (ap (λ (t : ℕ → Hold). t extent) c.take_held.ensures.leases ∙ at-same (extent_leases c.args.self.now) extent Nothing) in
    subst (λ (n : ℕ). held_of out n ≡ None) (sym own) none

pub returns-in-Some-clause-leases : goal.returns-in-Some-clause-leases
returns-in-Some-clause-leases c =
    let old = extent_leases c.args.self.now in
    let extent = c.args.extent.0 in
    let new = HeldBy c.renewed.result.claim c.renewed.result.until in
    let own : c.renewed.result.lease.0.0 ≡ extent = ap (λ k. k.0.0) c.renewed.ensures.lease ∙ c.args.self.now.own extent c.in-Some.held (sym c.in-Some.ensures.taken) in
    let is : new ≡ longer_hold c.args.end (HeldBy c.in-Some.held.claim c.in-Some.held.until) =
    rw (c.renewed.ensures.claim, c.renewed.ensures.until, c.later-until.ensures, c.until.ensures) refl in
    c.put_held.ensures.leases
    ∙ ap (λ (n : ℕ). with_hold (extent_leases c.take_held.new.self) n new) own
    ∙ ap (λ (t : ℕ → Hold). with_hold t extent new) c.take_held.ensures.leases
    ∙ at-twice old extent Nothing new
    ∙ ap (with_hold old extent) (is ∙ ap (longer_hold c.args.end) (ap extent_hold c.in-Some.ensures.taken))
