use Rattle.std.proofs.Common.{◌≡◌, ◌∙◌, ◌+◌, ◌++◌, ◌∷◌, ◌^◌, ◌<◌, [], List, Some, ap, arith, length, refl, subst}
use Rattle.std.specs.Prelude.{slice_get}
use Rattle.std.proofs.lemmas.Option.{slice_get_read}
use Rattle.plx_commands.specs.declared.entry.Entry.{Entry}
use Rattle.plx_commands.specs.declared.entry.Entry.TheVariants as entry
use Rattle.plx_world.specs.declared.seat.Seat.{Seat}
use Rattle.plx_world.proofs.Answered.{entries-stay, on-err}
use Rattle.plx_world.proofs.Booting.{crashes-none, crashes-now, same-stays}
use Rattle.plx_world.proofs.Seating.{many-set, read-same, set-count, tied-set}
use Rattle.plx_world.proofs.world.World.crash.Goals as goal

pub returns-then-index-clause-ok : goal.returns-then-index-clause-ok
returns-then-index-clause-ok c =
    let v = c.args.self.now.seats in
    let n = c.args.appliance.0 in
    let at : slice_get v.items n ≡ Some c.index.result.now = slice_get_read v.items c.len.result n c.index.result.now (omega (arith, v.ok.0)) (omega arith) c.index.ensures in
    crashes-none c.args.self.now c.args.appliance c.index.result.now at (λ few. absurd (omega arith))

pub invariant_of-self-in-Break-branch-2 : goal.invariant_of-self-in-Break-branch-2
invariant_of-self-in-Break-branch-2 c =
    let old = c.args.self.now in
    let v = old.seats in
    let n = c.args.appliance.0 in
    let at : slice_get v.items n ≡ Some c.index_mut.result.now = slice_get_read v.items c.len.result n c.index_mut.result.now (omega (arith, v.ok.0)) (omega arith) c.index_mut.ensures.value in
    record {
      many = many-set v.items n c.restart.new.self old.many;
      sized = old.sized;
      uncancelled = old.uncancelled;
      tied = tied-set old.geometry v.items n c.index_mut.result.now c.restart.new.self at old.tied
          (ap (λ (s : Seat). s.appliance.holdings.setting.geometry) c.in_err-restart.ensures.err ∙ old.tied n c.index_mut.result.now at);
    }

pub invariant_of-self-2 : goal.invariant_of-self-2
invariant_of-self-2 c =
    let old = c.args.self.now in
    let v = old.seats in
    let n = c.args.appliance.0 in
    let at : slice_get v.items n ≡ Some c.index_mut.result.now = slice_get_read v.items c.len.result n c.index_mut.result.now (omega (arith, v.ok.0)) (omega arith) c.index_mut.ensures.value in
    record {
      many = many-set v.items n c.restart.new.self old.many;
      sized = old.sized;
      uncancelled = old.uncancelled;
      tied = tied-set old.geometry v.items n c.index_mut.result.now c.restart.new.self at old.tied
          c.in_ok-restart.ensures.fresh.layout;
    }

pub returns-in_err-restart-clause-err : goal.returns-in_err-restart-clause-err
returns-in_err-restart-clause-err c =
    let old = c.args.self.now in
    let v = old.seats in
    let n = c.args.appliance.0 in
    let at : slice_get v.items n ≡ Some c.index_mut.result.now = slice_get_read v.items c.len.result n c.index_mut.result.now (omega (arith, v.ok.0)) (omega arith) c.index_mut.ensures.value in
    on-err _ _
    (same-stays old _ n c.index_mut.result.now c.restart.new.self at (record { geometry = refl; disk = λ s stands. stands; seats = refl; count = set-count v.items n c.restart.new.self })
    c.in_err-restart.ensures.err c.in_ok-reserve.ensures.items)

pub returns-clause-ok : goal.returns-clause-ok
returns-clause-ok c =
    let old = c.args.self.now in
    let v = old.seats in
    let n = c.args.appliance.0 in
    let at : slice_get v.items n ≡ Some c.index_mut.result.now = slice_get_read v.items c.len.result n c.index_mut.result.now (omega (arith, v.ok.0)) (omega arith) c.index_mut.ensures.value in
    let at-first : slice_get v.items n ≡ Some c.index.result.now = slice_get_read v.items c.len.result n c.index.result.now (omega (arith, v.ok.0)) (omega arith) c.index.ensures in
    let same : c.index.result.now ≡ c.index_mut.result.now = read-same v.items n c.index.result.now c.index_mut.result.now at-first at in
    let below : n < length v.items = omega (arith, v.ok.0) in
    let L : Seat → Type 0 = λ s. s.boots + 1 < 2 ^ 32 in
    let restarted = c.in_ok-restart.ensures in
    crashes-now old _ c.args.appliance c.index_mut.result.now c.restart.new.self at below (subst L same (omega arith))
    (record { geometry = refl; disk = refl; seats = refl; count = set-count v.items n c.restart.new.self })
    restarted.fresh restarted.boots restarted.pending restarted.issued
    (c.add.ensures ∙ ap (λ (xs : List Entry). xs ++ entry.Crash c.args.appliance ∷ []) c.in_ok-reserve.ensures.items)

pub returns-in_err-reserve-clause-err : goal.returns-in_err-reserve-clause-err
returns-in_err-reserve-clause-err c = on-err _ _ (entries-stay c.args.self.now _ refl refl refl c.in_err-reserve.ensures.items)
