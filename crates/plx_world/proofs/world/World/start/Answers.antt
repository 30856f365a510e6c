use Rattle.std.proofs.Common.{◌≡◌, ◌∙◌, ◌++◌, ◌∷◌, ◌<◌, [], List, Some, ap, arith, false, length, refl, subst, true}
use Rattle.std.specs.Prelude.{slice_get}
use Rattle.std.proofs.lemmas.Option.{slice_get_read}
use Rattle.plx_appliance.specs.Appliance.{IsIdle}
use Rattle.plx_commands.specs.declared.entry.Entry.{Entry}
use Rattle.plx_commands.specs.declared.entry.Entry.TheVariants as entry
use Rattle.plx_world.specs.declared.seat.Seat.{Seat}
use Rattle.plx_world.proofs.Answered.{entries-stay, on-err}
use Rattle.plx_world.proofs.Booting.{seat-stays, starts-busy, starts-command}
use Rattle.plx_world.proofs.Seating.{many-set, read-same, set-count, tied-kept}
use Rattle.plx_world.proofs.world.World.start.Goals as goal

pub returns-then-not-is_idle-clause-ok : goal.returns-then-not-is_idle-clause-ok
returns-then-not-is_idle-clause-ok c =
    let v = c.args.self.now.seats in
    let n = c.args.appliance.0 in
    let at : slice_get v.items n ≡ Some c.index.result.now = slice_get_read v.items c.len.result n c.index.result.now (omega (arith, v.ok.0)) (omega arith) c.index.ensures in
    let busy : c.is_idle.result ≡ false = let no = c.if-not-is_idle.true in cc in
    starts-busy c.args.self.now c.args.appliance c.args.command.now c.index.result.now at (c.is_idle.ensures.running busy)

pub invariant_of-self-in-Break-branch-3 : goal.invariant_of-self-in-Break-branch-3
invariant_of-self-in-Break-branch-3 c =
    let old = c.args.self.now in
    let v = old.seats in
    let n = c.args.appliance.0 in
    let at : slice_get v.items n ≡ Some c.index_mut.result.now = slice_get_read v.items c.len.result n c.index_mut.result.now (omega (arith, v.ok.0)) (omega arith) c.index_mut.ensures.value in
    record {
      many = many-set v.items n c.begin.new.self old.many;
      sized = old.sized;
      uncancelled = old.uncancelled;
      tied = tied-kept old.geometry v.items n c.index_mut.result.now c.begin.new.self at old.tied c.begin.ensures.kept.setting;
    }

pub invariant_of-self-2 : goal.invariant_of-self-2
invariant_of-self-2 c =
    let old = c.args.self.now in
    let v = old.seats in
    let n = c.args.appliance.0 in
    let at : slice_get v.items n ≡ Some c.index_mut.result.now = slice_get_read v.items c.len.result n c.index_mut.result.now (omega (arith, v.ok.0)) (omega arith) c.index_mut.ensures.value in
    record {
      many = many-set v.items n c.begin.new.self old.many;
      sized = old.sized;
      uncancelled = old.uncancelled;
      tied = tied-kept old.geometry v.items n c.index_mut.result.now c.begin.new.self at old.tied c.begin.ensures.kept.setting;
    }

pub returns-in_err-begin-clause-err : goal.returns-in_err-begin-clause-err
returns-in_err-begin-clause-err c =
    let old = c.args.self.now in
    let v = old.seats in
    let n = c.args.appliance.0 in
    let at : slice_get v.items n ≡ Some c.index_mut.result.now = slice_get_read v.items c.len.result n c.index_mut.result.now (omega (arith, v.ok.0)) (omega arith) c.index_mut.ensures.value in
    on-err _ _
    (seat-stays old _ n c.index_mut.result.now c.begin.new.self at (record { geometry = refl; disk = λ s stands. stands; seats = refl; count = set-count v.items n c.begin.new.self })
    c.begin.ensures.kept c.in_err-begin.ensures.waits c.in_ok-reserve.ensures.items c.in_err-begin.ensures.err)

pub returns-clause-ok : goal.returns-clause-ok
returns-clause-ok c =
    let old = c.args.self.now in
    let v = old.seats in
    let n = c.args.appliance.0 in
    let at : slice_get v.items n ≡ Some c.index_mut.result.now = slice_get_read v.items c.len.result n c.index_mut.result.now (omega (arith, v.ok.0)) (omega arith) c.index_mut.ensures.value in
    let at-first : slice_get v.items n ≡ Some c.index.result.now = slice_get_read v.items c.len.result n c.index.result.now (omega (arith, v.ok.0)) (omega arith) c.index.ensures in
    let below : n < length v.items = omega (arith, v.ok.0) in
    let idle : c.is_idle.result ≡ true = let no = c.if-not-is_idle.false in cc in
    let built : c.is_built.result ≡ true = let no = c.if-not-is_built.false in cc in
    let P : Seat → Type 0 = λ s. IsIdle s.appliance in
    starts-command old _ c.args.appliance c.args.command.now c.in_ok-told.told c.index_mut.result.now c.begin.new.self at below
    c.in_ok-told.ensures
    (subst P (read-same v.items n c.index.result.now c.index_mut.result.now at-first at) (c.is_idle.ensures.idle idle))
    (c.is_built.ensures.built built) (c.is_built.ensures.formed built)
    (record { geometry = refl; disk = refl; seats = refl; count = set-count v.items n c.begin.new.self })
    c.begin.ensures.kept c.in_ok-begin.ensures.pending
    (c.add.ensures ∙ ap (λ (xs : List Entry). xs ++ entry.Start c.args.appliance c.in_ok-told.told ∷ []) c.in_ok-reserve.ensures.items)
    c.in_ok-begin.ensures.ok

pub returns-in_err-reserve-clause-err : goal.returns-in_err-reserve-clause-err
returns-in_err-reserve-clause-err c = on-err _ _ (entries-stay c.args.self.now _ refl refl refl c.in_err-reserve.ensures.items)

pub returns-in_err-told-clause-err : goal.returns-in_err-told-clause-err
returns-in_err-told-clause-err c = on-err _ _ (entries-stay c.args.self.now _ refl refl refl c.in_ok-reserve.ensures.items)
