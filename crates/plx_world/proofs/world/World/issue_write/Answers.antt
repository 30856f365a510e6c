use Rattle.std.proofs.Common.{◌≡◌, ◌∙◌, ◌++◌, ◌∷◌, [], ◌<◌, ◌≤◌, ℕ, List, Some, ap, arith, length, refl, subst, sym}
use Rattle.std.specs.Prelude.{slice_get, slice_set}
use Rattle.std.specs.Vec.{vec_capacity, vec_len}
use Rattle.std.proofs.lemmas.Option.{slice_get_within}
use Rattle.plx_disk.proofs.Lists.{set-twice}
use Rattle.plx_appliance.specs.Appliance.{IsRunning, StandsFor, appliance_setting}
use Rattle.plx_appliance.specs.declared.appliance.Appliance.{Appliance}
use Rattle.plx_rules.specs.Boot.{BootEntry, configuration, writes_out}
use Rattle.plx_rules.specs.Settings.{boot_number}
use Rattle.plx_disk.specs.declared.ask.Ask.TheVariants as ask
use Rattle.plx_world.specs.Seats.{AsksAs}
use Rattle.plx_world.specs.Ties.{AreTied}
use Rattle.plx_world.specs.declared.seat.Seat.{Seat}
use Rattle.plx_world.proofs.Answered.{on-err}
use Rattle.plx_world.proofs.Asking.{whole-logged}
use Rattle.plx_world.proofs.Booting.{seat-stays}
use Rattle.plx_world.proofs.Cancels.{cancels-issued, cancels-stays}
use Rattle.plx_world.proofs.Issuing.{asks-it, issues-write, pends-it}
use Rattle.plx_world.proofs.Seating.{get-after, get-same, many-set, read-same, set-count, tied-kept}
use Rattle.plx_world.proofs.world.World.issue_write.Goals as goal

pub index_mut-requires : goal.index_mut-requires
index_mut-requires c =
    let v = c.args.self.now.seats in
    let within = slice_get_within v.items c.args.appliance.0 c.requires.seat c.requires.there in
    omega (arith, v.ok.0, within)

pub index-seat-requires : goal.index-seat-requires
index-seat-requires c =
    let v = c.args.self.now.seats in
    let within = slice_get_within v.items c.args.appliance.0 c.requires.seat c.requires.there in
    omega (arith, v.ok.0, within)

pub out-requires : goal.out-requires
out-requires c =
    let v = c.args.self.now.seats in
    let n = c.args.appliance.0 in
    let at : slice_get v.items n ≡ Some c.index_mut.result.now = get-same v.items n c.requires.seat c.index_mut.result.now c.requires.there c.index_mut.ensures.value in
    let now : c.index-seat.result.now ≡ c.make_room.new.self = get-after v.items n c.index_mut.result.now c.make_room.new.self c.index-seat.result.now at c.index-seat.ensures in
    let same : c.requires.seat.appliance ≡ c.index-seat.result.now.appliance =
    ap (λ (s : Seat). s.appliance) (read-same v.items n c.requires.seat c.index_mut.result.now c.requires.there at)
    ∙ sym c.make_room.ensures.appliance ∙ ap (λ (s : Seat). s.appliance) (sym now) in
    let P : Appliance → Type 0 = λ x. IsRunning x in
    subst P same c.requires.running

pub issue-requires-clause-whole : goal.issue-requires-clause-whole
issue-requires-clause-whole c =
    let v = c.args.self.now.seats in
    let n = c.args.appliance.0 in
    let at : slice_get v.items n ≡ Some c.index_mut.result.now = get-same v.items n c.requires.seat c.index_mut.result.now c.requires.there c.index_mut.ensures.value in
    let now : c.index-seat.result.now ≡ c.make_room.new.self = get-after v.items n c.index_mut.result.now c.make_room.new.self c.index-seat.result.now at c.index-seat.ensures in
    let same : c.requires.seat.appliance ≡ c.index-seat.result.now.appliance =
    ap (λ (s : Seat). s.appliance) (read-same v.items n c.requires.seat c.index_mut.result.now c.requires.there at)
    ∙ sym c.make_room.ensures.appliance ∙ ap (λ (s : Seat). s.appliance) (sym now) in
    let P : Appliance → Type 0 = λ x. AsksAs x (Some (ask.Write c.args.kind c.args.block c.args.guard)) in
    whole-logged c.index-seat.result.now.appliance c.args.kind c.args.block c.args.guard c.out.result.now c.index-seat.result.now.logged (subst P same c.requires.asked) c.out.ensures.whole

pub issue-requires-clause-within : goal.issue-requires-clause-within
issue-requires-clause-within c =
    let sized = c.args.self.now.sized in
    let within = c.requires.within.0 in
    omega (arith, sized, within)

pub wait_for-requires : goal.wait_for-requires
wait_for-requires c =
    let v = c.args.self.now.seats in
    let n = c.args.appliance.0 in
    let at : slice_get v.items n ≡ Some c.index_mut.result.now = get-same v.items n c.requires.seat c.index_mut.result.now c.requires.there c.index_mut.ensures.value in
    let now : c.index_mut-2.result.now ≡ c.make_room.new.self = get-after v.items n c.index_mut.result.now c.make_room.new.self c.index_mut-2.result.now at c.index_mut-2.ensures.value in
    let P : Seat → Type 0 = λ s. vec_len s.issued < vec_capacity s.issued in
    subst P (sym now) c.in_ok-make_room.ensures.room

pub index_mut-requires-2 : goal.index_mut-requires-2
index_mut-requires-2 c =
    let v = c.args.self.now.seats in
    let within = slice_get_within v.items c.args.appliance.0 c.requires.seat c.requires.there in
    omega (arith, v.ok.0, within)

pub returns-in_err-make_room-clause-err : goal.returns-in_err-make_room-clause-err
returns-in_err-make_room-clause-err c =
    let old = c.args.self.now in
    let v = old.seats in
    let n = c.args.appliance.0 in
    let at : slice_get v.items n ≡ Some c.index_mut.result.now = get-same v.items n c.requires.seat c.index_mut.result.now c.requires.there c.index_mut.ensures.value in
    let left = c.make_room.ensures in
    let A : Appliance → Type 0 = λ a. (log : List BootEntry) → StandsFor a log → StandsFor c.make_room.new.self.appliance log in
    on-err _ _
    (seat-stays old _ n c.index_mut.result.now c.make_room.new.self at (record { geometry = refl; disk = λ s stands. stands; seats = refl; count = set-count v.items n c.make_room.new.self })
    (record { setting = ap (λ (a : Appliance). a.holdings.setting) left.appliance; boots = left.boots; issued = left.issued })
    left.pending refl (subst A left.appliance (λ log stands. stands)))

pub invariant_of-self : goal.invariant_of-self
invariant_of-self c =
    let old = c.args.self.now in
    let v = old.seats in
    let n = c.args.appliance.0 in
    let at : slice_get v.items n ≡ Some c.index_mut.result.now = get-same v.items n c.requires.seat c.index_mut.result.now c.requires.there c.index_mut.ensures.value in
    record {
      many = many-set v.items n c.make_room.new.self old.many;
      sized = old.sized;
      uncancelled = old.uncancelled;
      tied = tied-kept old.geometry v.items n c.index_mut.result.now c.make_room.new.self at old.tied (ap (λ (a : Appliance). a.holdings.setting) c.make_room.ensures.appliance);
    }

pub invariant_of-self-in-Break-branch-2 : goal.invariant_of-self-in-Break-branch-2
invariant_of-self-in-Break-branch-2 c =
    let old = c.args.self.now in
    let v = old.seats in
    let n = c.args.appliance.0 in
    let at : slice_get v.items n ≡ Some c.index_mut.result.now = get-same v.items n c.requires.seat c.index_mut.result.now c.requires.there c.index_mut.ensures.value in
    record {
      many = many-set v.items n c.make_room.new.self old.many;
      sized = c.issue.ensures.blocks ∙ old.sized;
      uncancelled = cancels-stays old.disk c.issue.new.self c.in_err-number.ensures.err old.uncancelled;
      tied = tied-kept old.geometry v.items n c.index_mut.result.now c.make_room.new.self at old.tied (ap (λ (a : Appliance). a.holdings.setting) c.make_room.ensures.appliance);
    }

pub returns-in_err-number-clause-err : goal.returns-in_err-number-clause-err
returns-in_err-number-clause-err c =
    let old = c.args.self.now in
    let v = old.seats in
    let n = c.args.appliance.0 in
    let at : slice_get v.items n ≡ Some c.index_mut.result.now = get-same v.items n c.requires.seat c.index_mut.result.now c.requires.there c.index_mut.ensures.value in
    let left = c.make_room.ensures in
    let A : Appliance → Type 0 = λ a. (log : List BootEntry) → StandsFor a log → StandsFor c.make_room.new.self.appliance log in
    on-err _ _
    (seat-stays old _ n c.index_mut.result.now c.make_room.new.self at (record { geometry = refl; disk = c.in_err-number.ensures.err; seats = refl; count = set-count v.items n c.make_room.new.self })
    (record { setting = ap (λ (a : Appliance). a.holdings.setting) left.appliance; boots = left.boots; issued = left.issued })
    left.pending refl (subst A left.appliance (λ log stands. stands)))

pub invariant_of-self-2 : goal.invariant_of-self-2
invariant_of-self-2 c =
    let old = c.args.self.now in
    let v = old.seats in
    let n = c.args.appliance.0 in
    let at : slice_get v.items n ≡ Some c.index_mut.result.now = get-same v.items n c.requires.seat c.index_mut.result.now c.requires.there c.index_mut.ensures.value in
    let now : c.index_mut-2.result.now ≡ c.make_room.new.self = get-after v.items n c.index_mut.result.now c.make_room.new.self c.index_mut-2.result.now at c.index_mut-2.ensures.value in
    let same : c.wait_for.new.self.appliance ≡ c.index_mut.result.now.appliance =
    c.wait_for.ensures.appliance ∙ ap (λ (s : Seat). s.appliance) now ∙ c.make_room.ensures.appliance in
    let twice = set-twice v.items n c.make_room.new.self c.wait_for.new.self in
    let M : List Seat → Type 0 = λ xs. length xs ≤ 8 in
    let T : List Seat → Type 0 = λ xs. AreTied old.geometry xs in
    record {
      many = subst M (sym twice) (many-set v.items n c.wait_for.new.self old.many);
      sized = c.issue.ensures.blocks ∙ old.sized;
      uncancelled = cancels-issued old.disk c.issue.new.self c.boot_of-owner.result.0 c.args.kind c.args.block.0 c.out.result.now c.args.guard c.in_ok-number.ensures.ok old.uncancelled;
      tied = subst T (sym twice) (tied-kept old.geometry v.items n c.index_mut.result.now c.wait_for.new.self at old.tied (ap (λ (a : Appliance). a.holdings.setting) same));
    }

pub returns-clause-ok : goal.returns-clause-ok
returns-clause-ok c =
    let old = c.args.self.now in
    let v = old.seats in
    let a = c.args.appliance in
    let n = a.0 in
    let before = c.index_mut.result.now in
    let mid = c.make_room.new.self in
    let after = c.wait_for.new.self in
    let at : slice_get v.items n ≡ Some before = get-same v.items n c.requires.seat before c.requires.there c.index_mut.ensures.value in
    let first : c.requires.seat ≡ before = read-same v.items n c.requires.seat before c.requires.there at in
    let read : c.index-seat.result.now ≡ mid = get-after v.items n before mid c.index-seat.result.now at c.index-seat.ensures in
    let now : c.index_mut-2.result.now ≡ mid = get-after v.items n before mid c.index_mut-2.result.now at c.index_mut-2.ensures.value in
    let room = c.make_room.ensures in
    let waits = c.wait_for.ensures in
    let number = c.in_ok-number.number in
    let R : Seat → Type 0 = λ s. AsksAs s.appliance (Some (ask.Write c.args.kind c.args.block c.args.guard)) in
    let O : Appliance → Type 0 = λ x. (log : List BootEntry) → StandsFor x log → c.out.result.now ≡ writes_out (configuration (appliance_setting x) log).place in
    let reads : c.index-seat.result.now.appliance ≡ before.appliance = ap (λ (s : Seat). s.appliance) read ∙ room.appliance in
    issues-write old _ a c.args.kind c.args.block c.args.guard c.boot_of-owner.result.0 number c.out.result.now before after at old.many
    (record {
      geometry = refl;
      seats = set-twice v.items n mid after;
      count = set-count (slice_set v.items n mid) n after ∙ set-count v.items n mid;
      trace = refl;
      appliance = waits.appliance ∙ ap (λ (s : Seat). s.appliance) now ∙ room.appliance;
      boots = waits.boots ∙ ap (λ (s : Seat). s.boots) now ∙ room.boots;
      pending = waits.pending;
      issued = waits.issued ∙ ap (λ (s : Seat). s.issued.items ++ number ∷ []) now ∙ ap (λ (xs : List ℕ). xs ++ number ∷ []) room.issued;
    })
    (asks-it old a before (Some (ask.Write c.args.kind c.args.block c.args.guard)) at (subst R first c.requires.asked))
    (pends-it old a before _ at (ap (λ (s : Seat). s.pending) (sym first) ∙ c.requires.unissued))
    (c.boot_of-owner.ensures ∙ ap (λ (s : Seat). boot_number n s.boots) read ∙ ap (boot_number n) room.boots)
    (subst O reads c.out.ensures.bytes)
    c.in_ok-number.ensures.number c.in_ok-number.ensures.ok
