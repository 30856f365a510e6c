use Rattle.std.proofs.Common.{◌≡◌, ◌∙◌, ◌++◌, List, Some, ap, arith, refl, subst}
use Rattle.std.specs.Prelude.{slice_get}
use Rattle.std.proofs.lemmas.Option.{slice_get_within}
use Rattle.plx_appliance.specs.Appliance.{IsRunning}
use Rattle.plx_commands.specs.declared.entry.Entry.{Entry}
use Rattle.plx_world.specs.Answering.{told_entries}
use Rattle.plx_world.specs.declared.seat.Seat.{Seat}
use Rattle.plx_world.proofs.Answered.{answers, entries-stay, on-err}
use Rattle.plx_world.proofs.Seating.{get-same, many-set, read-same, set-count, tied-kept}
use Rattle.plx_world.proofs.world.World.answer.Goals as goal

pub returns-clause-ok : goal.returns-clause-ok
returns-clause-ok c =
    let old = c.args.self.now in
    let v = old.seats in
    let a = c.args.appliance in
    let at : slice_get v.items a.0 ≡ Some c.index_mut.result.now = get-same v.items a.0 c.requires.seat c.index_mut.result.now c.requires.there c.index_mut.ensures.value in
    answers old _ a c.args.answer.now c.index_mut.result.now c.answer-reply.new.self c.answer-reply.result at
    (record {
      geometry = refl;
      disk = refl;
      seats = refl;
      count = set-count v.items a.0 c.answer-reply.new.self;
      pending = c.answer-reply.ensures.pending;
      kept = c.answer-reply.ensures.kept;
    })
    (c.tell.ensures ∙ ap (λ (xs : List Entry). xs ++ told_entries a c.answer-reply.result) c.in_ok-reserve.ensures.items)
    c.answer-reply.ensures.taken

pub returns-in_err-reserve-clause-err : goal.returns-in_err-reserve-clause-err
returns-in_err-reserve-clause-err c = on-err _ _ (entries-stay c.args.self.now _ refl refl refl c.in_err-reserve.ensures.items)

pub index_mut-requires : goal.index_mut-requires
index_mut-requires c =
    let v = c.args.self.now.seats in
    let within = slice_get_within v.items c.args.appliance.0 c.requires.seat c.requires.there in
    omega (arith, v.ok.0, within)

pub answer-reply-requires : goal.answer-reply-requires
answer-reply-requires c =
    let v = c.args.self.now.seats in
    let n = c.args.appliance.0 in
    let seat = c.requires.seat in
    let now = c.index_mut.result.now in
    let at : slice_get v.items n ≡ Some now = get-same v.items n seat now c.requires.there c.index_mut.ensures.value in
    let same : seat ≡ now = read-same v.items n seat now c.requires.there at in
    subst (λ (s : Seat). IsRunning s.appliance) same c.requires.running

pub invariant_of-self-2 : goal.invariant_of-self-2
invariant_of-self-2 c =
    let old = c.args.self.now in
    let v = old.seats in
    let n = c.args.appliance.0 in
    let new = c.answer-reply.new.self in
    let at : slice_get v.items n ≡ Some c.index_mut.result.now = get-same v.items n c.requires.seat c.index_mut.result.now c.requires.there c.index_mut.ensures.value in
    record {
      many = many-set v.items n new old.many;
      sized = old.sized;
      tied = tied-kept old.geometry v.items n c.index_mut.result.now new at old.tied c.answer-reply.ensures.kept.setting;
      uncancelled = old.uncancelled;
    }

pub invariant_of-self : goal.invariant_of-self
invariant_of-self c =
    let old = c.args.self.now in
    record { many = old.many; sized = old.sized; tied = old.tied; uncancelled = old.uncancelled }
