use Rattle.std.proofs.Common.{◌≡◌, Some, ap, arith, false, refl, ◌∙◌, subst, sym, true}
use Rattle.std.specs.Prelude.{is_some, slice_get}
use Rattle.std.proofs.lemmas.Option.{slice_get_read}
use Rattle.plx_alloc.specs.Asking.{IsOnDevice}
use Rattle.plx_disk.specs.declared.ask.Ask.{Ask}
use Rattle.plx_world.proofs.Issuing.{asks-it, issues-absent, issues-before, issues-none, pends-it}
use Rattle.plx_world.proofs.Seating.{within-there}
use Rattle.plx_world.proofs.Stepping.{asks_write, none-pending, some-pending}
use Rattle.plx_world.proofs.world.World.issue.Goals as goal

pub returns-then-index-len-clause-ok : goal.returns-then-index-len-clause-ok
returns-then-index-len-clause-ok c = issues-absent c.args.self.now c.args.appliance (omega (arith, c.args.self.now.seats.ok.0))

pub returns-then-is_some-clause-ok : goal.returns-then-is_some-clause-ok
returns-then-is_some-clause-ok c =
    let old = c.args.self.now in
    let v = old.seats in
    let n = c.args.appliance.0 in
    let seat = c.index-seat.result.now in
    let at : slice_get v.items n ≡ Some seat = slice_get_read v.items c.len.result n seat (omega (arith, v.ok.0)) (omega arith) c.index-seat.ensures in
    let some : is_some seat.pending ≡ true = sym c.is_some.ensures ∙ c.if-is_some.true in
    issues-before old c.args.appliance seat.pending (pends-it old c.args.appliance seat seat.pending at refl) (some-pending seat.pending some)

pub issue_write-requires : goal.issue_write-requires
issue_write-requires c =
    let old = c.args.self.now in
    let v = old.seats in
    let n = c.args.appliance.0 in
    let seat = c.index-seat.result.now in
    let at : slice_get v.items n ≡ Some seat = slice_get_read v.items c.len.result n seat (omega (arith, v.ok.0)) (omega arith) c.index-seat.ensures in
    let none : is_some seat.pending ≡ false = sym c.is_some.ensures ∙ c.if-is_some.false in
    let D : Ask → Type 0 = λ x. IsOnDevice old.geometry x in
    record {
      seat = seat;
      there = at;
      running = c.in-Some-Write.ensures.running;
      unissued = none-pending seat.pending none;
      asked = λ log stands. ap (λ (x : Ask). Some x) (sym c.in-Some-Write.field-0-is) ∙ c.in-Some-Write.ensures.ask log stands;
      within = subst D c.in-Some-Write.field-0-is (within-there old.geometry v.items n seat (Some c.in-Some-Write.field-0) at old.tied c.in-Some-Write.ensures.within);
    }

pub returns-in-Some-Read-clause-ok : goal.returns-in-Some-Read-clause-ok
returns-in-Some-Read-clause-ok c =
    let old = c.args.self.now in
    let v = old.seats in
    let seat = c.index-seat.result.now in
    let at : slice_get v.items c.args.appliance.0 ≡ Some seat = slice_get_read v.items c.len.result c.args.appliance.0 seat (omega (arith, v.ok.0)) (omega arith) c.index-seat.ensures in
    issues-none old c.args.appliance _ (asks-it old c.args.appliance seat c.asked.result at c.asked.ensures.ask) (ap asks_write (c.in-Some-Read.is ∙ ap (λ (x : Ask). Some x) c.in-Some-Read.field-0-is))

pub returns-in-Some-Clock-clause-ok : goal.returns-in-Some-Clock-clause-ok
returns-in-Some-Clock-clause-ok c =
    let old = c.args.self.now in
    let v = old.seats in
    let seat = c.index-seat.result.now in
    let at : slice_get v.items c.args.appliance.0 ≡ Some seat = slice_get_read v.items c.len.result c.args.appliance.0 seat (omega (arith, v.ok.0)) (omega arith) c.index-seat.ensures in
    issues-none old c.args.appliance _ (asks-it old c.args.appliance seat c.asked.result at c.asked.ensures.ask) (ap asks_write (c.in-Some-Clock.is ∙ ap (λ (x : Ask). Some x) c.in-Some-Clock.field-0-is))

pub returns-in-Some-Until-clause-ok : goal.returns-in-Some-Until-clause-ok
returns-in-Some-Until-clause-ok c =
    let old = c.args.self.now in
    let v = old.seats in
    let seat = c.index-seat.result.now in
    let at : slice_get v.items c.args.appliance.0 ≡ Some seat = slice_get_read v.items c.len.result c.args.appliance.0 seat (omega (arith, v.ok.0)) (omega arith) c.index-seat.ensures in
    issues-none old c.args.appliance _ (asks-it old c.args.appliance seat c.asked.result at c.asked.ensures.ask) (ap asks_write (c.in-Some-Until.is ∙ ap (λ (x : Ask). Some x) c.in-Some-Until.field-0-is))

pub returns-in-None-clause-ok : goal.returns-in-None-clause-ok
returns-in-None-clause-ok c =
    let old = c.args.self.now in
    let v = old.seats in
    let seat = c.index-seat.result.now in
    let at : slice_get v.items c.args.appliance.0 ≡ Some seat = slice_get_read v.items c.len.result c.args.appliance.0 seat (omega (arith, v.ok.0)) (omega arith) c.index-seat.ensures in
    issues-none old c.args.appliance _ (asks-it old c.args.appliance seat c.asked.result at c.asked.ensures.ask) (ap asks_write c.in-None.is)
