use Rattle.std.proofs.Common.{List, ap, arith, length, refl, subst, sym}
use Rattle.plx_world.specs.declared.seat.Seat.{Seat}
use Rattle.plx_world.proofs.Starting.{AreNew, more-count, more-new, none-new, stands-over, tied-new}
use Rattle.plx_world.proofs.world.World.over.Goals as goal

pub loop-number-init : goal.loop-number-init
loop-number-init c =
    let P : List Seat → Type 0 = λ xs. AreNew c.args.geometry xs in
    record { count = ap length c.new-seats.ensures.items; fresh = subst P (sym c.new-seats.ensures.items) (none-new c.args.geometry) }

pub loop-number-preserved : goal.loop-number-preserved
loop-number-preserved c =
    let l = c.loop-number in
    let one = c.in_ok-new.field-0 in
    let made = c.in_ok-new.ensures in
    record {
      count = more-count l.seats.items c.push.new.self.items one l.number c.in_ok-push.ensures.items l.invariant.count;
      fresh = more-new c.args.geometry l.seats.items c.push.new.self.items one l.number c.in_ok-push.ensures.items l.invariant.count l.invariant.fresh
          (record { fresh = made.fresh; boots = made.boots; pending = made.pending; issued = made.issued });
    }

pub invariant_of-result : goal.invariant_of-result
invariant_of-result c =
    let l = c.loop-number in
    let few = c.requires.many in
    let count = l.invariant.count in
    record { many = omega arith; sized = c.requires.sized; tied = tied-new c.args.geometry l.seats.items l.invariant.fresh; uncancelled = c.requires.uncancelled }

pub returns : goal.returns
returns c =
    let l = c.loop-number in
    let count = l.invariant.count in
    λ device surface. stands-over c.args.geometry c.args.appliances _ device refl (omega arith) l.invariant.fresh c.new-2.ensures.items surface
