use Rattle.std.proofs.Common.{◌<◌, List, arith, drop, length, subst, suc, take}
use Rattle.std.proofs.lemmas.List.{take_more}
use Rattle.plx_commands.specs.declared.event.Event.{Event}
use Rattle.plx_world.specs.Playing.{PlaysSome}
use Rattle.plx_world.proofs.Answered.{on-err}
use Rattle.plx_world.proofs.Made.{processes-around}
use Rattle.plx_world.proofs.Sequences.{plays-more, plays-none, plays-some}
use Rattle.plx_world.proofs.world.World.play.Goals as goal

pub loop-event-init : goal.loop-event-init
loop-event-init c = plays-none c.laws.ensures c.args.self.now

pub loop-event-preserved : goal.loop-event-preserved
loop-event-preserved c =
    let events = c.args.events.now in
    let i = c.loop-event.event-index in
    let event = c.event-item.result in
    let within : i < length events = omega arith in
    rw (take_more events i event within, ← c.event-item.is)
    (plays-more c.args.self.now c.loop-event.self c.make.new.self (take i events) event c.in_ok-make.field-0 c.loop-event.invariant c.in_ok-make.ensures.ok)

pub returns-in_err-make-clause-err : goal.returns-in_err-make-clause-err
returns-in_err-make-clause-err c =
    let events = c.args.events.now in
    let i = c.loop-event.event-index in
    let event = c.event-item.result in
    let P : List Event → Type 0 = λ xs. PlaysSome c.args.self.now c.make.new.self xs in
    on-err _ _ (subst P (processes-around events i event (omega arith) c.event-item.is)
    (plays-some c.args.self.now c.loop-event.self c.make.new.self (take i events) (drop (suc i) events) event c.loop-event.invariant c.in_err-make.ensures.err))
