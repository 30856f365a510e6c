use Rattle.std.proofs.Common.{rules, ◌≡◌, List, [], ◌++◌, ℕ, false, ap, arith, length, subst}
use Rattle.plx_text.specs.Readings.{IsRead}
use Rattle.plx_text.specs.Schedules.{NamesFirstBad}
use Rattle.plx_cli.proofs.Told.{played-all, played-more, played-none}
use Rattle.plx_cli.proofs.replay.play.Goals as goal

pub loop-world-init : goal.loop-world-init
loop-world-init c =
    let first = c.in_ok-geometry in
    let P : List ℕ → Type 0 = λ bytes. IsRead bytes (first.geometry, first.appliances) [] c.read_first.new.lines.number c.read_first.new.lines.rest.now in
    record {
      events = [];
      played = played-none (first.geometry, first.appliances) c.in-Ok.world c.in-Ok.ensures;
      read = subst P c.of-lines.ensures.0 first.ensures.ok;
      room = omega (arith, first.ensures.room, ap length c.of-lines.ensures.0);
    }

pub returns-in_err-play_next-clause-bad : goal.returns-in_err-play_next-clause-bad
returns-in_err-play_next-clause-bad c =
    let fact : NamesFirstBad c.args.bytes.now c.in_err-play_next.field-0.0 = c.in_err-play_next.ensures.bad c.args.bytes.now _ _ c.loop-world.invariant.read in
    search (rules, fact)

pub loop-world-preserved : goal.loop-world-preserved
loop-world-preserved c =
    let so_far = c.loop-world.invariant in
    let next = c.in_ok-play_next.ensures.played in
    record {
      events = so_far.events ++ next.events;
      played = played-more _ so_far.events _ _ _ _ _ _ _ so_far.played next;
      read = next.reads c.args.bytes.now _ so_far.events so_far.read;
      room = omega (arith, so_far.room, c.in_ok-play_next.ensures.room);
    }

pub returns-clause-ok : goal.returns-clause-ok
returns-clause-ok c =
    let so_far = c.loop-world.invariant in
    let first = c.in_ok-geometry in
    let over : c.in_ok-play_next.field-0 ≡ false = c.if-branch.false in
    played-all (first.geometry, first.appliances) so_far.events _ _ _ _ _ _ _ so_far.played c.in_ok-play_next.ensures.played c.args.bytes.now c.in-Ok-tell.text
    (search rules) first.ensures.appliances.0 first.ensures.appliances.1 so_far.read over c.in-Ok-tell.ensures
