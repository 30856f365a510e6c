use Rattle.std.proofs.Common.{◌≡◌, ◌∙◌, List, true, false, inl, inr, arith, subst, sym}
use Rattle.std.proofs.lemmas.Bool.Decides.{leb_tells}
use Rattle.plx_commands.specs.declared.event.Event.{Event}
use Rattle.plx_world.specs.Playing.{PlaysAll}
use Rattle.plx_cli.proofs.replay.play_next.Goals as goal

pub returns-clause-played : goal.returns-clause-played
returns-clause-played c =
    let read = c.in_ok-events in
    let P : List Event → Type 0 = λ es. PlaysAll c.args.world.now c.play.new.self es in
    record {
      events = read.events.items;
      plays = subst P c.as_slice.ensures.value c.in-Ok.ensures.ok;
      reads = read.ensures.read;
      ends = λ over. read.ensures.end (elim (leb_tells 4096 c.len.result) [
        | inl full ↦ absurd (let both : true ≡ false = sym full.0 ∙ over in let P : ⊥ = cc in P)
        | inr under ↦ (let few = under.1 in omega (arith, few, read.events.ok.0))
      ]);
    }
