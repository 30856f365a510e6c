-- How work on space ends.
use Rattle.std.specs.Prelude.{Option, Some, None, Result, Ok, Err}
use Rattle.plx_rules.specs.Ends.{End, ends}
use Rattle.plx_rules.specs.Process.{Process}
use Rattle.plx_rules.specs.Session.{Known, known_after}
use Rattle.plx_alloc.specs.declared.space_end.SpaceEnd.{SpaceEnd}
use Rattle.plx_alloc.specs.declared.space_end.SpaceEnd.TheVariants as end

-- what is asked once it has ended: what follows, or nothing after the refusal
abbrev pub space_end : (follows : Process End) → Known → SpaceEnd → Process End
space_end follows known end.Done = follows
space_end follows known (end.Refused reply) = ends reply (known_after reply known)

-- what is asked once it was answered: its rest, or what is asked once it has ended
abbrev pub after_space : (rest follows : Process End) → Known → Option SpaceEnd → Process End
after_space rest follows known None = rest
after_space rest follows known (Some end) = space_end follows known end

-- what is asked once it was entered: the rest of its machine, or what is asked once it has ended
abbrev pub space_process : {M : Type 0} → (rest : M → Process End) → (follows : Process End) → Known → Result M SpaceEnd → Process End
space_process rest follows known (Ok machine) = rest machine
space_process rest follows known (Err end) = space_end follows known end
