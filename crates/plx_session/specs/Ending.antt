-- How a command's machine ends.
pub use Rattle.plx_rules.specs.Session.{known_after}
use Rattle.std.specs.Prelude.{Option, Some, None}
use Rattle.std.specs.Prelude.{Result, Ok, Err}
use Rattle.plx_commands.specs.declared.reply.Reply.{Reply}
use Rattle.plx_rules.specs.Process.{Process}
use Rattle.plx_rules.specs.Ends.{End, ends}
use Rattle.plx_rules.specs.Session.{Known}

-- what a machine leaves: its rest, or the end with this reply
abbrev pub process_after : Process End → Known → Option Reply → Process End
process_after process known None = process
process_after process known (Some reply) = ends reply (known_after reply known)

-- what a machine that is entered leaves: its rest, or the end with this refusal
abbrev pub enter_process : {M : Type 0} → (Known → M → Process End) → Known → Result M Reply → Process End
enter_process rest known (Ok machine) = rest known machine
enter_process rest known (Err reply) = ends reply (known_after reply known)
