-- How a command of an attached image is refused before any work.
use Rattle.std.specs.Prelude.{Result, Ok, Err}
use Rattle.plx_commands.specs.declared.reply.Reply.TheVariants as reply
use Rattle.plx_rules.specs.Ends.{End, ends}
use Rattle.plx_rules.specs.Process.{Process}
use Rattle.plx_rules.specs.Session.{Known}
use Rattle.plx_session.specs.declared.refusal.Refusal.{Refusal}
use Rattle.plx_session.specs.declared.refusal.Refusal.TheVariants as refusal

-- the end of a command that is refused: what is known stays
abbrev pub refused : Known → Refusal → Process End
refused known refusal.NoImage = ends reply.NoImage known
refused known refusal.Exists = ends reply.Exists known
refused known (refusal.OutOfRange size) = ends (reply.OutOfRange size) known
refused known (refusal.WornOut count) = ends (reply.WornOut count) known
refused known refusal.Full = ends reply.Full known

-- what a machine that begins leaves: its rest, or the end with this refusal
abbrev pub begin_process : {M : Type 0} → (Known → M → Process End) → Known → Result M Refusal → Process End
begin_process rest known (Ok machine) = rest known machine
begin_process rest known (Err refusal) = refused known refusal
