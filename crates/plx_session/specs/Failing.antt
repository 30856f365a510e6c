-- How the work under the lease of an image fails, and what is left once a machine was answered.
use Rattle.std.specs.Prelude.{Option, Some, None, Result, Ok, Err}
use Rattle.plx_commands.specs.declared.reply.Reply.TheVariants as reply
use Rattle.plx_rules.specs.Ends.{End, ends, lost_process, read_failed, write_failed}
use Rattle.plx_rules.specs.Process.{Process}
use Rattle.plx_rules.specs.Session.{Known}
use Rattle.plx_session.specs.Giving.{rules_setting}
use Rattle.plx_session.specs.Leases.{leased_use}
use Rattle.plx_session.specs.declared.failure.Failure.{Failure}
use Rattle.plx_session.specs.declared.failure.Failure.TheVariants as failure
use Rattle.plx_session.specs.declared.leased.Leased.{Leased}

-- what a failure of the work makes of its command
abbrev pub failed : Known → Leased → Failure → Process End
failed known l (failure.ReadFault block) = read_failed block.0 known
failed known l (failure.WriteFault block) = write_failed block.0 known
failed known l (failure.Damaged block) = ends (reply.Damaged block) known
failed known l (failure.Lost reading) = lost_process (rules_setting l.setting) known (leased_use l) reading

-- what is left where the work may have failed
abbrev pub unless_failed : Known → Leased → Process End → Option Failure → Process End
unless_failed known l process None = process
unless_failed known l process (Some failure) = failed known l failure

-- what is left once work came to this, or failed
abbrev pub ended_by : {T : Type 0} → Known → Leased → (T → Process End) → Result T Failure → Process End
ended_by known l done (Ok found) = done found
ended_by known l done (Err failure) = failed known l failure

-- what is left once a machine was answered: its rest, or what comes of its end
abbrev pub left_by : {T : Type 0} → Known → Leased → (rest : Process End) → (T → Process End) → Option (Result T Failure) → Process End
left_by known l rest done None = rest
left_by known l rest done (Some end) = ended_by known l done end
