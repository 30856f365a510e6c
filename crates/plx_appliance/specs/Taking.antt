-- What is asked of an image whose lease is held.
use Rattle.std.specs.Prelude.{ℕ, Result, Ok, Err}
use Rattle.plx_commands.specs.declared.reply.Reply.{Reply}
use Rattle.plx_rules.specs.Process.{Process}
use Rattle.plx_rules.specs.Ends.{End, ends}
use Rattle.plx_rules.specs.Session.{Known}
use Rattle.plx_session.specs.Ending.{known_after}
use Rattle.plx_session.specs.declared.leased.Leased.{Leased}

-- what is asked by the end of the lease, or the end with the refusal
abbrev pub leased_process : (ℕ → Process End) → Known → Result Leased Reply → Process End
leased_process rest known (Ok image) = rest image.until
leased_process rest known (Err reply) = ends reply (known_after reply known)
