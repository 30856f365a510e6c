-- What a boot holds and has in hand, its sessions and
-- its claims, by its commands and by where it stands.
use Rattle.std.specs.Prelude.{◌≡◌, ℕ, List, is_some}
use Rattle.plx_rules.specs.Boot.{BootEntry, Place, Idle, Begins, In, Configuration, configuration}
use Rattle.plx_rules.specs.Boot.{IsRun}
use Rattle.plx_rules.specs.Holds.{Hold}
use Rattle.plx_rules.specs.Session.{Known}
use Rattle.plx_rules.specs.Settings.{Setting}
use Rattle.law_run.specs.CommandLogs.{Finished, Commands, Between, Within, commands}
use Rattle.law_run.specs.Holdings.{holds_along, holds_after, hand_after, hand_by_log, claims_begun}
use Rattle.law_run.specs.Rules.{IsSetting}
use Rattle.law_run.specs.Sessions.{is_attached}

-- the commands that have their replies
abbrev pub finished_of : Commands → List Finished
finished_of (Between before) = before
finished_of (Within log) = log.before

-- what a boot holds by its commands
abbrev pub holds_by : Setting → Commands → ℕ → Hold
holds_by s (Between before) = holds_after s.geometry before
holds_by s (Within log) =
    holds_along s.geometry (is_attached log.before)
    (holds_after s.geometry log.before) log.exchanges

-- what a boot has in hand by its commands
abbrev pub hand_by : Setting → Commands → List ℕ
hand_by s (Between before) = hand_after s.geometry before
hand_by s (Within log) = hand_by_log s log.before log.exchanges

-- what a boot knew as its last command began
abbrev pub known_at : Place → Known
known_at (Idle known) = known
known_at (Begins known command) = known
known_at (In known command process) = known

-- leases, the hand, sessions and the count of claims by the commands are those by the order of asks
pub record IsByCommands (s : Setting) (p : Configuration) (commands : Commands) : Type 0 where
  pub holds : (block : ℕ) → p.holds block ≡ holds_by s commands block
  pub hand : p.hand ≡ hand_by s commands
  pub attached : (image : ℕ) →
      is_some ((known_at p.place).sessions image) ≡ is_attached (finished_of commands) image
  pub claims : (known_at p.place).claims ≡ claims_begun s.geometry (finished_of commands)

-- of each run: what it holds, what it has in hand,
-- which images have a session, and how many claims it began
abbrev pub ConfigurationsAgree : Type 0
ConfigurationsAgree =
    (s : Setting) (log : List BootEntry) → IsSetting s → IsRun s log →
    IsByCommands s (configuration s log) (commands s log)
