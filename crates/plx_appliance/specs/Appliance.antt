-- An appliance, by the log of its boot.
use Rattle.std.specs.Prelude.{◌≡◌, ℕ, List, [], Bool, true, false, Some}
use Rattle.law_run.specs.CommandLogs.{commands}
use Rattle.law_run.specs.Configurations.{finished_of}
use Rattle.law_run.specs.Rules.{KeepsRules}
use Rattle.law_run.specs.Sessions.{is_attached}
use Rattle.plx_commands.specs.declared.command.Command.{Command}
use Rattle.plx_disk.specs.declared.ask.Ask.{Ask}
use Rattle.plx_rules.specs.Boot.{Configuration, Idle, Begins, In, BootEntry, IsRun, asks, configuration, writes_out}
use Rattle.plx_rules.specs.Commands.{command_process}
use Rattle.plx_rules.specs.Holds.{Hold}
use Rattle.plx_rules.specs.Session.{Known}
use Rattle.plx_rules.specs.Settings.{Setting}
use Rattle.plx_appliance.specs.Begins.{waiting_process}
use Rattle.plx_session.specs.Giving.{rules_setting}
use Rattle.plx_appliance.specs.Holding.{HoldsAs}
use Rattle.plx_appliance.specs.Lent.{Lent, lent_of}
use Rattle.plx_appliance.specs.Space.{extents_in, hand_in}
use Rattle.plx_appliance.specs.Works.{Inside, work_rest}
use Rattle.plx_appliance.specs.Tokens.{image_leases}
use Rattle.plx_appliance.specs.declared.appliance.Appliance.{Appliance}
use Rattle.plx_appliance.specs.declared.appliance.Stage.{Stage}
use Rattle.plx_appliance.specs.declared.appliance.Stage.TheVariants as stage
use Rattle.plx_appliance.specs.declared.begun.Begun.{Begun}
use Rattle.plx_appliance.specs.declared.work.Work.{Work}

-- what the boot is given
abbrev pub appliance_setting : Appliance → Setting
appliance_setting a = rules_setting a.holdings.setting

-- a command has begun, and asks what its machine will ask
pub record HasBegun (s : Setting) (known : Known) (begun : Begun) (p : Configuration) : Type 0 where
  pub command : Command
  pub place_is : p.place ≡ Begins known command
  pub process_is : (holds : ℕ → Hold) (hand : List ℕ) (reading : ℕ) → waiting_process s known holds hand reading begun ≡ command_process s known holds hand reading command

-- a command has had its first reading, and its machine stands where its log does; the sessions are
-- those from before it
pub record IsInWork (lent : Lent) (w : Work) (p : Configuration) : Type 0 where
  pub before : Known
  pub command : Command
  pub place_is : p.place ≡ In before command (work_rest lent w)
  pub sessions : before.sessions ≡ lent.known.sessions
  pub inside : Inside w p.holds p.sample p.found

-- a stage stands where the log leads
abbrev pub StandsAt : Setting → Lent → Stage → Configuration → Type 0
StandsAt s lent stage.Idle p = p.place ≡ Idle lent.known
StandsAt s lent (stage.Begun begun) p = HasBegun s lent.known begun p
StandsAt s lent (stage.In w) p = IsInWork lent w p

-- an appliance stands for a run that leads to where it stands, its tokens are what the log holds,
-- and its hand is the one of the log; no command fills a block yet
pub record StandsFor (a : Appliance) (log : List BootEntry) : Type 0 where
  pub run : IsRun (appliance_setting a) log
  pub at : StandsAt (appliance_setting a) (lent_of a.holdings) a.stage (configuration (appliance_setting a) log)
  pub held : HoldsAs a.holdings.setting.geometry (image_leases a.holdings.leases.leases.items) (extents_in a.holdings) (configuration (appliance_setting a) log).holds
  pub hand : (configuration (appliance_setting a) log).hand ≡ hand_in a.holdings
  pub unfilled : (configuration (appliance_setting a) log).filled ≡ []

-- this ask stands where the log leads, and these bytes are to be written
pub record IsStanding (a : Appliance) (log : List BootEntry) (ask : Ask) (bytes : List ℕ) : Type 0 where
  pub ask_is : asks (configuration (appliance_setting a) log).place ≡ Some ask
  pub bytes_are : writes_out (configuration (appliance_setting a) log).place ≡ bytes

-- an appliance is in no command, or in one
abbrev pub runs : Stage → Bool
runs stage.Idle = false
runs (stage.Begun begun) = true
runs (stage.In w) = true

-- its command waits for its first reading
abbrev pub has_begun : Stage → Bool
has_begun (stage.Begun begun) = true
has_begun other = false

-- no command runs
abbrev pub IsIdle : Appliance → Type 0
IsIdle a = runs a.stage ≡ false

-- a command runs
abbrev pub IsRunning : Appliance → Type 0
IsRunning a = runs a.stage ≡ true

-- whether a log shows a session of the image in this slot: it goes by the commands that have their
-- replies
abbrev pub shows_session : Appliance → List BootEntry → (image : ℕ) → Bool
shows_session a log image = is_attached (finished_of (commands (appliance_setting a) log)) image

-- each log that an appliance stands for keeps the rules, whatever its answers were
abbrev pub AppliancesKeepRules : Type 0
AppliancesKeepRules = (a : Appliance) (log : List BootEntry) → StandsFor a log →
    KeepsRules (appliance_setting a) (commands (appliance_setting a) log)
    (asks (configuration (appliance_setting a) log).place)
    (writes_out (configuration (appliance_setting a) log).place)
