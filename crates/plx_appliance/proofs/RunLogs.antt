-- The log of an appliance is a run, which keeps the rules and shows the sessions.
use Rattle.std.proofs.Common.{◌≡◌, ◌<◌, ◌^◌, ℕ, List, [], ◌∷◌, Option, Some, false, ap, subst, sym, ◌∙◌}
use Rattle.std.specs.Prelude.{is_some}
use Rattle.law_run.proofs.Begun.{configurations-agree, runs-keep-rules}
use Rattle.law_run.specs.Configurations.{known_at}
use Rattle.law_run.specs.Rules.{IsSetting}
use Rattle.plx_commands.specs.declared.command.Command.{Command}
use Rattle.plx_disk.specs.declared.ask.Ask.{Ask}
use Rattle.plx_disk.specs.declared.ask.Ask.TheVariants as ask
use Rattle.plx_disk.specs.declared.ask.Answer.{Answer}
use Rattle.plx_disk.specs.declared.ask.Answer.TheVariants as answer
use Rattle.plx_rules.specs.Boot as boot
use Rattle.plx_rules.specs.Boot.{Asked, Began, Fits, BootEntry, Idle, IsRun, Place, Configuration, asks, place_after_begin, configuration, writes_out}
use Rattle.plx_rules.specs.Commands.{IsBuilt, IsWellFormed, command_process}
use Rattle.plx_rules.specs.Holds.{Hold}
use Rattle.plx_rules.specs.Session.{Known, Session}
use Rattle.plx_rules.specs.Settings.{Setting as Given}
use Rattle.plx_appliance.specs.Appliance.{AppliancesKeepRules, HasBegun, StandsAt, StandsFor, appliance_setting, runs, shows_session}
use Rattle.plx_appliance.specs.Begins.{waiting_process}
use Rattle.plx_session.specs.Giving.{rules_setting}
use Rattle.plx_appliance.specs.Kept.{known_of}
use Rattle.plx_appliance.specs.Lent.{Lent, lent_of}
use Rattle.plx_appliance.specs.declared.appliance.Appliance.{Appliance}
use Rattle.plx_appliance.specs.declared.appliance.Stage.{Stage}
use Rattle.plx_appliance.specs.declared.appliance.Stage.TheVariants as stage
use Rattle.plx_appliance.specs.declared.begun.Begun.{Begun}
use Rattle.plx_session.specs.declared.setting.Setting.{Setting}

-- a command begins
place-idle : (s : Given) (lent : Lent) (st : Stage) (p : Configuration) → runs st ≡ false → StandsAt s lent st p → p.place ≡ Idle lent.known
place-idle s lent stage.Idle p idle at = at
place-idle s lent (stage.Begun b) p idle at = absurd cc
place-idle s lent (stage.In w) p idle at = absurd cc

pub run-begins : (a : Appliance) (log : List BootEntry) (command : Command) → runs a.stage ≡ false → StandsFor a log → IsWellFormed command → IsBuilt command →
    IsRun (appliance_setting a) (Began command ∷ log)
run-begins a log command idle stands formed built =
    boot.begins (known_of a.holdings) stands.run (place-idle (appliance_setting a) (lent_of a.holdings) a.stage _ idle stands.at) formed built

pub has-begun : (a : Appliance) (log : List BootEntry) (command : Command) (b : Begun) → runs a.stage ≡ false → StandsFor a log →
    ((s : Given) (known : Known) (holds : ℕ → Hold) (hand : List ℕ) (reading : ℕ) → waiting_process s known holds hand reading b ≡ command_process s known holds hand reading command) →
    HasBegun (appliance_setting a) (known_of a.holdings) b (configuration (appliance_setting a) (Began command ∷ log))
has-begun a log command b idle stands process = record {
  command = command;
  place_is = ap (place_after_begin command) (place-idle (appliance_setting a) (lent_of a.holdings) a.stage _ idle stands.at);
  process_is = process (appliance_setting a) (known_of a.holdings);
}

-- an ask is answered, and what the boot was given stays
pub run-goes-on : (old new : Setting) (log : List BootEntry) (q : Ask) (bytes : List ℕ) (found : Answer) → new ≡ old → IsRun (rules_setting old) log →
    asks (configuration (rules_setting old) log).place ≡ Some q → writes_out (configuration (rules_setting old) log).place ≡ bytes → Fits q found →
    IsRun (rules_setting new) (Asked q bytes found ∷ log)
run-goes-on old new log q bytes found same run asked writes fits =
    subst (λ (given : Setting). IsRun (rules_setting given) (Asked q bytes found ∷ log)) (sym same) (boot.goes_on run asked writes fits)

-- a command has its first reading
pub run-first : (a : Appliance) (b : Begun) (new : Setting) (log : List BootEntry) (reading : ℕ) → new ≡ a.holdings.setting → a.stage ≡ stage.Begun b → StandsFor a log → reading < 2 ^ 48 →
    IsRun (rules_setting new) (Asked ask.Clock [] (answer.Reading reading) ∷ log)
run-first a b new log reading same is stands below =
    let h : HasBegun (appliance_setting a) (known_of a.holdings) b (configuration (appliance_setting a) log) =
    subst (λ (st : Stage). StandsAt (appliance_setting a) (lent_of a.holdings) st (configuration (appliance_setting a) log)) is stands.at in
    run-goes-on a.holdings.setting new log ask.Clock [] (answer.Reading reading) same stands.run (ap asks h.place_is) (ap writes_out h.place_is) below

-- what a boot is given is within the limits
pub setting-within : (a : Appliance) → IsSetting (appliance_setting a)
setting-within a = let given = a.holdings.setting in record { geometry = given.limits; boot = given.numbered }

-- so the log keeps the rules
pub appliances-keep-rules : AppliancesKeepRules
appliances-keep-rules a log stands = runs-keep-rules (appliance_setting a) log (setting-within a) stands.run

-- the sessions are those that were known as the last command began
known-sessions : (s : Given) (lent : Lent) (st : Stage) (p : Configuration) → StandsAt s lent st p → (known_at p.place).sessions ≡ lent.known.sessions
known-sessions s lent stage.Idle p at = ap (λ (place : Place). (known_at place).sessions) at
known-sessions s lent (stage.Begun b) p at = ap (λ (place : Place). (known_at place).sessions) at.place_is
known-sessions s lent (stage.In w) p at = ap (λ (place : Place). (known_at place).sessions) at.place_is ∙ at.sessions

-- and those that the log shows
pub session-shown : (a : Appliance) (log : List BootEntry) (image : ℕ) → StandsFor a log → is_some ((known_of a.holdings).sessions image) ≡ shows_session a log image
session-shown a log image stands =
    let same = known-sessions (appliance_setting a) (lent_of a.holdings) a.stage (configuration (appliance_setting a) log) stands.at in
    ap (λ (f : ℕ → Option Session). is_some (f image)) (sym same)
    ∙ (configurations-agree (appliance_setting a) log (setting-within a) stands.run).attached image
