-- What the calls of one seat leave.
use Rattle.std.specs.Prelude.{◌≡◌, ◌∷◌, ℕ, List, Option}
use Rattle.plx_appliance.specs.Appliance.{IsStanding, StandsFor, appliance_setting}
use Rattle.plx_appliance.specs.declared.appliance.Appliance.{Appliance}
use Rattle.plx_commands.specs.declared.reply.Reply.{Reply}
use Rattle.plx_disk.specs.declared.ask.Answer.{Answer}
use Rattle.plx_disk.specs.declared.ask.Ask.{Ask}
use Rattle.plx_rules.specs.Boot.{Asked, Fits, BootEntry, asks, configuration, replies}
use Rattle.plx_world.specs.declared.seat.Seat.{Seat}

-- this is what an appliance asks, if anything, whatever log leads to where it stands
abbrev pub AsksAs : Appliance → Option Ask → Type 0
AsksAs appliance asked = (log : List BootEntry) → StandsFor appliance log → asked ≡ asks (configuration (appliance_setting appliance) log).place

-- the boot of an appliance and the writes that it issued are the same
pub record KeepsSeat (old new : Seat) : Type 0 where
  pub setting : new.appliance.holdings.setting ≡ old.appliance.holdings.setting
  pub boots : new.boots ≡ old.boots
  pub issued : new.issued.items ≡ old.issued.items

-- an appliance has taken an answer that fits what it asks, and this is the reply to which that leads, if any
pub record TakesAnswer (old new : Appliance) (answer : Answer) (given : Option Reply) : Type 0 where
  pub log : (log : List BootEntry) (ask : Ask) (bytes : List ℕ) → StandsFor old log → IsStanding old log ask bytes → Fits ask answer → StandsFor new (Asked ask bytes answer ∷ log)
  pub reply : (log : List BootEntry) (ask : Ask) (bytes : List ℕ) → StandsFor old log → IsStanding old log ask bytes → Fits ask answer →
      given ≡ replies (appliance_setting old) answer (configuration (appliance_setting old) log)
