-- What an appliance asks, whatever log led to where it stands.
use Rattle.std.proofs.Common.{◌≡◌, ℕ, List, ◌∷◌, length, Option, Some, refl, sym, subst, ◌⊎◌, inl, inr}
use Rattle.std.proofs.Math.Logic.{∥∥₁_elim, ∥∥₁_map, ∥∥₁_prop}
use Rattle.std.proofs.Props.{props}
use Rattle.plx_appliance.specs.Appliance.{IsStanding, StandsFor, appliance_setting}
use Rattle.plx_appliance.specs.declared.appliance.Appliance.{Appliance}
use Rattle.plx_alloc.specs.Asking.{IsOnDevice}
use Rattle.plx_base.specs.declared.numbers.BlockNo.{BlockNo}
use Rattle.plx_base.specs.declared.write_kind.WriteKind.{WriteKind}
use Rattle.plx_commands.specs.declared.command.Command.{Command}
use Rattle.plx_disk.specs.declared.ask.Answer.{Answer}
use Rattle.plx_disk.specs.declared.ask.Ask.{Ask}
use Rattle.plx_disk.specs.declared.ask.Ask.TheVariants as ask
use Rattle.plx_geom.specs.Geometry.{Geometry}
use Rattle.plx_rules.specs.Boot.{Asked, Began, Fits, BootEntry, asks, configuration, writes_out}
use Rattle.plx_rules.specs.Machines.{AreWhole}
use Rattle.plx_world.specs.Logs.{HasLog}
use Rattle.plx_world.specs.Seats.{AsksAs}
use Rattle.plx_world.proofs.Deciding.{fits-or}

-- that an ask is on the device has one proof at most
on-device-prop : (g : Geometry) (a : Ask) → IsProp (IsOnDevice g a)
on-device-prop g (ask.Read block) = search props
on-device-prop g (ask.Write kind block guard) = Prim.hlevel props
on-device-prop g ask.Clock = search props
on-device-prop g (ask.Until from) = search props

-- what is asked is on the device, as some log led to it
pub within-logged : (a : Appliance) (g : Geometry) (asked : Ask) → HasLog a → ((log : List BootEntry) → StandsFor a log → IsOnDevice g asked) → IsOnDevice g asked
within-logged a g asked logged within = ∥∥₁_elim logged (on-device-prop g asked) (λ h. within h.0 h.1)

-- an appliance that is answered has come to where it stands by some log
pub answered-logged : (old new : Appliance) (asked : Ask) (given : Answer) → HasLog old →
    ((log : List BootEntry) → StandsFor old log → Some asked ≡ asks (configuration (appliance_setting old) log).place) →
    ((log : List BootEntry) (ask : Ask) (bytes : List ℕ) → StandsFor old log → IsStanding old log ask bytes → Fits ask given → StandsFor new (Asked ask bytes given ∷ log)) →
    ((log : List BootEntry) (ask : Ask) (bytes : List ℕ) → StandsFor old log → IsStanding old log ask bytes → ¬ (Fits ask given) → new ≡ old) → HasLog new
answered-logged old new asked given logged asks-it fit unfit = ∥∥₁_elim logged ∥∥₁_prop (λ h. go h.0 h.1 (fits-or asked given))
  where
    go : (log : List BootEntry) → StandsFor old log → Fits asked given ⊎ ¬ (Fits asked given) → HasLog new
    go log stands (inl fits) =
        ∣ (
          Asked asked (writes_out (configuration (appliance_setting old) log).place) given ∷ log,
          fit log asked (writes_out (configuration (appliance_setting old) log).place) stands (record { ask_is = sym (asks-it log stands); bytes_are = refl }) fits,
        ) ∣₁
    go log stands (inr unfits) =
        let P : Appliance → Type 0 = λ x. HasLog x in
        subst P (sym (unfit log asked (writes_out (configuration (appliance_setting old) log).place) stands (record { ask_is = sym (asks-it log stands); bytes_are = refl }) unfits)) logged

-- one that stands for a longer log, or for the same
pub begun-logged : (old new : Appliance) (command : Command) → HasLog old → ((log : List BootEntry) → StandsFor old log → StandsFor new (Began command ∷ log)) → HasLog new
begun-logged old new command logged begins = ∥∥₁_map logged (λ h. (Began command ∷ h.0, begins h.0 h.1))

pub same-logged : (old new : Appliance) → HasLog old → ((log : List BootEntry) → StandsFor old log → StandsFor new log) → HasLog new
same-logged old new logged stays = ∥∥₁_map logged (λ h. (h.0, stays h.0 h.1))

-- the bytes of a write that is asked fill a block, as some log led to it
pub whole-logged : (a : Appliance) (kind : WriteKind) (block : BlockNo) (guard : ℕ) (bytes : List ℕ) → HasLog a → AsksAs a (Some (ask.Write kind block guard)) →
    ((log : List BootEntry) → StandsFor a log → AreWhole (asks (configuration (appliance_setting a) log).place) bytes) → length bytes ≡ 4096
whole-logged a kind block guard bytes logged asked whole = ∥∥₁_elim logged (search props) (λ h.
    let P : Option Ask → Type 0 = λ x. AreWhole x bytes in
    subst P (sym (asked h.0 h.1)) (whole h.0 h.1))
