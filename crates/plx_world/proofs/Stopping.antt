-- A run is not stopped by a write where no write is asked for.
use Rattle.std.proofs.Common.{◌≡◌, ℕ, Option, Some, None, false, refl, ap, sym, ◌∙◌}
use Rattle.plx_base.specs.declared.numbers.ApplianceNo.{ApplianceNo}
use Rattle.plx_base.specs.declared.write_kind.WriteKind.{WriteKind}
use Rattle.plx_commands.specs.declared.event.Stop.TheVariants as stop
use Rattle.plx_disk.specs.declared.ask.Ask.{Ask}
use Rattle.plx_geom.specs.Geometry.{Geometry}
use Rattle.plx_rules.specs.Boot.{Place, Idle, Begins, In, asks}
use Rattle.plx_rules.specs.Process.{Ends, ReadThen, WriteThen, ClockThen, UntilThen}
use Rattle.plx_rules.specs.Sequences.{stops_at}
use Rattle.plx_rules.specs.World.{stands}
use Rattle.plx_world.specs.Running.{StopsAs}
use Rattle.plx_world.specs.declared.world.World.{World}
use Rattle.plx_world.proofs.Seating.{if-below}
use Rattle.plx_world.proofs.Stepping.{IsAsk, asks_write}

-- at a place
stops-there : (g : Geometry) (kind : WriteKind) (pending : Option ℕ) (p : Place) → asks_write (asks p) ≡ false → stops_at g (stop.Write kind) pending p ≡ false
stops-there g kind pending (Idle known) none = refl
stops-there g kind pending (Begins known command) none = refl
stops-there g kind pending (In known command (Ends end)) none = refl
stops-there g kind pending (In known command (ReadThen block rest fault)) none = refl
stops-there g kind pending (In known command (WriteThen k block bytes guard done fault missed)) none = cc
stops-there g kind pending (In known command (ClockThen rest)) none = refl
stops-there g kind pending (In known command (UntilThen from rest)) none = refl

-- of an appliance
pub stops-none : (world : World) (a : ApplianceNo) (kind : WriteKind) (asked : Option Ask) → IsAsk world a asked → asks_write asked ≡ false →
    StopsAs world a.0 (Some (stop.Write kind)) false
stops-none world a kind asked is none w h below =
    let e : asked ≡ asks (stands w a.0).place = is w h ∙ if-below a.0 w.appliances (asks (stands w a.0).place) None below in
    sym (stops-there w.geometry kind (w.seats a.0).pending (stands w a.0).place (ap asks_write (sym e) ∙ none))
