-- The world: appliances over one device, and its steps.
use Rattle.std.specs.Prelude.{◌≡◌, ◌+◌, ◌-◌, ◌%◌, ◌^◌, ◌≤◌, ◌<◌, ℕ, List, [], ◌∷◌, length, drop}
use Rattle.std.specs.Prelude.{slice_get, Option, Some, None, Bool, true, if◌then◌else◌, ◌==◌}
use Rattle.plx_base.specs.Sectors.{Device}
use Rattle.plx_base.specs.declared.numbers.ApplianceNo.{ApplianceNo}
use Rattle.plx_base.specs.declared.write_kind.WriteKind.{WriteKind}
use Rattle.plx_commands.specs.declared.command.Command.{Command}
use Rattle.plx_commands.specs.declared.entry.Entry.{Entry}
use Rattle.plx_commands.specs.declared.entry.Entry.TheVariants as entry
use Rattle.plx_commands.specs.declared.event.Event.{Event}
use Rattle.plx_commands.specs.declared.event.Event.TheVariants as event
use Rattle.plx_disk.specs.Writes.{Surface, Issued, fresh_write, with_issued, MayLand, after_landing}
use Rattle.plx_disk.specs.Writes.{HasLanded, after_time}
use Rattle.plx_disk.specs.declared.ask.Ask.{Ask}
use Rattle.plx_disk.specs.declared.ask.Ask.TheVariants as ask
use Rattle.plx_disk.specs.declared.ask.Answer.{Answer}
use Rattle.plx_disk.specs.declared.ask.Answer.TheVariants as answer
use Rattle.plx_geom.specs.Geometry.{Geometry, IsGeometry, block_count}
use Rattle.plx_commands.specs.Places.{at}
use Rattle.plx_rules.specs.Process.{Process, Ends, ReadThen, WriteThen, ClockThen, UntilThen}
use Rattle.plx_rules.specs.Boot.{BootEntry, Began, Asked, Idle, Begins, In, Configuration}
use Rattle.plx_rules.specs.Boot.{configuration, first_process}
use Rattle.plx_rules.specs.Commands.{IsBuilt, IsWellFormed}
use Rattle.plx_rules.specs.Ends.{End}
use Rattle.plx_rules.specs.Formatted.{IsFormatted}
use Rattle.plx_rules.specs.Histories.{Past, came, landing}
use Rattle.plx_rules.specs.Rests.{rests_on}
use Rattle.plx_rules.specs.Session.{Known}
use Rattle.plx_rules.specs.Settings.{Setting, boot_number}
use Rattle.plx_rules.specs.Times.{drift}

-- an appliance: how many boots came before this one, the log of this one,
-- and the number of the issued write that its ask waits for
pub record Seat : Type 0 where
  pub boots : ℕ
  pub log : List BootEntry
  pub pending : Option ℕ

-- a world: the layout of the device, how many appliances there are, the device with its
-- issued writes and its time, the leases on which each issued write rests, by its number,
-- the appliances, the trace and the history of possible events, each with the newest first
pub record World : Type 0 where
  pub geometry : Geometry
  pub appliances : ℕ
  pub surface : Surface
  pub rests : ℕ → List ℕ
  pub seats : ℕ → Seat
  pub trace : List Entry
  pub history : List Past

-- an appliance that was asked nothing yet
abbrev pub first_seat : Seat
first_seat = record { boots = 0; log = []; pending = None }

-- the first world over a device: time 1,000,
-- no write was issued, and no appliance was asked anything
abbrev pub first_world : Geometry → (appliances : ℕ) → Device → World
first_world g appliances device = record {
  geometry = g;
  appliances = appliances;
  surface = record { blocks = block_count g; device = device; writes = []; time = 1000 };
  rests = λ number. [];
  seats = λ appliance. first_seat;
  trace = [];
  history = [];
}

-- what the present boot of an appliance was given
abbrev pub setting_at : Geometry → (appliance boots : ℕ) → Setting
setting_at g appliance boots = record {
  geometry = g;
  appliance = appliance;
  boot = boot_number appliance boots;
}

-- the same, of an appliance of a world
abbrev pub setting_of : World → (appliance : ℕ) → Setting
setting_of w appliance = setting_at w.geometry appliance (w.seats appliance).boots

-- where the present boot of an appliance stands
abbrev pub stands : World → (appliance : ℕ) → Configuration
stands w appliance = configuration (setting_of w appliance) (w.seats appliance).log

-- the trace with the reply to which an appliance has come
abbrev pub with_reply_of : ApplianceNo → Process End → List Entry → List Entry
with_reply_of appliance (Ends end) trace = entry.Reply appliance end.reply ∷ trace
with_reply_of appliance (ReadThen block rest fault) trace = trace
with_reply_of appliance (WriteThen kind block bytes guard done fault missed) trace = trace
with_reply_of appliance (ClockThen rest) trace = trace
with_reply_of appliance (UntilThen from rest) trace = trace

-- an appliance once something has happened to it, and it waits for no write
abbrev pub with_log_entry : Seat → BootEntry → Seat
with_log_entry seat entry = record seat { log = entry ∷ seat.log; pending = None }

-- the world once the ask of an appliance is answered, which leads to this rest of its command
abbrev pub goes_on : World → Event → ApplianceNo → Ask → List ℕ → Answer → Process End → World
goes_on w event appliance ask bytes answer rest = record w {
  seats = at w.seats appliance.0 (with_log_entry (w.seats appliance.0) (Asked ask bytes answer));
  trace = with_reply_of appliance rest w.trace;
  history = came event ∷ w.history;
}

-- the world once an event has changed the device alone
abbrev pub with_surface : World → Past → Surface → World
with_surface w past surface = record w { surface = surface; history = past ∷ w.history }

-- the world once an appliance has begun a command
abbrev pub after_start : World → ApplianceNo → Command → World
after_start w appliance command = record w {
  seats = at w.seats appliance.0 (with_log_entry (w.seats appliance.0) (Began command));
  trace = entry.Start appliance command ∷ w.trace;
  history = came (event.Start appliance command) ∷ w.history;
}

-- the write that an appliance asks for, once it is issued
abbrev pub issued_write : World → ApplianceNo →
    WriteKind → (block : ℕ) → List ℕ → (guard : ℕ) → Issued
issued_write w appliance kind block bytes guard =
    fresh_write (setting_of w appliance.0).boot kind block bytes guard

-- the world once that write, of this command, is issued
abbrev pub after_issue : World → ApplianceNo → Command →
    WriteKind → (block : ℕ) → List ℕ → (guard : ℕ) → World
after_issue w appliance command kind block bytes guard = record w {
  surface = with_issued w.surface (issued_write w appliance kind block bytes guard);
  rests =
      at w.rests (length w.surface.writes)
      (rests_on w.geometry command (stands w appliance.0).holds
      (stands w appliance.0).filled kind block bytes);
  seats =
      at w.seats appliance.0
      (record (w.seats appliance.0) { pending = Some (length w.surface.writes) });
  history = came (event.Issue appliance) ∷ w.history;
}

-- the world once an appliance has lost its memory:
-- it is the fresh appliance of its next boot, and its issued writes stay
abbrev pub after_crash : World → ApplianceNo → World
after_crash w appliance = record w {
  seats =
      at w.seats appliance.0
      (record { boots = (w.seats appliance.0).boots + 1; log = []; pending = None });
  trace = entry.Crash appliance ∷ w.trace;
  history = came (event.Crash appliance) ∷ w.history;
}

-- whether a boot is this appliance's
abbrev pub is_boot_of : (appliance boot : ℕ) → Bool
is_boot_of appliance boot = (boot - 1) % 256 == appliance

-- how many of these writes an appliance issued, over all its boots
abbrev pub issued_by : (appliance : ℕ) → List Issued → ℕ
issued_by appliance [] = 0
issued_by appliance (write ∷ writes) =
    (if is_boot_of appliance write.owner then 1 else 0) + issued_by appliance writes

-- the write with this number is the appliance's, and it has issued so many newer ones
pub record IsBack (writes : List Issued) (appliance back number : ℕ) (write : Issued) : Type 0 where
  pub found : slice_get writes number ≡ Some write
  pub owner : is_boot_of appliance write.owner ≡ true
  pub newer : issued_by appliance (drop (number + 1) writes) ≡ back

-- a reading of the clock at a time
pub record IsReadingAt (reading time : ℕ) : Type 0 where
  pub early : reading ≤ time + drift
  pub late : time ≤ reading + drift

-- the steps that are possible
pub data Step : World → Event → World → Type 0 where
  ticks : {w : World} {by : ℕ} → w.surface.time + by < 2 ^ 47 →
      Step w (event.Tick by) (with_surface w (came (event.Tick by)) (after_time w.surface by))
  starts : {w : World} {appliance : ApplianceNo} {command : Command} (known : Known) →
      appliance.0 < w.appliances →
      (stands w appliance.0).place ≡ Idle known → IsWellFormed command → IsBuilt command →
      Step w (event.Start appliance command) (after_start w appliance command)
  begins : {w : World} {appliance : ApplianceNo}
      {reading : ℕ} (known : Known) (command : Command) →
      appliance.0 < w.appliances →
      (stands w appliance.0).place ≡ Begins known command → IsReadingAt reading w.surface.time →
      Step w (event.Reading appliance reading)
      (goes_on w (event.Reading appliance reading) appliance ask.Clock [] (answer.Reading reading)
      (first_process (setting_of w appliance.0) known reading command (stands w appliance.0)))
  reads : {w : World} {appliance : ApplianceNo} (known : Known) (command : Command)
      (block : ℕ) (rest : List ℕ → Process End) (fault : Process End) →
      appliance.0 < w.appliances →
      (stands w appliance.0).place ≡ In known command (ReadThen block rest fault) →
      Step w (event.Read appliance)
      (goes_on w (event.Read appliance) appliance (ask.Read (record { 0 = block }))
      [] (answer.Bytes (w.surface.device block)) (rest (w.surface.device block)))
  read_faults : {w : World} {appliance : ApplianceNo} (known : Known)
      (command : Command) (block : ℕ) (rest : List ℕ → Process End) (fault : Process End) →
      appliance.0 < w.appliances →
      (stands w appliance.0).place ≡ In known command (ReadThen block rest fault) →
      Step w (event.Fault appliance)
      (goes_on w (event.Fault appliance) appliance
      (ask.Read (record { 0 = block })) [] answer.Fault fault)
  issues : {w : World} {appliance : ApplianceNo} (known : Known)
      (command : Command) (kind : WriteKind) (block : ℕ) (bytes : List ℕ) (guard : ℕ)
      (done fault : Process End) (missed : ℕ → Process End) → appliance.0 < w.appliances →
      (stands w appliance.0).place
      ≡ In known command (WriteThen kind block bytes guard done fault missed) →
      (w.seats appliance.0).pending ≡ None →
      Step w (event.Issue appliance) (after_issue w appliance command kind block bytes guard)
  lands : {w : World} {appliance : ApplianceNo}
      {back sector : ℕ} (number : ℕ) (write : Issued) →
      appliance.0 < w.appliances →
      IsBack w.surface.writes appliance.0 back number write →
      MayLand w.surface number sector write →
      Step w (event.Land appliance back sector)
      (with_surface w (landing (event.Land appliance back sector) number)
      (after_landing w.surface number write sector))
  dones : {w : World} {appliance : ApplianceNo} (known : Known)
      (command : Command) (kind : WriteKind) (block : ℕ) (bytes : List ℕ) (guard : ℕ)
      (done fault : Process End) (missed : ℕ → Process End) (number : ℕ) →
      appliance.0 < w.appliances →
      (stands w appliance.0).place
      ≡ In known command (WriteThen kind block bytes guard done fault missed) →
      (w.seats appliance.0).pending ≡ Some number → HasLanded w.surface number →
      Step w (event.Done appliance)
      (goes_on w (event.Done appliance) appliance
      (ask.Write kind (record { 0 = block }) guard) bytes answer.Done done)
  write_faults : {w : World} {appliance : ApplianceNo} (known : Known)
      (command : Command) (kind : WriteKind) (block : ℕ) (bytes : List ℕ) (guard : ℕ)
      (done fault : Process End) (missed : ℕ → Process End) → appliance.0 < w.appliances →
      (stands w appliance.0).place
      ≡ In known command (WriteThen kind block bytes guard done fault missed) →
      Step w (event.Fault appliance)
      (goes_on w (event.Fault appliance) appliance
      (ask.Write kind (record { 0 = block }) guard) bytes answer.Fault fault)
  misses : {w : World} {appliance : ApplianceNo} {reading : ℕ} (known : Known)
      (command : Command) (kind : WriteKind) (block : ℕ) (bytes : List ℕ) (guard : ℕ)
      (done fault : Process End) (missed : ℕ → Process End) → appliance.0 < w.appliances →
      (stands w appliance.0).place
      ≡ In known command (WriteThen kind block bytes guard done fault missed) →
      (w.seats appliance.0).pending ≡ None → guard < reading → IsReadingAt reading w.surface.time →
      Step w (event.Miss appliance reading)
      (goes_on w (event.Miss appliance reading) appliance
      (ask.Write kind (record { 0 = block }) guard) bytes (answer.Missed reading) (missed reading))
  clocks : {w : World} {appliance : ApplianceNo} {reading : ℕ}
      (known : Known) (command : Command) (rest : ℕ → Process End) →
      appliance.0 < w.appliances →
      (stands w appliance.0).place ≡ In known command (ClockThen rest) →
      IsReadingAt reading w.surface.time →
      Step w (event.Reading appliance reading)
      (goes_on w (event.Reading appliance reading) appliance
      ask.Clock [] (answer.Reading reading) (rest reading))
  waits : {w : World} {appliance : ApplianceNo} {reading : ℕ}
      (known : Known) (command : Command) (from : ℕ) (rest : ℕ → Process End) →
      appliance.0 < w.appliances →
      (stands w appliance.0).place ≡ In known command (UntilThen from rest) →
      IsReadingAt reading w.surface.time → from ≤ reading →
      Step w (event.Reading appliance reading)
      (goes_on w (event.Reading appliance reading) appliance
      (ask.Until from) [] (answer.Reading reading) (rest reading))
  crashes : {w : World} {appliance : ApplianceNo} →
      appliance.0 < w.appliances → (w.seats appliance.0).boots + 1 < 2 ^ 32 →
      Step w (event.Crash appliance) (after_crash w appliance)

-- a world that events lead to, from the first one:
-- any geometry within the limits, 1 to 8 appliances, a formatted device
pub data Reached : World → Type 0 where
  first : {g : Geometry} {appliances : ℕ} {device : Device} →
      IsGeometry g → 1 ≤ appliances → appliances ≤ 8 → IsFormatted g device →
      Reached (first_world g appliances device)
  later : {w v : World} {event : Event} → Reached w → Step w event v → Reached v
