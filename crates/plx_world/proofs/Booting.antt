-- An appliance is given a command, or loses what it has in memory.
use Rattle.std.proofs.Common.{◌≡◌, ◌+◌, ◌^◌, ◌<◌, ℕ, List, [], ◌∷◌, ◌++◌, length, Some, None, true, false, refl, ap, sym, subst, ◌∙◌, arith}
use Rattle.std.specs.Prelude.{slice_get, slice_set}
use Rattle.plx_appliance.specs.Appliance.{IsIdle, IsRunning, StandsFor, appliance_setting}
use Rattle.plx_session.specs.Giving as giving
use Rattle.plx_session.specs.declared.setting.Setting.{Setting as Own}
use Rattle.plx_base.proofs.Uniform.{length-filled}
use Rattle.plx_base.specs.Payload.{bytes_of}
use Rattle.plx_base.specs.declared.numbers.ApplianceNo.{ApplianceNo}
use Rattle.plx_base.specs.declared.payload.Payload.{Payload}
use Rattle.plx_base.specs.declared.payload.Payload.TheVariants as payload
use Rattle.plx_commands.proofs.Places.{at-other, at-same}
use Rattle.plx_commands.specs.declared.command.Command.{Command}
use Rattle.plx_commands.specs.declared.entry.Entry.TheVariants as entry
use Rattle.plx_commands.specs.declared.event.Event.TheVariants as event
use Rattle.plx_disk.specs.Standing.{Stands as DiskStands, Stays as DiskStays}
use Rattle.plx_disk.specs.declared.disk.Disk.{Disk}
use Rattle.plx_geom.specs.Geometry.{Geometry}
use Rattle.plx_rules.specs.Boot.{BootEntry, Began}
use Rattle.plx_rules.specs.Commands.{IsBuilt, IsWellFormed}
use Rattle.plx_rules.specs.World as rules
use Rattle.plx_rules.specs.World.{after_crash, after_start, crashes, setting_at, starts, with_log_entry}
use Rattle.plx_world.specs.Fresh.{IsFresh}
use Rattle.plx_world.specs.Seats.{KeepsSeat}
use Rattle.plx_world.specs.Standing.{StandsOn, Steps}
use Rattle.plx_world.specs.declared.seat.Seat.{Seat}
use Rattle.plx_world.specs.declared.world.World.{World}
use Rattle.plx_world.proofs.Answered.{one-more, seats-changed}
use Rattle.plx_world.proofs.Inverted.{step-crash, step-start}
use Rattle.plx_world.proofs.Seating.{busy-at, idle-at, seat-at}
use Rattle.plx_world.proofs.Stepping.{impossible}

-- one byte throughout is a whole payload
pub whole-all : (p : Payload) (byte : ℕ) → p ≡ payload.All byte → length (bytes_of p) ≡ 4096
whole-all p byte e = let Q : Payload → Type 0 = λ x. length (bytes_of x) ≡ 4096 in subst Q (sym e) (length-filled byte)

-- what the code's change of one seat has to leave
pub record Changes (old new : World) (n : ℕ) (after : Seat) : Type 0 where
  pub geometry : new.geometry ≡ old.geometry
  pub disk : new.disk ≡ old.disk
  pub seats : new.seats.items ≡ slice_set old.seats.items n after
  pub count : length new.seats.items ≡ length old.seats.items

-- the same, where the device may have changed in what nobody sees
pub record Leaves (old new : World) (n : ℕ) (after : Seat) : Type 0 where
  pub geometry : new.geometry ≡ old.geometry
  pub disk : DiskStays old.disk new.disk
  pub seats : new.seats.items ≡ slice_set old.seats.items n after
  pub count : length new.seats.items ≡ length old.seats.items

-- a command begins
pub starts-command : (old new : World) (a : ApplianceNo) (c told : Command) (before after : Seat) → slice_get old.seats.items a.0 ≡ Some before → a.0 < length old.seats.items →
    told ≡ c → IsIdle before.appliance → IsBuilt c → IsWellFormed c → Changes old new a.0 after → KeepsSeat before after → after.pending ≡ None →
    new.trace.items ≡ old.trace.items ++ entry.Start a told ∷ [] →
    ((log : List BootEntry) → StandsFor before.appliance log → StandsFor after.appliance (Began c ∷ log)) → Steps old new (event.Start a c) true
starts-command old new a c told before after at below told-is idle built formed left kept pending trace begins w h =
    let n = a.0 in
    let one = h.seats n before at in
    let count = h.count in
    let s = with_log_entry (w.seats n) (Began c) in
    let v = after_start w a c in
    let place = idle-at w n before one idle in
    let same : appliance_setting after.appliance ≡ appliance_setting before.appliance = ap (λ (s : Own). giving.rules_setting s) kept.setting in
    let D : Disk → Type 0 = λ x. DiskStands x w.surface in
    let T : Command → Type 0 = λ x. new.trace.items ≡ old.trace.items ++ entry.Start a x ∷ [] in (
      v,
      starts place.0 (omega (arith, count, below)) place.1 formed built,
      record {
        geometry = left.geometry ∙ h.geometry;
        count = left.count ∙ h.count;
        surface = subst D (sym left.disk) h.surface;
        seats = seats-changed old.seats.items new.seats.items w v n before after at left.seats h.seats
            (seat-at v n s after (at-same w.seats n s) (same ∙ one.setting) (kept.boots ∙ one.boots) (begins (w.seats n).log one.log) pending (kept.issued ∙ one.issued))
            refl
            (λ k other. at-other w.seats n k s other) (λ k other. refl);
        trace = one-more new.trace.items old.trace.items w.trace (entry.Start a c) (subst T told-is trace) h.trace;
      },
    )

pub starts-busy : (old : World) (a : ApplianceNo) (c : Command) (seat : Seat) → slice_get old.seats.items a.0 ≡ Some seat → IsRunning seat.appliance →
    Steps old old (event.Start a c) false
starts-busy old a c seat at running = impossible old old (event.Start a c) (λ w h. h)
    (λ w v h step. let found = step-start step in busy-at w a.0 seat (h.seats a.0 seat at) running found.known found.at)

-- without memory nothing has changed
pub seat-stays : (old new : World) (n : ℕ) (before after : Seat) → slice_get old.seats.items n ≡ Some before → Leaves old new n after → KeepsSeat before after →
    after.pending ≡ before.pending → new.trace.items ≡ old.trace.items → ((log : List BootEntry) → StandsFor before.appliance log → StandsFor after.appliance log) → StandsOn old new
seat-stays old new n before after at left kept pending trace stays w h =
    let one = h.seats n before at in
    let same : appliance_setting after.appliance ≡ appliance_setting before.appliance = ap (λ (s : Own). giving.rules_setting s) kept.setting in
    record {
      geometry = left.geometry ∙ h.geometry;
      count = left.count ∙ h.count;
      surface = left.disk w.surface h.surface;
      seats = seats-changed old.seats.items new.seats.items w w n before after at left.seats h.seats
          (seat-at w n (w.seats n) after refl (same ∙ one.setting) (kept.boots ∙ one.boots) (stays (w.seats n).log one.log) (pending ∙ one.pending) (kept.issued ∙ one.issued))
          refl
          (λ k other. refl) (λ k other. refl);
      trace = trace ∙ h.trace;
    }

-- the same, where the seat is what it was
pub same-stays : (old new : World) (n : ℕ) (before after : Seat) → slice_get old.seats.items n ≡ Some before → Leaves old new n after → after ≡ before →
    new.trace.items ≡ old.trace.items → StandsOn old new
same-stays old new n before after at left same trace =
    let K : Seat → Type 0 = λ s. KeepsSeat before s in
    let L : List BootEntry → Seat → Type 0 = λ log s. StandsFor s.appliance log in
    seat-stays old new n before after at left (subst K (sym same) (record { setting = refl; boots = refl; issued = refl })) (ap (λ (s : Seat). s.pending) same) trace
    (λ log stands. subst (L log) (sym same) stands)

-- ---- a boot is lost

pub crashes-now : (old new : World) (a : ApplianceNo) (before after : Seat) → slice_get old.seats.items a.0 ≡ Some before → a.0 < length old.seats.items →
    before.boots + 1 < 2 ^ 32 → Changes old new a.0 after → IsFresh old.geometry a.0 (before.boots + 1) after.appliance → after.boots ≡ before.boots + 1 → after.pending ≡ None →
    after.issued.items ≡ before.issued.items → new.trace.items ≡ old.trace.items ++ entry.Crash a ∷ [] → Steps old new (event.Crash a) true
crashes-now old new a before after at below few left fresh boots pending issued trace w h =
    let n = a.0 in
    let one = h.seats n before at in
    let count = h.count in
    let before-is = one.boots in
    let s : rules.Seat = record { boots = (w.seats n).boots + 1; log = []; pending = None } in
    let v = after_crash w a in
    let more : before.boots + 1 ≡ (w.seats n).boots + 1 = ap (λ (m : ℕ). m + 1) one.boots in
    let D : Disk → Type 0 = λ x. DiskStands x w.surface in (
      v,
      crashes (omega (arith, count, below)) (omega (arith, before-is, few)),
      record {
        geometry = left.geometry ∙ h.geometry;
        count = left.count ∙ h.count;
        surface = subst D (sym left.disk) h.surface;
        seats = seats-changed old.seats.items new.seats.items w v n before after at left.seats h.seats
            (seat-at v n s after (at-same w.seats n s)
            (fresh.setting ∙ ap (λ (g : Geometry). setting_at g n (before.boots + 1)) h.geometry ∙ ap (λ (m : ℕ). setting_at w.geometry n m) more)
            (boots ∙ more)
            fresh.log pending (issued ∙ one.issued))
            refl
            (λ k other. at-other w.seats n k s other) (λ k other. refl);
        trace = one-more new.trace.items old.trace.items w.trace (entry.Crash a) trace h.trace;
      },
    )

pub crashes-none : (old : World) (a : ApplianceNo) (seat : Seat) → slice_get old.seats.items a.0 ≡ Some seat → (seat.boots + 1 < 2 ^ 32 → ⊥) → Steps old old (event.Crash a) false
crashes-none old a seat at many = impossible old old (event.Crash a) (λ w h. h)
    (λ w v h step. let few = (step-crash step).1 in let before = (h.seats a.0 seat at).boots in many (omega (arith, few, before)))
