-- Writes land, and time passes.
use Rattle.std.proofs.Common.{◌≡◌, ◌+◌, ◌^◌, ◌≤◌, ◌<◌, ℕ, List, length, Option, Some, None, Bool, true, false, refl, ap, sym, subst, ◌∙◌, IsTrue, ◌↔◌, arith}
use Rattle.std.specs.Prelude.{MatchOption, reverse, slice_get}
use Rattle.plx_base.specs.declared.numbers.ApplianceNo.{ApplianceNo}
use Rattle.plx_commands.specs.declared.event.Event.TheVariants as event
use Rattle.plx_disk.specs.Standing.{Turns}
use Rattle.plx_disk.specs.Standing.{Stands as DiskStands, Stays as DiskStays}
use Rattle.plx_disk.specs.Writes.{Issued, MayLand, Surface, after_landing, after_time, with_sector}
use Rattle.plx_rules.specs.Histories.{Past, came, landing}
use Rattle.plx_rules.specs.World as rules
use Rattle.plx_rules.specs.World.{IsBack, Step, lands, ticks, with_surface}
use Rattle.plx_world.specs.Backs.{HasNone, IsNth, IsNumber}
use Rattle.plx_world.specs.Numbers.{own_numbers}
use Rattle.plx_world.specs.Standing.{IsSeat, WorldStands, StandsOn, Steps}
use Rattle.plx_world.specs.declared.seat.Seat.{Seat}
use Rattle.plx_world.specs.declared.world.World.{World}
use Rattle.plx_world.proofs.Inverted.{step-land, step-tick}
use Rattle.plx_world.proofs.Numbered.{back-few, back-unique, nth-back, own-numbers-set}
use Rattle.plx_world.proofs.Seating.{seat-same}
use Rattle.plx_world.proofs.Stepping.{impossible}

-- the device alone has changed
pub record OnlyDisk (old new : World) : Type 0 where
  pub geometry : new.geometry ≡ old.geometry
  pub seats : new.seats.items ≡ old.seats.items
  pub trace : new.trace.items ≡ old.trace.items

-- all but the history is the same, and the device stands for what is there
pub stands-over : (old new : World) (w v : rules.World) → OnlyDisk old new → WorldStands old w → v.geometry ≡ w.geometry → v.appliances ≡ w.appliances →
    ((a : ℕ) → v.seats a ≡ w.seats a) → v.trace ≡ w.trace → ((a : ℕ) → own_numbers a 0 v.surface.writes ≡ own_numbers a 0 w.surface.writes) →
    DiskStands new.disk v.surface → WorldStands new v
stands-over old new w v only h geometry count seats trace numbers surface =
    let P : List Seat → Type 0 = λ xs. (k : ℕ) (seat : Seat) → slice_get xs k ≡ Some seat → IsSeat v k seat in
    record {
      geometry = only.geometry ∙ (h.geometry ∙ sym geometry);
      count = ap length only.seats ∙ (h.count ∙ sym count);
      surface = surface;
      seats = subst P (sym only.seats) (λ k seat found. seat-same w v k seat geometry (seats k) (numbers k) (h.seats k seat found));
      trace = only.trace ∙ (h.trace ∙ ap reverse (sym trace));
    }

pub stands-disk : (old new : World) (w : rules.World) (one : Past) (s : Surface) → OnlyDisk old new → WorldStands old w →
    ((a : ℕ) → own_numbers a 0 s.writes ≡ own_numbers a 0 w.surface.writes) → DiskStands new.disk s → WorldStands new (with_surface w one s)
stands-disk old new w one s only h numbers surface = stands-over old new w (with_surface w one s) only h refl refl (λ a. refl) refl numbers surface

pub stays-disk : (old new : World) → OnlyDisk old new → DiskStays old.disk new.disk → StandsOn old new
stays-disk old new only stays w h =
    let P : List Seat → Type 0 = λ xs. (k : ℕ) (seat : Seat) → slice_get xs k ≡ Some seat → IsSeat w k seat in
    record {
      geometry = only.geometry ∙ h.geometry;
      count = ap length only.seats ∙ h.count;
      surface = stays w.surface h.surface;
      seats = subst P (sym only.seats) h.seats;
      trace = only.trace ∙ h.trace;
    }

-- time passes
pub ticks-by : (old new : World) (by : ℕ) (result : Bool) → OnlyDisk old new →
    ((s : Surface) → DiskStands old.disk s → (IsTrue result ↔ (s.time + by < 2 ^ 47))) →
    (IsTrue result → Turns old.disk new.disk (λ s. after_time s by)) → (result ≡ false → DiskStays old.disk new.disk) → Steps old new (event.Tick by) result
ticks-by old new by true only early turns stays w h = (
  with_surface w (came (event.Tick by)) (after_time w.surface by),
  ticks ((early w.surface h.surface).0 refl),
  stands-disk old new w (came (event.Tick by)) (after_time w.surface by) only h (λ a. refl) (turns refl w.surface h.surface),
)
ticks-by old new by false only early turns stays w h =
    impossible old new (event.Tick by) (stays-disk old new only (stays refl))
    (λ w v h step. let e : false ≡ true = (early w.surface h.surface).1 (step-tick step) in cc) w h

-- a sector of the write with this number lands
pub lands-number : (old new : World) (a : ApplianceNo) (back sector number : ℕ) (result : Bool) → OnlyDisk old new → IsNumber old a.0 back number →
    (IsTrue result → (s : Surface) → DiskStands old.disk s → (w : Issued) × MayLand s number sector w × DiskStands new.disk (after_landing s number w sector)) →
    (result ≡ false → (s : Surface) → DiskStands old.disk s → (w : Issued) → MayLand s number sector w → ⊥) →
    (result ≡ false → DiskStays old.disk new.disk) → Steps old new (event.Land a back sector) result
lands-number old new a back sector number true only is landed refused stays w h =
    let l = landed refl w.surface h.surface in
    let one = event.Land a back sector in
    let there = is w h in
    let found = there.1 in
    let same : found.0 ≡ l.0 = let p : slice_get w.surface.writes number ≡ Some found.0 = found.1.found in let q : slice_get w.surface.writes number ≡ Some l.0 = l.1.found in cc in
    let P : Issued → Type 0 = λ x. IsBack w.surface.writes a.0 back number x in (
      with_surface w (landing one number) (after_landing w.surface number l.0 sector),
      lands number l.0 there.0 (subst P same found.1) l.1,
      stands-disk old new w (landing one number) (after_landing w.surface number l.0 sector) only h (λ k. own-numbers-set k 0 w.surface.writes number l.0 (with_sector l.0 sector) l.1.found refl) l.2,
    )
lands-number old new a back sector number false only is landed refused stays w h =
    impossible old new (event.Land a back sector) (stays-disk old new only (stays refl)) (λ w v h step.
    let l = (step-land step).1 in
    let found = (is w h).1 in
    let same = back-unique a.0 w.surface.writes back l.0 number l.1 found.0 l.2 found.1 in
    let P : ℕ → Type 0 = λ n. MayLand w.surface n sector l.1 in
    refused refl w.surface h.surface l.1 (subst P same l.3)) w h

-- ---- the number of a write, by the numbers of the appliance's writes

pub number-absent : (world : World) (n back : ℕ) → length world.seats.items ≤ n → HasNone world n back
number-absent world n back past w h below number write is = let count = h.count in absurd (omega (arith, count, past, below))

pub number-none : (world : World) (n back : ℕ) (seat : Seat) → slice_get world.seats.items n ≡ Some seat → length seat.issued.items ≤ back → HasNone world n back
number-none world n back seat at few w h below number write is =
    let one = h.seats n seat at in
    let more = back-few n 0 w.surface.writes back number write is in
    let same : length seat.issued.items ≡ length (own_numbers n 0 w.surface.writes) = ap length one.issued in
    absurd (omega (arith, few, more, same))

pub number-there : (world : World) (n back number : ℕ) (seat : Seat) → slice_get world.seats.items n ≡ Some seat → n < length world.seats.items →
    IsNth seat.issued.items back number → IsNumber world n back number
number-there world n back number seat at below is w h =
    let one = h.seats n seat at in
    let count = h.count in
    let P : List ℕ → Type 0 = λ xs. IsNth xs back number in
    (omega (arith, count, below), nth-back n w.surface.writes back number (subst P one.issued is))

pub number-of : (world : World) (n back : ℕ) (seat : Seat) (numbers : List ℕ) (found : Option ℕ) → slice_get world.seats.items n ≡ Some seat → n < length world.seats.items →
    numbers ≡ seat.issued.items → MatchOption found (length numbers ≤ back) (IsNth numbers back) → MatchOption found (HasNone world n back) (IsNumber world n back)
number-of world n back seat numbers None at below same few = number-none world n back seat at (let P : List ℕ → Type 0 = λ xs. length xs ≤ back in subst P same few)
number-of world n back seat numbers (Some number) at below same is =
    number-there world n back number seat at below (let P : List ℕ → Type 0 = λ xs. IsNth xs back number in subst P same is)
