-- The seats of the program's world, and the appliances for which they stand.
use Rattle.std.proofs.Common.{◌≡◌, ◌≢◌, ◌≤◌, ◌<◌, ℕ, zero, suc, List, [], ◌∷◌, length, get_or, Option, Some, None, Bool, true, false, refl, ap, sym, subst, ◌∙◌, inl, inr, arith}
use Rattle.std.specs.Prelude.{slice_get, slice_set, nat_lt, if◌then◌else◌, IfSome}
use Rattle.std.proofs.lemmas.Bool.Decides.{eqb_tells, leb_tells}
use Rattle.std.proofs.lemmas.Option.{slice_get_cases}
use Rattle.law_run.specs.Rules.{IsSetting}
use Rattle.plx_appliance.proofs.RunLogs.{setting-within}
use Rattle.plx_appliance.specs.Appliance.{IsIdle, IsRunning, StandsAt, StandsFor, runs, appliance_setting}
use Rattle.plx_appliance.specs.Kept.{known_of}
use Rattle.plx_appliance.specs.Lent.{Lent, lent_of}
use Rattle.plx_appliance.specs.declared.appliance.Stage.{Stage}
use Rattle.plx_session.specs.declared.setting.Setting.{Setting as Own}
use Rattle.plx_appliance.specs.declared.appliance.Stage.TheVariants as stage
use Rattle.plx_alloc.specs.Asking.{IsOnDevice}
use Rattle.plx_disk.proofs.Lists.{set-other, set-same}
use Rattle.plx_disk.specs.declared.ask.Ask.{Ask}
use Rattle.plx_geom.specs.Geometry.{Geometry}
use Rattle.plx_rules.specs.Boot.{Idle, Configuration, IsRun, asks, configuration}
use Rattle.plx_rules.specs.Session.{Known}
use Rattle.plx_rules.specs.Settings.{Setting}
use Rattle.plx_rules.specs.World as rules
use Rattle.plx_rules.specs.World.{setting_at, stands}
use Rattle.plx_world.specs.Answering.{RunsCommand, asked_by, pending_of}
use Rattle.plx_world.specs.Numbers.{own_numbers}
use Rattle.plx_world.specs.Seats.{AsksAs}
use Rattle.plx_world.specs.Standing.{IsSeat, WorldStands}
use Rattle.plx_world.specs.Ties.{AreTied}
use Rattle.plx_world.specs.declared.seat.Seat.{Seat}
use Rattle.plx_world.specs.declared.world.World.{World}
use Rattle.plx_world.proofs.Left.{IsRunAt}

-- ---- lists of seats

-- what holds of a changed place and of all others holds of all
pub set-all : {X : Type 0} (P : ℕ → X → Type 0) (xs : List X) (n : ℕ) (before after : X) → slice_get xs n ≡ Some before → P n after →
    ((k : ℕ) (x : X) → k ≢ n → slice_get xs k ≡ Some x → P k x) → (k : ℕ) (x : X) → slice_get (slice_set xs n after) k ≡ Some x → P k x
set-all P xs n before after at here others k x found = elim (eqb_tells k n) [
  | inl is ↦ same is.1
  | inr other ↦ others k x other.1 (sym (set-other xs n k after other.1) ∙ found)
]
  where
    same : k ≡ n → P k x
    same e =
        let there : slice_get (slice_set xs n after) k ≡ Some after = ap (slice_get (slice_set xs n after)) e ∙ set-same xs n after before at in
        let is : after ≡ x = let both : Some after ≡ Some x = sym there ∙ found in cc in
        subst (λ (y : _). P k y) is (subst (λ (m : ℕ). P m after) (sym e) here)

-- ---- an appliance that is there, and one that isn't

pub if-below : {X : Type 0} (n m : ℕ) (x y : X) → n < m → (if nat_lt n m then x else y) ≡ x
if-below n m x y below = elim (leb_tells (suc n) m) [ inl is ↦ ap (λ (b : Bool). if b then x else y) is.0 | inr other ↦ (let past : m < suc n = other.1 in absurd (omega arith)) ]

pub if-past : {X : Type 0} (n m : ℕ) (x y : X) → m ≤ n → (if nat_lt n m then x else y) ≡ y
if-past n m x y past = elim (leb_tells (suc n) m) [ inl is ↦ (let below : suc n ≤ m = is.1 in absurd (omega arith)) | inr other ↦ ap (λ (b : Bool). if b then x else y) other.0 ]

pub if-some : {X : Type 0} (n m : ℕ) (o : Option X) (x : X) → (if nat_lt n m then o else None) ≡ Some x → (n < m) × (o ≡ Some x)
if-some n m o x e = elim (leb_tells (suc n) m) [
  | inl is ↦ (is.1, sym (ap (λ (b : Bool). if b then o else None) is.0) ∙ e)
  | inr other ↦ absurd (let no-one : None ≡ Some x = sym (ap (λ (b : Bool). if b then o else None) other.0) ∙ e in let P : ⊥ = cc in P)
]

pub if-none : {X : Type 0} (n m : ℕ) (o : Option X) → n < m → None ≡ (if nat_lt n m then o else None) → o ≡ None
if-none n m o below e = sym (if-below n m o None below) ∙ sym e

-- the appliance of a seat stands where its log leads
pub configuration-of : (w : rules.World) (n : ℕ) (seat : Seat) → IsSeat w n seat → configuration (appliance_setting seat.appliance) (w.seats n).log ≡ stands w n
configuration-of w n seat is = ap (λ (s : Setting). configuration s (w.seats n).log) is.setting

-- what it asks
pub asked-there : (world : World) (w : rules.World) (n : ℕ) (seat : Seat) (asked : Option Ask) → slice_get world.seats.items n ≡ Some seat → n < length world.seats.items →
    AsksAs seat.appliance asked → WorldStands world w → asked ≡ asked_by w n
asked-there world w n seat asked at below is h =
    let one = h.seats n seat at in
    let count = h.count in
    is (w.seats n).log one.log ∙ ap (λ (p : Configuration). asks p.place) (configuration-of w n seat one)
    ∙ sym (if-below n w.appliances (asks (stands w n).place) None (omega (arith, count, below)))

pub asked-absent : (world : World) (w : rules.World) (n : ℕ) → length world.seats.items ≤ n → WorldStands world w → None ≡ asked_by w n
asked-absent world w n past h = let count = h.count in sym (if-past n w.appliances (asks (stands w n).place) None (omega (arith, count, past)))

pub pending-there : (world : World) (w : rules.World) (n : ℕ) (seat : Seat) → slice_get world.seats.items n ≡ Some seat → n < length world.seats.items →
    WorldStands world w → seat.pending ≡ pending_of w n
pending-there world w n seat at below h =
    let count = h.count in (h.seats n seat at).pending ∙ sym (if-below n w.appliances (w.seats n).pending None (omega (arith, count, below)))

pub pending-absent : (world : World) (w : rules.World) (n : ℕ) → length world.seats.items ≤ n → WorldStands world w → None ≡ pending_of w n
pending-absent world w n past h = let count = h.count in sym (if-past n w.appliances (w.seats n).pending None (omega (arith, count, past)))

-- the seat of an appliance that is there
pub seat-there : (seats : List Seat) (n : ℕ) → n < length seats → (seat : Seat) × (slice_get seats n ≡ Some seat)
seat-there seats n below = elim ((slice_get_cases seats n).1) [ inl found ↦ (found.0, found.2) | inr past ↦ absurd (let far = past.0 in omega (arith, below, far)) ]

-- its log is a run, of what its boot was given
pub run-at : (world : World) (w : rules.World) (n : ℕ) → n < w.appliances → WorldStands world w → IsRunAt w n
run-at world w n there h =
    let count = h.count in
    let found = seat-there world.seats.items n (omega (arith, count, there)) in
    let is = h.seats n found.0 found.1 in
    let S : Setting → Type 0 = λ s. IsSetting s × IsRun s (w.seats n).log in
    let both = subst S is.setting (setting-within found.0.appliance, is.log.run) in
    record { within = both.0; run = both.1 }

-- ---- what a seat stands for

-- where nothing of an appliance changed
pub seat-same : (w v : rules.World) (n : ℕ) (seat : Seat) → v.geometry ≡ w.geometry → v.seats n ≡ w.seats n →
    own_numbers n 0 v.surface.writes ≡ own_numbers n 0 w.surface.writes → IsSeat w n seat → IsSeat v n seat
seat-same w v n seat g s numbers is =
    let L : rules.Seat → Type 0 = λ x. StandsFor seat.appliance x.log in
    record {
      setting = is.setting ∙ ap (λ (x : Geometry). setting_at x n (w.seats n).boots) (sym g) ∙ ap (λ (x : rules.Seat). setting_at v.geometry n x.boots) (sym s);
      boots = is.boots ∙ ap (λ (x : rules.Seat). x.boots) (sym s);
      log = subst L (sym s) is.log;
      pending = is.pending ∙ ap (λ (x : rules.Seat). x.pending) (sym s);
      issued = is.issued ∙ sym numbers;
    }

-- where an appliance is this one
pub seat-at : (v : rules.World) (n : ℕ) (s : rules.Seat) (seat : Seat) → v.seats n ≡ s → appliance_setting seat.appliance ≡ setting_at v.geometry n s.boots → seat.boots ≡ s.boots →
    StandsFor seat.appliance s.log → seat.pending ≡ s.pending → seat.issued.items ≡ own_numbers n 0 v.surface.writes → IsSeat v n seat
seat-at v n s seat is setting boots log pending issued =
    let L : rules.Seat → Type 0 = λ x. StandsFor seat.appliance x.log in
    record {
      setting = setting ∙ ap (λ (x : rules.Seat). setting_at v.geometry n x.boots) (sym is);
      boots = boots ∙ ap (λ (x : rules.Seat). x.boots) (sym is);
      log = subst L (sym is) log;
      pending = pending ∙ ap (λ (x : rules.Seat). x.pending) (sym is);
      issued = issued;
    }

-- ---- ties

-- a seat that is changed keeps its layout
pub tied-set : (g : Geometry) (seats : List Seat) (n : ℕ) (before after : Seat) → slice_get seats n ≡ Some before → AreTied g seats →
    after.appliance.holdings.setting.geometry ≡ g → AreTied g (slice_set seats n after)
tied-set g seats n before after at tied is = set-all (λ k seat. seat.appliance.holdings.setting.geometry ≡ g) seats n before after at is (λ k x other found. tied k x found)

-- ---- the ask of a seat that is there

-- it runs
pub running-there : (world : World) (n : ℕ) (seat : Seat) (asked : Option Ask) → slice_get world.seats.items n ≡ Some seat →
    IfSome asked (λ ask. IsRunning seat.appliance) → IfSome asked (λ ask. RunsCommand world n)
running-there world n seat None at runs = tt
running-there world n seat (Some asked) at runs = record { seat = seat; there = at; running = runs }

-- its ask is on the device
pub within-there : (g : Geometry) (seats : List Seat) (n : ℕ) (seat : Seat) (asked : Option Ask) → slice_get seats n ≡ Some seat → AreTied g seats →
    IfSome asked (IsOnDevice seat.appliance.holdings.setting.geometry) → IfSome asked (IsOnDevice g)
within-there g seats n seat asked at tied within =
    let P : Geometry → Type 0 = λ x. IfSome asked (IsOnDevice x) in
    subst P (tied n seat at) within

-- ---- a seat that is read or written

-- a seat that is there is what is read
pub get-same : {X : Type 0} (xs : List X) (n : ℕ) (x y : X) → slice_get xs n ≡ Some x → y ≡ get_or xs n y → slice_get xs n ≡ Some y
get-same [] n x y there is = cc
get-same (z ∷ xs) zero x y there is = ap (λ (u : _). Some u) (sym is)
get-same (z ∷ xs) (suc n) x y there is = get-same xs n x y there is

-- as many as before
pub set-count : {X : Type 0} (xs : List X) (n : ℕ) (x : X) → length (slice_set xs n x) ≡ length xs
set-count [] n x = refl
set-count (y ∷ xs) zero x = refl
set-count (y ∷ xs) (suc n) x = ap suc (set-count xs n x)

-- ---- a seat that is idle, and one that isn't

-- an idle appliance stands in no command
idle-stage : (s : Setting) (lent : Lent) (st : Stage) (p : Configuration) → runs st ≡ false → StandsAt s lent st p → p.place ≡ Idle lent.known
idle-stage s lent stage.Idle p idle at = at
idle-stage s lent (stage.Begun begun) p idle at = cc
idle-stage s lent (stage.In work) p idle at = cc

pub idle-at : (w : rules.World) (n : ℕ) (seat : Seat) → IsSeat w n seat → IsIdle seat.appliance → (known : Known) × ((stands w n).place ≡ Idle known)
idle-at w n seat is idle = (
  known_of seat.appliance.holdings,
  ap (λ (p : Configuration). p.place) (sym (configuration-of w n seat is))
      ∙ idle-stage (appliance_setting seat.appliance) (lent_of seat.appliance.holdings) seat.appliance.stage (configuration (appliance_setting seat.appliance) (w.seats n).log) idle is.log.at,
)

-- one that runs does not
busy-stage : (s : Setting) (lent : Lent) (other : Known) (st : Stage) (p : Configuration) → runs st ≡ true → StandsAt s lent st p → p.place ≡ Idle other → ⊥
busy-stage s lent other stage.Idle p running at idle = cc
busy-stage s lent other (stage.Begun begun) p running at idle = let e = at.place_is in cc
busy-stage s lent other (stage.In work) p running at idle = let e = at.place_is in cc

pub busy-at : (w : rules.World) (n : ℕ) (seat : Seat) → IsSeat w n seat → IsRunning seat.appliance → (known : Known) → (stands w n).place ≡ Idle known → ⊥
busy-at w n seat is running known idle =
    busy-stage (appliance_setting seat.appliance) (lent_of seat.appliance.holdings) known seat.appliance.stage (configuration (appliance_setting seat.appliance) (w.seats n).log) running is.log.at
    (ap (λ (p : Configuration). p.place) (configuration-of w n seat is) ∙ idle)

-- a seat that keeps its setting, among as many seats as before
pub tied-kept : (g : Geometry) (seats : List Seat) (n : ℕ) (before after : Seat) → slice_get seats n ≡ Some before → AreTied g seats →
    after.appliance.holdings.setting ≡ before.appliance.holdings.setting → AreTied g (slice_set seats n after)
tied-kept g seats n before after at tied kept = tied-set g seats n before after at tied (ap (λ (s : Own). s.geometry) kept ∙ tied n before at)

pub many-set : (seats : List Seat) (n : ℕ) (after : Seat) → length seats ≤ 8 → length (slice_set seats n after) ≤ 8
many-set seats n after many = let same = set-count seats n after in omega (arith, many, same)

-- a place that is read twice holds one thing
pub read-same : {X : Type 0} (xs : List X) (n : ℕ) (x y : X) → slice_get xs n ≡ Some x → slice_get xs n ≡ Some y → x ≡ y
read-same xs n x y one other = let both : Some x ≡ Some y = sym one ∙ other in cc

-- what is read at a place that was written
pub get-after : {X : Type 0} (xs : List X) (n : ℕ) (before after y : X) → slice_get xs n ≡ Some before → y ≡ get_or (slice_set xs n after) n y → y ≡ after
get-after xs n before after y at is =
    let there = set-same xs n after before at in read-same (slice_set xs n after) n y after (get-same (slice_set xs n after) n after y there is) there
