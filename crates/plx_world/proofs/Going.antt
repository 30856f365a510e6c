-- The next plain event of a run.
use Rattle.std.proofs.Common.{◌≡◌, ◌+◌, ◌-◌, ◌≤◌, ◌<◌, ℕ, zero, suc, List, [], ◌∷◌, drop, Option, Some, None, Bool, true, false, if◌then◌else◌, refl, ap, sym, subst, ◌∙◌, inl, inr, arith, add-one}
use Rattle.std.specs.Prelude.{length, slice_get, nat_le, IfOk, MatchBool, Result, Ok, Err}
use Rattle.std.proofs.lemmas.Bool.{le-leb, lt-ltb}
use Rattle.std.proofs.lemmas.Bool.Decides.{leb_tells}
use Rattle.std.proofs.lemmas.Option.{slice_get_within}
use Rattle.plx_base.specs.declared.numbers.ApplianceNo.{ApplianceNo}
use Rattle.plx_base.specs.declared.numbers.BlockNo.{BlockNo}
use Rattle.plx_base.specs.declared.write_kind.WriteKind.{WriteKind}
use Rattle.plx_commands.specs.declared.event.Event.{Event}
use Rattle.plx_commands.specs.declared.event.Event.TheVariants as event
use Rattle.plx_commands.specs.declared.event.Stop.{Stop}
use Rattle.plx_disk.specs.Missing.{IsLeastMissing, IsMissing, MissesNone}
use Rattle.plx_disk.specs.Standing.{Stands as DiskStands, Stays as DiskStays}
use Rattle.plx_disk.specs.Writes.{Issued, MayLand, Surface, after_landing, all_sectors, with_sector}
use Rattle.plx_disk.specs.declared.ask.Ask.{Ask}
use Rattle.plx_disk.specs.declared.ask.Ask.TheVariants as ask
use Rattle.plx_rules.specs.Boot.{Place, Idle, Begins, In, asks}
use Rattle.plx_rules.specs.Process.{Ends, ReadThen, WriteThen, ClockThen, UntilThen}
use Rattle.plx_rules.specs.Sequences.{next_of_sector, missing_sector, next_at, next_event, next_landing, next_of_write, next_sector, stops}
use Rattle.plx_rules.specs.Histories.{landing}
use Rattle.plx_rules.specs.World as rules
use Rattle.plx_rules.specs.World.{IsReadingAt, Step, is_boot_of, issued_by, stands, with_surface}
use Rattle.plx_world.specs.Answering.{asked_by, pending_of}
use Rattle.plx_world.specs.Numbers.{own_numbers}
use Rattle.plx_world.specs.Running.{AsksClock, RunGoesOn, IsOver, IsWriting, OneMore, StopsAs, arrived}
use Rattle.plx_world.specs.Standing.{WorldStands, Steps, StandsOn}
use Rattle.plx_world.specs.declared.world.World.{World}
use Rattle.plx_world.proofs.Cancels.{cancelled-whole}
use Rattle.plx_world.proofs.Disked.{OnlyDisk, stands-disk, stays-disk}
use Rattle.plx_world.proofs.Left.{IsLess, less-done, less-fault, less-issue, less-land, less-miss, less-read, less-reading}
use Rattle.plx_world.proofs.Numbered.{nth-back, own-numbers-set}
use Rattle.plx_world.proofs.Placed.{AsksClockAt, AsksUntilAt, AsksWriteAt, asked-clock, asked-read, asked-until, asked-write, first, later}
use Rattle.plx_world.proofs.Seating.{if-none, if-some, run-at, seat-there}
use Rattle.plx_world.proofs.There.{run-there}

-- where a call found memory
pub if-ok : {E : Type 0} (r : Result Bool E) (P Q : Bool → Type 0) → IfOk r P → ((made : Bool) → P made → Q made) → IfOk r Q
if-ok (Ok made) P Q p f = f made p
if-ok (Err error) P Q p f = tt

-- what was made of an event, or that it isn't possible
abbrev pub StepsTo : rules.World → World → Event → Bool → Type 0
StepsTo w new one made = MatchBool made ((v : rules.World) × Step w one v × WorldStands new v) (((v : rules.World) → ¬ Step w one v) × WorldStands new w)

-- what was made of the next event of a run, or that it is over
abbrev pub GoesTo : ApplianceNo → Option Stop → rules.World → World → Bool → Type 0
GoesTo a stop w new made = MatchBool made ((v : rules.World) × OneMore a stop new w v) (IsOver a stop w × WorldStands new w)

-- some step of an event is possible
abbrev Possible : rules.World → Event → Type 0
Possible w one = (v : rules.World) × Step w one v

-- the next event is possible
goes-next : (old : World) (a : ApplianceNo) (w : rules.World) → WorldStands old w → (new : World) (made : Bool) (one : Event) → next_event w a None ≡ Some one → Possible w one →
    StepsTo w new one made → ((v : rules.World) → Step w one v → IsLess a w v) → GoesTo a None w new made
goes-next old a w h new true one next possible s less =
    let is = run-at old w a.0 (run-there w a None one next s.1) h in
    (s.0, record { one = one; after = s.0; next = next; step = s.1; rest = arrived; stands = s.2; less = less s.0 s.1 is })
goes-next old a w h new false one next possible s less = absurd (s.0 possible.0 possible.1)

-- an appliance that asks is there
asks-there : (w : rules.World) (a : ℕ) (asked : Ask) → asked_by w a ≡ Some asked → (a < w.appliances) × (asks (stands w a).place ≡ Some asked)
asks-there w a asked e = if-some a w.appliances (asks (stands w a).place) asked e

-- ---- reads and the clock

-- a read
pub goes-read : (old new : World) (a : ApplianceNo) (block : BlockNo) (made : Bool) →
    ((w : rules.World) → WorldStands old w → Some (ask.Read block) ≡ asked_by w a.0) → Steps old new (event.Read a) made → RunGoesOn a None old new made
goes-read old new a block made asked steps w h =
    let there = asks-there w a.0 (ask.Read block) (sym (asked w h)) in
    let at = asked-read (stands w a.0).place block there.1 in
    goes-next old a w h new made (event.Read a) (ap (next_at w a) at.at) (_, rules.reads at.known at.command block.0 at.rest at.fault there.0 at.at) (steps w h)
    (λ v step. less-read step)

-- the time is a reading
now-read : (time : ℕ) → IsReadingAt time time
now-read time = record { early = omega arith; late = omega arith }

-- the clock
goes-timed : (old new : World) (a : ApplianceNo) (time : ℕ) (made : Bool) (w : rules.World) → WorldStands old w → time ≡ w.surface.time →
    Steps old new (event.Reading a time) made → Possible w (event.Reading a w.surface.time) → next_event w a None ≡ Some (event.Reading a w.surface.time) → GoesTo a None w new made
goes-timed old new a time made w h now steps possible next =
    let P : ℕ → Type 0 = λ t. StepsTo w new (event.Reading a t) made in
    goes-next old a w h new made (event.Reading a w.surface.time) next possible (subst P now (steps w h)) (λ v step. less-reading step)

clock-possible : (w : rules.World) (a : ApplianceNo) → a.0 < w.appliances → AsksClockAt (stands w a.0).place → Possible w (event.Reading a w.surface.time)
clock-possible w a there (first known command at) = (_, rules.begins known command there at (now-read w.surface.time))
clock-possible w a there (later known command rest at) = (_, rules.clocks known command rest there at (now-read w.surface.time))

next-clock : (w : rules.World) (a : ApplianceNo) → AsksClockAt (stands w a.0).place → next_event w a None ≡ Some (event.Reading a w.surface.time)
next-clock w a (first known command at) = ap (next_at w a) at
next-clock w a (later known command rest at) = ap (next_at w a) at

-- a reading answers a wait that is over
reading-late : {w : rules.World} {a : ApplianceNo} {reading : ℕ} {v : rules.World} → Step w (event.Reading a reading) v → (from : ℕ) → AsksUntilAt (stands w a.0).place from → from ≤ reading
reading-late (rules.begins known command below here is) from at = let both = sym here ∙ at.at in absurd (let P : ⊥ = cc in P)
reading-late (rules.clocks known command rest below here is) from at = let both = sym here ∙ at.at in absurd (let P : ⊥ = cc in P)
reading-late {w} {a} {reading} (rules.waits known command f rest below here is past) from at =
    let both : In known command (UntilThen f rest) ≡ In at.known at.command (UntilThen from at.rest) = sym here ∙ at.at in
    let same : f ≡ from = cc in
    let P : ℕ → Type 0 = λ x. x ≤ reading in
    subst P same past

-- nothing follows a wait that isn't over
waits-on : (a : ApplianceNo) (w : rules.World) (new : World) (from time : ℕ) (made : Bool) → AsksUntilAt (stands w a.0).place from → time < from →
    next_event w a None ≡ None → StepsTo w new (event.Reading a time) made → GoesTo a None w new made
waits-on a w new from time true at early next s = let late = reading-late s.1 from at in absurd (omega (arith, late, early))
waits-on a w new from time false at early next s = ((λ there. next), s.1)

goes-until : (old new : World) (a : ApplianceNo) (from time : ℕ) (made : Bool) (w : rules.World) → WorldStands old w → time ≡ w.surface.time →
    Steps old new (event.Reading a time) made → a.0 < w.appliances → AsksUntilAt (stands w a.0).place from → GoesTo a None w new made
goes-until old new a from time made w h now steps there at =
    elim (leb_tells from w.surface.time) [
      | inl over ↦ goes-timed old new a time made w h now steps (_, rules.waits at.known at.command from at.rest there at.at (now-read w.surface.time) over.1)
          (next ∙ ap (λ (x : Bool). if x then Some (event.Reading a w.surface.time) else None) over.0)
      | inr early ↦ waits-on a w new from time made at (let before = early.1 in omega (arith, before, now))
          (next ∙ ap (λ (x : Bool). if x then Some (event.Reading a w.surface.time) else None) early.0) (steps w h)
    ]
  where
    next : next_event w a None ≡ (if nat_le from w.surface.time then Some (event.Reading a w.surface.time) else None)
    next = ap (next_at w a) at.at

pub goes-clock : (old new : World) (a : ApplianceNo) (time : ℕ) (made : Bool) → AsksClock old a.0 → time ≡ old.disk.time → Steps old new (event.Reading a time) made →
    RunGoesOn a None old new made
goes-clock old new a time made (inl asked) now steps w h =
    let there = asks-there w a.0 ask.Clock (asked w h) in
    let at = asked-clock (stands w a.0).place there.1 in
    goes-timed old new a time made w h (now ∙ h.surface.time) steps (clock-possible w a there.0 at) (next-clock w a at)
goes-clock old new a time made (inr (from, asked)) now steps w h =
    let there = asks-there w a.0 (ask.Until from) (asked w h) in
    goes-until old new a from time made w h (now ∙ h.surface.time) steps there.0 (asked-until (stands w a.0).place from there.1)

-- ---- a write that isn't issued

-- where a write is asked
pub record Writes (w : rules.World) (a guard : ℕ) : Type 0 where
  pub there : a < w.appliances
  pub kind : WriteKind
  pub block : BlockNo
  pub at : AsksWriteAt (stands w a).place kind block guard

writes : (world : World) (w : rules.World) (a guard : ℕ) → IsWriting world a guard → WorldStands world w → Writes w a guard
writes world w a guard (kind, block, asked) h =
    let there = asks-there w a (ask.Write kind block guard) (asked w h) in
    record { there = there.0; kind = kind; block = block; at = asked-write (stands w a).place kind block guard there.1 }

-- what comes next
next-write : (w : rules.World) (a : ApplianceNo) (guard : ℕ) → Writes w a.0 guard → next_event w a None ≡ next_of_write w a guard (w.seats a.0).pending
next-write w a guard writing = ap (next_at w a) writing.at.at

next-unissued : (w : rules.World) (a : ApplianceNo) (guard : ℕ) → Writes w a.0 guard → (w.seats a.0).pending ≡ None → (early : Bool) → nat_le w.surface.time guard ≡ early →
    next_event w a None ≡ Some (if early then event.Issue a else event.Miss a w.surface.time)
next-unissued w a guard writing none early test =
    next-write w a guard writing ∙ ap (next_of_write w a guard) none
    ∙ ap (λ (x : Bool). Some (if x then event.Issue a else event.Miss a w.surface.time)) test

-- it is issued
pub goes-issue : (old new : World) (a : ApplianceNo) (guard time : ℕ) (made : Bool) → IsWriting old a.0 guard →
    ((w : rules.World) → WorldStands old w → (w.seats a.0).pending ≡ None) → time ≡ old.disk.time → time ≤ guard → Steps old new (event.Issue a) made → RunGoesOn a None old new made
goes-issue old new a guard time made writing unissued now early steps w h =
    let to = writes old w a.0 guard writing h in
    let at = to.at in
    let is = now ∙ h.surface.time in
    goes-next old a w h new made (event.Issue a)
    (next-unissued w a guard to (unissued w h) true (le-leb w.surface.time guard (omega (arith, early, is))))
    (_, rules.issues at.known at.command to.kind to.block.0 at.bytes guard at.done at.fault at.missed to.there at.at (unissued w h)) (steps w h) (λ v step. less-issue step)

-- it is missed
pub goes-miss : (old new : World) (a : ApplianceNo) (guard time : ℕ) (made : Bool) → IsWriting old a.0 guard →
    ((w : rules.World) → WorldStands old w → (w.seats a.0).pending ≡ None) → time ≡ old.disk.time → guard < time → Steps old new (event.Miss a time) made → RunGoesOn a None old new made
goes-miss old new a guard time made writing unissued now late steps w h =
    let to = writes old w a.0 guard writing h in
    let at = to.at in
    let is : time ≡ w.surface.time = now ∙ h.surface.time in
    let P : ℕ → Type 0 = λ t. StepsTo w new (event.Miss a t) made in
    goes-next old a w h new made (event.Miss a w.surface.time)
    (next-unissued w a guard to (unissued w h) false (lt-ltb-not w.surface.time guard (omega (arith, late, is)))) (
      _,
      rules.misses {reading = w.surface.time} at.known at.command to.kind to.block.0 at.bytes guard at.done at.fault at.missed to.there at.at (unissued w h)
          (omega (arith, late, is)) (now-read w.surface.time),
    ) (subst P is (steps w h)) (λ v step. less-miss step)
  where
    lt-ltb-not : (m n : ℕ) → n < m → nat_le m n ≡ false
    lt-ltb-not m n below = elim (leb_tells m n) [ inl under ↦ absurd (let x = under.1 in omega (arith, x, below)) | inr past ↦ past.0 ]

-- ---- a write that is issued

-- the write that is waited for
pub record WaitsForWrite (w : rules.World) (a : ApplianceNo) (guard number : ℕ) : Type 0 where
  pub writes : Writes w a.0 guard
  pub waited : (w.seats a.0).pending ≡ Some number
  pub write : Issued
  pub found : slice_get w.surface.writes number ≡ Some write
  pub own : is_boot_of a.0 write.owner ≡ true

-- it is the newest one of its seat
pub waits : (world : World) (w : rules.World) (a : ApplianceNo) (guard number : ℕ) → IsWriting world a.0 guard →
    ((v : rules.World) → WorldStands world v → Some number ≡ pending_of v a.0) → WorldStands world w → WaitsForWrite w a guard number
waits world w a guard number writing pending h =
    let at = writes world w a.0 guard writing h in
    let there = at.there in
    let count = h.count in
    let waited : (w.seats a.0).pending ≡ Some number =
    sym (pending w h ∙ ap (λ (x : Bool). if x then (w.seats a.0).pending else None) (lt-ltb a.0 w.appliances there)) in
    let found = seat-there world.seats.items a.0 (omega (arith, count, there)) in
    let seat = found.0 in
    let is = h.seats a.0 seat found.1 in
    let P : List ℕ → Type 0 = λ numbers. slice_get numbers (length numbers - 1) ≡ Some number in
    let numbers = own_numbers a.0 0 w.surface.writes in
    let newest = subst P is.issued (seat.newest number (is.pending ∙ waited)) in
    let within = slice_get_within numbers (length numbers - 1) number newest in
    let last : length numbers - 1 ≡ length numbers - 1 - 0 = omega arith in
    let Q : ℕ → Type 0 = λ k. slice_get numbers k ≡ Some number in
    let back = nth-back a.0 w.surface.writes 0 number (record { within = omega (arith, within); found = subst Q last newest }) in
    record { writes = at; waited = waited; write = back.0; found = back.1.found; own = back.1.owner }

-- what comes next
pub next-issued : (w : rules.World) (a : ApplianceNo) (guard number : ℕ) (waiting : WaitsForWrite w a guard number) (m : Option ℕ) → missing_sector waiting.write.landed ≡ m →
    next_event w a None ≡ Some (next_of_sector w a (issued_by a.0 (drop (number + 1) w.surface.writes)) waiting.write.guard m)
next-issued w a guard number waiting m is =
    let back = issued_by a.0 (drop (number + 1) w.surface.writes) in
    next-write w a guard waiting.writes ∙ ap (next_of_write w a guard) waiting.waited ∙ ap (next_landing w a back) waiting.found
    ∙ ap (λ (x : Option ℕ). Some (next_of_sector w a back waiting.write.guard x)) is

-- two writes of one number are one
pub same-found : (writes : List Issued) (number : ℕ) (x y : Issued) → slice_get writes number ≡ Some x → slice_get writes number ≡ Some y → x ≡ y
same-found writes number x y is also = let both : Some x ≡ Some y = sym is ∙ also in cc

-- the least missing sector, by both definitions
missing-least : (flags : List Bool) (sector : ℕ) → IsLeastMissing flags sector → missing_sector flags ≡ Some sector
missing-least [] sector least = let e = least.missing in cc
missing-least (false ∷ flags) zero least = refl
missing-least (false ∷ flags) (suc k) least = let e = least.below 0 (omega arith) in cc
missing-least (true ∷ flags) zero least = let e = least.missing in cc
missing-least (true ∷ flags) (suc k) least =
    ap next_sector (missing-least flags k (record { missing = least.missing; below = λ i below. least.below (suc i) (omega (arith, below)) }))
    ∙ ap (λ (n : ℕ). Some n) (add-one k)

-- all of it has landed, and it is answered
pub goes-done : (old new : World) (a : ApplianceNo) (guard number : ℕ) (made : Bool) → IsWriting old a.0 guard →
    ((w : rules.World) → WorldStands old w → Some number ≡ pending_of w a.0) → ((s : Surface) → DiskStands old.disk s → MissesNone s number) →
    Steps old new (event.Done a) made → RunGoesOn a None old new made
goes-done old new a guard number made writing pending none steps w h =
    let waiting = waits old w a guard number writing pending h in
    let to = waiting.writes in
    let at = to.at in
    let whole = landed waiting waiting.write.cancelled refl in
    goes-next old a w h new made (event.Done a) (next-issued w a guard number waiting None (ap missing_sector whole))
    (_, rules.dones at.known at.command to.kind to.block.0 at.bytes guard at.done at.fault at.missed number to.there at.at waiting.waited (waiting.write, waiting.found, whole))
    (steps w h) (λ v step. less-done step)
  where
    landed : (waiting : WaitsForWrite w a guard number) (cancelled : Bool) → waiting.write.cancelled ≡ cancelled → waiting.write.landed ≡ all_sectors
    landed waiting true is = cancelled-whole old.disk w.surface number waiting.write old.uncancelled h.surface waiting.found is
    landed waiting false is = none w.surface h.surface waiting.write waiting.found is

-- its least missing sector
missing-here : (w : rules.World) (a : ApplianceNo) (guard number sector : ℕ) (waiting : WaitsForWrite w a guard number) → IsMissing w.surface number sector →
    IsLeastMissing waiting.write.landed sector
missing-here w a guard number sector waiting is =
    let P : Issued → Type 0 = λ x. IsLeastMissing x.landed sector in
    subst P (same-found w.surface.writes number is.write waiting.write is.found waiting.found) is.least

-- can't land any more, and the write fails
goes-fault : (old mid new : World) (a : ApplianceNo) (guard number sector : ℕ) (made : Bool) → IsWriting old a.0 guard →
    ((w : rules.World) → WorldStands old w → Some number ≡ pending_of w a.0) → ((s : Surface) → DiskStands old.disk s → IsMissing s number sector) →
    ((s : Surface) → DiskStands old.disk s → (write : Issued) → MayLand s number sector write → ⊥) → StandsOn old mid →
    Steps mid new (event.Fault a) made → RunGoesOn a None old new made
goes-fault old mid new a guard number sector made writing pending least refused stays steps w h =
    let waiting = waits old w a guard number writing pending h in
    let to = waiting.writes in
    let at = to.at in
    let misses = least w.surface h.surface in
    let is = missing-here w a guard number sector waiting misses in
    let back = issued_by a.0 (drop (number + 1) w.surface.writes) in
    goes-next old a w h new made (event.Fault a)
    (next-issued w a guard number waiting (Some sector) (missing-least waiting.write.landed sector is)
    ∙ ap (λ (x : Bool). Some (if x then event.Land a back sector else event.Fault a)) (late waiting misses is))
    (_, rules.write_faults at.known at.command to.kind to.block.0 at.bytes guard at.done at.fault at.missed to.there at.at) (steps w (stays w h))
    (λ v step. less-fault step)
  where
    uncancelled : (waiting : WaitsForWrite w a guard number) → IsMissing w.surface number sector → waiting.write.cancelled ≡ false
    uncancelled waiting misses = ap (λ (x : Issued). x.cancelled) (sym (same-found w.surface.writes number misses.write waiting.write misses.found waiting.found)) ∙ misses.open_yet

    late : (waiting : WaitsForWrite w a guard number) → IsMissing w.surface number sector → IsLeastMissing waiting.write.landed sector → nat_le w.surface.time (waiting.write.guard + 50) ≡ false
    late waiting misses is = elim (leb_tells w.surface.time (waiting.write.guard + 50)) [
      | inl early ↦ absurd (refused w.surface h.surface waiting.write (record { found = waiting.found; open_yet = uncancelled waiting misses; missing = is.missing; early = early.1 }))
      | inr past ↦ past.0
    ]

-- where memory was found
pub ok-fault : {E : Type 0} {mid : World} (old new : World) (a : ApplianceNo) (guard number sector : ℕ) (r : Result Bool E) → IsWriting old a.0 guard →
    ((w : rules.World) → WorldStands old w → Some number ≡ pending_of w a.0) → ((s : Surface) → DiskStands old.disk s → IsMissing s number sector) →
    ((s : Surface) → DiskStands old.disk s → (write : Issued) → MayLand s number sector write → ⊥) → OnlyDisk old mid → DiskStays old.disk mid.disk →
    IfOk r (Steps mid new (event.Fault a)) → IfOk r (RunGoesOn a None old new)
ok-fault {E} {mid} old new a guard number sector (Ok made) writing pending least refused only stays steps =
    goes-fault old mid new a guard number sector made writing pending least refused (stays-disk old mid only stays) steps
ok-fault old new a guard number sector (Err error) writing pending least refused only stays steps = tt

-- or lands
pub goes-land : (old new : World) (a : ApplianceNo) (guard number sector : ℕ) → IsWriting old a.0 guard →
    ((w : rules.World) → WorldStands old w → Some number ≡ pending_of w a.0) → ((s : Surface) → DiskStands old.disk s → IsMissing s number sector) → sector < 8 →
    ((s : Surface) → DiskStands old.disk s → (write : Issued) × MayLand s number sector write × DiskStands new.disk (after_landing s number write sector)) →
    OnlyDisk old new → RunGoesOn a None old new true
goes-land old new a guard number sector writing pending least within landed only w h =
    let s = w.surface in
    let waiting = waits old w a guard number writing pending h in
    let is = missing-here w a guard number sector waiting (least s h.surface) in
    let back = issued_by a.0 (drop (number + 1) s.writes) in
    let one = event.Land a back sector in
    let l = landed s h.surface in
    let same = same-found s.writes number l.0 waiting.write l.1.found waiting.found in
    let P : Issued → Type 0 = λ x. MayLand s number sector x × DiskStands new.disk (after_landing s number x sector) in
    let lands = subst P same (l.1, l.2) in
    let missing-is = missing-least waiting.write.landed sector is in
    let early : nat_le s.time (waiting.write.guard + 50) ≡ true = le-leb s.time (waiting.write.guard + 50) lands.0.early in (
      with_surface w (landing one number) (after_landing s number waiting.write sector),
      record {
        one = one;
        after = with_surface w (landing one number) (after_landing s number waiting.write sector);
        next = next-issued w a guard number waiting (Some sector) missing-is
            ∙ ap (λ (x : Bool). Some (if x then event.Land a back sector else event.Fault a)) early;
        step = rules.lands number waiting.write waiting.writes.there (record { found = waiting.found; owner = waiting.own; newer = refl }) lands.0;
        rest = arrived;
        stands = stands-disk old new w (landing one number) (after_landing s number waiting.write sector) only h
            (λ b. own-numbers-set b 0 s.writes number waiting.write (with_sector waiting.write sector) waiting.found refl) lands.1;
        less = less-land w (landing one number) a number sector waiting.write waiting.waited waiting.found missing-is within;
      },
    )

-- ---- where it ends

-- in no command it has no next event
asks-nothing : (w : rules.World) (a : ApplianceNo) (p : Place) → asks p ≡ None → next_at w a p ≡ None
asks-nothing w a (Idle known) e = refl
asks-nothing w a (Begins known command) e = absurd (let P : ⊥ = cc in P)
asks-nothing w a (In known command (Ends end)) e = refl
asks-nothing w a (In known command (ReadThen block rest fault)) e = absurd (let P : ⊥ = cc in P)
asks-nothing w a (In known command (WriteThen kind block bytes guard done fault missed)) e = absurd (let P : ⊥ = cc in P)
asks-nothing w a (In known command (ClockThen rest)) e = absurd (let P : ⊥ = cc in P)
asks-nothing w a (In known command (UntilThen from rest)) e = absurd (let P : ⊥ = cc in P)

pub goes-idle : (old : World) (a : ApplianceNo) → ((w : rules.World) → WorldStands old w → None ≡ asked_by w a.0) → RunGoesOn a None old old false
goes-idle old a asked w h = (
  (λ there. asks-nothing w a (stands w a.0).place (if-none a.0 w.appliances (asks (stands w a.0).place) there (asked w h))),
  h,
)

-- a run that stops has no next event
stopped-none : (stopped : Bool) (next : Option Event) → true ≡ stopped → (if stopped then None else next) ≡ None
stopped-none true next e = refl
stopped-none false next e = absurd (let P : ⊥ = cc in P)

-- else it goes on as one without a stop
pub goes-unless-stopped : (stopped : Bool) (next : Option Event) → false ≡ stopped → (if stopped then None else next) ≡ next
goes-unless-stopped true next e = absurd (let P : ⊥ = cc in P)
goes-unless-stopped false next e = refl

pub goes-stopped : (stop : Option Stop) (old : World) (a : ApplianceNo) → StopsAs old a.0 stop true → RunGoesOn a stop old old false
goes-stopped stop old a stopped w h =
    ((λ there. stopped-none (stops w.geometry stop (w.seats a.0).pending (stands w a.0).place) (next_at w a (stands w a.0).place) (stopped w h there)), h)

same-next : (stop : Option Stop) (old : World) (a : ApplianceNo) → StopsAs old a.0 stop false → (w : rules.World) → WorldStands old w → a.0 < w.appliances →
    next_event w a stop ≡ next_event w a None
same-next stop old a going w h there = goes-unless-stopped (stops w.geometry stop (w.seats a.0).pending (stands w a.0).place) (next_at w a (stands w a.0).place) (going w h there)

pub goes-unstopped : (stop : Option Stop) (old new : World) (a : ApplianceNo) (made : Bool) → StopsAs old a.0 stop false → RunGoesOn a None old new made → RunGoesOn a stop old new made
goes-unstopped stop old new a made going goes w h = go made (goes w h)
  where
    go : (m : Bool) → GoesTo a None w new m → GoesTo a stop w new m
    go true s =
        let next = same-next stop old a going w h (run-there w a None s.1.one s.1.next s.1.step) in
        (s.0, record { one = s.1.one; after = s.1.after; next = next ∙ s.1.next; step = s.1.step; rest = s.1.rest; stands = s.1.stands; less = s.1.less })
    go false s = ((λ there. same-next stop old a going w h there ∙ s.0 there), s.1)
