-- All sectors of a write land in a run, one after another.
use Rattle.std.proofs.Common.{◌≡◌, ◌+◌, ◌≤◌, ◌<◌, ℕ, zero, suc, List, ◌∷◌, drop, Option, Some, None, Bool, true, false, if◌then◌else◌, refl, ap, sym, subst, ◌∙◌, arith}
use Rattle.std.specs.Prelude.{slice_get, ◌&&◌, ◌==◌}
use Rattle.std.proofs.lemmas.Bool.{le-leb}
use Rattle.plx_base.specs.declared.numbers.ApplianceNo.{ApplianceNo}
use Rattle.plx_base.specs.declared.write_kind.WriteKind.{WriteKind}
use Rattle.plx_commands.specs.declared.command.Command.{Command}
use Rattle.plx_commands.specs.declared.event.Event.{Event}
use Rattle.plx_commands.specs.declared.event.Event.TheVariants as event
use Rattle.plx_commands.specs.declared.event.Stop.{Stop}
use Rattle.plx_commands.specs.declared.event.Stop.TheVariants as stop_is
use Rattle.plx_disk.proofs.Sectors.{first_flags, sectors-found, sectors-write, sectors-writes}
use Rattle.plx_disk.specs.Landing.{MayLandWhole, after_sectors, with_sectors}
use Rattle.plx_disk.specs.Standing.{Stands as DiskStands}
use Rattle.plx_disk.specs.Writes.{Issued, Surface}
use Rattle.plx_geom.specs.Geometry.{Geometry}
use Rattle.plx_rules.specs.Boot.{In}
use Rattle.plx_rules.specs.Ends.{End}
use Rattle.plx_rules.specs.Histories.{Past, landing}
use Rattle.plx_rules.specs.Process.{Process, WriteThen}
use Rattle.plx_rules.specs.Sequences.{kind_number, missing_sector, next_at, next_event, stops}
use Rattle.plx_rules.specs.Session.{Known}
use Rattle.plx_rules.specs.World as rules
use Rattle.plx_rules.specs.World.{Step, is_boot_of, issued_by, stands}
use Rattle.plx_world.specs.Answering.{pending_of}
use Rattle.plx_world.specs.Numbers.{own_numbers}
use Rattle.plx_world.specs.Running.{IsWriting, OneMore, Onward, RunGoesOn, arrived, onward, run_left}
use Rattle.plx_world.specs.Standing.{WorldStands}
use Rattle.plx_world.specs.declared.world.World.{World}
use Rattle.plx_world.proofs.Disked.{OnlyDisk, stands-over}
use Rattle.plx_world.proofs.Going.{WaitsForWrite, goes-unless-stopped, next-issued, same-found, waits}
use Rattle.plx_world.proofs.Left.{less-land}
use Rattle.plx_world.proofs.Numbered.{own-numbers-set}

-- ---- no stop stands between the sectors of a write

and-false : (b : Bool) → (b && false) ≡ false
and-false true = refl
and-false false = refl

stops-never : (g : Geometry) (stop : Option Stop) (number : ℕ) (known : Known) (command : Command) (kind : WriteKind) (block : ℕ) (bytes : List ℕ) (guard : ℕ)
    (done fault : Process End) (missed : ℕ → Process End) → stops g stop (Some number) (In known command (WriteThen kind block bytes guard done fault missed)) ≡ false
stops-never g None number known command kind block bytes guard done fault missed = refl
stops-never g (Some (stop_is.Write k)) number known command kind block bytes guard done fault missed = and-false (kind_number k == kind_number kind)
stops-never g (Some (stop_is.Read region)) number known command kind block bytes guard done fault missed = refl

-- what comes next doesn't go by the stop
next-any : (w : rules.World) (a : ApplianceNo) (guard number : ℕ) → WaitsForWrite w a guard number → (stop : Option Stop) → next_event w a stop ≡ next_event w a None
next-any w a guard number waiting stop =
    let at = waiting.writes.at in
    let never : stops w.geometry stop (w.seats a.0).pending (stands w a.0).place ≡ false =
    ap (λ p. stops w.geometry stop p (stands w a.0).place) waiting.waited
    ∙ (ap (stops w.geometry stop (Some number)) at.at
    ∙ stops-never w.geometry stop number at.known at.command waiting.writes.kind waiting.writes.block.0 at.bytes guard at.done at.fault at.missed) in
    goes-unless-stopped (stops w.geometry stop (w.seats a.0).pending (stands w a.0).place) (next_at w a (stands w a.0).place) (sym never)

module _ (w : rules.World) (a : ApplianceNo) (guard number : ℕ) (waiting : WaitsForWrite w a guard number) (may : MayLandWhole waiting.write w.surface.time) where
  -- the device once so many sectors have landed, and the world with it
  abbrev landed_to : ℕ → Surface
  landed_to count = after_sectors w.surface number waiting.write count

  abbrev world_to : ℕ → List Past → rules.World
  world_to count history = record w { surface = landed_to count; history = history }

  -- the write then
  is-write : (count : ℕ) → with_sectors waiting.write count ≡ record waiting.write { landed = first_flags count }
  is-write count = sectors-write waiting.write may.untouched count

  is-found : (count : ℕ) → slice_get (landed_to count).writes number ≡ Some (with_sectors waiting.write count)
  is-found count = sectors-found w.surface number waiting.write waiting.found count

  same-time : (count : ℕ) → (landed_to count).time ≡ w.surface.time
  same-time zero = refl
  same-time (suc count) = same-time count

  is-early : (count : ℕ) → (landed_to count).time ≤ (with_sectors waiting.write count).guard + 50
  is-early count =
      let now = same-time count in
      let until = ap (λ (x : Issued). x.guard) (is-write count) in
      let early = may.early in
      omega (arith, now, until, early)

  is-own : (count : ℕ) → is_boot_of a.0 (with_sectors waiting.write count).owner ≡ true
  is-own count = ap (λ (x : Issued). is_boot_of a.0 x.owner) (is-write count) ∙ waiting.own

  -- the event by which the next one lands
  abbrev lands_at : ℕ → Event
  lands_at count = event.Land a (issued_by a.0 (drop (number + 1) (landed_to count).writes)) count

  abbrev history_to : ℕ → List Past
  history_to zero = w.history
  history_to (suc count) = landing (lands_at count) number ∷ history_to count

  abbrev at_count : ℕ → rules.World
  at_count count = world_to count (history_to count)

  step-at : (count : ℕ) → slice_get (first_flags count) count ≡ Some false → Step (at_count count) (lands_at count) (at_count (suc count))
  step-at count missing =
      rules.lands number (with_sectors waiting.write count) waiting.writes.there (record { found = is-found count; owner = is-own count; newer = refl })
      (record {
        found = is-found count;
        open_yet = ap (λ (x : Issued). x.cancelled) (is-write count) ∙ may.open_yet;
        missing = ap (λ (x : Issued). slice_get x.landed count) (is-write count) ∙ missing;
        early = is-early count;
      })

  abbrev waits-at : (count : ℕ) → WaitsForWrite (at_count count) a guard number
  waits-at count = record { writes = record { there = waiting.writes.there; kind = waiting.writes.kind; block = waiting.writes.block; at = waiting.writes.at }; waited = waiting.waited; write = with_sectors waiting.write count; found = is-found count; own = is-own count }

  least-at : (count : ℕ) → missing_sector (first_flags count) ≡ Some count → missing_sector (with_sectors waiting.write count).landed ≡ Some count
  least-at count least = ap (λ (x : Issued). missing_sector x.landed) (is-write count) ∙ least

  next-of : (count : ℕ) → missing_sector (first_flags count) ≡ Some count → (stop : Option Stop) → next_event (at_count count) a stop ≡ Some (lands_at count)
  next-of count least stop =
      let back = issued_by a.0 (drop (number + 1) (landed_to count).writes) in
      next-any (at_count count) a guard number (waits-at count) stop
      ∙ (next-issued (at_count count) a guard number (waits-at count) (Some count) (least-at count least)
      ∙ ap (λ (x : Bool). Some (if x then event.Land a back count else event.Fault a))
      (le-leb (landed_to count).time ((with_sectors waiting.write count).guard + 50) (is-early count)))

  less-at : (count : ℕ) → missing_sector (first_flags count) ≡ Some count → count < 8 → run_left (at_count (suc count)) a < run_left (at_count count) a
  less-at count least within =
      less-land (at_count count) (landing (lands_at count) number) a number count (with_sectors waiting.write count) waiting.waited (is-found count)
      (least-at count least) within

  -- from the second sector on
  rest-of : Onward a (at_count 1) (at_count 8)
  rest-of =
      onward (lands_at 1) (next-of 1 refl) (step-at 1 refl) (onward (lands_at 2) (next-of 2 refl) (step-at 2 refl) (onward (lands_at 3) (next-of 3 refl) (step-at 3 refl)
      (onward (lands_at 4) (next-of 4 refl) (step-at 4 refl) (onward (lands_at 5) (next-of 5 refl) (step-at 5 refl) (onward (lands_at 6) (next-of 6 refl) (step-at 6 refl)
      (onward (lands_at 7) (next-of 7 refl) (step-at 7 refl) arrived))))))

  less-all : run_left (at_count 8) a < run_left w a
  less-all =
      more 7 refl (omega arith) (more 6 refl (omega arith) (more 5 refl (omega arith) (more 4 refl (omega arith) (more 3 refl (omega arith) (more 2 refl (omega arith)
      (more 1 refl (omega arith) (less-at 0 refl (omega arith))))))))
    where
      more : (count : ℕ) → missing_sector (first_flags count) ≡ Some count → count < 8 → run_left (at_count count) a < run_left w a → run_left (at_count (suc count)) a < run_left w a
      more count least within before = let less = less-at count least within in omega (arith, before, less)

  pub whole-more : (old new : World) (stop : Option Stop) → WorldStands old w → OnlyDisk old new → DiskStands new.disk (landed_to 8) → OneMore a stop new w (at_count 8)
  whole-more old new stop h only surface = record {
    one = lands_at 0;
    after = at_count 1;
    next = next-of 0 refl stop;
    step = step-at 0 refl;
    rest = rest-of;
    stands = stands-over old new w (at_count 8) only h refl refl (λ b. refl) refl
        (λ b. ap (λ ws. own_numbers b 0 ws) (sectors-writes w.surface number waiting.write waiting.found 8)
        ∙ own-numbers-set b 0 w.surface.writes number waiting.write (with_sectors waiting.write 8) waiting.found (ap (λ (x : Issued). x.owner) (is-write 8))) surface;
    less = less-all;
  }

-- a write of which no sector has landed lands whole
pub goes-whole : (old new : World) (a : ApplianceNo) (guard number : ℕ) → IsWriting old a.0 guard →
    ((w : rules.World) → WorldStands old w → Some number ≡ pending_of w a.0) →
    ((s : Surface) → DiskStands old.disk s → (write : Issued) × (slice_get s.writes number ≡ Some write) × MayLandWhole write s.time
    × DiskStands new.disk (after_sectors s number write 8)) → OnlyDisk old new → RunGoesOn a None old new true
goes-whole old new a guard number writing pending landed only w h =
    let s = w.surface in
    let waiting = waits old w a guard number writing pending h in
    let l = landed s h.surface in
    let same = same-found s.writes number l.0 waiting.write l.1 waiting.found in
    let P : Issued → Type 0 = λ x. MayLandWhole x s.time × DiskStands new.disk (after_sectors s number x 8) in
    let whole = subst P same (l.2, l.3) in
    (_, whole-more w a guard number waiting whole.0 old new None h only whole.1)
