-- An appliance of which a run makes an event is there.
use Rattle.std.proofs.Common.{◌≡◌, ◌+◌, ◌<◌, ℕ, Option, Some, None, Bool, true, false, if◌then◌else◌, refl, subst}
use Rattle.std.specs.Prelude.{drop, slice_get, nat_le}
use Rattle.plx_base.specs.declared.numbers.ApplianceNo.{ApplianceNo}
use Rattle.plx_commands.specs.declared.event.Event.{Event}
use Rattle.plx_commands.specs.declared.event.Event.TheVariants as event
use Rattle.plx_commands.specs.declared.event.Stop.{Stop}
use Rattle.plx_disk.specs.Writes.{Issued}
use Rattle.plx_rules.specs.Boot.{Place, Idle, Begins, In}
use Rattle.plx_rules.specs.Ends.{End}
use Rattle.plx_rules.specs.Process.{Process, Ends, ReadThen, WriteThen, ClockThen, UntilThen}
use Rattle.plx_rules.specs.Sequences.{next_of_sector, missing_sector, next_at, next_event, next_landing, next_of_process, next_of_write, stops}
use Rattle.plx_rules.specs.World as rules
use Rattle.plx_rules.specs.World.{Step, issued_by, stands}

-- the appliance of which a run makes this event
abbrev runs_of : Event → Option ℕ
runs_of (event.Read a) = Some a.0
runs_of (event.Issue a) = Some a.0
runs_of (event.Land a back sector) = Some a.0
runs_of (event.Done a) = Some a.0
runs_of (event.Fault a) = Some a.0
runs_of (event.Miss a reading) = Some a.0
runs_of (event.Reading a reading) = Some a.0
runs_of other = None

-- where the event is possible it is there
below-is : (n a count : ℕ) → n < count → Some n ≡ Some a → a < count
below-is n a count below e = let same : n ≡ a = cc in subst (λ (k : ℕ). k < count) same below

step-there : {w v : rules.World} {one : Event} → Step w one v → (a : ℕ) → runs_of one ≡ Some a → a < w.appliances
step-there (rules.ticks room) a e = cc
step-there (rules.starts known below here formed built) a e = cc
step-there {w} (rules.begins {appliance = b} known command below here is) a e = below-is b.0 a w.appliances below e
step-there {w} (rules.reads {appliance = b} known command block rest fault below here) a e = below-is b.0 a w.appliances below e
step-there {w} (rules.read_faults {appliance = b} known command block rest fault below here) a e = below-is b.0 a w.appliances below e
step-there {w} (rules.issues {appliance = b} known command kind block bytes guard done fault missed below here none) a e = below-is b.0 a w.appliances below e
step-there {w} (rules.lands {appliance = b} number write below back may) a e = below-is b.0 a w.appliances below e
step-there {w} (rules.dones {appliance = b} known command kind block bytes guard done fault missed number below here pending landed) a e =
    below-is b.0 a w.appliances below e
step-there {w} (rules.write_faults {appliance = b} known command kind block bytes guard done fault missed below here) a e = below-is b.0 a w.appliances below e
step-there {w} (rules.misses {appliance = b} known command kind block bytes guard done fault missed below here none late is) a e =
    below-is b.0 a w.appliances below e
step-there {w} (rules.clocks {appliance = b} known command rest below here is) a e = below-is b.0 a w.appliances below e
step-there {w} (rules.waits {appliance = b} known command from rest below here is late) a e = below-is b.0 a w.appliances below e
step-there (rules.crashes below few) a e = cc

-- no step changes how many there are
pub step-count : {w v : rules.World} {one : Event} → Step w one v → v.appliances ≡ w.appliances
step-count (rules.ticks room) = refl
step-count (rules.starts known below here formed built) = refl
step-count (rules.begins known command below here is) = refl
step-count (rules.reads known command block rest fault below here) = refl
step-count (rules.read_faults known command block rest fault below here) = refl
step-count (rules.issues known command kind block bytes guard done fault missed below here none) = refl
step-count (rules.lands number write below back may) = refl
step-count (rules.dones known command kind block bytes guard done fault missed number below here pending landed) = refl
step-count (rules.write_faults known command kind block bytes guard done fault missed below here) = refl
step-count (rules.misses known command kind block bytes guard done fault missed below here none late is) = refl
step-count (rules.clocks known command rest below here is) = refl
step-count (rules.waits known command from rest below here is late) = refl
step-count (rules.crashes below few) = refl

-- ---- the next event of a run is one of its appliance

module _ (w : rules.World) (a : ApplianceNo) where
  -- it is, if there is one
  abbrev IsIts : Option Event → Type 0
  IsIts None = Unit {0}
  IsIts (Some one) = runs_of one ≡ Some a.0

  its-if : (test : Bool) (x y : Event) → runs_of x ≡ Some a.0 → runs_of y ≡ Some a.0 → runs_of (if test then x else y) ≡ Some a.0
  its-if true x y one other = one
  its-if false x y one other = other

  landing-its : (back guard : ℕ) (m : Option ℕ) → runs_of (next_of_sector w a back guard m) ≡ Some a.0
  landing-its back guard None = refl
  landing-its back guard (Some sector) = its-if (nat_le w.surface.time (guard + 50)) (event.Land a back sector) (event.Fault a) refl refl

  next_landing-its : (back : ℕ) (write : Option Issued) → IsIts (next_landing w a back write)
  next_landing-its back None = tt
  next_landing-its back (Some write) = landing-its back write.guard (missing_sector write.landed)

  write-its : (guard : ℕ) (pending : Option ℕ) → IsIts (next_of_write w a guard pending)
  write-its guard None = its-if (nat_le w.surface.time guard) (event.Issue a) (event.Miss a w.surface.time) refl refl
  write-its guard (Some number) = next_landing-its (issued_by a.0 (drop (number + 1) w.surface.writes)) (slice_get w.surface.writes number)

  wait-its : (over : Bool) → IsIts (if over then Some (event.Reading a w.surface.time) else None)
  wait-its true = refl
  wait-its false = tt

  process-its : (process : Process End) → IsIts (next_of_process w a process)
  process-its (Ends end) = tt
  process-its (ReadThen block rest fault) = refl
  process-its (WriteThen kind block bytes guard done fault missed) = write-its guard (w.seats a.0).pending
  process-its (ClockThen rest) = refl
  process-its (UntilThen from rest) = wait-its (nat_le from w.surface.time)

  place-its : (p : Place) → IsIts (next_at w a p)
  place-its (Idle known) = tt
  place-its (Begins known command) = refl
  place-its (In known command process) = process-its process

  stop-its : (stopped : Bool) (next : Option Event) → IsIts next → IsIts (if stopped then None else next)
  stop-its true next its = tt
  stop-its false next its = its

  pub run-there : (stop : Option Stop) (one : Event) {v : rules.World} → next_event w a stop ≡ Some one → Step w one v → a.0 < w.appliances
  run-there stop one next step =
      let P : Option Event → Type 0 = λ x. IsIts x in
      let its = stop-its (stops w.geometry stop (w.seats a.0).pending (stands w a.0).place) (next_at w a (stands w a.0).place) (place-its (stands w a.0).place) in
      step-there step a.0 (subst P next its)
