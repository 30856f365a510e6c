-- Each boot's log is a run; a run of an appliance goes on as long as it has a next event; and what is played is reached.
use Rattle.std.proofs.Common.{◌≡◌, ℕ, zero, suc, ◌+◌, ◌*◌, ◌-◌, ◌%◌, ◌^◌, ◌<◌, List, [], ◌∷◌, length, Bool, true, false, Option, Some, None, refl, ap, sym, subst, ◌∙◌, arith, inl, inr}
use Rattle.std.specs.Prelude.{slice_get, if◌then◌else◌, nat_le, ◌==◌, drop}
use Rattle.std.proofs.lemmas.Nat.{mod-mul-add}
use Rattle.std.proofs.lemmas.Bool.Decides.{eqb_tells}
use Rattle.plx_base.specs.declared.numbers.ApplianceNo.{ApplianceNo}
use Rattle.plx_base.specs.declared.write_kind.WriteKind.{WriteKind}
use Rattle.plx_commands.proofs.Places.{at-all}
use Rattle.plx_commands.specs.Places.{at}
use Rattle.plx_commands.specs.declared.command.Command.{Command}
use Rattle.plx_commands.specs.declared.event.Event.{Event}
use Rattle.plx_commands.specs.declared.event.Event.TheVariants as event
use Rattle.plx_commands.specs.declared.event.Stop.{Stop}
use Rattle.plx_disk.proofs.Flags.{all-eight}
use Rattle.plx_disk.specs.Writes.{Issued, all_sectors}
use Rattle.plx_rules.specs.Process.{Process, Ends, ReadThen, WriteThen, ClockThen, UntilThen}
use Rattle.plx_rules.specs.Boot as boot
use Rattle.plx_rules.specs.Boot.{BootEntry, Place, Idle, Begins, In, asks, writes_out, IsRun}
use Rattle.plx_rules.specs.Boots.{BootsRun}
use Rattle.plx_rules.specs.Ends.{End}
use Rattle.plx_rules.specs.Sequences as play
use Rattle.plx_rules.specs.Sequences.{missing_sector, next_sector, next_of_sector, next_landing, next_of_write, next_of_process, next_at, next_event, stops, Runs, RunsPartly, Makes, IsPlayed, Plays, MakesPartly, PlaysPartly, RunsGoOn, PlayedIsReached}
use Rattle.plx_rules.specs.Session.{Known}
use Rattle.plx_rules.specs.Settings.{boot_number}
use Rattle.plx_rules.specs.World as world
use Rattle.plx_rules.specs.World.{World, Seat, Step, Reached, IsReadingAt, IsBack, setting_at, setting_of, stands, is_boot_of, issued_by}
use Rattle.law_lease.proofs.LeaseSteps.{reached-leased}
use Rattle.law_lease.proofs.Leased.{IsAskedAt, Leased}
use Rattle.plx_base.proofs.Tests.{nat_le-past, nat_le-tells, same-some}

-- ---- each boot's log is a run

-- a reading is below 2 ^ 48
soon : (w : World) → Leased w → (reading : ℕ) → IsReadingAt reading w.surface.time → reading < 2 ^ 48
soon w leased reading is = let e = is.early in let t = leased.early in omega arith

-- the log of one appliance changes
runs-at : (w : World) (a : ℕ) (seat : Seat) → IsRun (setting_at w.geometry a seat.boots) seat.log → ((b : ℕ) → b < w.appliances → IsRun (setting_of w b) (w.seats b).log) →
    (b : ℕ) → b < w.appliances → IsRun (setting_at w.geometry b (at w.seats a seat b).boots) (at w.seats a seat b).log
runs-at w a seat run runs =
    at-all (λ b s. b < w.appliances → IsRun (setting_at w.geometry b s.boots) s.log) w.seats a seat (λ below. run) (λ b ne below. runs b below)

runs-step : {w v : World} {one : Event} → Step w one v → Leased w → ((b : ℕ) → b < w.appliances → IsRun (setting_of w b) (w.seats b).log) →
    (b : ℕ) → b < v.appliances → IsRun (setting_of v b) (v.seats b).log
runs-step (world.ticks room) leased runs = runs
runs-step (world.starts {w = w} {appliance = a} known below here whole built) leased runs =
    runs-at w a.0 _ (boot.begins known (runs a.0 below) here whole built) runs
runs-step (world.begins {w = w} {appliance = a} {reading = reading} known command below here is) leased runs =
    runs-at w a.0 _ (boot.goes_on (runs a.0 below) (ap asks here) (ap writes_out here) (soon w leased reading is)) runs
runs-step (world.reads {w = w} {appliance = a} known command block rest fault below here) leased runs =
    runs-at w a.0 _ (boot.goes_on (runs a.0 below) (ap asks here) (ap writes_out here) (leased.long block)) runs
runs-step (world.read_faults {w = w} {appliance = a} known command block rest fault below here) leased runs =
    runs-at w a.0 _ (boot.goes_on (runs a.0 below) (ap asks here) (ap writes_out here) tt) runs
runs-step (world.issues {w = w} {appliance = a} known command kind block bytes guard done fault missed below here free) leased runs =
    runs-at w a.0 _ (runs a.0 below) runs
runs-step (world.lands number write below back may) leased runs = runs
runs-step (world.dones {w = w} {appliance = a} known command kind block bytes guard done fault missed number below here waited whole) leased runs =
    runs-at w a.0 _ (boot.goes_on (runs a.0 below) (ap asks here) (ap writes_out here) tt) runs
runs-step (world.write_faults {w = w} {appliance = a} known command kind block bytes guard done fault missed below here) leased runs =
    runs-at w a.0 _ (boot.goes_on (runs a.0 below) (ap asks here) (ap writes_out here) tt) runs
runs-step (world.misses {w = w} {appliance = a} {reading = reading} known command kind block bytes guard done fault missed below here free past is) leased runs =
    runs-at w a.0 _ (boot.goes_on (runs a.0 below) (ap asks here) (ap writes_out here) (past, soon w leased reading is)) runs
runs-step (world.clocks {w = w} {appliance = a} {reading = reading} known command rest below here is) leased runs =
    runs-at w a.0 _ (boot.goes_on (runs a.0 below) (ap asks here) (ap writes_out here) (soon w leased reading is)) runs
runs-step (world.waits {w = w} {appliance = a} {reading = reading} known command from rest below here is past) leased runs =
    runs-at w a.0 _ (boot.goes_on (runs a.0 below) (ap asks here) (ap writes_out here) (past, soon w leased reading is)) runs
runs-step (world.crashes {w = w} {appliance = a} below room) leased runs = runs-at w a.0 _ boot.empty runs

runs-reached : {w : World} → Reached w → (b : ℕ) → b < w.appliances → IsRun (setting_of w b) (w.seats b).log
runs-reached (world.first geometry some few formatted) = λ b below. boot.empty
runs-reached (world.later reached step) = runs-step step (reached-leased reached) (runs-reached reached)

-- in every world that events lead to
pub boots-run : BootsRun
boots-run w reached = runs-reached reached

-- ---- a run goes on

-- the least sector that is missing
missing-there : (flags : List Bool) (sector : ℕ) → missing_sector flags ≡ Some sector → slice_get flags sector ≡ Some false
missing-there [] sector e = cc
missing-there (false ∷ flags) sector e = let s : 0 ≡ sector = cc in subst (λ (k : ℕ). slice_get (false ∷ flags) k ≡ Some false) s refl
missing-there (true ∷ flags) sector e = by_rest (λ k found. missing-there flags k found) (missing_sector flags) refl e
  where
    by_rest : ((k : ℕ) → missing_sector flags ≡ Some k → slice_get flags k ≡ Some false) → (m : Option ℕ) → missing_sector flags ≡ m → next_sector m ≡ Some sector → slice_get (true ∷ flags) sector ≡ Some false
    by_rest ih None is more = cc
    by_rest ih (Some k) is more =
        let f : k + 1 ≡ sector = same-some (k + 1) sector more in
        let s : suc k ≡ sector = omega (arith, f) in subst (λ (j : ℕ). slice_get (true ∷ flags) j ≡ Some false) s (ih k is)

-- where none is missing, all have landed
missing-none : (flags : List Bool) → missing_sector flags ≡ None → (k : ℕ) → k < length flags → slice_get flags k ≡ Some true
missing-none [] e k below = absurd (omega (arith, below))
missing-none (false ∷ flags) e k below = cc
missing-none (true ∷ flags) e zero below = refl
missing-none (true ∷ flags) e (suc k) below = by_rest (λ none. missing-none flags none k (omega (arith, below))) (missing_sector flags) refl e
  where
    by_rest : (missing_sector flags ≡ None → slice_get flags k ≡ Some true) → (m : Option ℕ) → missing_sector flags ≡ m → next_sector m ≡ None → slice_get (true ∷ flags) (suc k) ≡ Some true
    by_rest ih None is more = ih is
    by_rest ih (Some j) is more = cc

-- the boot of an appliance is its own
pub own-boot : (a boots : ℕ) → a < 8 → is_boot_of a (boot_number a boots) ≡ true
own-boot a boots below =
    let e : boot_number a boots - 1 ≡ boots * 256 + a = omega arith in
    let m : (boot_number a boots - 1) % 256 ≡ a = ap (λ n. n % 256) e ∙ mod-mul-add boots 256 a (omega (arith, below)) in
    eqb-is ((boot_number a boots - 1) % 256) a m
  where
    eqb-is : (m n : ℕ) → m ≡ n → (m == n) ≡ true
    eqb-is m n same = elim (eqb_tells m n) [ inl is ↦ is.0 | inr other ↦ absurd (other.1 same) ]

module _ (w : World) (leased : Leased w) (appliance : ApplianceNo) (below : appliance.0 < w.appliances) where
  -- some step is possible
  abbrev Possible : Event → Type 0
  Possible one = (v : World) × Step w one v

  -- the time is a reading
  now : IsReadingAt w.surface.time w.surface.time
  now = record { early = omega arith; late = omega arith }

  module _ (known : Known) (command : Command) (kind : WriteKind) (block : ℕ) (bytes : List ℕ) (guard : ℕ) (done fault : Process End) (missed : ℕ → Process End)
      (here : (stands w appliance.0).place ≡ In known command (WriteThen kind block bytes guard done fault missed)) where
    -- a write that isn't issued
    issuing-possible : (w.seats appliance.0).pending ≡ None → (test : Bool) → nat_le w.surface.time guard ≡ test →
        Possible (if test then event.Issue appliance else event.Miss appliance w.surface.time)
    issuing-possible free true is = (_, world.issues known command kind block bytes guard done fault missed below here free)
    issuing-possible free false is = (
      _,
      world.misses {reading = w.surface.time} known command kind block bytes guard done fault missed below here free
          (nat_le-past w.surface.time guard is) now,
    )

    -- a write that is issued
    module _ (number : ℕ) (write : Issued) (waited : (w.seats appliance.0).pending ≡ Some number) (found : slice_get w.surface.writes number ≡ Some write)
        (asked : IsAskedAt (stands w appliance.0).place (setting_of w appliance.0).boot write) where
      abbrev back : ℕ
      back = issued_by appliance.0 (drop (number + 1) w.surface.writes)

      asked-here : IsAskedAt (In known command (WriteThen kind block bytes guard done fault missed)) (setting_of w appliance.0).boot write
      asked-here = let P : Place → Type 0 = λ p. IsAskedAt p (setting_of w appliance.0).boot write in subst P here asked

      is-back : IsBack w.surface.writes appliance.0 back number write
      is-back =
          let few = leased.few in
          record { found = found; owner = ap (is_boot_of appliance.0) asked-here.4 ∙ own-boot appliance.0 (w.seats appliance.0).boots (omega (arith, few, below)); newer = refl }

      landing-possible : (sector : ℕ) → missing_sector write.landed ≡ Some sector → (test : Bool) → nat_le w.surface.time (write.guard + 50) ≡ test →
          Possible (if test then event.Land appliance back sector else event.Fault appliance)
      landing-possible sector is true early = (
        _,
        world.lands number write below is-back (record {
          found = found;
          open_yet = (leased.right number write found).uncancelled;
          missing = missing-there write.landed sector is;
          early = nat_le-tells w.surface.time (write.guard + 50) early;
        }),
      )
      landing-possible sector is false late = (_, world.write_faults known command kind block bytes guard done fault missed below here)

      next-possible : (m : Option ℕ) → missing_sector write.landed ≡ m → Possible (next_of_sector w appliance back write.guard m)
      next-possible None is =
          let flags = (leased.right number write found).flags in
          let whole : write.landed ≡ all_sectors = all-eight write.landed flags (λ k under. missing-none write.landed is k (omega (arith, flags, under))) in
          (_, world.dones known command kind block bytes guard done fault missed number below here waited (write, found, whole))
      next-possible (Some sector) is = landing-possible sector is (nat_le w.surface.time (write.guard + 50)) refl

    writing-possible : (one : Event) → (pending : Option ℕ) → (w.seats appliance.0).pending ≡ pending → next_of_write w appliance guard pending ≡ Some one → Possible one
    writing-possible one None free next = possible-as one _ next (issuing-possible free (nat_le w.surface.time guard) refl)
      where
        possible-as : (one other : Event) → Some other ≡ Some one → Possible other → Possible one
        possible-as one other e p = subst (λ (x : Event). Possible x) (let f : other ≡ one = cc in f) p
    writing-possible one (Some number) waited next =
        let asked = (leased.seated appliance.0 below).asked number waited in
        let e : next_landing w appliance (issued_by appliance.0 (drop (number + 1) w.surface.writes)) (Some asked.0) ≡ Some one =
        ap (next_landing w appliance (issued_by appliance.0 (drop (number + 1) w.surface.writes))) (sym asked.1) ∙ next in
        possible-as one _ e (next-possible number asked.0 waited asked.1 asked.2 (missing_sector asked.0.landed) refl)
      where
        possible-as : (one other : Event) → Some other ≡ Some one → Possible other → Possible one
        possible-as one other e p = subst (λ (x : Event). Possible x) (let f : other ≡ one = cc in f) p

  -- one event is another's name
  same-possible : (one other : Event) → Some other ≡ Some one → Possible other → Possible one
  same-possible one other e p = subst (λ (x : Event). Possible x) (let f : other ≡ one = cc in f) p

  process-possible : (known : Known) (command : Command) (process : Process End) → (stands w appliance.0).place ≡ In known command process → (one : Event) → next_of_process w appliance process ≡ Some one → Possible one
  process-possible known command (Ends end) here one next = absurd (let P : ⊥ = cc in P)
  process-possible known command (ReadThen block rest fault) here one next = same-possible one (event.Read appliance) next (_, world.reads known command block rest fault below here)
  process-possible known command (WriteThen kind block bytes guard done fault missed) here one next =
      writing-possible known command kind block bytes guard done fault missed here one (w.seats appliance.0).pending refl next
  process-possible known command (ClockThen rest) here one next =
      same-possible one (event.Reading appliance w.surface.time) next (_, world.clocks {reading = w.surface.time} known command rest below here now)
  process-possible known command (UntilThen from rest) here one next = by_test (nat_le from w.surface.time) refl next
    where
      by_test : (test : Bool) → nat_le from w.surface.time ≡ test → (if test then Some (event.Reading appliance w.surface.time) else None) ≡ Some one → Possible one
      by_test false is next' = absurd (let P : ⊥ = cc in P)
      by_test true is next' = same-possible one (event.Reading appliance w.surface.time) next' (
        _,
        world.waits {reading = w.surface.time} known command from rest below here now
            (nat_le-tells from w.surface.time is),
      )

  place-possible : (place : Place) → (stands w appliance.0).place ≡ place → (one : Event) → next_at w appliance place ≡ Some one → Possible one
  place-possible (Idle known) here one next = absurd (let P : ⊥ = cc in P)
  place-possible (Begins known command) here one next =
      same-possible one (event.Reading appliance w.surface.time) next (_, world.begins {reading = w.surface.time} known command below here now)
  place-possible (In known command process) here one next = process-possible known command process here one next

-- a run is never stuck
pub runs-go_on : RunsGoOn
runs-go_on w reached appliance stop one next below =
    by_stop (stops w.geometry stop (w.seats appliance.0).pending (stands w appliance.0).place) next
  where
    by_stop : (stopped : Bool) → (if stopped then None else next_at w appliance (stands w appliance.0).place) ≡ Some one → (v : World) × Step w one v
    by_stop true next' = absurd (let P : ⊥ = cc in P)
    by_stop false next' = place-possible w (reached-leased reached) appliance below (stands w appliance.0).place refl one next'

-- ---- what is played

runs-to : {appliance : ApplianceNo} {stop : Option Stop} {w v : World} → Runs appliance stop w v → Reached w → Reached v
runs-to (play.ends over) reached = reached
runs-to (play.goes one next step rest) reached = runs-to rest (world.later reached step)

runs-partly : {appliance : ApplianceNo} {stop : Option Stop} {w v : World} → RunsPartly appliance stop w v → Reached w → Reached v
runs-partly play.none_yet reached = reached
runs-partly (play.more one next step rest) reached = runs-partly rest (world.later reached step)

makes-to : {w v : World} {one : Event} → Makes w one v → Reached w → Reached v
makes-to (play.plain step) reached = world.later reached step
makes-to (play.runs appliance one next step rest) reached = runs-to rest (world.later reached step)
makes-to (play.runs_upto appliance stop one next step rest) reached = runs-to rest (world.later reached step)

played-to : {w v : World} {one : Event} → IsPlayed w one v → Reached w → Reached v
played-to (play.made makes) reached = makes-to makes reached
played-to (play.skipped impossible) reached = reached

makes-partly : {w v : World} {one : Event} → MakesPartly w one v → Reached w → Reached v
makes-partly play.nothing reached = reached
makes-partly (play.of_run appliance rest) reached = runs-partly rest reached
makes-partly (play.of_upto appliance stop rest) reached = runs-partly rest reached

plays-partly : {w v : World} {events : List Event} → PlaysPartly w events v → Reached w → Reached v
plays-partly play.over reached = reached
plays-partly (play.within makes) reached = makes-partly makes reached
plays-partly (play.next played rest) reached = plays-partly rest (played-to played reached)

-- and what is played is reached
pub played-reached : PlayedIsReached
played-reached w v events reached plays = plays-partly plays reached

-- a whole schedule leads to a world that is reached
pub reached-plays : {w v : World} {events : List Event} → Plays w events v → Reached w → Reached v
reached-plays play.over reached = reached
reached-plays (play.next played rest) reached = reached-plays rest (played-to played reached)
