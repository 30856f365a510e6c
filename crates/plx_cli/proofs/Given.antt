-- What is read of a source that tells what it has left, and which statuses follow.
use Rattle.std.proofs.Common.{◌≡◌, ◌≤◌, ◌+◌, ◌∙◌, ◌⊎◌, ◌≢◌, inl, inr, ℕ, List, Option, None, Some, String, Global, false, true, length, refl, ap, sym, subst, arith}
use Rattle.std.proofs.lemmas.List.{drop_all}
use Rattle.plx_commands.specs.declared.event.Event.{Event}
use Rattle.plx_geom.specs.Geometry.{Geometry}
use Rattle.plx_port.specs.Faults.{Rose}
use Rattle.plx_port.specs.declared.reading.ReadError.{ReadError}
use Rattle.plx_port.specs.declared.reading.ReadError.TheVariants as reading
use Rattle.plx_port.specs.Streams.{ReadsToEnd, TakesCount}
use Rattle.plx_text.proofs.ScheduleFiles.{no-schedule}
use Rattle.plx_text.specs.Schedules.{IsSchedule, schedule_grammar}
use Rattle.plx_words.specs.Files.{IsFirstBad}
use Rattle.plx_cli.specs.declared.status.Status.{Status}
use Rattle.plx_cli.specs.declared.status.Status.TheVariants.{Done, BadLine, SinkFault, NoMemory}
use Rattle.plx_cli.specs.Program.{Appended, IsBad, IsGiven, IsReplay, IsTrace, input_limit}

-- what was read to the end was taken, byte for byte
pub ends-taken : (old new : Option (List ℕ)) (bytes : List ℕ) → ReadsToEnd old new bytes → TakesCount old new (length bytes)
ends-taken None new bytes ends = tt
ends-taken (Some left) new bytes ends =
    let covered : length bytes ≡ length left = ap length ends.0 in
    let within : length bytes ≤ length left = omega arith in
    let past : length left ≤ length bytes = omega arith in
    (within, ends.1 ∙ ap Some (sym (drop_all (length bytes) left past)))

-- what was read to the end is what the source told
pub ends-given : (old new : Option (List ℕ)) (read bytes : List ℕ) → ReadsToEnd old new read → old ≡ Some bytes → read ≡ bytes
ends-given None new read bytes ends tells = cc
ends-given (Some left) new read bytes ends tells = let same : read ≡ left = ends.0 in cc

-- a source that gives no more than the limit isn't too long
pub not-long : (old new : Option (List ℕ)) (bytes : List ℕ) (before after : ℕ) → TakesCount old new (input_limit + 1) → IsGiven bytes old before after → ⊥
not-long None new bytes before after taken given = let tells : None ≡ Some bytes = given.tells in cc
not-long (Some left) new bytes before after taken given =
    let tells : Some left ≡ Some bytes = given.tells in
    let same : left ≡ bytes = cc in
    omega (arith, taken.0, given.short, ap length same)

-- where nothing was read, nothing was taken
pub takes-none : (left : Option (List ℕ)) →
    (n : ℕ) × (n ≤ input_limit) × TakesCount left left n
takes-none None = (0, omega arith, tt)
takes-none (Some left) = (0, omega arith, (omega arith, refl))

-- what was read to the end, as its slice
pub slice-ends : (old new : Option (List ℕ)) (slice bytes : List ℕ) → slice ≡ bytes →
    ReadsToEnd old new bytes → ReadsToEnd old new slice
slice-ends old new slice bytes same ends = subst (λ l. ReadsToEnd old new l) (sym same) ends

-- a source that failed, or for which memory ran out, wasn't read past the limit
pub fault-not-long : (cause : ReadError) → (cause ≡ reading.Failed) ⊎ (cause ≡ reading.NoMemory) →
    cause ≢ reading.TooLong
fault-not-long cause (inl is) late = let P : ⊥ = cc in P
fault-not-long cause (inr is) late = let P : ⊥ = cc in P

-- what was found of the slice of the words holds of the words
module _ {A : Type 0} (slice words : List (String Global)) (same : slice ≡ words) where
  pub fits-not : (IsReplay slice → false ≡ true) → IsReplay words → A
  fits-not unfit fits =
      absurd (let met = unfit (subst IsReplay (sym same) fits) in let P : ⊥ = cc in P)

  pub fits-so : IsReplay slice → ¬ IsReplay words → A
  fits-so fits unfit = absurd (unfit (subst IsReplay same fits))

module _ (status : Status) (read bytes : List ℕ) (held held' : Option (List ℕ)) where
  -- where there is a bad line, the work isn't done
  pub answers-bad : (line : ℕ) → (status ≡ Done) ⊎ (status ≡ BadLine) ⊎ (status ≡ SinkFault) ⊎ (status ≡ NoMemory) → (status ≡ Done → Appended IsTrace read held held') → read ≡ bytes →
      IsFirstBad schedule_grammar bytes line → (status ≡ BadLine) ⊎ (status ≡ SinkFault) ⊎ (status ≡ NoMemory)
  answers-bad line (inr others) done same first = others
  answers-bad line (inl finished) done same first =
      let played = (done finished).1 in
      let P : List ℕ → Type 0 = λ l. IsSchedule l played.first played.events in
      absurd (no-schedule bytes line played.first played.events first (subst P same played.schedule))

  -- where there is a schedule, no bad line is named, and without a fault of the sink the work is done
  pub answers-schedule : (before after : ℕ) (first : Geometry × ℕ) (events : List Event) → (status ≡ Done) ⊎ (status ≡ BadLine) ⊎ (status ≡ SinkFault) ⊎ (status ≡ NoMemory) →
      (status ≡ BadLine → Appended IsBad read held held') → (status ≡ SinkFault → Rose before after) → read ≡ bytes → IsSchedule bytes first events → ¬ Rose before after →
      (status ≡ Done) ⊎ (status ≡ NoMemory)
  answers-schedule before after first events (inl finished) bad sink same schedule sound = inl finished
  answers-schedule before after first events (inr (inl named)) bad sink same schedule sound =
      let line = (bad named).1 in
      let P : List ℕ → Type 0 = λ l. IsFirstBad schedule_grammar l line.line in
      absurd (no-schedule bytes line.line first events (subst P same line.first) schedule)
  answers-schedule before after first events (inr (inr (inl failed))) bad sink same schedule sound = absurd (sound (sink failed))
  answers-schedule before after first events (inr (inr (inr short))) bad sink same schedule sound = inr short
