-- A schedule that is read a batch of events at a time.
use Rattle.std.specs.Prelude.{◌≡◌, ℕ, List, ◌++◌}
use Rattle.plx_commands.specs.declared.event.Event.{Event}
use Rattle.plx_geom.specs.Geometry.{Geometry}
use Rattle.plx_text.specs.Schedules.{IsSchedule, NamesFirstBad, SaysNoSchedule, SpellSchedule}
use Rattle.plx_text.specs.declared.schedule.TextError.{TextError}
use Rattle.plx_words.specs.Files.{Numbered, count_left, lines_left, unended_text}

-- the lines that were taken of the bytes spell this world and these events, and this is left after
-- so many lines
pub record IsRead (bytes : List ℕ) (world : Geometry × ℕ) (events : List Event)
    (number : ℕ) (rest : List ℕ) : Type 0 where
  pub lines : List Numbered
  pub spell : SpellSchedule world events lines
  pub all : lines_left 0 bytes ≡ lines ++ lines_left number rest
  pub counted : count_left 0 bytes ≡ count_left number rest
  pub ended : unended_text bytes ≡ unended_text rest

-- whatever was read before, these events were read next
abbrev pub ReadsOn : (number : ℕ) (rest : List ℕ) (events : List Event) (after : ℕ)
    (left : List ℕ) → Type 0
ReadsOn number rest events after left =
    (bytes : List ℕ) (world : Geometry × ℕ) (before : List Event) →
    IsRead bytes world before number rest → IsRead bytes world (before ++ events) after left

-- whatever was read before, the schedule ends with these events
abbrev pub EndsWith : (number : ℕ) (rest : List ℕ) (events : List Event) → Type 0
EndsWith number rest events =
    (bytes : List ℕ) (world : Geometry × ℕ) (before : List Event) →
    IsRead bytes world before number rest → IsSchedule bytes world (before ++ events)

-- whatever was read before, the refusal names the first bad line
abbrev pub EndsBadly : (number : ℕ) (rest : List ℕ) → TextError → Type 0
EndsBadly number rest error =
    (bytes : List ℕ) (world : Geometry × ℕ) (before : List Event) →
    IsRead bytes world before number rest → NamesFirstBad bytes error

-- whatever was read before, a refusal of a line says that the bytes are no schedule
abbrev pub EndsNowhere : (number : ℕ) (rest : List ℕ) → TextError → Type 0
EndsNowhere number rest error =
    (bytes : List ℕ) (world : Geometry × ℕ) (before : List Event) →
    IsRead bytes world before number rest → SaysNoSchedule bytes error
