-- Batches of events that are read from a schedule.
use Rattle.std.proofs.Common.{◌≡◌, ◌∙◌, ℕ, List, [], ◌∷◌, ◌++◌, length, nat_eq, true, false, inl, inr, subst, sym, append_assoc}
use Rattle.std.proofs.lemmas.Bool.Decides.{eqb_tells}
use Rattle.std.proofs.lemmas.List.{nil_from_length}
use Rattle.plx_commands.specs.declared.event.Event.{Event}
use Rattle.plx_geom.specs.Geometry.{Geometry}
use Rattle.plx_text.specs.Events.{SpellsEvent}
use Rattle.plx_text.specs.Readings.{IsRead, ReadsOn}
use Rattle.plx_text.specs.Schedules.{IsSchedule, SpellSchedule}
use Rattle.plx_words.specs.Files.{Numbered, count_left, lines_left, unended_text}
use Rattle.plx_words.specs.Words.{words_of}
use Rattle.plx_words.proofs.Taken.{Taken, taken-all, taken-more}
use Rattle.plx_text.proofs.ScheduleFiles.{schedule-more}

-- the lines that were read are taken ones
abbrev pub taken-read : (bytes : List ℕ) (world : Geometry × ℕ) (events : List Event) (number : ℕ) (rest : List ℕ) → IsRead bytes world events number rest →
    Taken bytes (λ lines. SpellSchedule world events lines) number rest
taken-read bytes world events number rest is = record { lines = is.lines; are = is.spell; all = is.all; counted = is.counted; ended = is.ended }

-- one more event
pub read-more : (number : ℕ) (rest : List ℕ) (events : List Event) (taken next : ℕ) (left after : List ℕ) (line : Numbered) (one : Event) → ReadsOn number rest events taken left →
    lines_left taken left ≡ line ∷ lines_left next after → count_left next after ≡ count_left taken left → unended_text after ≡ unended_text left →
    SpellsEvent one (words_of line.1) → ReadsOn number rest (events ++ one ∷ []) next after
read-more number rest events taken next left after line one on parts counts leaves spells = λ bytes world before is.
    let so_far = on bytes world before is in
    let all = before ++ events in
    let more : Taken bytes (λ lines. SpellSchedule world (all ++ one ∷ []) lines) next after =
    taken-more bytes (λ lines. SpellSchedule world all lines) (λ lines. SpellSchedule world (all ++ one ∷ []) lines) taken next left after line
    (taken-read bytes world all taken left so_far) parts counts leaves (schedule-more world all so_far.lines one line so_far.spell spells) in
    subst (λ es. IsRead bytes world es next after) (append_assoc before events (one ∷ []))
    (record { lines = more.lines; spell = more.are; all = more.all; counted = more.counted; ended = more.ended })

-- no line is left
pub read-whole : (bytes : List ℕ) (world : Geometry × ℕ) (events : List Event) (number : ℕ) (rest : List ℕ) → IsRead bytes world events number rest →
    lines_left number rest ≡ [] → unended_text rest ≡ [] → IsSchedule bytes world events
read-whole bytes world events number rest is none ended = record {
  lines = subst (λ (lines : List Numbered). SpellSchedule world events lines)
      (sym (taken-all bytes (λ lines. SpellSchedule world events lines) number rest (taken-read bytes world events number rest is) none)) is.spell;
  whole = is.ended ∙ ended;
}

-- a list without a byte
pub empty-tested : (bytes : List ℕ) → nat_eq (length bytes) 0 ≡ true → bytes ≡ []
empty-tested bytes is = elim (eqb_tells (length bytes) 0) [
  | inl same ↦ nil_from_length bytes same.1
  | inr other ↦ absurd (let both : true ≡ false = sym is ∙ other.0 in let P : ⊥ = cc in P)
]
