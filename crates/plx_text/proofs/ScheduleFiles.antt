-- The lines of schedules.
use Rattle.std.proofs.Common.{◌≡◌, ℕ, List, [], ◌∷◌, ◌++◌, subst}
use Rattle.std.specs.Prelude.{IfSome}
use Rattle.plx_commands.specs.declared.event.Event.{Event}
use Rattle.plx_text.specs.Events.{SpellsEvent, event_of}
use Rattle.plx_geom.specs.Geometry.{Geometry}
use Rattle.plx_words.specs.Files.{Begins, IsFirstBad, Numbered}
use Rattle.plx_text.specs.Schedules.{IsSchedule, SpellSchedule, SpellsWorld, schedule_grammar, world_of}
use Rattle.plx_words.specs.Words.{words_of}
use Rattle.plx_text.proofs.Found.{event-spelled, world-spelled}
use Rattle.plx_words.proofs.Once.{no-value}
use Rattle.plx_words.proofs.Taken.{none-bad, spelled-in, spelled-more}

pub no-world : (words : List (List ℕ)) → IfSome (world_of words) (λ world. ¬ SpellsWorld world words) → ¬ ((world : Geometry × ℕ) × SpellsWorld world words)
no-world words none = λ some. no-value (world_of words) (λ world. SpellsWorld world words) (λ world is. world-spelled world words is) none some.0 some.1

pub no-event : (words : List (List ℕ)) → IfSome (event_of words) (λ one. ¬ SpellsEvent one words) → ¬ ((one : Event) × SpellsEvent one words)
no-event words none = λ some. no-value (event_of words) (λ one. SpellsEvent one words) (λ one is. event-spelled one words is) none some.0 some.1

pub schedule-begins : (world : Geometry × ℕ) (events : List Event) (lines : List Numbered) → SpellSchedule world events lines → Begins schedule_grammar lines
schedule-begins world events [] spell = absurd spell
schedule-begins world events (first ∷ lines) spell = λ good line more parts. begin world events first lines spell good line more parts
  where
    begin : (world : Geometry × ℕ) (events : List Event) (first : Numbered) (lines : List Numbered) → SpellSchedule world events (first ∷ lines)
        → (good : List Numbered) (line : Numbered) (more : List Numbered) → first ∷ lines ≡ good ++ line ∷ more → schedule_grammar.Goes good line.1
    begin world events first lines spell [] line more parts =
        let same : first ≡ line = cc in (world, subst (λ (l : Numbered). SpellsWorld world (words_of l.1)) same spell.0)
    begin world events first lines spell (other ∷ good) line more parts = spelled-in (λ (one : Event) (line : Numbered). SpellsEvent one (words_of line.1)) events lines good line more spell.1 (cc)

schedule-ends : (world : Geometry × ℕ) (events : List Event) (lines : List Numbered) → SpellSchedule world events lines → schedule_grammar.Ends lines
schedule-ends world events [] spell = spell
schedule-ends world events (first ∷ lines) spell = tt

-- a schedule has no bad line
pub no-schedule : (bytes : List ℕ) (number : ℕ) (world : Geometry × ℕ) (events : List Event) → IsFirstBad schedule_grammar bytes number → ¬ IsSchedule bytes world events
no-schedule bytes number world events bad = λ schedule.
    none-bad schedule_grammar bytes number (schedule-begins world events _ schedule.lines) schedule.whole (schedule-ends world events _ schedule.lines) bad

-- one more event
pub schedule-more : (world : Geometry × ℕ) (events : List Event) (lines : List Numbered) (one : Event) (line : Numbered) → SpellSchedule world events lines
    → SpellsEvent one (words_of line.1) → SpellSchedule world (events ++ one ∷ []) (lines ++ line ∷ [])
schedule-more world events [] one line spell here = absurd spell
schedule-more world events (first ∷ lines) one line spell here = (spell.0, spelled-more (λ (one : Event) (line : Numbered). SpellsEvent one (words_of line.1)) events lines one line spell.1 here)

-- after lines of a schedule only an event goes on
pub goes-event : (world : Geometry × ℕ) (events : List Event) (lines : List Numbered) (line : List ℕ) → SpellSchedule world events lines → schedule_grammar.Goes lines line
    → (one : Event) × SpellsEvent one (words_of line)
goes-event world events [] line spell goes = absurd spell
goes-event world events (first ∷ lines) line spell goes = goes
