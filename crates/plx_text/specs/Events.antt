-- How events are spelled.
use Rattle.std.specs.Prelude.{ℕ, ◌^◌, List, [], ◌∷◌, codes, get_or, drop, Option, Some, option_map}
use Rattle.plx_base.specs.declared.numbers.ApplianceNo.{ApplianceNo}
use Rattle.plx_commands.specs.declared.event.Event.{Event}
use Rattle.plx_commands.specs.declared.event.Event.TheVariants as event
use Rattle.plx_words.specs.Candidates.{Reads, by_first, word_number_at}
use Rattle.plx_text.specs.Commands.{built_line, built_of}
use Rattle.plx_words.specs.Pieces.{Piece, word, number, small, Spell}
use Rattle.plx_text.specs.Stops.{stop_of, stop_piece}

-- the line of an event, by its pieces
abbrev pub event_line : Event → List Piece
event_line (event.Tick by) = word (codes "tick") ∷ number 1 (2 ^ 32) by ∷ []
event_line (event.Start appliance command) =
    word (codes "start") ∷ small appliance.0 ∷ built_line command
event_line (event.Read appliance) = word (codes "read") ∷ small appliance.0 ∷ []
event_line (event.Issue appliance) = word (codes "issue") ∷ small appliance.0 ∷ []
event_line (event.Land appliance back sector) =
    word (codes "land") ∷ small appliance.0 ∷ number 0 (2 ^ 64) back ∷ number 0 256 sector ∷ []
event_line (event.Done appliance) = word (codes "done") ∷ small appliance.0 ∷ []
event_line (event.Fault appliance) = word (codes "fault") ∷ small appliance.0 ∷ []
event_line (event.Miss appliance reading) =
    word (codes "miss") ∷ small appliance.0 ∷ number 0 (2 ^ 48) reading ∷ []
event_line (event.Reading appliance reading) =
    word (codes "clock") ∷ small appliance.0 ∷ number 0 (2 ^ 48) reading ∷ []
event_line (event.Crash appliance) = word (codes "crash") ∷ small appliance.0 ∷ []
event_line (event.Run appliance) = word (codes "run") ∷ small appliance.0 ∷ []
event_line (event.Upto appliance stop) =
    word (codes "upto") ∷ small appliance.0 ∷ stop_piece stop ∷ []

-- these words spell an event
abbrev pub SpellsEvent : Event → List (List ℕ) → Type 0
SpellsEvent one words = Spell (event_line one) words

-- the appliance that the word at this place can spell
abbrev pub appliance_at : ℕ → List (List ℕ) → ApplianceNo
appliance_at k words = record { 0 = word_number_at k words }

-- the events that name an appliance alone, by the first word
abbrev pub bare_rows : List (List ℕ) → List (List ℕ × Option Event)
bare_rows words = (codes "read", Some (event.Read (appliance_at 1 words)))
    ∷ (codes "issue", Some (event.Issue (appliance_at 1 words)))
    ∷ (codes "done", Some (event.Done (appliance_at 1 words)))
    ∷ (codes "fault", Some (event.Fault (appliance_at 1 words)))
    ∷ (codes "crash", Some (event.Crash (appliance_at 1 words)))
    ∷ (codes "run", Some (event.Run (appliance_at 1 words)))
    ∷ []

-- the one event that words can spell
abbrev pub event_of : List (List ℕ) → Option Event
event_of words = by_first words (
    (codes "tick", Some (event.Tick (word_number_at 1 words)))
    ∷ (
      codes "start",
      option_map (λ command. event.Start (appliance_at 1 words) command) (built_of (drop 2 words)),
    )
    ∷ (
      codes "land",
      Some (event.Land (appliance_at 1 words) (word_number_at 2 words) (word_number_at 3 words)),
    )
    ∷ (codes "miss", Some (event.Miss (appliance_at 1 words) (word_number_at 2 words)))
    ∷ (codes "clock", Some (event.Reading (appliance_at 1 words) (word_number_at 2 words)))
    ∷ (
      codes "upto",
      option_map (λ stop. event.Upto (appliance_at 1 words) stop) (stop_of (get_or words 2 [])),
    )
    ∷ bare_rows words)

-- what a reader of an event's words gives
abbrev pub ReadsEvent : Option Event → List (List ℕ) → Type 0
ReadsEvent result words = Reads result (event_of words) (λ one. SpellsEvent one words)
