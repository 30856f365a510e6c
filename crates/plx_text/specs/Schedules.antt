-- The text of a schedule.
use Rattle.std.specs.Prelude.{◌≡◌, ℕ, List, [], ◌∷◌, Option, Some, codes}
use Rattle.plx_commands.specs.declared.event.Event.{Event}
use Rattle.plx_geom.specs.Geometry.{Geometry, geometry_of}
use Rattle.plx_words.specs.Candidates.{Reads, by_first, word_number_at}
use Rattle.plx_text.specs.Events.{SpellsEvent}
use Rattle.plx_words.specs.Files.{Numbered, Grammar, IsFirstBad, SpellAll, lines_left, unended_text}
use Rattle.plx_words.specs.Pieces.{Piece, word, number, Spell}
use Rattle.plx_words.specs.Words.{words_of}
use Rattle.plx_text.specs.declared.schedule.TextError.{TextError}
use Rattle.plx_text.specs.declared.schedule.TextError.TheVariants.{BadLine, NoMemory}

-- the first line of a schedule and of a trace: images, extents,
-- the blocks of each, journal slots of an image, and appliances
abbrev pub world_line : Geometry → ℕ → List Piece
world_line g appliances =
    word (codes "world") ∷ number 1 257 g.images ∷ number 1 513 g.extents
    ∷ number 16 32769 g.extent_blocks ∷ number 2 65 g.slots
    ∷ number 1 9 appliances ∷ []

-- these words spell the first line
abbrev pub SpellsWorld : Geometry × ℕ → List (List ℕ) → Type 0
SpellsWorld world words = Spell (world_line world.0 world.1) words

-- the geometry that words can spell, from the second on
abbrev pub geometry_at : List (List ℕ) → Geometry
geometry_at words =
    geometry_of (word_number_at 1 words) (word_number_at 2 words)
    (word_number_at 3 words) (word_number_at 4 words)

-- the one geometry and the one number of appliances that a first line can give
abbrev pub world_of : List (List ℕ) → Option (Geometry × ℕ)
world_of words =
    by_first words ((codes "world", Some (geometry_at words, word_number_at 5 words)) ∷ [])

-- what a reader of a world's words gives
abbrev pub ReadsWorld : Option (Geometry × ℕ) → List (List ℕ) → Type 0
ReadsWorld result words = Reads result (world_of words) (λ world. SpellsWorld world words)

-- the lines spell the events, one each
abbrev pub SpellEvents : List Event → List Numbered → Type 0
SpellEvents events lines = SpellAll (λ one line. SpellsEvent one (words_of line.1)) events lines

-- the first of the lines spells a geometry and a
-- number of appliances, and the others spell the events
abbrev pub SpellSchedule : Geometry × ℕ → List Event → List Numbered → Type 0
SpellSchedule world events [] = ⊥
SpellSchedule world events (line ∷ lines) =
    SpellsWorld world (words_of line.1) × SpellEvents events lines

-- the bytes are the schedule of a geometry and of so many appliances, and of these events
pub record IsSchedule (bytes : List ℕ) (world : Geometry × ℕ) (events : List Event) : Type 0 where
  pub lines : SpellSchedule world events (lines_left 0 bytes)
  pub whole : unended_text bytes ≡ []

-- a schedule begins with the world line, and goes on with lines of events
abbrev pub Goes : List Numbered → List ℕ → Type 0
Goes [] line = (world : Geometry × ℕ) × SpellsWorld world (words_of line)
Goes (first ∷ others) line = (one : Event) × SpellsEvent one (words_of line)

-- and it doesn't end before it
abbrev pub Ends : List Numbered → Type 0
Ends [] = ⊥
Ends (first ∷ others) = Unit {0}

-- the grammar of schedules
abbrev pub schedule_grammar : Grammar
schedule_grammar = record { Goes = Goes; Ends = Ends }

-- a refusal names the first bad line of the bytes, and there is none in a schedule
abbrev pub NamesFirstBad : List ℕ → TextError → Type 0
NamesFirstBad bytes (BadLine line) = IsFirstBad schedule_grammar bytes line
NamesFirstBad bytes NoMemory = Unit {0}

-- a refusal of a line says that the bytes are no schedule
abbrev pub SaysNoSchedule : List ℕ → TextError → Type 0
SaysNoSchedule bytes (BadLine line) =
    (world : Geometry × ℕ) (events : List Event) → ¬ IsSchedule bytes world events
SaysNoSchedule bytes NoMemory = Unit {0}
