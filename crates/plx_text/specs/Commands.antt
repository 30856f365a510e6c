-- How commands are spelled.
use Rattle.std.specs.Prelude.{ℕ, List, [], ◌∷◌, ◌++◌, codes, Option, Some}
use Rattle.plx_base.specs.declared.numbers.SlotNo.{SlotNo}
use Rattle.plx_commands.specs.declared.command.Command.{Command}
use Rattle.plx_commands.specs.declared.command.Command.TheVariants.{Attach, Detach, Create, Delete}
use Rattle.plx_commands.specs.declared.command.Command.TheVariants.{Read, Write, Flush, Reserve}
use Rattle.plx_commands.specs.declared.command.Command.TheVariants.{Renew, Retire, Reclaim}
use Rattle.plx_words.specs.Candidates.{Reads, by_first, payload_at, label_at, word_number_at}
use Rattle.plx_words.specs.Pieces.{Piece, word, number, small, label, data_word, unspelled, Spell}

-- the words of a command, by their pieces
abbrev pub command_line : Command → List Piece
command_line (Attach slot) = word (codes "attach") ∷ small slot.0 ∷ []
command_line (Detach slot) = word (codes "detach") ∷ small slot.0 ∷ []
command_line (Create slot size name) =
    word (codes "create") ∷ small slot.0 ∷ small size ∷ label [] name ∷ []
command_line (Delete slot) = word (codes "delete") ∷ small slot.0 ∷ []
command_line (Read slot vblock) = word (codes "read") ∷ small slot.0 ∷ small vblock ∷ []
command_line (Write slot vblock payload) =
    word (codes "write") ∷ small slot.0 ∷ small vblock ∷ data_word payload ∷ []
command_line (Flush slot) = word (codes "flush") ∷ small slot.0 ∷ []
command_line (Reserve count) = word (codes "reserve") ∷ number 1 257 count ∷ []
command_line Renew = word (codes "renew") ∷ []
command_line Retire = word (codes "retire") ∷ []
command_line Reclaim = word (codes "reclaim") ∷ []

-- the same of a command of a schedule. These aren't
-- built yet, and no word of a schedule spells them
abbrev pub built_line : Command → List Piece
built_line (Flush slot) = unspelled ∷ []
built_line Reclaim = unspelled ∷ []
built_line other = command_line other

-- these words of a schedule spell a command
abbrev pub SpellsCommand : Command → List (List ℕ) → Type 0
SpellsCommand command words = Spell (built_line command) words

-- the slot that the word at this place can spell
abbrev pub slot_at : ℕ → List (List ℕ) → SlotNo
slot_at k words = record { 0 = word_number_at k words }

-- the commands that name a slot alone, by the first word
abbrev pub slot_rows : List (List ℕ) → List (List ℕ × Option Command)
slot_rows words = (codes "attach", Some (Attach (slot_at 1 words)))
    ∷ (codes "detach", Some (Detach (slot_at 1 words)))
    ∷ (codes "delete", Some (Delete (slot_at 1 words)))
    ∷ []

-- the commands that words can spell, by the first word
abbrev pub built_rows : List (List ℕ) → List (List ℕ × Option Command)
built_rows words =
    (codes "create", Some (Create (slot_at 1 words) (word_number_at 2 words) (label_at [] 3 words)))
    ∷ (codes "read", Some (Read (slot_at 1 words) (word_number_at 2 words)))
    ∷ (codes "write", Some (Write (slot_at 1 words) (word_number_at 2 words) (payload_at 3 words)))
    ∷ (codes "reserve", Some (Reserve (word_number_at 1 words)))
    ∷ (codes "renew", Some Renew)
    ∷ (codes "retire", Some Retire)
    ∷ slot_rows words

-- the same of commands that aren't built yet
abbrev pub other_rows : List (List ℕ) → List (List ℕ × Option Command)
other_rows words = (codes "flush", Some (Flush (slot_at 1 words)))
    ∷ (codes "reclaim", Some Reclaim)
    ∷ []

-- the one command that words can spell
abbrev pub command_of : List (List ℕ) → Option Command
command_of words = by_first words (built_rows words ++ other_rows words)

-- the one command that words of a schedule can spell
abbrev pub built_of : List (List ℕ) → Option Command
built_of words = by_first words (built_rows words)

-- what a reader of a command's words gives
abbrev pub ReadsCommand : Option Command → List (List ℕ) → Type 0
ReadsCommand result words = Reads result (built_of words) (λ command. SpellsCommand command words)
