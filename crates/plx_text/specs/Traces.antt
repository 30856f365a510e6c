-- The text of a trace.
use Rattle.std.specs.Prelude.{◌^◌, ℕ, List, [], ◌∷◌, ◌++◌, codes, map, drop, Option, Some}
use Rattle.std.specs.Prelude.{option_map}
use Rattle.plx_base.specs.Canonical.{payload_of}
use Rattle.plx_base.specs.Payload.{bytes_of}
use Rattle.plx_base.specs.declared.payload.Payload.{Payload}
use Rattle.plx_commands.specs.declared.command.Command.{Command}
use Rattle.plx_commands.specs.declared.command.Command.TheVariants.{Write}
use Rattle.plx_commands.specs.declared.entry.Entry.{Entry}
use Rattle.plx_commands.specs.declared.entry.Entry.TheVariants as entry
use Rattle.plx_commands.specs.declared.reply.Reply.{Reply}
use Rattle.plx_commands.specs.declared.reply.Reply.TheVariants.{Data}
use Rattle.plx_geom.specs.Geometry.{Geometry}
use Rattle.plx_words.specs.Candidates.{by_first}
use Rattle.plx_text.specs.Commands.{command_line, command_of}
use Rattle.plx_text.specs.Events.{appliance_at}
use Rattle.plx_words.specs.Pieces.{Piece, word, number, small, named, all_spelled}
use Rattle.plx_text.specs.Replies.{reply_line, reply_in}
use Rattle.plx_text.specs.Schedules.{world_line}
use Rattle.plx_words.specs.Texts.{text_of}
use Rattle.plx_words.specs.Words.{line_text}

-- the line of an entry, by its pieces
abbrev pub entry_line : Entry → List Piece
entry_line (entry.Start appliance command) =
    word (codes "start") ∷ small appliance.0 ∷ command_line command
entry_line (entry.Reply appliance reply) =
    word (codes "reply") ∷ small appliance.0 ∷ reply_line reply
entry_line (entry.Crash appliance) = word (codes "crash") ∷ small appliance.0 ∷ []

-- the one entry that words can spell
abbrev pub entry_in : List (List ℕ) → Option Entry
entry_in words = by_first words ((
  codes "start",
  option_map (λ command. entry.Start (appliance_at 1 words) command) (command_of (drop 2 words)),
)
    ∷ (
      codes "reply",
      option_map (λ reply. entry.Reply (appliance_at 1 words) reply) (reply_in (drop 2 words)),
    )
    ∷ (codes "crash", Some (entry.Crash (appliance_at 1 words)))
    ∷ [])

-- plain data: what a block holds, by one byte exactly where all bytes are equal
abbrev pub plain : Payload → Payload
plain payload = payload_of (bytes_of payload)

-- a command with plain data
abbrev pub plain_command : Command → Command
plain_command (Write slot vblock payload) = Write slot vblock (plain payload)
plain_command other = other

-- a reply with plain data
abbrev pub plain_reply : Reply → Reply
plain_reply (Data payload) = Data (plain payload)
plain_reply other = other

-- an entry with plain data
abbrev pub plain_entry : Entry → Entry
plain_entry (entry.Start appliance command) = entry.Start appliance (plain_command command)
plain_entry (entry.Reply appliance reply) = entry.Reply appliance (plain_reply reply)
plain_entry (entry.Crash appliance) = entry.Crash appliance

-- the lines of entries
abbrev pub entry_lines : List Entry → List (List Piece)
entry_lines entries = map (λ one. entry_line (plain_entry one)) entries

-- the last line of a trace
abbrev pub end_line : ℕ → ℕ → List Piece
end_line reachable allocated =
    word (codes "end") ∷ named (codes "reachable=") (2 ^ 64) reachable
    ∷ named (codes "allocated=") (2 ^ 64) allocated ∷ []

-- the lines of a trace
abbrev pub trace_lines : Geometry → ℕ → List Entry → ℕ → ℕ → List (List Piece)
trace_lines g appliances entries reachable allocated =
    world_line g appliances ∷ (entry_lines entries ++ end_line reachable allocated ∷ [])

-- the text of a trace, and of the two counts of its last line
abbrev pub trace_text : Geometry → ℕ → List Entry → ℕ → ℕ → List ℕ
trace_text g appliances entries reachable allocated =
    text_of (trace_lines g appliances entries reachable allocated)

-- what is said of a text whose line with this number isn't in the grammar
abbrev pub bad_line : ℕ → List Piece
bad_line n = word (codes "bad") ∷ word (codes "line") ∷ number 1 (2 ^ 64) n ∷ []

-- its text
abbrev pub bad_line_text : ℕ → List ℕ
bad_line_text n = line_text (all_spelled (bad_line n))
