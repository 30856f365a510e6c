-- The bytes that a boot knows of each attached image.
use Rattle.std.specs.Prelude.{ℕ, List, [], ◌∷◌, Bool, true, false, ◌||◌, ◌&&◌, if◌then◌else◌, ◌==◌}
use Rattle.std.specs.Prelude.{nat_le, Option, Some, None}
use Rattle.plx_base.specs.declared.write_kind.WriteKind.TheVariants as kind
use Rattle.plx_commands.specs.declared.command.Command.{Command}
use Rattle.plx_commands.specs.declared.command.Command.TheVariants.{Attach, Detach, Create, Delete}
use Rattle.plx_commands.specs.declared.command.Command.TheVariants.{Read, Write, Flush, Reserve}
use Rattle.plx_commands.specs.declared.command.Command.TheVariants.{Renew, Retire, Reclaim}
use Rattle.plx_disk.specs.declared.ask.Ask.{Ask}
use Rattle.plx_disk.specs.declared.ask.Ask.TheVariants as ask
use Rattle.plx_disk.specs.declared.ask.Answer.{Answer}
use Rattle.plx_disk.specs.declared.ask.Answer.TheVariants as answer
use Rattle.plx_gate.specs.declared.image.ImageRecord.{ImageRecord}
use Rattle.plx_geom.specs.Geometry.{Geometry, record_at, journal_start}
use Rattle.plx_rules.specs.Stored.{Given, record_on}
use Rattle.law_run.specs.CommandLogs.{Exchange, Finished, CommandLog}
use Rattle.law_run.specs.Sessions.{names, is_attached}

-- no bytes are given
abbrev pub nothing_given : Given
nothing_given = λ block. None

-- these bytes of a block, and what was given of the others
abbrev pub given_with : Given → (block : ℕ) → List ℕ → Given
given_with given block bytes = λ b. if b == block then Some bytes else given b

-- what an exchange tells of a block: the bytes that were read there, or written and Done
abbrev pub given_after_exchange : Ask → List ℕ → Answer → Given → Given
given_after_exchange (ask.Read block) bytes (answer.Bytes read) given =
    given_with given block.0 read
given_after_exchange (ask.Write kind block guard) bytes answer.Done given =
    given_with given block.0 bytes
given_after_exchange ask bytes answer given = given

-- what some exchanges tell, the newest bytes of each block
abbrev pub given_after_exchanges : List Exchange → Given → Given
given_after_exchanges [] given = given
given_after_exchanges (exchange ∷ older) given =
    given_after_exchange exchange.ask exchange.bytes
    exchange.answer (given_after_exchanges older given)

-- whether a command makes an image anew
abbrev pub is_making : Command → Bool
is_making (Attach slot) = false
is_making (Detach slot) = false
is_making (Create slot size label) = true
is_making (Delete slot) = true
is_making (Read slot vblock) = false
is_making (Write slot vblock payload) = false
is_making (Flush slot) = false
is_making (Reserve count) = false
is_making Renew = false
is_making Retire = false
is_making Reclaim = false

-- whether an exchange has written the record in this block
abbrev pub is_record_done : (record_block : ℕ) → Ask → Answer → Bool
is_record_done record_block (ask.Write kind.Record block guard) answer.Done =
    block.0 == record_block
is_record_done record_block ask answer = false

-- what was given before the journals
abbrev pub without_journal : Geometry → Given → Given
without_journal g given = λ block. if nat_le (journal_start g) block then None else given block

-- what is given once an image was made anew: its journal and its tree are forgotten
abbrev pub unless_made : Geometry → (made : Bool) → Given → Given
unless_made g true given = without_journal g given
unless_made g false given = given

-- what some exchanges of a command tell of an image
abbrev pub given_after_command : Geometry → (image : ℕ) → Command → List Exchange → Given → Given
given_after_command g image command [] given = given
given_after_command g image command (exchange ∷ older) given =
    unless_made g
    (is_record_done (record_at g image) exchange.ask exchange.answer && is_making command)
    (given_after_exchange exchange.ask exchange.bytes exchange.answer
    (given_after_command g image command older given))

-- what was known of an image, where it is attached
abbrev pub where_attached : Bool → Given → Given
where_attached true given = given
where_attached false given = nothing_given

-- the known bytes of an image after some commands: what those that
-- name it have read, or written and Done, since its attach began
abbrev pub given_after : Geometry → List Finished → (image : ℕ) → Given
given_after g [] image = nothing_given
given_after g (finished ∷ older) image =
    if names finished.command image
    then given_after_command g image finished.command finished.exchanges
    (where_attached (is_attached older image) (given_after g older image))
    else given_after g older image

-- those with which a command begins: none where the image isn't attached
abbrev pub known_from : Geometry → CommandLog → (image : ℕ) → Given
known_from g log image =
    where_attached (is_attached log.before image) (given_after g log.before image)

-- and those that are known by now
abbrev pub known_in : Geometry → CommandLog → (image : ℕ) → Given
known_in g log image =
    if names log.command image
    then given_after_command g image log.command log.exchanges (known_from g log image)
    else given_after g log.before image

-- whether an ask is a write of this block
abbrev pub is_write_of : (block : ℕ) → Ask → Bool
is_write_of block (ask.Write kind written guard) = block == written.0
is_write_of block (ask.Read read) = false
is_write_of block ask.Clock = false
is_write_of block (ask.Until from) = false

-- whether some exchanges asked for a write of this block
abbrev pub has_written : (block : ℕ) → List Exchange → Bool
has_written block [] = false
has_written block (exchange ∷ older) = is_write_of block exchange.ask || has_written block older

-- what is told, with each block that was written as it was known before the first write of it
abbrev pub given_before_writes : List Exchange → Given → Given
given_before_writes [] given = given
given_before_writes (exchange ∷ older) given =
    λ block.
    if has_written block (exchange ∷ older)
    then given_before_writes older given block
    else given_after_exchanges (exchange ∷ older) given block

-- the bytes that are known by now, but as they were before the command's own writes
abbrev pub known_before : Geometry → CommandLog → (image : ℕ) → Given
known_before g log image = given_before_writes log.exchanges (known_from g log image)

-- the record of an image, as it is known when a command begins
abbrev pub record_known : Geometry → CommandLog → (image : ℕ) → Option ImageRecord
record_known g log image = record_on g (known_from g log image) image
