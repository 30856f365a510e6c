-- How replies are spelled.
use Rattle.std.specs.Prelude.{ℕ, ◌^◌, nat_eq, List, [], ◌∷◌, codes, get_or, take, drop, Option}
use Rattle.std.specs.Prelude.{Some, if◌then◌else◌}
use Rattle.std.specs.Str.{bytes_eq}
use Rattle.std.specs.Str.Parse.{digits_value}
use Rattle.plx_base.specs.declared.lease.LeaseName.{LeaseName}
use Rattle.plx_base.specs.declared.lease.LeaseName.TheVariants.{Root, Image, Extent}
use Rattle.plx_base.specs.declared.lease.LeaseRecord.{LeaseRecord}
use Rattle.plx_base.specs.declared.lease.LeaseRecord.TheVariants.{Free, Claimed}
use Rattle.plx_base.specs.declared.numbers.BlockNo.{BlockNo}
use Rattle.plx_commands.specs.declared.reply.Report.{Report}
use Rattle.plx_commands.specs.declared.reply.Reply.{Reply}
use Rattle.plx_commands.specs.declared.reply.Reply.TheVariants.{Attached, Detached, Created}
use Rattle.plx_commands.specs.declared.reply.Reply.TheVariants.{Deleted, Data, Written, Flushed}
use Rattle.plx_commands.specs.declared.reply.Reply.TheVariants.{Reserved, Renewed, Retired}
use Rattle.plx_commands.specs.declared.reply.Reply.TheVariants.{Reclaimed, NotAttached}
use Rattle.plx_commands.specs.declared.reply.Reply.TheVariants.{AlreadyAttached, NoImage, Exists}
use Rattle.plx_commands.specs.declared.reply.Reply.TheVariants.{OutOfRange, Busy, Lost, ReadFault}
use Rattle.plx_commands.specs.declared.reply.Reply.TheVariants.{WriteFault, Full, Damaged, WornOut}
use Rattle.plx_words.specs.Candidates.{by_first, payload_at, label_at, named_at, word_number_at}
use Rattle.plx_words.specs.Pieces.{Piece, word, number, named, label, data_word, flag}

-- the word of a lease
abbrev pub lease_piece : LeaseName → Piece
lease_piece Root = word (codes "lease=root")
lease_piece (Image slot) = named (codes "lease=image:") (2 ^ 32) slot.0
lease_piece (Extent extent) = named (codes "lease=extent:") (2 ^ 32) extent.0

-- the one lease that a word can name
abbrev pub lease_from : List ℕ → LeaseName
lease_from letters = if bytes_eq letters (codes "lease=root") then Root
    else if bytes_eq (take 12 letters) (codes "lease=image:")
    then Image (record { 0 = digits_value 10 (drop 12 letters) })
    else Extent (record { 0 = digits_value 10 (drop 13 letters) })

-- the words of what a lease's block says
abbrev pub record_line : LeaseRecord → List Piece
record_line Free = word (codes "free") ∷ []
record_line (Claimed claim until) =
    named (codes "boot=") (2 ^ 128) claim.boot.0 ∷ named (codes "claim=") (2 ^ 64) claim.number
    ∷ named (codes "sample=") (2 ^ 64) claim.sample ∷ named (codes "until=") (2 ^ 64) until ∷ []

-- the one record that words can spell
abbrev pub lease_record_in : List (List ℕ) → LeaseRecord
lease_record_in words = if bytes_eq (get_or words 2 []) (codes "free") then Free
    else Claimed (record {
      boot = record { 0 = named_at (codes "boot=") 2 words };
      number = named_at (codes "claim=") 3 words;
      sample = named_at (codes "sample=") 4 words;
    })
    (named_at (codes "until=") 5 words)

-- what an attach reports
abbrev pub report_line : Report → List Piece
report_line report =
    named (codes "live=") 2 (flag report.live) ∷ named (codes "gen=") (2 ^ 32) report.generation
    ∷ named (codes "size=") (2 ^ 32) report.size
    ∷ named (codes "writes=") (2 ^ 64) report.writes ∷ named (codes "taken=") (2 ^ 32) report.taken
    ∷ named (codes "dropped=") (2 ^ 32) report.dropped
    ∷ label (codes "label=") report.label ∷ []

-- the one report that words can spell
abbrev pub report_in : List (List ℕ) → Report
report_in words = record {
  live = nat_eq (named_at (codes "live=") 1 words) 1;
  generation = named_at (codes "gen=") 2 words;
  size = named_at (codes "size=") 3 words;
  writes = named_at (codes "writes=") 4 words;
  taken = named_at (codes "taken=") 5 words;
  dropped = named_at (codes "dropped=") 6 words;
  label = label_at (codes "label=") 7 words;
}

-- the words of a reply, by their pieces
abbrev pub reply_line : Reply → List Piece
reply_line (Attached report) = word (codes "attached") ∷ report_line report
reply_line Detached = word (codes "detached") ∷ []
reply_line Created = word (codes "created") ∷ []
reply_line Deleted = word (codes "deleted") ∷ []
reply_line (Data payload) = word (codes "data") ∷ data_word payload ∷ []
reply_line (Written n) = word (codes "written") ∷ number 0 (2 ^ 64) n ∷ []
reply_line (Flushed applied blocks) =
    word (codes "flushed") ∷ named (codes "applied=") (2 ^ 64) applied
    ∷ named (codes "blocks=") (2 ^ 32) blocks ∷ []
reply_line Reserved = word (codes "reserved") ∷ []
reply_line Renewed = word (codes "renewed") ∷ []
reply_line Retired = word (codes "retired") ∷ []
reply_line (Reclaimed covered freed reads) =
    word (codes "reclaimed") ∷ named (codes "covered=") (2 ^ 32) covered
    ∷ named (codes "freed=") (2 ^ 64) freed
    ∷ named (codes "reads=") (2 ^ 64) reads ∷ []
reply_line NotAttached = word (codes "not-attached") ∷ []
reply_line AlreadyAttached = word (codes "already-attached") ∷ []
reply_line NoImage = word (codes "no-image") ∷ []
reply_line Exists = word (codes "exists") ∷ []
reply_line (OutOfRange size) =
    word (codes "out-of-range") ∷ named (codes "size=") (2 ^ 32) size ∷ []
reply_line (Busy lease seen) = word (codes "busy") ∷ lease_piece lease ∷ record_line seen
reply_line (Lost lease until reading) =
    word (codes "lost") ∷ lease_piece lease ∷ named (codes "until=") (2 ^ 64) until
    ∷ named (codes "reading=") (2 ^ 64) reading ∷ []
reply_line (ReadFault block) =
    word (codes "read-fault") ∷ named (codes "block=") (2 ^ 64) block.0 ∷ []
reply_line (WriteFault block) =
    word (codes "write-fault") ∷ named (codes "block=") (2 ^ 64) block.0 ∷ []
reply_line Full = word (codes "full") ∷ []
reply_line (Damaged block) = word (codes "damaged") ∷ named (codes "block=") (2 ^ 64) block.0 ∷ []
reply_line (WornOut n) = word (codes "worn") ∷ named (codes "count=") (2 ^ 64) n ∷ []

-- the block that the word at this place can name
abbrev pub block_at : ℕ → List (List ℕ) → BlockNo
block_at k words = record { 0 = named_at (codes "block=") k words }

-- the one reply that words can spell
abbrev pub reply_in : List (List ℕ) → Option Reply
reply_in words = by_first words (
    (codes "attached", Some (Attached (report_in words)))
    ∷ (codes "detached", Some Detached)
    ∷ (codes "created", Some Created)
    ∷ (codes "deleted", Some Deleted)
    ∷ (codes "data", Some (Data (payload_at 1 words)))
    ∷ (codes "written", Some (Written (word_number_at 1 words)))
    ∷ (
      codes "flushed",
      Some (Flushed (named_at (codes "applied=") 1 words) (named_at (codes "blocks=") 2 words)),
    )
    ∷ (codes "reserved", Some Reserved)
    ∷ (codes "renewed", Some Renewed)
    ∷ (codes "retired", Some Retired)
    ∷ (
      codes "reclaimed",
      Some
          (Reclaimed (named_at (codes "covered=") 1 words)
          (named_at (codes "freed=") 2 words) (named_at (codes "reads=") 3 words)),
    )
    ∷ (codes "not-attached", Some NotAttached)
    ∷ (codes "already-attached", Some AlreadyAttached)
    ∷ (codes "no-image", Some NoImage)
    ∷ (codes "exists", Some Exists)
    ∷ (codes "out-of-range", Some (OutOfRange (named_at (codes "size=") 1 words)))
    ∷ (codes "busy", Some (Busy (lease_from (get_or words 1 [])) (lease_record_in words)))
    ∷ (
      codes "lost",
      Some
          (Lost (lease_from (get_or words 1 []))
          (named_at (codes "until=") 2 words) (named_at (codes "reading=") 3 words)),
    )
    ∷ (codes "read-fault", Some (ReadFault (block_at 1 words)))
    ∷ (codes "write-fault", Some (WriteFault (block_at 1 words)))
    ∷ (codes "full", Some Full)
    ∷ (codes "damaged", Some (Damaged (block_at 1 words)))
    ∷ (codes "worn", Some (WornOut (named_at (codes "count=") 1 words)))
    ∷ [])
