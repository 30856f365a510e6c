-- The blocks that a boot has in hand: by takes and gives of its log,
-- as long as the leases of their extents are held.
use Rattle.std.specs.Prelude.{◌+◌, ℕ, List, [], ◌∷◌, ◌++◌, filter, Bool, true, false, not, ◌&&◌}
use Rattle.std.specs.Prelude.{◌==◌, Option, Some, None, if◌then◌else◌}
use Rattle.plx_base.specs.declared.write_kind.WriteKind.{WriteKind}
use Rattle.plx_base.specs.declared.write_kind.WriteKind.TheVariants as kind
use Rattle.plx_commands.specs.Replies.{is_in}
use Rattle.plx_disk.specs.declared.ask.Ask.{Ask}
use Rattle.plx_disk.specs.declared.ask.Ask.TheVariants as ask
use Rattle.plx_disk.specs.declared.ask.Answer.{Answer}
use Rattle.plx_disk.specs.declared.ask.Answer.TheVariants as answer
use Rattle.plx_extent.specs.Maps.{bits_of}
use Rattle.plx_geom.specs.Geometry.{Geometry, extent_lease, lease_at}
use Rattle.plx_rules.specs.Holds.{Hold, Nothing, Seen, Wrote, Waited, Held}
use Rattle.plx_rules.specs.Rests.{extent_of, filled_blocks}

-- a lease is held
abbrev pub is_held : Hold → Bool
is_held Nothing = false
is_held (Seen sample) = false
is_held (Wrote claim until) = false
is_held (Waited claim until) = false
is_held (Held claim until) = true

-- the block that the last ask read, with its bytes, where that ask was a read
abbrev pub found_by : Ask → Answer → Option (ℕ × List ℕ)
found_by (ask.Read block) (answer.Bytes bytes) = Some (block.0, bytes)
found_by other answer = None

-- from this block on, the blocks whose bits are set in new bits and clear in old ones
abbrev pub set_since : (block : ℕ) → (old new : List Bool) → List ℕ
set_since block [] new = []
set_since block (was ∷ old) [] = []
set_since block (was ∷ old) (is ∷ new) =
    if is && not was then block ∷ set_since (block + 1) old new else set_since (block + 1) old new

-- blocks without those that are among the others
abbrev pub blocks_without : (others : List ℕ) → List ℕ → List ℕ
blocks_without others blocks = filter (λ block. not (is_in block others)) blocks

-- what is in hand once a map that was found so is written: a take adds the
-- blocks whose bits it sets, a give leaves out those whose bits it clears
abbrev pub hand_written : WriteKind → (map : ℕ) → (old new : List Bool) → List ℕ → List ℕ
hand_written kind.Take map old new hand = hand ++ set_since map old new
hand_written kind.Give map old new hand = blocks_without (set_since map new old) hand
hand_written other map old new hand = hand

-- the same, where that map was what was read directly before
abbrev pub hand_from : Geometry → Option (ℕ × List ℕ) →
    WriteKind → (block : ℕ) → List ℕ → List ℕ → List ℕ
hand_from g None kind block bytes hand = hand
hand_from g (Some found) kind block bytes hand =
    if found.0 == block
    then hand_written kind block (bits_of g.extent_blocks found.1)
    (bits_of g.extent_blocks bytes) hand
    else hand

-- what takes and gives make of what is in hand by an answer, before leases are looked at
abbrev pub hand_answered : Geometry → Option (ℕ × List ℕ) → Ask → List ℕ → Answer → List ℕ → List ℕ
hand_answered g found (ask.Write kind block guard) bytes answer.Done hand =
    hand_from g found kind block.0 bytes hand
hand_answered g found ask bytes answer hand = hand

-- of these blocks those that lie in an extent whose lease is held
abbrev pub hand_held : Geometry → (holds : ℕ → Hold) → List ℕ → List ℕ
hand_held g holds hand =
    filter (λ block. is_held (holds (lease_at (extent_lease g (extent_of g block))))) hand

-- ---- fresh blocks that were filled

-- the fresh blocks that were filled since the last link, with their bytes,
-- once a write is done: a link and the write of a record link them
abbrev pub filled_done : WriteKind → (block : ℕ) → List ℕ → List (ℕ × List ℕ) → List (ℕ × List ℕ)
filled_done kind.Fresh block bytes filled =
    (block, bytes) ∷ filter (λ one. not (one.0 == block)) filled
filled_done kind.Link block bytes filled = []
filled_done kind.Record block bytes filled = []
filled_done other block bytes filled = filled

-- the same after an answer
abbrev pub filled_answered : Ask → List ℕ → Answer → List (ℕ × List ℕ) → List (ℕ × List ℕ)
filled_answered (ask.Write kind block guard) bytes answer.Done filled =
    filled_done kind block.0 bytes filled
filled_answered ask bytes answer filled = filled

-- of these those that lie in an extent whose lease is held
abbrev pub filled_held : Geometry → (holds : ℕ → Hold) → List (ℕ × List ℕ) → List (ℕ × List ℕ)
filled_held g holds filled =
    filter (λ one. is_held (holds (lease_at (extent_lease g (extent_of g one.0))))) filled

-- ---- what links take out of the hand

-- what stays in hand from the ask of a write on: a link and the write of a record link the blocks
-- that were filled
abbrev pub hand_unlinked : WriteKind → (filled : List (ℕ × List ℕ)) → List ℕ → List ℕ
hand_unlinked kind.Link filled hand = blocks_without (filled_blocks filled) hand
hand_unlinked kind.Record filled hand = blocks_without (filled_blocks filled) hand
hand_unlinked other filled hand = hand

-- what stays in hand after any answer to an ask
abbrev pub hand_left : Ask → (filled : List (ℕ × List ℕ)) → List ℕ → List ℕ
hand_left (ask.Write kind block guard) filled hand = hand_unlinked kind filled hand
hand_left other filled hand = hand
