-- The one payload with which the program answers.
use Rattle.std.specs.Prelude.{ℕ, List, slice_index, if◌then◌else◌}
use Rattle.std.specs.Str.{bytes_eq}
use Rattle.plx_base.specs.Blocks.{filled}
use Rattle.plx_base.specs.declared.payload.Payload.{Payload}
use Rattle.plx_base.specs.declared.payload.Payload.TheVariants.{All, Whole}

-- the payload of a block: one byte where all its bytes are equal, else all of them
abbrev pub payload_of : List ℕ → Payload
payload_of block =
    if bytes_eq block (filled (slice_index block 0)) then All (slice_index block 0) else Whole block
