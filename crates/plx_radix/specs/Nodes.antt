-- Nodes as bytes: 512 pointers of eight bytes.
use Rattle.std.specs.Prelude.{ℕ, ◌*◌, ◌^◌, List, if◌then◌else◌, ◌==◌, leb}
use Rattle.plx_base.specs.Blocks.{with_bytes_at}
use Rattle.plx_base.specs.Fields.{little, number_at}
use Rattle.plx_base.specs.Pointers.{without_mark}
use Rattle.plx_radix.specs.Paths.{Pointer, Hole, To}

-- a number as a pointer: bit 63 is the mark, the rest is a block number, and block number 0 is a hole
unfoldable pub pointer_of : ℕ → Pointer
pointer_of number = if without_mark number == 0 then Hole else To (without_mark number) (leb (2 ^ 63) number)

-- the pointer at a place of a node
abbrev pub pointer_at : List ℕ → ℕ → Pointer
pointer_at node digit = pointer_of (number_at 8 (8 * digit) node)

-- a node with one pointer written
abbrev pub with_pointer : (digit number : ℕ) → List ℕ → List ℕ
with_pointer digit number node = with_bytes_at (8 * digit) (little 8 number) node
