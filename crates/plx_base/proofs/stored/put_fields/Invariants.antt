use Rattle.std.proofs.Common.{◌≡◌, ◌+◌, length, drop}
use Rattle.plx_base.specs.Blocks.{with_bytes_at}
use Rattle.plx_base.specs.Spelling.{fields_bytes, fields_width}
use Rattle.plx_base.proofs.stored.put_fields.Given as goal

-- what is still to be written, at its place, makes the whole
abbrev pub invariant-loop-field : goal.invariant-loop-field
invariant-loop-field l =
    (length l.bytes ≡ length l.fn.bytes)
    × (l.place + fields_width (drop l.field-index l.fields) ≡ l.at + fields_width l.fields)
    × (with_bytes_at l.place (fields_bytes (drop l.field-index l.fields)) l.bytes ≡ with_bytes_at l.at (fields_bytes l.fields) l.fn.bytes)
