use Rattle.std.proofs.Common.{◌≡◌, ◌<◌, ◌++◌, ℕ, flat_map, take}
use Rattle.std.specs.List.{All as Each}
use Rattle.plx_words.specs.Pieces.{hex_byte}
use Rattle.plx_words.proofs.print_data.push_each.Given as goal

-- the digits of the bytes before this one were appended
abbrev pub invariant-loop-byte : goal.invariant-loop-byte
invariant-loop-byte l = record {
  text : l.text ≡ l.initial.text ++ flat_map hex_byte (take l.byte-index l.bytes);
  small : Each (λ (byte : ℕ). byte < 256) (take l.byte-index l.bytes);
}
