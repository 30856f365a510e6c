-- What payloads stand for.
use Rattle.std.specs.Prelude.{◌≡◌, ℕ, List}
use Rattle.plx_base.specs.Blocks.{filled}
use Rattle.plx_base.specs.declared.payload.Payload.{Payload}
use Rattle.plx_base.specs.declared.payload.Payload.TheVariants.{All, Whole}

-- the bytes that a payload stands for
abbrev pub bytes_of : Payload → List ℕ
bytes_of (All byte) = filled byte
bytes_of (Whole block) = block

-- the payload is one byte throughout
abbrev pub IsAll : Payload → Type 0
IsAll (All byte) = Unit {0}
IsAll (Whole block) = ⊥

-- all bytes of a block are equal
abbrev pub IsUniform : List ℕ → Type 0
IsUniform block = (byte : ℕ) × (block ≡ filled byte)
