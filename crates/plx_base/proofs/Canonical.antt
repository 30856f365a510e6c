-- The one payload of a block.
use Rattle.std.proofs.Common.{◌≡◌, ◌↔◌, ℕ, List, length, refl, sym, ap, ◌∙◌, inl, inr, arith}
use Rattle.std.specs.Prelude.{slice_index}
use Rattle.std.specs.Str.{bytes_eq}
use Rattle.std.proofs.lemmas.Slice.Eq.{bytes_eq-Decides}
use Rattle.plx_base.specs.Blocks.{filled}
use Rattle.plx_base.specs.Payload.{IsAll, IsUniform, bytes_of}
use Rattle.plx_base.specs.Canonical.{payload_of}
use Rattle.plx_base.specs.declared.payload.Payload.{Payload}
use Rattle.plx_base.specs.declared.payload.Payload.TheVariants.{All, Whole}
use Rattle.plx_base.proofs.Uniform.{All-filled, length-filled}
use Rattle.plx_base.proofs.Tests.{either}

-- a block of one byte has that byte as its payload
pub payload_of-filled : (block : List ℕ) → block ≡ filled (slice_index block 0) → payload_of block ≡ All (slice_index block 0)
payload_of-filled block h = rw ((bytes_eq-Decides block (filled (slice_index block 0))).1 h) refl

-- any other block is whole
pub payload_of-whole : (block : List ℕ) → ¬ (block ≡ filled (slice_index block 0)) → payload_of block ≡ Whole block
payload_of-whole block h = elim (either (bytes_eq block (filled (slice_index block 0)))) [
  | inl same ↦ absurd (h ((bytes_eq-Decides block (filled (slice_index block 0))).0 same))
  | inr other ↦ rw other refl
]

-- the payload of a block stands for its bytes
pub bytes_of-payload_of : (block : List ℕ) → bytes_of (payload_of block) ≡ block
bytes_of-payload_of block = elim (either (bytes_eq block (filled (slice_index block 0)))) [
  | inl same ↦ rw same (sym ((bytes_eq-Decides block (filled (slice_index block 0))).0 same))
  | inr other ↦ rw other refl
]

-- the first byte of a block of one byte
pub first-filled : (byte : ℕ) → slice_index (filled byte) 0 ≡ byte
first-filled byte = All-filled byte (filled byte) refl 0 0 (let long = length-filled byte in omega (arith, long))

-- a payload that is one byte exactly where the bytes are equal is the one payload of its bytes
pub payload_of-is : (payload : Payload) (block : List ℕ) → length block ≡ 4096 → bytes_of payload ≡ block → (IsAll payload ↔ IsUniform block) →
    payload ≡ payload_of block
payload_of-is (All byte) block long same h =
    let first : slice_index block 0 ≡ byte = ap (λ xs. slice_index xs 0) (sym same) ∙ first-filled byte in
    sym (payload_of-filled block (rw first (sym same)) ∙ ap All first)
payload_of-is (Whole bytes) block long same h =
    ap Whole same ∙ sym (payload_of-whole block (λ uniform. h.1 (slice_index block 0, uniform)))

-- a block of one byte throughout
pub payload_of-byte : (byte : ℕ) → payload_of (filled byte) ≡ All byte
payload_of-byte byte = sym (payload_of-is (All byte) (filled byte) (length-filled byte) refl ((λ _. (byte, refl)), λ _. tt))
