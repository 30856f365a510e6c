-- Descriptors as bytes: each is read back, is spelled in one way, and differs from another and from an empty one in its first sector alone.
use Rattle.std.proofs.Common.{◌≡◌, ◌≢◌, ℕ, List, [], ◌∷◌, ◌++◌, length, drop, refl, ap, sym, ◌∙◌, subst, arith, Bool, true, false, Option, Some, None}
use Rattle.std.proofs.lemmas.Bool.Decides.{nat_tests}
use Rattle.std.proofs.lemmas.List.{drop-replicate}
use Rattle.std.proofs.lemmas.Slice.Eq.{bytes_eq-Decides}
use Rattle.std.specs.List.{All}
use Rattle.std.specs.Prelude.{slice_index}
use Rattle.std.specs.Str.{bytes_eq}
use Rattle.plx_base.specs.Blocks.{zeros, filled}
use Rattle.plx_base.specs.Spelling.{IsReading, OnlySector, fields_bytes, field_number, read_by, block_of_fields}
use Rattle.plx_base.specs.declared.stored.Field.{Field}
use Rattle.plx_base.proofs.Spelling.{AreFields, drop-padded, length-spelled, length-spelled_head, only-spelled, only-zeros, read-exact, read-past, read-some, read-unspelled, spelled-eq, spelled-fields}
use Rattle.plx_base.proofs.Uniform.{filled-All, All-filled}
use Rattle.plx_gate.specs.Descriptors.{IsDescriptor, IsDescriptorReading, descriptor_bytes, descriptor_fields, descriptor_magic, found_descriptor, is_descriptor, of_descriptor, read_descriptor}
use Rattle.plx_gate.specs.declared.descriptor.Descriptor.{Descriptor}

-- the descriptor of its fields
abbrev of_fields : List Field → Descriptor
of_fields (generation ∷ vblock ∷ number ∷ rest) = record { generation = field_number generation; vblock = field_number vblock; number = field_number number }
of_fields rest = record { generation = 0; vblock = 0; number = 0 }

-- each field is a number of its width
small-fields : (d : Descriptor) → IsDescriptor d → AreFields (descriptor_fields d)
small-fields d h =
    let a = h.generation_high in
    let b = h.vblock in
    let c = h.number_high in
    (omega (arith, a), (omega (arith, b), (omega (arith, c), tt)))

-- a descriptor is found in its own block
pub descriptor-found : (d : Descriptor) → IsDescriptor d → found_descriptor (descriptor_bytes d) ≡ d
unfolding descriptor_bytes
descriptor-found d h = ap of_fields (spelled-fields descriptor_magic (descriptor_fields d) [] (small-fields d h))

-- the test of the limits tells
is_descriptor-true : (d : Descriptor) → IsDescriptor d → is_descriptor d ≡ true
is_descriptor-true d h = grind (arith, nat_tests)

true-is_descriptor : (d : Descriptor) → is_descriptor d ≡ true → IsDescriptor d
true-is_descriptor d h = record {
  generation_low = grind (arith, nat_tests);
  generation_high = grind (arith, nat_tests);
  vblock = grind (arith, nat_tests);
  number_low = grind (arith, nat_tests);
  number_high = grind (arith, nat_tests);
}

-- what a block that isn't empty says
abbrev pub full_of : List ℕ → Option Descriptor
full_of bytes = read_by is_descriptor descriptor_bytes (found_descriptor bytes) bytes

full-reading : (bytes : List ℕ) → IsReading IsDescriptor descriptor_bytes bytes (full_of bytes)
full-reading bytes = read-exact IsDescriptor is_descriptor descriptor_bytes found_descriptor is_descriptor-true true-is_descriptor descriptor-found bytes

-- a descriptor's block isn't empty
first-descriptor : (d : Descriptor) → slice_index (descriptor_bytes d) 0 ≡ 80
unfolding descriptor_bytes
first-descriptor d = ap (λ xs. slice_index xs 0) (spelled-eq descriptor_magic (descriptor_fields d) [])

first-zeros : slice_index zeros 0 ≡ 0
unfolding zeros
first-zeros = refl

pub descriptor-full : (d : Descriptor) → descriptor_bytes d ≢ zeros
descriptor-full d e = absurd (omega (arith, first-descriptor d, first-zeros, ap (λ xs. slice_index xs 0) e))

-- the two answers of the test whether a block is zeros
zeros-true : (bytes : List ℕ) → bytes ≡ zeros → bytes_eq bytes zeros ≡ true
zeros-true bytes e = (bytes_eq-Decides bytes zeros).1 e

zeros-false : (bytes : List ℕ) → bytes ≢ zeros → bytes_eq bytes zeros ≡ false
zeros-false bytes h = by_test (bytes_eq bytes zeros) ((bytes_eq-Decides bytes zeros).0)
  where
    by_test : (b : Bool) → (b ≡ true → bytes ≡ zeros) → b ≡ false
    by_test true t = absurd (h (t refl))
    by_test false t = refl

read-full : (bytes : List ℕ) → bytes ≢ zeros → read_descriptor bytes ≡ of_descriptor (full_of bytes)
unfolding read_descriptor
read-full bytes h = rw (zeros-false bytes h) refl

-- zeros are read as an empty descriptor
pub read-zeros : read_descriptor zeros ≡ Some None
unfolding read_descriptor
read-zeros = rw (zeros-true zeros refl) refl

-- reading is exact
pub descriptor-reading : (bytes : List ℕ) → IsDescriptorReading bytes (read_descriptor bytes)
descriptor-reading bytes = by_test (bytes_eq bytes zeros) ((bytes_eq-Decides bytes zeros).0) ((bytes_eq-Decides bytes zeros).1)
  where
    by_full : (found : Option Descriptor) → bytes ≢ zeros → IsReading IsDescriptor descriptor_bytes bytes found → IsDescriptorReading bytes (of_descriptor found)
    by_full (Some d) h r = r
    by_full None h r = (h, r)

    by_test : (b : Bool) → (b ≡ true → bytes ≡ zeros) → (bytes ≡ zeros → b ≡ true) → IsDescriptorReading bytes (read_descriptor bytes)
    by_test true is not_is = subst (IsDescriptorReading bytes) (sym (ap read_descriptor (is refl) ∙ read-zeros)) (is refl)
    by_test false is not_is =
        let h : bytes ≢ zeros = λ e. (let bad : false ≡ true = not_is e in cc) in
        subst (IsDescriptorReading bytes) (sym (read-full bytes h)) (by_full (full_of bytes) h (full-reading bytes))

-- a descriptor within the limits is read back
pub read-descriptor : (d : Descriptor) → IsDescriptor d → read_descriptor (descriptor_bytes d) ≡ Some (Some d)
read-descriptor d h =
    read-full (descriptor_bytes d) (descriptor-full d)
    ∙ ap of_descriptor
    (ap (λ x. read_by is_descriptor descriptor_bytes x (descriptor_bytes d)) (descriptor-found d h)
    ∙ read-some is_descriptor descriptor_bytes d (descriptor_bytes d) (is_descriptor-true d h) refl)

-- two descriptors that are spelled alike are one
pub descriptor-same : (d e : Descriptor) → IsDescriptor d → IsDescriptor e → descriptor_bytes d ≡ descriptor_bytes e → d ≡ e
descriptor-same d e hd he same = sym (descriptor-found d hd) ∙ (ap found_descriptor same ∙ descriptor-found e he)

-- a block that is read as a descriptor is the spelling of it
pub descriptor-only : (bytes : List ℕ) (d : Descriptor) → read_descriptor bytes ≡ Some (Some d) → (bytes ≡ descriptor_bytes d) × IsDescriptor d
descriptor-only bytes d e = let r : IsDescriptorReading bytes (Some (Some d)) = subst (IsDescriptorReading bytes) e (descriptor-reading bytes) in (r.1, r.0)

-- a block that is read as an empty descriptor is zeros
pub read-empty : (bytes : List ℕ) → read_descriptor bytes ≡ Some None → bytes ≡ zeros
read-empty bytes e = subst (IsDescriptorReading bytes) e (descriptor-reading bytes)

-- a descriptor fills a block
pub length-descriptor : (d : Descriptor) → length (descriptor_bytes d) ≡ 4096
unfolding descriptor_bytes
length-descriptor d = length-spelled descriptor_magic (descriptor_fields d) [] (omega arith)

-- the first sector tells all
pub descriptor-sector : (new old : Descriptor) → OnlySector 0 (descriptor_bytes new) (descriptor_bytes old)
unfolding descriptor_bytes
descriptor-sector new old = only-spelled descriptor_magic (descriptor_fields new) [] descriptor_magic (descriptor_fields old) [] (omega arith) (omega arith)

-- also over an empty one
pub empty-sector : (new : Descriptor) → OnlySector 0 (descriptor_bytes new) zeros
unfolding descriptor_bytes block_of_fields
empty-sector new =
    only-zeros (descriptor_magic ++ (fields_bytes (descriptor_fields new) ++ [])) (let l = length-spelled_head descriptor_magic (descriptor_fields new) [] in omega (arith, l))

-- past its first sector a descriptor is zeros
pub descriptor-back : (d : Descriptor) → drop 512 (descriptor_bytes d) ≡ drop 512 zeros
unfolding descriptor_bytes block_of_fields zeros
descriptor-back d =
    drop-padded 512 (descriptor_magic ++ (fields_bytes (descriptor_fields d) ++ [])) (let l = length-spelled_head descriptor_magic (descriptor_fields d) [] in omega (arith, l))
    ∙ sym (drop-replicate 512 4096 0)

-- the block of a descriptor, written out
pub descriptor-eq : (d : Descriptor) → descriptor_bytes d ≡ block_of_fields descriptor_magic (descriptor_fields d) []
unfolding descriptor_bytes
descriptor-eq d = refl

-- what each way through a reading tells

pub zeros-All : (bytes : List ℕ) → length bytes ≡ 4096 → All (λ b. b ≡ 0) bytes → bytes ≡ zeros
unfolding filled zeros
zeros-All bytes long h = filled-All 0 bytes long h

pub All-zeros : (bytes : List ℕ) → bytes ≡ zeros → All (λ b. b ≡ 0) bytes
unfolding filled zeros
All-zeros bytes e = All-filled 0 bytes e

pub descriptor-some : (bytes : List ℕ) (d : Descriptor) → bytes ≢ zeros → d ≡ found_descriptor bytes → is_descriptor d ≡ true → bytes ≡ descriptor_bytes d →
    Some (Some d) ≡ read_descriptor bytes
descriptor-some bytes d full found within is = sym (ap read_descriptor is ∙ read-descriptor d (true-is_descriptor d within))

pub descriptor-past : (bytes : List ℕ) (d : Descriptor) → bytes ≢ zeros → d ≡ found_descriptor bytes → is_descriptor d ≡ false → None ≡ read_descriptor bytes
descriptor-past bytes d full found past =
    sym (read-full bytes full ∙ ap of_descriptor (read-past is_descriptor descriptor_bytes (found_descriptor bytes) bytes (ap is_descriptor (sym found) ∙ past)))

pub descriptor-other : (bytes : List ℕ) (d : Descriptor) → bytes ≢ zeros → d ≡ found_descriptor bytes → bytes ≢ descriptor_bytes d → None ≡ read_descriptor bytes
descriptor-other bytes d full found other =
    sym (read-full bytes full ∙ ap of_descriptor (read-unspelled is_descriptor descriptor_bytes (found_descriptor bytes) bytes (λ e. other (e ∙ ap descriptor_bytes (sym found)))))
