-- Image records as bytes: each is read back, is spelled in one way, and differs from another in its first sector alone.
use Rattle.std.proofs.Common.{◌≡◌, ◌≢◌, ℕ, inl, inr, ◌^◌, ◌<◌, ◌≤◌, List, [], ◌∷◌, length, take, drop, refl, ap, sym, ◌∙◌, subst, arith, true, false, Some, None}
use Rattle.std.proofs.lemmas.Bool.Decides.{nat_tests, eqb_tells}
use Rattle.std.proofs.lemmas.List.{length-drop, length-take}
use Rattle.std.specs.Prelude.{◌&&◌, ◌==◌, if◌then◌else◌}
use Rattle.plx_base.specs.Fields.{number_at}
use Rattle.plx_base.specs.Labels.{IsLabel, is_label}
use Rattle.plx_base.specs.Pointers.{IsPointer, is_pointer}
use Rattle.plx_base.specs.Spelling.{IsReading, OnlySector, fields_width, field_number, read_by, block_of_fields}
use Rattle.plx_base.specs.declared.stored.Field.{Field}
use Rattle.plx_base.proofs.Labels.{is_label-true, true-is_label}
use Rattle.plx_base.proofs.Pointers.{IsPointer-lt, is_pointer-true, true-is_pointer}
use Rattle.plx_base.proofs.Spelling.{AreFields, length-spelled, only-spelled, read-exact, read-past, read-some, read-unspelled, spelled-fields, spelled-last}
use Rattle.plx_base.proofs.Tests.{all_three, and-left, and-right, not-true}
use Rattle.plx_gate.specs.Images.{IsImage, are_within, found_image, found_label, found_live, image_bytes, image_fields, image_magic, is_image, label_of, read_image}
use Rattle.plx_gate.specs.declared.image.ImageRecord.{ImageRecord}
use Rattle.plx_gate.specs.declared.image.ImageRecord.TheVariants.{Free, Live}

-- the image record of these numbers and this label
abbrev record_of_fields : (state generation size taken root applied : ℕ) → List ℕ → ImageRecord
record_of_fields state generation size taken root applied label =
    if state == 0 then Free generation
    else Live (record { generation = generation; size = size; taken = taken; root = root; applied = applied; label = label })

-- the image record of its fields and its label
abbrev of_fields : List Field → List ℕ → ImageRecord
of_fields (state ∷ generation ∷ size ∷ taken ∷ root ∷ applied ∷ label_len ∷ unnamed ∷ rest) label =
    record_of_fields (field_number state) (field_number generation) (field_number size) (field_number taken) (field_number root) (field_number applied) label
of_fields rest label = Free 0

-- the length of the label, in the fields
abbrev len_in : List Field → ℕ
len_in (state ∷ generation ∷ size ∷ taken ∷ root ∷ applied ∷ label_len ∷ unnamed ∷ rest) = field_number label_len
len_in rest = 0

-- each field is a number of its width
small-fields : (r : ImageRecord) → IsImage r → AreFields (image_fields r)
small-fields (Free generation) h = (omega arith, (omega (arith, h), (omega arith, (omega arith, (omega arith, (omega arith, (omega arith, (omega arith, tt))))))))
small-fields (Live live) h =
    let a = h.generation_high in
    let b = h.size_high in
    let c = h.taken_high in
    let d = IsPointer-lt live.root h.root_pointer in
    let e = h.applied_high in
    let f = h.label_is.short in
    (omega arith, (omega (arith, a), (omega (arith, b), (omega (arith, c), (omega (arith, d), (omega (arith, e), (omega (arith, f), (omega arith, tt))))))))

-- an image record is found in its own block
pub image-found : (r : ImageRecord) → IsImage r → found_image (image_bytes r) ≡ r
unfolding image_bytes
image-found (Free generation) h =
    let bytes = image_bytes (Free generation) in
    ap (λ fields. of_fields fields (found_label bytes)) (spelled-fields image_magic (image_fields (Free generation)) [] (small-fields (Free generation) h))
image-found (Live live) h =
    let r = Live live in
    let bytes = image_bytes r in
    let fields = spelled-fields image_magic (image_fields r) live.label (small-fields r h) in
    let long : number_at 4 40 bytes ≡ length live.label = ap len_in fields in
    let named : found_label bytes ≡ live.label = ap (λ n. take n (drop 48 bytes)) long ∙ spelled-last image_magic (image_fields r) live.label 48 refl in
    ap (λ fs. of_fields fs (found_label bytes)) fields ∙ ap (λ xs. Live (record live { label = xs })) named

-- the test of the limits tells

are_within-true : (generation size taken applied : ℕ) → 1 ≤ generation → generation < 2 ^ 32 → 1 ≤ size → size ≤ 2 ^ 27 → taken ≤ 128 → applied < 2 ^ 48 →
    are_within generation size taken applied ≡ true
are_within-true generation size taken applied a b c d e f = grind (arith, nat_tests)

true-are_within : (generation size taken applied : ℕ) → are_within generation size taken applied ≡ true →
    (1 ≤ generation) × (generation < 2 ^ 32) × (1 ≤ size) × (size ≤ 2 ^ 27) × (taken ≤ 128) × (applied < 2 ^ 48)
true-are_within generation size taken applied h =
    (grind (arith, nat_tests), grind (arith, nat_tests), grind (arith, nat_tests), grind (arith, nat_tests), grind (arith, nat_tests), grind (arith, nat_tests))

pub is_image-true : (r : ImageRecord) → IsImage r → is_image r ≡ true
is_image-true (Free generation) h = grind (arith, nat_tests)
is_image-true (Live live) h =
    all_three (are_within live.generation live.size live.taken live.applied) (is_pointer live.root) (is_label live.label)
    (are_within-true live.generation live.size live.taken live.applied h.generation_low h.generation_high h.size_low h.size_high h.taken_high h.applied_high)
    (is_pointer-true live.root h.root_pointer) (is_label-true live.label h.label_is)

pub true-is_image : (r : ImageRecord) → is_image r ≡ true → IsImage r
true-is_image (Free generation) h = grind (arith, nat_tests)
true-is_image (Live live) h =
    let within = are_within live.generation live.size live.taken live.applied in
    let a = true-are_within live.generation live.size live.taken live.applied (and-left within (is_pointer live.root && is_label live.label) h) in
    let b = and-right within (is_pointer live.root && is_label live.label) h in
    record {
      generation_low = a.0;
      generation_high = a.1;
      size_low = a.2;
      size_high = a.3;
      taken_high = a.4;
      root_pointer = true-is_pointer live.root (and-left (is_pointer live.root) (is_label live.label) b);
      applied_high = a.5;
      label_is = true-is_label live.label (and-right (is_pointer live.root) (is_label live.label) b);
    }

-- what is past its limits doesn't pass the test

live-is : (state : ℕ) (free live : ImageRecord) → state ≢ 0 → (if state == 0 then free else live) ≡ live
live-is state free live h = elim (eqb_tells state 0) [ inl x ↦ absurd (h x.1) | inr x ↦ rw x.0 refl ]

pub past-limits : (bytes : List ℕ) → number_at 4 8 bytes ≢ 0 → ¬ (IsImage (Live (found_live bytes))) → is_image (found_image bytes) ≡ false
past-limits bytes live past =
    ap is_image (live-is (number_at 4 8 bytes) (Free (number_at 4 12 bytes)) (Live (found_live bytes)) live)
    ∙ not-true (is_image (Live (found_live bytes))) (λ h. past (true-is_image (Live (found_live bytes)) h))

-- reading is exact: an image record within the limits where it is spelled by the bytes, nothing where none is
pub image-reading : (bytes : List ℕ) → IsReading IsImage image_bytes bytes (read_image bytes)
unfolding read_image
image-reading bytes = read-exact IsImage is_image image_bytes found_image is_image-true true-is_image image-found bytes

-- an image record is read back
pub image-back : (r : ImageRecord) → IsImage r → read_image (image_bytes r) ≡ Some r
unfolding read_image
image-back r h =
    ap (λ x. read_by is_image image_bytes x (image_bytes r)) (image-found r h) ∙ read-some is_image image_bytes r (image_bytes r) (is_image-true r h) refl

-- two image records that are spelled alike are one
pub image-same : (r s : ImageRecord) → IsImage r → IsImage s → image_bytes r ≡ image_bytes s → r ≡ s
image-same r s hr hs e = sym (image-found r hr) ∙ (ap found_image e ∙ image-found s hs)

-- what is read is spelled by the bytes
pub image-only : (bytes : List ℕ) (r : ImageRecord) → read_image bytes ≡ Some r → IsImage r × (bytes ≡ image_bytes r)
image-only bytes r e = subst (IsReading IsImage image_bytes bytes) e (image-reading bytes)

-- the bytes of an image's fields
pub width-image : (r : ImageRecord) → fields_width (image_fields r) ≡ 40
width-image (Free generation) = refl
width-image (Live live) = refl

-- a label is short
pub label-short : (r : ImageRecord) → IsImage r → length (label_of r) ≤ 32
label-short (Free generation) h = omega arith
label-short (Live live) h = h.label_is.short

-- an image record fills a block
pub length-image : (r : ImageRecord) → IsImage r → length (image_bytes r) ≡ 4096
unfolding image_bytes
length-image r h = length-spelled image_magic (image_fields r) (label_of r) (let w = width-image r in let l = label-short r h in omega (arith, w, l))

-- the first sector tells all
pub image-sector : (new old : ImageRecord) → IsImage new → IsImage old → OnlySector 0 (image_bytes new) (image_bytes old)
unfolding image_bytes
image-sector new old h k =
    only-spelled image_magic (image_fields new) (label_of new) image_magic (image_fields old) (label_of old)
    (let w = width-image new in let l = label-short new h in omega (arith, w, l)) (let w = width-image old in let l = label-short old k in omega (arith, w, l))

-- the block of an image record, written out
pub image-eq : (r : ImageRecord) → image_bytes r ≡ block_of_fields image_magic (image_fields r) (label_of r)
unfolding image_bytes
image-eq r = refl

-- what each way through a reading tells
pub image-some : (bytes : List ℕ) (r : ImageRecord) → r ≡ found_image bytes → IsImage r → bytes ≡ image_bytes r → Some r ≡ read_image bytes
unfolding read_image
image-some bytes r found within is = sym (ap (λ x. read_by is_image image_bytes x bytes) (sym found) ∙ read-some is_image image_bytes r bytes (is_image-true r within) is)

pub image-past : (bytes : List ℕ) → is_image (found_image bytes) ≡ false → None ≡ read_image bytes
unfolding read_image
image-past bytes past = sym (read-past is_image image_bytes (found_image bytes) bytes past)

pub image-other : (bytes : List ℕ) (r : ImageRecord) → r ≡ found_image bytes → bytes ≢ image_bytes r → None ≡ read_image bytes
unfolding read_image
image-other bytes r found other = sym (read-unspelled is_image image_bytes (found_image bytes) bytes (λ e. other (e ∙ ap image_bytes (sym found))))

-- what the other ways through a finding tell
pub past-live : (bytes : List ℕ) (g s t a : ℕ) → number_at 4 8 bytes ≢ 0 → g ≡ number_at 4 12 bytes → s ≡ number_at 4 16 bytes → t ≡ number_at 4 20 bytes → a ≡ number_at 8 32 bytes →
    are_within g s t a ≡ false → is_image (found_image bytes) ≡ false
past-live bytes g s t a live hg hs ht ha past =
    past-limits bytes live (λ is. let h = is_image-true (Live (found_live bytes)) is in
    let one = and-left (are_within (number_at 4 12 bytes) (number_at 4 16 bytes) (number_at 4 20 bytes) (number_at 8 32 bytes)) (is_pointer (number_at 8 24 bytes) && is_label (found_label bytes)) h in
    let other : are_within (number_at 4 12 bytes) (number_at 4 16 bytes) (number_at 4 20 bytes) (number_at 8 32 bytes) ≡ false = rw (← hg, ← hs, ← ht, ← ha) past in
    let bad : true ≡ false = sym one ∙ other in cc)

pub past-label : (bytes : List ℕ) → number_at 4 8 bytes ≢ 0 → ¬ (IsLabel (found_label bytes)) → is_image (found_image bytes) ≡ false
past-label bytes live other = past-limits bytes live (λ is. other is.label_is)

pub past-root : (bytes : List ℕ) → number_at 4 8 bytes ≢ 0 → ¬ (IsPointer (number_at 8 24 bytes)) → is_image (found_image bytes) ≡ false
past-root bytes live other = past-limits bytes live (λ is. other is.root_pointer)

-- the first bytes of enough
length-enough : (n m : ℕ) (xs : List ℕ) → m ≤ n → m ≤ length xs → m ≤ length (take n xs)
length-enough n m xs a b = simp length-take (omega (arith, a, b))

-- too many bytes are no label
pub long-label : (bytes : List ℕ) (n : ℕ) → length bytes ≡ 4096 → n ≡ number_at 4 40 bytes → 33 ≤ n → ¬ (IsLabel (found_label bytes))
long-label bytes n full is long label =
    let short = label.short in
    let rest : 33 ≤ length (drop 48 bytes) = rw (length-drop 48 bytes) (omega (arith, full)) in
    let enough = length-enough (number_at 4 40 bytes) 33 (drop 48 bytes) (omega (arith, is, long)) rest in
    absurd (omega (arith, short, enough))
