-- Entries of a snapshot log as bytes: each is read back, is spelled in one way, lies in one sector, and leaves the others as they are.
use Rattle.std.proofs.Common.{◌≡◌, ◌≢◌, ◌⊎◌, ℕ, ◌/◌, ◌^◌, ◌<◌, List, [], ◌∷◌, length, take, drop, replicate, refl, ap, sym, ◌∙◌, subst, arith, inl, inr, Bool, true, false, Some, None}
use Rattle.std.proofs.lemmas.List.{append-nil, length-replicate}
use Rattle.plx_base.specs.Blocks.{with_bytes_at}
use Rattle.std.specs.Prelude.{◌&&◌, ◌==◌, not, nat_lt}
use Rattle.plx_base.specs.Spelling.{IsReading, OnlySector, fields_bytes, field_number, read_by}
use Rattle.plx_base.specs.declared.stored.Field.{Field}
use Rattle.plx_base.proofs.Pointers.{is_pointer-true, true-is_pointer}
use Rattle.plx_base.proofs.Spelling.{AreFields, fields-back, length-fields, only-written, read-exact, read-past, read-some, read-unspelled}
use Rattle.plx_base.proofs.Tests.{all_three, and-left, and-right, nat_lt-true, nat_lt-tells}
use Rattle.plx_base.proofs.Written.{part-after, part-before, part-written, length-written, written-whole}
use Rattle.plx_base.specs.Pointers.{is_pointer}
use Rattle.plx_gate.specs.Entries.{IsEntry, entry_bytes, entry_fields, entry_of, entry_part, entry_sector, entry_start, flag_of, found_entry, is_entry, read_entry, with_entry}
use Rattle.plx_gate.specs.declared.entry.LogEntry.{LogEntry}

-- the entry of its fields
abbrev of_fields : List Field → LogEntry
of_fields (root ∷ dropped ∷ unnamed ∷ stamp ∷ rest) = record { root = field_number root; dropped = not (field_number dropped == 0); stamp = field_number stamp }
of_fields rest = record { root = 0; dropped = false; stamp = 0 }

flag-lt : (b : Bool) → flag_of b < 2
flag-lt true = omega arith
flag-lt false = omega arith

flag-back : (b : Bool) → not (flag_of b == 0) ≡ b
flag-back true = refl
flag-back false = refl

-- each field is a number of its width
small-fields : (e : LogEntry) → IsEntry e → AreFields (entry_fields e)
small-fields e h =
    let a = h.frozen in
    let b = flag-lt e.dropped in
    let c = h.stamp in
    (omega (arith, a), (omega (arith, b), (omega arith, (omega (arith, c), (omega arith, tt)))))

-- an entry is found in its own bytes
pub entry-found : (e : LogEntry) → IsEntry e → found_entry (entry_bytes e) ≡ e
unfolding entry_bytes
entry-found e h =
    let fields = fields-back (entry_fields e) 0 [] [] refl (small-fields e h) in
    ap (λ xs. found_entry xs) (sym (append-nil (fields_bytes (entry_fields e))))
    ∙ (ap of_fields fields ∙ ap (λ b. record { root = e.root; dropped = b; stamp = e.stamp }) (flag-back e.dropped))

-- the test of the limits tells

is_entry-true : (e : LogEntry) → IsEntry e → is_entry e ≡ true
is_entry-true e h =
    all_three (is_pointer e.root) (nat_lt e.root (2 ^ 63)) (nat_lt e.stamp (2 ^ 64)) (is_pointer-true e.root h.root) (nat_lt-true e.root (2 ^ 63) h.frozen) (nat_lt-true e.stamp (2 ^ 64) h.stamp)

true-is_entry : (e : LogEntry) → is_entry e ≡ true → IsEntry e
true-is_entry e h =
    let rest = and-right (is_pointer e.root) (nat_lt e.root (2 ^ 63) && nat_lt e.stamp (2 ^ 64)) h in
    record {
      root = true-is_pointer e.root (and-left (is_pointer e.root) (nat_lt e.root (2 ^ 63) && nat_lt e.stamp (2 ^ 64)) h);
      frozen = nat_lt-tells e.root (2 ^ 63) (and-left (nat_lt e.root (2 ^ 63)) (nat_lt e.stamp (2 ^ 64)) rest);
      stamp = nat_lt-tells e.stamp (2 ^ 64) (and-right (nat_lt e.root (2 ^ 63)) (nat_lt e.stamp (2 ^ 64)) rest);
    }

-- reading is exact: an entry within the limits where it is spelled by the bytes at its place, nothing where none is
pub part-reading : (bytes : List ℕ) → IsReading IsEntry entry_bytes bytes (entry_of bytes)
part-reading bytes = read-exact IsEntry is_entry entry_bytes found_entry is_entry-true true-is_entry entry-found bytes

pub entry-reading : (index : ℕ) (block : List ℕ) → IsReading IsEntry entry_bytes (entry_part index block) (read_entry index block)
unfolding read_entry
entry-reading index block = part-reading (entry_part index block)

-- the bytes of an entry are read back
pub part-back : (e : LogEntry) → IsEntry e → entry_of (entry_bytes e) ≡ Some e
part-back e h =
    ap (λ x. read_by is_entry entry_bytes x (entry_bytes e)) (entry-found e h) ∙ read-some is_entry entry_bytes e (entry_bytes e) (is_entry-true e h) refl

-- two entries that are spelled alike are one
pub entry-same : (d e : LogEntry) → IsEntry d → IsEntry e → entry_bytes d ≡ entry_bytes e → d ≡ e
entry-same d e hd he same = sym (entry-found d hd) ∙ (ap found_entry same ∙ entry-found e he)

-- what is read is spelled by the bytes
pub entry-only : (index : ℕ) (block : List ℕ) (e : LogEntry) → read_entry index block ≡ Some e → IsEntry e × (entry_part index block ≡ entry_bytes e)
entry-only index block e is = subst (IsReading IsEntry entry_bytes (entry_part index block)) is (entry-reading index block)

-- an entry is 32 bytes
pub length-entry : (e : LogEntry) → length (entry_bytes e) ≡ 32
unfolding entry_bytes
length-entry e = length-fields (entry_fields e)

-- an entry that was written is read back
pub entry-back : (index : ℕ) (e : LogEntry) (block : List ℕ) → length block ≡ 4096 → index < 128 → IsEntry e → read_entry index (with_entry index e block) ≡ Some e
unfolding read_entry
entry-back index e block full below h =
    let long = length-entry e in
    let here : entry_part index (with_entry index e block) ≡ entry_bytes e =
    ap (λ n. take n (drop (entry_start index) (with_entry index e block))) (sym long) ∙ part-written (entry_start index) (entry_bytes e) block (omega (arith, full, below)) in
    ap entry_of here ∙ part-back e h

-- and every other entry stays
pub other-entry : (index other : ℕ) (e : LogEntry) (block : List ℕ) → length block ≡ 4096 → index < 128 → other ≢ index →
    read_entry other (with_entry index e block) ≡ read_entry other block
unfolding read_entry
other-entry index other e block full below not_same = ap entry_of (part (order other index not_same))
  where
    order : (m n : ℕ) → m ≢ n → (m < n) ⊎ (n < m)
    order m n apart = grind arith

    part : (other < index) ⊎ (index < other) → entry_part other (with_entry index e block) ≡ entry_part other block
    part (inl less) = part-before (entry_start index) (entry_bytes e) block (entry_start other) 32 (omega (arith, full, below)) (omega (arith, less))
    part (inr more) =
        let long = length-entry e in
        part-after (entry_start index) (entry_bytes e) block (entry_start other) 32 (omega (arith, full, below)) (omega (arith, long, more))

-- a log block with an entry written keeps its length
pub length-with_entry : (index : ℕ) (e : LogEntry) (block : List ℕ) → length block ≡ 4096 → index < 128 → length (with_entry index e block) ≡ 4096
length-with_entry index e block full below =
    let long = length-entry e in
    length-written (entry_start index) (entry_bytes e) block (omega (arith, long, full, below)) ∙ full

-- the sector of an entry tells all
pub entry-sector : (index : ℕ) (e : LogEntry) (block : List ℕ) → length block ≡ 4096 → index < 128 → OnlySector (entry_sector index) (with_entry index e block) block
entry-sector index e block full below =
    let long = length-entry e in
    only-written (index / 16) (entry_start index) (entry_bytes e) block (omega arith) (omega (arith, long)) (omega (arith, full, below))

-- what each way through a reading tells
pub entry-some : (bytes : List ℕ) (e : LogEntry) → e ≡ found_entry bytes → IsEntry e → bytes ≡ entry_bytes e → Some e ≡ entry_of bytes
entry-some bytes e found within is = sym (ap (λ x. read_by is_entry entry_bytes x bytes) (sym found) ∙ read-some is_entry entry_bytes e bytes (is_entry-true e within) is)

pub entry-past : (bytes : List ℕ) → is_entry (found_entry bytes) ≡ false → None ≡ entry_of bytes
entry-past bytes past = sym (read-past is_entry entry_bytes (found_entry bytes) bytes past)

pub entry-other : (bytes : List ℕ) (e : LogEntry) → e ≡ found_entry bytes → bytes ≢ entry_bytes e → None ≡ entry_of bytes
entry-other bytes e found other = sym (read-unspelled is_entry entry_bytes (found_entry bytes) bytes (λ same. other (same ∙ ap entry_bytes (sym found))))

-- an entry written over zeros
pub entry-alone : (e : LogEntry) (bytes : List ℕ) → bytes ≡ with_bytes_at 0 (fields_bytes (entry_fields e)) (replicate 32 0) → bytes ≡ entry_bytes e
unfolding entry_bytes
entry-alone e bytes is = is ∙ written-whole (fields_bytes (entry_fields e)) (replicate 32 0) (length-fields (entry_fields e) ∙ sym (length-replicate {A = ℕ} 32 0))

-- the bytes of an entry's fields
pub entry-eq : (e : LogEntry) → entry_bytes e ≡ fields_bytes (entry_fields e)
unfolding entry_bytes
entry-eq e = refl

-- the place of an entry, read
pub entry-at : (index : ℕ) (block : List ℕ) → read_entry index block ≡ entry_of (entry_part index block)
unfolding read_entry
entry-at index block = refl
