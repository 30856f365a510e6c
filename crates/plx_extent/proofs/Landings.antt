-- Landings on a map's block, bit by bit.
use Rattle.std.proofs.Common.{◌≡◌, ◌≢◌, ◌⊎◌, inl, inr, ℕ, ◌+◌, ◌*◌, ◌/◌, ◌≤◌, ◌<◌, List, length, take, drop, refl, ap, sym, ◌∙◌, subst, arith, Bool, true, false, Some}
use Rattle.std.specs.Prelude.{slice_get, slice_index, slice_set, if◌then◌else◌}
use Rattle.std.proofs.lemmas.Bool.{cases_eq, cases_lt}
use Rattle.std.proofs.lemmas.List.{length-take-le, length-drop}
use Rattle.plx_base.specs.Blocks.{with_bytes_at}
use Rattle.plx_base.specs.Sectors.{with_landed_sector, with_landed_sectors}
use Rattle.plx_base.proofs.Mixed.{mixed-byte}
use Rattle.plx_base.specs.Spelling.{OnlySector}
use Rattle.plx_base.proofs.Landed.{landed-after, landed-before, landed-inside, landed-written, length-landed}
use Rattle.plx_base.proofs.Spelling.{only-written}
use Rattle.plx_extent.proofs.Changes.{map_bytes-only}
use Rattle.plx_extent.proofs.Maps.{bytes-back, length-bits_from, length-map_bytes, map-least, map_bytes-lt, past-clear, bytes-by-bits}
use Rattle.plx_extent.proofs.Reading.{own-is, own-bit-set}
use Rattle.plx_extent.specs.Landing.{OnlyBit, LandsBits, bit_sector}
use Rattle.plx_extent.specs.Maps.{HoldsMap, bit_of, bits_of, map_bytes}

-- a bit goes by its byte
bit-same : (xs ys : List ℕ) (bit : ℕ) → slice_index xs (bit / 8) ≡ slice_index ys (bit / 8) → bit_of xs bit ≡ bit_of ys bit
bit-same xs ys bit e = rw e refl

-- one sector that lands turns its bits, and no other
pub landed-bits : (sector : ℕ) (new old : List ℕ) → length new ≡ 4096 → length old ≡ 4096 → sector < 8 → LandsBits sector new old (with_landed_sector sector new old)
landed-bits sector new old hn ho below = record {
  inside = λ bit here. bit-same (with_landed_sector sector new old) new bit (landed-inside sector new old (bit / 8) (omega arith) (omega arith) (omega arith) (omega arith));
  outside = λ bit apart. bit-same (with_landed_sector sector new old) old bit (go bit apart (cases_lt (bit / 8) (512 * sector)) (cases_lt (bit / 8) (512 * sector + 512)));
}
  where
    go : (bit : ℕ) → bit_sector bit ≢ sector → (bit / 8 < 512 * sector) ⊎ (512 * sector ≤ bit / 8) → (bit / 8 < 512 * sector + 512) ⊎ (512 * sector + 512 ≤ bit / 8) →
        slice_index (with_landed_sector sector new old) (bit / 8) ≡ slice_index old (bit / 8)
    go bit apart (inl low) other = landed-before sector new old (bit / 8) (omega arith) (omega arith) low
    go bit apart (inr high) (inl low) = absurd (apart (omega arith))
    go bit apart (inr high) (inr past) = landed-after sector new old (bit / 8) (omega arith) (omega arith) past

-- of a block on which some sectors landed, a bit is the new one where the flag of its sector is set, else the old one
pub mixed-bit : (flags : List Bool) (new old : List ℕ) (bit : ℕ) (flag : Bool) → slice_get flags (bit_sector bit) ≡ Some flag →
    length new ≡ 512 * length flags → length old ≡ 512 * length flags → bit_of (with_landed_sectors flags new old) bit ≡ (if flag then bit_of new bit else bit_of old bit)
mixed-bit flags new old bit flag set hn ho =
    bit-same (with_landed_sectors flags new old) (if flag then new else old) bit (mixed-byte flags new old (bit_sector bit) (bit / 8) flag set hn ho (omega arith) (omega arith)) ∙ picked flag
  where
    picked : (f : Bool) → bit_of (if f then new else old) bit ≡ (if f then bit_of new bit else bit_of old bit)
    picked true = refl
    picked false = refl

-- what landed is bytes, as what lands and what it lands on are
landed-lt : (sector : ℕ) (new old : List ℕ) → length new ≡ 4096 → length old ≡ 4096 → sector < 8 →
    ((k : ℕ) → slice_index new k < 256) → ((k : ℕ) → slice_index old k < 256) → (k : ℕ) → slice_index (with_landed_sector sector new old) k < 256
landed-lt sector new old hn ho below small small_old k = go (cases_lt k (512 * sector)) (cases_lt k (512 * sector + 512))
  where
    go : (k < 512 * sector) ⊎ (512 * sector ≤ k) → (k < 512 * sector + 512) ⊎ (512 * sector + 512 ≤ k) → slice_index (with_landed_sector sector new old) k < 256
    go (inl low) other = rw (landed-before sector new old k (omega arith) (omega arith) low) (small_old k)
    go (inr high) (inl low) = rw (landed-inside sector new old k (omega arith) (omega arith) high low) (small k)
    go (inr high) (inr past) = rw (landed-after sector new old k (omega arith) (omega arith) past) (small_old k)

-- bytes whose bits differ in one sector alone differ in that sector alone
pub bits-sector : (sector : ℕ) (new old : List ℕ) → length new ≡ 4096 → length old ≡ 4096 → sector < 8 →
    ((k : ℕ) → slice_index new k < 256) → ((k : ℕ) → slice_index old k < 256) → ((bit : ℕ) → bit_sector bit ≢ sector → bit_of new bit ≡ bit_of old bit) → OnlySector sector new old
bits-sector sector new old hn ho below small small_old same =
    subst (λ xs. OnlySector sector xs old) (sym (landed-written sector new old (omega arith)) ∙ whole) only
  where
    part : List ℕ
    part = take 512 (drop (512 * sector) new)

    long : length part ≡ 512
    long = length-take-le 512 (drop (512 * sector) new) (rw (length-drop (512 * sector) new) (omega arith))

    only : OnlySector sector (with_bytes_at (512 * sector) part old) old
    only = only-written sector (512 * sector) part old (omega arith) (omega (arith, long)) (omega arith)

    turned : LandsBits sector new old (with_landed_sector sector new old)
    turned = landed-bits sector new old hn ho below

    length-now : length (with_landed_sector sector new old) ≡ 4096
    length-now = length-landed sector new old (omega arith) (omega arith) ∙ ho

    at : (bit : ℕ) → (bit_sector bit ≡ sector) ⊎ (bit_sector bit ≢ sector) → bit_of (with_landed_sector sector new old) bit ≡ bit_of new bit
    at bit (inl here) = turned.inside bit here
    at bit (inr apart) = turned.outside bit apart ∙ sym (same bit apart)

    whole : with_landed_sector sector new old ≡ new
    whole =
        bytes-by-bits (with_landed_sector sector new old) new (length-now ∙ sym hn) (landed-lt sector new old hn ho below small small_old) small
        (λ bit less. at bit (cases_eq (bit_sector bit) sector))

-- bytes that differ in one bit differ in its sector alone
pub only-bit-sector : (bit : ℕ) (new old : List ℕ) → length new ≡ 4096 → length old ≡ 4096 → bit < 32768 →
    ((k : ℕ) → slice_index new k < 256) → ((k : ℕ) → slice_index old k < 256) → OnlyBit bit new old → OnlySector (bit_sector bit) new old
only-bit-sector bit new old hn ho below small small_old only =
    bits-sector (bit_sector bit) new old hn ho (omega arith) small small_old (λ other apart. only other (λ e. apart (ap bit_sector e)))

-- and so do two maps that differ in one bit
pub map_bytes-sector : (bits : List Bool) (k : ℕ) (b : Bool) → length bits ≤ 32768 → k < length bits → OnlySector (bit_sector k) (map_bytes (slice_set bits k b)) (map_bytes bits)
map_bytes-sector bits k b most below =
    only-bit-sector k (map_bytes (slice_set bits k b)) (map_bytes bits) (length-map_bytes (slice_set bits k b)) (length-map_bytes bits) (omega arith)
    (map_bytes-lt (slice_set bits k b)) (map_bytes-lt bits) (map_bytes-only bits k b most)

-- a block on which a sector of another map has landed holds a map still
pub landed-holds : (blocks sector : ℕ) (new old : List ℕ) → sector < 8 → HoldsMap blocks new → HoldsMap blocks old → HoldsMap blocks (with_landed_sector sector new old)
landed-holds blocks sector new old below hn ho = record {
  most = hn.most;
  is = record { long = length-bits_from blocks 0 now; own = own-is blocks now least ∙ ap (λ b. Some b) (picked 0 true (set new hn) (set old ho)) };
  spelled = bytes-back blocks now hn.most (length-landed sector new old (omega (arith, full new hn)) (omega (arith, full old ho)) ∙ full old ho)
      (landed-lt sector new old (full new hn) (full old ho) below (small new hn) (small old ho)) (λ bit high. picked bit false (past new hn bit high) (past old ho bit high));
}
  where
    now : List ℕ
    now = with_landed_sector sector new old

    full : (bytes : List ℕ) → HoldsMap blocks bytes → length bytes ≡ 4096
    full bytes h = ap length h.spelled ∙ length-map_bytes (bits_of blocks bytes)

    small : (bytes : List ℕ) → HoldsMap blocks bytes → (k : ℕ) → slice_index bytes k < 256
    small bytes h k = rw h.spelled (map_bytes-lt (bits_of blocks bytes) k)

    set : (bytes : List ℕ) → HoldsMap blocks bytes → bit_of bytes 0 ≡ true
    set bytes h = ap (λ xs. bit_of xs 0) h.spelled ∙ own-bit-set blocks (bits_of blocks bytes) h.most h.is

    past : (bytes : List ℕ) → HoldsMap blocks bytes → (bit : ℕ) → blocks ≤ bit → bit_of bytes bit ≡ false
    past bytes h bit high = past-clear blocks (bits_of blocks bytes) bytes h.most h.is h.spelled bit high

    least : 1 ≤ blocks
    least = map-least blocks (bits_of blocks new) hn.is

    turned : LandsBits sector new old now
    turned = landed-bits sector new old (full new hn) (full old ho) below

    picked : (bit : ℕ) (b : Bool) → bit_of new bit ≡ b → bit_of old bit ≡ b → bit_of now bit ≡ b
    picked bit b new_is old_is = go (cases_eq (bit_sector bit) sector)
      where
        go : (bit_sector bit ≡ sector) ⊎ (bit_sector bit ≢ sector) → bit_of now bit ≡ b
        go (inl here) = turned.inside bit here ∙ new_is
        go (inr apart) = turned.outside bit apart ∙ old_is
