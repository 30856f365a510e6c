-- Changes of maps as named bits that turn, and landings of such changes.
use Rattle.std.proofs.Common.{◌≡◌, ◌≢◌, ◌⊎◌, inl, inr, ℕ, ◌≤◌, ◌<◌, List, length, get_or, refl, ap, sym, ◌∙◌, Bool, true, false, not}
use Rattle.std.specs.Prelude.{◌==◌, ◌&&◌, ◌||◌, slice_set}
use Rattle.std.proofs.lemmas.Bool.{cases_Bool, cases_eq, and_cases, or_cases}
use Rattle.std.proofs.lemmas.List.{get_or-set_same, length-set}
use Rattle.plx_extent.proofs.Changes.{get_or-kept_map, length-kept_bits, map_bytes-only}
use Rattle.plx_extent.proofs.Maps.{map_bytes-bit}
use Rattle.plx_extent.specs.Landing.{LandsBits, TurnsOnly, bit_sector}
use Rattle.plx_extent.specs.Maps.{bit_of, is_kept, kept_map, map_bytes}
use Rattle.plx_base.proofs.Tests.{and-left, and-right, eqb-is, eqb-isn't}

-- tests

or-false-left : (a b : Bool) → (a || b) ≡ false → a ≡ false
or-false-left true b h = h
or-false-left false b h = refl

or-false-right : (a b : Bool) → (a || b) ≡ false → b ≡ false
or-false-right true b h = cc
or-false-right false b h = h

-- ---- landings

-- where one sector of a change has landed, its named bits have turned
pub landed-turns : (names : ℕ → Bool) (to : Bool) (sector : ℕ) (new old now : List ℕ) → TurnsOnly names to new old → LandsBits sector new old now →
    TurnsOnly (λ bit. names bit && (bit_sector bit == sector)) to now old
landed-turns names to sector new old now h lands = record {
  named = λ bit is. lands.inside bit (eqb-is (bit_sector bit) sector (and-right (names bit) (bit_sector bit == sector) is)) ∙ h.named bit (and-left (names bit) (bit_sector bit == sector) is);
  others = λ bit unnamed. go bit (and_cases (names bit) (bit_sector bit == sector) unnamed) (cases_eq (bit_sector bit) sector);
}
  where
    go : (bit : ℕ) → (names bit ≡ false) ⊎ ((bit_sector bit == sector) ≡ false) → (bit_sector bit ≡ sector) ⊎ (bit_sector bit ≢ sector) → bit_of now bit ≡ bit_of old bit
    go bit why (inr apart) = lands.outside bit apart
    go bit (inl unnamed) (inl here) = lands.inside bit here ∙ h.others bit unnamed
    go bit (inr apart) (inl here) = absurd (eqb-isn't (bit_sector bit) sector apart here)

-- and what is left of the change turns the same bits
pub rest-turns : (names : ℕ → Bool) (to : Bool) (sector : ℕ) (new old now : List ℕ) → TurnsOnly names to new old → LandsBits sector new old now → TurnsOnly names to new now
rest-turns names to sector new old now h lands = record {
  named = h.named;
  others = λ bit unnamed. go bit unnamed (cases_eq (bit_sector bit) sector);
}
  where
    go : (bit : ℕ) → names bit ≡ false → (bit_sector bit ≡ sector) ⊎ (bit_sector bit ≢ sector) → bit_of new bit ≡ bit_of now bit
    go bit unnamed (inl here) = sym (lands.inside bit here)
    go bit unnamed (inr apart) = h.others bit unnamed ∙ sym (lands.outside bit apart)

-- ---- changes

-- two changes, one after the other
pub turns-more : (names more : ℕ → Bool) (to : Bool) (newest new old : List ℕ) → TurnsOnly names to new old → TurnsOnly more to newest new →
    TurnsOnly (λ bit. names bit || more bit) to newest old
turns-more names more to newest new old h k = record {
  named = λ bit is. go bit (or_cases (names bit) (more bit) is) (cases_Bool (more bit));
  others = λ bit unnamed. k.others bit (or-false-right (names bit) (more bit) unnamed) ∙ h.others bit (or-false-left (names bit) (more bit) unnamed);
}
  where
    go : (bit : ℕ) → (names bit ≡ true) ⊎ (more bit ≡ true) → (more bit ≡ true) ⊎ (more bit ≡ false) → bit_of newest bit ≡ to
    go bit why (inl again) = k.named bit again
    go bit (inl before) (inr unnamed) = k.others bit unnamed ∙ h.named bit before
    go bit (inr again) (inr unnamed) = cc

-- a bit that is set or cleared
pub turns-set : (bits : List Bool) (k : ℕ) (to : Bool) → length bits ≤ 32768 → k < length bits → TurnsOnly (λ bit. bit == k) to (map_bytes (slice_set bits k to)) (map_bytes bits)
turns-set bits k to most below = record {
  named = λ bit is. ap (bit_of (map_bytes (slice_set bits k to))) (eqb-is bit k is)
      ∙ (map_bytes-bit (slice_set bits k to) k (rw (length-set bits k to) most) ∙ get_or-set_same bits k to false below);
  others = λ bit unnamed. map_bytes-only bits k to most bit (eqb-isn't bit k unnamed);
}

-- the bits that are cleared where only marked blocks stay taken
pub turns-kept : (marked : ℕ → Bool) (bits : List Bool) → length bits ≤ 32768 →
    TurnsOnly (λ bit. get_or bits bit false && not (is_kept marked bit)) false (map_bytes (kept_map marked bits)) (map_bytes bits)
turns-kept marked bits most = record {
  named = λ bit is. now bit ∙ gone (get_or bits bit false) (is_kept marked bit) is;
  others = λ bit unnamed. now bit ∙ (stays (get_or bits bit false) (is_kept marked bit) unnamed ∙ sym (map_bytes-bit bits bit most));
}
  where
    now : (bit : ℕ) → bit_of (map_bytes (kept_map marked bits)) bit ≡ (get_or bits bit false && is_kept marked bit)
    now bit = map_bytes-bit (kept_map marked bits) bit (rw (length-kept_bits marked 0 bits) most) ∙ get_or-kept_map marked bits bit

    gone : (a b : Bool) → (a && not b) ≡ true → (a && b) ≡ false
    gone true true h = cc
    gone true false h = refl
    gone false b h = cc

    stays : (a b : Bool) → (a && not b) ≡ false → (a && b) ≡ a
    stays true true h = refl
    stays true false h = cc
    stays false b h = refl
