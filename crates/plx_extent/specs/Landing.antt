-- What a landing does to a map's block, bit by bit, and which bits a change turns.
use Rattle.std.specs.Prelude.{◌≡◌, ◌≢◌, ◌/◌, ℕ, Bool, true, false, List}
use Rattle.plx_extent.specs.Maps.{bit_of}

-- the sector in which a bit lies
abbrev pub bit_sector : ℕ → ℕ
bit_sector bit = bit / 4096

-- a block after one sector of new bytes has landed on old ones: the bits of that sector are the new ones, all others the old ones
pub record LandsBits (sector : ℕ) (new old now : List ℕ) : Type 0 where
  pub inside : (bit : ℕ) → bit_sector bit ≡ sector → bit_of now bit ≡ bit_of new bit
  pub outside : (bit : ℕ) → bit_sector bit ≢ sector → bit_of now bit ≡ bit_of old bit

-- new bytes differ from the old ones in this bit alone
abbrev pub OnlyBit : (bit : ℕ) → (new old : List ℕ) → Type 0
OnlyBit bit new old = (other : ℕ) → other ≢ bit → bit_of new other ≡ bit_of old other

-- new bytes differ from the old ones in no other than the named bits, and those are all set, or all clear, as told
pub record TurnsOnly (names : ℕ → Bool) (to : Bool) (new old : List ℕ) : Type 0 where
  pub named : (bit : ℕ) → names bit ≡ true → bit_of new bit ≡ to
  pub others : (bit : ℕ) → names bit ≡ false → bit_of new bit ≡ bit_of old bit
