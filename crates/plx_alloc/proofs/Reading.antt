-- The map that a block spells, as it is read.
use Rattle.std.proofs.Common.{◌≡◌, ◌≤◌, ◌∙◌, ap, sym, refl, ℕ, List, Bool, true, false, Option, Some, None}
use Rattle.plx_base.proofs.Spelling.{read-past, read-some, read-unspelled}
use Rattle.plx_base.specs.Spelling.{IsReading}
use Rattle.plx_extent.proofs.Maps.{has-map, length-bits_from}
use Rattle.plx_extent.specs.Maps.{IsMap, bits_of, map_bytes}
use Rattle.plx_rules.specs.Space.{is_own_set, read_map}
use Rattle.plx_rules.proofs.Maps.{own-set, set-own}

pub map-own : (blocks : ℕ) (bits : List Bool) → IsMap blocks bits → is_own_set bits ≡ true
map-own blocks bits h = own-set bits h.own

-- an exact reading is this one
pub map-read-found : (blocks : ℕ) (bytes : List ℕ) (found : Option (List Bool)) → blocks ≤ 32768 → IsReading (IsMap blocks) map_bytes bytes found →
    read_map blocks bytes ≡ found
unfolding read_map
map-read-found blocks bytes (Some bits) most h =
    let e : bits_of blocks bytes ≡ bits = has-map blocks bits bytes most h.0 h.1 in
    read-some is_own_set map_bytes (bits_of blocks bytes) bytes (ap is_own_set e ∙ map-own blocks bits h.0) (h.1 ∙ ap map_bytes (sym e)) ∙ ap Some e
map-read-found blocks bytes None most h = go (is_own_set (bits_of blocks bytes)) refl
  where
    go : (b : Bool) → is_own_set (bits_of blocks bytes) ≡ b → read_map blocks bytes ≡ None
    go false past = read-past is_own_set map_bytes (bits_of blocks bytes) bytes past
    go true own =
        read-unspelled is_own_set map_bytes (bits_of blocks bytes) bytes
        (h (bits_of blocks bytes) (record { long = length-bits_from blocks 0 bytes; own = set-own (bits_of blocks bytes) own }))
