-- What may be written of a map: it is written over what was read there directly before.
use Rattle.std.proofs.Common.{◌≡◌, ℕ, zero, suc, ◌+◌, ◌≤◌, List, [], ◌∷◌, Bool, true, false, Option, Some, None, refl, ap, sym, ◌∙◌, arith, length, get_or}
use Rattle.plx_base.proofs.Spelling.{read-only}
use Rattle.plx_base.specs.declared.write_kind.WriteKind.{WriteKind}
use Rattle.plx_base.specs.declared.write_kind.WriteKind.TheVariants as kind
use Rattle.plx_extent.proofs.Maps.{length-bits_from, map_bytes-bit}
use Rattle.plx_extent.specs.Maps.{bit_of, bits_of, map_bytes}
use Rattle.plx_rules.specs.Process.{Process, Ends, ReadThen, WriteThen, ClockThen, UntilThen}
use Rattle.plx_rules.specs.Space.{is_own_set, read_map, with_clear, with_set}
use Rattle.plx_rules.proofs.Maps.{clear-was, length-with_clear, length-with_set}

-- the kinds of writes of maps
abbrev pub IsOfMap : WriteKind → Type 0
IsOfMap kind.Take = Unit {0}
IsOfMap kind.Give = Unit {0}
IsOfMap kind.Sweep = Unit {0}
IsOfMap other = ⊥

-- a map is written over what was read there directly before; a take clears no bit, a give sets none, and no map is swept
abbrev pub MayMark : WriteKind → (found : Option (ℕ × List ℕ)) → (block : ℕ) → List ℕ → Type 0
MayMark kind.Take found block bytes = (old : List ℕ) × (found ≡ Some (block, old)) × ((bit : ℕ) → bit_of old bit ≡ true → bit_of bytes bit ≡ true)
MayMark kind.Give found block bytes = (old : List ℕ) × (found ≡ Some (block, old)) × ((bit : ℕ) → bit_of bytes bit ≡ true → bit_of old bit ≡ true)
MayMark kind.Sweep found block bytes = ⊥
MayMark other found block bytes = Unit {0}

-- however a rest of a command is answered, each map that it writes is so written; with what was read directly before
abbrev pub Careful : {E : Type 0} → Option (ℕ × List ℕ) → Process E → Type 0
Careful found (Ends end) = Unit {0}
Careful found (ReadThen block rest fault) = ((bytes : List ℕ) → Careful (Some (block, bytes)) (rest bytes)) × Careful None fault
Careful found (WriteThen kind block bytes guard done fault missed) =
    MayMark kind found block bytes × Careful None done × Careful None fault × ((reading : ℕ) → Careful None (missed reading))
Careful found (ClockThen rest) = (reading : ℕ) → Careful None (rest reading)
Careful found (UntilThen from rest) = (reading : ℕ) → Careful None (rest reading)

-- ---- bits that are set beside others

-- a bit that was set is set
set-stays : (blocks : List ℕ) (block : ℕ) (bits : List Bool) (i : ℕ) → get_or bits i false ≡ true → get_or (with_set blocks block bits) i false ≡ true
set-stays blocks block [] i is = is
set-stays blocks block (bit ∷ bits) zero is = rw is refl
set-stays blocks block (bit ∷ bits) (suc i) is = set-stays blocks (block + 1) bits i is

-- the map that was read is spelled by the bytes
pub read-spells : (blocks : ℕ) (bytes : List ℕ) (bits : List Bool) → read_map blocks bytes ≡ Some bits → (bytes ≡ map_bytes bits) × (length bits ≡ blocks)
unfolding read_map
read-spells blocks bytes bits is =
    let x = read-only is_own_set map_bytes (bits_of blocks bytes) bits bytes is in
    (x.1, ap length (sym x.2) ∙ length-bits_from blocks 0 bytes)

-- a map with more bits set keeps those that were set
pub take-keeps : (blocks : ℕ) (bytes : List ℕ) (bits : List Bool) (taken : List ℕ) (block : ℕ) → blocks ≤ 32768 → read_map blocks bytes ≡ Some bits →
    (bit : ℕ) → bit_of bytes bit ≡ true → bit_of (map_bytes (with_set taken block bits)) bit ≡ true
take-keeps blocks bytes bits taken block most is bit set =
    let s = read-spells blocks bytes bits is in
    let long : length bits ≤ 32768 = omega (arith, s.1, most) in
    let was : get_or bits bit false ≡ true = sym (map_bytes-bit bits bit long) ∙ (ap (λ (xs : List ℕ). bit_of xs bit) (sym s.0) ∙ set) in
    map_bytes-bit (with_set taken block bits) bit (omega (arith, long, length-with_set taken block bits)) ∙ set-stays taken block bits bit was

-- ---- bits that are cleared

-- a map with some bits cleared has no bit set that was clear
pub give-had : (blocks : ℕ) (bytes : List ℕ) (bits : List Bool) (given : List ℕ) (block : ℕ) → blocks ≤ 32768 → read_map blocks bytes ≡ Some bits →
    (bit : ℕ) → bit_of (map_bytes (with_clear given block bits)) bit ≡ true → bit_of bytes bit ≡ true
give-had blocks bytes bits given block most is bit set =
    let s = read-spells blocks bytes bits is in
    let long : length bits ≤ 32768 = omega (arith, s.1, most) in
    let now : get_or (with_clear given block bits) bit false ≡ true =
    sym (map_bytes-bit (with_clear given block bits) bit (omega (arith, long, length-with_clear given block bits))) ∙ set in
    ap (λ (xs : List ℕ). bit_of xs bit) s.0 ∙ (map_bytes-bit bits bit long ∙ clear-was given block bits bit now)
