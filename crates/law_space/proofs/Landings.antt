-- What a landing makes of the blocks that are allocated.
use Rattle.std.proofs.Common.{◌≡◌, ◌≢◌, ℕ, ◌-◌, ◌⊎◌, inl, inr, List, Bool, true, false, Some, refl, ap, sym, ◌∙◌, arith, length}
use Rattle.std.specs.Prelude.{slice_get}
use Rattle.std.proofs.lemmas.Bool.{cases_eq}
use Rattle.std.proofs.lemmas.Bool.Decides.{eqb_tells}
use Rattle.std.proofs.lemmas.Option.{slice_get_within}
use Rattle.plx_base.proofs.Devices.{put-same, put-other}
use Rattle.plx_base.specs.Sectors.{Device, put, with_landed_sector}
use Rattle.plx_base.specs.declared.write_kind.WriteKind.{WriteKind}
use Rattle.plx_base.specs.declared.write_kind.WriteKind.TheVariants as kind
use Rattle.plx_disk.specs.Writes.{Issued, MayLand, after_landing}
use Rattle.plx_extent.proofs.Landings.{landed-bits, mixed-bit}
use Rattle.plx_extent.specs.Landing.{bit_sector}
use Rattle.plx_extent.specs.Maps.{bit_of}
use Rattle.plx_geom.specs.Geometry.{extent_lease, map_at}
use Rattle.plx_rules.specs.Pools.{GivesClear, TakesSet, is_allocated}
use Rattle.plx_rules.specs.Rests.{IsUnder, extent_of}
use Rattle.plx_rules.specs.World.{World, Reached}
use Rattle.law_lease.proofs.LeaseLands.{not-whole}
use Rattle.law_lease.proofs.LeaseSteps.{reached-leased}
use Rattle.law_space.proofs.Kept.{IsMarking, OneWay}
use Rattle.law_space.proofs.MapWrites.{on-map}
use Rattle.law_space.proofs.Marks.{IsOfMap}
use Rattle.law_space.proofs.SpaceSteps.{reached-spaced}

-- a bit that a landing turns was that of the map that stood before the write, and is that of its bytes
turns-by-landing : (write : Issued) (now : List ℕ) (sector bit : ℕ) (marking : IsMarking write now) → slice_get write.landed sector ≡ Some false → length write.landed ≡ 8 → length write.bytes ≡ 4096 → length now ≡ 4096 →
    (bit_of (with_landed_sector sector write.bytes now) bit ≡ bit_of now bit)
    ⊎ ((bit_of now bit ≡ bit_of marking.base bit) × (bit_of (with_landed_sector sector write.bytes now) bit ≡ bit_of write.bytes bit))
turns-by-landing write now sector bit marking missing eight long long_now = by_sector (cases_eq (bit_sector bit) sector)
  where
    by_sector : (bit_sector bit ≡ sector) ⊎ (bit_sector bit ≢ sector) → (bit_of (with_landed_sector sector write.bytes now) bit ≡ bit_of now bit)
        ⊎ ((bit_of now bit ≡ bit_of marking.base bit) × (bit_of (with_landed_sector sector write.bytes now) bit ≡ bit_of write.bytes bit))
    by_sector (inl here) = inr (
      ap (λ (x : List ℕ). bit_of x bit) marking.mixed_now
          ∙ mixed-bit write.landed write.bytes marking.base bit false (ap (slice_get write.landed) here ∙ missing) (omega (arith, long, eight)) (omega (arith, marking.whole, eight)),
      (landed-bits sector write.bytes now long long_now (omega (arith, eight, slice_get_within write.landed sector false missing))).inside bit here,
    )
    by_sector (inr apart) = inl ((landed-bits sector write.bytes now long long_now (omega (arith, eight, slice_get_within write.landed sector false missing))).outside bit apart)

-- a landing that changes whether a block is allocated is of a write of its extent's map, which rests on the lease of the extent
pub record TurnsBlock (w : World) (number sector : ℕ) (write : Issued) (block : ℕ) : Type 0 where
  pub of_map : IsOfMap write.kind
  pub under : IsUnder w.rests number (extent_lease w.geometry (extent_of w.geometry block))
  pub base : List ℕ
  pub one_way : OneWay write.kind base write.bytes
  pub before : is_allocated w.geometry w.surface.device block ≡ bit_of base (block - map_at w.geometry (extent_of w.geometry block))
  pub after : is_allocated w.geometry (after_landing w.surface number write sector).device block ≡ bit_of write.bytes (block - map_at w.geometry (extent_of w.geometry block))

-- it changes nothing of a block, or is such a landing
pub landing-turns : (w : World) → Reached w → (number sector : ℕ) (write : Issued) → MayLand w.surface number sector write → (block : ℕ) →
    (is_allocated w.geometry (after_landing w.surface number write sector).device block ≡ is_allocated w.geometry w.surface.device block) ⊎ TurnsBlock w number sector write block
landing-turns w reached number sector write may block = elim (eqb_tells map write.block) [
  | inr away ↦ inl (ap (λ (x : List ℕ). bit_of x bit) (put-other device write.block (with_landed_sector sector write.bytes (device write.block)) map away.1))
  | inl here ↦
      let leased = reached-leased reached in
      let right = leased.right number write may.found in
      let on = on-map w.geometry leased.geometry write.kind write.block write.bytes (w.rests number) right.placed (extent_of w.geometry block) (sym here.1) in
      let marking = (reached-spaced reached).marking number write may.found on.0 (not-whole write.landed sector may.missing) may.early in
      let before : bit_of (device map) bit ≡ bit_of (device write.block) bit = ap (λ (n : ℕ). bit_of (device n) bit) here.1 in
      let after : bit_of (changed map) bit ≡ bit_of (with_landed_sector sector write.bytes (device write.block)) bit =
      ap (λ (n : ℕ). bit_of (changed n) bit) here.1 ∙ ap (λ (x : List ℕ). bit_of x bit) (put-same device write.block (with_landed_sector sector write.bytes (device write.block))) in
      elim (turns-by-landing write (device write.block) sector bit marking may.missing right.flags right.long (leased.long write.block)) [
        | inl same ↦ inl (after ∙ (same ∙ sym before))
        | inr turns ↦ inr (record { of_map = on.0; under = on.1; base = marking.base; one_way = marking.one_way; before = before ∙ turns.0; after = after ∙ turns.1 })
      ]
]
  where
    map : ℕ
    map = map_at w.geometry (extent_of w.geometry block)

    bit : ℕ
    bit = block - map_at w.geometry (extent_of w.geometry block)

    device : Device
    device = w.surface.device

    changed : Device
    changed = put w.surface.device write.block (with_landed_sector sector write.bytes (w.surface.device write.block))

not-both : {A : Type 0} (b : Bool) → b ≡ true → b ≡ false → A
not-both b yes' no' = absurd (let e : true ≡ false = sym yes' ∙ no' in let P : ⊥ = cc in P)

-- which write sets a bit, and which clears one
sets-bit : (k : WriteKind) (base bytes : List ℕ) (bit : ℕ) → IsOfMap k → OneWay k base bytes → bit_of base bit ≡ false → bit_of bytes bit ≡ true → k ≡ kind.Take
sets-bit kind.Take base bytes bit of_map one_way clear set = refl
sets-bit kind.Give base bytes bit of_map one_way clear set = not-both (bit_of base bit) (one_way bit set) clear
sets-bit kind.Sweep base bytes bit of_map one_way clear set = not-both (bit_of base bit) (one_way bit set) clear
sets-bit other base bytes bit of_map one_way clear set = absurd of_map

clears-bit : (k : WriteKind) (base bytes : List ℕ) (bit : ℕ) → IsOfMap k → OneWay k base bytes → bit_of base bit ≡ true → bit_of bytes bit ≡ false → (k ≡ kind.Give) ⊎ (k ≡ kind.Sweep)
clears-bit kind.Take base bytes bit of_map one_way set clear = not-both (bit_of bytes bit) (one_way bit set) clear
clears-bit kind.Give base bytes bit of_map one_way set clear = inl refl
clears-bit kind.Sweep base bytes bit of_map one_way set clear = inr refl
clears-bit other base bytes bit of_map one_way set clear = absurd of_map

-- only a landing of a take makes a block allocated
pub takes-set : TakesSet
takes-set w reached number sector write may block clear set = elim (landing-turns w reached number sector write may block) [
  | inl same ↦ not-both (is_allocated w.geometry w.surface.device block) (sym same ∙ set) clear
  | inr turns ↦ (sets-bit write.kind turns.base write.bytes (block - map_at w.geometry (extent_of w.geometry block)) turns.of_map turns.one_way (sym turns.before ∙ clear) (sym turns.after ∙ set), turns.under)
]

-- and only one of a give or a sweep makes one clear
pub gives-clear : GivesClear
gives-clear w reached number sector write may block set clear = elim (landing-turns w reached number sector write may block) [
  | inl same ↦ not-both (is_allocated w.geometry w.surface.device block) set (sym same ∙ clear)
  | inr turns ↦ (clears-bit write.kind turns.base write.bytes (block - map_at w.geometry (extent_of w.geometry block)) turns.of_map turns.one_way (sym turns.before ∙ set) (sym turns.after ∙ clear), turns.under)
]
