-- Writes of maps: where they lie, and what they leave of the bits of blocks in hand.
use Rattle.std.proofs.Common.{◌≡◌, ◌≢◌, ℕ, ◌+◌, ◌-◌, ◌≤◌, ◌<◌, ◌⊎◌, inl, inr, List, Bool, true, false, Option, Some, None, refl, ap, sym, subst, ◌∙◌, arith, length, get_or}
use Rattle.std.specs.Prelude.{◌==◌, not, if◌then◌else◌, slice_get}
use Rattle.std.proofs.lemmas.Bool.Decides.{eqb_tells}
use Rattle.std.proofs.lemmas.Option.{slice_get-get_or}
use Rattle.plx_base.proofs.Mixed.{mixed-all, mixed-landed, mixed-none}
use Rattle.plx_base.proofs.Tests.{eqb-true, eqb-false, same-some}
use Rattle.plx_base.specs.Sectors.{with_landed_sector, with_landed_sectors}
use Rattle.plx_base.specs.declared.write_kind.WriteKind.{WriteKind}
use Rattle.plx_base.specs.declared.write_kind.WriteKind.TheVariants as kind
use Rattle.plx_commands.specs.Replies.{is_in}
use Rattle.plx_disk.specs.Writes.{Issued, all_sectors, fresh_write, with_sector}
use Rattle.plx_extent.proofs.Landings.{mixed-bit}
use Rattle.plx_extent.proofs.Maps.{get_or-bits_of, length-bits_from}
use Rattle.plx_extent.specs.Landing.{bit_sector}
use Rattle.plx_extent.specs.Maps.{bit_of, bits_of}
use Rattle.plx_geom.proofs.Places.{lease-map, map-data, map-descriptor, map-map, map-pool, record-map}
use Rattle.plx_geom.specs.Geometry.{Geometry, IsGeometry, extent_lease, root_lease, map_at}
use Rattle.plx_rules.specs.Hands.{hand_from, hand_written, set_since, blocks_without}
use Rattle.plx_rules.specs.Rests.{extent_of}
use Rattle.law_lease.proofs.Leased.{IsPlaced, Unlanded}
use Rattle.law_lease.proofs.Rests.{in-either, rests-alone}
use Rattle.law_space.proofs.Kept.{IsMarking, MapKept, OneWay, bytes_with_landed}
use Rattle.law_space.proofs.Lists.{bit-below, bit-extent, in-append, in-filter, set-since, since-set}
use Rattle.law_space.proofs.Marks.{IsOfMap, MayMark}

-- a write of a map's block is of such a kind, and rests on the lease of its extent
pub on-map : (g : Geometry) → IsGeometry g → (k : WriteKind) (block : ℕ) (bytes rests : List ℕ) → IsPlaced g k block bytes rests → (extent : ℕ) → block ≡ map_at g extent →
    IsOfMap k × (is_in (extent_lease g extent) rests ≡ true)
on-map g geometry kind.Claim block bytes rests placed extent here = absurd (lease-map g placed.0 extent placed.1 (sym placed.2 ∙ here))
on-map g geometry kind.Renew block bytes rests placed extent here = absurd (lease-map g placed.0 extent placed.1 (sym placed.2 ∙ here))
on-map g geometry kind.Release block bytes rests placed extent here = absurd (lease-map g placed.0 extent placed.1 (sym placed.2 ∙ here))
on-map g geometry kind.Take block bytes rests placed extent here =
    (tt, rests-alone (extent_lease g extent) (extent_lease g placed.0) rests placed.3 (ap (extent_lease g) (map-map g extent placed.0 (let b = geometry.blocks_low in omega arith) (sym here ∙ placed.2))))
on-map g geometry kind.Give block bytes rests placed extent here =
    (tt, rests-alone (extent_lease g extent) (extent_lease g placed.0) rests placed.3 (ap (extent_lease g) (map-map g extent placed.0 (let b = geometry.blocks_low in omega arith) (sym here ∙ placed.2))))
on-map g geometry kind.Sweep block bytes rests placed extent here = (
  tt,
  subst (λ (l : List ℕ). is_in (extent_lease g extent) l ≡ true) (sym placed.3)
      (in-either (extent_lease g extent) (extent_lease g placed.0) root_lease (inl (ap (extent_lease g) (map-map g extent placed.0 (let b = geometry.blocks_low in omega arith) (sym here ∙ placed.2))))),
)
on-map g geometry kind.Fresh block bytes rests placed extent here = absurd (map-pool g extent placed.0 placed.1 placed.2.bit_low placed.2.bit_high (sym here ∙ placed.2.here))
on-map g geometry kind.Link block bytes rests placed extent here = absurd (map-pool g extent placed.2.0 placed.2.1 placed.2.2.bit_low placed.2.2.bit_high (sym here ∙ placed.2.2.here))
on-map g geometry kind.Overwrite block bytes rests placed extent here = absurd (map-pool g extent placed.2.0 placed.2.1 placed.2.2.bit_low placed.2.2.bit_high (sym here ∙ placed.2.2.here))
on-map g geometry kind.Record block bytes rests placed extent here = absurd (record-map g placed.0 extent placed.1 (sym placed.2 ∙ here))
on-map g geometry kind.JData block bytes rests placed extent here = absurd (map-data g extent placed.0 placed.1 placed.2 placed.3 (sym here ∙ placed.4))
on-map g geometry kind.JCommit block bytes rests placed extent here = absurd (map-descriptor g extent placed.0 placed.1 placed.2 placed.3 (sym here ∙ placed.4))
on-map g geometry other block bytes rests placed extent here = absurd placed

-- and a write of such a kind is of the map of an extent
pub map-of : (g : Geometry) (k : WriteKind) (block : ℕ) (bytes rests : List ℕ) → IsOfMap k → IsPlaced g k block bytes rests →
    (extent : ℕ) × (extent < g.extents) × (block ≡ map_at g extent) × (is_in (extent_lease g extent) rests ≡ true)
map-of g kind.Take block bytes rests of_map placed = (placed.0, placed.1, placed.2, rests-alone (extent_lease g placed.0) (extent_lease g placed.0) rests placed.3 refl)
map-of g kind.Give block bytes rests of_map placed = (placed.0, placed.1, placed.2, rests-alone (extent_lease g placed.0) (extent_lease g placed.0) rests placed.3 refl)
map-of g kind.Sweep block bytes rests of_map placed = (
  placed.0,
  placed.1,
  placed.2,
  subst (λ (l : List ℕ). is_in (extent_lease g placed.0) l ≡ true) (sym placed.3) (in-either (extent_lease g placed.0) (extent_lease g placed.0) root_lease (inl refl)),
)
map-of g other block bytes rests of_map placed = absurd of_map

-- such a write may still change something until it has landed whole
pub map-unlanded : (k : WriteKind) (flags : List Bool) → IsOfMap k → flags ≢ all_sectors → Unlanded k flags
map-unlanded kind.Take flags is missing = missing
map-unlanded kind.Give flags is missing = missing
map-unlanded kind.Sweep flags is missing = missing
map-unlanded other flags is missing = absurd is

-- ---- what is in hand once it is written

-- the bit of this block in the bytes that a take writes
pub record IsTakenBit (g : Geometry) (k : WriteKind) (map : ℕ) (bytes : List ℕ) (block : ℕ) : Type 0 where
  pub take : k ≡ kind.Take
  pub bit : ℕ
  pub here : block ≡ map + bit
  pub below : bit < g.extent_blocks
  pub taken : bit_of bytes bit ≡ true

-- it was in hand, or its bit became set
pub hand-after : (g : Geometry) (found : Option (ℕ × List ℕ)) (k : WriteKind) (map : ℕ) (bytes hand : List ℕ) (block : ℕ) → is_in block (hand_from g found k map bytes hand) ≡ true →
    (is_in block hand ≡ true) ⊎ IsTakenBit g k map bytes block
hand-after g None k map bytes hand block is = inl is
hand-after g (Some seen) k map bytes hand block is = by_test (seen.0 == map) is
  where
    old : List Bool
    old = bits_of g.extent_blocks seen.1

    new : List Bool
    new = bits_of g.extent_blocks bytes

    by_kind : (k' : WriteKind) → is_in block (hand_written k' map old new hand) ≡ true → (is_in block hand ≡ true) ⊎ IsTakenBit g k' map bytes block
    by_kind kind.Take is' = elim (in-append block hand (set_since map old new) is') [
      | inl before ↦ inl before
      | inr since ↦
          let s = since-set block map old new since in
          let below : s.0 < g.extent_blocks = omega (arith, s.2, length-bits_from g.extent_blocks 0 seen.1) in
          inr (record { take = refl; bit = s.0; here = s.1; below = below; taken = sym (get_or-bits_of g.extent_blocks bytes s.0 below) ∙ s.3 })
    ]
    by_kind kind.Give is' = inl (in-filter (λ b. not (is_in b (set_since map new old))) block hand is').0
    by_kind other is' = inl is'

    by_test : (t : Bool) → is_in block (if t then hand_written k map old new hand else hand) ≡ true → (is_in block hand ≡ true) ⊎ IsTakenBit g k map bytes block
    by_test true is' = by_kind k is'
    by_test false is' = inl is'

-- a block that is in hand once a give is written, and whose bit was set, has it set
pub give-stays : (g : Geometry) (map : ℕ) (old bytes hand : List ℕ) (block : ℕ) → is_in block (hand_from g (Some (map, old)) kind.Give map bytes hand) ≡ true →
    map ≤ block → block - map < g.extent_blocks → bit_of old (block - map) ≡ true → bit_of bytes (block - map) ≡ true
give-stays g map old bytes hand block is past below set = by_bit (bit_of bytes (block - map)) refl
  where
    since : List ℕ
    since = set_since map (bits_of g.extent_blocks bytes) (bits_of g.extent_blocks old)

    stays : not (is_in block since) ≡ true
    stays = (in-filter (λ b. not (is_in b since)) block hand (subst (λ (t : Bool). is_in block (if t then blocks_without since hand else hand) ≡ true) (eqb-true map map refl) is)).1

    by_bit : (b : Bool) → bit_of bytes (block - map) ≡ b → b ≡ true
    by_bit true e = refl
    by_bit false e =
        let there : is_in (map + (block - map)) since ≡ true =
        set-since map (block - map) (bits_of g.extent_blocks bytes) (bits_of g.extent_blocks old) (omega (arith, below, length-bits_from g.extent_blocks 0 bytes))
        (get_or-bits_of g.extent_blocks bytes (block - map) below ∙ e) (get_or-bits_of g.extent_blocks old (block - map) below ∙ set) in
        let same : map + (block - map) ≡ block = omega (arith, past) in
        let there' : is_in block since ≡ true = subst (λ (x : ℕ). is_in x since ≡ true) same there in
        let f : false ≡ true = sym (ap not there') ∙ stays in f

-- a block in hand whose bit was set has it set in the bytes that are written
pub stays-marked : (g : Geometry) (k : WriteKind) (found : Option (ℕ × List ℕ)) (map : ℕ) (base bytes hand : List ℕ) (block : ℕ) → IsOfMap k → MayMark k found map bytes →
    ((old : List ℕ) → found ≡ Some (map, old) → base ≡ old) → (k ≡ kind.Give → is_in block (hand_from g found kind.Give map bytes hand) ≡ true) →
    map ≤ block → block - map < g.extent_blocks → bit_of base (block - map) ≡ true → bit_of bytes (block - map) ≡ true
stays-marked g kind.Take found map base bytes hand block of_map may shown given past below set =
    may.2 (block - map) (ap (λ (x : List ℕ). bit_of x (block - map)) (sym (shown may.0 may.1)) ∙ set)
stays-marked g kind.Give found map base bytes hand block of_map may shown given past below set =
    give-stays g map may.0 bytes hand block (subst (λ (f : Option (ℕ × List ℕ)). is_in block (hand_from g f kind.Give map bytes hand) ≡ true) may.1 (given refl)) past below
    (ap (λ (x : List ℕ). bit_of x (block - map)) (sym (shown may.0 may.1)) ∙ set)
stays-marked g kind.Sweep found map base bytes hand block of_map may shown given past below set = absurd may
stays-marked g other found map base bytes hand block of_map may shown given past below set = absurd of_map

-- ---- what stands in the map

pub laid-here : (write : Issued) (block : ℕ) (base : List ℕ) → block ≡ write.block → bytes_with_landed (Some write) block base ≡ with_landed_sectors write.landed write.bytes base
laid-here write block base here = ap (λ (b : Bool). if b then with_landed_sectors write.landed write.bytes base else base) (eqb-true block write.block here)

pub laid-away : (write : Issued) (block : ℕ) (base : List ℕ) → block ≢ write.block → bytes_with_landed (Some write) block base ≡ base
laid-away write block base away = ap (λ (b : Bool). if b then with_landed_sectors write.landed write.bytes base else base) (eqb-false block write.block away)

none-isnt-some : {A X : Type 0} (x : X) → None ≡ Some x → A
none-isnt-some x e = absurd (let P : ⊥ = cc in P)

-- the last ask read nothing
pub kept-unread : (g : Geometry) (extent : ℕ) (now : List ℕ) (hand : List ℕ) (found : Option (ℕ × List ℕ)) → MapKept g extent now None hand found → MapKept g extent now None hand None
kept-unread g extent now hand found kept = record {
  base = kept.base;
  whole = kept.whole;
  marked = kept.marked;
  shown = λ bytes e. none-isnt-some (map_at g extent, bytes) e;
  laid_now = kept.laid_now;
}

-- fewer blocks are in hand
pub kept-fewer : (g : Geometry) (extent : ℕ) (now : List ℕ) (pending : Option Issued) (hand fewer : List ℕ) (found : Option (ℕ × List ℕ)) → ((block : ℕ) → is_in block fewer ≡ true → is_in block hand ≡ true) →
    MapKept g extent now pending hand found → MapKept g extent now pending fewer found
kept-fewer g extent now pending hand fewer found among kept = record {
  base = kept.base;
  whole = kept.whole;
  marked = λ block is here. kept.marked block (among block is) here;
  shown = kept.shown;
  laid_now = kept.laid_now;
}

-- a block was read, as it stands
pub kept-read : (g : Geometry) (extent : ℕ) (device : ℕ → List ℕ) (hand : List ℕ) (block : ℕ) → length (device (map_at g extent)) ≡ 4096 →
    ((b : ℕ) → is_in b hand ≡ true → extent_of g b ≡ extent → (map_at g extent ≤ b) × (bit_of (device (map_at g extent)) (b - map_at g extent) ≡ true)) →
    MapKept g extent (device (map_at g extent)) None hand (Some (block, device block))
kept-read g extent device hand block whole marked = record {
  base = device (map_at g extent);
  whole = whole;
  marked = marked;
  shown = λ bytes e. (let s = same-some (block, device block) (map_at g extent, bytes) e in ap device (ap (λ (x : ℕ × List ℕ). x.0) (sym s)) ∙ ap (λ (x : ℕ × List ℕ). x.1) s);
  laid_now = refl;
}

-- a write is issued: nothing of it has landed
pub map-kept-issued : (g : Geometry) (extent : ℕ) (now hand : List ℕ) (found : Option (ℕ × List ℕ)) (boot : ℕ) (k : WriteKind) (block : ℕ) (bytes : List ℕ) (guard : ℕ) →
    MapKept g extent now None hand found → MapKept g extent now (Some (fresh_write boot k block bytes guard)) hand found
map-kept-issued g extent now hand found boot k block bytes guard kept = record {
  base = kept.base;
  whole = kept.whole;
  marked = kept.marked;
  shown = kept.shown;
  laid_now = kept.laid_now ∙ sym (by_test (map_at g extent == block));
}
  where
    by_test : (t : Bool) → (if t then with_landed_sectors (fresh_write boot k block bytes guard).landed bytes kept.base else kept.base) ≡ kept.base
    by_test true = mixed-none 8 bytes kept.base
    by_test false = refl

-- one more sector of it lands
pub kept-landed : (g : Geometry) (extent : ℕ) (now hand : List ℕ) (found : Option (ℕ × List ℕ)) (write : Issued) (sector : ℕ) → map_at g extent ≡ write.block → slice_get write.landed sector ≡ Some false →
    length write.landed ≡ 8 → length write.bytes ≡ 4096 → MapKept g extent now (Some write) hand found → MapKept g extent (with_landed_sector sector write.bytes now) (Some (with_sector write sector)) hand found
kept-landed g extent now hand found write sector here missing eight long kept = record {
  base = kept.base;
  whole = kept.whole;
  marked = kept.marked;
  shown = kept.shown;
  laid_now =
      ap (with_landed_sector sector write.bytes) (kept.laid_now ∙ laid-here write (map_at g extent) kept.base here)
      ∙ (mixed-landed write.landed write.bytes kept.base sector false missing (omega (arith, long, eight)) (omega (arith, kept.whole, eight))
      ∙ sym (laid-here (with_sector write sector) (map_at g extent) kept.base here));
}

-- or lands on another block
pub kept-away : (g : Geometry) (extent : ℕ) (now hand : List ℕ) (found : Option (ℕ × List ℕ)) (write : Issued) (sector : ℕ) → map_at g extent ≢ write.block →
    MapKept g extent now (Some write) hand found → MapKept g extent now (Some (with_sector write sector)) hand found
kept-away g extent now hand found write sector away kept = record {
  base = kept.base;
  whole = kept.whole;
  marked = kept.marked;
  shown = kept.shown;
  laid_now = kept.laid_now ∙ (laid-away write (map_at g extent) kept.base away ∙ sym (laid-away (with_sector write sector) (map_at g extent) kept.base away));
}

-- it has landed whole
pub kept-done : (g : Geometry) → IsGeometry g → (extent : ℕ) (now hand : List ℕ) (found : Option (ℕ × List ℕ)) (write : Issued) (rests : List ℕ) →
    IsPlaced g write.kind write.block write.bytes rests → write.landed ≡ all_sectors → length write.bytes ≡ 4096 → length now ≡ 4096 → MayMark write.kind found write.block write.bytes →
    MapKept g extent now (Some write) hand found → MapKept g extent now None (hand_from g found write.kind write.block write.bytes hand) None
kept-done g geometry extent now hand found write rests placed all long long_now may kept = record {
  base = now;
  whole = long_now;
  marked = λ block is lies. by_block block is lies;
  shown = λ bytes e. none-isnt-some (map_at g extent, bytes) e;
  laid_now = refl;
}
  where
    map : ℕ
    map = map_at g extent

    some : 1 ≤ g.extent_blocks
    some = let b = geometry.blocks_low in omega arith

    by_block : (block : ℕ) → is_in block (hand_from g found write.kind write.block write.bytes hand) ≡ true → extent_of g block ≡ extent → (map ≤ block) × (bit_of now (block - map) ≡ true)
    by_block block is lies = elim (eqb_tells map write.block) [
      | inl here ↦
          let whole : now ≡ write.bytes =
          kept.laid_now ∙ (laid-here write map kept.base here.1
          ∙ (ap (λ (f : List Bool). with_landed_sectors f write.bytes kept.base) all ∙ mixed-all 8 write.bytes kept.base (omega (arith, long)) (omega (arith, kept.whole)))) in
          elim (hand-after g found write.kind write.block write.bytes hand block is) [
            | inl before ↦
                let m = kept.marked block before lies in
                let M : ℕ → Type 0 = λ x. MayMark write.kind found x write.bytes in
                let G : ℕ → Type 0 = λ x. is_in block (hand_from g found write.kind x write.bytes hand) ≡ true in (
                  m.0,
                  ap (λ (x : List ℕ). bit_of x (block - map)) whole
                      ∙ stays-marked g write.kind found map kept.base write.bytes hand block (on-map g geometry write.kind write.block write.bytes rests placed extent (sym here.1)).0
                      (subst M (sym here.1) may) kept.shown
                      (λ k. subst (λ (x : WriteKind). is_in block (hand_from g found x map write.bytes hand) ≡ true) k (subst G (sym here.1) is))
                      m.0 (bit-below g extent block some lies m.0) m.1,
                )
            | inr taken ↦
                let at : block ≡ map + taken.bit = (let h = here.1 in omega (arith, taken.here, h)) in
                let e : block - map ≡ taken.bit = omega (arith, at) in
                (omega (arith, at), ap (λ (x : List ℕ). bit_of x (block - map)) whole ∙ (ap (bit_of write.bytes) e ∙ taken.taken))
          ]
      | inr away ↦
          let stays : now ≡ kept.base = kept.laid_now ∙ laid-away write map kept.base away.1 in
          elim (hand-after g found write.kind write.block write.bytes hand block is) [
            | inl before ↦ (let m = kept.marked block before lies in (m.0, ap (λ (x : List ℕ). bit_of x (block - map)) stays ∙ m.1))
            | inr taken ↦
                let P : WriteKind → Type 0 = λ k. IsPlaced g k write.block write.bytes rests in
                let placed' = subst P taken.take placed in
                let other : extent_of g block ≡ placed'.0 = bit-extent g placed'.0 taken.bit block taken.below (taken.here ∙ ap (λ (n : ℕ). n + taken.bit) placed'.2) in
                absurd (away.1 (ap (map_at g) (sym lies ∙ other) ∙ sym placed'.2))
          ]
    ]

-- a block in hand, while a write is waited for: its bit is set on the device
pub kept-marked : (g : Geometry) → IsGeometry g → (extent : ℕ) (now hand : List ℕ) (found : Option (ℕ × List ℕ)) (write : Issued) (rests : List ℕ) →
    IsPlaced g write.kind write.block write.bytes rests → length write.landed ≡ 8 → length write.bytes ≡ 4096 → MayMark write.kind found write.block write.bytes →
    MapKept g extent now (Some write) hand found → (block : ℕ) → is_in block hand ≡ true → extent_of g block ≡ extent →
    (write.kind ≡ kind.Give → is_in block (hand_from g found kind.Give write.block write.bytes hand) ≡ true) → bit_of now (block - map_at g extent) ≡ true
kept-marked g geometry extent now hand found write rests placed eight long may kept block is lies given = elim (eqb_tells map write.block) [
  | inl here ↦
      let M : ℕ → Type 0 = λ x. MayMark write.kind found x write.bytes in
      let G : ℕ → Type 0 = λ x. is_in block (hand_from g found kind.Give x write.bytes hand) ≡ true in
      let new : bit_of write.bytes bit ≡ true =
      stays-marked g write.kind found map kept.base write.bytes hand block (on-map g geometry write.kind write.block write.bytes rests placed extent (sym here.1)).0
      (subst M (sym here.1) may) kept.shown (λ k. subst G (sym here.1) (given k)) m.0 below m.1 in
      ap (λ (x : List ℕ). bit_of x bit) (kept.laid_now ∙ laid-here write map kept.base here.1) ∙ landed-bit new
  | inr away ↦ ap (λ (x : List ℕ). bit_of x bit) (kept.laid_now ∙ laid-away write map kept.base away.1) ∙ m.1
]
  where
    map : ℕ
    map = map_at g extent

    bit : ℕ
    bit = block - map_at g extent

    m : (map_at g extent ≤ block) × (bit_of kept.base (block - map_at g extent) ≡ true)
    m = kept.marked block is lies

    below : block - map_at g extent < g.extent_blocks
    below = bit-below g extent block (let b = geometry.blocks_low in omega arith) lies m.0

    either : (flag : Bool) → bit_of write.bytes bit ≡ true → (if flag then bit_of write.bytes bit else bit_of kept.base bit) ≡ true
    either true new = new
    either false new = m.1

    landed-bit : bit_of write.bytes bit ≡ true → bit_of (with_landed_sectors write.landed write.bytes kept.base) bit ≡ true
    landed-bit new =
        let flag = get_or write.landed (bit_sector bit) false in
        mixed-bit write.landed write.bytes kept.base bit flag (slice_get-get_or write.landed (bit_sector bit) false (let b = geometry.blocks_high in omega (arith, below, b, eight)))
        (omega (arith, long, eight)) (omega (arith, kept.whole, eight)) ∙ either flag new

-- ---- writes of maps that may still land

-- a write that may be asked turns bits one way
one-way : (k : WriteKind) (found : Option (ℕ × List ℕ)) (block : ℕ) (base bytes : List ℕ) → MayMark k found block bytes → ((old : List ℕ) → found ≡ Some (block, old) → base ≡ old) → OneWay k base bytes
one-way kind.Take found block base bytes may shown = λ bit set. may.2 bit (ap (λ (x : List ℕ). bit_of x bit) (sym (shown may.0 may.1)) ∙ set)
one-way kind.Give found block base bytes may shown = λ bit set. ap (λ (x : List ℕ). bit_of x bit) (shown may.0 may.1) ∙ may.2 bit set
one-way kind.Sweep found block base bytes may shown = absurd may
one-way other found block base bytes may shown = tt

-- a write of a map is issued
pub marking-issued : (g : Geometry) (extent : ℕ) (now hand : List ℕ) (found : Option (ℕ × List ℕ)) (boot : ℕ) (k : WriteKind) (block : ℕ) (bytes : List ℕ) (guard : ℕ) → block ≡ map_at g extent →
    MayMark k found block bytes → MapKept g extent now None hand found → IsMarking (fresh_write boot k block bytes guard) now
marking-issued g extent now hand found boot k block bytes guard here may kept = record {
  base = kept.base;
  whole = kept.whole;
  mixed_now = kept.laid_now ∙ sym (mixed-none 8 bytes kept.base);
  one_way = one-way k found block kept.base bytes may (λ old e. kept.shown old (e ∙ ap (λ (b : ℕ). Some (b, old)) here));
}

-- one more sector of it lands
pub marking-landed : (write : Issued) (now : List ℕ) (sector : ℕ) → slice_get write.landed sector ≡ Some false → length write.landed ≡ 8 → length write.bytes ≡ 4096 → IsMarking write now →
    IsMarking (with_sector write sector) (with_landed_sector sector write.bytes now)
marking-landed write now sector missing eight long marking = record {
  base = marking.base;
  whole = marking.whole;
  mixed_now =
      ap (with_landed_sector sector write.bytes) marking.mixed_now ∙ mixed-landed write.landed write.bytes marking.base sector false missing (omega (arith, long, eight)) (omega (arith, marking.whole, eight));
  one_way = marking.one_way;
}
