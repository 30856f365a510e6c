-- What a descriptor that counts tells.
use Rattle.std.proofs.Common.{◌≡◌, ℕ, ◌<◌, List, refl, ap, sym, ◌∙◌, Bool, true, false, Option, Some, None}
use Rattle.std.specs.Prelude.{if◌then◌else◌, ◌==◌, ◌&&◌, nat_lt}
use Rattle.plx_gate.specs.Descriptors.{read_descriptor, descriptor_bytes}
use Rattle.plx_gate.specs.declared.descriptor.Descriptor.{Descriptor}
use Rattle.plx_gate.specs.declared.image.ImageRecord.{ImageRecord}
use Rattle.plx_geom.specs.Geometry.{Geometry, descriptor_at, data_at}
use Rattle.plx_rules.specs.Journal.{journal_slot, is_unapplied, is_placed, counted_descriptor, counted_of}
use Rattle.plx_rules.specs.Records.{is_live, generation_of, applied_of}
use Rattle.plx_rules.specs.Stored.{Given, counted_in, CountsIn, IsCounted}
use Rattle.plx_base.proofs.Tests.{eqb-true, nat_lt-true, nat_lt-tells, and-parts, eqb-is}

-- a descriptor that counts in a slot: the image is live, the generation is its own, the number is above the last one applied, and it stands in the slot of its number
pub record TellsFirst (kept : ImageRecord) (slots slot : ℕ) (d : Descriptor) : Type 0 where
  pub live : is_live kept ≡ true
  pub generation : d.generation ≡ generation_of kept
  pub above : applied_of kept < d.number
  pub place : journal_slot slots d.number ≡ slot

pub tells-test : (kept : ImageRecord) (slots slot : ℕ) (d : Descriptor) → (is_unapplied kept d && is_placed slots slot d) ≡ true → TellsFirst kept slots slot d
tells-test kept slots slot d e =
    let one = and-parts (is_unapplied kept d) (is_placed slots slot d) e in
    let two = and-parts (is_live kept) ((d.generation == generation_of kept) && nat_lt (applied_of kept) d.number) one.0 in
    let three = and-parts (d.generation == generation_of kept) (nat_lt (applied_of kept) d.number) two.1 in
    record { live = two.0; generation = eqb-is d.generation (generation_of kept) three.0; above = nat_lt-tells (applied_of kept) d.number three.1; place = eqb-is (journal_slot slots d.number) slot one.1 }

some-by-test : (test : Bool) (d e : Descriptor) → (if test then Some e else None) ≡ Some d → (test ≡ true) × (e ≡ d)
some-by-test true d e h = (refl, cc)
some-by-test false d e h = absurd (let P : ⊥ = cc in P)

pub counted-tells : (kept : ImageRecord) (slots slot : ℕ) (found : Option (Option Descriptor)) (d : Descriptor) → counted_of kept slots slot found ≡ Some d → (found ≡ Some (Some d)) × TellsFirst kept slots slot d
counted-tells kept slots slot None d h = absurd (let P : ⊥ = cc in P)
counted-tells kept slots slot (Some None) d h = absurd (let P : ⊥ = cc in P)
counted-tells kept slots slot (Some (Some e)) d h =
    let both = some-by-test (is_unapplied kept e && is_placed slots slot e) d e h in
    (ap (λ (x : Descriptor). Some (Some x)) both.1, tells-test kept slots slot d (ap (λ (x : Descriptor). is_unapplied kept x && is_placed slots slot x) (sym both.1) ∙ both.0))

counted-bytes : (kept : ImageRecord) (slots slot : ℕ) (bytes : Option (List ℕ)) (d : Descriptor) → counted_in kept slots slot bytes ≡ Some d →
    (read : List ℕ) × (bytes ≡ Some read) × (read_descriptor read ≡ Some (Some d)) × TellsFirst kept slots slot d
counted-bytes kept slots slot None d h = absurd (let P : ⊥ = cc in P)
counted-bytes kept slots slot (Some read) d h = let both = counted-tells kept slots slot (read_descriptor read) d h in (read, refl, both.0, both.1)

pub counts-tells : (g : Geometry) (given : Given) (image : ℕ) (kept : ImageRecord) (slot : ℕ) (d : Descriptor) → CountsIn g given image kept slot d → TellsFirst kept g.slots slot d
counts-tells g given image kept slot d counts = (counted-bytes kept g.slots slot (given (descriptor_at g image slot)) d counts.found).3

-- the write of a descriptor that counts
pub write-counted : (g : Geometry) (given : Given) (image : ℕ) (kept : ImageRecord) (slot : ℕ) (d : Descriptor) → CountsIn g given image kept slot d →
    IsCounted g given image kept d.number d.vblock (data_at g image slot)
write-counted g given image kept slot d counts = record { slot = slot; descriptor = d; counts = counts; numbered = refl; names = refl; stands = refl }

-- the data of a write that counts stands in the slot of its number
pub data-placed : (g : Geometry) (given : Given) (image : ℕ) (kept : ImageRecord) (number vblock block : ℕ) → IsCounted g given image kept number vblock block →
    block ≡ data_at g image (journal_slot g.slots number)
data-placed g given image kept number vblock block counted =
    let place = (counts-tells g given image kept counted.slot counted.descriptor counted.counts).place in
    counted.stands ∙ ap (data_at g image) (sym place ∙ ap (journal_slot g.slots) counted.numbered)

-- a block that isn't given counts nothing
pub no-count : (kept : ImageRecord) (slots slot : ℕ) (d : Descriptor) (bytes : Option (List ℕ)) → bytes ≡ None → counted_in kept slots slot bytes ≡ Some d → ⊥
no-count kept slots slot d None e h = cc
no-count kept slots slot d (Some bytes) e h = cc

-- the test of a descriptor that tells so
pub unapplied-true : (kept : ImageRecord) (d : Descriptor) → is_live kept ≡ true → d.generation ≡ generation_of kept → applied_of kept < d.number → is_unapplied kept d ≡ true
unapplied-true kept d live generation above =
    rw (live, eqb-true d.generation (generation_of kept) generation, nat_lt-true (applied_of kept) d.number above) refl

-- a descriptor within the limits counts where it stands in the slot of its number
pub counts-spelled : (kept : ImageRecord) (slots slot : ℕ) (d : Descriptor) → read_descriptor (descriptor_bytes d) ≡ Some (Some d) → TellsFirst kept slots slot d →
    counted_descriptor kept slots slot (descriptor_bytes d) ≡ Some d
counts-spelled kept slots slot d spelled tells =
    ap (counted_of kept slots slot) spelled
    ∙ rw (unapplied-true kept d tells.live tells.generation tells.above, eqb-true (journal_slot slots d.number) slot tells.place) refl
