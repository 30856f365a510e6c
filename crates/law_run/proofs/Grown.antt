-- A session that fits the known bytes, while one more write is journalled.
use Rattle.std.proofs.Common.{◌≡◌, ◌≢◌, ℕ, ◌+◌, ◌≤◌, ◌<◌, List, [], length, drop, refl, ap, sym, subst, ◌∙◌, Some, None, arith, inl, inr, length-append, true}
use Rattle.std.specs.Prelude.{slice_get}
use Rattle.std.proofs.lemmas.Bool.Decides.{eqb_tells}
use Rattle.plx_disk.proofs.Lists.{push-last, push-before}
use Rattle.plx_base.specs.Blocks.{zeros}
use Rattle.plx_gate.specs.Descriptors.{descriptor_bytes, IsDescriptor}
use Rattle.plx_gate.specs.declared.descriptor.Descriptor.{Descriptor}
use Rattle.plx_gate.specs.declared.image.ImageRecord.{ImageRecord}
use Rattle.plx_gate.proofs.Descriptors.{read-descriptor, descriptor-back}
use Rattle.plx_geom.specs.Geometry.{Geometry, record_at, descriptor_at, data_at}
use Rattle.plx_geom.proofs.Places.{record-descriptor, record-data, data-descriptor}
use Rattle.plx_rules.specs.Journaled.{Journaled}
use Rattle.plx_rules.specs.Journal.{journal_slot, descriptor_of}
use Rattle.plx_rules.specs.Records.{is_live, is_plain}
use Rattle.plx_rules.specs.Session.{Session, write_count, with_write}
use Rattle.plx_rules.specs.Stored.{Given, record_in, record_on, counted_in, CountsIn}
use Rattle.law_run.specs.AllowedAsks.{last_known}
use Rattle.law_run.specs.KnownBytes.{given_with}
use Rattle.law_run.proofs.Counted.{counts-spelled, no-count}
use Rattle.law_run.proofs.Facts.{place-apart}
use Rattle.law_lease.proofs.Lists.{push-cases}
use Rattle.law_run.proofs.Right.{FitsSession}
use Rattle.law_run.proofs.Slots.{slot-below}
use Rattle.plx_base.proofs.Tests.{eqb-true, eqb-false}

-- one more block is given
pub with-block-same : (given : Given) (block : ℕ) (bytes : List ℕ) → given_with given block bytes block ≡ Some bytes
with-block-same given block bytes = rw (eqb-true block block refl) refl

pub with-other : (given : Given) (block : ℕ) (bytes : List ℕ) (b : ℕ) → b ≢ block → given_with given block bytes b ≡ given b
with-other given block bytes b other = rw (eqb-false b block other) refl

-- what counts goes by the descriptor's block alone
pub counts-same : (g : Geometry) (given more : Given) (image : ℕ) (kept : ImageRecord) (slot : ℕ) (d : Descriptor) → more (descriptor_at g image slot) ≡ given (descriptor_at g image slot) →
    CountsIn g given image kept slot d → CountsIn g more image kept slot d
counts-same g given more image kept slot d same counts = record { within = counts.within; found = ap (counted_in kept g.slots slot) same ∙ counts.found }

-- a session goes by its image's record and journal blocks alone
pub fits-along : (g : Geometry) (given more : Given) (image : ℕ) (session : Session) → more (record_at g image) ≡ given (record_at g image) →
    ((slot : ℕ) → slot < g.slots → more (descriptor_at g image slot) ≡ given (descriptor_at g image slot)) →
    ((slot : ℕ) → slot < g.slots → more (data_at g image slot) ≡ given (data_at g image slot)) → FitsSession g given image session → FitsSession g more image session
fits-along g given more image session same descriptors blocks fits = record {
  within = fits.within;
  found = ap record_in same ∙ fits.found;
  plain = fits.plain;
  room = fits.room;
  numbers = fits.numbers;
  counts = λ k write found.
      counts-same g given more image session.image (journal_slot g.slots write.number) (descriptor_of session.image write) (descriptors (journal_slot g.slots write.number) (fits.counts k write found).within) (fits.counts k write found);
  blocks = λ k write found. blocks (journal_slot g.slots write.number) (fits.counts k write found).within ∙ fits.blocks k write found;
  only = λ slot d counts. fits.only slot d (counts-same g more given image session.image slot d (sym (descriptors slot counts.within)) counts);
  whole = λ slot below. ap (λ o. drop 512 (last_known o)) (descriptors slot below) ∙ fits.whole slot below;
}

-- an image whose journal isn't known, with no writes
pub fits-empty : (g : Geometry) (given : Given) (image : ℕ) (kept : ImageRecord) → image < g.images → record_on g given image ≡ Some kept → is_plain kept ≡ true →
    ((slot : ℕ) → given (descriptor_at g image slot) ≡ None) → FitsSession g given image (record { image = kept; writes = [] })
fits-empty g given image kept within found plain unknown = record {
  within = within;
  found = found;
  plain = plain;
  room = omega arith;
  numbers = λ k write has. absurd (let P : ⊥ = cc in P);
  counts = λ k write has. absurd (let P : ⊥ = cc in P);
  blocks = λ k write has. absurd (let P : ⊥ = cc in P);
  only = λ slot d counts. absurd (no-count kept g.slots slot d (given (descriptor_at g image slot)) (unknown slot) counts.found);
  whole = λ slot below. ap (λ o. drop 512 (last_known o)) (unknown slot);
}

-- two slots of an image whose data stands in one block are one
pub data-one : (g : Geometry) (image s t : ℕ) → data_at g image s ≡ data_at g image t → s ≡ t
data-one g image s t same = omega (arith, same)

pub descriptor-one : (g : Geometry) (image s t : ℕ) → descriptor_at g image s ≡ descriptor_at g image t → s ≡ t
descriptor-one g image s t same = omega (arith, same)

-- data in a slot that holds no write
pub fits-data : (g : Geometry) (given : Given) (image : ℕ) (session : Session) (bytes : List ℕ) → FitsSession g given image session → length session.writes < g.slots →
    FitsSession g (given_with given (data_at g image (journal_slot g.slots (write_count session + 1))) bytes) image session
fits-data g given image session bytes fits room =
    let slot = journal_slot g.slots (write_count session + 1) in
    let more = given_with given (data_at g image slot) bytes in
    let same : (s : ℕ) → more (descriptor_at g image s) ≡ given (descriptor_at g image s) =
    λ s. with-other given (data_at g image slot) bytes (descriptor_at g image s) (λ e. data-descriptor g image image slot s (sym e)) in
    record {
      within = fits.within;
      found = ap record_in (with-other given (data_at g image slot) bytes (record_at g image) (record-data g image image slot fits.within)) ∙ fits.found;
      plain = fits.plain;
      room = fits.room;
      numbers = fits.numbers;
      counts = λ k write found. counts-same g given more image session.image (journal_slot g.slots write.number) (descriptor_of session.image write) (same (journal_slot g.slots write.number)) (fits.counts k write found);
      blocks = λ k write found.
          with-other given (data_at g image slot) bytes (data_at g image (journal_slot g.slots write.number))
          (λ e. place-apart g given image session fits k write found room (data-one g image (journal_slot g.slots write.number) slot e)) ∙ fits.blocks k write found;
      only = λ s d counts. fits.only s d (counts-same g more given image session.image s d (sym (same s)) counts);
      whole = λ s below. ap (λ o. drop 512 (last_known o)) (same s) ∙ fits.whole s below;
    }

-- the commit of one more write, whose data is there
module _ (g : Geometry) (given : Given) (image : ℕ) (session : Session) (write : Journaled) (fits : FitsSession g given image session) (limits : IsDescriptor (descriptor_of session.image write))
    (live : is_live session.image ≡ true) (some : 1 ≤ g.slots) (room : length session.writes < g.slots) (number : write.number ≡ write_count session + 1)
    (held : given (data_at g image (journal_slot g.slots write.number)) ≡ Some write.block) where
  apart : (k : ℕ) (w : Journaled) → slice_get session.writes k ≡ Some w → journal_slot g.slots w.number ≢ journal_slot g.slots write.number
  apart k w found same = place-apart g given image session fits k w found room (same ∙ ap (journal_slot g.slots) number)

  spelled : counted_in session.image g.slots (journal_slot g.slots write.number) (Some (descriptor_bytes (descriptor_of session.image write))) ≡ Some (descriptor_of session.image write)
  spelled = counts-spelled session.image g.slots (journal_slot g.slots write.number) (descriptor_of session.image write) (read-descriptor (descriptor_of session.image write) limits)
      (record { live = live; generation = refl; above = omega arith; place = refl })

  abbrev Grown : Given
  Grown = given_with given (descriptor_at g image (journal_slot g.slots write.number)) (descriptor_bytes (descriptor_of session.image write))

  at_here : given_with given (descriptor_at g image (journal_slot g.slots write.number)) (descriptor_bytes (descriptor_of session.image write)) (descriptor_at g image (journal_slot g.slots write.number))
      ≡ Some (descriptor_bytes (descriptor_of session.image write))
  at_here = with-block-same given (descriptor_at g image (journal_slot g.slots write.number)) (descriptor_bytes (descriptor_of session.image write))

  elsewhere : (s : ℕ) → s ≢ journal_slot g.slots write.number →
      given_with given (descriptor_at g image (journal_slot g.slots write.number)) (descriptor_bytes (descriptor_of session.image write)) (descriptor_at g image s) ≡ given (descriptor_at g image s)
  elsewhere s other = with-other given (descriptor_at g image (journal_slot g.slots write.number)) (descriptor_bytes (descriptor_of session.image write)) (descriptor_at g image s)
      (λ e. other (descriptor-one g image s (journal_slot g.slots write.number) e))

  beside : (s : ℕ) → given_with given (descriptor_at g image (journal_slot g.slots write.number)) (descriptor_bytes (descriptor_of session.image write)) (data_at g image s) ≡ given (data_at g image s)
  beside s = with-other given (descriptor_at g image (journal_slot g.slots write.number)) (descriptor_bytes (descriptor_of session.image write)) (data_at g image s)
      (data-descriptor g image image s (journal_slot g.slots write.number))

  new-counts : CountsIn g Grown image session.image (journal_slot g.slots write.number) (descriptor_of session.image write)
  new-counts = record { within = slot-below g.slots write.number some; found = ap (counted_in session.image g.slots (journal_slot g.slots write.number)) at_here ∙ spelled }

  pub fits-more : FitsSession g (given_with given (descriptor_at g image (journal_slot g.slots write.number)) (descriptor_bytes (descriptor_of session.image write))) image (with_write session write)
  fits-more = record {
    within = fits.within;
    found = ap record_in (with-other given (descriptor_at g image (journal_slot g.slots write.number)) (descriptor_bytes (descriptor_of session.image write)) (record_at g image)
        (record-descriptor g image image (journal_slot g.slots write.number) fits.within)) ∙ fits.found;
    plain = fits.plain;
    room = simp length-append (omega arith);
    numbers = λ k w found. elim (push-cases session.writes write w k found) [
      | inl old ↦ fits.numbers k w old
      | inr new ↦ rw new.0 (ap (λ (x : Journaled). x.number) (sym new.1) ∙ (number ∙ (omega arith)))
    ];
    counts = λ k w found. elim (push-cases session.writes write w k found) [
      | inl old ↦ counts-same g given Grown image session.image (journal_slot g.slots w.number) (descriptor_of session.image w)
          (elsewhere (journal_slot g.slots w.number) (apart k w old)) (fits.counts k w old)
      | inr new ↦ subst (λ (x : Journaled). CountsIn g Grown image session.image (journal_slot g.slots x.number) (descriptor_of session.image x)) new.1 new-counts
    ];
    blocks = λ k w found. elim (push-cases session.writes write w k found) [
      | inl old ↦ beside (journal_slot g.slots w.number) ∙ fits.blocks k w old
      | inr new ↦ subst (λ (x : Journaled). Grown (data_at g image (journal_slot g.slots x.number)) ≡ Some x.block) new.1 (beside (journal_slot g.slots write.number) ∙ held)
    ];
    only = λ s d counts. elim (eqb_tells s (journal_slot g.slots write.number)) [
      | inl same ↦
          let found = counts.found in
          let moved : counted_in session.image g.slots (journal_slot g.slots write.number) (Grown (descriptor_at g image (journal_slot g.slots write.number))) ≡ Some d =
          subst (λ n. counted_in session.image g.slots n (Grown (descriptor_at g image n)) ≡ Some d) same.1 found in
          let mine = new-counts.found in
          (length session.writes, write, push-last session.writes write, (let e : Some (descriptor_of session.image write) ≡ Some d = sym mine ∙ moved in let f : d ≡ descriptor_of session.image write = cc in f))
      | inr other ↦
          let old = fits.only s d (counts-same g Grown given image session.image s d (sym (elsewhere s other.1)) counts) in
          (old.0, old.1, push-before session.writes write old.1 old.0 old.2, old.3)
    ];
    whole = λ s within. elim (eqb_tells s (journal_slot g.slots write.number)) [
      | inl same ↦ subst (λ n. drop 512 (last_known (Grown (descriptor_at g image n))) ≡ drop 512 zeros) (sym same.1)
          (ap (λ o. drop 512 (last_known o)) at_here ∙ descriptor-back (descriptor_of session.image write))
      | inr other ↦ ap (λ o. drop 512 (last_known o)) (elsewhere s other.1) ∙ fits.whole s within
    ];
  }
