-- What a session that fits the known bytes tells of the image that they store.
use Rattle.std.proofs.Common.{◌≡◌, ◌≢◌, ℕ, ◌+◌, ◌≤◌, ◌<◌, List, [], length, refl, ap, sym, subst, ◌∙◌, true, Option, Some, None, arith, inl, inr}
use Rattle.std.specs.Prelude.{slice_get, ◌==◌}
use Rattle.std.proofs.lemmas.Option.{slice_get_within}
use Rattle.plx_base.specs.Blocks.{zeros}
use Rattle.plx_gate.specs.Images.{label_of, read_image, IsImage}
use Rattle.plx_gate.specs.declared.descriptor.Descriptor.{Descriptor}
use Rattle.plx_gate.specs.declared.image.ImageRecord.{ImageRecord}
use Rattle.plx_gate.proofs.Images.{image-only}
use Rattle.plx_geom.specs.Geometry.{Geometry, record_at, data_at}
use Rattle.plx_rules.specs.Journaled.{Journaled}
use Rattle.plx_rules.specs.Journal.{journal_slot, descriptor_of}
use Rattle.plx_rules.specs.Records.{is_live, generation_of, size_of, taken_of, root_of, applied_of, is_plain}
use Rattle.plx_rules.specs.Session.{Session, write_count, latest, content}
use Rattle.plx_rules.specs.Stored.{Given, Holds, standing_in, leads_to, digits_of, StoredImage, record_in, record_on, CountsIn, IsCounted, IsWriteCount, IsNewest, IsContent, journalled, unwritten, Stores}
use Rattle.law_run.proofs.Counted.{data-placed, write-counted}
use Rattle.law_lease.proofs.Latest.{last-of, IsLast, IsLatest, latest-is}
use Rattle.law_run.proofs.Right.{FitsSession}
use Rattle.law_run.proofs.Slots.{slot-apart}
use Rattle.plx_base.proofs.Tests.{and-parts, eqb-is}

-- the image of a session, which has no snapshots
abbrev pub stored_by_session : Session → StoredImage
stored_by_session session = record {
  live = is_live session.image;
  generation = generation_of session.image;
  size = size_of session.image;
  label = label_of session.image;
  writes = write_count session;
  content = λ vblock. Holds (content session vblock);
  frozen = [];
}

-- an image without snapshots and tree
pub plain-parts : (kept : ImageRecord) → is_plain kept ≡ true → (taken_of kept ≡ 0) × (root_of kept ≡ 0)
plain-parts kept plain =
    let both = and-parts (taken_of kept == 0) (root_of kept == 0) plain in (eqb-is (taken_of kept) 0 both.0, eqb-is (root_of kept) 0 both.1)

-- the bytes of a record
record-bytes : (found : Option (List ℕ)) (kept : ImageRecord) → record_in found ≡ Some kept → (bytes : List ℕ) × (found ≡ Some bytes) × (read_image bytes ≡ Some kept)
record-bytes None kept is = absurd (let P : ⊥ = cc in P)
record-bytes (Some bytes) kept is = (bytes, refl, is)

pub record-spelled : (g : Geometry) (given : Given) (image : ℕ) (kept : ImageRecord) → record_on g given image ≡ Some kept →
    (bytes : List ℕ) × (given (record_at g image) ≡ Some bytes) × (read_image bytes ≡ Some kept)
record-spelled g given image kept found = record-bytes (given (record_at g image)) kept found

module _ (g : Geometry) (given : Given) (image : ℕ) (session : Session) (fits : FitsSession g given image session) where
  -- the record is within its limits
  pub limits : IsImage session.image
  limits = let r = record-spelled g given image session.image fits.found in (image-only r.0 session.image r.2).0

  -- the number of what counts
  pub counts-number : (slot : ℕ) (d : Descriptor) → CountsIn g given image session.image slot d →
      (k : ℕ) × (write : Journaled) × (slice_get session.writes k ≡ Some write) × (d ≡ descriptor_of session.image write) × (d.number ≡ applied_of session.image + (k + 1)) × (k < length session.writes)
  counts-number slot d counts =
      let found = fits.only slot d counts in
      (found.0, found.1, found.2, found.3, ap (λ (e : Descriptor). e.number) found.3 ∙ fits.numbers found.0 found.1 found.2, slice_get_within session.writes found.0 found.1 found.2)

  -- a write of the session counts
  pub fits-counted : (k : ℕ) (write : Journaled) → slice_get session.writes k ≡ Some write →
      IsCounted g given image session.image write.number write.vblock (data_at g image (journal_slot g.slots write.number))
  fits-counted k write found =
      write-counted g given image session.image (journal_slot g.slots write.number) (descriptor_of session.image write) (fits.counts k write found)

  pub write-count : IsWriteCount g given image session.image (write_count session)
  write-count = record {
    greatest = λ number vblock block counted. (
        let tells = counts-number counted.slot counted.descriptor counted.counts in let same = counted.numbered in omega (arith, tells.4, tells.5));
    least = omega arith;
    reached = elim (last-of session.writes) [
      | inl none ↦ inl (omega (arith, none))
      | inr last ↦ inr (
        last.1.vblock,
        data_at g image (journal_slot g.slots last.1.number),
        subst (λ n. IsCounted g given image session.image n last.1.vblock (data_at g image (journal_slot g.slots last.1.number)))
            (fits.numbers last.0 last.1 last.2 ∙ ap (λ n. applied_of session.image + n) last.3) (fits-counted last.0 last.1 last.2),
      )
    ];
  }

  newest-write : (vblock k : ℕ) (write : Journaled) → IsLast session.writes vblock k write →
      IsNewest g given image session.image vblock write.number (data_at g image (journal_slot g.slots write.number))
  newest-write vblock k write is = record {
    counts = subst (λ v. IsCounted g given image session.image write.number v (data_at g image (journal_slot g.slots write.number))) is.names (fits-counted k write is.found);
    newest = λ other its counted. (
        let tells = counts-number counted.slot counted.descriptor counted.counts in
        let order : tells.0 ≤ k = is.last tells.0 tells.1 tells.2 (sym (ap (λ (d : Descriptor). d.vblock) tells.3) ∙ counted.names) in
        let mine = fits.numbers k write is.found in
        let same = counted.numbered in
        omega (arith, tells.4)
        );
  }

  hole : (vblock : ℕ) → leads_to given (root_of session.image) (digits_of vblock) ≡ Holds zeros
  hole vblock = ap (λ root. leads_to given root (digits_of vblock)) (plain-parts session.image fits.plain).1

  -- what the writes leave in a virtual block is its content
  content-is : (vblock : ℕ) (bytes : List ℕ) → IsLatest zeros vblock session.writes bytes → IsContent g given image session.image vblock (Holds bytes)
  content-is vblock bytes (inl newest) =
      journalled newest.1.number (data_at g image (journal_slot g.slots newest.1.number)) (newest-write vblock newest.0 newest.1 newest.2)
      (ap Holds newest.3 ∙ sym (ap (standing_in (data_at g image (journal_slot g.slots newest.1.number))) (fits.blocks newest.0 newest.1 newest.2.found)))
  content-is vblock bytes (inr none) =
      unwritten (λ number block counted. (
      let found = fits.only counted.slot counted.descriptor counted.counts in none.0 found.0 found.1 found.2 (sym (ap (λ (d : Descriptor). d.vblock) found.3) ∙ counted.names)))
      (ap Holds none.1 ∙ sym (hole vblock))

  pub content-held : (vblock : ℕ) → IsContent g given image session.image vblock (Holds (content session vblock))
  content-held vblock = content-is vblock (latest zeros vblock session.writes) (latest-is zeros vblock session.writes)

  pub stores-session : Stores g given image (stored_by_session session)
  stores-session = record {
    kept = session.image;
    found = fits.found;
    live = refl;
    generation = refl;
    size = refl;
    label = refl;
    writes = write-count;
    content = content-held;
    frozen = record { count = sym (plain-parts session.image fits.plain).0; each = λ index snapshot found. absurd (let P : ⊥ = cc in P) };
  }

  -- the slot of the next write is none of a write that is there
  pub place-apart : (k : ℕ) (write : Journaled) → slice_get session.writes k ≡ Some write → length session.writes < g.slots →
      journal_slot g.slots write.number ≢ journal_slot g.slots (write_count session + 1)
  place-apart k write found room same =
      let number = fits.numbers k write found in
      let within = slice_get_within session.writes k write found in
      let one : write.number ≡ write_count session + 1 =
      slot-apart g.slots write.number (write_count session + 1) (omega (arith, number)) (omega arith) (omega (arith, number, within, room)) (omega (arith, number, within, room)) same in
      omega (arith, number, within, one)

  -- while there is room the next write's block for its data holds that of none that counts
  pub next-free : length session.writes < g.slots → (number vblock : ℕ) → ¬ IsCounted g given image session.image number vblock (data_at g image (journal_slot g.slots (write_count session + 1)))
  next-free room number vblock counted =
      let at = data-placed g given image session.image number vblock (data_at g image (journal_slot g.slots (write_count session + 1))) counted in
      let place : journal_slot g.slots number ≡ journal_slot g.slots (write_count session + 1) = omega (arith, at) in
      let found = fits.only counted.slot counted.descriptor counted.counts in
      place-apart found.0 found.1 found.2 room (ap (λ (e : Descriptor). journal_slot g.slots e.number) (sym found.3) ∙ (ap (journal_slot g.slots) counted.numbered ∙ place))

-- given bytes have one number of writes
pub count-below : (g : Geometry) (given : Given) (image : ℕ) (kept : ImageRecord) (c e : ℕ) → IsWriteCount g given image kept c → IsWriteCount g given image kept e → c ≤ e
count-below g given image kept c e one other = elim one.reached [
  | inl applied ↦ (let least = other.least in omega arith)
  | inr counted ↦ other.greatest c counted.0 counted.1 counted.2
]

pub count-one : (g : Geometry) (given : Given) (image : ℕ) (kept : ImageRecord) (c e : ℕ) → IsWriteCount g given image kept c → IsWriteCount g given image kept e → c ≡ e
count-one g given image kept c e one other =
    let below = count-below g given image kept c e one other in let above = count-below g given image kept e c other one in omega arith
