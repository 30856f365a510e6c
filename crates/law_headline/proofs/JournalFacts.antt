-- The journal on a device that changes, and what its slots say.
use Rattle.std.proofs.Common.{◌≡◌, ◌≢◌, ℕ, ◌+◌, ◌≤◌, ◌<◌, ◌^◌, ◌⊎◌, List, [], ◌∷◌, ◌++◌, length, drop, refl, ap, sym, subst, ◌∙◌, Bool, true, false, Some, None, arith, inl, inr}
use Rattle.std.specs.Prelude.{slice_get, if◌then◌else◌, ◌==◌, nat_lt}
use Rattle.std.proofs.lemmas.Bool.Decides.{eqb_tells}
use Rattle.std.proofs.lemmas.Option.{slice_get_within}
use Rattle.plx_base.specs.Sectors.{Device, put}
use Rattle.plx_base.proofs.Devices.{put-same, put-other}
use Rattle.plx_base.proofs.Tests.{and-parts, eqb-is, eqb-true, nat_lt-true}
use Rattle.plx_commands.specs.Model.{Slot}
use Rattle.plx_gate.specs.Descriptors.{descriptor_bytes, IsDescriptor, read_descriptor}
use Rattle.plx_gate.specs.Images.{image_bytes, IsImage, read_image}
use Rattle.plx_gate.specs.declared.descriptor.Descriptor.{Descriptor}
use Rattle.plx_gate.specs.declared.image.ImageRecord.{ImageRecord}
use Rattle.plx_gate.specs.declared.image.ImageRecord.TheVariants.{Free, Live}
use Rattle.plx_gate.proofs.Descriptors.{read-descriptor, read-zeros}
use Rattle.plx_gate.proofs.Images.{image-back, image-only}
use Rattle.plx_geom.specs.Geometry.{Geometry, record_at, descriptor_at, data_at}
use Rattle.plx_geom.proofs.Places.{data-descriptor, record-descriptor}
use Rattle.plx_rules.specs.Journaled.{Journaled}
use Rattle.plx_rules.specs.Journal.{is_placed, Finding, Outside, Unused, Counts, counted_of, finding, descriptor_of}
use Rattle.plx_rules.specs.Records.{is_live, is_plain, generation_of, size_of}
use Rattle.plx_rules.specs.Session.{write_count}
use Rattle.plx_rules.specs.Stored.{CountsIn, all_of, counted_in}
use Rattle.law_run.specs.KnownBytes.{given_with}
use Rattle.law_run.proofs.Counted.{counted-tells, counts-tells}
use Rattle.law_run.proofs.Grown.{descriptor-one, fits-along, fits-data, fits-more}
use Rattle.law_run.proofs.Inside.{IsSound}
use Rattle.law_run.proofs.Loading.{Says, says}
use Rattle.law_run.proofs.Slots.{slot-apart}
use Rattle.law_headline.proofs.Journals.{IsOld, IsJournal, HoldsSlot, Same, next_slot, session_of, slot_of}

-- the limits of a record, of either kind
pub record KeptLimits (kept : ImageRecord) : Type 0 where
  pub generation : generation_of kept < 2 ^ 32
  pub size : size_of kept ≤ 2 ^ 27
  pub made : is_live kept ≡ true → 1 ≤ generation_of kept
  pub some : is_live kept ≡ true → 1 ≤ size_of kept

pub kept-limits : (kept : ImageRecord) → IsImage kept → KeptLimits kept
kept-limits (Free generation) is = record { generation = is; size = omega arith; made = λ e. absurd (let P : ⊥ = cc in P); some = λ e. absurd (let P : ⊥ = cc in P) }
kept-limits (Live live) is =
    record { generation = is.generation_high; size = is.size_high; made = λ e. is.generation_low; some = λ e. is.size_low }

-- ---- what a journal says

module _ (g : Geometry) (device : Device) (image : ℕ) (kept : ImageRecord) (writes : List Journaled) (j : IsJournal g device image kept writes) where
  -- the record is within its limits, and it is what the image's block spells
  pub recorded : IsImage kept × (device (record_at g image) ≡ image_bytes kept)
  recorded = image-only (device (record_at g image)) kept j.fits.found

  -- a journal with a write is a live image's
  pub has-live : (k : ℕ) (write : Journaled) → slice_get writes k ≡ Some write → is_live kept ≡ true
  has-live k write at = (counts-tells g (all_of device) image kept (slot_of g write) (descriptor_of kept write) (j.fits.counts k write at)).live

  -- a free slot's has none
  pub free-none : is_live kept ≡ false → writes ≡ []
  free-none dead = by_first writes refl
    where
      by_first : (ws : List Journaled) → writes ≡ ws → ws ≡ []
      by_first [] e = refl
      by_first (write ∷ ws) e =
          let at : slice_get writes 0 ≡ Some write = ap (λ (l : List Journaled). slice_get l 0) e in
          let both : true ≡ false = sym (has-live 0 write at) ∙ dead in
          absurd (let P : ⊥ = cc in P)

  -- writes of one slot are one
  pub slot-one : (k l : ℕ) (x y : Journaled) → slice_get writes k ≡ Some x → slice_get writes l ≡ Some y → slot_of g x ≡ slot_of g y → k ≡ l
  slot-one k l x y p q same =
      let one = j.fits.numbers k x p in
      let other = j.fits.numbers l y q in
      let below = slice_get_within writes k x p in
      let below' = slice_get_within writes l y q in
      let room = j.fits.room in
      let number = slot-apart g.slots x.number y.number (omega (arith, one)) (omega (arith, other)) (omega (arith, one, other, below, below', room)) (omega (arith, one, other, below, below', room)) same in
      omega (arith, one, other, number)

  -- no write stands in a slot
  abbrev pub StandsNone : ℕ → Type 0
  StandsNone slot = (k : ℕ) (write : Journaled) → slice_get writes k ≡ Some write → slot_of g write ≢ slot

  -- a write stands in a slot, which says so
  pub record Stands (slot : ℕ) : Type 0 where
    pub index : ℕ
    pub write : Journaled
    pub at : slice_get writes index ≡ Some write
    pub place : slot_of g write ≡ slot
    pub says_so : finding kept g.slots slot (device (descriptor_at g image slot)) ≡ Counts (descriptor_of kept write)

  -- each slot is unused, or a write stands there
  pub in-slot : (slot : ℕ) → slot < g.slots → ((finding kept g.slots slot (device (descriptor_at g image slot)) ≡ Unused) × StandsNone slot) ⊎ Stands slot
  in-slot slot within = decide (finding kept g.slots slot bytes) refl (says kept g.slots slot (read_descriptor bytes))
    where
      bytes : List ℕ
      bytes = device (descriptor_at g image slot)

      decide : (f : Finding) → finding kept g.slots slot bytes ≡ f → Says kept g.slots slot (read_descriptor bytes) f → ((finding kept g.slots slot bytes ≡ Unused) × StandsNone slot) ⊎ Stands slot
      decide Outside is (inl none) = absurd ((j.sound slot within).0 none)
      decide Outside is (inr out) =
          let good = (j.sound slot within).1 out.0 out.1 out.2 in
          absurd (elim out.3 [
            | inl misplaced ↦ (let both = sym good.0 ∙ misplaced in let P : ⊥ = cc in P)
            | inr past ↦ (let both = sym good.1 ∙ past in let P : ⊥ = cc in P)
          ])
      decide Unused is unused = inl (
        is,
        λ k write at place. (
            let counts = (j.fits.counts k write at).found in
            let here : counted_of kept g.slots slot (read_descriptor bytes) ≡ Some (descriptor_of kept write) =
            subst (λ n. counted_in kept g.slots n (Some (device (descriptor_at g image n))) ≡ Some (descriptor_of kept write)) place counts in
            let both = sym unused.0 ∙ here in let P : ⊥ = cc in P),
      )
      decide (Counts d) is counts =
          let counted : CountsIn g (all_of device) image kept slot d = record { within = within; found = counts.0 } in
          let found = j.fits.only slot d counted in
          let tells = counts-tells g (all_of device) image kept slot d counted in
          inr (record {
            index = found.0;
            write = found.1;
            at = found.2;
            place = ap (λ (e : Descriptor). slot_of g (record { number = e.number; vblock = 0; block = [] })) (sym found.3) ∙ tells.place;
            says_so = is ∙ ap Counts found.3;
          })

-- ---- the journal on a device that changes

-- the journal on a device that holds the same of it
pub IsJournal-same : (g : Geometry) (d e : Device) (image : ℕ) (kept : ImageRecord) (writes : List Journaled) → Same g image d e → IsJournal g d image kept writes → IsJournal g e image kept writes
IsJournal-same g d e image kept writes same j = record {
  fits = fits-along g (all_of d) (all_of e) image (session_of kept writes) (ap Some same.recorded) (λ slot within. ap Some (same.descriptors slot within))
      (λ slot within. ap Some (same.blocks slot within)) j.fits;
  sound = λ slot within. subst (λ (x : List ℕ). IsSound kept g.slots slot (read_descriptor x)) (sym (same.descriptors slot within)) (j.sound slot within);
  old = λ slot within. subst (λ (x : List ℕ). IsOld kept x) (sym (same.descriptors slot within)) (j.old slot within);
}

pub Keeps-same : (g : Geometry) (d e : Device) (image : ℕ) (slot : Slot) → Same g image d e → HoldsSlot g d image slot → HoldsSlot g e image slot
Keeps-same g d e image slot same k = record { kept = k.kept; writes = k.writes; journal = IsJournal-same g d e image k.kept k.writes same k.journal; either = k.either }

-- a block that is written is one more that is given
given-put : (device : Device) (block : ℕ) (bytes : List ℕ) (b : ℕ) → all_of (put device block bytes) b ≡ given_with (all_of device) block bytes b
given-put device block bytes b = by_test (b == block)
  where
    by_test : (t : Bool) → Some (if t then bytes else device b) ≡ (if t then Some bytes else Some (device b))
    by_test true = refl
    by_test false = refl

-- data in the slot of the next write
pub IsJournal-data : (g : Geometry) (device : Device) (image : ℕ) (kept : ImageRecord) (writes : List Journaled) (bytes : List ℕ) → IsJournal g device image kept writes →
    length writes < g.slots → IsJournal g (put device (data_at g image (next_slot g kept writes)) bytes) image kept writes
IsJournal-data g device image kept writes bytes j room =
    let block = data_at g image (next_slot g kept writes) in
    let more = put device block bytes in
    let here = given-put device block bytes in
    let away : (slot : ℕ) → more (descriptor_at g image slot) ≡ device (descriptor_at g image slot) =
    λ slot. put-other device block bytes (descriptor_at g image slot) (λ e. data-descriptor g image image (next_slot g kept writes) slot (sym e)) in
    record {
      fits = fits-along g (given_with (all_of device) block bytes) (all_of more) image (session_of kept writes) (here (record_at g image))
          (λ slot within. here (descriptor_at g image slot)) (λ slot within. here (data_at g image slot))
          (fits-data g (all_of device) image (session_of kept writes) bytes j.fits room);
      sound = λ slot within. subst (λ (x : List ℕ). IsSound kept g.slots slot (read_descriptor x)) (sym (away slot)) (j.sound slot within);
      old = λ slot within. subst (λ (x : List ℕ). IsOld kept x) (sym (away slot)) (j.old slot within);
    }

-- the commit of one more write of a live image, whose data is there
module _ (g : Geometry) (device : Device) (image : ℕ) (kept : ImageRecord) (writes : List Journaled) (write : Journaled) (j : IsJournal g device image kept writes)
    (limits : IsDescriptor (descriptor_of kept write)) (live : is_live kept ≡ true) (some : 1 ≤ g.slots) (room : length writes < g.slots)
    (number : write.number ≡ write_count (session_of kept writes) + 1) (names : write.vblock < size_of kept)
    (held : device (data_at g image (slot_of g write)) ≡ write.block) where
  abbrev pub Committed : Device
  Committed = put device (descriptor_at g image (slot_of g write)) (descriptor_bytes (descriptor_of kept write))

  -- what stands in a slot, its own or another
  in-each : (P : ℕ → List ℕ → Type 0) → P (slot_of g write) (descriptor_bytes (descriptor_of kept write)) →
      ((slot : ℕ) → slot < g.slots → P slot (device (descriptor_at g image slot))) → (slot : ℕ) → slot < g.slots → P slot (Committed (descriptor_at g image slot))
  in-each P own others slot within = elim (eqb_tells slot (slot_of g write)) [
    | inl is ↦ subst (λ n. P n (Committed (descriptor_at g image n))) (sym is.1)
        (subst (P (slot_of g write)) (sym (put-same device (descriptor_at g image (slot_of g write)) (descriptor_bytes (descriptor_of kept write)))) own)
    | inr other ↦ subst (P slot)
        (sym (put-other device (descriptor_at g image (slot_of g write)) (descriptor_bytes (descriptor_of kept write)) (descriptor_at g image slot) (λ e. other.1 (descriptor-one g image slot (slot_of g write) e))))
        (others slot within)
  ]

  -- its descriptor is within the format
  own-sound : IsSound kept g.slots (slot_of g write) (read_descriptor (descriptor_bytes (descriptor_of kept write)))
  own-sound =
      let d = descriptor_of kept write in
      subst (λ found. IsSound kept g.slots (slot_of g write) found) (sym (read-descriptor d limits)) (
        (λ e. (let P : ⊥ = cc in P)),
        λ other is unapplied. (
            let same : d ≡ other = cc in
            let P : Descriptor → Type 0 = λ x. (is_placed g.slots (slot_of g write) x ≡ true) × (nat_lt x.vblock (size_of kept) ≡ true) in
            subst P same (eqb-true (slot_of g write) (slot_of g write) refl, nat_lt-true write.vblock (size_of kept) names)),
      )

  pub IsJournal-more : IsJournal g Committed image kept (writes ++ write ∷ [])
  IsJournal-more =
      let block = descriptor_at g image (slot_of g write) in
      let bytes = descriptor_bytes (descriptor_of kept write) in
      let here = given-put device block bytes in
      record {
        fits = fits-along g (given_with (all_of device) block bytes) (all_of Committed) image (session_of kept (writes ++ write ∷ [])) (here (record_at g image))
            (λ slot within. here (descriptor_at g image slot)) (λ slot within. here (data_at g image slot))
            (fits-more g (all_of device) image (session_of kept writes) write j.fits limits live some room number (ap Some held));
        sound = in-each (λ slot x. IsSound kept g.slots slot (read_descriptor x)) own-sound j.sound;
        old = in-each (λ slot x. IsOld kept x) (inr (descriptor_of kept write, refl, limits, omega arith)) j.old;
      }

-- ---- a record of a later generation, or of a free slot

-- bytes of generations up to one are within the format
old-read : (kept : ImageRecord) (bytes : List ℕ) → IsOld kept bytes → read_descriptor bytes ≢ None
old-read kept bytes (inl none) e = (let both = sym e ∙ (ap read_descriptor none ∙ read-zeros) in let P : ⊥ = cc in P)
old-read kept bytes (inr d) e = (let both = sym e ∙ (ap read_descriptor d.1 ∙ read-descriptor d.0 d.2) in let P : ⊥ = cc in P)

-- the generation that a descriptor of them has
old-generation : (kept : ImageRecord) (bytes : List ℕ) → IsOld kept bytes → (d : Descriptor) → read_descriptor bytes ≡ Some (Some d) → d.generation ≤ generation_of kept
old-generation kept bytes (inl none) d e = absurd (let both = sym e ∙ (ap read_descriptor none ∙ read-zeros) in let P : ⊥ = cc in P)
old-generation kept bytes (inr old) d e =
    let both : Some (Some d) ≡ Some (Some old.0) = sym e ∙ (ap read_descriptor old.1 ∙ read-descriptor old.0 old.2) in
    let same : d ≡ old.0 = cc in
    let below = old.3 in
    let generation : d.generation ≡ old.0.generation = ap (λ (x : Descriptor). x.generation) same in
    omega (arith, below, generation)

-- its journal is empty
pub IsJournal-made : (g : Geometry) (device : Device) (image : ℕ) (kept new : ImageRecord) (writes : List Journaled) → IsJournal g device image kept writes →
    IsImage new → is_plain new ≡ true → generation_of kept ≤ generation_of new → (is_live new ≡ true → generation_of kept < generation_of new) →
    IsJournal g (put device (record_at g image) (image_bytes new)) image new []
IsJournal-made g device image kept new writes j limits plain later live = record {
  fits = record {
    within = j.fits.within;
    found = ap read_image (put-same device (record_at g image) (image_bytes new)) ∙ image-back new limits;
    plain = plain;
    room = omega arith;
    numbers = λ k w at. absurd (let P : ⊥ = cc in P);
    counts = λ k w at. absurd (let P : ⊥ = cc in P);
    blocks = λ k w at. absurd (let P : ⊥ = cc in P);
    only = λ slot d counts.
        let tells = counted-tells new g.slots slot (read_descriptor (made (descriptor_at g image slot))) d counts.found in
        absurd (not-own slot counts.within d tells.0 tells.1.live tells.1.generation);
    whole = λ slot within. ap (drop 512) (there slot) ∙ j.fits.whole slot within;
  };
  sound = λ slot within. (
    (λ e. old-read kept (device (descriptor_at g image slot)) (j.old slot within) (ap read_descriptor (sym (there slot)) ∙ e)),
    λ d is unapplied.
        let both = and-parts (is_live new) _ unapplied in
        absurd (not-own slot within d is both.0 (eqb-is d.generation (generation_of new) (and-parts (d.generation == generation_of new) _ both.1).0)),
  );
  old = λ slot within. subst (λ (x : List ℕ). IsOld new x) (sym (there slot)) (elim (j.old slot within) [ inl none ↦ inl none | inr d ↦ inr (d.0, d.1, d.2, (let o = d.3 in omega (arith, o, later))) ]);
}
  where
    made : Device
    made = put device (record_at g image) (image_bytes new)

    there : (slot : ℕ) → made (descriptor_at g image slot) ≡ device (descriptor_at g image slot)
    there slot = put-other device (record_at g image) (image_bytes new) (descriptor_at g image slot) (λ e. record-descriptor g image image slot j.fits.within (sym e))

    not-own : (slot : ℕ) → slot < g.slots → (d : Descriptor) → read_descriptor (made (descriptor_at g image slot)) ≡ Some (Some d) → is_live new ≡ true → d.generation ≡ generation_of new → ⊥
    not-own slot within d is lives own =
        let below = old-generation kept (device (descriptor_at g image slot)) (j.old slot within) d (ap read_descriptor (sym (there slot)) ∙ is) in
        let above = live lives in
        absurd (omega (arith, below, above, own))
