-- What is known of an image while an attach reads its journal.
use Rattle.std.proofs.Common.{◌≡◌, ◌≢◌, ℕ, ◌+◌, ◌≤◌, ◌<◌, List, [], ◌∷◌, length, drop, Bool, true, false, Option, Some, None, refl, ap, sym, subst, ◌∙◌, arith, inl, inr, ◌⊎◌}
use Rattle.std.specs.Prelude.{if◌then◌else◌, ◌&&◌, nat_lt}
use Rattle.std.proofs.lemmas.Bool.Decides.{eqb_tells}
use Rattle.plx_base.specs.Blocks.{zeros}
use Rattle.plx_gate.specs.Descriptors.{read_descriptor}
use Rattle.plx_gate.specs.declared.descriptor.Descriptor.{Descriptor}
use Rattle.plx_gate.specs.declared.image.ImageRecord.{ImageRecord}
use Rattle.plx_gate.proofs.Descriptors.{descriptor-back, descriptor-only, read-empty}
use Rattle.plx_geom.specs.Geometry.{Geometry, record_at, descriptor_at, data_at}
use Rattle.plx_geom.proofs.Places.{record-descriptor, record-data, data-descriptor}
use Rattle.plx_rules.specs.Journaled.{Journaled}
use Rattle.plx_rules.specs.Journal.{journal_slot, is_unapplied, is_placed, counted_descriptor, counted_of, Finding, Outside, Unused, Counts, finding_of, descriptor_of}
use Rattle.plx_rules.specs.Records.{is_plain, size_of, applied_of}
use Rattle.plx_rules.specs.Session.{with_write_by_number, first_gap}
use Rattle.plx_rules.specs.Stored.{Given, record_in, record_on, counted_in, CountsIn}
use Rattle.law_run.specs.AllowedAsks.{last_known}
use Rattle.law_run.specs.CommandLogs.{Exchange, IsIn}
use Rattle.law_run.specs.KnownBytes.{given_with}
use Rattle.law_run.proofs.Counted.{TellsFirst, counted-tells, no-count}
use Rattle.law_run.proofs.Grown.{with-block-same, with-other, counts-same, data-one, descriptor-one}
use Rattle.law_run.proofs.Inside.{IsSound, AllInside, inside-descriptor, inside-data}
use Rattle.law_run.proofs.Inserted.{HasWrite, has-inserted, inserted-new, inserted-old, length-inserted, Ascending, ascending-inserted, numbers-ascend}
use Rattle.law_run.proofs.Right.{read_of, FitsSession}
use Rattle.plx_base.proofs.Tests.{clash}

-- ---- what is found in a slot

-- what a finding says of the slot's descriptor
abbrev pub Says : ImageRecord → (slots slot : ℕ) → Option (Option Descriptor) → Finding → Type 0
Says kept slots slot found Outside =
    (found ≡ None) ⊎ ((d : Descriptor) × (found ≡ Some (Some d)) × (is_unapplied kept d ≡ true) × ((is_placed slots slot d ≡ false) ⊎ (nat_lt d.vblock (size_of kept) ≡ false)))
Says kept slots slot found Unused = (counted_of kept slots slot found ≡ None) × ((o : Option Descriptor) × (found ≡ Some o)) × IsSound kept slots slot found
Says kept slots slot found (Counts d) = (counted_of kept slots slot found ≡ Some d) × (found ≡ Some (Some d)) × IsSound kept slots slot found

says-placed : (kept : ImageRecord) (slots slot : ℕ) (d : Descriptor) (w : Bool) → nat_lt d.vblock (size_of kept) ≡ w → is_unapplied kept d ≡ true → is_placed slots slot d ≡ true →
    Says kept slots slot (Some (Some d)) (if w then Counts d else Outside)
says-placed kept slots slot d true hw hu hp = (
  ap (λ (t : Bool). if t && is_placed slots slot d then Some d else None) hu ∙ ap (λ (t : Bool). if t then Some d else None) hp,
  refl,
  (
    λ e. (let P : ⊥ = cc in P),
    λ other is u. (
        let same : other ≡ d = cc in
        (ap (is_placed slots slot) same ∙ hp, ap (λ (x : Descriptor). nat_lt x.vblock (size_of kept)) same ∙ hw)),
  ),
)
says-placed kept slots slot d false hw hu hp = inr (d, refl, hu, inr hw)

says-unapplied : (kept : ImageRecord) (slots slot : ℕ) (d : Descriptor) (p : Bool) → is_placed slots slot d ≡ p → is_unapplied kept d ≡ true →
    Says kept slots slot (Some (Some d)) (if p && nat_lt d.vblock (size_of kept) then Counts d else Outside)
says-unapplied kept slots slot d true hp hu = says-placed kept slots slot d (nat_lt d.vblock (size_of kept)) refl hu hp
says-unapplied kept slots slot d false hp hu = inr (d, refl, hu, inl hp)

says-descriptor : (kept : ImageRecord) (slots slot : ℕ) (d : Descriptor) (u : Bool) → is_unapplied kept d ≡ u →
    Says kept slots slot (Some (Some d)) (if u then (if is_placed slots slot d && nat_lt d.vblock (size_of kept) then Counts d else Outside) else Unused)
says-descriptor kept slots slot d true hu = says-unapplied kept slots slot d (is_placed slots slot d) refl hu
says-descriptor kept slots slot d false hu = (
  ap (λ (t : Bool). if t && is_placed slots slot d then Some d else None) hu,
  (Some d, refl),
  (λ e. (let P : ⊥ = cc in P), λ other is u. (let same : other ≡ d = cc in absurd (clash (is_unapplied kept d) (ap (is_unapplied kept) (sym same) ∙ u) hu))),
)

pub says : (kept : ImageRecord) (slots slot : ℕ) (found : Option (Option Descriptor)) → Says kept slots slot found (finding_of kept slots slot found)
says kept slots slot None = inl refl
says kept slots slot (Some None) = (refl, (None, refl), (λ e. (let P : ⊥ = cc in P), λ d is u. (let P : ⊥ = cc in absurd P)))
says kept slots slot (Some (Some d)) = says-descriptor kept slots slot d (is_unapplied kept d) refl

-- bytes that spell a descriptor, or none, are zeros past the first sector
pub whole-spelled : (bytes : List ℕ) (found : Option Descriptor) → read_descriptor bytes ≡ Some found → drop 512 bytes ≡ drop 512 zeros
whole-spelled bytes None is = ap (drop 512) (read-empty bytes is)
whole-spelled bytes (Some d) is = ap (drop 512) (descriptor-only bytes d is).0 ∙ descriptor-back d

-- ---- the descriptors that were read so far

-- the descriptors of the slots below `place` are known, and these are the writes that count among them
pub record Loading (g : Geometry) (given : Given) (image : ℕ) (kept : ImageRecord) (place : ℕ) (writes : List Journaled) (done : List Exchange) : Type 0 where
  pub found : record_on g given image ≡ Some kept
  pub room : length writes ≤ place
  pub ascending : Ascending (applied_of kept) writes
  pub counts : (write : Journaled) → HasWrite writes write → CountsIn g given image kept (journal_slot g.slots write.number) (descriptor_of kept write)
  pub below : (write : Journaled) → HasWrite writes write → journal_slot g.slots write.number < place
  pub blocks : (write : Journaled) → HasWrite writes write → given (data_at g image (journal_slot g.slots write.number)) ≡ Some write.block
  pub only : (slot : ℕ) (d : Descriptor) → CountsIn g given image kept slot d → (write : Journaled) × HasWrite writes write × (d ≡ descriptor_of kept write)
  pub later : (slot : ℕ) → place ≤ slot → given (descriptor_at g image slot) ≡ None
  pub whole : (slot : ℕ) → slot < place → drop 512 (last_known (given (descriptor_at g image slot))) ≡ drop 512 zeros
  pub was_read : (slot : ℕ) → slot < place → (bytes : List ℕ) × IsIn (read_of (descriptor_at g image slot) bytes) done
  pub inside : AllInside g image kept done

pub loads-first : (g : Geometry) (given : Given) (image : ℕ) (kept : ImageRecord) (done : List Exchange) → record_on g given image ≡ Some kept →
    ((slot : ℕ) → given (descriptor_at g image slot) ≡ None) → AllInside g image kept done → Loading g given image kept 0 [] done
loads-first g given image kept done found unknown inside = record {
  inside = inside;
  found = found;
  room = omega arith;
  ascending = tt;
  counts = λ write has. absurd (let e = has.1 in let P : ⊥ = cc in P);
  below = λ write has. absurd (let e = has.1 in let P : ⊥ = cc in P);
  blocks = λ write has. absurd (let e = has.1 in let P : ⊥ = cc in P);
  only = λ slot d counts. absurd (no-count kept g.slots slot d (given (descriptor_at g image slot)) (unknown slot) counts.found);
  later = λ slot past. unknown slot;
  whole = λ slot within. absurd (omega arith);
  was_read = λ slot within. absurd (omega arith);
}

-- all slots were read, and no number is missing
pub loaded-fits : (g : Geometry) (given : Given) (image : ℕ) (kept : ImageRecord) (writes : List Journaled) (done : List Exchange) → image < g.images → is_plain kept ≡ true →
    Loading g given image kept g.slots writes done → first_gap (applied_of kept) writes ≡ None → FitsSession g given image (record { image = kept; writes = writes })
loaded-fits g given image kept writes done within plain l follows = record {
  within = within;
  found = l.found;
  plain = plain;
  room = l.room;
  numbers = λ k write found. (let n = numbers-ascend (applied_of kept) writes follows k write found in omega arith);
  counts = λ k write found. l.counts write (k, found);
  blocks = λ k write found. l.blocks write (k, found);
  only = λ slot d counts. (let o = l.only slot d counts in let h = o.1 in (h.0, o.0, h.1, o.2));
  whole = λ slot below. l.whole slot below;
}

-- one more descriptor is read
module _ (g : Geometry) (given : Given) (image : ℕ) (kept : ImageRecord) (place : ℕ) (writes : List Journaled) (done : List Exchange) (l : Loading g given image kept place writes done)
    (image_within : image < g.images) (within : place < g.slots) (bytes : List ℕ) (whole : drop 512 bytes ≡ drop 512 zeros) (sound : IsSound kept g.slots place (read_descriptor bytes)) where
  elsewhere : (slot : ℕ) → slot ≢ place → given_with given (descriptor_at g image place) bytes (descriptor_at g image slot) ≡ given (descriptor_at g image slot)
  elsewhere slot other = with-other given (descriptor_at g image place) bytes (descriptor_at g image slot) (λ e. other (descriptor-one g image slot place e))

  old-record : record_on g (given_with given (descriptor_at g image place) bytes) image ≡ Some kept
  old-record = ap record_in (with-other given (descriptor_at g image place) bytes (record_at g image) (record-descriptor g image image place image_within)) ∙ l.found

  old-counts : (write : Journaled) → HasWrite writes write →
      CountsIn g (given_with given (descriptor_at g image place) bytes) image kept (journal_slot g.slots write.number) (descriptor_of kept write)
  old-counts write has =
      counts-same g given (given_with given (descriptor_at g image place) bytes) image kept (journal_slot g.slots write.number) (descriptor_of kept write)
      (elsewhere (journal_slot g.slots write.number) (λ e. (let b = l.below write has in omega arith))) (l.counts write has)

  old-only : (slot : ℕ) (d : Descriptor) → slot ≢ place → CountsIn g (given_with given (descriptor_at g image place) bytes) image kept slot d →
      (write : Journaled) × HasWrite writes write × (d ≡ descriptor_of kept write)
  old-only slot d other counts =
      l.only slot d (counts-same g (given_with given (descriptor_at g image place) bytes) given image kept slot d (sym (elsewhere slot other)) counts)

  old-later : (slot : ℕ) → place + 1 ≤ slot → given_with given (descriptor_at g image place) bytes (descriptor_at g image slot) ≡ None
  old-later slot past = elsewhere slot (λ e. (let P : ⊥ = omega arith in P)) ∙ l.later slot (omega arith)

  old-data : (write : Journaled) → HasWrite writes write → given_with given (descriptor_at g image place) bytes (data_at g image (journal_slot g.slots write.number)) ≡ Some write.block
  old-data write has =
      with-other given (descriptor_at g image place) bytes (data_at g image (journal_slot g.slots write.number)) (data-descriptor g image image (journal_slot g.slots write.number) place)
      ∙ l.blocks write has

  more-whole : (slot : ℕ) → slot < place + 1 → drop 512 (last_known (given_with given (descriptor_at g image place) bytes (descriptor_at g image slot))) ≡ drop 512 zeros
  more-whole slot below = elim (eqb_tells slot place) [
    | inl same ↦ subst (λ n. drop 512 (last_known (given_with given (descriptor_at g image place) bytes (descriptor_at g image n))) ≡ drop 512 zeros) (sym same.1)
        (ap (λ o. drop 512 (last_known o)) (with-block-same given (descriptor_at g image place) bytes) ∙ whole)
    | inr other ↦ ap (λ o. drop 512 (last_known o)) (elsewhere slot other.1) ∙ l.whole slot (let ne = other.1 in omega arith)
  ]

  more-read : (slot : ℕ) → slot < place + 1 → (read : List ℕ) × IsIn (read_of (descriptor_at g image slot) read)
      (read_of (descriptor_at g image place) bytes ∷ done)
  more-read slot below = elim (eqb_tells slot place) [
    | inl same ↦ subst (λ n. (read : List ℕ) × IsIn (read_of (descriptor_at g image n) read)
        (read_of (descriptor_at g image place) bytes ∷ done)) (sym same.1) (bytes, inl refl)
    | inr other ↦ (let old = l.was_read slot (let ne = other.1 in omega arith) in (old.0, inr old.1))
  ]

  -- it doesn't count
  pub loads-none : counted_descriptor kept g.slots place bytes ≡ None →
      Loading g (given_with given (descriptor_at g image place) bytes) image kept (place + 1) writes (read_of (descriptor_at g image place) bytes ∷ done)
  loads-none none = record {
    found = old-record;
    room = (let r = l.room in omega arith);
    ascending = l.ascending;
    counts = old-counts;
    below = λ write has. (let b = l.below write has in omega arith);
    blocks = old-data;
    only = λ slot d counts. elim (eqb_tells slot place) [
      | inl same ↦
          let found = subst (λ n. counted_in kept g.slots n (given_with given (descriptor_at g image place) bytes (descriptor_at g image n)) ≡ Some d) same.1 counts.found in
          let here : counted_descriptor kept g.slots place bytes ≡ Some d = sym (ap (counted_in kept g.slots place) (with-block-same given (descriptor_at g image place) bytes)) ∙ found in
          absurd (let P : ⊥ = cc in P)
      | inr other ↦ old-only slot d other.1 counts
    ];
    later = old-later;
    whole = more-whole;
    was_read = more-read;
    inside = (inside-descriptor g image kept place bytes image_within sound, l.inside);
  }

  -- it counts, and its data is read
  module _ (d : Descriptor) (found : counted_descriptor kept g.slots place bytes ≡ Some d) (block : List ℕ) where
    abbrev new : Journaled
    new = record { number = d.number; vblock = d.vblock; block = block }

    abbrev Both : Given
    Both = given_with (given_with given (descriptor_at g image place) bytes) (data_at g image place) block

    tells : TellsFirst kept g.slots place d
    tells = (counted-tells kept g.slots place (read_descriptor bytes) d found).1

    spells : d ≡ descriptor_of kept (record { number = d.number; vblock = d.vblock; block = block })
    spells = let made = tells.generation in λ j. record { generation = made j; vblock = d.vblock; number = d.number }

    beside : (slot : ℕ) → Both (descriptor_at g image slot) ≡ given_with given (descriptor_at g image place) bytes (descriptor_at g image slot)
    beside slot = with-other (given_with given (descriptor_at g image place) bytes) (data_at g image place) block (descriptor_at g image slot) (λ e. data-descriptor g image image place slot (sym e))

    new-counts : CountsIn g Both image kept place d
    new-counts = record {
      within = within;
      found = ap (counted_in kept g.slots place) (beside place ∙ with-block-same given (descriptor_at g image place) bytes) ∙ found;
    }

    new-fits : CountsIn g Both image kept (journal_slot g.slots d.number) (descriptor_of kept (record { number = d.number; vblock = d.vblock; block = block }))
    new-fits = subst (λ (e : Descriptor). CountsIn g Both image kept (journal_slot g.slots d.number) e) spells
        (subst (λ n. CountsIn g Both image kept n d) (sym tells.place) new-counts)

    both-counts : (write : Journaled) → HasWrite writes write → CountsIn g Both image kept (journal_slot g.slots write.number) (descriptor_of kept write)
    both-counts write has =
        counts-same g (given_with given (descriptor_at g image place) bytes) Both image kept (journal_slot g.slots write.number) (descriptor_of kept write) (beside (journal_slot g.slots write.number)) (old-counts write has)

    pub loads-write : Loading g (given_with (given_with given (descriptor_at g image place) bytes) (data_at g image place) block) image kept (place + 1)
        (with_write_by_number (record { number = d.number; vblock = d.vblock; block = block }) writes)
        (read_of (data_at g image place) block
        ∷ read_of (descriptor_at g image place) bytes ∷ done)
    loads-write = record {
      found = ap record_in (with-other (given_with given (descriptor_at g image place) bytes) (data_at g image place) block (record_at g image) (record-data g image image place image_within)) ∙ old-record;
      room = (let r = l.room in let e = length-inserted (record { number = d.number; vblock = d.vblock; block = block }) writes in omega arith);
      ascending = ascending-inserted (applied_of kept) (record { number = d.number; vblock = d.vblock; block = block }) writes tells.above
          (λ write has e. (let b = l.below write has in let p = tells.place in let same = ap (journal_slot g.slots) e in omega arith)) l.ascending;
      counts = λ write has. elim (has-inserted (record { number = d.number; vblock = d.vblock; block = block }) writes write has) [
        | inl is ↦ subst (λ (w : Journaled). CountsIn g Both image kept (journal_slot g.slots w.number) (descriptor_of kept w)) (sym is) new-fits
        | inr old ↦ both-counts write old
      ];
      below = λ write has. elim (has-inserted (record { number = d.number; vblock = d.vblock; block = block }) writes write has) [
        | inl is ↦ subst (λ (w : Journaled). journal_slot g.slots w.number < place + 1) (sym is) (let p = tells.place in omega arith)
        | inr old ↦ (let b = l.below write old in omega arith)
      ];
      blocks = λ write has. elim (has-inserted (record { number = d.number; vblock = d.vblock; block = block }) writes write has) [
        | inl is ↦ subst (λ (w : Journaled). Both (data_at g image (journal_slot g.slots w.number)) ≡ Some w.block) (sym is)
            (subst (λ n. Both (data_at g image n) ≡ Some block) (sym tells.place)
            (with-block-same (given_with given (descriptor_at g image place) bytes) (data_at g image place) block))
        | inr old ↦ with-other (given_with given (descriptor_at g image place) bytes) (data_at g image place) block (data_at g image (journal_slot g.slots write.number))
            (λ e. (let same = data-one g image (journal_slot g.slots write.number) place e in let b = l.below write old in omega arith)) ∙ old-data write old
      ];
      only = λ slot e counts. elim (eqb_tells slot place) [
        | inl same ↦
            let at_place = subst (λ n. counted_in kept g.slots n (Both (descriptor_at g image n)) ≡ Some e) same.1 counts.found in
            let mine = new-counts.found in
            let is : d ≡ e = cc in
            (record { number = d.number; vblock = d.vblock; block = block }, inserted-new (record { number = d.number; vblock = d.vblock; block = block }) writes, sym is ∙ spells)
        | inr other ↦
            let old = old-only slot e other.1 (counts-same g Both (given_with given (descriptor_at g image place) bytes) image kept slot e (sym (beside slot)) counts) in
            (old.0, inserted-old (record { number = d.number; vblock = d.vblock; block = block }) writes old.0 old.1, old.2)
      ];
      later = λ slot past. beside slot ∙ old-later slot past;
      whole = λ slot below. ap (λ o. drop 512 (last_known o)) (beside slot) ∙ more-whole slot below;
      was_read = λ slot below. (let old = more-read slot below in (old.0, inr old.1));
      inside = (inside-data g image kept place block image_within, (inside-descriptor g image kept place bytes image_within sound, l.inside));
    }
