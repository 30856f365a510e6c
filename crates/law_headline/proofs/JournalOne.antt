-- A device spells at most one record and journal of an image.
use Rattle.std.proofs.Common.{◌≡◌, ℕ, suc, List, [], ◌∷◌, length, Some, refl, ap, sym, subst, ◌∙◌, arith}
use Rattle.std.specs.Prelude.{slice_get}
use Rattle.plx_base.specs.Sectors.{Device}
use Rattle.plx_commands.specs.Model.{Slot}
use Rattle.plx_gate.specs.declared.descriptor.Descriptor.{Descriptor}
use Rattle.plx_gate.specs.declared.image.ImageRecord.{ImageRecord}
use Rattle.plx_geom.specs.Geometry.{Geometry, data_at, descriptor_at}
use Rattle.plx_rules.specs.Journal.{descriptor_of, journal_slot}
use Rattle.plx_rules.specs.Journaled.{Journaled}
use Rattle.plx_rules.specs.Stored.{Given, all_of, counted_in}
use Rattle.law_run.proofs.Facts.{count-one, write-count}
use Rattle.law_run.proofs.Right.{FitsSession}
use Rattle.law_headline.proofs.Journals.{IsJournal, ShowEither, session_of}

same-entries : {X : Type 0} (xs ys : List X) → length xs ≡ length ys → ((k : ℕ) (x y : X) → slice_get xs k ≡ Some x → slice_get ys k ≡ Some y → x ≡ y) → xs ≡ ys
same-entries [] [] e same = refl
same-entries [] (y ∷ ys) e same = absurd (omega (arith, e))
same-entries (x ∷ xs) [] e same = absurd (omega (arith, e))
same-entries (x ∷ xs) (y ∷ ys) e same =
    let head : x ≡ y = same 0 x y refl refl in
    let tail : xs ≡ ys = same-entries xs ys (omega (arith, e)) (λ k a b p q. same (suc k) a b p q) in
    λ j. head j ∷ tail j

module _ (g : Geometry) (given : Given) (image : ℕ) (kept : ImageRecord) (writes others : List Journaled) (j : FitsSession g given image (session_of kept writes))
    (k : FitsSession g given image (session_of kept others)) where
  -- two writes at one place have one number, and so one slot
  entries-one : (n : ℕ) (x y : Journaled) → slice_get writes n ≡ Some x → slice_get others n ≡ Some y → x ≡ y
  entries-one n x y p q =
      let number : x.number ≡ y.number = j.numbers n x p ∙ sym (k.numbers n y q) in
      let one = (j.counts n x p).found in
      let other : counted_in kept g.slots (journal_slot g.slots x.number) (given (descriptor_at g image (journal_slot g.slots x.number))) ≡ Some (descriptor_of kept y) =
      subst (λ m. counted_in kept g.slots (journal_slot g.slots m) (given (descriptor_at g image (journal_slot g.slots m))) ≡ Some (descriptor_of kept y)) (sym number) (k.counts n y q).found in
      let both : Some (descriptor_of kept x) ≡ Some (descriptor_of kept y) = sym one ∙ other in
      let e : descriptor_of kept x ≡ descriptor_of kept y = cc in
      let vblock : x.vblock ≡ y.vblock = ap (λ (z : Descriptor). z.vblock) e in
      let bytes : Some x.block ≡ Some y.block = sym (j.blocks n x p) ∙ (ap (λ m. given (data_at g image (journal_slot g.slots m))) number ∙ k.blocks n y q) in
      let block : x.block ≡ y.block = cc in
      λ t. record { number = number t; vblock = vblock t; block = block t }

  pub writes-one : writes ≡ others
  writes-one =
      let count = count-one g given image kept _ _ (write-count g given image (session_of kept writes) j) (write-count g given image (session_of kept others) k) in
      same-entries writes others (omega (arith, count)) entries-one

-- what one journal shows of a slot, the other shows
pub shows-one : (g : Geometry) (device : Device) (image : ℕ) (kept other : ImageRecord) (writes others : List Journaled) (slot : Slot) → IsJournal g device image kept writes →
    IsJournal g device image other others → ShowEither other others slot → ShowEither kept writes slot
shows-one g device image kept other writes others slot j k shows =
    let same : kept ≡ other = (let e : Some kept ≡ Some other = sym j.fits.found ∙ k.fits.found in cc) in
    let F : ImageRecord → Type 0 = λ r. FitsSession g (all_of device) image (session_of r others) in
    let w : writes ≡ others = writes-one g (all_of device) image kept writes others j.fits (subst F (sym same) k.fits) in
    let P : ImageRecord → List Journaled → Type 0 = λ r x. ShowEither r x slot in
    subst (λ (r : ImageRecord). P r writes) (sym same) (subst (P other) (sym w) shows)
