-- Given bytes store one image.
use Rattle.std.proofs.Common.{◌≡◌, ℕ, ◌≤◌, List, get_or, Some, ap, sym, subst, ◌∙◌, arith}
use Rattle.std.proofs.lemmas.List.{ext_get_or}
use Rattle.std.proofs.lemmas.Option.{slice_get-get_or}
use Rattle.plx_gate.specs.Images.{label_of}
use Rattle.plx_gate.specs.declared.image.ImageRecord.{ImageRecord}
use Rattle.plx_geom.specs.Geometry.{Geometry, data_at}
use Rattle.plx_rules.specs.Journal.{journal_slot}
use Rattle.plx_rules.specs.Records.{is_live, generation_of, size_of}
use Rattle.plx_rules.specs.Stored.{Given, Content, StoredFrozen, Dropped, frozen_by, AreFrozen, standing_in, IsWriteCount, IsContent, journalled, unwritten}
use Rattle.law_run.specs.OneImage.{StoresOneImage}
use Rattle.law_run.proofs.Counted.{data-placed}
use Rattle.law_run.proofs.Facts.{count-one}

one-content : (g : Geometry) (given : Given) (image : ℕ) (kept : ImageRecord) (vblock : ℕ) (c e : Content) → IsContent g given image kept vblock c → IsContent g given image kept vblock e → c ≡ e
one-content g given image kept vblock c e (journalled n b newest is) (journalled m d newest' is') =
    let below : n ≤ m = newest'.newest n b newest.counts in
    let above : m ≤ n = newest.newest m d newest'.counts in
    let number : n ≡ m = omega arith in
    let mine = data-placed g given image kept n vblock b newest.counts in
    let its = data-placed g given image kept m vblock d newest'.counts in
    let same : b ≡ d = mine ∙ (ap (λ k. data_at g image (journal_slot g.slots k)) number ∙ sym its) in
    is ∙ (ap (λ block. standing_in block (given block)) same ∙ sym is')
one-content g given image kept vblock c e (journalled n b newest is) (unwritten none is') = absurd (none n b newest.counts)
one-content g given image kept vblock c e (unwritten none is) (journalled m d newest' is') = absurd (none m d newest'.counts)
one-content g given image kept vblock c e (unwritten none is) (unwritten none' is') = is ∙ sym is'

one-frozen : (g : Geometry) (given : Given) (image : ℕ) (kept : ImageRecord) (a b : List StoredFrozen) → AreFrozen g given image kept a → AreFrozen g given image kept b → a ≡ b
one-frozen g given image kept a b one other = ext_get_or Dropped a b (one.count ∙ sym other.count) (λ n below.
    let count = one.count in
    let count' = other.count in
    let x = one.each n (get_or a n Dropped) (slice_get-get_or a n Dropped below) in
    let y = other.each n (get_or b n Dropped) (slice_get-get_or b n Dropped (omega (arith, count, count', below))) in
    let e : Some x.0 ≡ Some y.0 = sym x.1 ∙ y.1 in
    let same : x.0 ≡ y.0 = cc in
    x.2 ∙ (ap (frozen_by given) same ∙ sym y.2))

pub stores-one : StoresOneImage
stores-one g given image i k one other =
    let e : Some one.kept ≡ Some other.kept = sym one.found ∙ other.found in
    let same : other.kept ≡ one.kept = cc in
    record {
      live = one.live ∙ sym (other.live ∙ ap is_live same);
      generation = one.generation ∙ sym (other.generation ∙ ap generation_of same);
      size = one.size ∙ sym (other.size ∙ ap size_of same);
      label = one.label ∙ sym (other.label ∙ ap label_of same);
      writes = count-one g given image one.kept i.writes k.writes one.writes (subst (λ (r : ImageRecord). IsWriteCount g given image r k.writes) same other.writes);
      content = λ vblock. one-content g given image one.kept vblock (i.content vblock) (k.content vblock) (one.content vblock)
          (subst (λ (r : ImageRecord). IsContent g given image r vblock (k.content vblock)) same (other.content vblock));
      frozen = one-frozen g given image one.kept i.frozen k.frozen one.frozen (subst (λ (r : ImageRecord). AreFrozen g given image r k.frozen) same other.frozen);
    }
