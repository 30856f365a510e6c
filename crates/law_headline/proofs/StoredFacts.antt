-- What a journal holds is what the device stores.
use Rattle.std.proofs.Common.{ℕ, List, [], length, refl, ap, sym, subst, inl, inr}
use Rattle.plx_base.specs.Sectors.{Device}
use Rattle.plx_commands.specs.Images.{Image}
use Rattle.plx_commands.specs.Model.{Slot}
use Rattle.plx_gate.specs.declared.image.ImageRecord.{ImageRecord}
use Rattle.plx_geom.specs.Geometry.{Geometry}
use Rattle.plx_rules.specs.Journaled.{Journaled}
use Rattle.plx_rules.specs.Stored.{all_of, Holds, StoredImage, IsWriteCount, IsContent, Stores, Agrees, StoresEither}
use Rattle.law_run.proofs.Facts.{content-held, plain-parts, write-count}
use Rattle.law_headline.proofs.Journals.{IsJournal, IsShown, HoldsSlot, session_of}

module _ (g : Geometry) (image : ℕ) (device : Device) (kept : ImageRecord) (writes : List Journaled) (journal : IsJournal g device image kept writes) where
  -- the stored image that the model's shows, which has no snapshots
  abbrev stored_of : Image → StoredImage
  stored_of i = record {
    live = i.live;
    generation = i.generation;
    size = i.size;
    label = i.label;
    writes = i.writes;
    content = λ vblock. Holds (i.content vblock);
    frozen = [];
  }

  -- the device stores the image that its journal's writes leave
  stores-left : (i : Image) → IsShown kept writes i → Stores g (all_of device) image (stored_of i)
  stores-left i left = record {
    kept = kept;
    found = journal.fits.found;
    live = left.live;
    generation = left.generation;
    size = left.size;
    label = left.label;
    writes = subst (λ n. IsWriteCount g (all_of device) image kept n) (sym left.count) (write-count g (all_of device) image (session_of kept writes) journal.fits);
    content = λ vblock.
        let P : List ℕ → Type 0 = λ bytes. IsContent g (all_of device) image kept vblock (Holds bytes) in
        subst P (sym (left.blocks vblock)) (content-held g (all_of device) image (session_of kept writes) journal.fits vblock);
    frozen = record { count = sym (plain-parts kept journal.fits.plain).0; each = λ index snapshot found. absurd (let P : ⊥ = cc in P) };
  }

  agrees-left : (i : Image) → IsShown kept writes i → Agrees (stored_of i) i
  agrees-left i left = record {
    live = refl;
    generation = refl;
    size = refl;
    label = refl;
    writes = refl;
    content = λ vblock. refl;
    frozen = record { count = sym (ap length left.frozen); each = λ index one other found. absurd (let P : ⊥ = cc in P) };
  }

-- a device that keeps the image stores it
pub stores-kept : (g : Geometry) (image : ℕ) (device : Device) (slot : Slot) → HoldsSlot g device image slot → StoresEither g device image slot
stores-kept g image device slot keeps = elim keeps.either [
  | inl left ↦ (
    _,
    stores-left g image device keeps.kept keeps.writes keeps.journal slot.image left,
    inl (agrees-left g image device keeps.kept keeps.writes keeps.journal slot.image left),
  )
  | inr changed ↦ (
    _,
    stores-left g image device keeps.kept keeps.writes keeps.journal changed.0 changed.2,
    inr (changed.0, changed.1, agrees-left g image device keeps.kept keeps.writes keeps.journal changed.0 changed.2),
  )
]
