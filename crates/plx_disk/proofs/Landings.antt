-- A sector of a kept write lands, or none may, or all land.
use Rattle.std.proofs.Common.{◌≡◌, ◌+◌, ◌≤◌, ℕ, List, length, Some, ap, subst, sym, ◌∙◌}
use Rattle.std.specs.Prelude.{slice_get, slice_set}
use Rattle.plx_base.specs.Sectors.{Device, put, with_landed_sector}
use Rattle.plx_base.specs.declared.numbers.Boot.{Boot}
use Rattle.plx_disk.specs.Landing.{MayLandAt, MayLandWhole, after_sectors, with_sectors}
use Rattle.plx_disk.specs.Standing.{Proceeds, StandForAll, StandsForIssued}
use Rattle.plx_disk.specs.Writes.{Issued, Surface, MayLand, all_sectors, with_sector}
use Rattle.plx_disk.specs.declared.write.Progress.{Progress}
use Rattle.plx_disk.specs.declared.write.Progress.TheVariants.{Whole}
use Rattle.plx_disk.specs.declared.write.Write.{Write}
use Rattle.plx_disk.proofs.Devices.{put-along}
use Rattle.plx_disk.proofs.Kept.{kept-issued, kept-at, kept-set}
use Rattle.plx_disk.proofs.Sectors.{sectors-device, sectors-write, sectors-writes}

-- the write with this number may land, and what stands after its sector
pub record Lands (s : Surface) (new : Device) (time : ℕ) (kept : List Write) (number sector : ℕ) : Type 0 where
  pub write : Issued
  pub may : MayLand s number sector write
  pub device : (b : ℕ) → new b ≡ put s.device write.block (with_landed_sector sector write.bytes (s.device write.block)) b
  pub writes : StandForAll time kept (slice_set s.writes number (with_sector write sector))

-- from what the one write says
pub lands : (s : Surface) (old new : Device) (kept : List Write) (number sector time : ℕ) (k changed : Write) →
    StandForAll time kept s.writes → slice_get kept number ≡ Some k → time ≡ s.time → ((b : ℕ) → old b ≡ s.device b) →
    ((w : Issued) → StandsForIssued time k w → MayLandAt w sector time) →
    ((w : Issued) → StandsForIssued time k w → StandsForIssued time changed (with_sector w sector)) →
    ((w : Issued) → StandsForIssued time k w → (b : ℕ) → new b ≡ put old w.block (with_landed_sector sector w.bytes (old w.block)) b) →
    Lands s new time (slice_set kept number changed) number sector
lands s old new kept number sector time k changed stand at now same allowed becomes bytes =
    let i = kept-issued kept s.writes number k stand at in
    let w = i.0 in
    let may = allowed w i.2 in
    let P : ℕ → Type 0 = λ x. x ≤ w.guard + 50 in
    record {
      write = w;
      may = record { found = i.1; open_yet = may.open_yet; missing = may.missing; early = subst P now may.early };
      device = λ b. bytes w i.2 b ∙ put-along old s.device same w.block (λ before. with_landed_sector sector w.bytes before) b;
      writes = kept-set kept s.writes number changed (with_sector w sector) stand (becomes w i.2);
    }

-- the write with this number may not land
pub stays : (s : Surface) (kept : List Write) (number sector time : ℕ) (k : Write) →
    StandForAll time kept s.writes → slice_get kept number ≡ Some k → time ≡ s.time →
    ((w : Issued) → StandsForIssued time k w → MayLandAt w sector time → ⊥) → (w : Issued) → MayLand s number sector w → ⊥
stays s kept number sector time k stand at now refused w may =
    let P : ℕ → Type 0 = λ x. x ≤ w.guard + 50 in
    refused w (kept-at kept s.writes number k w stand at may.found)
    (record { open_yet = may.open_yet; missing = may.missing; early = subst P (sym now) may.early })

-- the write with this number may land whole, and what stands after its sectors
pub record LandsWhole (s : Surface) (new : Device) (time : ℕ) (kept : List Write) (number : ℕ) : Type 0 where
  pub write : Issued
  pub found : slice_get s.writes number ≡ Some write
  pub may : MayLandWhole write s.time
  pub device : (b : ℕ) → new b ≡ (after_sectors s number write 8).device b
  pub writes : StandForAll time kept (after_sectors s number write 8).writes

-- from what the one write says
pub lands-whole : (s : Surface) (old new : Device) (kept : List Write) (number time : ℕ) (k changed : Write) →
    StandForAll time kept s.writes → slice_get kept number ≡ Some k → time ≡ s.time → ((b : ℕ) → old b ≡ s.device b) →
    ((w : Issued) → StandsForIssued time k w → MayLandWhole w time) →
    ((w : Issued) → StandsForIssued time k w → (length w.bytes ≡ 4096) × (length (old w.block) ≡ 4096)) →
    ((w : Issued) → StandsForIssued time k w → (b : ℕ) → new b ≡ put old w.block w.bytes b) →
    (changed.owner ≡ k.owner) × (changed.progress ≡ Whole) →
    LandsWhole s new time (slice_set kept number changed) number
lands-whole s old new kept number time k changed stand at now same allowed long bytes whole =
    let i = kept-issued kept s.writes number k stand at in
    let w = i.0 in
    let may = allowed w i.2 in
    let lengths = long w i.2 in
    let P : ℕ → Type 0 = λ x. MayLandWhole w x in
    let Q : Progress → Type 0 = λ p. Proceeds time p (with_sectors w 8) in
    let R : List Issued → Type 0 = λ ws. StandForAll time (slice_set kept number changed) ws in
    let all : (with_sectors w 8).landed ≡ all_sectors = ap (λ (x : Issued). x.landed) (sectors-write w may.untouched 8) in
    let owner : changed.owner.0 ≡ w.owner = ap (λ (boot : Boot). boot.0) whole.0 ∙ i.2.owner in
    record {
      write = w;
      found = i.1;
      may = subst P now may;
      device = λ b. bytes w i.2 b ∙ (put-along old s.device same w.block (λ before. w.bytes) b
          ∙ sectors-device s number w may.untouched lengths.0 (ap length (sym (same w.block)) ∙ lengths.1) b);
      writes = subst R (sym (sectors-writes s number w i.1 8)) (kept-set kept s.writes number changed (with_sectors w 8) stand
          (record { owner = owner; progress = subst Q (sym whole.1) all }));
    }
