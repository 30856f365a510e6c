-- What is done to the program's device cancels no write.
use Rattle.std.proofs.Common.{◌≡◌, ℕ, List, [], Some, Bool, true, false, refl, sym, subst, ◌∙◌, IsTrue, ap, inl, inr}
use Rattle.std.specs.Prelude.{slice_get}
use Rattle.std.proofs.Math.Logic.{∥∥₁_elim, ∥∥₁_map}
use Rattle.std.proofs.Props.{props}
use Rattle.law_lease.proofs.Lists.{push-cases}
use Rattle.plx_base.specs.declared.write_kind.WriteKind.{WriteKind}
use Rattle.plx_disk.proofs.Kept.{kept-issued, kept-of}
use Rattle.plx_disk.proofs.Sectors.{sectors-write, sectors-writes}
use Rattle.plx_disk.specs.Landing.{MayLandWhole, after_sectors, with_sectors}
use Rattle.plx_disk.specs.Standing.{Proceeds, Stands as DiskStands, Stays, Turns}
use Rattle.plx_disk.specs.Writes.{Issued, MayLand, Surface, after_landing, all_sectors, fresh_write, with_issued, after_time, with_sector}
use Rattle.plx_disk.specs.declared.disk.Disk.{Disk}
use Rattle.plx_disk.specs.declared.write.Progress.{Progress}
use Rattle.plx_disk.specs.declared.write.Progress.TheVariants.{Open, Late, Whole, Closed}
use Rattle.plx_world.specs.Cancels.{HasNoCancel, NeverCancels}
use Rattle.plx_world.proofs.Seating.{set-all}

-- ---- what is kept

-- where the device stands for the same
pub cancels-stays : (old new : Disk) → Stays old new → NeverCancels old → NeverCancels new
cancels-stays old new stays never = ∥∥₁_map never (λ u. (u.0, stays u.0 u.1, u.2))

-- a device on which nothing was issued
pub cancels-new : (disk : Disk) (s : Surface) → s.writes ≡ [] → DiskStands disk s → NeverCancels disk
cancels-new disk s none stands = ∣ (s, stands, subst (λ (writes : List Issued). (number : ℕ) (write : Issued) → slice_get writes number ≡ Some write → write.cancelled ≡ false) (sym none) (λ number write found. cc)) ∣₁

-- one more write
pub cancels-issued : (old new : Disk) (owner : ℕ) (kind : WriteKind) (block : ℕ) (bytes : List ℕ) (guard : ℕ) →
    Turns old new (λ s. with_issued s (fresh_write owner kind block bytes guard)) → NeverCancels old → NeverCancels new
cancels-issued old new owner kind block bytes guard turns never = ∥∥₁_map never (λ u. (with_issued u.0 one, turns u.0 u.1, pushed u.0 u.2))
  where
    one : Issued
    one = fresh_write owner kind block bytes guard

    pushed : (s : Surface) → HasNoCancel s → HasNoCancel (with_issued s one)
    pushed s none number write found = elim (push-cases s.writes one write number found) [
      | inl before ↦ none number write before
      | inr last ↦ ap (λ (x : Issued). x.cancelled) (sym last.1)
    ]

-- a sector that lands, or doesn't
pub cancels-landed : (old new : Disk) (number sector : ℕ) (result : Bool) →
    (IsTrue result → (s : Surface) → DiskStands old s → (write : Issued) × MayLand s number sector write × DiskStands new (after_landing s number write sector)) →
    (result ≡ false → Stays old new) → NeverCancels old → NeverCancels new
cancels-landed old new number sector false landed stays never = cancels-stays old new (stays refl) never
cancels-landed old new number sector true landed stays never = ∥∥₁_map never (λ u.
    let l = landed refl u.0 u.1 in
    (after_landing u.0 number l.0 sector, l.2, set u.0 l.0 l.1.found u.2))
  where
    set : (s : Surface) (write : Issued) → slice_get s.writes number ≡ Some write → HasNoCancel s → HasNoCancel (after_landing s number write sector)
    set s write found none =
        set-all (λ k x. x.cancelled ≡ false) s.writes number write (with_sector write sector) found (none number write found) (λ k x other there. none k x there)

-- all sectors of a write land, or don't
pub cancels-whole : (old new : Disk) (number : ℕ) (result : Bool) →
    (IsTrue result → (s : Surface) → DiskStands old s → (write : Issued) × (slice_get s.writes number ≡ Some write) × MayLandWhole write s.time
    × DiskStands new (after_sectors s number write 8)) →
    (result ≡ false → Stays old new) → NeverCancels old → NeverCancels new
cancels-whole old new number false landed stays never = cancels-stays old new (stays refl) never
cancels-whole old new number true landed stays never = ∥∥₁_map never (λ u.
    let l = landed refl u.0 u.1 in
    (after_sectors u.0 number l.0 8, l.3, set u.0 l.0 l.1 l.2 u.2))
  where
    set : (s : Surface) (write : Issued) → slice_get s.writes number ≡ Some write → MayLandWhole write s.time → HasNoCancel s → HasNoCancel (after_sectors s number write 8)
    set s write found may none =
        let P : List Issued → Type 0 = λ ws. (k : ℕ) (x : Issued) → slice_get ws k ≡ Some x → x.cancelled ≡ false in
        subst P (sym (sectors-writes s number write found 8))
        (set-all (λ k x. x.cancelled ≡ false) s.writes number write (with_sectors write 8) found (ap (λ (x : Issued). x.cancelled) (sectors-write write may.untouched 8) ∙ may.open_yet)
        (λ k x other there. none k x there))

-- time that passes, or doesn't
pub cancels-passed : (old new : Disk) (by : ℕ) (result : Bool) → (IsTrue result → Turns old new (λ s. after_time s by)) → (result ≡ false → Stays old new) →
    NeverCancels old → NeverCancels new
cancels-passed old new by false turns stays never = cancels-stays old new (stays refl) never
cancels-passed old new by true turns stays never = ∥∥₁_map never (λ u. (after_time u.0 by, turns refl u.0 u.1, u.2))

-- ---- what follows

-- a kept write that stands for two issued ones, of which one was cancelled
whole-in : (time : ℕ) (p : Progress) (write other : Issued) → Proceeds time p write → Proceeds time p other → write.cancelled ≡ true → other.cancelled ≡ false → write.landed ≡ all_sectors
whole-in time (Open pending) write other kept also is not = absurd (let e = kept.open_yet in let P : ⊥ = cc in P)
whole-in time (Late landed) write other kept also is not = absurd (let e = kept.open_yet in let P : ⊥ = cc in P)
whole-in time Whole write other kept also is not = kept
whole-in time Closed write other kept also is not = absurd (let e = also.0 in let P : ⊥ = cc in P)

-- a write that was cancelled has landed whole before
pub cancelled-whole : (disk : Disk) (s : Surface) (number : ℕ) (write : Issued) → NeverCancels disk → DiskStands disk s → slice_get s.writes number ≡ Some write →
    write.cancelled ≡ true → write.landed ≡ all_sectors
cancelled-whole disk s number write never stands found is = ∥∥₁_elim never (search props) (λ u.
    let kept = kept-of disk.writes.items s.writes number write stands.writes found in
    let also = kept-issued disk.writes.items u.0.writes number kept.0 u.1.writes kept.1 in
    whole-in _ kept.0.progress write also.0 kept.2.progress also.2.progress is (u.2 number also.0 also.1))
