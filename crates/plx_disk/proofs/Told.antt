-- What the code's device tells of each device that it stands for.
use Rattle.std.proofs.Common.{◌≡◌, ◌∙◌, ℕ, [], length, Some, ap, sym}
use Rattle.std.specs.Prelude.{slice_get}
use Rattle.plx_disk.specs.Standing.{Proceeds, Stands, issued_count}
use Rattle.plx_disk.specs.Writes.{HasLanded, Issued, Surface, all_sectors}
use Rattle.plx_disk.specs.declared.disk.Disk.{Disk}
use Rattle.plx_disk.specs.declared.write.Progress.{Progress}
use Rattle.plx_disk.specs.declared.write.Progress.TheVariants.{Open, Late, Whole, Closed}
use Rattle.plx_disk.proofs.Kept.{kept-at, kept-issued, kept-length, kept-of}

-- how many writes were issued
pub told-issued : (disk : Disk) (s : Surface) → Stands disk s → issued_count disk ≡ length s.writes
told-issued disk s stands = kept-length _ disk.writes.items s.writes stands.writes

-- whether none was
pub told-unissued : (disk : Disk) (s : Surface) → Stands disk s → s.writes ≡ [] → issued_count disk ≡ 0
told-unissued disk s stands none = told-issued disk s stands ∙ ap length none

-- whether a write has landed whole
told-progress : (time : ℕ) (progress : Progress) (w v : Issued) → Proceeds time progress w → Proceeds time progress v → w.landed ≡ all_sectors → v.landed ≡ all_sectors
told-progress time (Open pending) w v pw pv whole = absurd (pw.not_whole whole)
told-progress time (Late landed) w v pw pv whole = absurd (pw.not_whole whole)
told-progress time Whole w v pw pv whole = pv
told-progress time Closed w v pw pv whole = absurd (pw.1 whole)

pub told-landed : (disk : Disk) (s t : Surface) → Stands disk s → Stands disk t → (number : ℕ) → HasLanded s number → HasLanded t number
told-landed disk s t first second number landed =
    let k = kept-of disk.writes.items s.writes number landed.0 first.writes landed.1 in
    let i = kept-issued disk.writes.items t.writes number k.0 second.writes k.1 in
    (i.0, i.1, told-progress _ k.0.progress landed.0 i.0 k.2.progress i.2.progress landed.2)

-- the owner of a write
pub told-owner : (disk : Disk) (s t : Surface) → Stands disk s → Stands disk t → (number : ℕ) (w v : Issued) →
    slice_get s.writes number ≡ Some w → slice_get t.writes number ≡ Some v → w.owner ≡ v.owner
told-owner disk s t first second number w v fw fv =
    let k = kept-of disk.writes.items s.writes number w first.writes fw in
    let i = kept-at disk.writes.items t.writes number k.0 v second.writes k.1 fv in
    sym k.2.owner ∙ i.owner
