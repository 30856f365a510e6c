-- The sectors of a write land one after another.
use Rattle.std.proofs.Common.{◌≡◌, ◌≢◌, ℕ, zero, suc, List, length, Bool, true, false, Some, refl, ap, sym, ◌∙◌, arith}
use Rattle.std.specs.Prelude.{slice_get, slice_set}
use Rattle.plx_base.proofs.Devices.{put-all, put-other, put-same}
use Rattle.plx_base.proofs.Mixed.{mixed-all, mixed-landed, mixed-none}
use Rattle.plx_base.specs.Sectors.{Device, put, with_landed_sector, with_landed_sectors}
use Rattle.plx_disk.specs.Landing.{after_sectors, with_sectors}
use Rattle.plx_disk.specs.Writes.{Issued, Surface, no_sectors, with_sector}
use Rattle.plx_disk.proofs.Lists.{set-back, set-same, set-twice}

-- the flags of a write of which nothing had landed, once so many sectors have
abbrev pub first_flags : ℕ → List Bool
first_flags zero = no_sectors
first_flags (suc count) = slice_set (first_flags count) count true

-- the write with these flags
abbrev with_flags : Issued → List Bool → Issued
with_flags write flags = record write { landed = flags }

-- the write once so many sectors have landed
pub sectors-write : (write : Issued) → write.landed ≡ no_sectors → (count : ℕ) → with_sectors write count ≡ record write { landed = first_flags count }
sectors-write write none zero = ap (with_flags write) none
sectors-write write none (suc count) = ap (λ w. with_sector w count) (sectors-write write none count)

-- the issued writes then
pub sectors-writes : (s : Surface) (number : ℕ) (write : Issued) → slice_get s.writes number ≡ Some write → (count : ℕ) →
    (after_sectors s number write count).writes ≡ slice_set s.writes number (with_sectors write count)
sectors-writes s number write found zero = sym (set-back s.writes number write found)
sectors-writes s number write found (suc count) =
    ap (λ ws. slice_set ws number (with_sectors write (suc count))) (sectors-writes s number write found count)
    ∙ set-twice s.writes number (with_sectors write count) (with_sectors write (suc count))

pub sectors-found : (s : Surface) (number : ℕ) (write : Issued) → slice_get s.writes number ≡ Some write → (count : ℕ) →
    slice_get (after_sectors s number write count).writes number ≡ Some (with_sectors write count)
sectors-found s number write found count =
    ap (λ ws. slice_get ws number) (sectors-writes s number write found count) ∙ set-same s.writes number (with_sectors write count) write found

-- what stands in the blocks then
record Stand (s : Surface) (number : ℕ) (write : Issued) (count : ℕ) : Type 0 where
  there : (after_sectors s number write count).device write.block ≡ with_landed_sectors (first_flags count) write.bytes (s.device write.block)
  others : (b : ℕ) → b ≢ write.block → (after_sectors s number write count).device b ≡ s.device b

one-more : (s : Surface) (number : ℕ) (write : Issued) → write.landed ≡ no_sectors → length write.bytes ≡ 4096 → length (s.device write.block) ≡ 4096 →
    (count : ℕ) → length (first_flags count) ≡ 8 → slice_get (first_flags count) count ≡ Some false → Stand s number write count → Stand s number write (suc count)
one-more s number write none long old_long count eight missing h =
    let d = (after_sectors s number write count).device in
    let now : Issued → Device = λ w. put d w.block (with_landed_sector count w.bytes (d w.block)) in
    let is : now (with_sectors write count) ≡ now write = ap now (sectors-write write none count) in
    record {
      there = ap (λ (f : Device). f write.block) is ∙ (put-same d write.block (with_landed_sector count write.bytes (d write.block))
          ∙ (ap (with_landed_sector count write.bytes) h.there
          ∙ mixed-landed (first_flags count) write.bytes (s.device write.block) count false missing (omega (arith, long, eight)) (omega (arith, old_long, eight))));
      others = λ b ne. ap (λ (f : Device). f b) is ∙ (put-other d write.block (with_landed_sector count write.bytes (d write.block)) b ne ∙ h.others b ne);
    }

stand-eight : (s : Surface) (number : ℕ) (write : Issued) → write.landed ≡ no_sectors → length write.bytes ≡ 4096 → length (s.device write.block) ≡ 4096 →
    Stand s number write 8
stand-eight s number write none long old_long =
    next 7 refl refl (next 6 refl refl (next 5 refl refl (next 4 refl refl (next 3 refl refl (next 2 refl refl (next 1 refl refl (next 0 refl refl first)))))))
  where
    next : (count : ℕ) → length (first_flags count) ≡ 8 → slice_get (first_flags count) count ≡ Some false → Stand s number write count → Stand s number write (suc count)
    next = one-more s number write none long old_long

    first : Stand s number write 0
    first = record { there = sym (mixed-none 8 write.bytes (s.device write.block)); others = λ b ne. refl }

-- once all have landed, the write's bytes stand in its block
pub sectors-device : (s : Surface) (number : ℕ) (write : Issued) → write.landed ≡ no_sectors → length write.bytes ≡ 4096 → length (s.device write.block) ≡ 4096 →
    (b : ℕ) → put s.device write.block write.bytes b ≡ (after_sectors s number write 8).device b
sectors-device s number write none long old_long b =
    let all = stand-eight s number write none long old_long in
    put-all (λ c x. x ≡ (after_sectors s number write 8).device c) s.device write.block write.bytes
    (sym (all.there ∙ mixed-all 8 write.bytes (s.device write.block) long old_long)) (λ c ne. sym (all.others c ne)) b
