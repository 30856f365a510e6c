-- Devices that are filled before any write is issued.
use Rattle.std.proofs.Common.{◌≡◌, ◌≢◌, ◌<◌, ◌+◌, ◌*◌, ℕ, zero, suc, List, [], ◌∷◌, length, refl, ap, ◌∙◌, inl, inr, arith}
use Rattle.std.proofs.lemmas.Bool.Decides.{eqb_tells}
use Rattle.plx_base.proofs.Devices.{put-same, put-other, put-all}
use Rattle.plx_base.specs.Sectors.{Device, put}
use Rattle.plx_disk.specs.Standing.{Stands, StandForAll, Turns, device_size, issued_count}
use Rattle.plx_disk.specs.Filled.{with_block}
use Rattle.plx_disk.specs.Stored.{device_of}
use Rattle.plx_disk.specs.Writes.{Surface}
use Rattle.plx_disk.specs.declared.disk.Disk.{Disk}
use Rattle.plx_disk.specs.declared.write.Write.{Write}
use Rattle.plx_disk.proofs.Told.{told-unissued}
use Rattle.plx_format.specs.Formatting.{put_blocks, with_blocks}

-- a block that was filled
pub put-blocks-in : (device : Device) (first stride count : ℕ) (bytes : List ℕ) (b i : ℕ) → i < count → b ≡ first + i * stride →
    put_blocks device first stride count bytes b ≡ bytes
put-blocks-in device first stride zero bytes b i under here = absurd (omega (arith, under))
put-blocks-in device first stride (suc count) bytes b i under here = elim (eqb_tells i count) [
  | inl last ↦
      let e : b ≡ first + count * stride = here ∙ ap (λ n. first + n * stride) last.1 in
      ap (put (put_blocks device first stride count bytes) (first + count * stride) bytes) e ∙ put-same (put_blocks device first stride count bytes) (first + count * stride) bytes
  | inr before ↦ elim (eqb_tells b (first + count * stride)) [
    | inl same ↦ ap (put (put_blocks device first stride count bytes) (first + count * stride) bytes) same.1 ∙ put-same (put_blocks device first stride count bytes) (first + count * stride) bytes
    | inr other ↦
        put-other (put_blocks device first stride count bytes) (first + count * stride) bytes b other.1
        ∙ put-blocks-in device first stride count bytes b i (let ne = before.1 in omega (arith, under, ne)) here
  ]
]

-- a block that wasn't
pub put-blocks-out : (device : Device) (first stride count : ℕ) (bytes : List ℕ) (b : ℕ) → ((i : ℕ) → i < count → b ≢ first + i * stride) →
    put_blocks device first stride count bytes b ≡ device b
put-blocks-out device first stride zero bytes b apart = refl
put-blocks-out device first stride (suc count) bytes b apart =
    put-other (put_blocks device first stride count bytes) (first + count * stride) bytes b (apart count (omega arith))
    ∙ put-blocks-out device first stride count bytes b (λ i under. apart i (omega (arith, under)))

-- blocks stay whole
pub put-blocks-whole : (device : Device) (first stride count : ℕ) (bytes : List ℕ) → length bytes ≡ 4096 → ((b : ℕ) → length (device b) ≡ 4096) →
    (b : ℕ) → length (put_blocks device first stride count bytes b) ≡ 4096
put-blocks-whole device first stride zero bytes whole all b = all b
put-blocks-whole device first stride (suc count) bytes whole all b =
    put-all (λ n x. length x ≡ 4096) (put_blocks device first stride count bytes) (first + count * stride) bytes whole
    (λ n other. put-blocks-whole device first stride count bytes whole all n) b

-- what is stored, with no issued write
abbrev stored_surface : Disk → Surface
stored_surface disk = record { blocks = disk.blocks; device = device_of disk.stored; writes = []; time = disk.time }

-- a device on which none was issued stands for it
stands-stored : (disk : Disk) → issued_count disk ≡ 0 → Stands disk (stored_surface disk)
stands-stored disk none = record {
  blocks = refl;
  device = λ b. refl;
  writes = empty disk.writes.items none;
  time = refl;
}
  where
    empty : (kept : List Write) → length kept ≡ 0 → StandForAll disk.time kept []
    empty [] e = tt
    empty (one ∷ kept) e = absurd (omega (arith, e))

-- no write is issued, and no block is added, where bytes are put into a block
module _ (old new : Disk) (block : ℕ) (bytes : List ℕ) (none : issued_count old ≡ 0) (turns : Turns old new (λ s. with_block s block bytes)) where
  after : Stands new (with_block (stored_surface old) block bytes)
  after = turns (stored_surface old) (stands-stored old none)

  pub unissued-set : issued_count new ≡ 0
  unissued-set = told-unissued new (with_block (stored_surface old) block bytes) after refl

  pub size-set : device_size new ≡ device_size old
  size-set = after.blocks

-- blocks that are filled with equal bytes, at equal places
pub filled-so : {old new : Disk} {s : Surface} {first first' stride stride' count count' : ℕ} {bytes bytes' : List ℕ} →
    Turns old new (λ s. with_blocks s first stride count bytes) → first ≡ first' → stride ≡ stride' → count ≡ count' → bytes ≡ bytes' →
    Stands old s → Stands new (with_blocks s first' stride' count' bytes')
filled-so {s = s} turns at far many with stands =
    let now = turns s stands in
    record {
      blocks = now.blocks;
      device = λ b. now.device b ∙ (λ i. put_blocks s.device (at i) (far i) (many i) (with i) b);
      writes = now.writes;
      time = now.time;
    }
