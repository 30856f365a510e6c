-- What records and leases differ in as bytes: their first sector alone.
use Rattle.std.proofs.Common.{◌≡◌, [], ◌++◌, drop, sym, ◌∙◌, arith}
use Rattle.std.proofs.lemmas.List.{drop-replicate}
use Rattle.plx_base.specs.Blocks.{zeros}
use Rattle.plx_base.specs.Spelling.{block_of_fields, fields_bytes}
use Rattle.plx_base.specs.declared.lease.LeaseRecord.{LeaseRecord}
use Rattle.plx_base.proofs.Spelling.{drop-padded, length-spelled_head}
use Rattle.plx_gate.specs.Images.{image_magic, image_fields, label_of, image_bytes, IsImage}
use Rattle.plx_gate.specs.Leases.{lease_magic, lease_fields, lease_bytes}
use Rattle.plx_gate.specs.declared.image.ImageRecord.{ImageRecord}
use Rattle.plx_gate.proofs.Images.{width-image, label-short}
use Rattle.plx_gate.proofs.Leases.{width-lease}

-- past its first sector a lease is zeros
pub lease-rest : (r : LeaseRecord) → drop 512 (lease_bytes r) ≡ drop 512 zeros
unfolding lease_bytes block_of_fields zeros
lease-rest r =
    drop-padded 512 (lease_magic ++ (fields_bytes (lease_fields r) ++ [])) (let l = length-spelled_head lease_magic (lease_fields r) [] in let w = width-lease r in omega (arith, l, w))
    ∙ sym (drop-replicate 512 4096 0)

-- and so is an image's record
pub image-rest : (r : ImageRecord) → IsImage r → drop 512 (image_bytes r) ≡ drop 512 zeros
unfolding image_bytes block_of_fields zeros
image-rest r is =
    drop-padded 512 (image_magic ++ (fields_bytes (image_fields r) ++ label_of r))
    (let l = length-spelled_head image_magic (image_fields r) (label_of r) in let w = width-image r in let s = label-short r is in omega (arith, l, w, s))
    ∙ sym (drop-replicate 512 4096 0)
