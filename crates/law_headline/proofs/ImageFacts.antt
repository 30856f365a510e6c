-- Records of images differ in their first sector alone.
use Rattle.std.proofs.Common.{◌≡◌, length, take, drop, ap, sym, ◌∙◌, arith}
use Rattle.std.proofs.lemmas.List.{drop_at, length-take-le}
use Rattle.plx_gate.specs.Images.{image_bytes, IsImage}
use Rattle.plx_gate.specs.declared.image.ImageRecord.{ImageRecord}
use Rattle.plx_gate.proofs.Images.{length-image, image-sector}

pub image-drop : (new old : ImageRecord) → IsImage new → IsImage old → drop 512 (image_bytes new) ≡ drop 512 (image_bytes old)
image-drop new old h k =
    let long = length-image new h in
    let front : length (take 512 (image_bytes new)) ≡ 512 = length-take-le 512 (image_bytes new) (omega (arith, long)) in
    sym (ap (drop 512) (image-sector new old h k).own) ∙ drop_at (take 512 (image_bytes new)) (drop 512 (image_bytes old)) 512 front
