use Rattle.std.proofs.Common.{◌∙◌, length, ap, sym, arith, subst}
use Rattle.plx_extent.proofs.Bits.{bytes-lt}
use Rattle.plx_extent.proofs.Maps.{length-map_bytes, past-clear}
use Rattle.plx_extent.proofs.Reading.{even-none, odd-holds}
use Rattle.plx_extent.specs.Maps.{HoldsMap}
use Rattle.plx_extent.proofs.map.ExtentMap.read.Goals as goal
use Rattle.plx_extent.proofs.map.ExtentMap.read.Goals.{then-bytes-eq0-via-then-bytes-eq0, then-bytes-eq0-via-else-bytes-eq0+then-not-is_clear_from}

pub returns-then-bytes-ne-BLOCK_LEN : goal.returns-then-bytes-ne-BLOCK_LEN
returns-then-bytes-ne-BLOCK_LEN c = λ bits is same. c.if-bytes-ne-BLOCK_LEN.true (ap length same ∙ length-map_bytes bits)

pub returns-then-bytes-eq0 : goal.returns-then-bytes-eq0
returns-then-bytes-eq0 c = λ bits is same.
    elim c.then-bytes-eq0.branch [
      | then-bytes-eq0-via-then-bytes-eq0 w ↦ even-none c.args.blocks bits c.args.bytes.now c.requires.most is same w.if-bytes-eq0.true
      | then-bytes-eq0-via-else-bytes-eq0+then-not-is_clear_from w ↦
          let no = w.if-not-is_clear_from.true in
          let yes = w.is_clear_from.ensures.1 (past-clear c.args.blocks bits c.args.bytes.now c.requires.most is same) in
          cc (no, yes)
    ]

holds : (c : goal.After-own-2-1) → HoldsMap c.args.blocks c.args.bytes.now
holds c =
    odd-holds c.args.blocks c.args.bytes.now (omega arith) c.requires.most c.if-bytes-ne-BLOCK_LEN.false (bytes-lt c.args.bytes.now c.type_inv.bytes) c.if-bytes-eq0.false
    (c.is_clear_from.ensures.0 c.if-not-is_clear_from.false)

pub invariant_of-result : goal.invariant_of-result
invariant_of-result c = subst (HoldsMap c.args.blocks) (sym c.copy_from_slice.ensures.after) (holds c)

pub returns : goal.returns
returns c = ((invariant_of-result c).is, sym c.copy_from_slice.ensures.after ∙ (invariant_of-result c).spelled)
