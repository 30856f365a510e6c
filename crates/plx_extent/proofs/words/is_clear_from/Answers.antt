use Rattle.std.proofs.Common.{arith}
use Rattle.plx_extent.proofs.Bits.{bytes-lt}
use Rattle.plx_extent.proofs.Reading.{tells-clear, tells-set}
use Rattle.plx_extent.proofs.words.is_clear_from.Goals as goal

pub returns-then-bytes-byte-eq0 : goal.returns-then-bytes-byte-eq0
returns-then-bytes-byte-eq0 c =
    tells-clear c.args.bytes.now c.args.from c.are_all.result c.if-bytes-byte-eq0.true (bytes-lt c.args.bytes.now c.type_inv.bytes) (omega arith) c.are_all.ensures

pub returns-else-bytes-byte-eq0 : goal.returns-else-bytes-byte-eq0
returns-else-bytes-byte-eq0 c = tells-set c.args.bytes.now c.args.from (bytes-lt c.args.bytes.now c.type_inv.bytes) c.if-bytes-byte-eq0.false
