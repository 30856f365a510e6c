use Rattle.std.proofs.Common.{◌≡◌, ◌≤◌, ◌+◌, ◌*◌, ◌∙◌, refl, ap, arith, length}
use Rattle.std.specs.Int.Count.{ones}
use Rattle.std.proofs.lemmas.List.Sums.{count_by-le-length}
use Rattle.plx_extent.proofs.Bits.{bytes-lt}
use Rattle.plx_extent.proofs.Counts.{set_count}
use Rattle.plx_extent.proofs.Maps.{length-bits_from}
use Rattle.plx_extent.proofs.WordBits.{count-more}
use Rattle.plx_extent.specs.Maps.{bits_from, bits_of}
use Rattle.plx_extent.proofs.words.count_set.Goals as goal

pub loop-index-init : goal.loop-index-init
unfolding bits_from
loop-index-init c = refl

pub loop-index-preserved : goal.loop-index-preserved
loop-index-preserved c =
    let bytes = c.args.bytes.now in
    let index = c.loop-index.index in
    ap (λ n. n + ones c.get_u64.result) c.loop-index.invariant
    ∙ (ap (λ n. set_count (bits_of (64 * index) bytes) + ones n) c.get_u64.ensures ∙ count-more bytes index (bytes-lt bytes c.type_inv.bytes))

pub overflow_add-set : goal.overflow_add-set
overflow_add-set c =
    let bytes = c.args.bytes.now in
    let index = c.loop-index.index in
    let e : c.loop-index.set + ones c.get_u64.result ≡ set_count (bits_of (64 * (index + 1)) bytes) = loop-index-preserved c in
    let less : set_count (bits_of (64 * (index + 1)) bytes) ≤ length (bits_of (64 * (index + 1)) bytes) = count_by-le-length (λ bit. bit) (bits_of (64 * (index + 1)) bytes) in
    let long = length-bits_from (64 * (index + 1)) 0 bytes in
    omega arith
