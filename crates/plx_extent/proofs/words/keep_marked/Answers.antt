use Rattle.std.proofs.Common.{◌∙◌, ◌*◌, ◌+◌, refl, ap, arith}
use Rattle.std.specs.Prelude.{◌==◌, ◌&&◌}
use Rattle.std.specs.Int.{bit_at}
use Rattle.plx_extent.proofs.Bits.{bytes-lt}
use Rattle.plx_extent.proofs.KeptWords.{word-kept}
use Rattle.plx_extent.proofs.Changes.{map_bytes-kept_map}
use Rattle.plx_extent.specs.Maps.{bit_of, is_kept}
use Rattle.plx_extent.proofs.words.keep_marked.Goals as goal

pub loop-index-preserved : goal.loop-index-preserved
loop-index-preserved g c =
    let marked = g.M.MarkSet.is_marked c.args.marks.now in
    let index = c.loop-index.index in
    word-kept marked c.args.bytes.now index c.kept_word.result c.loop-index.bytes c.put_u64.new.bytes (omega arith)
    (bytes-lt c.put_u64.new.bytes c.type_inv.bytes) c.kept_word.type_inv c.put_u64.ensures
    (λ i less. c.kept_word.ensures i less ∙ ap (λ n. (bit_at n i == 1) && is_kept marked (64 * index + i)) c.get_u64-word.ensures)
    c.loop-index.invariant

pub loop-index-init : goal.loop-index-init
loop-index-init g c = record {
  long = c.requires;
  small = bytes-lt c.args.bytes.now c.type_inv.bytes;
  before = λ i below. absurd (omega arith);
  after = λ i above. refl;
}

pub returns : goal.returns
returns g c = λ bits most same.
    let h = c.loop-index.invariant in
    let marked = g.M.MarkSet.is_marked c.args.marks.now in
    map_bytes-kept_map bits marked c.loop-index.bytes most h.long h.small
    (λ i less. h.before i (omega arith) ∙ ap (λ xs. bit_of xs i && is_kept marked i) same)
