use Rattle.std.proofs.Common.{◌<◌, length, append-nil, append_assoc, sym, arith}
use Rattle.plx_words.proofs.Spaced.{tell-more, spaced-more, spaced-none}
use Rattle.plx_words.specs.Written.{piece_of}
use Rattle.plx_words.proofs.text.Text.words.Goals as goal

pub loop-word-init : goal.loop-word-init
loop-word-init c = record { text = rw (spaced-none, append-nil); tells = tt }

pub loop-word-preserved : goal.loop-word-preserved
loop-word-preserved c =
    let below : c.loop-word.word-index < length c.args.words.now = omega arith in
    record {
      text = rw (c.in_ok-word.ensures.text, c.in_ok-push.ensures, c.loop-word.invariant.text, spaced-more piece_of c.args.words.now c.loop-word.word-index c.word-item.result below (sym c.word-item.is))
          (simp append_assoc);
      tells = tell-more piece_of c.args.words.now c.loop-word.word-index c.word-item.result below (sym c.word-item.is) c.loop-word.invariant.tells c.in_ok-word.ensures.tells;
    }
