use Rattle.std.proofs.Common.{append_assoc}
use Rattle.plx_words.proofs.Pushes.{OnOk-map}
use Rattle.plx_words.proofs.Spaced.{line-parts}
use Rattle.plx_words.proofs.text.Text.line.Goals as goal

pub returns : goal.returns
returns c = OnOk-map c.end.result c.end.ensures
    (λ told. record { text = rw (told, c.in_ok-words.ensures.text, c.in_ok-begin.ensures, line-parts) (simp append_assoc); tells = (tt, c.in_ok-words.ensures.tells) })
