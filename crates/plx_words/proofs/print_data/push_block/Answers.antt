use Rattle.std.proofs.Common.{◌≡◌, append_assoc, false, true}
use Rattle.plx_base.proofs.Canonical.{payload_of-whole}
use Rattle.plx_words.proofs.Pushes.{OnOk-map}
use Rattle.plx_words.proofs.print_data.push_block.Goals as goal

pub returns-clause-text : goal.returns-clause-text
returns-clause-text c =
    rw (payload_of-whole c.args.block.now (λ same. let wrong : false ≡ true = c.if-is_filled.ensures.1 (rw c.as_slice-bytes.ensures.same same) in absurd (cc)))
    (OnOk-map c.push_each.result c.push_each.ensures.text (λ told. rw (told, c.in_ok-push.ensures, c.as_slice-bytes.ensures.same) (simp append_assoc)))
