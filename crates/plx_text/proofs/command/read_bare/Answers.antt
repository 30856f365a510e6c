use Rattle.std.proofs.Common.{◌≡◌, ◌^◌, ◌<◌, ℕ, List, [], ◌∷◌, decimal}
use Rattle.std.specs.Prelude.{IfSome}
use Rattle.plx_commands.specs.declared.command.Command.{Command}
use Rattle.plx_words.specs.Candidates.{by_word}
use Rattle.plx_text.specs.Commands.{SpellsCommand, slot_rows}
use Rattle.plx_text.proofs.Rows.{rest-same, row-of}
use Rattle.plx_text.proofs.command.read_bare.Goals as goal

-- no command is spelled where no slot stands alone
none-bare : (word : List ℕ) (words : List (List ℕ)) → ((n : ℕ) → n < 2 ^ 32 → ¬ (words ≡ decimal n ∷ []))
    → IfSome (by_word word (slot_rows (word ∷ words))) (λ one. ¬ SpellsCommand one (word ∷ words))
none-bare word words none = row-of (λ (one : Command). ¬ SpellsCommand one (word ∷ words)) word (slot_rows (word ∷ words)) (
  λ spells. none _ spells.0.1.0.1 (rest-same _ _ _ _ spells.1),
  (
    λ spells. none _ spells.0.1.0.1 (rest-same _ _ _ _ spells.1),
    (
      λ spells. none _ spells.0.1.0.1 (rest-same _ _ _ _ spells.1),
      tt,
    ),
  ),
)

pub returns-in_err-last_small : goal.returns-in_err-last_small
returns-in_err-last_small c = rw c.from_residual.ensures (none-bare c.args.word.now c.args.words.now c.in_err-last_small.ensures.none)
