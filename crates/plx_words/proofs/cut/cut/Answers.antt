use Rattle.std.proofs.Common.{◌≡◌, ◌≢◌, ◌++◌, ◌+◌, ◌-◌, ◌<◌, ◌∙◌, ℕ, List, ◌∷◌, Option, Some, MatchOption, length, take, drop, sym, subst, arith, rules, tests}
use Rattle.std.specs.List.{All, AllWithin, HoldsAt}
use Rattle.std.proofs.Math.Seq.{split_at}
use Rattle.std.proofs.lemmas.Grind.{common_steps}
use Rattle.std.proofs.lemmas.List.{get_or-take, length-take-le}
use Rattle.std.proofs.lemmas.Iterator.{IsFirst-from_position, YieldsList-from_slice}
use Rattle.plx_words.proofs.cut.cut.Goals as goal

-- the text has its first mark there
abbrev IsFirstMark : List ℕ → ℕ → Option ℕ → Type 0
IsFirstMark text mark found = MatchOption found (AllWithin (λ byte. byte ≢ mark) text 0 (length text))
    (λ at. (at < length text) × HoldsAt (λ byte. byte ≡ mark) text at × AllWithin (λ byte. byte ≢ mark) text 0 at)

-- the text is what the cut at its first mark gives
parts : (text : List ℕ) (mark at : ℕ) → IsFirstMark text mark (Some at)
    → text ≡ take at text ++ mark ∷ take (length text - (at + 1)) (drop (at + 1) text)
parts text mark at first =
    let split = split_at text at 0 first.0 in
    let here = first.1 0 in
    grind (arith, common_steps)

-- and no mark stands before it
no-mark-before : (text : List ℕ) (mark at : ℕ) → IsFirstMark text mark (Some at) → All (λ byte. byte ≢ mark) (take at text)
no-mark-before text mark at first k d within same =
    let below : k < at = omega (arith, length-take-le at text (omega (arith, first.0))) in
    first.2 k d (omega arith) below (sym (get_or-take at text k d below) ∙ same)

pub returns : goal.returns
returns c =
    let known = IsFirst-from_position _ _ c.position.result (λ byte. byte ≡ c.args.mark) (λ byte. byte ≢ c.args.mark) c.position.ensures.ran (YieldsList-from_slice c.args.text.now cc) (λ x q k. search (rules, tests)) (λ x q k. search (rules, tests)) in
    let first = subst (IsFirstMark c.args.text.now c.args.mark) c.in_ok-at.was known in
    record {
      parts = parts c.args.text.now c.args.mark c.in_ok-at.at first;
      first = no-mark-before c.args.text.now c.args.mark c.in_ok-at.at first;
      none = tt;
    }
