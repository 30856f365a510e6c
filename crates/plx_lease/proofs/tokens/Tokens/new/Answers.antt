use Rattle.std.proofs.Common.{◌≡◌, ◌∙◌, ◌++◌, ◌∷◌, ℕ, zero, suc, Option, [], Some, None, ap, arith, get_or, refl, replicate, sym}
use Rattle.std.proofs.lemmas.List.{replicate_more}
use Rattle.plx_token.specs.declared.held.Held.{Held}
use Rattle.plx_token.specs.declared.kind.Image.{Image}
use Rattle.plx_lease.proofs.tokens.Tokens.new.Goals as goal

-- nothing stands in an empty table
none-stands : {X : Type 0} (n k : ℕ) → ◌≡◌ {A = Option X} (get_or (replicate n None) k None) None
none-stands zero zero = refl
none-stands zero (suc k) = refl
none-stands (suc n) zero = refl
none-stands (suc n) (suc k) = none-stands n k

pub loop-preserved : goal.loop-preserved
loop-preserved c = record {
  free = c.in_ok-push.ensures.items
      ∙ (ap (λ xs. xs ++ None ∷ []) c.loop.invariant.free ∙ replicate_more c.loop.counter None);
}

pub invariant_of-result : goal.invariant_of-result
invariant_of-result c = record {
  own = λ slot held is.
      let none : get_or c.loop.slots.items slot None ≡ None =
      ap (λ xs. get_or xs slot None) c.loop.invariant.free ∙ none-stands c.loop.counter slot in
      let clash : ◌≡◌ {A = Option (Held Image)} None (Some held) = sym none ∙ is in
      let never : ⊥ = cc in
      absurd never;
}

pub returns-clause-images : goal.returns-clause-images
returns-clause-images c =
    let all : c.loop.counter ≡ c.args.images = omega arith in
    c.loop.invariant.free ∙ ap (λ n. replicate n None) all
