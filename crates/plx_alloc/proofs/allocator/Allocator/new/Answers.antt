use Rattle.std.proofs.Common.{◌≡◌, ◌+◌, ◌∙◌, ◌++◌, ◌∷◌, ℕ, List, [], zero, suc, Option, Some, None, ap, arith, get_or, refl, sym}
use Rattle.std.proofs.Math.Path.{fun_ext}
use Rattle.std.specs.Vec.{vec_len}
use Rattle.plx_token.specs.declared.held.Held.{Held}
use Rattle.plx_token.specs.declared.kind.Extent.{Extent}
use Rattle.plx_alloc.specs.Tables.{extent_hold}
use Rattle.plx_alloc.proofs.allocator.Allocator.new.Goals as goal

-- where nothing stands, nothing does past one more empty place
places-none : {X : Type 0} (xs : List (Option X)) → ((k : ℕ) → get_or xs k None ≡ None) → (k : ℕ) → get_or (xs ++ None ∷ []) k None ≡ None
places-none [] none zero = refl
places-none [] none (suc k) = refl
places-none (x ∷ xs) none zero = none 0
places-none (x ∷ xs) none (suc k) = places-none xs (λ j. none (suc j)) k

pub loop-preserved : goal.loop-preserved
loop-preserved c =
    let count = c.loop.invariant.0 in
    let more = c.in_ok-push.ensures.len in
    let long : vec_len c.push.new.self ≡ c.loop.counter + 1 = omega (arith, count, more) in (
      long,
      λ k. ap (λ xs. get_or xs k None) c.in_ok-push.ensures.items
          ∙ places-none c.loop.extents.items c.loop.invariant.1 k,
    )

pub invariant_of-result-2-clause-own : goal.invariant_of-result-2-clause-own
invariant_of-result-2-clause-own c = λ extent held is.
    let clash : ◌≡◌ {A = Option (Held Extent)} None (Some held) =
    sym (c.loop.invariant.1 extent) ∙ is in
    let never : ⊥ = cc in
    absurd never

pub returns-clause-leases : goal.returns-clause-leases
returns-clause-leases c = fun_ext (λ extent. ap extent_hold (c.loop.invariant.1 extent))
