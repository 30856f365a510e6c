use Rattle.std.proofs.Common.{rules, ◌≡◌, ◌∷◌, ℕ, List, [], true, sym, subst}
use Rattle.std.proofs.lemmas.List.Elements.{All-tail}
use Rattle.std.specs.Prelude.{IsSome, remove}
use Rattle.plx_base.specs.declared.numbers.BlockNo.{BlockNo}
use Rattle.plx_rules.specs.Hands.{is_held}
use Rattle.plx_rules.specs.Rests.{extent_of}
use Rattle.plx_geom.specs.Geometry.{Geometry}
use Rattle.plx_alloc.specs.Pools.{AreInPool, IsInPool}
use Rattle.plx_alloc.specs.Tables.{held_of, extent_leases}
use Rattle.plx_alloc.proofs.Hands.{head-held, held-some}
use Rattle.plx_alloc.proofs.allocator.Allocator.next_fresh.Goals as goal

pub unwrap-requires : goal.unwrap-requires
unwrap-requires c =
    let a = c.args.self.now in
    let b = c.remove-block.result in
    let P : ℕ → Type 0 = λ extent. is_held (extent_leases a extent) ≡ true in
    let first : is_held (extent_leases a (extent_of a.geometry b.0)) ≡ true =
    subst (λ (x : BlockNo). is_held (extent_leases a (extent_of a.geometry x.0)) ≡ true) (sym c.remove-block.ensures.value) (head-held a.geometry (extent_leases a) a.hand.items b c.requires.some c.requires.held) in
    let held : IsSome (held_of a c.extent_of-extent.result.0) = held-some (held_of a c.extent_of-extent.result.0) (subst P (sym c.extent_of-extent.ensures.same) first) in
    search rules

-- the blocks past the first are blocks of pools too
rest-in-pool : (g : Geometry) (blocks : List BlockNo) → AreInPool g blocks → AreInPool g (remove blocks 0)
rest-in-pool g [] h = h
rest-in-pool g (block ∷ blocks) h = All-tail (λ (b : BlockNo). IsInPool g b.0) block blocks h

pub invariant_of-self-clause-pool : goal.invariant_of-self-clause-pool
invariant_of-self-clause-pool c =
    let a = c.args.self.now in
    subst (AreInPool a.geometry) (sym c.remove-block.ensures.items) (rest-in-pool a.geometry a.hand.items a.pool)
