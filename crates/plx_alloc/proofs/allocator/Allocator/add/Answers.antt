use Rattle.std.proofs.Common.{◌≡◌, ◌∙◌, ◌++◌, Result, Ok, Err, length, ap, arith, subst, sym}
use Rattle.std.specs.Prelude.{IsOk, OnOk}
use Rattle.std.proofs.lemmas.List.Elements.{All-append}
use Rattle.plx_alloc.specs.Pools.{AreInPool, IsInPool}
use Rattle.plx_alloc.proofs.allocator.Allocator.add.Goals as goal

on-ok : {T E P : Type 0} (r : Result T E) → IsOk r → OnOk r P → P
on-ok (Ok x) is so = so
on-ok (Err e) is so = let never : ⊥ = cc in absurd never

-- there is room, so all of the blocks are in hand
all-added : (c : goal.After-try_extend_from_slice) → c.try_extend_from_slice.new.self.items ≡ c.args.self.now.hand.items ++ c.args.blocks.now.items
all-added c =
    let e = c.try_extend_from_slice.ensures in
    let hand = c.args.self.now.hand.items in
    let value : c.as_slice.result.now ≡ c.args.blocks.now.items = c.as_slice.ensures.value in
    let long = ap length value in
    let room = c.requires.room in
    on-ok c.try_extend_from_slice.result (e.variant.1 (omega (arith, long, room))) e.ok
    ∙ ap (λ blocks. hand ++ blocks) value

pub invariant_of-self-clause-pool : goal.invariant_of-self-clause-pool
invariant_of-self-clause-pool c =
    let a = c.args.self.now in
    subst (AreInPool a.geometry) (sym (all-added c))
    (All-append (λ block. IsInPool a.geometry block.0) a.hand.items c.args.blocks.now.items a.pool c.requires.pool)
