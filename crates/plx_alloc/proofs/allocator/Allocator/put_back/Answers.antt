use Rattle.std.proofs.Common.{◌∙◌, ◌++◌, ◌∷◌, [], ap, arith, subst, sym}
use Rattle.std.proofs.lemmas.List.{map-append}
use Rattle.std.proofs.lemmas.List.Elements.{All-push}
use Rattle.plx_base.specs.declared.numbers.BlockNo.{BlockNo}
use Rattle.plx_alloc.specs.Pools.{AreInPool, IsInPool}
use Rattle.plx_alloc.specs.Tables.{numbers}
use Rattle.plx_alloc.proofs.Suited.{numbers-length}
use Rattle.plx_alloc.proofs.allocator.Allocator.put_back.Goals as goal

pub invariant_of-self-clause-pool : goal.invariant_of-self-clause-pool
invariant_of-self-clause-pool c =
    let a = c.args.self.now in
    let own : IsInPool a.geometry c.block.result.0 =
    subst (λ (b : BlockNo). IsInPool a.geometry b.0) (sym c.block.ensures) c.requires.pool in
    subst (AreInPool a.geometry) (sym c.push.ensures.items)
    (All-push (λ block. IsInPool a.geometry block.0) a.hand.items c.block.result a.pool own)

pub returns-clause-hand : goal.returns-clause-hand
returns-clause-hand c =
    let hand = c.args.self.now.hand.items in
    ap numbers c.push.ensures.items
    ∙ (map-append (λ (b : BlockNo). b.0) hand (c.block.result ∷ [])
    ∙ ap (λ (b : BlockNo). numbers hand ++ b.0 ∷ []) c.block.ensures)

pub push-requires : goal.push-requires
push-requires c =
    let long = numbers-length c.args.self.now.hand.items in
    let room = c.requires.room in
    (omega arith, omega (arith, long, room))
