use Rattle.std.proofs.Common.{rules, ◌≡◌, ◌≤◌, ◌∙◌, ◌++◌, ◌∷◌, ℕ, [], Bool, true, false, ap, sym, subst, length, get_or, arith}
use Rattle.std.specs.Prelude.{not, filter}
use Rattle.plx_base.specs.declared.numbers.BlockNo.{BlockNo}
use Rattle.plx_commands.specs.Replies.{is_in}
use Rattle.plx_alloc.specs.Pools.{AreInPool}
use Rattle.plx_alloc.specs.Tables.{numbers}
use Rattle.plx_alloc.proofs.Keeping.{AreKeptBlocks, kept-all, kept-less, kept-more, kept-none}
use Rattle.plx_alloc.proofs.allocator.Allocator.give.Goals.{then-not-is_among, else-not-is_among}
use Rattle.plx_alloc.proofs.allocator.Allocator.give.Goals as goal

pub loop-block-init : goal.loop-block-init
loop-block-init c =
    let a = c.args.self.now in
    let p : ℕ → Bool = λ block. not (is_in block (numbers c.args.blocks.now.items)) in
    subst (λ kept. AreKeptBlocks p a.geometry c.as_slice-block-items.result.now 0 kept) (sym c.new-kept.ensures) (kept-none p a.geometry c.as_slice-block-items.result.now)

pub push-requires : goal.push-requires
push-requires c =
    let few = c.loop-block.invariant.few in
    let less = c.loop-block-test.true in
    let fits = c.as_slice-block-items.ensures.fits in
    omega (arith, few, less, fits)

pub loop-block-preserved : goal.loop-block-preserved
loop-block-preserved c =
    let a = c.args.self.now in
    let p : ℕ → Bool = λ block. not (is_in block (numbers c.args.blocks.now.items)) in
    let items = c.as_slice-block-items.result.now in
    let i = c.loop-block.block-index in
    let d : BlockNo = record { 0 = 0 } in
    let x : BlockNo = get_or items i d in
    let kept = c.loop-block.kept.items in
    let pool : AreInPool a.geometry items = subst (AreInPool a.geometry) (sym c.as_slice-block-items.ensures.value) a.pool in
    elim c.if-not-is_among.branch [
      | then-not-is_among w ↦
          let yes' : p x.0 ≡ true = search rules in
          let is : c.if-not-is_among.kept.items ≡ kept ++ x ∷ [] = search rules in
          kept-more p a.geometry items i d kept c.if-not-is_among.kept.items c.loop-block-test.true yes' pool is c.loop-block.invariant
      | else-not-is_among w ↦
          let other : p x.0 ≡ false = search rules in
          let is : c.if-not-is_among.kept.items ≡ kept = search rules in
          kept-less p a.geometry items i d kept c.if-not-is_among.kept.items c.loop-block-test.true other is c.loop-block.invariant
    ]

pub invariant_of-self : goal.invariant_of-self
invariant_of-self c =
    let a = c.args.self.now in
    record { limits = a.limits; numbered = a.numbered; long = a.long; begun = a.begun; pool = c.loop-block.invariant.pool; own = a.own }

pub returns-clause-hand : goal.returns-clause-hand
returns-clause-hand c =
    let a = c.args.self.now in
    let p : ℕ → Bool = λ block. not (is_in block (numbers c.args.blocks.now.items)) in
    let items = c.as_slice-block-items.result.now in
    let past : length items ≤ c.loop-block.block-index = search rules in
    kept-all p a.geometry items c.loop-block.block-index c.loop-block.kept.items past c.loop-block.invariant
    ∙ ap (λ blocks. filter p (numbers blocks)) c.as_slice-block-items.ensures.value
