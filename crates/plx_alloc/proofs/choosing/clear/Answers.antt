use Rattle.std.proofs.Common.{rules, ◌≡◌, ◌≤◌, ◌+◌, ◌-◌, ◌∙◌, ◌++◌, ◌∷◌, [], true, false, sym, subst, length, get_or, arith}
use Rattle.std.specs.Prelude.{slice_set}
use Rattle.plx_base.specs.declared.numbers.BlockNo.{BlockNo}
use Rattle.plx_alloc.specs.Pools.{AreBetween}
use Rattle.plx_alloc.proofs.Cleared.{apart-of, cleared-all, cleared-clear, cleared-long, cleared-more, cleared-none, cleared-past, cleared-same}
use Rattle.plx_alloc.proofs.choosing.clear.Goals.{then-block-map+then-block-map-2+then-is_taken, then-block-map+then-block-map-2+else-is_taken, else-block-map, else-block-map-via-then-block-map+else-block-map-2, else-block-map-via-else-block-map}
use Rattle.plx_alloc.proofs.choosing.clear.Goals as goal

pub loop-block-init : goal.loop-block-init
loop-block-init c = cleared-none c.args.map.0 c.args.bits.now c.args.hand.now c.new-given.result.items c.new-given.ensures

pub is_taken-requires : goal.is_taken-requires
is_taken-requires c =
    let long = cleared-long c.args.map.0 c.args.bits.now c.args.hand.now c.loop-block.block-index c.loop-block.given.items c.loop-block.bits c.loop-block.invariant in
    let test = c.if-block-map-2.true in
    let from = c.from.ensures in
    let count = c.requires.blocks in
    omega (arith, long, test, from, count)

pub clear-requires-clause-least : goal.clear-requires-clause-least
clear-requires-clause-least c =
    let d : BlockNo = record { 0 = 0 } in
    let apart = apart-of c.args.map.0 c.args.hand.now c.loop-block.block-index d c.loop-block-test.true c.requires.apart in
    let low = c.if-block-map.true in
    omega (arith, low, apart)

pub push-requires : goal.push-requires
push-requires c =
    let few = c.loop-block.invariant.few in
    let less = c.loop-block-test.true in
    let most = c.requires.most in
    omega (arith, few, less, most)

pub loop-block-preserved : goal.loop-block-preserved
loop-block-preserved c =
    let start = c.args.map.0 in
    let old = c.args.bits.now in
    let hand = c.args.hand.now in
    let i = c.loop-block.block-index in
    let given = c.loop-block.given.items in
    let bits = c.loop-block.bits in
    let new = c.if-block-map.given.items in
    let now = c.if-block-map.bits in
    let d : BlockNo = record { 0 = 0 } in
    let x : BlockNo = get_or hand i d in
    let bit = x.0 - start in
    let less = c.loop-block-test.true in
    let h = c.loop-block.invariant in
    let count = c.requires.blocks in
    elim c.if-block-map.branch [
      | then-block-map+then-block-map-2+then-is_taken w ↦
          let low = w.if-block-map.true in
          let test = w.if-block-map-2.true in
          let from = w.from.ensures in
          let apart = apart-of start hand i d less c.requires.apart in
          let set : get_or bits bit false ≡ true = sym w.is_taken.ensures ∙ w.if-is_taken.true in
          let is : new ≡ given ++ x ∷ [] = search rules in
          let cleared : now ≡ slice_set bits bit false = search rules in
          cleared-more start old hand i d bit given new bits now less (omega (arith, low)) (omega (arith, low, apart)) (omega (arith, test, from, count)) set is cleared h
      | then-block-map+then-block-map-2+else-is_taken w ↦
          let low = w.if-block-map.true in
          let test = w.if-block-map-2.true in
          let from = w.from.ensures in
          let clear : get_or bits bit false ≡ false = sym w.is_taken.ensures ∙ w.if-is_taken.false in
          let is : new ≡ given = search rules in
          let same : now ≡ bits = search rules in
          cleared-same start old hand (i + 1) given new bits now is same
          (cleared-clear start old hand i d bit given bits less (omega (arith, low)) (omega (arith, test, from, count)) clear h)
      | else-block-map w ↦
          let is : new ≡ given = search rules in
          let same : now ≡ bits = search rules in
          cleared-same start old hand (i + 1) given new bits now is same
          (cleared-past start old hand i d given bits less
          (elim w.else-block-map.branch [
            | else-block-map-via-then-block-map+else-block-map-2 w' ↦
                let test = w'.if-block-map-2.false in
                let from = w'.from.ensures in
                λ number low high here. absurd (omega (arith, test, from, count, low, high, here))
            | else-block-map-via-else-block-map w' ↦
                let below = w'.if-block-map.false in
                λ number low high here. absurd (omega (arith, below, low, here))
          ]) h)
    ]

pub returns-clause-given : goal.returns-clause-given
returns-clause-given c = c.loop-block.invariant.tells

pub returns-clause-own : goal.returns-clause-own
returns-clause-own c = subst (λ n. AreBetween c.args.map.0 n c.loop-block.given.items) (sym c.requires.blocks) c.loop-block.invariant.own

pub returns-clause-cleared : goal.returns-clause-cleared
returns-clause-cleared c =
    let past : length c.args.hand.now ≤ c.loop-block.block-index = search rules in
    cleared-all c.args.map.0 c.args.bits.now c.args.hand.now c.loop-block.block-index c.loop-block.given.items c.loop-block.bits past c.loop-block.invariant
