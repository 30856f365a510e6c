use Rattle.std.proofs.Common.{rules, ◌≡◌, ◌<◌, ◌≤◌, ◌+◌, ◌∙◌, ap, sym, length, get_or, true, false, arith}
use Rattle.std.specs.Prelude.{◌||◌}
use Rattle.plx_base.specs.declared.numbers.BlockNo.{BlockNo}
use Rattle.plx_commands.specs.Replies.{is_in}
use Rattle.plx_alloc.specs.Tables.{numbers}
use Rattle.plx_alloc.proofs.Chosen.{chosen-all, chosen-bit, chosen-full, chosen-long, chosen-more, chosen-none, chosen-skip}
use Rattle.plx_alloc.proofs.choosing.choose.Goals as goal

pub loop-bit-init : goal.loop-bit-init
loop-bit-init c =
    chosen-none (numbers c.args.hand.now) c.args.map.0 c.args.need c.args.bits.now c.new-taken.result.items c.requires.own c.new-taken.ensures

pub returns-then-len-need-clause-taken : goal.returns-then-len-need-clause-taken
returns-then-len-need-clause-taken c =
    let full : length c.loop-bit.taken.items ≡ c.args.need = search rules in
    chosen-full (numbers c.args.hand.now) c.args.map.0 c.args.need c.args.bits.now c.loop-bit.bit c.loop-bit.taken.items c.loop-bit.bits c.loop-bit.invariant full

pub returns-then-len-need-clause-set : goal.returns-then-len-need-clause-set
returns-then-len-need-clause-set c = c.loop-bit.invariant.set

pub returns-clause-taken : goal.returns-clause-taken
returns-clause-taken c =
    let past : length c.args.bits.now ≤ c.loop-bit.bit = search rules in
    chosen-all (numbers c.args.hand.now) c.args.map.0 c.args.need c.args.bits.now c.loop-bit.bit c.loop-bit.taken.items c.loop-bit.bits c.loop-bit.invariant past

pub returns-clause-set : goal.returns-clause-set
returns-clause-set c = c.loop-bit.invariant.set

pub is_taken-requires : goal.is_taken-requires
is_taken-requires c =
    let long = chosen-long (numbers c.args.hand.now) c.args.map.0 c.args.need c.args.bits.now c.loop-bit.bit c.loop-bit.taken.items c.loop-bit.bits c.loop-bit.invariant in
    let test = c.loop-bit-test.true in
    let count = c.requires.blocks in
    omega (arith, long, test, count)

pub set-requires-clause-most : goal.set-requires-clause-most
set-requires-clause-most c =
    let long = chosen-long (numbers c.args.hand.now) c.args.map.0 c.args.need c.args.bits.now c.loop-bit.bit c.loop-bit.taken.items c.loop-bit.bits c.loop-bit.invariant in
    let test = c.loop-bit-test.true in
    let count = c.requires.blocks in
    omega (arith, long, test, count)

pub loop-bit-preserved-then-is_taken : goal.loop-bit-preserved-then-is_taken
loop-bit-preserved-then-is_taken c =
    let hand = numbers c.args.hand.now in
    let old = c.args.bits.now in
    let bit = c.loop-bit.bit in
    let taken = c.loop-bit.taken.items in
    let test = c.loop-bit-test.true in
    let count = c.requires.blocks in
    let less : bit < length old = omega (arith, test, count) in
    let set : get_or old bit false ≡ true =
    sym (chosen-bit hand c.args.map.0 c.args.need old bit taken c.loop-bit.bits c.loop-bit.invariant less) ∙ (sym c.is_taken.ensures ∙ c.if-is_taken.true) in
    chosen-skip hand c.args.map.0 c.args.need old bit taken c.loop-bit.bits c.loop-bit.invariant less (ap (λ b. b || is_in (c.args.map.0 + bit) hand) set)

pub loop-bit-preserved-then-is_among : goal.loop-bit-preserved-then-is_among
loop-bit-preserved-then-is_among c =
    let hand = numbers c.args.hand.now in
    let old = c.args.bits.now in
    let bit = c.loop-bit.bit in
    let taken = c.loop-bit.taken.items in
    let test = c.loop-bit-test.true in
    let count = c.requires.blocks in
    let less : bit < length old = omega (arith, test, count) in
    let clear : get_or old bit false ≡ false =
    sym (chosen-bit hand c.args.map.0 c.args.need old bit taken c.loop-bit.bits c.loop-bit.invariant less) ∙ (sym c.is_taken.ensures ∙ c.if-is_taken.false) in
    let among : is_in (c.args.map.0 + bit) hand ≡ true = ap (λ n. is_in (c.args.map.0 + n) hand) (sym c.from.ensures) ∙ (sym c.is_among.ensures ∙ c.if-is_among.true) in
    chosen-skip hand c.args.map.0 c.args.need old bit taken c.loop-bit.bits c.loop-bit.invariant less (ap (λ b. b || is_in (c.args.map.0 + bit) hand) clear ∙ among)

pub loop-bit-preserved : goal.loop-bit-preserved
loop-bit-preserved c =
    let hand = numbers c.args.hand.now in
    let old = c.args.bits.now in
    let bit = c.loop-bit.bit in
    let taken = c.loop-bit.taken.items in
    let test = c.loop-bit-test.true in
    let count = c.requires.blocks in
    let less : bit < length old = omega (arith, test, count) in
    let clear : get_or old bit false ≡ false =
    sym (chosen-bit hand c.args.map.0 c.args.need old bit taken c.loop-bit.bits c.loop-bit.invariant less) ∙ (sym c.is_taken.ensures ∙ c.if-is_taken.false) in
    let among : is_in (c.args.map.0 + bit) hand ≡ false = ap (λ n. is_in (c.args.map.0 + n) hand) (sym c.from.ensures) ∙ (sym c.is_among.ensures ∙ c.if-is_among.false) in
    let few = c.loop-bit.invariant.few in
    let ne = c.if-len-need.false in
    let value : c.len.result ≡ length taken = c.len.ensures.value in
    let room : length taken < c.args.need = omega (arith, few, ne, value) in
    let block : BlockNo = record { 0 = c.args.map.0 + c.from.result } in
    chosen-more hand c.args.map.0 c.args.need old bit taken c.push.new.self.items c.loop-bit.bits c.set.new.self block c.loop-bit.auto.bit c.loop-bit.invariant less room
    (ap (λ b. b || is_in (c.args.map.0 + bit) hand) clear ∙ among) (ap (λ n. c.args.map.0 + n) c.from.ensures) c.push.ensures.items c.set.ensures.bits
