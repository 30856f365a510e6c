use Rattle.std.proofs.Common.{rules, ◌≡◌, ◌<◌, ◌≤◌, ◌+◌, ◌∙◌, ap, sym, length, get_or, true, false}
use Rattle.std.specs.Prelude.{◌||◌}
use Rattle.plx_commands.specs.Replies.{is_in}
use Rattle.plx_alloc.specs.Tables.{has_any, numbers}
use Rattle.plx_alloc.proofs.Chosen.{free-here, free-over, free-skip, own-skip}
use Rattle.plx_alloc.proofs.choosing.has_free.Goals as goal

pub loop-bit-init : goal.loop-bit-init
loop-bit-init c = ap has_any (own-skip (numbers c.args.hand.now) c.args.map.0 c.args.bits.now c.requires.own)

pub loop-bit-preserved : goal.loop-bit-preserved
loop-bit-preserved c =
    let hand = numbers c.args.hand.now in
    let bits = c.args.bits.now in
    let bit = c.loop-bit.bit in
    let less : bit < length bits = search rules in
    let taken : (get_or bits bit false || is_in (c.args.map.0 + bit) hand) ≡ true = search rules in
    c.loop-bit.invariant ∙ ap has_any (free-skip hand c.args.map.0 bit bits less taken)

pub returns-then-not-is_among : goal.returns-then-not-is_among
returns-then-not-is_among c =
    let hand = numbers c.args.hand.now in
    let bits = c.args.bits.now in
    let bit = c.loop-bit.bit in
    let less : bit < length bits = search rules in
    let free : (get_or bits bit false || is_in (c.args.map.0 + bit) hand) ≡ false = search rules in
    sym (c.loop-bit.invariant ∙ ap has_any (free-here hand c.args.map.0 bit bits less free))

pub returns : goal.returns
returns c =
    let hand = numbers c.args.hand.now in
    let bits = c.args.bits.now in
    let past : length bits ≤ c.loop-bit.bit = search rules in
    sym (c.loop-bit.invariant ∙ ap has_any (free-over hand c.args.map.0 c.loop-bit.bit bits past))
