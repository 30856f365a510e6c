use Rattle.std.proofs.Common.{◌≡◌, ◌<◌, ◌≤◌, ◌∙◌, false, length, ap, sym, arith}
use Rattle.std.specs.Prelude.{not, position}
use Rattle.plx_extent.proofs.Maps.{get_or-bits_of, length-bits_from}
use Rattle.plx_extent.proofs.Reading.{clear-above}
use Rattle.plx_extent.proofs.WordBits.{position-at, position-none}
use Rattle.plx_extent.specs.Maps.{bit_of, bits_of}
use Rattle.plx_extent.proofs.map.ExtentMap.first_free.Goals as goal

-- the bit found is clear
is-clear : (c : goal.Then-bit-self) → bit_of c.self.inside.bytes c.first_clear-bit.result ≡ false
is-clear c =
    let most = c.self.invariant.most in
    let less : c.first_clear-bit.result < c.self.inside.blocks = c.if-bit-self.true in
    c.first_clear-bit.ensures.clear (omega (arith, most, less))

pub returns-then-bit-self-clause-least : goal.returns-then-bit-self-clause-least
returns-then-bit-self-clause-least c =
    let m = c.self.inside in
    let at = c.first_clear-bit.result in
    let long = length-bits_from m.blocks 0 m.bytes in
    let less : at < m.blocks = c.if-bit-self.true in
    sym (ap (position not) (sym c.self.view_is)
    ∙ position-at not (bits_of m.blocks m.bytes) false at (omega (arith, long, less)) (ap not (get_or-bits_of m.blocks m.bytes at less ∙ is-clear c))
    (λ k below. ap not (get_or-bits_of m.blocks m.bytes k (omega (arith, less, below)) ∙ c.first_clear-bit.ensures.set k below)))

pub returns-then-bit-self-clause-free : goal.returns-then-bit-self-clause-free
returns-then-bit-self-clause-free c =
    let m = c.self.inside in
    let long = length-bits_from m.blocks 0 m.bytes in
    let same : length (bits_of m.blocks m.bytes) ≡ length c.args.self.now = ap length c.self.view_is in
    let less : c.first_clear-bit.result < m.blocks = c.if-bit-self.true in
    (clear-above m.blocks m.bytes c.first_clear-bit.result c.self.invariant (is-clear c), omega (arith, long, same, less))

pub returns-else-bit-self-clause-least : goal.returns-else-bit-self-clause-least
returns-else-bit-self-clause-least c =
    let m = c.self.inside in
    let long = length-bits_from m.blocks 0 m.bytes in
    let more : m.blocks ≤ c.first_clear-bit.result = c.if-bit-self.false in
    sym (ap (position not) (sym c.self.view_is)
    ∙ position-none not (bits_of m.blocks m.bytes) false
    (λ k below. ap not (get_or-bits_of m.blocks m.bytes k (omega (arith, long, below)) ∙ c.first_clear-bit.ensures.set k (omega (arith, long, more, below)))))
