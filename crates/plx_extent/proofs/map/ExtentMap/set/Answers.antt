use Rattle.std.proofs.Common.{◌≡◌, ◌<◌, ◌∙◌, true, length, slice_set, ap, sym, subst, arith}
use Rattle.plx_extent.proofs.Changes.{set-spells}
use Rattle.plx_base.specs.Spelling.{OnlySector}
use Rattle.plx_extent.proofs.Landings.{map_bytes-sector}
use Rattle.plx_extent.specs.Landing.{bit_sector}
use Rattle.plx_extent.proofs.Maps.{length-bits_from}
use Rattle.plx_extent.specs.Maps.{bits_of, map_bytes}
use Rattle.plx_extent.proofs.map.ExtentMap.set.Goals as goal

within : (c : goal.After-self-1) → c.args.bit < c.self.inside.blocks
within c =
    let m = c.self.inside in
    let long = length-bits_from m.blocks 0 m.bytes in
    let same : length (bits_of m.blocks m.bytes) ≡ length c.args.self.now = ap length c.self.view_is in
    let most = c.requires.most in
    omega (arith, long, same, most)

pub invariant_of-self : goal.invariant_of-self
invariant_of-self c = (set-spells c.self.inside.blocks c.self.inside.bytes c.args.bit c.self.invariant c.requires.least (within c)).holds

pub returns-clause-bits : goal.returns-clause-bits
returns-clause-bits c =
    (set-spells c.self.inside.blocks c.self.inside.bytes c.args.bit c.self.invariant c.requires.least (within c)).has
    ∙ ap (λ bits. slice_set bits c.args.bit true) c.self.view_is

pub returns-clause-sector : goal.returns-clause-sector
returns-clause-sector c =
    let m = c.self.inside in
    let bits = c.args.self.now in
    let long = length-bits_from m.blocks 0 m.bytes in
    let same : length (bits_of m.blocks m.bytes) ≡ length bits = ap length c.self.view_is in
    let most = c.self.invariant.most in
    subst (λ xs. OnlySector (bit_sector c.args.bit) (map_bytes xs) (map_bytes bits)) (sym (returns-clause-bits c))
    (map_bytes-sector bits c.args.bit true (omega (arith, long, same, most)) c.requires.most)
