use Rattle.std.proofs.Common.{◌<◌, ◌≡◌, ◌∙◌, false, get_or, length, ap, sym, arith}
use Rattle.plx_extent.proofs.Maps.{get_or-bits_of, length-bits_from}
use Rattle.plx_extent.specs.Maps.{bits_of}
use Rattle.plx_extent.proofs.map.ExtentMap.is_taken.Goals as goal

pub returns : goal.returns
returns c =
    let m = c.self.inside in
    let long = length-bits_from m.blocks 0 m.bytes in
    let same : length (bits_of m.blocks m.bytes) ≡ length c.args.self.now = ap length c.self.view_is in
    let within : c.args.bit < length c.args.self.now = c.requires in
    let less : c.args.bit < m.blocks = omega (arith, long, same, within) in
    sym (get_or-bits_of m.blocks m.bytes c.args.bit less) ∙ ap (λ bits. get_or bits c.args.bit false) c.self.view_is
