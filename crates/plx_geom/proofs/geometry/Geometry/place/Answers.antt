use Rattle.std.proofs.Common.{Some, arith}
use Rattle.plx_geom.proofs.Places.{stands-one}
use Rattle.plx_geom.proofs.geometry.Geometry.place.Goals as goal

pub returns-then-at-extents_start-clause-one : goal.returns-then-at-extents_start-clause-one
returns-then-at-extents_start-clause-one c =
    let low = c.blocks-2.ensures.limits.blocks_low in
    let a = c.journal_place.ensures.here in
    let b = c.journal_start.ensures in
    let d = c.journal_start-then-at-extents_start.ensures in
    let e = c.if-at-journal_start.false in
    λ p is here. stands-one c.args.self.now c.args.block.0 (Some c.journal_place.result) p (omega (arith, low)) (c.journal_place.ensures.place, omega (arith, a, b, d, e)) is here

pub returns-clause-one : goal.returns-clause-one
returns-clause-one c =
    let low = c.blocks-2.ensures.limits.blocks_low in
    let a = c.extent_place.ensures.here in
    let b = c.extents_start.ensures in
    let d = c.extents_start-2.ensures in
    let e = c.if-at-extents_start.false in
    λ p is here. stands-one c.args.self.now c.args.block.0 (Some c.extent_place.result) p (omega (arith, low)) (c.extent_place.ensures.place, omega (arith, a, b, d, e)) is here
