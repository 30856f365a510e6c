use Rattle.std.proofs.Common.{◌≡◌, ◌∙◌, arith, subst}
use Rattle.plx_geom.specs.Places.{IsPlace, block_of}
use Rattle.plx_geom.specs.declared.place.Place.{Place}
use Rattle.plx_world.proofs.Regions.{region-data, region-descriptor, region-map, region-pool}
use Rattle.plx_world.proofs.run.is_in.Goals as goal

pub returns-in-Some-JDesc : goal.returns-in-Some-JDesc
returns-in-Some-JDesc c =
    let g = c.args.geometry.now in
    let P : Place → Type 0 = λ p. IsPlace g p × (block_of g p ≡ c.args.block.0) in
    let found = c.in-Some-JDesc in
    let stands = subst P found.field-0-is found.ensures.stands in
    c.eq-in-Some-JDesc.ensures ∙ region-descriptor g c.args.region c.args.block.0 found.field-0-0.0 found.field-0-1 stands.0.0 stands.0.1 stands.1

pub returns-in-Some-JData : goal.returns-in-Some-JData
returns-in-Some-JData c =
    let g = c.args.geometry.now in
    let P : Place → Type 0 = λ p. IsPlace g p × (block_of g p ≡ c.args.block.0) in
    let found = c.in-Some-JData in
    let stands = subst P found.field-0-is found.ensures.stands in
    c.eq-in-Some-JData.ensures ∙ region-data g c.args.region c.args.block.0 found.field-0-0.0 found.field-0-1 stands.0.0 stands.0.1 stands.1

pub returns-in-Some-Map : goal.returns-in-Some-Map
returns-in-Some-Map c =
    let g = c.args.geometry.now in
    let P : Place → Type 0 = λ p. IsPlace g p × (block_of g p ≡ c.args.block.0) in
    let found = c.in-Some-Map in
    let stands = subst P found.field-0-is found.ensures.stands in
    let some = c.blocks-blocks.ensures.limits.blocks_low in
    c.eq-in-Some-Map.ensures ∙ region-map g c.args.region c.args.block.0 found.field-0-0.0 (omega (arith, some)) stands.0 stands.1

pub returns-in-Some-Pool : goal.returns-in-Some-Pool
returns-in-Some-Pool c =
    let g = c.args.geometry.now in
    let P : Place → Type 0 = λ p. IsPlace g p × (block_of g p ≡ c.args.block.0) in
    let found = c.in-Some-Pool in
    let stands = subst P found.field-0-is found.ensures.stands in
    c.eq-in-Some-Pool.ensures ∙ region-pool g c.args.region c.args.block.0 found.field-0-0.0 found.field-0-1 stands.0.0 stands.0.1 stands.0.2 stands.1
