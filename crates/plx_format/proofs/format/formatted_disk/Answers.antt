use Rattle.std.proofs.Common.{◌≡◌, ◌+◌, ◌∙◌, refl, rules}
use Rattle.plx_disk.specs.Standing.{Stands}
use Rattle.plx_disk.specs.Writes.{blank}
use Rattle.plx_disk.proofs.Told.{told-unissued}
use Rattle.plx_format.proofs.Filled.{filled-so}
use Rattle.plx_format.proofs.FormattedDevice.{with_super, with_leases, with_records, with_maps, with-maps-is}
use Rattle.plx_geom.specs.Geometry.{lease_count}
use Rattle.plx_geom.specs.Superblock.{superblock_bytes}
use Rattle.plx_format.proofs.format.formatted_disk.Goals as goal

pub fill-requires-clause-unissued : goal.fill-requires-clause-unissued
fill-requires-clause-unissued c = told-unissued c.in_ok-disk.disk (blank c.blocks-2.result c.args.time) c.in_ok-disk.ensures.blank refl

pub returns-clause-formatted : goal.returns-clause-formatted
returns-clause-formatted c =
    let g = c.args.geometry.now in
    let images : c.from-images.result ≡ g.images = search rules in
    let extents : c.from-extents.result ≡ g.extents = search rules in
    let stride : c.from-stride.result ≡ g.extent_blocks = search rules in
    let leases : 1 + c.from-images.result + c.from-extents.result ≡ lease_count g = λ i. 1 + images i + extents i in
    let superblock : c.as_slice.result.now ≡ superblock_bytes g = search rules in
    let s = blank c.blocks-2.result c.args.time in
    let one : Stands c.fill.new.disk (record s { device = with_super g }) =
    filled-so {stride = 1} {count = 1} c.in_ok-fill.ensures.ok c.number-start.ensures refl refl superblock c.in_ok-disk.ensures.blank in
    let two : Stands c.fill-2.new.disk (record s { device = with_leases g }) =
    filled-so c.in_ok-fill-2.ensures.ok c.number-first_lease.ensures refl leases c.free_lease.ensures one in
    let three : Stands c.fill-3.new.disk (record s { device = with_records g }) =
    filled-so c.in_ok-fill-3.ensures.ok c.number-first_record.ensures refl images c.free_record.ensures two in
    let four : Stands c.fill-4.new.disk (record s { device = with_maps g }) =
    filled-so c.in_ok-fill-4.ensures.ok c.number-first_map.ensures stride extents c.empty_map.ensures three in (
      with_maps g,
      with-maps-is g,
      record {
        blocks = four.blocks ∙ c.blocks-2.ensures.same;
        device = four.device;
        writes = four.writes;
        time = four.time;
      },
    )
