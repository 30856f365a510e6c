-- Blocks that spell maps: they are read back, spell maps where bits are set or cleared, and no other kind of write is written there.
use Rattle.std.proofs.Common.{◌≡◌, ℕ, ◌≤◌, List, ◌∷◌, replicate, Bool, false, Some, refl, sym, ◌∙◌}
use Rattle.plx_base.proofs.Spelling.{read-some}
use Rattle.plx_base.specs.declared.write_kind.WriteKind.{WriteKind}
use Rattle.plx_base.specs.declared.write_kind.WriteKind.TheVariants as kind
use Rattle.plx_commands.specs.Replies.{is_in}
use Rattle.plx_extent.proofs.EmptyMaps.{is_map-empty, map_bytes-empty}
use Rattle.plx_extent.proofs.Maps.{holds-map}
use Rattle.plx_extent.specs.Maps.{IsMap, HoldsMap, bits_of, map_bytes, empty_bits}
use Rattle.plx_geom.proofs.Places.{lease-map, record-map, map-data, map-descriptor, map-pool}
use Rattle.plx_geom.specs.Geometry.{Geometry, map_at}
use Rattle.plx_rules.specs.Formatted.{empty_map}
use Rattle.plx_rules.specs.Space.{is_own_set, read_map, with_set, with_clear}
use Rattle.law_lease.proofs.Leased.{IsPlaced}
use Rattle.plx_rules.proofs.Maps.{own-set, set-is-map, clear-is-map}

-- ---- a block that spells a map

-- it is read
pub map-read : (blocks : ℕ) (bytes : List ℕ) → HoldsMap blocks bytes → read_map blocks bytes ≡ Some (bits_of blocks bytes)
unfolding read_map
map-read blocks bytes holds = let is = holds.is in read-some is_own_set map_bytes (bits_of blocks bytes) bytes (own-set (bits_of blocks bytes) is.own) holds.spelled

-- that of an extent of which no block is taken
pub map-empty : (blocks : ℕ) → 1 ≤ blocks → blocks ≤ 32768 → HoldsMap blocks empty_map
unfolding empty_map
map-empty blocks some most = holds-map blocks (empty_bits blocks) (1 ∷ replicate 4095 0) most (is_map-empty blocks some) (sym (map_bytes-empty blocks some))

-- ---- bits of a map are set, or cleared

pub set-spelled : (size : ℕ) (blocks : List ℕ) (block : ℕ) (bits : List Bool) → size ≤ 32768 → IsMap size bits → HoldsMap size (map_bytes (with_set blocks block bits))
set-spelled size blocks block bits most is =
    holds-map size (with_set blocks block bits) (map_bytes (with_set blocks block bits)) most (set-is-map size blocks block bits is) refl

-- none but the map's own
pub clear-spelled : (size : ℕ) (blocks : List ℕ) (block : ℕ) (bits : List Bool) → size ≤ 32768 → is_in block blocks ≡ false → IsMap size bits → HoldsMap size (map_bytes (with_clear blocks block bits))
clear-spelled size blocks block bits most out is =
    holds-map size (with_clear blocks block bits) (map_bytes (with_clear blocks block bits)) most (clear-is-map size blocks block bits out is) refl

-- ---- writes of maps

-- what is written in a map's block spells a map, by kind
abbrev pub IsMapSpelled : Geometry → WriteKind → (bytes : List ℕ) → Type 0
IsMapSpelled g kind.Claim bytes = Unit {0}
IsMapSpelled g kind.Renew bytes = Unit {0}
IsMapSpelled g kind.Release bytes = Unit {0}
IsMapSpelled g kind.Take bytes = HoldsMap g.extent_blocks bytes
IsMapSpelled g kind.Give bytes = HoldsMap g.extent_blocks bytes
IsMapSpelled g kind.Sweep bytes = HoldsMap g.extent_blocks bytes
IsMapSpelled g kind.Fresh bytes = Unit {0}
IsMapSpelled g kind.Link bytes = Unit {0}
IsMapSpelled g kind.Overwrite bytes = Unit {0}
IsMapSpelled g kind.Record bytes = Unit {0}
IsMapSpelled g kind.Log bytes = Unit {0}
IsMapSpelled g kind.JData bytes = Unit {0}
IsMapSpelled g kind.JCommit bytes = Unit {0}

-- no other kind is written there
pub map-write : (g : Geometry) (extent : ℕ) (k : WriteKind) (block : ℕ) (bytes rests : List ℕ) → IsPlaced g k block bytes rests → map_at g extent ≡ block → IsMapSpelled g k bytes → HoldsMap g.extent_blocks bytes
map-write g extent kind.Claim block bytes rests placed here spells = absurd (lease-map g placed.0 extent placed.1 (sym (here ∙ placed.2)))
map-write g extent kind.Renew block bytes rests placed here spells = absurd (lease-map g placed.0 extent placed.1 (sym (here ∙ placed.2)))
map-write g extent kind.Release block bytes rests placed here spells = absurd (lease-map g placed.0 extent placed.1 (sym (here ∙ placed.2)))
map-write g extent kind.Take block bytes rests placed here spells = spells
map-write g extent kind.Give block bytes rests placed here spells = spells
map-write g extent kind.Sweep block bytes rests placed here spells = spells
map-write g extent kind.Fresh block bytes rests placed here spells = absurd (map-pool g extent placed.0 placed.1 placed.2.bit_low placed.2.bit_high (here ∙ placed.2.here))
map-write g extent kind.Link block bytes rests placed here spells = absurd (map-pool g extent placed.2.0 placed.2.1 placed.2.2.bit_low placed.2.2.bit_high (here ∙ placed.2.2.here))
map-write g extent kind.Overwrite block bytes rests placed here spells = absurd (map-pool g extent placed.2.0 placed.2.1 placed.2.2.bit_low placed.2.2.bit_high (here ∙ placed.2.2.here))
map-write g extent kind.Record block bytes rests placed here spells = absurd (record-map g placed.0 extent placed.1 (sym (here ∙ placed.2)))
map-write g extent kind.JData block bytes rests placed here spells = absurd (map-data g extent placed.0 placed.1 placed.2 placed.3 (here ∙ placed.4))
map-write g extent kind.JCommit block bytes rests placed here spells = absurd (map-descriptor g extent placed.0 placed.1 placed.2 placed.3 (here ∙ placed.4))
map-write g extent other block bytes rests placed here spells = absurd placed
