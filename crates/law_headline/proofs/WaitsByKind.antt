-- What a write waits on, by its kind: what holds of it while all claims on which it rests stand, beside those claims.
use Rattle.std.proofs.Common.{◌≡◌, ℕ, List, Bool, true, false, Some, slice_set}
use Rattle.std.specs.Prelude.{slice_get}
use Rattle.plx_base.specs.Sectors.{Device, put, with_landed_sector}
use Rattle.plx_base.specs.declared.write_kind.WriteKind.{WriteKind}
use Rattle.plx_base.specs.declared.write_kind.WriteKind.TheVariants as kind
use Rattle.plx_commands.specs.Replies.{is_in}
use Rattle.plx_disk.specs.Writes.{no_sectors}
use Rattle.plx_geom.specs.Geometry.{Geometry}
use Rattle.plx_rules.specs.Holds.{Hold}
use Rattle.law_lease.proofs.Frame.{SameUnder}
use Rattle.law_lease.proofs.Leased.{MayIssue}

-- a lease, a map, a record, a log and a journal wait on nothing but their claims; no kind of trees is asked for yet
abbrev pub WaitsOn : WriteKind → Geometry → Device → (block : ℕ) → (bytes : List ℕ) → (flags : List Bool) → Type 0
WaitsOn kind.Claim g device block bytes flags = Unit {0}
WaitsOn kind.Renew g device block bytes flags = Unit {0}
WaitsOn kind.Release g device block bytes flags = Unit {0}
WaitsOn kind.Take g device block bytes flags = Unit {0}
WaitsOn kind.Give g device block bytes flags = Unit {0}
WaitsOn kind.Sweep g device block bytes flags = Unit {0}
WaitsOn kind.Fresh g device block bytes flags = Unit {0}
WaitsOn kind.Link g device block bytes flags = Unit {0}
WaitsOn kind.Overwrite g device block bytes flags = Unit {0}
WaitsOn kind.Record g device block bytes flags = Unit {0}
WaitsOn kind.Log g device block bytes flags = Unit {0}
WaitsOn kind.JData g device block bytes flags = Unit {0}
WaitsOn kind.JCommit g device block bytes flags = Unit {0}

-- as it is asked
pub waits-asked : (k : WriteKind) (g : Geometry) (boot : ℕ) (holds : ℕ → Hold) (rests : List ℕ) (device : Device) (block : ℕ) (bytes : List ℕ) (guard : ℕ) →
    MayIssue g boot holds rests k block bytes guard → WaitsOn k g device block bytes no_sectors
waits-asked kind.Claim g boot holds rests device block bytes guard may = tt
waits-asked kind.Renew g boot holds rests device block bytes guard may = tt
waits-asked kind.Release g boot holds rests device block bytes guard may = tt
waits-asked kind.Take g boot holds rests device block bytes guard may = tt
waits-asked kind.Give g boot holds rests device block bytes guard may = tt
waits-asked kind.Sweep g boot holds rests device block bytes guard may = tt
waits-asked kind.Fresh g boot holds rests device block bytes guard may = tt
waits-asked kind.Link g boot holds rests device block bytes guard may = tt
waits-asked kind.Overwrite g boot holds rests device block bytes guard may = tt
waits-asked kind.Record g boot holds rests device block bytes guard may = tt
waits-asked kind.Log g boot holds rests device block bytes guard may = tt
waits-asked kind.JData g boot holds rests device block bytes guard may = tt
waits-asked kind.JCommit g boot holds rests device block bytes guard may = tt

-- as a sector of its own lands
pub waits-lands : (k : WriteKind) (g : Geometry) (device : Device) (block : ℕ) (bytes : List ℕ) (flags : List Bool) (sector : ℕ) → slice_get flags sector ≡ Some false →
    WaitsOn k g device block bytes flags → WaitsOn k g (put device block (with_landed_sector sector bytes (device block))) block bytes (slice_set flags sector true)
waits-lands kind.Claim g device block bytes flags sector missing waits = tt
waits-lands kind.Renew g device block bytes flags sector missing waits = tt
waits-lands kind.Release g device block bytes flags sector missing waits = tt
waits-lands kind.Take g device block bytes flags sector missing waits = tt
waits-lands kind.Give g device block bytes flags sector missing waits = tt
waits-lands kind.Sweep g device block bytes flags sector missing waits = tt
waits-lands kind.Fresh g device block bytes flags sector missing waits = tt
waits-lands kind.Link g device block bytes flags sector missing waits = tt
waits-lands kind.Overwrite g device block bytes flags sector missing waits = tt
waits-lands kind.Record g device block bytes flags sector missing waits = tt
waits-lands kind.Log g device block bytes flags sector missing waits = tt
waits-lands kind.JData g device block bytes flags sector missing waits = tt
waits-lands kind.JCommit g device block bytes flags sector missing waits = tt

-- as another's lands: what each of its leases covers is the same
pub waits-others : (k : WriteKind) (g : Geometry) (rests : List ℕ) (device other : Device) (block : ℕ) (bytes : List ℕ) (flags : List Bool) →
    ((lease : ℕ) → is_in lease rests ≡ true → SameUnder g lease device other) → WaitsOn k g device block bytes flags → WaitsOn k g other block bytes flags
waits-others kind.Claim g rests device other block bytes flags same waits = tt
waits-others kind.Renew g rests device other block bytes flags same waits = tt
waits-others kind.Release g rests device other block bytes flags same waits = tt
waits-others kind.Take g rests device other block bytes flags same waits = tt
waits-others kind.Give g rests device other block bytes flags same waits = tt
waits-others kind.Sweep g rests device other block bytes flags same waits = tt
waits-others kind.Fresh g rests device other block bytes flags same waits = tt
waits-others kind.Link g rests device other block bytes flags same waits = tt
waits-others kind.Overwrite g rests device other block bytes flags same waits = tt
waits-others kind.Record g rests device other block bytes flags same waits = tt
waits-others kind.Log g rests device other block bytes flags same waits = tt
waits-others kind.JData g rests device other block bytes flags same waits = tt
waits-others kind.JCommit g rests device other block bytes flags same waits = tt
