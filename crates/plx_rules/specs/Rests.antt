-- On which leases a write rests: a list that is set as it is issued.
use Rattle.std.specs.Prelude.{◌≡◌, ◌<◌, ◌-◌, ◌/◌, ℕ, List, [], ◌∷◌, ◌++◌, map, true, Option, Some}
use Rattle.std.specs.Prelude.{None}
use Rattle.plx_base.specs.declared.write_kind.WriteKind.{WriteKind}
use Rattle.plx_base.specs.declared.write_kind.WriteKind.TheVariants as kind
use Rattle.plx_commands.specs.Replies.{is_in}
use Rattle.plx_commands.specs.Slots.{named_slots}
use Rattle.plx_commands.specs.declared.command.Command.{Command}
use Rattle.plx_geom.specs.Geometry.{Geometry, root_lease, image_lease, extent_lease, lease_at}
use Rattle.plx_geom.specs.Geometry.{record_at, log_at, journal_start, extents_start}
use Rattle.plx_rules.specs.Holds.{Hold}

-- the lease in this block
abbrev pub lease_in : (block : ℕ) → ℕ
lease_in block = block - lease_at 0

-- the image whose record this block is
abbrev pub image_of_record : Geometry → (block : ℕ) → ℕ
image_of_record g block = block - record_at g 0

-- the image whose snapshot log this block is
abbrev pub image_of_log : Geometry → (block : ℕ) → ℕ
image_of_log g block = block - log_at g 0

-- the image of whose journal this block is
abbrev pub image_of_journal : Geometry → (block : ℕ) → ℕ
image_of_journal g block = (block - journal_start g) / 2 / g.slots

-- the extent in which this block lies
abbrev pub extent_of : Geometry → (block : ℕ) → ℕ
extent_of g block = (block - extents_start g) / g.extent_blocks

-- the leases of the extents of these blocks
abbrev pub extents_of : Geometry → (blocks : List ℕ) → List ℕ
extents_of g [] = []
extents_of g (block ∷ blocks) = extent_lease g (extent_of g block) ∷ extents_of g blocks

-- blocks lie in extents that there are
abbrev pub AreWithin : Geometry → (blocks : List ℕ) → Type 0
AreWithin g [] = Unit {0}
AreWithin g (block ∷ blocks) = (extent_of g block < g.extents) × AreWithin g blocks

-- the blocks that were filled, each with its bytes
abbrev pub filled_blocks : List (ℕ × List ℕ) → List ℕ
filled_blocks filled = map (λ one. one.0) filled

-- the leases of the images that a command names
abbrev pub leases_named : Command → List ℕ
leases_named command = map image_lease (named_slots command)

-- the leases on which a write of this command rests, by what its boot holds and has filled since
-- its last link as it is issued: its home, under which its own block lies, stands first; a claim
-- rests on none
abbrev pub rests_on : Geometry → Command → (ℕ → Hold) → (filled : List (ℕ × List ℕ)) →
    WriteKind → (block : ℕ) → List ℕ → List ℕ
rests_on g command holds filled kind.Claim block bytes = []
rests_on g command holds filled kind.Renew block bytes = lease_in block ∷ []
rests_on g command holds filled kind.Release block bytes = lease_in block ∷ []
rests_on g command holds filled kind.Take block bytes = extent_lease g (extent_of g block) ∷ []
rests_on g command holds filled kind.Give block bytes = extent_lease g (extent_of g block) ∷ []
rests_on g command holds filled kind.Sweep block bytes =
    extent_lease g (extent_of g block) ∷ root_lease ∷ []
rests_on g command holds filled kind.Fresh block bytes = extent_lease g (extent_of g block) ∷ []
rests_on g command holds filled kind.Link block bytes =
    leases_named command ++ extents_of g (filled_blocks filled)
rests_on g command holds filled kind.Overwrite block bytes = leases_named command
rests_on g command holds filled kind.Record block bytes =
    image_lease (image_of_record g block) ∷ extents_of g (filled_blocks filled)
rests_on g command holds filled kind.Log block bytes = image_lease (image_of_log g block) ∷ []
rests_on g command holds filled kind.JData block bytes = image_lease (image_of_journal g block) ∷ []
rests_on g command holds filled kind.JCommit block bytes =
    image_lease (image_of_journal g block) ∷ []

-- the issued write with this number stands under a lease: it rests on it
abbrev pub IsUnder : (rests : ℕ → List ℕ) → (number lease : ℕ) → Type 0
IsUnder rests number lease = is_in lease (rests number) ≡ true

-- the home of a write: the lease under which its own block lies, where it lies under one
abbrev pub home_of : List ℕ → Option ℕ
home_of [] = None
home_of (home ∷ others) = Some home
