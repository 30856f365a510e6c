-- What holds of each lease in every world that events lead to.
use Rattle.std.proofs.Common.{◌≡◌, ◌≢◌, ℕ, ◌+◌, ◌^◌, ◌≤◌, ◌<◌, ◌⊎◌, List, [], ◌∷◌, Bool, true, false, Option, Some, None, length}
use Rattle.std.specs.Prelude.{slice_get, ◌==◌}
use Rattle.plx_base.specs.Sectors.{Device}
use Rattle.plx_base.specs.declared.lease.Claim.{Claim}
use Rattle.plx_base.specs.declared.lease.LeaseRecord.{LeaseRecord}
use Rattle.plx_base.specs.declared.lease.LeaseRecord.TheVariants.{Free, Claimed}
use Rattle.plx_base.specs.declared.write_kind.WriteKind.{WriteKind}
use Rattle.plx_base.specs.declared.write_kind.WriteKind.TheVariants as kind
use Rattle.plx_disk.specs.Writes.{Issued, all_sectors}
use Rattle.plx_disk.specs.declared.ask.Ask.TheVariants as ask
use Rattle.plx_disk.specs.declared.ask.Answer.TheVariants as answer
use Rattle.plx_rules.specs.Process.{Process, Ends, ReadThen, WriteThen, ClockThen, UntilThen}
use Rattle.plx_rules.specs.Boot.{Place, Idle, Begins, In, Configuration, configuration}
use Rattle.plx_rules.specs.Claims.{claim_of}
use Rattle.plx_rules.specs.Commands.{IsWellFormed}
use Rattle.plx_rules.specs.Rests.{AreWithin, IsUnder, extents_of, rests_on}
use Rattle.plx_commands.specs.Replies.{is_in}
use Rattle.plx_commands.specs.declared.command.Command.{Command}
use Rattle.plx_geom.specs.Geometry.{Geometry, IsGeometry, IsPoolBlock, lease_count, root_lease, image_lease, extent_lease, map_at, record_at, lease_at, descriptor_at, data_at}
use Rattle.plx_rules.specs.Hands.{filled_done, filled_held}
use Rattle.plx_rules.specs.Holds.{Hold, Nothing, Seen, Wrote, Waited, Held, no_holds, after_answer, after_write, hold_after_renewal, hold_after_reading}
use Rattle.plx_gate.specs.Leases.{lease_bytes, read_lease, IsLease, IsClaimed}
use Rattle.plx_rules.specs.Owners.{first_landed, pending_write}
use Rattle.plx_rules.specs.Settings.{boot_number}
use Rattle.plx_rules.specs.Times.{window, term}
use Rattle.plx_rules.specs.World.{World, Seat, setting_at}

-- a write is where its kind may be, and rests on these leases, its home first
abbrev pub IsPlaced : Geometry → WriteKind → ℕ → List ℕ → (rests : List ℕ) → Type 0
IsPlaced g kind.Claim block bytes rests =
    (lease : ℕ) × (lease < lease_count g) × (block ≡ lease_at lease) × ((r : LeaseRecord) × (bytes ≡ lease_bytes r)) × (rests ≡ [])
IsPlaced g kind.Renew block bytes rests =
    (lease : ℕ) × (lease < lease_count g) × (block ≡ lease_at lease) × ((r : LeaseRecord) × (bytes ≡ lease_bytes r)) × (rests ≡ lease ∷ [])
IsPlaced g kind.Release block bytes rests =
    (lease : ℕ) × (lease < lease_count g) × (block ≡ lease_at lease) × ((r : LeaseRecord) × (bytes ≡ lease_bytes r)) × (rests ≡ lease ∷ [])
IsPlaced g kind.Take block bytes rests = (extent : ℕ) × (extent < g.extents) × (block ≡ map_at g extent) × (rests ≡ extent_lease g extent ∷ [])
IsPlaced g kind.Give block bytes rests = (extent : ℕ) × (extent < g.extents) × (block ≡ map_at g extent) × (rests ≡ extent_lease g extent ∷ [])
IsPlaced g kind.Sweep block bytes rests = (extent : ℕ) × (extent < g.extents) × (block ≡ map_at g extent) × (rests ≡ extent_lease g extent ∷ root_lease ∷ [])
IsPlaced g kind.Fresh block bytes rests = (extent : ℕ) × (bit : ℕ) × IsPoolBlock g extent bit block × (rests ≡ extent_lease g extent ∷ [])
IsPlaced g kind.Link block bytes rests =
    (image : ℕ) × (image < g.images) × ((extent : ℕ) × (bit : ℕ) × IsPoolBlock g extent bit block) × ((named : List ℕ) × AreWithin g named × (rests ≡ image_lease image ∷ extents_of g named))
IsPlaced g kind.Overwrite block bytes rests =
    (image : ℕ) × (image < g.images) × ((extent : ℕ) × (bit : ℕ) × IsPoolBlock g extent bit block) × (rests ≡ image_lease image ∷ [])
IsPlaced g kind.Record block bytes rests =
    (image : ℕ) × (image < g.images) × (block ≡ record_at g image) × ((named : List ℕ) × AreWithin g named × (rests ≡ image_lease image ∷ extents_of g named))
IsPlaced g kind.JData block bytes rests =
    (image : ℕ) × (slot : ℕ) × (image < g.images) × (slot < g.slots) × (block ≡ data_at g image slot) × (rests ≡ image_lease image ∷ [])
IsPlaced g kind.JCommit block bytes rests =
    (image : ℕ) × (slot : ℕ) × (image < g.images) × (slot < g.slots) × (block ≡ descriptor_at g image slot) × (rests ≡ image_lease image ∷ [])
IsPlaced g kind.Log block bytes rests = ⊥

-- ---- what a boot may ask, by what it holds

-- a claim of a lease that was seen to be free or expired
pub record MayClaim (g : Geometry) (boot : ℕ) (holds : ℕ → Hold) (rests : List ℕ) (block : ℕ) (bytes : List ℕ) (guard : ℕ) : Type 0 where
  pub lease : ℕ
  pub number : ℕ
  pub sample : ℕ
  pub within : lease < lease_count g
  pub at_lease : block ≡ lease_at lease
  pub alone : rests ≡ []
  pub hold : holds (lease_at lease) ≡ Seen sample
  pub spells : bytes ≡ lease_bytes (Claimed (claim_of boot number sample) (sample + term))
  pub few : number < 2 ^ 40
  pub early : sample < 2 ^ 48
  pub guarded : guard ≡ sample + window

-- a renewal of a lease that is held
pub record MayRenew (g : Geometry) (holds : ℕ → Hold) (rests : List ℕ) (block : ℕ) (bytes : List ℕ) (guard : ℕ) : Type 0 where
  pub lease : ℕ
  pub claim : Claim
  pub until : ℕ
  pub next : ℕ
  pub within : lease < lease_count g
  pub at_lease : block ≡ lease_at lease
  pub alone : rests ≡ lease ∷ []
  pub hold : holds (lease_at lease) ≡ Held claim until
  pub spells : bytes ≡ lease_bytes (Claimed claim next)
  pub later : until ≤ next
  pub early : until < 2 ^ 49 → next < 2 ^ 49
  pub guarded : guard ≡ until

-- a release of a lease that is held
pub record MayRelease (g : Geometry) (holds : ℕ → Hold) (rests : List ℕ) (block : ℕ) (bytes : List ℕ) (guard : ℕ) : Type 0 where
  pub lease : ℕ
  pub claim : Claim
  pub until : ℕ
  pub within : lease < lease_count g
  pub at_lease : block ≡ lease_at lease
  pub alone : rests ≡ lease ∷ []
  pub hold : holds (lease_at lease) ≡ Held claim until
  pub spells : bytes ≡ lease_bytes Free
  pub guarded : guard ≡ until

-- a write of any other kind: each lease on which it rests is held, and its guard is not above the end of any
pub record IsGranted (holds : ℕ → Hold) (lease guard : ℕ) : Type 0 where
  pub claim : Claim
  pub until : ℕ
  pub hold : holds (lease_at lease) ≡ Held claim until
  pub guarded : guard ≤ until

-- such a write is where its kind may be
pub record MayUse (g : Geometry) (holds : ℕ → Hold) (rests : List ℕ) (kind : WriteKind) (block : ℕ) (bytes : List ℕ) (guard : ℕ) : Type 0 where
  pub placed : IsPlaced g kind block bytes rests
  pub grants : (lease : ℕ) → is_in lease rests ≡ true → IsGranted holds lease guard

-- a write that rests on these leases is allowed, by its kind
abbrev pub MayIssue : Geometry → ℕ → (ℕ → Hold) → (rests : List ℕ) → WriteKind → ℕ → List ℕ → ℕ → Type 0
MayIssue g boot holds rests kind.Claim block bytes guard = MayClaim g boot holds rests block bytes guard
MayIssue g boot holds rests kind.Renew block bytes guard = MayRenew g holds rests block bytes guard
MayIssue g boot holds rests kind.Release block bytes guard = MayRelease g holds rests block bytes guard
MayIssue g boot holds rests kind.Take block bytes guard = MayUse g holds rests kind.Take block bytes guard
MayIssue g boot holds rests kind.Give block bytes guard = MayUse g holds rests kind.Give block bytes guard
MayIssue g boot holds rests kind.Sweep block bytes guard = MayUse g holds rests kind.Sweep block bytes guard
MayIssue g boot holds rests kind.Fresh block bytes guard = MayUse g holds rests kind.Fresh block bytes guard
MayIssue g boot holds rests kind.Record block bytes guard = MayUse g holds rests kind.Record block bytes guard
MayIssue g boot holds rests kind.JData block bytes guard = MayUse g holds rests kind.JData block bytes guard
MayIssue g boot holds rests kind.JCommit block bytes guard = MayUse g holds rests kind.JCommit block bytes guard
MayIssue g boot holds rests kind.Link block bytes guard = ⊥
MayIssue g boot holds rests kind.Overwrite block bytes guard = ⊥
MayIssue g boot holds rests kind.Log block bytes guard = ⊥

-- however a rest of a command is answered, each write that it asks is allowed and is a block; `At` holds at each end, of what is held and was filled there
abbrev pub Lawful : {E : Type 0} → (At : E → (ℕ → Hold) → List (ℕ × List ℕ) → Option ℕ → Type 0) → Geometry → ℕ → Command → (ℕ → Hold) →
    (filled : List (ℕ × List ℕ)) → Option ℕ → Process E → Type 0
Lawful At g boot command holds filled sample (Ends end) = At end holds filled sample
Lawful At g boot command holds filled sample (ReadThen block rest fault) =
    ((bytes : List ℕ) → Lawful At g boot command (after_answer sample (ask.Read (record { 0 = block })) [] (answer.Bytes bytes) holds)
    (filled_held g (after_answer sample (ask.Read (record { 0 = block })) [] (answer.Bytes bytes) holds) filled) None (rest bytes))
    × Lawful At g boot command holds (filled_held g holds filled) None fault
Lawful At g boot command holds filled sample (WriteThen kind block bytes guard done fault missed) =
    MayIssue g boot holds (rests_on g command holds filled kind block bytes) kind block bytes guard
    × Lawful At g boot command (after_write kind block bytes holds) (filled_held g (after_write kind block bytes holds) (filled_done kind block bytes filled)) None done
    × Lawful At g boot command no_holds (filled_held g no_holds filled) None fault
    × ((reading : ℕ) → Lawful At g boot command no_holds (filled_held g no_holds filled) None (missed reading)) × (length bytes ≡ 4096)
Lawful At g boot command holds filled sample (ClockThen rest) =
    (reading : ℕ) → reading < 2 ^ 48 →
    Lawful At g boot command (λ block. hold_after_reading reading (holds block)) (filled_held g (λ block. hold_after_reading reading (holds block)) filled) (Some reading) (rest reading)
Lawful At g boot command holds filled sample (UntilThen from rest) =
    (reading : ℕ) → from ≤ reading → reading < 2 ^ 48 →
    Lawful At g boot command (λ block. hold_after_reading reading (holds block)) (filled_held g (λ block. hold_after_reading reading (holds block)) filled) (Some reading) (rest reading)

-- the same, where nothing is asked of the ends
abbrev pub LawfulRest : {E : Type 0} → Geometry → ℕ → Command → (ℕ → Hold) → (filled : List (ℕ × List ℕ)) → Option ℕ → Process E → Type 0
LawfulRest g boot command holds filled sample process = Lawful (λ end held fresh last. Unit {0}) g boot command holds filled sample process

-- the place of a boot
abbrev pub LawfulAt : Geometry → ℕ → (ℕ → Hold) → (filled : List (ℕ × List ℕ)) → Option ℕ → Place → Type 0
LawfulAt g boot holds filled sample (Idle known) = Unit {0}
LawfulAt g boot holds filled sample (Begins known command) = IsWellFormed command
LawfulAt g boot holds filled sample (In known command process) = LawfulRest g boot command holds filled sample process

-- ---- the writes that may still change something under a lease

-- the write may still change something: of a renewal and a release the first sector alone does
abbrev pub Unlanded : WriteKind → List Bool → Type 0
Unlanded kind.Renew landed = slice_get landed 0 ≡ Some false
Unlanded kind.Release landed = slice_get landed 0 ≡ Some false
Unlanded other landed = landed ≢ all_sectors

-- a live write: it rests on the lease, may still change something, and isn't too late to land
pub record IsLiveWrite (rests : ℕ → List ℕ) (time : ℕ) (writes : List Issued) (lease number : ℕ) (write : Issued) : Type 0 where
  pub found : slice_get writes number ≡ Some write
  pub needs : IsUnder rests number lease
  pub missing : Unlanded write.kind write.landed
  pub live : time ≤ write.guard + 50

-- no write is live
abbrev pub NoneLive : (rests : ℕ → List ℕ) → ℕ → List Issued → ℕ → Type 0
NoneLive rests time writes lease = (number : ℕ) (write : Issued) → IsLiveWrite rests time writes lease number write → ⊥

-- only the write that a boot waits for is live
abbrev pub LiveOnly : (rests : ℕ → List ℕ) → ℕ → List Issued → ℕ → Option ℕ → Type 0
LiveOnly rests time writes lease pending = (number : ℕ) (write : Issued) → IsLiveWrite rests time writes lease number write → pending ≡ Some number

-- what the record says where a live write stands
abbrev pub IsOfKind : WriteKind → Claim → ℕ → ℕ → List ℕ → Type 0
IsOfKind kind.Renew claim until guard bytes = (guard ≡ until) × ((next : ℕ) × (bytes ≡ lease_bytes (Claimed claim next)) × (until ≤ next) × IsClaimed claim next)
IsOfKind kind.Release claim until guard bytes = (guard ≡ until) × (bytes ≡ lease_bytes Free)
IsOfKind other claim until guard bytes = Unit {0}

-- the record on the device is a claim of the write's owner, which has waited and doesn't end before the guard
pub record IsBacked (time : ℕ) (standing : LeaseRecord) (write : Issued) : Type 0 where
  pub claim : Claim
  pub until : ℕ
  pub there : standing ≡ Claimed claim until
  pub owner : claim.boot.0 ≡ write.owner
  pub guarded : write.guard ≤ until
  pub waited : claim.sample + 551 ≤ time
  pub of_kind : IsOfKind write.kind claim until write.guard write.bytes

-- ---- claims

-- a claim with this sample, if it lands now, takes no confirmed and unexpired lease away
abbrev pub SparesLease : LeaseRecord → ℕ → Type 0
SparesLease Free sample = Unit {0}
SparesLease (Claimed claim until) sample = (until + 100 < sample) ⊎ (sample ≤ claim.sample + 300)

-- a claim with this sample may still be written, or land
pub record Waits (time : ℕ) (standing : LeaseRecord) (sample : ℕ) : Type 0 where
  pub sampled : sample ≤ time + 50
  pub clear : SparesLease standing sample

-- a write that is a claim
pub record IsClaimWrite (time : ℕ) (standing : LeaseRecord) (write : Issued) : Type 0 where
  pub claim : Claim
  pub spells : write.bytes ≡ lease_bytes (Claimed claim (claim.sample + term))
  pub limits : IsClaimed claim (claim.sample + term)
  pub owner : claim.boot.0 ≡ write.owner
  pub guarded : write.guard ≡ claim.sample + window
  pub waits : slice_get write.landed 0 ≡ Some false → time ≤ write.guard + 50 → Waits time standing claim.sample

-- ---- what a boot holds

-- a record of the boot's own claim stands before nothing rests on it
abbrev pub Mine : (rests : ℕ → List ℕ) → ℕ → List Issued → ℕ → LeaseRecord → ℕ → ℕ → Type 0
Mine rests time writes lease standing boot sample =
    (claim : Claim) (until : ℕ) → standing ≡ Claimed claim until → claim.boot.0 ≡ boot → claim.sample ≡ sample → NoneLive rests time writes lease

-- a lease was seen to be free or expired
pub record IsSeen (rests : ℕ → List ℕ) (time : ℕ) (writes : List Issued) (lease : ℕ) (standing : LeaseRecord) (boot sample : ℕ) : Type 0 where
  pub waits : Waits time standing sample
  pub mine : Mine rests time writes lease standing boot sample

-- a claim was written
pub record IsWritten (rests : ℕ → List ℕ) (time : ℕ) (writes : List Issued) (lease : ℕ) (standing : LeaseRecord) (boot : ℕ) (claim : Claim) (until : ℕ) : Type 0 where
  pub own : claim.boot.0 ≡ boot
  pub ends : until ≡ claim.sample + term
  pub limits : IsClaimed claim until
  pub mine : Mine rests time writes lease standing boot claim.sample

-- a confirmed lease's record stands on the device until it has run out, and nothing rests on it but what its boot waits for
pub record StandsConfirmed (rests : ℕ → List ℕ) (time : ℕ) (writes : List Issued) (lease : ℕ) (standing : LeaseRecord) (boot : ℕ) (pending : Option ℕ) (claim : Claim) (until : ℕ) : Type 0 where
  pub own : claim.boot.0 ≡ boot
  pub limits : IsClaimed claim until
  pub waited : claim.sample + 551 ≤ time
  pub there : time ≤ until + 50 → standing ≡ Claimed claim until
  pub only : time ≤ until + 50 → LiveOnly rests time writes lease pending

-- what a boot holds is right
abbrev pub Good : (rests : ℕ → List ℕ) → ℕ → List Issued → ℕ → LeaseRecord → ℕ → Option ℕ → Hold → Type 0
Good rests time writes lease standing boot pending Nothing = Unit {0}
Good rests time writes lease standing boot pending (Seen sample) = IsSeen rests time writes lease standing boot sample
Good rests time writes lease standing boot pending (Wrote claim until) = IsWritten rests time writes lease standing boot claim until
Good rests time writes lease standing boot pending (Waited claim until) = IsWritten rests time writes lease standing boot claim until × (claim.sample + 551 ≤ time)
Good rests time writes lease standing boot pending (Held claim until) = StandsConfirmed rests time writes lease standing boot pending claim until

-- what a boot holds while a write of it is asked, once its first sector has landed
abbrev pub grip_while : WriteKind → Bool → Bool → List ℕ → Hold → Hold
grip_while kind.Release true true bytes hold = Nothing
grip_while kind.Renew true true bytes hold = hold_after_renewal (read_lease bytes)
grip_while kind same landed bytes hold = hold

-- the same, at its place
abbrev pub grip_at : Place → Option Issued → ℕ → Hold → Hold
grip_at (In known command (WriteThen kind block bytes guard done fault missed)) pending lease hold =
    grip_while kind (lease == block) (first_landed pending) bytes hold
grip_at other pending lease hold = hold

-- what an appliance's present boot holds of a lease is right
abbrev pub GoodAt : (rests : ℕ → List ℕ) → ℕ → List Issued → ℕ → LeaseRecord → ℕ → Option ℕ → Configuration → Type 0
GoodAt rests time writes lease standing boot pending p =
    Good rests time writes lease standing boot pending (grip_at p.place (pending_write writes pending) (lease_at lease) (p.holds (lease_at lease)))

-- the same, of an appliance
abbrev pub GoodSeat : Geometry → (rests : ℕ → List ℕ) → ℕ → List Issued → ℕ → LeaseRecord → ℕ → Seat → Type 0
GoodSeat g rests time writes lease standing appliance seat =
    GoodAt rests time writes lease standing (boot_number appliance seat.boots) seat.pending (configuration (setting_at g appliance seat.boots) seat.log)

-- all that holds of one lease
pub record LeaseOn (g : Geometry) (rests : ℕ → List ℕ) (appliances time : ℕ) (device : Device) (writes : List Issued) (seats : ℕ → Seat) (lease : ℕ) : Type 0 where
  pub standing : LeaseRecord
  pub limits : IsLease standing
  pub spells : device (lease_at lease) ≡ lease_bytes standing
  pub alone : (m n : ℕ) (x y : Issued) → IsLiveWrite rests time writes lease m x → IsLiveWrite rests time writes lease n y → m ≡ n
  pub backed : (n : ℕ) (x : Issued) → IsLiveWrite rests time writes lease n x → IsBacked time standing x
  pub claims : (n : ℕ) (x : Issued) → slice_get writes n ≡ Some x → x.kind ≡ kind.Claim → x.block ≡ lease_at lease → IsClaimWrite time standing x
  pub each : (a : ℕ) → a < appliances → GoodSeat g rests time writes lease standing a (seats a)

-- ---- what holds of each write and each boot

-- an issued write that rests on these leases
pub record IsRight (g : Geometry) (rests : List ℕ) (write : Issued) : Type 0 where
  pub placed : IsPlaced g write.kind write.block write.bytes rests
  pub flags : length write.landed ≡ 8
  pub long : length write.bytes ≡ 4096
  pub uncancelled : write.cancelled ≡ false

-- the write that is waited for is the one that is asked
abbrev pub IsAskedAt : Place → ℕ → Issued → Type 0
IsAskedAt (In known command (WriteThen kind block bytes guard done fault missed)) boot write =
    (write.kind ≡ kind) × (write.block ≡ block) × (write.bytes ≡ bytes) × (write.guard ≡ guard) × (write.owner ≡ boot)
IsAskedAt other boot write = ⊥

-- an appliance
pub record IsLawfulSeat (g : Geometry) (time : ℕ) (writes : List Issued) (appliance : ℕ) (seat : Seat) : Type 0 where
  pub boots : seat.boots < 2 ^ 32
  pub lawful : LawfulAt g (boot_number appliance seat.boots) (configuration (setting_at g appliance seat.boots) seat.log).holds
      (configuration (setting_at g appliance seat.boots) seat.log).filled (configuration (setting_at g appliance seat.boots) seat.log).sample (configuration (setting_at g appliance seat.boots) seat.log).place
  pub sampled : (sample : ℕ) → (configuration (setting_at g appliance seat.boots) seat.log).sample ≡ Some sample → sample ≤ time + 50
  pub asked : (number : ℕ) → seat.pending ≡ Some number →
      (write : Issued) × (slice_get writes number ≡ Some write) × IsAskedAt (configuration (setting_at g appliance seat.boots) seat.log).place (boot_number appliance seat.boots) write

-- all that holds of a world
pub record Leased (w : World) : Type 0 where
  pub geometry : IsGeometry w.geometry
  pub few : w.appliances ≤ 8
  pub early : w.surface.time < 2 ^ 47
  pub long : (block : ℕ) → length (w.surface.device block) ≡ 4096
  pub right : (n : ℕ) (x : Issued) → slice_get w.surface.writes n ≡ Some x → IsRight w.geometry (w.rests n) x
  pub seated : (a : ℕ) → a < w.appliances → IsLawfulSeat w.geometry w.surface.time w.surface.writes a (w.seats a)
  pub on : (lease : ℕ) → lease < lease_count w.geometry → LeaseOn w.geometry w.rests w.appliances w.surface.time w.surface.device w.surface.writes w.seats lease
