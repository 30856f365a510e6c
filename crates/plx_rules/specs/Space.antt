-- Fresh blocks are taken, and given back.
use Rattle.std.specs.Prelude.{◌+◌, ◌-◌, ℕ, zero, suc, List, [], ◌∷◌, ◌++◌, length, take, filter}
use Rattle.std.specs.Prelude.{Bool, true, false, not, ◌&&◌, ◌||◌, ◌==◌, Option, Some, None, nat_lt}
use Rattle.std.specs.Prelude.{nat_le, if◌then◌else◌}
use Rattle.plx_base.specs.Spelling.{read_by}
use Rattle.plx_base.specs.declared.lease.LeaseRecord.{LeaseRecord}
use Rattle.plx_base.specs.declared.lease.LeaseRecord.TheVariants as record_is
use Rattle.plx_base.specs.declared.write_kind.WriteKind.TheVariants as kind
use Rattle.plx_commands.specs.Limits.{last_claim}
use Rattle.plx_commands.specs.Replies.{is_in}
use Rattle.plx_commands.specs.declared.reply.Reply.TheVariants as reply
use Rattle.plx_extent.specs.Maps.{bits_of, map_bytes}
use Rattle.plx_gate.specs.Leases.{lease_bytes}
use Rattle.plx_geom.specs.Geometry.{Geometry, root_lease, image_lease, extent_lease, lease_at}
use Rattle.plx_geom.specs.Geometry.{map_at}
use Rattle.plx_rules.specs.Process.{Process}
use Rattle.plx_rules.specs.Claims.{ClaimEnd, ClaimHeld, ClaimBusy, ClaimLost, ClaimReadFault}
use Rattle.plx_rules.specs.Claims.{ClaimWriteFault, ClaimDamaged, claim_process}
use Rattle.plx_rules.specs.Ends.{End, ends, lost_process, read_failed, write_failed, read_then}
use Rattle.plx_rules.specs.Ends.{write_then, damaged_process}
use Rattle.plx_rules.specs.Holds.{Hold, Held}
use Rattle.plx_rules.specs.InUse.{InUse, lease_name}
use Rattle.plx_rules.specs.Processes.{followed_by}
use Rattle.plx_rules.specs.Rests.{extent_of}
use Rattle.plx_rules.specs.Session.{Session, Known, with_claim}
use Rattle.plx_rules.specs.Settings.{Setting}

-- ---- maps

-- whether the bit of a map's own block is set
abbrev pub is_own_set : List Bool → Bool
is_own_set [] = false
is_own_set (own ∷ bits) = own

-- the map that a block spells, of an extent of so many blocks
unfoldable pub read_map : (blocks : ℕ) → List ℕ → Option (List Bool)
read_map blocks bytes = read_by is_own_set map_bytes (bits_of blocks bytes) bytes

-- from this block on, the blocks that can be taken: their bits are clear, and they aren't in hand
abbrev pub free_from : (hand : List ℕ) → (block : ℕ) → List Bool → List ℕ
free_from hand block [] = []
free_from hand block (bit ∷ bits) =
    if bit || is_in block hand
    then free_from hand (block + 1) bits
    else block ∷ free_from hand (block + 1) bits

-- bits from this block on, with those of these blocks set
abbrev pub with_set : (blocks : List ℕ) → (block : ℕ) → List Bool → List Bool
with_set blocks block [] = []
with_set blocks block (bit ∷ bits) = (bit || is_in block blocks) ∷ with_set blocks (block + 1) bits

-- bits from this block on, with those of these blocks clear
abbrev pub with_clear : (blocks : List ℕ) → (block : ℕ) → List Bool → List Bool
with_clear blocks block [] = []
with_clear blocks block (bit ∷ bits) =
    (bit && not (is_in block blocks)) ∷ with_clear blocks (block + 1) bits

-- ---- a take

-- how far a take has come: what is known, with the claims that it began; the leases in use, those
-- of its command and those that it claimed; what is in hand; and the first lease that was busy,
-- with the record that stood there
pub record Taking : Type 0 where
  pub known : Known
  pub uses : List InUse
  pub hand : List ℕ
  pub busy : Option (ℕ × LeaseRecord)

-- a take that begins, with the leases that its command has in use
abbrev pub first_taking : (uses : List InUse) → Known → (hand : List ℕ) → Taking
first_taking uses known hand = record { known = known; uses = uses; hand = hand; busy = None }

-- a take with more blocks in hand
abbrev pub with_taken : Taking → List ℕ → Taking
with_taken t blocks = record t { hand = t.hand ++ blocks }

-- a take that begins one more claim
abbrev pub with_claim_begun : Taking → Taking
with_claim_begun t = record t { known = with_claim t.known }

-- a take that has claimed one more lease
abbrev pub with_claimed : Taking → InUse → Taking
with_claimed t due = record t { uses = due ∷ t.uses }

-- the first lease that was busy stays
abbrev pub first_busy : Option (ℕ × LeaseRecord) →
    (lease : ℕ) → LeaseRecord → Option (ℕ × LeaseRecord)
first_busy None lease seen = Some (lease, seen)
first_busy (Some met) lease seen = Some met

-- a take that has met a busy lease
abbrev pub with_busy : Taking → (lease : ℕ) → LeaseRecord → Taking
with_busy t lease seen = record t { busy = first_busy t.busy lease seen }

-- the lease of an extent is in use
abbrev pub extent_use : Geometry → (extent until : ℕ) → InUse
extent_use g extent until = record { lease = extent_lease g extent; until = until }

-- a take goes on in an extent, or has enough in hand and goes on past it
abbrev pub if_needed : (count : ℕ) → (here rest : Taking → Process End) → Taking → Process End
if_needed count here rest t = if nat_le count (length t.hand) then rest t else here t

-- a map is written with the bits of these blocks set, if there are any, and they are in hand then
abbrev pub set_process : Setting → (extent until : ℕ) → List Bool →
    (blocks : List ℕ) → (rest : Taking → Process End) → Taking → Process End
set_process s extent until bits [] rest t = rest t
set_process s extent until bits (block ∷ blocks) rest t =
    write_then s t.known (extent_use s.geometry extent until) kind.Take (map_at s.geometry extent)
    (map_bytes (with_set (block ∷ blocks) (map_at s.geometry extent) bits))
    (rest (with_taken t (block ∷ blocks)))

-- the map of a held extent was read: as many of its
-- free blocks are taken as are needed, the lowest first
abbrev pub take_found : Setting → (count extent until : ℕ) →
    Option (List Bool) → (rest : Taking → Process End) → Taking → Process End
take_found s count extent until None rest t =
    damaged_process s t.known (extent_use s.geometry extent until ∷ t.uses)
    (map_at s.geometry extent)
take_found s count extent until (Some bits) rest t =
    set_process s extent until bits
    (take (count - length t.hand) (free_from t.hand (map_at s.geometry extent) bits)) rest t

-- blocks of an extent are taken whose lease is held until that moment
abbrev pub take_here : Setting → (count extent until : ℕ) →
    (rest : Taking → Process End) → Taking → Process End
take_here s count extent until rest t =
    read_then (map_at s.geometry extent) t.known
    (λ bytes. take_found s count extent until (read_map s.geometry.extent_blocks bytes) rest t)

-- blocks of an extent are taken if its lease is held
abbrev pub take_if_held : Setting → (count extent : ℕ) →
    Hold → (rest : Taking → Process End) → Taking → Process End
take_if_held s count extent (Held claim until) rest t = take_here s count extent until rest t
take_if_held s count extent other rest t = rest t

-- first, of the extents whose leases are held, ascending: of `left` extents from this one on
abbrev pub take_held : Setting → (count : ℕ) → (holds : ℕ → Hold) →
    (left extent : ℕ) → (rest : Taking → Process End) → Taking → Process End
take_held s count holds zero extent rest t = rest t
take_held s count holds (suc left) extent rest t =
    if_needed count
    (take_if_held s count extent (holds (lease_at (extent_lease s.geometry extent)))
    (take_held s count holds left (extent + 1) rest))
    (take_held s count holds left (extent + 1) rest) t

-- the claim of an extent's lease ended: one that was
-- busy is remembered, and the take goes on past it
abbrev pub after_extent_claim : Setting → (count extent : ℕ) →
    (rest : Taking → Process End) → Taking → ClaimEnd → Process End
after_extent_claim s count extent rest t (ClaimHeld claim until) =
    take_here s count extent until rest (with_claimed t (extent_use s.geometry extent until))
after_extent_claim s count extent rest t (ClaimBusy seen) =
    rest (with_busy t (extent_lease s.geometry extent) seen)
after_extent_claim s count extent rest t (ClaimLost due reading) =
    lost_process s t.known due reading
after_extent_claim s count extent rest t ClaimReadFault =
    read_failed (lease_at (extent_lease s.geometry extent)) t.known
after_extent_claim s count extent rest t ClaimWriteFault =
    write_failed (lease_at (extent_lease s.geometry extent)) t.known
after_extent_claim s count extent rest t ClaimDamaged =
    ends (reply.Damaged (record { 0 = lease_at (extent_lease s.geometry extent) })) t.known

-- the lease of an extent is claimed, unless the boot has no claim left
abbrev pub claim_extent : Bool → Setting → (count extent : ℕ) →
    (rest : Taking → Process End) → Taking → Process End
claim_extent false s count extent rest t = ends (reply.WornOut last_claim) t.known
claim_extent true s count extent rest t =
    followed_by (claim_process s.boot t.uses (extent_lease s.geometry extent) t.known.claims)
    (after_extent_claim s count extent rest (with_claim_begun t))

-- of an extent whose lease isn't held, a block is free: then the lease is claimed
abbrev pub claim_if_free : Setting → (count extent : ℕ) →
    (free : List ℕ) → (rest : Taking → Process End) → Taking → Process End
claim_if_free s count extent [] rest t = rest t
claim_if_free s count extent (block ∷ blocks) rest t =
    claim_extent (nat_lt t.known.claims last_claim) s count extent rest t

-- its map was read, under no lease of its own
abbrev pub other_found : Setting → (count extent : ℕ) →
    Option (List Bool) → (rest : Taking → Process End) → Taking → Process End
other_found s count extent None rest t = damaged_process s t.known t.uses (map_at s.geometry extent)
other_found s count extent (Some bits) rest t =
    claim_if_free s count extent (free_from t.hand (map_at s.geometry extent) bits) rest t

-- blocks of an extent are taken if its lease wasn't held as the take began
abbrev pub take_if_other : Setting → (count extent : ℕ) →
    Hold → (rest : Taking → Process End) → Taking → Process End
take_if_other s count extent (Held claim until) rest t = rest t
take_if_other s count extent other rest t =
    read_then (map_at s.geometry extent) t.known
    (λ bytes. other_found s count extent (read_map s.geometry.extent_blocks bytes) rest t)

-- then, of the other extents, ascending: of `left` extents from this one on
abbrev pub take_others : Setting → (count : ℕ) → (holds : ℕ → Hold) →
    (left extent : ℕ) → (rest : Taking → Process End) → Taking → Process End
take_others s count holds zero extent rest t = rest t
take_others s count holds (suc left) extent rest t =
    if_needed count
    (take_if_other s count extent (holds (lease_at (extent_lease s.geometry extent)))
    (take_others s count holds left (extent + 1) rest))
    (take_others s count holds left (extent + 1) rest) t

-- too few are in hand: an extent was busy, or all are full
abbrev pub shortage_process : Setting → Known → Option (ℕ × LeaseRecord) → Process End
shortage_process s known None = ends reply.Full known
shortage_process s known (Some met) = ends (reply.Busy (lease_name s.geometry met.0) met.1) known

-- a take is over: enough are in hand, or it is refused
abbrev pub taken_process : Setting → (count : ℕ) →
    (rest : Taking → Process End) → Taking → Process End
taken_process s count rest t =
    if nat_le count (length t.hand) then rest t else shortage_process s t.known t.busy

-- so many fresh blocks are to be in hand
abbrev pub take_process : Setting → (holds : ℕ → Hold) →
    (count : ℕ) → (rest : Taking → Process End) → Taking → Process End
take_process s holds count rest t =
    take_held s count holds s.geometry.extents 0
    (take_others s count holds s.geometry.extents 0 (taken_process s count rest)) t

-- a reserve
abbrev pub reserve_process : Setting → Known →
    (holds : ℕ → Hold) → (hand : List ℕ) → (count : ℕ) → Process End
reserve_process s known holds hand count =
    take_process s holds count (λ t. ends reply.Reserved t.known)
    (first_taking [] known hand)

-- ---- a retire

-- a lease is released
abbrev pub release_then : Setting → Known → InUse → (rest : Process End) → Process End
release_then s known due rest =
    write_then s known due kind.Release (lease_at due.lease) (lease_bytes record_is.Free) rest

-- of these blocks those that lie in this extent
abbrev pub in_extent : Geometry → (extent : ℕ) → List ℕ → List ℕ
in_extent g extent blocks = filter (λ block. extent_of g block == extent) blocks

-- the map of a held extent was read: the bits of these blocks are cleared
abbrev pub give_found : Setting → Known → (uses : List InUse) → (extent until : ℕ) →
    (blocks : List ℕ) → Option (List Bool) → (rest : Process End) → Process End
give_found s known uses extent until blocks None rest =
    damaged_process s known (extent_use s.geometry extent until ∷ uses) (map_at s.geometry extent)
give_found s known uses extent until blocks (Some bits) rest =
    write_then s known (extent_use s.geometry extent until) kind.Give (map_at s.geometry extent)
    (map_bytes (with_clear blocks (map_at s.geometry extent) bits)) rest

-- blocks in hand of a held extent, if there are any, are given back; its lease is in use beside
-- those of the command
abbrev pub give_process : Setting → Known → (uses : List InUse) → (extent until : ℕ) →
    (blocks : List ℕ) → (rest : Process End) → Process End
give_process s known uses extent until [] rest = rest
give_process s known uses extent until (block ∷ blocks) rest =
    read_then (map_at s.geometry extent) known
    (λ bytes. give_found s known uses extent until (block ∷ blocks)
    (read_map s.geometry.extent_blocks bytes) rest)

-- an extent whose lease is held is given up: its blocks in hand first
abbrev pub retire_extent : Setting → Known → (uses : List InUse) → (hand : List ℕ) → (extent : ℕ) →
    Hold → (rest : Process End) → Process End
retire_extent s known uses hand extent (Held claim until) rest =
    give_process s known uses extent until (in_extent s.geometry extent hand)
    (release_then s known (extent_use s.geometry extent until) rest)
retire_extent s known uses hand extent other rest = rest

-- all of them, of `left` extents from this one on
abbrev pub retire_extents : Setting → Known → (uses : List InUse) → (holds : ℕ → Hold) →
    (hand : List ℕ) → (left extent : ℕ) → (rest : Process End) → Process End
retire_extents s known uses holds hand zero extent rest = rest
retire_extents s known uses holds hand (suc left) extent rest =
    retire_extent s known uses hand extent (holds (lease_at (extent_lease s.geometry extent)))
    (retire_extents s known uses holds hand left (extent + 1) rest)

-- a lease that is held and has no session is released
abbrev pub retire_lease : Setting → Known → (lease : ℕ) →
    Option Session → Hold → (rest : Process End) → Process End
retire_lease s known lease None (Held claim until) rest =
    release_then s known (record { lease = lease; until = until }) rest
retire_lease s known lease session hold rest = rest

-- those of images, of `left` images from this one on
abbrev pub retire_images : Setting → Known → (holds : ℕ → Hold) →
    (left image : ℕ) → (rest : Process End) → Process End
retire_images s known holds zero image rest = rest
retire_images s known holds (suc left) image rest =
    retire_lease s known (image_lease image) (known.sessions image)
    (holds (lease_at (image_lease image))) (retire_images s known holds left (image + 1) rest)

-- a retire: the extents, then the images without a session, then the root
abbrev pub retire_process : Setting → Known → (holds : ℕ → Hold) → (hand : List ℕ) → Process End
retire_process s known holds hand =
    retire_extents s known [] holds hand s.geometry.extents 0
    (retire_images s known holds s.geometry.images 0
    (retire_lease s known root_lease None (holds (lease_at root_lease)) (ends reply.Retired known)))
