-- What is held and in hand once a take, a give back or a retire was answered.
use Rattle.std.specs.Prelude.{◌≡◌, ◌++◌, ℕ, List, Option, Some, None}
use Rattle.plx_base.specs.declared.write_kind.WriteKind.TheVariants as kind
use Rattle.plx_commands.specs.Places.{at as with_hold}
use Rattle.plx_disk.specs.declared.ask.Answer.{Answer}
use Rattle.plx_disk.specs.declared.ask.Answer.TheVariants as answer
use Rattle.plx_disk.specs.declared.ask.Ask.{Ask}
use Rattle.plx_disk.specs.declared.ask.Ask.TheVariants as ask
use Rattle.plx_geom.specs.Geometry.{Geometry, extent_lease, lease_at}
use Rattle.plx_lease.specs.ClaimEnds.{claim_end}
use Rattle.plx_lease.specs.Holding.{IsSampled, LeavesClaim, claim_ask, claim_hold, claim_sample, lease_after}
use Rattle.plx_lease.specs.declared.claim_end.ClaimEnd.{ClaimEnd as End}
use Rattle.plx_rules.specs.Boot.{Fits}
use Rattle.plx_rules.specs.Claims.{ClaimEnd, ClaimHeld, ClaimBusy, ClaimLost, ClaimReadFault, ClaimWriteFault, ClaimDamaged}
use Rattle.plx_rules.specs.Hands.{hand_from, blocks_without}
use Rattle.plx_rules.specs.Holds.{Hold, Nothing, Held, sample_of}
use Rattle.plx_token.specs.declared.kind.Extent.{Extent}
use Rattle.plx_alloc.specs.Tables.{numbers}
use Rattle.plx_alloc.specs.declared.giving.Giving.{Giving}
use Rattle.plx_alloc.specs.declared.giving.GivingAt.{GivingAt}
use Rattle.plx_alloc.specs.declared.giving.GivingAt.TheVariants as giving
use Rattle.plx_alloc.specs.declared.reserve.Reserve.{Reserve}
use Rattle.plx_alloc.specs.declared.reserve.ReserveAt.{ReserveAt}
use Rattle.plx_alloc.specs.declared.reserve.ReserveAt.TheVariants as at
use Rattle.plx_alloc.specs.declared.retire.Retire.{Retire}
use Rattle.plx_alloc.specs.declared.retire.RetireAt.{RetireAt}
use Rattle.plx_alloc.specs.declared.retire.RetireAt.TheVariants as retire
use Rattle.plx_alloc.specs.declared.space_end.SpaceEnd.{SpaceEnd}

-- ---- the leases

-- a claim that ends with its lease holds it; any other end leaves what is held
abbrev pub extent_leases_after_claim : ClaimEnd → (extent : ℕ) → (ℕ → Hold) → ℕ → Hold
extent_leases_after_claim (ClaimHeld claim until) extent leases = with_hold leases extent (Held claim until)
extent_leases_after_claim other extent leases = leases

-- a claim that was answered goes on, or ends
abbrev pub extent_leases_after_turn : Option (End Extent) → (extent : ℕ) → (ℕ → Hold) → ℕ → Hold
extent_leases_after_turn None extent leases = leases
extent_leases_after_turn (Some end) extent leases = extent_leases_after_claim (claim_end end) extent leases

-- a claim that begins, of a lease of which nothing is held yet
pub record StartsClaim (g : Geometry) (m : Reserve) (leases : ℕ → Hold) : Type 0 where
  pub number : m.claim.number ≡ extent_lease g m.extent.0
  pub none : leases m.extent.0 ≡ Nothing
  pub fresh : claim_hold m.claim ≡ Nothing
  pub sampled : (sample : Option ℕ) → IsSampled m.claim sample

-- a take that went on reads a map
abbrev pub ReadsFirst : ReserveAt → Type 0
ReadsFirst at.Map = Unit {0}
ReadsFirst at.Look = Unit {0}
ReadsFirst at.Write = ⊥
ReadsFirst at.Claim = ⊥
ReadsFirst at.Damaged = ⊥

-- a take goes on once its claim has ended with the lease, or was busy
abbrev pub GoesPast : ClaimEnd → Type 0
GoesPast (ClaimHeld claim until) = Unit {0}
GoesPast (ClaimBusy seen) = Unit {0}
GoesPast (ClaimLost due reading) = ⊥
GoesPast ClaimReadFault = ⊥
GoesPast ClaimWriteFault = ⊥
GoesPast ClaimDamaged = ⊥

-- where a take goes on whose claim was answered: in the claim, or past its end
abbrev pub TakeGoesOn : Option (End Extent) → ReserveAt → Type 0
TakeGoesOn None place = place ≡ at.Claim
TakeGoesOn (Some end) place = ReadsFirst place × GoesPast (claim_end end)

-- the claim of a take was answered: how far it has come with its lease, and what is held then
pub record ClaimMoves (old new : Reserve) (answer : Answer) (before after : ℕ → Hold) (result : Option SpaceEnd) : Type 0 where
  pub end : Option (End Extent)
  pub hold : Fits (claim_ask old.claim) answer →
      LeavesClaim (lease_after (claim_sample old.claim) (claim_ask old.claim) old.claim.out answer (claim_hold old.claim)) (sample_of answer) new.claim end
  pub number : new.claim.number ≡ old.claim.number
  pub leases : after ≡ extent_leases_after_turn end old.extent.0 before
  pub ends : result ≡ None → new.at ≡ at.Claim → (end ≡ None) × (new.extent ≡ old.extent)
  pub goes_on : result ≡ None → TakeGoesOn end new.at

-- any other answer moves no lease; a claim may begin
pub record SpareMoves (g : Geometry) (new : Reserve) (before after : ℕ → Hold) (result : Option SpaceEnd) : Type 0 where
  pub leases : after ≡ before
  pub starts : result ≡ None → new.at ≡ at.Claim → StartsClaim g new after

-- a take was answered
abbrev pub reserve_moves : ReserveAt → Geometry → (old new : Reserve) → Answer → (before after : ℕ → Hold) → Option SpaceEnd → Type 0
reserve_moves at.Claim g old new answer before after result = ClaimMoves old new answer before after result
reserve_moves other g old new answer before after result = SpareMoves g new before after result

-- ---- the hand

-- the ask of a take
abbrev pub reserve_ask_at : ReserveAt → Reserve → Ask
reserve_ask_at at.Map m = ask.Read m.map
reserve_ask_at at.Write m = ask.Write kind.Take m.map m.until
reserve_ask_at at.Look m = ask.Read m.map
reserve_ask_at at.Claim m = claim_ask m.claim
reserve_ask_at at.Damaged m = ask.Clock

-- what a reserve asks
abbrev pub reserve_ask : Reserve → Ask
reserve_ask m = reserve_ask_at m.at m

-- what was read last tells which blocks the write of the map takes
abbrev pub tells_at : ReserveAt → Geometry → Reserve → Option (ℕ × List ℕ) → Type 0
tells_at at.Write g m found = (hand : List ℕ) → hand_from g found kind.Take m.map.0 m.out hand ≡ hand ++ numbers m.taken.value.items
tells_at at.Map g m found = Unit {0}
tells_at at.Look g m found = Unit {0}
tells_at at.Claim g m found = Unit {0}
tells_at at.Damaged g m found = Unit {0}

-- what the bytes that were read last tell of the blocks that a reserve takes
abbrev pub TellsTaken : Geometry → Reserve → Option (ℕ × List ℕ) → Type 0
TellsTaken g m found = tells_at m.at g m found

-- once the map of an extent whose lease is held was read, no claim begins, and a write takes what these bytes tell
abbrev pub found_tells : ReserveAt → Geometry → Reserve → Option (ℕ × List ℕ) → Type 0
found_tells at.Map g m found = Unit {0}
found_tells at.Look g m found = Unit {0}
found_tells at.Write g m found = tells_at at.Write g m found
found_tells at.Claim g m found = ⊥
found_tells at.Damaged g m found = Unit {0}

-- once the map of an extent whose lease isn't held was read, nothing is written, and a claim may begin
abbrev pub looked_starts : ReserveAt → Geometry → Reserve → (leases : ℕ → Hold) → Type 0
looked_starts at.Map g m leases = Unit {0}
looked_starts at.Look g m leases = Unit {0}
looked_starts at.Write g m leases = ⊥
looked_starts at.Claim g m leases = StartsClaim g m leases
looked_starts at.Damaged g m leases = Unit {0}

-- ---- a give back and a retire

-- the ask of the giving back of an extent's blocks
abbrev pub giving_ask_at : GivingAt → Giving → Ask
giving_ask_at giving.Map m = ask.Read m.map
giving_ask_at giving.Write m = ask.Write kind.Give m.map m.until
giving_ask_at giving.Damaged m = ask.Clock

-- what a giving back asks
abbrev pub giving_ask : Giving → Ask
giving_ask m = giving_ask_at m.at m

-- what was read last tells which blocks the write of the map gives back
abbrev pub tells_given_at : GivingAt → Geometry → Giving → Option (ℕ × List ℕ) → Type 0
tells_given_at giving.Write g m found = (hand : List ℕ) → hand_from g found kind.Give m.map.0 m.out hand ≡ blocks_without (numbers m.given.value.items) hand
tells_given_at giving.Map g m found = Unit {0}
tells_given_at giving.Damaged g m found = Unit {0}

-- what the bytes that were read last tell of the blocks that are given back
abbrev pub TellsGiven : Geometry → Giving → Option (ℕ × List ℕ) → Type 0
TellsGiven g m found = tells_given_at m.at g m found

-- it goes on with the same extent
pub record KeepsExtent (old new : Giving) : Type 0 where
  pub extent : new.extent ≡ old.extent
  pub map : new.map ≡ old.map
  pub lease : new.lease ≡ old.lease
  pub until : new.until ≡ old.until
  pub uses : new.uses ≡ old.uses

-- the ask of a retire
abbrev pub retire_ask_at : RetireAt → Giving → Ask
retire_ask_at retire.Give m = giving_ask m
retire_ask_at retire.Release m = ask.Write kind.Release (record { 0 = lease_at m.lease }) m.until

-- what a retire asks of the extents
abbrev pub retire_ask : Retire → Ask
retire_ask m = retire_ask_at m.at m.giving

-- the lease of an extent isn't held any more once its release is done
abbrev pub released_at : RetireAt → Answer → (extent : ℕ) → (ℕ → Hold) → ℕ → Hold
released_at retire.Release answer.Done extent leases = with_hold leases extent Nothing
released_at place answer extent leases = leases

-- what was read last tells which blocks a retire gives back
abbrev pub tells_retired_at : RetireAt → Geometry → Giving → Option (ℕ × List ℕ) → Type 0
tells_retired_at retire.Give g m found = TellsGiven g m found
tells_retired_at retire.Release g m found = Unit {0}

-- what the bytes that were read last tell of the blocks that a retire gives back
abbrev pub TellsRetired : Geometry → Retire → Option (ℕ × List ℕ) → Type 0
TellsRetired g m found = tells_retired_at m.at g m.giving found
