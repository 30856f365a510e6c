-- What a take may ask by its own newest exchange.
use Rattle.std.proofs.Common.{◌≡◌, ◌≢◌, ℕ, ◌<◌, List, [], ◌∷◌, None, ap, sym, ◌∙◌}
use Rattle.plx_disk.specs.declared.ask.Ask.{Ask}
use Rattle.plx_disk.specs.declared.ask.Ask.TheVariants as ask
use Rattle.plx_disk.specs.declared.ask.Answer.{Answer}
use Rattle.plx_disk.specs.declared.ask.Answer.TheVariants as answer
use Rattle.plx_gate.specs.Leases.{read_lease}
use Rattle.plx_geom.proofs.Places.{lease-map}
use Rattle.plx_geom.specs.Geometry.{lease_count, lease_at, map_at}
use Rattle.plx_rules.specs.InUse.{InUse}
use Rattle.plx_rules.specs.Settings.{Setting}
use Rattle.plx_rules.specs.Space.{read_map}
use Rattle.law_run.specs.CommandLogs.{Exchange, CommandLog, LastAnsweredIn, older_than}
use Rattle.law_run.specs.Holdings.{last_found}
use Rattle.law_run.specs.Machines.{with_work}
use Rattle.law_run.specs.Uses.{IsInUse}
use Rattle.law_run.proofs.Uses.{block_found, bytes_found}
use Rattle.law_run.proofs.Right.{read_of}

-- the newest of a take's exchanges has read bytes that are no lease, or no map
pub data ReadsOutside (s : Setting) (own : List Exchange) : Type 0 where
  of_lease : (lease : ℕ) (bytes : List ℕ) → lease < lease_count s.geometry → LastAnsweredIn own (ask.Read (record { 0 = lease_at lease })) [] (answer.Bytes bytes) →
      read_lease bytes ≡ None → ReadsOutside s own
  of_map : (extent : ℕ) (bytes : List ℕ) → extent < s.geometry.extents → LastAnsweredIn own (ask.Read (record { 0 = map_at s.geometry extent })) [] (answer.Bytes bytes) →
      read_map s.geometry.extent_blocks bytes ≡ None → ReadsOutside s own

-- it goes on with this ask: after such bytes with the clock; and after a reading that has reached no lease in use and doesn't follow on such bytes
abbrev pub FollowsAnswer : Setting → CommandLog → List Exchange → Ask → Answer → Type 0
FollowsAnswer s log own a (answer.Bytes bytes) = ReadsOutside s own → a ≡ ask.Clock
FollowsAnswer s log own a answer.Done = Unit {0}
FollowsAnswer s log own a (answer.Reading reading) = ((one : InUse) → IsInUse s log one → reading < one.until) × ¬ ReadsOutside s (older_than own)
FollowsAnswer s log own a (answer.Missed reading) = ⊥
FollowsAnswer s log own a answer.Fault = ⊥

abbrev pub FollowsTake : Setting → (first : CommandLog) → Ask → List Exchange → Type 0
FollowsTake s first a [] = Unit {0}
FollowsTake s first a (x ∷ older) = FollowsAnswer s (with_work first (x ∷ older)) (x ∷ older) a x.answer

-- any ask may follow
abbrev pub Calm : Setting → (first : CommandLog) → List Exchange → Type 0
Calm s first own = (a : Ask) → FollowsTake s first a own

-- what reads nothing reads no such bytes
pub nothing-outside : (s : Setting) (own : List Exchange) → last_found own ≡ None → ¬ ReadsOutside s own
nothing-outside s own none (of_lease lease bytes within last bad) = let e = sym none ∙ ap last_found last.1 in let P : ⊥ = cc in P
nothing-outside s own none (of_map extent bytes within last bad) = let e = sym none ∙ ap last_found last.1 in let P : ⊥ = cc in P

-- a map that spells its bits
pub map-in-format : (s : Setting) (own : List Exchange) (extent : ℕ) (bytes : List ℕ) → read_map s.geometry.extent_blocks bytes ≢ None → ¬ ReadsOutside s (read_of (map_at s.geometry extent) bytes ∷ own)
map-in-format s own extent bytes some (of_lease lease bytes' within last bad) =
    lease-map s.geometry lease extent within (sym (ap (λ (d : List Exchange). block_found (last_found d)) last.1))
map-in-format s own extent bytes some (of_map other bytes' within last bad) =
    some (ap (read_map s.geometry.extent_blocks) (ap (λ (d : List Exchange). bytes_found (last_found d)) last.1) ∙ bad)

-- a lease that is one
pub lease-in-format : (s : Setting) (own : List Exchange) (lease : ℕ) (bytes : List ℕ) → lease < lease_count s.geometry → read_lease bytes ≢ None → ¬ ReadsOutside s (read_of (lease_at lease) bytes ∷ own)
lease-in-format s own lease bytes below some (of_lease other bytes' within last bad) = some (ap read_lease (ap (λ (d : List Exchange). bytes_found (last_found d)) last.1) ∙ bad)
lease-in-format s own lease bytes below some (of_map extent bytes' within last bad) = lease-map s.geometry lease extent below (ap (λ (d : List Exchange). block_found (last_found d)) last.1)

pub map-goes-on : (s : Setting) (first : CommandLog) (own : List Exchange) (extent : ℕ) (bytes : List ℕ) → read_map s.geometry.extent_blocks bytes ≢ None →
    Calm s first (read_of (map_at s.geometry extent) bytes ∷ own)
map-goes-on s first own extent bytes some a = λ outside. absurd (map-in-format s own extent bytes some outside)

pub lease-goes-on : (s : Setting) (first : CommandLog) (own : List Exchange) (lease : ℕ) (bytes : List ℕ) → lease < lease_count s.geometry → read_lease bytes ≢ None →
    Calm s first (read_of (lease_at lease) bytes ∷ own)
lease-goes-on s first own lease bytes below some a = λ outside. absurd (lease-in-format s own lease bytes below some outside)
