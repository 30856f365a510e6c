-- The leases that an appliance keeps are those that its log holds.
use Rattle.std.specs.Prelude.{◌≡◌, ◌<◌, ℕ, List, [], None}
use Rattle.plx_disk.specs.declared.ask.Ask.{Ask}
use Rattle.plx_disk.specs.declared.ask.Ask.TheVariants as ask
use Rattle.plx_disk.specs.declared.ask.Answer.{Answer}
use Rattle.plx_disk.specs.declared.ask.Answer.TheVariants as answer
use Rattle.plx_geom.specs.Geometry.{Geometry, lease_at, lease_count}
use Rattle.plx_rules.specs.Holds.{Hold, Nothing, Held, first_hold}
use Rattle.plx_rules.specs.Session.{Known}
use Rattle.plx_appliance.specs.Tokens.{lease_holds_at}

-- what is left of a hold but how far a claim has come
abbrev pub hold_without_claim : Hold → Hold
hold_without_claim (Held claim until) = Held claim until
hold_without_claim other = Nothing

-- of each lease the appliance keeps what its log holds
abbrev pub HoldsAs : Geometry → (leases extents : ℕ → Hold) → (holds : ℕ → Hold) → Type 0
HoldsAs g leases extents holds = (lease : ℕ) → lease < lease_count g → hold_without_claim (holds (lease_at lease)) ≡ lease_holds_at g leases extents (lease_at lease)

-- an answer after which what is held stays: no write failed or was missed
abbrev pub DropsNothing : Ask → Answer → Type 0
DropsNothing (ask.Write kind block guard) answer.Fault = ⊥
DropsNothing (ask.Write kind block guard) (answer.Missed reading) = ⊥
DropsNothing ask found = Unit {0}

-- a write that failed or was missed
abbrev pub image_leases_after_write : Ask → Answer → (ℕ → Hold) → ℕ → Hold
image_leases_after_write (ask.Write kind block guard) answer.Fault leases = λ image. Nothing
image_leases_after_write (ask.Write kind block guard) (answer.Missed reading) leases = λ image. Nothing
image_leases_after_write other found leases = leases

-- the same of the hand
abbrev pub dropped_hand : Ask → Answer → List ℕ → List ℕ
dropped_hand (ask.Write kind block guard) answer.Fault hand = []
dropped_hand (ask.Write kind block guard) (answer.Missed reading) hand = []
dropped_hand other found hand = hand

-- the first reading of a command drops each lease without a session that it has reached
abbrev pub first_leases : Known → (reading : ℕ) → (leases : ℕ → Hold) → ℕ → Hold
first_leases known reading leases = λ image. first_hold (known.sessions image) reading (leases image)

-- and each lease of an extent
abbrev pub first_extents : (reading : ℕ) → (extents : ℕ → Hold) → ℕ → Hold
first_extents reading extents = λ extent. first_hold None reading (extents extent)
