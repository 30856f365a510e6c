-- What a boot holds of each lease, what it has in hand,
-- and how many claims it began, by its commands.
use Rattle.std.specs.Prelude.{◌≡◌, ◌+◌, ◌-◌, ℕ, List, [], ◌∷◌, Bool, true, false, ◌&&◌, nat_le}
use Rattle.std.specs.Prelude.{nat_lt, if◌then◌else◌, ◌==◌, Option, Some, None, is_some, not}
use Rattle.plx_base.specs.declared.lease.Claim.{Claim}
use Rattle.plx_disk.specs.declared.ask.Ask.{Ask}
use Rattle.plx_disk.specs.declared.ask.Ask.TheVariants as ask
use Rattle.plx_disk.specs.declared.ask.Answer.{Answer}
use Rattle.plx_disk.specs.declared.ask.Answer.TheVariants as answer
use Rattle.plx_geom.specs.Geometry.{Geometry, lease_count, image_lease, lease_at, map_at}
use Rattle.plx_rules.specs.Hands.{found_by, filled_answered, filled_held, hand_answered, hand_held}
use Rattle.plx_rules.specs.Hands.{hand_left, is_held}
use Rattle.plx_rules.specs.Holds.{Hold, Nothing, Wrote, Waited, Held, no_holds, after_answer}
use Rattle.plx_rules.specs.Holds.{sample_of, holds_after_reply}
use Rattle.plx_rules.specs.Rests.{extent_of}
use Rattle.plx_rules.specs.Settings.{Setting}
use Rattle.plx_rules.specs.Space.{read_map}
use Rattle.law_run.specs.CommandLogs.{Exchange, Finished, CommandLog}
use Rattle.law_run.specs.Sessions.{is_attached}

-- whether a block is the lease of an attached image
abbrev pub lease_attached : Geometry → (attached : ℕ → Bool) → (block : ℕ) → Bool
lease_attached g attached block =
    if nat_le 2 block && nat_lt block (2 + g.images) then attached (block - 2) else false

-- the first reading of a command drops a lease without a session
-- that it has reached; and no claim of an earlier command goes on
abbrev pub at_first : (attached : Bool) → (reading : ℕ) → Hold → Hold
at_first false reading (Held claim until) =
    if nat_le until reading then Nothing else Held claim until
at_first true reading (Held claim until) = Held claim until
at_first attached reading other = Nothing

-- what is held after the answer to a command's first ask
abbrev pub after_first_answer : Geometry → (attached : ℕ → Bool) → Answer → (ℕ → Hold) → ℕ → Hold
after_first_answer g attached (answer.Reading reading) holds =
    λ block. at_first (lease_attached g attached block) reading (holds block)
after_first_answer g attached other holds = holds

-- what is held after some exchanges of a command that began
-- with these sessions and holdings, by the block of each lease
abbrev pub holds_along : Geometry → (attached : ℕ → Bool) →
    (start : ℕ → Hold) → List Exchange → ℕ → Hold
holds_along g attached start [] = start
holds_along g attached start (exchange ∷ []) = after_first_answer g attached exchange.answer start
holds_along g attached start (exchange ∷ last ∷ older) =
    after_answer (sample_of last.answer) exchange.ask exchange.bytes
    exchange.answer (holds_along g attached start (last ∷ older))

-- what is held after some commands
abbrev pub holds_after : Geometry → List Finished → ℕ → Hold
holds_after g [] = no_holds
holds_after g (finished ∷ before) =
    holds_after_reply finished.reply
    (holds_along g (is_attached before) (holds_after g before) finished.exchanges)

-- what is held of a lease after some exchanges of a command with those before it
abbrev pub hold_by_log : Setting → List Finished → List Exchange → (lease : ℕ) → Hold
hold_by_log s before exchanges lease =
    holds_along s.geometry (is_attached before)
    (holds_after s.geometry before) exchanges (lease_at lease)

-- a lease is held until that moment, by this claim: its own record was read again in time
abbrev pub Holds : Setting → CommandLog → (lease : ℕ) → Claim → (until : ℕ) → Type 0
Holds s log lease claim until = hold_by_log s log.before log.exchanges lease ≡ Held claim until

-- the lease of an image is held until that moment
abbrev pub HoldsImage : Setting → CommandLog → (image until : ℕ) → Type 0
HoldsImage s log image until = (claim : Claim) × Holds s log (image_lease image) claim until

-- a lease isn't held
abbrev pub IsNotHeld : Hold → Type 0
IsNotHeld hold = is_held hold ≡ false

-- a claim was written, which may have waited, or the lease is held
pub data IsUntil (until : ℕ) : Hold → Type 0 where
  wrote : {hold : Hold} (claim : Claim) → hold ≡ Wrote claim until → IsUntil until hold
  waited : {hold : Hold} (claim : Claim) → hold ≡ Waited claim until → IsUntil until hold
  held : {hold : Hold} (claim : Claim) → hold ≡ Held claim until → IsUntil until hold

-- ---- the hand

-- the block that the newest of some exchanges has read, with its bytes, where it is a read
abbrev pub last_found : List Exchange → Option (ℕ × List ℕ)
last_found [] = None
last_found (exchange ∷ older) = found_by exchange.ask exchange.answer

-- which blocks were filled since the last link after some exchanges of a command that began with
-- these holdings, before the newest one's leases are looked at
abbrev pub filled_told : Geometry → (attached : ℕ → Bool) → (start : ℕ → Hold) → List Exchange →
    List (ℕ × List ℕ)
filled_told g attached start [] = []
filled_told g attached start (exchange ∷ []) = []
filled_told g attached start (exchange ∷ last ∷ older) =
    filled_answered exchange.ask exchange.bytes exchange.answer
    (filled_held g (holds_along g attached start (last ∷ older))
    (filled_told g attached start (last ∷ older)))

-- those of them whose extents are held
abbrev pub filled_along : Geometry → (attached : ℕ → Bool) → (start : ℕ → Hold) → List Exchange →
    List (ℕ × List ℕ)
filled_along g attached start exchanges =
    filled_held g (holds_along g attached start exchanges) (filled_told g attached start exchanges)

-- what is in hand after some exchanges of a command that began with
-- these holdings and blocks, before the newest one's leases are looked at
abbrev pub hand_told : Geometry → (attached : ℕ → Bool) →
    (start : ℕ → Hold) → (hand : List ℕ) → List Exchange → List ℕ
hand_told g attached start hand [] = hand
hand_told g attached start hand (exchange ∷ []) = hand
hand_told g attached start hand (exchange ∷ last ∷ older) =
    hand_left exchange.ask (filled_along g attached start (last ∷ older))
    (hand_answered g (found_by last.ask last.answer) exchange.ask exchange.bytes exchange.answer
    (hand_held g (holds_along g attached start (last ∷ older))
    (hand_told g attached start hand (last ∷ older))))

-- what is in hand then: of those blocks the ones whose extents are held
abbrev pub hand_along : Geometry → (attached : ℕ → Bool) →
    (start : ℕ → Hold) → (hand : List ℕ) → List Exchange → List ℕ
hand_along g attached start hand [] = hand
hand_along g attached start hand (exchange ∷ older) =
    hand_held g (holds_along g attached start (exchange ∷ older))
    (hand_told g attached start hand (exchange ∷ older))

-- what is in hand after some commands
abbrev pub hand_after : Geometry → List Finished → List ℕ
hand_after g [] = []
hand_after g (finished ∷ before) =
    hand_held g (holds_after g (finished ∷ before))
    (hand_told g (is_attached before) (holds_after g before)
    (hand_after g before) finished.exchanges)

-- what is in hand after some exchanges of a command with those before it
abbrev pub hand_by_log : Setting → List Finished → List Exchange → List ℕ
hand_by_log s before exchanges =
    hand_along s.geometry (is_attached before)
    (holds_after s.geometry before) (hand_after s.geometry before) exchanges

-- the same after some exchanges of a command with those before it
abbrev pub filled_by_log : Setting → List Finished → List Exchange → List (ℕ × List ℕ)
filled_by_log s before exchanges =
    filled_along s.geometry (is_attached before) (holds_after s.geometry before) exchanges

-- ---- claims

-- whether an ask is the read of a lease
abbrev pub is_lease_read : Geometry → Ask → Bool
is_lease_read g (ask.Read block) = nat_le 1 block.0 && nat_le block.0 (lease_count g)
is_lease_read g (ask.Write kind block guard) = false
is_lease_read g ask.Clock = false
is_lease_read g (ask.Until from) = false

-- whether an ask is for the clock
abbrev pub is_clock : Ask → Bool
is_clock (ask.Read block) = false
is_clock (ask.Write kind block guard) = false
is_clock ask.Clock = true
is_clock (ask.Until from) = false

-- whether what was found at a block is the map of an extent
abbrev pub is_map_found : Geometry → Option (ℕ × List ℕ) → Bool
is_map_found g None = false
is_map_found g (Some found) =
    (map_at g (extent_of g found.0) == found.0) && is_some (read_map g.extent_blocks found.1)

-- whether the newest of some exchanges asked for the clock, where no map was read before that
abbrev pub is_clock_alone : Geometry → List Exchange → Bool
is_clock_alone g [] = false
is_clock_alone g (last ∷ older) = is_clock last.ask && not (is_map_found g (last_found older))

-- whether an ask begins a claim, by the exchanges before it: the clock directly after a map was
-- read, as in a take; or else, as in an attach, the read of a lease directly after the clock
abbrev pub begins_claim : Geometry → Ask → List Exchange → Bool
begins_claim g (ask.Read block) older = is_lease_read g (ask.Read block) && is_clock_alone g older
begins_claim g (ask.Write kind block guard) older = false
begins_claim g ask.Clock older = is_map_found g (last_found older)
begins_claim g (ask.Until from) older = false

-- how many claims began in some exchanges
abbrev pub claims_in : Geometry → List Exchange → ℕ
claims_in g [] = 0
claims_in g (exchange ∷ older) =
    (if begins_claim g exchange.ask older then 1 else 0) + claims_in g older

-- how many claims a boot has begun in its commands
abbrev pub claims_begun : Geometry → List Finished → ℕ
claims_begun g [] = 0
claims_begun g (finished ∷ before) = claims_in g finished.exchanges + claims_begun g before
