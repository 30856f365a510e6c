-- An attach: what it still asks, how far its claim has come, and what its answers make of the leases held.
use Rattle.std.specs.Prelude.{◌≡◌, ℕ, Option, Some, None}
use Rattle.plx_base.specs.declared.numbers.SlotNo.{SlotNo}
use Rattle.plx_commands.specs.Places.{at}
use Rattle.plx_commands.specs.declared.reply.Reply.{Reply}
use Rattle.plx_disk.specs.declared.ask.Answer.{Answer}
use Rattle.plx_disk.specs.declared.ask.Ask.{Ask}
use Rattle.plx_geom.specs.Geometry.{image_lease, lease_at}
use Rattle.plx_lease.specs.ClaimEnds.{claim_end}
use Rattle.plx_lease.specs.Claiming.{claim_rest}
use Rattle.plx_lease.specs.Holding.{IsSampled, LeavesClaim, claim_ask, claim_hold, claim_sample, lease_after}
use Rattle.plx_lease.specs.declared.claim.LeaseClaim.{LeaseClaim}
use Rattle.plx_lease.specs.declared.claim_end.ClaimEnd.{ClaimEnd as End'}
use Rattle.plx_rules.specs.Attaching.{after_claim}
use Rattle.plx_rules.specs.Boot.{Fits}
use Rattle.plx_rules.specs.Claims.{ClaimEnd, ClaimHeld}
use Rattle.plx_rules.specs.Ends.{End}
use Rattle.plx_rules.specs.Holds.{Hold, Held, Nothing, sample_of}
use Rattle.plx_rules.specs.Machines.{AsksOnly}
use Rattle.plx_rules.specs.Process.{Process}
use Rattle.plx_rules.specs.Processes.{followed_by}
use Rattle.plx_rules.specs.Session.{Known}
use Rattle.plx_session.specs.Asking.{IsSpare}
use Rattle.plx_session.specs.Giving.{rules_setting}
use Rattle.plx_session.specs.Loads.{load_rest}
use Rattle.plx_session.specs.declared.setting.Setting.{Setting}
use Rattle.plx_token.specs.declared.kind.Image.{Image}
use Rattle.plx_appliance.specs.declared.attach.Attach.{Attach}
use Rattle.plx_appliance.specs.declared.attach.Attach.TheVariants as attach
use Rattle.plx_appliance.specs.declared.attach.ImageClaim.{ImageClaim}

-- ---- what it asks

-- what is left of an attach: of its claim with the load after it, or of its load; in the claim what is known counts it already
abbrev pub attach_rest : Known → Attach → Process End
attach_rest known (attach.Claim c) = followed_by (claim_rest c.claim) (after_claim (rules_setting c.setting) known c.slot.0)
attach_rest known (attach.Load l) = load_rest known l

-- what it is given
abbrev pub attach_setting : Attach → Setting
attach_setting (attach.Claim c) = c.setting
attach_setting (attach.Load l) = l.image.setting

-- for how many journal slots it has memory
abbrev pub attach_slots : Attach → ℕ
attach_slots (attach.Claim c) = c.slots
attach_slots (attach.Load l) = l.slots

-- a claim concerns its lease alone, and a load no lease
abbrev pub attach_spares : Attach → Ask → Type 0
attach_spares (attach.Claim c) ask = AsksOnly (lease_at c.claim.number) ask
attach_spares (attach.Load l) ask = IsSpare l.image.setting.geometry ask

-- ---- how far its claim has come

-- as far as the claim has come with the lease of its image, the log has
pub record IsClaiming (c : ImageClaim) (holds : ℕ → Hold) (sample : Option ℕ) : Type 0 where
  pub number : c.claim.number ≡ image_lease c.slot.0
  pub hold : holds (lease_at c.claim.number) ≡ claim_hold c.claim
  pub sampled : IsSampled c.claim sample

-- how far an attach has come with its claim
abbrev pub attach_inside : Attach → (ℕ → Hold) → Option ℕ → Type 0
attach_inside (attach.Claim c) holds sample = IsClaiming c holds sample
attach_inside (attach.Load l) holds sample = Unit {0}

-- a claim that begins, of a lease of which nothing is held yet
pub record StartsClaim (leases : ℕ → Hold) (c : ImageClaim) : Type 0 where
  pub number : c.claim.number ≡ image_lease c.slot.0
  pub none : leases c.slot.0 ≡ Nothing
  pub fresh : claim_hold c.claim ≡ Nothing
  pub sampled : (sample : Option ℕ) → IsSampled c.claim sample

-- how an attach begins
abbrev pub attach_starts : (leases : ℕ → Hold) → Attach → Type 0
attach_starts leases (attach.Claim c) = StartsClaim leases c
attach_starts leases (attach.Load l) = Unit {0}

-- ---- what its answers make of the leases held

-- a claim that ends with its lease holds it; any other end leaves what is held
abbrev pub image_leases_after_claim : ClaimEnd → (image : ℕ) → (ℕ → Hold) → ℕ → Hold
image_leases_after_claim (ClaimHeld claim until) image leases = at leases image (Held claim until)
image_leases_after_claim other image leases = leases

-- a claim that was answered goes on, or ends
abbrev pub image_leases_after_turn : Option (End' Image) → (image : ℕ) → (ℕ → Hold) → ℕ → Hold
image_leases_after_turn None image leases = leases
image_leases_after_turn (Some end) image leases = image_leases_after_claim (claim_end end) image leases

-- an attach that is still in its claim has this claim of this image, which hasn't ended
abbrev pub claims_on : Attach → LeaseClaim Image → SlotNo → Option (End' Image) → Option Reply → Type 0
claims_on (attach.Claim c) claim slot end result = result ≡ None → (end ≡ None) × (c.claim ≡ claim) × (c.slot ≡ slot)
claims_on (attach.Load l) claim slot end result = Unit {0}

-- the claim of an attach was answered: how far it has come with its lease, and what is held then
pub record ImageClaimMoves (old : ImageClaim) (new : Attach) (answer : Answer) (before after : ℕ → Hold) (result : Option Reply) : Type 0 where
  pub claim : LeaseClaim Image
  pub end : Option (End' Image)
  pub hold : Fits (claim_ask old.claim) answer →
      LeavesClaim (lease_after (claim_sample old.claim) (claim_ask old.claim) old.claim.out answer (claim_hold old.claim)) (sample_of answer) claim end
  pub number : claim.number ≡ old.claim.number
  pub leases : after ≡ image_leases_after_turn end old.slot.0 before
  pub goes_on : claims_on new claim old.slot end result

-- an attach is in its load
abbrev pub IsLoading : Attach → Type 0
IsLoading (attach.Claim c) = ⊥
IsLoading (attach.Load l) = Unit {0}

-- an attach was answered: how far it has come, and what is held then; a load moves no lease, and claims none
abbrev pub attach_moves : (old new : Attach) → Answer → (before after : ℕ → Hold) → Option Reply → Type 0
attach_moves (attach.Claim c) new answer before after result = ImageClaimMoves c new answer before after result
attach_moves (attach.Load l) new answer before after result = IsLoading new × (after ≡ before)
