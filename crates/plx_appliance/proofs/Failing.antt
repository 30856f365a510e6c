-- A write that fails or is missed ends its command: where a command goes on, what is held stays.
use Rattle.std.proofs.Common.{◌≡◌, ℕ, List, Option, Some, None, refl, sym, ap, subst}
use Rattle.plx_base.specs.declared.write_kind.WriteKind.{WriteKind}
use Rattle.plx_disk.specs.declared.ask.Ask.{Ask}
use Rattle.plx_disk.specs.declared.ask.Ask.TheVariants as ask
use Rattle.plx_disk.specs.declared.ask.Answer.{Answer}
use Rattle.plx_disk.specs.declared.ask.Answer.TheVariants as answer
use Rattle.plx_rules.specs.Claims.{ClaimEnd, ClaimLost, ClaimWriteFault}
use Rattle.plx_rules.specs.Ends.{End}
use Rattle.plx_rules.specs.Holds.{Hold}
use Rattle.plx_rules.specs.InUse.{InUse}
use Rattle.plx_rules.specs.Machines.{Asks}
use Rattle.plx_rules.specs.Process.{Process, Ends, ReadThen, WriteThen, ClockThen, UntilThen, answered, standing}
use Rattle.plx_rules.specs.Processes.{followed_by}
use Rattle.plx_lease.specs.Claiming.{claim_at}
use Rattle.plx_lease.specs.declared.claim.ClaimAt.{ClaimAt}
use Rattle.plx_lease.specs.declared.claim.ClaimAt.TheVariants as claim
use Rattle.plx_lease.specs.declared.claim.LeaseClaim.{LeaseClaim}
use Rattle.plx_session.proofs.Machines.{EndsOnFailure}
use Rattle.plx_appliance.specs.Holding.{DropsNothing, image_leases_after_write}

write-kept : (kind : WriteKind) (block : ℕ) (bytes : List ℕ) (guard : ℕ) (done fault : Process End) (missed : ℕ → Process End) (a : Answer) →
    EndsOnFailure (WriteThen kind block bytes guard done fault missed) → Asks (answered (WriteThen kind block bytes guard done fault missed) a) → DropsNothing (ask.Write kind (record { 0 = block }) guard) a
write-kept kind block bytes guard done fault missed (answer.Bytes b) fails asks = tt
write-kept kind block bytes guard done fault missed answer.Done fails asks = tt
write-kept kind block bytes guard done fault missed (answer.Reading r) fails asks = tt
write-kept kind block bytes guard done fault missed (answer.Missed r) fails asks = absurd (fails.1 r asks)
write-kept kind block bytes guard done fault missed answer.Fault fails asks = absurd (fails.0 asks)

-- two asks that are the same
abbrev ask_or : Option Ask → Ask
ask_or None = ask.Clock
ask_or (Some q) = q

pub same-ask : (q r : Ask) → Some q ≡ Some r → q ≡ r
same-ask q r e = ap ask_or e

-- what still asks after an answer kept what is held
pub kept-asks : (process : Process End) (q : Ask) (a : Answer) → Some q ≡ standing process → EndsOnFailure process → Asks (answered process a) → DropsNothing q a
kept-asks (Ends end) q a stands fails asks = absurd cc
kept-asks (ReadThen block rest fault) q a stands fails asks = subst (λ (r : Ask). DropsNothing r a) (sym (same-ask q (ask.Read (record { 0 = block })) stands)) tt
kept-asks (WriteThen kind block bytes guard done fault missed) q a stands fails asks =
    subst (λ (r : Ask). DropsNothing r a) (sym (same-ask q (ask.Write kind (record { 0 = block }) guard) stands)) (write-kept kind block bytes guard done fault missed a fails asks)
kept-asks (ClockThen rest) q a stands fails asks = subst (λ (r : Ask). DropsNothing r a) (sym (same-ask q ask.Clock stands)) tt
kept-asks (UntilThen from rest) q a stands fails asks = subst (λ (r : Ask). DropsNothing r a) (sym (same-ask q (ask.Until from) stands)) tt

-- so it is of what is held by the leases
pub kept-leases : (q : Ask) (a : Answer) (leases : ℕ → Hold) → DropsNothing q a → image_leases_after_write q a leases ≡ leases
kept-leases (ask.Read block) a leases kept = refl
kept-leases (ask.Write k block guard) (answer.Bytes b) leases kept = refl
kept-leases (ask.Write k block guard) answer.Done leases kept = refl
kept-leases (ask.Write k block guard) (answer.Reading r) leases kept = refl
kept-leases (ask.Write k block guard) (answer.Missed r) leases kept = absurd kept
kept-leases (ask.Write k block guard) answer.Fault leases kept = absurd kept
kept-leases ask.Clock a leases kept = refl
kept-leases (ask.Until from) a leases kept = refl

-- a claim, where what follows its failure ends
pub claim-fails : {K : Type 0} (place : ClaimAt) (c : LeaseClaim K) (next : ClaimEnd → Process End) → (Asks (next ClaimWriteFault) → ⊥) →
    ((due : InUse) (reading : ℕ) → Asks (next (ClaimLost due reading)) → ⊥) → EndsOnFailure (followed_by (claim_at place c) next)
claim-fails claim.Sample c next failed lost = tt
claim-fails claim.Read c next failed lost = tt
claim-fails claim.Damaged c next failed lost = tt
claim-fails claim.Write c next failed lost = (failed, λ reading asks. lost _ reading asks)
claim-fails claim.Wait c next failed lost = tt
claim-fails claim.Reread c next failed lost = tt
claim-fails claim.DamagedLate c next failed lost = tt
