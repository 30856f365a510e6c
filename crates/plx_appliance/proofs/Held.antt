-- What is held, lease by lease, after each answer.
use Rattle.std.proofs.Common.{◌≡◌, ℕ, ◌+◌, List, Option, Bool, true, false, refl, ap, ◌∙◌, arith}
use Rattle.std.specs.Prelude.{nat_lt, nat_le, if◌then◌else◌, ◌&&◌}
use Rattle.plx_base.specs.declared.write_kind.WriteKind.{WriteKind}
use Rattle.plx_base.specs.declared.write_kind.WriteKind.TheVariants as kind
use Rattle.plx_commands.proofs.Places.{at-other}
use Rattle.plx_disk.specs.declared.ask.Ask.{Ask}
use Rattle.plx_disk.specs.declared.ask.Ask.TheVariants as ask
use Rattle.plx_disk.specs.declared.ask.Answer.{Answer}
use Rattle.plx_disk.specs.declared.ask.Answer.TheVariants as answer
use Rattle.plx_geom.specs.Geometry.{Geometry, lease_at}
use Rattle.plx_rules.specs.Holds.{Hold, Nothing, Seen, Wrote, Waited, Held, after_answer, after_write, hold_after_read, hold_after_reading}
use Rattle.plx_alloc.specs.Asking.{KeepsLeases, SparesLeases}
use Rattle.plx_appliance.specs.Tokens.{lease_holds_at}
use Rattle.plx_appliance.specs.Holding.{HoldsAs, image_leases_after_write, hold_without_claim}

pub settled-timed : (reading : ℕ) (hold : Hold) → hold_without_claim (hold_after_reading reading hold) ≡ hold_without_claim hold
settled-timed reading Nothing = refl
settled-timed reading (Seen sample) = refl
settled-timed reading (Wrote claim until) = by_test (nat_le (claim.sample + 601) reading && nat_lt reading until)
  where
    by_test : (b : Bool) → hold_without_claim (if b then Waited claim until else Wrote claim until) ≡ Nothing
    by_test true = refl
    by_test false = refl
settled-timed reading (Waited claim until) = refl
settled-timed reading (Held claim until) = refl

written-other : (k : WriteKind) (block : ℕ) (bytes : List ℕ) (holds : ℕ → Hold) (b : ℕ) → KeepsLeases k → after_write k block bytes holds b ≡ holds b
written-other kind.Claim block bytes holds b other = absurd other
written-other kind.Renew block bytes holds b other = absurd other
written-other kind.Release block bytes holds b other = absurd other
written-other kind.Take block bytes holds b other = refl
written-other kind.Give block bytes holds b other = refl
written-other kind.Sweep block bytes holds b other = refl
written-other kind.Fresh block bytes holds b other = refl
written-other kind.Link block bytes holds b other = refl
written-other kind.Overwrite block bytes holds b other = refl
written-other kind.Record block bytes holds b other = refl
written-other kind.Log block bytes holds b other = refl
written-other kind.JData block bytes holds b other = refl
written-other kind.JCommit block bytes holds b other = refl

-- no lease is held
nothing-by : (b c : Bool) → Nothing ≡ (if b then Nothing else if c then Nothing else Nothing)
nothing-by true c = refl
nothing-by false true = refl
nothing-by false false = refl

pub nothing-at : (g : Geometry) (block : ℕ) → Nothing ≡ lease_holds_at g (λ image. Nothing) (λ extent. Nothing) block
nothing-at g block = nothing-by (nat_le 2 block && nat_lt block (2 + g.images)) (nat_le (2 + g.images) block)

-- an ask that concerns no lease
pub spare-holds : (g : Geometry) (leases extents : ℕ → Hold) (holds : ℕ → Hold) (sample : Option ℕ) (a : Ask) (bytes : List ℕ) (found : Answer) →
    SparesLeases g a → HoldsAs g leases extents holds → HoldsAs g (image_leases_after_write a found leases) (image_leases_after_write a found extents) (after_answer sample a bytes found holds)
spare-holds g leases extents holds sample (ask.Read block) bytes (answer.Bytes b) spare h = λ lease within.
    ap hold_without_claim (at-other holds block.0 (lease_at lease) (hold_after_read sample b (holds block.0)) (λ e. absurd (omega (arith, e, spare, within)))) ∙ h lease within
spare-holds g leases extents holds sample (ask.Read block) bytes answer.Done spare h = h
spare-holds g leases extents holds sample (ask.Read block) bytes (answer.Reading reading) spare h = λ lease within. settled-timed reading (holds (lease_at lease)) ∙ h lease within
spare-holds g leases extents holds sample (ask.Read block) bytes (answer.Missed reading) spare h = h
spare-holds g leases extents holds sample (ask.Read block) bytes answer.Fault spare h = h
spare-holds g leases extents holds sample (ask.Write k block guard) bytes (answer.Bytes b) spare h = h
spare-holds g leases extents holds sample (ask.Write k block guard) bytes answer.Done spare h = λ lease within.
    ap hold_without_claim (written-other k block.0 bytes holds (lease_at lease) spare) ∙ h lease within
spare-holds g leases extents holds sample (ask.Write k block guard) bytes (answer.Reading reading) spare h = λ lease within. settled-timed reading (holds (lease_at lease)) ∙ h lease within
spare-holds g leases extents holds sample (ask.Write k block guard) bytes (answer.Missed reading) spare h = λ lease within. nothing-at g (lease_at lease)
spare-holds g leases extents holds sample (ask.Write k block guard) bytes answer.Fault spare h = λ lease within. nothing-at g (lease_at lease)
spare-holds g leases extents holds sample ask.Clock bytes (answer.Bytes b) spare h = h
spare-holds g leases extents holds sample ask.Clock bytes answer.Done spare h = h
spare-holds g leases extents holds sample ask.Clock bytes (answer.Reading reading) spare h = λ lease within. settled-timed reading (holds (lease_at lease)) ∙ h lease within
spare-holds g leases extents holds sample ask.Clock bytes (answer.Missed reading) spare h = h
spare-holds g leases extents holds sample ask.Clock bytes answer.Fault spare h = h
spare-holds g leases extents holds sample (ask.Until from) bytes (answer.Bytes b) spare h = h
spare-holds g leases extents holds sample (ask.Until from) bytes answer.Done spare h = h
spare-holds g leases extents holds sample (ask.Until from) bytes (answer.Reading reading) spare h = λ lease within. settled-timed reading (holds (lease_at lease)) ∙ h lease within
spare-holds g leases extents holds sample (ask.Until from) bytes (answer.Missed reading) spare h = h
spare-holds g leases extents holds sample (ask.Until from) bytes answer.Fault spare h = h
