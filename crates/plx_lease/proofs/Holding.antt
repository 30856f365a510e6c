-- What a boot holds of each lease once a machine of one lease was answered.
use Rattle.std.proofs.Common.{◌≡◌, ◌≢◌, ℕ, List, refl, ◌∙◌, subst, Option}
use Rattle.plx_base.specs.declared.write_kind.WriteKind.{WriteKind}
use Rattle.plx_base.specs.declared.write_kind.WriteKind.TheVariants as kind
use Rattle.plx_commands.proofs.Places.{at-same, at-other}
use Rattle.plx_disk.specs.declared.ask.Ask.{Ask}
use Rattle.plx_disk.specs.declared.ask.Ask.TheVariants as ask
use Rattle.plx_disk.specs.declared.ask.Answer.{Answer}
use Rattle.plx_disk.specs.declared.ask.Answer.TheVariants as answer
use Rattle.plx_gate.specs.Leases.{read_lease}
use Rattle.plx_rules.specs.Holds.{Hold, after_answer, after_write, hold_after_renewal, hold_after_read, hold_after_claim, Nothing}
use Rattle.plx_rules.specs.Machines.{AsksOnly}
use Rattle.plx_lease.specs.Holding.{lease_after, other_after, hold_after_write}

-- a write that is done
write-own : (k : WriteKind) (block : ℕ) (bytes : List ℕ) (holds : ℕ → Hold) → after_write k block bytes holds block ≡ hold_after_write k bytes (holds block)
write-own kind.Claim block bytes holds = at-same holds block (hold_after_claim (read_lease bytes))
write-own kind.Renew block bytes holds = at-same holds block (hold_after_renewal (read_lease bytes))
write-own kind.Release block bytes holds = at-same holds block Nothing
write-own kind.Take block bytes holds = refl
write-own kind.Give block bytes holds = refl
write-own kind.Sweep block bytes holds = refl
write-own kind.Fresh block bytes holds = refl
write-own kind.Link block bytes holds = refl
write-own kind.Overwrite block bytes holds = refl
write-own kind.Record block bytes holds = refl
write-own kind.Log block bytes holds = refl
write-own kind.JData block bytes holds = refl
write-own kind.JCommit block bytes holds = refl

write-other : (k : WriteKind) (block other : ℕ) (bytes : List ℕ) (holds : ℕ → Hold) → other ≢ block → after_write k block bytes holds other ≡ holds other
write-other kind.Claim block other bytes holds ne = at-other holds block other (hold_after_claim (read_lease bytes)) ne
write-other kind.Renew block other bytes holds ne = at-other holds block other (hold_after_renewal (read_lease bytes)) ne
write-other kind.Release block other bytes holds ne = at-other holds block other Nothing ne
write-other kind.Take block other bytes holds ne = refl
write-other kind.Give block other bytes holds ne = refl
write-other kind.Sweep block other bytes holds ne = refl
write-other kind.Fresh block other bytes holds ne = refl
write-other kind.Link block other bytes holds ne = refl
write-other kind.Overwrite block other bytes holds ne = refl
write-other kind.Record block other bytes holds ne = refl
write-other kind.Log block other bytes holds ne = refl
write-other kind.JData block other bytes holds ne = refl
write-other kind.JCommit block other bytes holds ne = refl

-- of its own lease
pub own-after : (block : ℕ) (sample : Option ℕ) (a : Ask) (bytes : List ℕ) (answer : Answer) (holds : ℕ → Hold) → AsksOnly block a →
    after_answer sample a bytes answer holds block ≡ lease_after sample a bytes answer (holds block)
own-after block sample (ask.Read read) bytes (answer.Bytes found) holds own =
    subst (λ b. at_block b ≡ hold_after_read sample found (holds b)) own (at-same holds read.0 (hold_after_read sample found (holds read.0)))
  where
    at_block : ℕ → Hold
    at_block b = after_answer sample (ask.Read read) bytes (answer.Bytes found) holds b
own-after block sample (ask.Read read) bytes answer.Done holds own = refl
own-after block sample (ask.Read read) bytes (answer.Reading reading) holds own = refl
own-after block sample (ask.Read read) bytes (answer.Missed reading) holds own = refl
own-after block sample (ask.Read read) bytes answer.Fault holds own = refl
own-after block sample (ask.Write k to guard) bytes (answer.Bytes found) holds own = refl
own-after block sample (ask.Write k to guard) bytes answer.Done holds own =
    subst (λ b. after_write k to.0 bytes holds b ≡ hold_after_write k bytes (holds b)) own.0 (write-own k to.0 bytes holds)
own-after block sample (ask.Write k to guard) bytes (answer.Reading reading) holds own = refl
own-after block sample (ask.Write k to guard) bytes (answer.Missed reading) holds own = refl
own-after block sample (ask.Write k to guard) bytes answer.Fault holds own = refl
own-after block sample ask.Clock bytes (answer.Bytes found) holds own = refl
own-after block sample ask.Clock bytes answer.Done holds own = refl
own-after block sample ask.Clock bytes (answer.Reading reading) holds own = refl
own-after block sample ask.Clock bytes (answer.Missed reading) holds own = refl
own-after block sample ask.Clock bytes answer.Fault holds own = refl
own-after block sample (ask.Until from) bytes (answer.Bytes found) holds own = refl
own-after block sample (ask.Until from) bytes answer.Done holds own = refl
own-after block sample (ask.Until from) bytes (answer.Reading reading) holds own = refl
own-after block sample (ask.Until from) bytes (answer.Missed reading) holds own = refl
own-after block sample (ask.Until from) bytes answer.Fault holds own = refl

-- of each other lease
pub other-after : (block other : ℕ) (sample : Option ℕ) (a : Ask) (bytes : List ℕ) (answer : Answer) (holds : ℕ → Hold) → AsksOnly block a → other ≢ block →
    after_answer sample a bytes answer holds other ≡ other_after a answer (holds other)
other-after block other sample (ask.Read read) bytes (answer.Bytes found) holds own ne =
    at-other holds read.0 other (hold_after_read sample found (holds read.0)) (λ e. ne (e ∙ own))
other-after block other sample (ask.Read read) bytes answer.Done holds own ne = refl
other-after block other sample (ask.Read read) bytes (answer.Reading reading) holds own ne = refl
other-after block other sample (ask.Read read) bytes (answer.Missed reading) holds own ne = refl
other-after block other sample (ask.Read read) bytes answer.Fault holds own ne = refl
other-after block other sample (ask.Write k to guard) bytes (answer.Bytes found) holds own ne = refl
other-after block other sample (ask.Write k to guard) bytes answer.Done holds own ne = write-other k to.0 other bytes holds (λ e. ne (e ∙ own.0))
other-after block other sample (ask.Write k to guard) bytes (answer.Reading reading) holds own ne = refl
other-after block other sample (ask.Write k to guard) bytes (answer.Missed reading) holds own ne = refl
other-after block other sample (ask.Write k to guard) bytes answer.Fault holds own ne = refl
other-after block other sample ask.Clock bytes (answer.Bytes found) holds own ne = refl
other-after block other sample ask.Clock bytes answer.Done holds own ne = refl
other-after block other sample ask.Clock bytes (answer.Reading reading) holds own ne = refl
other-after block other sample ask.Clock bytes (answer.Missed reading) holds own ne = refl
other-after block other sample ask.Clock bytes answer.Fault holds own ne = refl
other-after block other sample (ask.Until from) bytes (answer.Bytes found) holds own ne = refl
other-after block other sample (ask.Until from) bytes answer.Done holds own ne = refl
other-after block other sample (ask.Until from) bytes (answer.Reading reading) holds own ne = refl
other-after block other sample (ask.Until from) bytes (answer.Missed reading) holds own ne = refl
other-after block other sample (ask.Until from) bytes answer.Fault holds own ne = refl
