-- What a boot holds of each lease, by what it asked and was answered.
use Rattle.std.specs.Prelude.{◌+◌, ◌-◌, ℕ, List, Bool, true, false, ◌&&◌, Option, Some, None}
use Rattle.std.specs.Prelude.{nat_lt, nat_le, if◌then◌else◌}
use Rattle.std.specs.Str.{bytes_eq}
use Rattle.plx_base.specs.declared.lease.Claim.{Claim}
use Rattle.plx_base.specs.declared.lease.LeaseRecord.{LeaseRecord}
use Rattle.plx_base.specs.declared.lease.LeaseRecord.TheVariants.{Claimed}
use Rattle.plx_base.specs.declared.write_kind.WriteKind.{WriteKind}
use Rattle.plx_base.specs.declared.write_kind.WriteKind.TheVariants as kind
use Rattle.plx_commands.specs.declared.reply.Reply.{Reply}
use Rattle.plx_commands.specs.declared.reply.Reply.TheVariants as reply
use Rattle.plx_disk.specs.declared.ask.Ask.{Ask}
use Rattle.plx_disk.specs.declared.ask.Ask.TheVariants as ask
use Rattle.plx_disk.specs.declared.ask.Answer.{Answer}
use Rattle.plx_disk.specs.declared.ask.Answer.TheVariants as answer
use Rattle.plx_geom.specs.Geometry.{Geometry}
use Rattle.plx_commands.specs.Places.{at}
use Rattle.plx_gate.specs.Leases.{lease_bytes, read_lease}
use Rattle.plx_rules.specs.Session.{Session, Known}
use Rattle.plx_rules.specs.Times.{wait, is_expired}

-- how far a boot has come with a lease: it holds none; it saw that the lease is free or expired for
-- this sample; its claim was written; it has waited since; or it holds the lease until that moment
pub data Hold : Type 0 where
  Nothing : Hold
  Seen : (sample : ℕ) → Hold
  Wrote : Claim → (until : ℕ) → Hold
  Waited : Claim → (until : ℕ) → Hold
  Held : Claim → (until : ℕ) → Hold

-- no lease is held
abbrev pub no_holds : ℕ → Hold
no_holds = λ block. Nothing

-- once a claim is done
abbrev pub hold_after_claim : Option LeaseRecord → Hold
hold_after_claim (Some (Claimed claim until)) = Wrote claim until
hold_after_claim other = Nothing

-- once a renewal is done
abbrev pub hold_after_renewal : Option LeaseRecord → Hold
hold_after_renewal (Some (Claimed claim until)) = Held claim until
hold_after_renewal other = Nothing

-- once a write is done: only writes of leases change what is held
abbrev pub after_write : WriteKind → (block : ℕ) → List ℕ → (ℕ → Hold) → ℕ → Hold
after_write kind.Claim block bytes holds = at holds block (hold_after_claim (read_lease bytes))
after_write kind.Renew block bytes holds = at holds block (hold_after_renewal (read_lease bytes))
after_write kind.Release block bytes holds = at holds block Nothing
after_write other block bytes holds = holds

-- once a claim that has waited is read again: its own record confirms it
abbrev pub hold_after_reread : Bool → Hold → Hold
hold_after_reread true held = held
hold_after_reread false held = Nothing

-- once a lease is read: it may be free, or expired for the sample
abbrev pub seen_by : Option LeaseRecord → (sample : ℕ) → Hold
seen_by None sample = Nothing
seen_by (Some lease) sample = if is_expired lease sample then Seen sample else Nothing

-- the sample is the reading directly before
abbrev pub seen_for : Option ℕ → List ℕ → Hold
seen_for None bytes = Nothing
seen_for (Some sample) bytes = seen_by (read_lease bytes) sample

-- once the block of a lease is read
abbrev pub hold_after_read : Option ℕ → List ℕ → Hold → Hold
hold_after_read sample bytes (Waited claim until) =
    hold_after_reread (bytes_eq bytes (lease_bytes (Claimed claim until))) (Held claim until)
hold_after_read sample bytes (Held claim until) = Held claim until
hold_after_read sample bytes other = seen_for sample bytes

-- once the clock was read: a claim has waited where 601 ms
-- have passed since its sample, and its end isn't reached
abbrev pub hold_after_reading : ℕ → Hold → Hold
hold_after_reading reading (Wrote claim until) =
    if nat_le (claim.sample + wait) reading && nat_lt reading until
    then Waited claim until
    else Wrote claim until
hold_after_reading reading other = other

-- what is held after an answer: after a write that failed or was missed nothing
abbrev pub after_answer : Option ℕ → Ask → List ℕ → Answer → (ℕ → Hold) → ℕ → Hold
after_answer sample (ask.Read block) bytes (answer.Bytes found) holds =
    at holds block.0 (hold_after_read sample found (holds block.0))
after_answer sample (ask.Write kind block guard) bytes answer.Done holds =
    after_write kind block.0 bytes holds
after_answer sample (ask.Write kind block guard) bytes answer.Fault holds = no_holds
after_answer sample (ask.Write kind block guard) bytes (answer.Missed reading) holds = no_holds
after_answer sample ask bytes (answer.Reading reading) holds =
    λ block. hold_after_reading reading (holds block)
after_answer sample ask bytes other holds = holds

-- the reading that an answer is
abbrev pub sample_of : Answer → Option ℕ
sample_of (answer.Reading reading) = Some reading
sample_of other = None

-- the last reading once an ask is answered so: where the answer is none, the one before
abbrev pub latest_after : Answer → (latest : ℕ) → ℕ
latest_after (answer.Reading reading) latest = reading
latest_after other latest = latest

-- what is held after a reply: after Lost nothing
abbrev pub holds_after_reply : Reply → (ℕ → Hold) → ℕ → Hold
holds_after_reply (reply.Lost lease until reading) holds = no_holds
holds_after_reply other holds = holds

-- the first reading of a command drops a lease without a session
-- that it has reached; and no claim of an earlier command goes on
abbrev pub first_hold : Option Session → (reading : ℕ) → Hold → Hold
first_hold None reading (Held claim until) =
    if nat_le until reading then Nothing else Held claim until
first_hold (Some session) reading (Held claim until) = Held claim until
first_hold session reading other = Nothing

-- the session of the image whose lease a block is; no other lease has one
abbrev pub session_at : Geometry → Known → (block : ℕ) → Option Session
session_at g known block =
    if nat_le 2 block && nat_lt block (2 + g.images) then known.sessions (block - 2) else None

-- what is held after the first reading of a command
abbrev pub after_first : Geometry → Known → (reading : ℕ) → (ℕ → Hold) → ℕ → Hold
after_first g known reading holds =
    λ block. first_hold (session_at g known block) reading (holds block)
