-- What is held is within the limits of leases.
use Rattle.std.proofs.Common.{◌≡◌, ℕ, ◌+◌, List, [], ◌∷◌, Bool, true, false, Option, Some, None, refl, inl, inr}
use Rattle.std.specs.Prelude.{if◌then◌else◌, nat_le, nat_lt, ◌&&◌}
use Rattle.std.specs.Str.{bytes_eq}
use Rattle.std.proofs.lemmas.Bool.Decides.{eqb_tells}
use Rattle.plx_base.specs.declared.lease.LeaseRecord.{LeaseRecord}
use Rattle.plx_base.specs.declared.lease.LeaseRecord.TheVariants.{Free, Claimed}
use Rattle.plx_base.specs.declared.write_kind.WriteKind.{WriteKind}
use Rattle.plx_base.specs.declared.write_kind.WriteKind.TheVariants as kind
use Rattle.plx_commands.specs.Places.{at}
use Rattle.plx_commands.specs.declared.reply.Reply.{Reply}
use Rattle.plx_commands.specs.declared.reply.Reply.TheVariants as reply
use Rattle.plx_disk.specs.declared.ask.Ask.{Ask}
use Rattle.plx_disk.specs.declared.ask.Ask.TheVariants as ask
use Rattle.plx_disk.specs.declared.ask.Answer.{Answer}
use Rattle.plx_disk.specs.declared.ask.Answer.TheVariants as answer
use Rattle.plx_gate.specs.Leases.{lease_bytes, read_lease, IsClaimed}
use Rattle.plx_gate.proofs.Leases.{lease-only}
use Rattle.plx_geom.specs.Geometry.{Geometry, lease_at}
use Rattle.plx_rules.specs.Holds.{Hold, Nothing, Seen, Wrote, Waited, Held, hold_after_claim, hold_after_renewal, after_write, hold_after_reread, seen_by, seen_for, hold_after_read, hold_after_reading, after_answer, holds_after_reply, sample_of}
use Rattle.plx_rules.specs.Settings.{Setting}
use Rattle.plx_rules.specs.Times.{wait, is_expired}
use Rattle.law_run.specs.CommandLogs.{Exchange, Finished}
use Rattle.law_run.specs.Holdings.{lease_attached, at_first, after_first_answer, holds_along, holds_after, hold_by_log}
use Rattle.law_run.specs.Sessions.{is_attached}

-- the claim of a hold is within its limits
abbrev pub Limited : Hold → Type 0
Limited Nothing = Unit {0}
Limited (Seen sample) = Unit {0}
Limited (Wrote claim until) = IsClaimed claim until
Limited (Waited claim until) = IsClaimed claim until
Limited (Held claim until) = IsClaimed claim until

abbrev AllLimited : (ℕ → Hold) → Type 0
AllLimited holds = (block : ℕ) → Limited (holds block)

by-flag : (test : Bool) (a b : Hold) → Limited a → Limited b → Limited (if test then a else b)
by-flag true a b one other = one
by-flag false a b one other = other

limited-at : (holds : ℕ → Hold) (place : ℕ) (hold : Hold) → Limited hold → AllLimited holds → AllLimited (at holds place hold)
limited-at holds place hold new old block = elim (eqb_tells block place) [ inl same ↦ rw same.0 new | inr other ↦ rw other.0 (old block) ]

limited-wrote : (bytes : List ℕ) (found : Option LeaseRecord) → read_lease bytes ≡ found → Limited (hold_after_claim found)
limited-wrote bytes None e = tt
limited-wrote bytes (Some Free) e = tt
limited-wrote bytes (Some (Claimed claim until)) e = (lease-only bytes (Claimed claim until) e).0

limited-renewed : (bytes : List ℕ) (found : Option LeaseRecord) → read_lease bytes ≡ found → Limited (hold_after_renewal found)
limited-renewed bytes None e = tt
limited-renewed bytes (Some Free) e = tt
limited-renewed bytes (Some (Claimed claim until)) e = (lease-only bytes (Claimed claim until) e).0

limited-write : (k : WriteKind) (block : ℕ) (bytes : List ℕ) (holds : ℕ → Hold) → AllLimited holds → AllLimited (after_write k block bytes holds)
limited-write kind.Claim block bytes holds old = limited-at holds block (hold_after_claim (read_lease bytes)) (limited-wrote bytes (read_lease bytes) refl) old
limited-write kind.Renew block bytes holds old = limited-at holds block (hold_after_renewal (read_lease bytes)) (limited-renewed bytes (read_lease bytes) refl) old
limited-write kind.Release block bytes holds old = limited-at holds block Nothing tt old
limited-write k block bytes holds old = old

limited-seen : (found : Option LeaseRecord) (sample : ℕ) → Limited (seen_by found sample)
limited-seen None sample = tt
limited-seen (Some lease) sample = by-flag (is_expired lease sample) (Seen sample) Nothing tt tt

limited-for : (sample : Option ℕ) (bytes : List ℕ) → Limited (seen_for sample bytes)
limited-for None bytes = tt
limited-for (Some sample) bytes = limited-seen (read_lease bytes) sample

limited-reread : (same : Bool) (hold : Hold) → Limited hold → Limited (hold_after_reread same hold)
limited-reread true hold old = old
limited-reread false hold old = tt

limited-shown : (sample : Option ℕ) (bytes : List ℕ) (hold : Hold) → Limited hold → Limited (hold_after_read sample bytes hold)
limited-shown sample bytes (Waited claim until) old = limited-reread (bytes_eq bytes (lease_bytes (Claimed claim until))) (Held claim until) old
limited-shown sample bytes (Held claim until) old = old
limited-shown sample bytes Nothing old = limited-for sample bytes
limited-shown sample bytes (Seen s) old = limited-for sample bytes
limited-shown sample bytes (Wrote claim until) old = limited-for sample bytes

limited-timed : (reading : ℕ) (hold : Hold) → Limited hold → Limited (hold_after_reading reading hold)
limited-timed reading (Wrote claim until) old = by-flag (nat_le (claim.sample + wait) reading && nat_lt reading until) (Waited claim until) (Wrote claim until) old old
limited-timed reading Nothing old = tt
limited-timed reading (Seen s) old = tt
limited-timed reading (Waited claim until) old = old
limited-timed reading (Held claim until) old = old

limited-answer : (sample : Option ℕ) (a : Ask) (bytes : List ℕ) (x : Answer) (holds : ℕ → Hold) → AllLimited holds → AllLimited (after_answer sample a bytes x holds)
limited-answer sample (ask.Read block) bytes (answer.Bytes found) holds old = limited-at holds block.0 (hold_after_read sample found (holds block.0)) (limited-shown sample found (holds block.0) (old block.0)) old
limited-answer sample (ask.Write k block guard) bytes answer.Done holds old = limited-write k block.0 bytes holds old
limited-answer sample (ask.Write k block guard) bytes answer.Fault holds old = λ b. tt
limited-answer sample (ask.Write k block guard) bytes (answer.Missed reading) holds old = λ b. tt
limited-answer sample a bytes (answer.Reading reading) holds old = λ b. limited-timed reading (holds b) (old b)
limited-answer sample a bytes x holds old = old

limited-first : (attached : Bool) (reading : ℕ) (hold : Hold) → Limited hold → Limited (at_first attached reading hold)
limited-first false reading (Held claim until) old = by-flag (nat_le until reading) Nothing (Held claim until) tt old
limited-first true reading (Held claim until) old = old
limited-first attached reading hold old = tt

limited-begun : (g : Geometry) (attached : ℕ → Bool) (x : Answer) (holds : ℕ → Hold) → AllLimited holds → AllLimited (after_first_answer g attached x holds)
limited-begun g attached (answer.Reading reading) holds old = λ b. limited-first (lease_attached g attached b) reading (holds b) (old b)
limited-begun g attached x holds old = old

pub limited-along : (g : Geometry) (attached : ℕ → Bool) (begin : ℕ → Hold) (done : List Exchange) → AllLimited begin → AllLimited (holds_along g attached begin done)
limited-along g attached begin [] old = old
limited-along g attached begin (x ∷ []) old = limited-begun g attached x.answer begin old
limited-along g attached begin (x ∷ y ∷ older) old =
    limited-answer (sample_of y.answer) x.ask x.bytes x.answer (holds_along g attached begin (y ∷ older)) (limited-along g attached begin (y ∷ older) old)

limited-reply : (r : Reply) (holds : ℕ → Hold) → AllLimited holds → AllLimited (holds_after_reply r holds)
limited-reply (reply.Lost lease until reading) holds old = λ b. tt
limited-reply r holds old = old

pub limited-after : (g : Geometry) (before : List Finished) → AllLimited (holds_after g before)
limited-after g [] = λ b. tt
limited-after g (f ∷ before) =
    limited-reply f.reply (holds_along g (is_attached before) (holds_after g before) f.exchanges)
    (limited-along g (is_attached before) (holds_after g before) f.exchanges (limited-after g before))

-- what is held of a lease
pub is-limited : (s : Setting) (before : List Finished) (done : List Exchange) (lease : ℕ) → Limited (hold_by_log s before done lease)
is-limited s before done lease = limited-along s.geometry (is_attached before) (holds_after s.geometry before) done (limited-after s.geometry before) (lease_at lease)
