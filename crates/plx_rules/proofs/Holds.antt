-- What a reading and an answer leave of the leases that are held.
use Rattle.std.proofs.Common.{◌≡◌, ℕ, ◌+◌, ◌≤◌, ◌<◌, Bool, true, false, Option, Some, None, arith, inl, inr}
use Rattle.std.proofs.lemmas.Bool.Decides.{leb_tells}
use Rattle.std.specs.Prelude.{◌&&◌, if◌then◌else◌, nat_le, nat_lt}
use Rattle.plx_base.specs.declared.lease.Claim.{Claim}
use Rattle.plx_commands.specs.declared.reply.Reply.{Reply}
use Rattle.plx_commands.specs.declared.reply.Reply.TheVariants as reply
use Rattle.plx_rules.specs.Boot.{after_process}
use Rattle.plx_rules.specs.Commands.{later_of}
use Rattle.plx_rules.specs.Ends.{End}
use Rattle.plx_rules.specs.Holds.{Hold, Nothing, Seen, Wrote, Waited, Held, first_hold, hold_after_reading, holds_after_reply}
use Rattle.plx_rules.specs.Process.{Process, Ends, ReadThen, WriteThen, ClockThen, UntilThen}
use Rattle.plx_rules.specs.Session.{Session}
use Rattle.plx_rules.specs.Times.{wait}

-- where nothing is held, no claim holds
pub nothing-held : {A : Type 0} (claim : Claim) (until : ℕ) → Nothing ≡ Held claim until → A
nothing-held claim until e = absurd (let P : ⊥ = cc in P)

-- what is held after a command's first reading was held before
pub first-held : (session : Option Session) (reading : ℕ) (hold : Hold) (claim : Claim) (until : ℕ) → first_hold session reading hold ≡ Held claim until → hold ≡ Held claim until
first-held None reading (Held c u) claim until e = by_test (nat_le u reading) e
  where
    by_test : (a : Bool) → (if a then Nothing else Held c u) ≡ Held claim until → Held c u ≡ Held claim until
    by_test true e' = nothing-held claim until e'
    by_test false e' = e'
first-held (Some session) reading (Held c u) claim until e = e
first-held None reading Nothing claim until e = e
first-held None reading (Seen s) claim until e = nothing-held claim until e
first-held None reading (Wrote c u) claim until e = nothing-held claim until e
first-held None reading (Waited c u) claim until e = nothing-held claim until e
first-held (Some session) reading Nothing claim until e = e
first-held (Some session) reading (Seen s) claim until e = nothing-held claim until e
first-held (Some session) reading (Wrote c u) claim until e = nothing-held claim until e
first-held (Some session) reading (Waited c u) claim until e = nothing-held claim until e

-- what is held after a reading was held before
pub timed-held : (reading : ℕ) (hold : Hold) (claim : Claim) (until : ℕ) → hold_after_reading reading hold ≡ Held claim until → hold ≡ Held claim until
timed-held reading (Wrote c u) claim until e = by_tests (nat_le (c.sample + wait) reading) (nat_lt reading u) e
  where
    by_tests : (a b : Bool) → (if a && b then Waited c u else Wrote c u) ≡ Held claim until → Wrote c u ≡ Held claim until
    by_tests false b e' = e'
    by_tests true false e' = e'
    by_tests true true e' = absurd (let P : ⊥ = cc in P)
timed-held reading Nothing claim until e = e
timed-held reading (Seen s) claim until e = e
timed-held reading (Waited c u) claim until e = e
timed-held reading (Held c u) claim until e = e

-- what is held where a process of a command has come was held before
pub process-held : (process : Process End) (holds : ℕ → Hold) (block : ℕ) (claim : Claim) (until : ℕ) → after_process process holds block ≡ Held claim until → holds block ≡ Held claim until
process-held (Ends end) holds block claim until e = by_reply end.reply e
  where
    by_reply : (r : Reply) → holds_after_reply r holds block ≡ Held claim until → holds block ≡ Held claim until
    by_reply (reply.Lost lease u reading) e' = nothing-held claim until e'
    by_reply other e' = e'
process-held (ReadThen b rest fault) holds block claim until e = e
process-held (WriteThen k b bytes guard done fault missed) holds block claim until e = e
process-held (ClockThen rest) holds block claim until e = e
process-held (UntilThen from rest) holds block claim until e = e

-- the later of two ends isn't before the first, and is below what both are below
pub later-least : (a b : ℕ) → a ≤ later_of a b
later-least a b = elim (leb_tells a b) [ inl below ↦ rw below.0 below.1 | inr not' ↦ rw not'.0 (omega arith) ]

pub later-below : (a b m : ℕ) → a < m → b < m → later_of a b < m
later-below a b m one other = elim (leb_tells a b) [ inl below ↦ rw below.0 other | inr not' ↦ rw not'.0 one ]
