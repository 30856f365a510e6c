-- How a command ends, and what ends it at its asks.
use Rattle.std.specs.Prelude.{ℕ, List}
use Rattle.plx_base.specs.declared.write_kind.WriteKind.{WriteKind}
use Rattle.plx_commands.specs.declared.reply.Reply.{Reply}
use Rattle.plx_commands.specs.declared.reply.Reply.TheVariants as reply
use Rattle.plx_rules.specs.Process.{Process, Ends, ReadThen, WriteThen, ClockThen}
use Rattle.plx_rules.specs.InUse.{InUse, lease_name, first_reached, unless_reached}
use Rattle.plx_rules.specs.Session.{Known, nothing_known}
use Rattle.plx_rules.specs.Settings.{Setting}

-- the reply of a command, and what is known from then on
pub record End : Type 0 where
  pub reply : Reply
  pub known : Known

-- a command that is over
abbrev pub ends : Reply → Known → Process End
ends reply known = Ends (record { reply = reply; known = known })

-- a lease in use is lost: no session is left
abbrev pub lost_process : Setting → Known → InUse → (reading : ℕ) → Process End
lost_process s known due reading =
    ends (reply.Lost (lease_name s.geometry due.lease) due.until reading)
    (nothing_known known.claims)

-- a read failed: what is known stays
abbrev pub read_failed : (block : ℕ) → Known → Process End
read_failed block known = ends (reply.ReadFault (record { 0 = block })) known

-- a write failed: no session is left
abbrev pub write_failed : (block : ℕ) → Known → Process End
write_failed block known =
    ends (reply.WriteFault (record { 0 = block })) (nothing_known known.claims)

-- a read of a command
abbrev pub read_then : (block : ℕ) → Known → (List ℕ → Process End) → Process End
read_then block known rest = ReadThen block rest (read_failed block known)

-- a write of a command: its guard is the end of the
-- lease on which it rests, of several the one to be named
abbrev pub write_then : Setting → Known → InUse → WriteKind →
    (block : ℕ) → List ℕ → (done : Process End) → Process End
write_then s known due kind block bytes done =
    WriteThen kind block bytes due.until done (write_failed block known)
    (λ reading. lost_process s known due reading)

-- what is asked where a reading has reached no lease in use
abbrev pub in_time : Setting → Known → List InUse → (reading : ℕ) → Process End → Process End
in_time s known uses reading process =
    unless_reached (first_reached uses reading) (λ due. lost_process s known due reading) process

-- a reply that comes after one more reading, which has reached no lease in use
abbrev pub ends_in_time : Setting → Known → List InUse → Reply → Known → Process End
ends_in_time s known uses reply after =
    ClockThen (λ reading. in_time s known uses reading (ends reply after))

-- bytes outside the format were read at a block
abbrev pub damaged_process : Setting → Known → List InUse → (block : ℕ) → Process End
damaged_process s known uses block =
    ends_in_time s known uses (reply.Damaged (record { 0 = block })) known
