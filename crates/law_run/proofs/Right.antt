-- What the rest of a command keeps, however it is answered.
use Rattle.std.proofs.Common.{◌≡◌, ℕ, ◌+◌, ◌≤◌, ◌<◌, List, [], ◌∷◌, length, drop, true, false, Option, Some, None}
use Rattle.std.specs.Prelude.{slice_get}
use Rattle.plx_base.specs.Blocks.{zeros}
use Rattle.plx_base.specs.declared.lease.Claim.{Claim}
use Rattle.plx_commands.specs.declared.command.Command.{Command}
use Rattle.plx_commands.specs.declared.reply.Reply.{Reply}
use Rattle.plx_disk.specs.declared.ask.Ask.{Ask}
use Rattle.plx_disk.specs.declared.ask.Ask.TheVariants as ask
use Rattle.plx_disk.specs.declared.ask.Answer.TheVariants as answer
use Rattle.plx_gate.specs.declared.descriptor.Descriptor.{Descriptor}
use Rattle.plx_geom.specs.Geometry.{Geometry, image_lease, lease_at, descriptor_at, data_at}
use Rattle.plx_rules.specs.Process.{Process}
use Rattle.plx_rules.specs.Journaled.{Journaled}
use Rattle.plx_rules.specs.Ends.{End}
use Rattle.plx_rules.specs.Holds.{Hold, Held}
use Rattle.plx_rules.specs.Journal.{journal_slot, descriptor_of}
use Rattle.plx_rules.specs.Records.{is_plain, applied_of}
use Rattle.plx_rules.specs.Session.{Session, Known}
use Rattle.plx_rules.specs.Settings.{Setting}
use Rattle.plx_rules.specs.Stored.{Given, record_on, CountsIn}
use Rattle.law_run.specs.AllowedAsks.{last_known, MayAsk}
use Rattle.law_run.specs.Causes.{MayFollow}
use Rattle.law_run.specs.CommandLogs.{Exchange, Finished, CommandLog}
use Rattle.law_run.specs.Holdings.{holds_after, claims_begun}
use Rattle.law_run.specs.KnownBytes.{given_after}
use Rattle.law_run.specs.Replies.{IsReplied}
use Rattle.law_run.specs.Sessions.{is_attached}
use Rattle.law_run.proofs.Meets.{exchange, Meets}
use Rattle.law_run.specs.Senses.{IsAny}

-- a reading of the clock, and the read of a block
abbrev pub clock : ℕ → Exchange
clock reading = exchange ask.Clock [] (answer.Reading reading)

abbrev pub read_of : (block : ℕ) → List ℕ → Exchange
read_of block bytes = exchange (ask.Read (record { 0 = block })) [] (answer.Bytes bytes)

-- a session is what its image's known bytes store: its writes are those that count, numbered without a gap
pub record FitsSession (g : Geometry) (given : Given) (image : ℕ) (session : Session) : Type 0 where
  pub within : image < g.images
  pub found : record_on g given image ≡ Some session.image
  pub plain : is_plain session.image ≡ true
  pub room : length session.writes ≤ g.slots
  pub numbers : (k : ℕ) (write : Journaled) → slice_get session.writes k ≡ Some write → write.number ≡ applied_of session.image + (k + 1)
  pub counts : (k : ℕ) (write : Journaled) → slice_get session.writes k ≡ Some write →
      CountsIn g given image session.image (journal_slot g.slots write.number) (descriptor_of session.image write)
  pub blocks : (k : ℕ) (write : Journaled) → slice_get session.writes k ≡ Some write →
      given (data_at g image (journal_slot g.slots write.number)) ≡ Some write.block
  pub only : (slot : ℕ) (d : Descriptor) → CountsIn g given image session.image slot d →
      (k : ℕ) × (write : Journaled) × (slice_get session.writes k ≡ Some write) × (d ≡ descriptor_of session.image write)
  pub whole : (slot : ℕ) → slot < g.slots → drop 512 (last_known (given (descriptor_at g image slot))) ≡ drop 512 zeros

-- a lease is held
abbrev pub IsHeld : Hold → Type 0
IsHeld hold = (claim : Claim) × (until : ℕ) × (hold ≡ Held claim until)

-- what is known of a slot fits the commands so far
abbrev pub FitsAt : Setting → List Finished → ℕ → Option Session → Type 0
FitsAt s before image None = is_attached before image ≡ false
FitsAt s before image (Some session) =
    (is_attached before image ≡ true) × FitsSession s.geometry (given_after s.geometry before image) image session
    × IsHeld (holds_after s.geometry before (lease_at (image_lease image)))

-- what is known between commands fits them
pub record Rests (s : Setting) (before : List Finished) (known : Known) : Type 0 where
  pub sessions : (image : ℕ) → FitsAt s before image (known.sessions image)
  pub claims : known.claims ≡ claims_begun s.geometry before

abbrev pub log_on : List Finished → Command → List Exchange → CommandLog
log_on before command done = record { before = before; command = command; exchanges = done }

abbrev pub finish : Command → List Exchange → Reply → Finished
finish command done reply = record { command = command; exchanges = done; reply = reply }

-- an ask of a command is allowed after these exchanges
abbrev pub MayByRules : Setting → List Finished → Command → List Exchange → Ask → List ℕ → Type 0
MayByRules s before command done a bytes = MayAsk s (log_on before command done) a bytes

-- and it may follow on what they met
abbrev pub MayByCauses : Setting → List Finished → Command → List Exchange → Ask → List ℕ → Type 0
MayByCauses s before command done a bytes = MayFollow s (log_on before command done) a

-- after these exchanges of a command, with so many answers left, each ask of its rest is allowed and follows on what was met, each of its replies is right,
-- and what it leaves known fits
abbrev pub May : Setting → List Finished → Command → List Exchange → Ask → List ℕ → Type 0
May s before command done a bytes = MayByRules s before command done a bytes × MayByCauses s before command done a bytes

abbrev pub Shows : Setting → List Finished → Command → List Exchange → End → Type 0
Shows s before command done end = IsReplied s IsAny (log_on before command done) end.reply × Rests s (finish command done end.reply ∷ before) end.known

abbrev pub Right : Setting → List Finished → Command → List Exchange → Process End → ℕ → Type 0
Right s before command done process n = Meets (May s before command) (Shows s before command) done process n
