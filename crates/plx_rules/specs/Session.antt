-- What an appliance knows between commands: its sessions, and how many claims it began.
use Rattle.std.specs.Prelude.{◌+◌, ℕ, List, [], ◌∷◌, ◌++◌, length, Option, Some, None, nat_lt}
use Rattle.std.specs.Prelude.{if◌then◌else◌, ◌==◌}
use Rattle.plx_base.specs.Blocks.{zeros}
use Rattle.plx_commands.specs.declared.reply.Report.{Report}
use Rattle.plx_commands.specs.Places.{at}
use Rattle.plx_rules.specs.Journaled.{Journaled}
use Rattle.plx_gate.specs.Images.{label_of}
use Rattle.plx_gate.specs.declared.image.ImageRecord.{ImageRecord}
use Rattle.plx_rules.specs.Records.{is_live, generation_of, size_of, applied_of, taken_of}
use Rattle.plx_commands.specs.declared.reply.Reply.{Reply}
use Rattle.plx_commands.specs.declared.reply.Reply.TheVariants as reply

-- a session: the image's record, and the writes that its journal holds, in order of number
pub record Session : Type 0 where
  pub image : ImageRecord
  pub writes : List Journaled

-- what is known: the session of each attached image, and how many claims the boot began
pub record Known : Type 0 where
  pub sessions : ℕ → Option Session
  pub claims : ℕ

-- no session, after so many claims
abbrev pub nothing_known : ℕ → Known
nothing_known claims = record { sessions = λ image. None; claims = claims }

-- what is known once the session of an image is this one, or there is none
abbrev pub with_session : Known → ℕ → Option Session → Known
with_session known image session = record known { sessions = at known.sessions image session }

-- what is known once one more claim is begun
abbrev pub with_claim : Known → Known
with_claim known = record known { claims = known.claims + 1 }

-- a session of an image that was just made or deleted
abbrev pub new_session : ImageRecord → Session
new_session image = record { image = image; writes = [] }

-- the writes once one more was read from the journal, in order of number
abbrev pub with_write_by_number : Journaled → List Journaled → List Journaled
with_write_by_number new [] = new ∷ []
with_write_by_number new (write ∷ writes) =
    if nat_lt new.number write.number
    then new ∷ write ∷ writes
    else write ∷ with_write_by_number new writes

-- the number of the first of these writes,
-- in order of number, that doesn't follow on the one before it
abbrev pub first_gap : (before : ℕ) → List Journaled → Option ℕ
first_gap before [] = None
first_gap before (write ∷ writes) =
    if write.number == before + 1 then first_gap (before + 1) writes else Some write.number

-- how often the image was written
abbrev pub write_count : Session → ℕ
write_count session = applied_of session.image + length session.writes

-- what an attach reports of it; no snapshot of it was dropped
abbrev pub session_report : Session → Report
session_report session = record {
  live = is_live session.image;
  generation = generation_of session.image;
  size = size_of session.image;
  writes = write_count session;
  taken = taken_of session.image;
  dropped = 0;
  label = label_of session.image;
}

-- what the writes leave in a virtual block that held `before`: the last one counts
abbrev pub latest : (before : List ℕ) → (vblock : ℕ) → List Journaled → List ℕ
latest before vblock [] = before
latest before vblock (write ∷ writes) =
    latest (if vblock == write.vblock then write.block else before) vblock writes

-- what a virtual block of the image holds
abbrev pub content : Session → (vblock : ℕ) → List ℕ
content session vblock = latest zeros vblock session.writes

-- the session once one more write is journalled
abbrev pub with_write : Session → Journaled → Session
with_write session write = record session { writes = session.writes ++ write ∷ [] }

-- what is known once a command ended with this reply:
-- after a lost lease and a failed write no session is left
abbrev pub known_after : Reply → Known → Known
known_after (reply.Lost lease until reading) known = nothing_known known.claims
known_after (reply.WriteFault block) known = nothing_known known.claims
known_after other known = known
