-- One boot of an appliance by its log: what it was asked
-- and answered, where that leads, and what it holds.
use Rattle.std.specs.Prelude.{◌≡◌, ◌^◌, ◌≤◌, ◌<◌, ℕ, List, [], ◌∷◌, length, Option, Some, None}
use Rattle.plx_commands.specs.declared.command.Command.{Command}
use Rattle.plx_commands.specs.declared.reply.Reply.{Reply}
use Rattle.plx_disk.specs.declared.ask.Ask.{Ask}
use Rattle.plx_disk.specs.declared.ask.Ask.TheVariants as ask
use Rattle.plx_disk.specs.declared.ask.Answer.{Answer}
use Rattle.plx_disk.specs.declared.ask.Answer.TheVariants as answer
use Rattle.plx_geom.specs.Geometry.{Geometry}
use Rattle.plx_rules.specs.Process.{Process, Ends, ReadThen, WriteThen, ClockThen, UntilThen}
use Rattle.plx_rules.specs.Process.{answered, standing, bytes_out}
use Rattle.plx_rules.specs.Commands.{IsBuilt, IsWellFormed, command_process}
use Rattle.plx_rules.specs.Ends.{End}
use Rattle.plx_rules.specs.Hands.{found_by, filled_answered, filled_held, hand_answered, hand_held}
use Rattle.plx_rules.specs.Hands.{hand_left}
use Rattle.plx_rules.specs.Holds.{Hold, no_holds, after_answer, sample_of, latest_after}
use Rattle.plx_rules.specs.Holds.{holds_after_reply, after_first}
use Rattle.plx_rules.specs.Session.{Known, nothing_known}
use Rattle.plx_rules.specs.Settings.{Setting}

-- what happened to a boot: a command began, or an ask, with the bytes to be written, was answered
pub data BootEntry : Type 0 where
  Began : Command → BootEntry
  Asked : Ask → List ℕ → Answer → BootEntry

-- a boot is in no command; or has begun one and asks for its first reading;
-- or is in one, of which this is the rest; with what was known as it began
pub data Place : Type 0 where
  Idle : Known → Place
  Begins : Known → Command → Place
  In : Known → Command → Process End → Place

-- what a boot holds, by the block of each lease; the blocks in its hand, in the order in which
-- they were taken; those that it filled since its last link, with their bytes; its last answer,
-- where that was a reading; the block that it read last, with the bytes, where its last
-- ask was a read; the last reading of any command, 0 before the first; and where it stands
pub record Configuration : Type 0 where
  pub holds : ℕ → Hold
  pub hand : List ℕ
  pub filled : List (ℕ × List ℕ)
  pub sample : Option ℕ
  pub found : Option (ℕ × List ℕ)
  pub latest : ℕ
  pub place : Place

-- the place of a boot that is in a command of which this is the rest: where that is over, in none
abbrev pub place_of : Known → Command → Process End → Place
place_of known command (Ends end) = Idle end.known
place_of known command (ReadThen block rest fault) = In known command (ReadThen block rest fault)
place_of known command (WriteThen kind block bytes guard done fault missed) =
    In known command (WriteThen kind block bytes guard done fault missed)
place_of known command (ClockThen rest) = In known command (ClockThen rest)
place_of known command (UntilThen from rest) = In known command (UntilThen from rest)

-- what is held where this is the rest of a command: its reply may drop all
abbrev pub after_process : Process End → (ℕ → Hold) → ℕ → Hold
after_process (Ends end) holds = holds_after_reply end.reply holds
after_process other holds = holds

-- the configuration at which this is the rest of a command:
-- of the hand that stays whose extents are held
abbrev pub goes_to : Geometry → Known → Command → (ℕ → Hold) → List ℕ → List (ℕ × List ℕ) →
    Option ℕ → Option (ℕ × List ℕ) → (latest : ℕ) → Process End → Configuration
goes_to g known command holds hand filled sample found latest process = record {
  holds = after_process process holds;
  hand = hand_held g (after_process process holds) hand;
  filled = filled_held g (after_process process holds) filled;
  sample = sample;
  found = found;
  latest = latest;
  place = place_of known command process;
}

-- the place once a command begins; it begins where none runs
abbrev pub place_after_begin : Command → Place → Place
place_after_begin command (Idle known) = Begins known command
place_after_begin command other = other

-- what a command asks after its first reading:
-- that drops expired leases, and the blocks in hand of their extents
abbrev pub first_process : Setting → Known → (reading : ℕ) → Command → Configuration → Process End
first_process s known reading command p =
    command_process s known (after_first s.geometry known reading p.holds)
    (hand_held s.geometry (after_first s.geometry known reading p.holds) p.hand) reading command

-- the first reading of a command drops expired leases, and then the command asks
abbrev pub first_read : Setting → Known → Command → Answer → Configuration → Configuration
first_read s known command (answer.Reading reading) p =
    goes_to s.geometry known command (after_first s.geometry known reading p.holds)
    p.hand [] (Some reading) None reading
    (first_process s known reading command p)
first_read s known command other p = p

-- where an answer leads from a place
abbrev pub went_on : Setting → Ask → List ℕ → Answer → Configuration → Place → Configuration
went_on s ask bytes answer p (Idle known) = p
went_on s ask bytes answer p (Begins known command) = first_read s known command answer p
went_on s ask bytes answer p (In known command process) =
    goes_to s.geometry known command (after_answer p.sample ask bytes answer p.holds)
    (hand_left ask p.filled (hand_answered s.geometry p.found ask bytes answer p.hand))
    (filled_answered ask bytes answer p.filled)
    (sample_of answer) (found_by ask answer)
    (latest_after answer p.latest) (answered process answer)

-- where a boot stands after its log, whose newest entry stands first
abbrev pub configuration : Setting → List BootEntry → Configuration
configuration s [] = record {
  holds = no_holds;
  hand = [];
  filled = [];
  sample = None;
  found = None;
  latest = 0;
  place = Idle (nothing_known 0);
}
configuration s (Began command ∷ older) = record (configuration s older) {
  sample = None;
  found = None;
  place = place_after_begin command (configuration s older).place;
}
configuration s (Asked ask bytes answer ∷ older) =
    went_on s ask bytes answer (configuration s older) (configuration s older).place

-- the ask that stands at a place
abbrev pub asks : Place → Option Ask
asks (Idle known) = None
asks (Begins known command) = Some ask.Clock
asks (In known command process) = standing process

-- the bytes that the ask at a place writes
abbrev pub writes_out : Place → List ℕ
writes_out (Idle known) = []
writes_out (Begins known command) = []
writes_out (In known command process) = bytes_out process

-- the reply to which a rest has come, if it has
abbrev pub reply_of : Process End → Option Reply
reply_of (Ends end) = Some end.reply
reply_of (ReadThen block rest fault) = None
reply_of (WriteThen kind block bytes guard done fault missed) = None
reply_of (ClockThen rest) = None
reply_of (UntilThen from rest) = None

-- the reply to which an answer leads
abbrev pub first_reply : Setting → Known → Command → Answer → Configuration → Option Reply
first_reply s known command (answer.Reading reading) p =
    reply_of (first_process s known reading command p)
first_reply s known command other p = None

-- the same, at any place
abbrev pub replies_at : Setting → Answer → Configuration → Place → Option Reply
replies_at s answer p (Idle known) = None
replies_at s answer p (Begins known command) = first_reply s known command answer p
replies_at s answer p (In known command process) = reply_of (answered process answer)

-- the same, at a configuration
abbrev pub replies : Setting → Answer → Configuration → Option Reply
replies s answer p = replies_at s answer p p.place

-- an answer fits an ask: a block of 4,096 bytes, a reading below 2 ^ 48 that is past
-- the guard where a write is missed, and at least `from` where it was waited for
abbrev pub Fits : Ask → Answer → Type 0
Fits (ask.Read block) (answer.Bytes bytes) = length bytes ≡ 4096
Fits (ask.Read block) answer.Fault = Unit {0}
Fits (ask.Write kind block guard) answer.Done = Unit {0}
Fits (ask.Write kind block guard) answer.Fault = Unit {0}
Fits (ask.Write kind block guard) (answer.Missed reading) = (guard < reading) × (reading < 2 ^ 48)
Fits ask.Clock (answer.Reading reading) = reading < 2 ^ 48
Fits (ask.Until from) (answer.Reading reading) = (from ≤ reading) × (reading < 2 ^ 48)
Fits ask other = ⊥

-- a log is a run: each command began where none ran, and each answer is to the ask that stood there
pub data IsRun (s : Setting) : List BootEntry → Type 0 where
  empty : IsRun s []
  begins : {log : List BootEntry} {command : Command} (known : Known) →
      IsRun s log → (configuration s log).place ≡ Idle known →
      IsWellFormed command → IsBuilt command → IsRun s (Began command ∷ log)
  goes_on : {log : List BootEntry} {ask : Ask} {bytes : List ℕ} {answer : Answer} → IsRun s log →
      asks (configuration s log).place ≡ Some ask →
      writes_out (configuration s log).place ≡ bytes → Fits ask answer →
      IsRun s (Asked ask bytes answer ∷ log)
