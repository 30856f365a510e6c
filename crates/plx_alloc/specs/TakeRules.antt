-- The taking of blocks of an extent whose lease is held, as work within a command: the rules that it keeps.
use Rattle.std.specs.Prelude.{◌≡◌, ◌<◌, ◌-◌, ℕ, List, [], ◌∷◌, length, take, Bool, Some, None}
use Rattle.plx_base.specs.declared.lease.Claim.{Claim}
use Rattle.plx_base.specs.declared.write_kind.WriteKind.TheVariants as kind
use Rattle.plx_commands.specs.declared.reply.Reply.TheVariants as reply
use Rattle.plx_disk.specs.declared.ask.Ask.TheVariants as ask
use Rattle.plx_disk.specs.declared.ask.Answer.{Answer}
use Rattle.plx_disk.specs.declared.ask.Answer.TheVariants as answer
use Rattle.plx_extent.specs.Maps.{map_bytes}
use Rattle.plx_geom.specs.Geometry.{extent_lease, map_at}
use Rattle.plx_rules.specs.Ends.{End}
use Rattle.plx_rules.specs.InUse.{InUse, first_reached, lease_name}
use Rattle.plx_rules.specs.Process.{Process, Ends}
use Rattle.plx_rules.specs.Session.{nothing_known}
use Rattle.plx_rules.specs.Settings.{Setting}
use Rattle.plx_rules.specs.Space.{Taking, extent_use, free_from, read_map, take_here, with_set, with_taken}
use Rattle.law_run.specs.AllowedAsks.{WentOn}
use Rattle.law_run.specs.CommandLogs.{Exchange, CommandLog, LastAnswered, WasAnswered}
use Rattle.law_run.specs.Holdings.{Holds, hand_by_log}
use Rattle.law_run.specs.Machines.{IsOfBlock, Keeps}

-- what is asked until blocks of an extent are taken; then the command ends so
abbrev pub extent_take_work : Setting → (count extent until : ℕ) → Taking → (follows : Taking → End) → Process End
extent_take_work s count extent until t follows = take_here s count extent until (λ t. Ends (follows t)) t

-- it may begin: the extent's lease is held up to `until`, the take knows what is in hand, and the command has had its first reading and goes on
pub record MayBeginExtentTake (s : Setting) (log : CommandLog) (extent until : ℕ) (t : Taking) : Type 0 where
  pub within : extent < s.geometry.extents
  pub claim : Claim
  pub held : Holds s log (extent_lease s.geometry extent) claim until
  pub hand : hand_by_log s log.before log.exchanges ≡ t.hand
  pub first : Exchange
  pub others : List Exchange
  pub begun : log.exchanges ≡ first ∷ others
  pub went : WentOn log.exchanges

-- the blocks that are to be taken, where the map has these bits
abbrev pub blocks_taken : Setting → (count extent : ℕ) → Taking → List Bool → List ℕ
blocks_taken s count extent t bits = take (count - length t.hand) (free_from t.hand (map_at s.geometry extent) bits)

-- the write of the map was answered so, and no other ask since
abbrev pub TakeAnswered : Setting → CommandLog → (extent until : ℕ) → List ℕ → Answer → Type 0
TakeAnswered s log extent until bytes answer = LastAnswered log (ask.Write kind.Take (record { 0 = map_at s.geometry extent }) until) bytes answer

-- a lease in use is lost
abbrev pub take_lost : Setting → Taking → InUse → (reading : ℕ) → End
take_lost s t due reading = record { reply = reply.Lost (lease_name s.geometry due.lease) due.until reading; known = nothing_known t.known.claims }

-- why it ends so: no block is taken, or the map was written with the bits of the free blocks set, the lowest first, and the command goes on; or the read or the
-- write failed, the write was missed, or the map's bytes were outside the format, and the reading after that has reached a lease in use or not
pub data ShowsExtentTake (s : Setting) (count extent until : ℕ) (t : Taking) (follows : Taking → End) (log : CommandLog) : End → Type 0 where
  none_taken : (bytes : List ℕ) (bits : List Bool) → LastAnswered log (ask.Read (record { 0 = map_at s.geometry extent })) [] (answer.Bytes bytes) →
      read_map s.geometry.extent_blocks bytes ≡ Some bits → blocks_taken s count extent t bits ≡ [] → ShowsExtentTake s count extent until t follows log (follows t)
  some_taken : (bits : List Bool) (blocks : List ℕ) → blocks_taken s count extent t bits ≡ blocks →
      TakeAnswered s log extent until (map_bytes (with_set blocks (map_at s.geometry extent) bits)) answer.Done →
      ShowsExtentTake s count extent until t follows log (follows (with_taken t blocks))
  unread : LastAnswered log (ask.Read (record { 0 = map_at s.geometry extent })) [] answer.Fault →
      ShowsExtentTake s count extent until t follows log (record { reply = reply.ReadFault (record { 0 = map_at s.geometry extent }); known = t.known })
  unwritten : (bytes : List ℕ) → TakeAnswered s log extent until bytes answer.Fault →
      ShowsExtentTake s count extent until t follows log
      (record { reply = reply.WriteFault (record { 0 = map_at s.geometry extent }); known = nothing_known t.known.claims })
  missed : (bytes : List ℕ) (reading : ℕ) → TakeAnswered s log extent until bytes (answer.Missed reading) →
      ShowsExtentTake s count extent until t follows log (take_lost s t (extent_use s.geometry extent until) reading)
  reached : (due : InUse) (reading : ℕ) → LastAnswered log ask.Clock [] (answer.Reading reading) →
      first_reached (extent_use s.geometry extent until ∷ t.uses) reading ≡ Some due →
      ShowsExtentTake s count extent until t follows log (take_lost s t due reading)
  damaged : (bytes : List ℕ) (reading : ℕ) → WasAnswered log (ask.Read (record { 0 = map_at s.geometry extent })) [] (answer.Bytes bytes) →
      read_map s.geometry.extent_blocks bytes ≡ None → LastAnswered log ask.Clock [] (answer.Reading reading) →
      first_reached (extent_use s.geometry extent until ∷ t.uses) reading ≡ None →
      ShowsExtentTake s count extent until t follows log (record { reply = reply.Damaged (record { 0 = map_at s.geometry extent }); known = t.known })

-- how many of its asks are answered at most
abbrev pub extent_take_bound : ℕ
extent_take_bound = 2

-- it keeps the rules, whatever its answers are: its asks are allowed and of the extent's map alone, at most two are answered, and its end has its cause
abbrev pub ExtentTakesKeepRules : Type 0
ExtentTakesKeepRules = (s : Setting) (log : CommandLog) (count extent until : ℕ) (t : Taking) (follows : Taking → End) → MayBeginExtentTake s log extent until t →
    Keeps s log (IsOfBlock (map_at s.geometry extent)) extent_take_bound (ShowsExtentTake s count extent until t follows) (extent_take_work s count extent until t follows)
