-- The giving back of an extent's blocks, as work within a command: the rules that it keeps.
use Rattle.std.specs.Prelude.{◌≡◌, ◌<◌, ℕ, List, [], ◌∷◌, Bool, Some, None, true, ◌≢◌}
use Rattle.plx_base.specs.declared.lease.Claim.{Claim}
use Rattle.plx_base.specs.declared.write_kind.WriteKind.TheVariants as kind
use Rattle.plx_commands.specs.Replies.{is_in}
use Rattle.plx_commands.specs.declared.reply.Reply.TheVariants as reply
use Rattle.plx_disk.specs.declared.ask.Ask.{Ask}
use Rattle.plx_disk.specs.declared.ask.Ask.TheVariants as ask
use Rattle.plx_disk.specs.declared.ask.Answer.{Answer}
use Rattle.plx_disk.specs.declared.ask.Answer.TheVariants as answer
use Rattle.plx_extent.specs.Maps.{map_bytes}
use Rattle.plx_geom.specs.Geometry.{extent_lease, map_at}
use Rattle.plx_rules.specs.Ends.{End, read_then}
use Rattle.plx_rules.specs.InUse.{InUse, first_reached, lease_name}
use Rattle.plx_rules.specs.Process.{Process, Ends, bytes_out}
use Rattle.plx_rules.specs.Rests.{extent_of}
use Rattle.plx_rules.specs.Session.{Known, nothing_known}
use Rattle.plx_rules.specs.Settings.{Setting}
use Rattle.plx_rules.specs.Space.{extent_use, give_found, read_map, with_clear}
use Rattle.law_run.specs.AllowedAsks.{WentOn}
use Rattle.law_run.specs.CommandLogs.{Exchange, CommandLog, LastAnswered, WasAnswered}
use Rattle.law_run.specs.Holdings.{Holds, hand_by_log}
use Rattle.law_run.specs.Machines.{HasCome, IsOfBlock, IsRightAsk, Keeps}

-- what is asked until these blocks of an extent are given back; then the command ends so
abbrev pub give_work : Setting → Known → (uses : List InUse) → (extent until : ℕ) →
    (blocks : List ℕ) → (follows : End) → Process End
give_work s known uses extent until blocks follows =
    read_then (map_at s.geometry extent) known
    (λ bytes. give_found s known uses extent until blocks (read_map s.geometry.extent_blocks bytes)
    (Ends follows))

-- it may begin: the extent's lease is held up to `until`, the blocks are in hand, lie in it and
-- aren't its map, and the command has had its first reading and goes on
pub record MayBeginGive (s : Setting) (log : CommandLog) (extent until : ℕ) (blocks : List ℕ) : Type 0 where
  pub within : extent < s.geometry.extents
  pub claim : Claim
  pub held : Holds s log (extent_lease s.geometry extent) claim until
  pub fresh : (block : ℕ) → is_in block blocks ≡ true → is_in block (hand_by_log s log.before log.exchanges) ≡ true
  pub own : (block : ℕ) → is_in block blocks ≡ true → extent_of s.geometry block ≡ extent
  pub pool : (block : ℕ) → is_in block blocks ≡ true → block ≢ map_at s.geometry extent
  pub first : Exchange
  pub others : List Exchange
  pub begun : log.exchanges ≡ first ∷ others
  pub went : WentOn log.exchanges

-- its ask of the map was answered so, and no other ask since
abbrev pub MapAnswered : Setting → CommandLog → (extent until : ℕ) → List ℕ → Answer → Type 0
MapAnswered s log extent until bytes answer = LastAnswered log (ask.Write kind.Give (record { 0 = map_at s.geometry extent }) until) bytes answer

-- a lease in use is lost
abbrev pub give_lost : Setting → Known → InUse → (reading : ℕ) → End
give_lost s known due reading =
    record {
      reply = reply.Lost (lease_name s.geometry due.lease) due.until reading;
      known = nothing_known known.claims;
    }

-- why it ends so: the map was written with the bits of the blocks clear, and the command goes on; or the read or the write failed, the write was missed, or
-- the map's bytes were outside the format, and the reading after that has reached the lease, or one
-- that the command uses, or none
pub data ShowsGive (s : Setting) (uses : List InUse) (extent until : ℕ) (blocks : List ℕ)
    (known : Known) (follows : End) (log : CommandLog) : End → Type 0 where
  cleared : (bits : List Bool) → MapAnswered s log extent until (map_bytes (with_clear blocks (map_at s.geometry extent) bits)) answer.Done →
      ShowsGive s uses extent until blocks known follows log follows
  unread : LastAnswered log (ask.Read (record { 0 = map_at s.geometry extent })) [] answer.Fault →
      ShowsGive s uses extent until blocks known follows log
      (record { reply = reply.ReadFault (record { 0 = map_at s.geometry extent }); known = known })
  unwritten : (bytes : List ℕ) → MapAnswered s log extent until bytes answer.Fault →
      ShowsGive s uses extent until blocks known follows log
      (record { reply = reply.WriteFault (record { 0 = map_at s.geometry extent }); known = nothing_known known.claims })
  missed : (bytes : List ℕ) (reading : ℕ) → MapAnswered s log extent until bytes (answer.Missed reading) →
      ShowsGive s uses extent until blocks known follows log
      (give_lost s known (extent_use s.geometry extent until) reading)
  reached : (due : InUse) (reading : ℕ) → LastAnswered log ask.Clock [] (answer.Reading reading) →
      first_reached (extent_use s.geometry extent until ∷ uses) reading ≡ Some due →
      ShowsGive s uses extent until blocks known follows log (give_lost s known due reading)
  damaged : (bytes : List ℕ) (reading : ℕ) → WasAnswered log (ask.Read (record { 0 = map_at s.geometry extent })) [] (answer.Bytes bytes) →
      read_map s.geometry.extent_blocks bytes ≡ None →
      LastAnswered log ask.Clock [] (answer.Reading reading) →
      first_reached (extent_use s.geometry extent until ∷ uses) reading ≡ None →
      ShowsGive s uses extent until blocks known follows log
      (record { reply = reply.Damaged (record { 0 = map_at s.geometry extent }); known = known })

-- how many of its asks are answered at most
abbrev pub give_bound : ℕ
give_bound = 2

-- an ask of it that has come to this rest keeps the rules, by each log that leads there, within any command in which it may begin
abbrev pub IsGiveAsk : (rest : Process End) → Ask → Type 0
IsGiveAsk rest ask = (s : Setting) (log : CommandLog) (known : Known) (uses : List InUse)
    (extent until : ℕ) (blocks : List ℕ) (follows : End) (own : List Exchange) →
    MayBeginGive s log extent until blocks →
    HasCome (give_work s known uses extent until blocks follows) own rest →
    IsRightAsk s log (IsOfBlock (map_at s.geometry extent)) give_bound own ask (bytes_out rest)

-- it keeps the rules, whatever its answers are: its asks are allowed and of the extent's map alone, at most two are answered, and its end has its cause
abbrev pub ExtentGivesKeepRules : Type 0
ExtentGivesKeepRules = (s : Setting) (log : CommandLog) (known : Known) (uses : List InUse)
    (extent until : ℕ) (blocks : List ℕ) (follows : End) → MayBeginGive s log extent until blocks →
    Keeps s log (IsOfBlock (map_at s.geometry extent)) give_bound
    (ShowsGive s uses extent until blocks known follows)
    (give_work s known uses extent until blocks follows)
