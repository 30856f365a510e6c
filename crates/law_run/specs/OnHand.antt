-- Work on all blocks in hand and on the leases of all extents,
-- within a command: when it may begin, and why it ends.
use Rattle.std.specs.Prelude.{◌≡◌, ◌<◌, ◌⊎◌, ℕ, List, [], ◌∷◌, Bool, Some, None, true, ◌≢◌}
use Rattle.plx_base.specs.declared.lease.Claim.{Claim}
use Rattle.plx_base.specs.declared.lease.LeaseName.TheVariants as lease
use Rattle.plx_base.specs.declared.numbers.BlockNo.{BlockNo}
use Rattle.plx_base.specs.declared.write_kind.WriteKind.{WriteKind}
use Rattle.plx_commands.specs.Replies.{is_in}
use Rattle.plx_commands.specs.declared.reply.Reply.TheVariants as reply
use Rattle.plx_disk.specs.declared.ask.Ask.{Ask}
use Rattle.plx_disk.specs.declared.ask.Ask.TheVariants as ask
use Rattle.plx_disk.specs.declared.ask.Answer.TheVariants as answer
use Rattle.plx_geom.specs.Geometry.{Geometry, extent_lease, lease_at, map_at}
use Rattle.plx_rules.specs.Ends.{End}
use Rattle.plx_rules.specs.Holds.{Hold}
use Rattle.plx_rules.specs.InUse.{InUse, first_reached, lease_name}
use Rattle.plx_rules.specs.Rests.{extent_of}
use Rattle.plx_rules.specs.Session.{Known, nothing_known}
use Rattle.plx_rules.specs.Settings.{Setting}
use Rattle.plx_rules.specs.Space.{extent_use, read_map, with_clear}
use Rattle.law_run.specs.AllowedAsks.{WentOn}
use Rattle.law_run.specs.CommandLogs.{Exchange, CommandLog, IsIn, LastAnswered}
use Rattle.law_run.specs.Holdings.{hold_by_log, hand_by_log, Holds}
use Rattle.law_run.specs.Machines.{IsOfBlock}
use Rattle.law_run.specs.Senses.{IsLocal}
use Rattle.law_run.specs.Replies.{RestsOn, Comes}
use Rattle.law_run.specs.Space.{IsMapDamaged}
use Rattle.law_run.specs.Uses.{AreUsed}

-- ---- its asks

-- an ask reads and writes the map of one extent alone
abbrev pub IsOfOneMap : Geometry → Ask → Type 0
IsOfOneMap g ask = (extent : ℕ) × (extent < g.extents) × IsOfBlock (map_at g extent) ask

-- an ask reads and writes the map of one extent alone, or its lease alone
abbrev pub IsOfOneExtent : Geometry → Ask → Type 0
IsOfOneExtent g ask =
    (extent : ℕ) × (extent < g.extents)
    × (IsOfBlock (map_at g extent) ask ⊎ IsOfBlock (lease_at (extent_lease g extent)) ask)

-- ---- its beginning

-- it may begin: it goes by what is held of the extents' leases and by what is in hand, the blocks
-- in hand lie in extents of the geometry and are none of their maps, and the command has had its
-- first reading and goes on
pub record MayBeginOnHand (s : Setting) (log : CommandLog)
    (holds : ℕ → Hold) (hand : List ℕ) : Type 0 where
  pub held : (extent : ℕ) → extent < s.geometry.extents →
      holds (lease_at (extent_lease s.geometry extent))
      ≡ hold_by_log s log.before log.exchanges (extent_lease s.geometry extent)
  pub fresh : hand ≡ hand_by_log s log.before log.exchanges
  pub inside : (block : ℕ) → is_in block hand ≡ true →
      extent_of s.geometry block < s.geometry.extents
  pub pool : (block : ℕ) → is_in block hand ≡ true → (extent : ℕ) → block ≢ map_at s.geometry extent
  pub first : Exchange
  pub others : List Exchange
  pub begun : log.exchanges ≡ first ∷ others
  pub went : WentOn log.exchanges

-- ---- its ends

-- some exchanges read the map of a block's extent with the
-- bit of the block clear, so that nothing was to be given back
pub record WasClear (g : Geometry) (own : List Exchange) (block : ℕ) : Type 0 where
  pub bytes : List ℕ
  pub bits : List Bool
  pub read : IsIn (record {
    ask = ask.Read (record { 0 = map_at g (extent_of g block) });
    bytes = [];
    answer = answer.Bytes bytes;
  }) own
  pub spells : read_map g.extent_blocks bytes ≡ Some bits
  pub clear : with_clear (block ∷ []) (map_at g (extent_of g block)) bits ≡ bits

-- a lease is lost: a write that rests on that of an extent came too late for its guard; or an
-- extent's lease is held, its map was read as bytes that are no map, and of that lease and those
-- that the command hands in it is the one to be named where the reading after that has reached them
pub data IsLostOnHand (s : Setting) (log : CommandLog) (uses : List InUse) (due : InUse)
    (reading : ℕ) : Type 0 where
  missed : (k : WriteKind) (block : BlockNo) (extent : ℕ) (bytes : List ℕ) →
      LastAnswered log (ask.Write k block due.until) bytes (answer.Missed reading) →
      due.lease ≡ extent_lease s.geometry extent →
      RestsOn s log k block.0 bytes (lease.Extent (record { 0 = extent })) →
      IsLostOnHand s log uses due reading
  reached : (extent until : ℕ) (claim : Claim) (bytes : List ℕ) (older : List Exchange) →
      extent < s.geometry.extents →
      log.exchanges ≡ (record { ask = ask.Clock; bytes = []; answer = answer.Reading reading })
      ∷ (record {
        ask = ask.Read (record { 0 = map_at s.geometry extent });
        bytes = [];
        answer = answer.Bytes bytes;
      }) ∷ older →
      read_map s.geometry.extent_blocks bytes ≡ None →
      Holds s log (extent_lease s.geometry extent) claim until →
      first_reached (extent_use s.geometry extent until ∷ uses) reading ≡ Some due →
      IsLostOnHand s log uses due reading

-- why it ends so: it is done, and the command goes on; a lease is lost, of the cause that a command
-- has where those that it hands in are those that it uses; a map was not read; a map or a lease was
-- not written; or a map was read as bytes that are no map
pub data ShowsOnHand (s : Setting) (known : Known) (uses : List InUse) (follows : End)
    (IsDone : CommandLog → Type 0) (log : CommandLog) : End → Type 0 where
  done : IsDone log → ShowsOnHand s known uses follows IsDone log follows
  lost : (due : InUse) (reading : ℕ) → IsLostOnHand s log uses due reading →
      (AreUsed s log uses → Comes s IsLocal log (reply.Lost
      (lease_name s.geometry due.lease) due.until reading)) →
      ShowsOnHand s known uses follows IsDone log
      (record {
        reply = reply.Lost (lease_name s.geometry due.lease) due.until reading;
        known = nothing_known known.claims;
      })
  unread : (block : BlockNo) → Comes s IsLocal log (reply.ReadFault block) →
      ShowsOnHand s known uses follows IsDone log
      (record { reply = reply.ReadFault block; known = known })
  unwritten : (block : BlockNo) → Comes s IsLocal log (reply.WriteFault block) →
      ShowsOnHand s known uses follows IsDone log
      (record { reply = reply.WriteFault block; known = nothing_known known.claims })
  damaged : (block : BlockNo) → IsMapDamaged s log block →
      ShowsOnHand s known uses follows IsDone log
      (record { reply = reply.Damaged block; known = known })
