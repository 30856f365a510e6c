-- The taking of fresh blocks, as work within a command: what it asks, and the rules that it keeps.
use Rattle.std.specs.Prelude.{◌≡◌, ◌≢◌, ◌⊎◌, ◌+◌, ◌*◌, ◌≤◌, ◌<◌, ℕ, List, [], ◌∷◌, ◌++◌, length}
use Rattle.std.specs.Prelude.{true}
use Rattle.plx_base.specs.declared.lease.Claim.{Claim}
use Rattle.plx_base.specs.declared.lease.LeaseName.{LeaseName}
use Rattle.plx_base.specs.declared.lease.LeaseName.TheVariants as lease
use Rattle.plx_base.specs.declared.lease.LeaseRecord.{LeaseRecord}
use Rattle.plx_base.specs.declared.numbers.BlockNo.{BlockNo}
use Rattle.plx_base.specs.declared.numbers.ExtentNo.{ExtentNo}
use Rattle.plx_base.specs.declared.write_kind.WriteKind.{WriteKind}
use Rattle.plx_commands.specs.Replies.{is_in}
use Rattle.plx_commands.specs.declared.reply.Reply.{Reply}
use Rattle.plx_commands.specs.declared.reply.Reply.TheVariants as reply
use Rattle.plx_disk.specs.declared.ask.Ask.{Ask}
use Rattle.plx_disk.specs.declared.ask.Ask.TheVariants as ask
use Rattle.plx_disk.specs.declared.ask.Answer.TheVariants as answer
use Rattle.plx_geom.specs.Geometry.{Geometry, lease_count, extent_lease, lease_at, map_at}
use Rattle.plx_rules.specs.Ends.{End}
use Rattle.plx_rules.specs.Holds.{Hold, Nothing, Held}
use Rattle.plx_rules.specs.InUse.{InUse}
use Rattle.plx_rules.specs.Process.{Process, Ends, bytes_out}
use Rattle.plx_rules.specs.Rests.{extent_of}
use Rattle.plx_rules.specs.Session.{Known, nothing_known}
use Rattle.plx_rules.specs.Settings.{Setting}
use Rattle.plx_rules.specs.Space.{Taking, first_taking, take_process}
use Rattle.law_run.specs.AllowedAsks.{WentOn}
use Rattle.law_run.specs.CommandLogs.{Exchange, CommandLog, LastAnswered}
use Rattle.law_run.specs.Holdings.{hold_by_log, hand_by_log, claims_in, claims_begun}
use Rattle.law_run.specs.Machines.{HasCome, IsRightAsk, IsRightEnd, Keeps}
use Rattle.law_run.specs.Replies.{WasLost}
use Rattle.law_run.specs.Rules.{IsSetting}
use Rattle.law_run.specs.Space.{WasBusyForSpace, IsFull, IsWornOut, IsMapDamaged, IsLeaseDamaged}
use Rattle.law_run.specs.Uses.{AreUsed}

-- what is asked until so many fresh blocks are in hand,
-- where the leases are held so as it begins; the command ends so after that
abbrev pub take_work : Setting → (holds : ℕ → Hold) → (count : ℕ) → (follows : Taking → End) →
    (uses : List InUse) → Known → (hand : List ℕ) → Process End
take_work s holds count follows uses known hand =
    take_process s holds count (λ t. Ends (follows t)) (first_taking uses known hand)

-- ---- where it may begin

-- a lease is held, or nothing is held of it: no claim of it goes on
abbrev pub IsAtRest : Hold → Type 0
IsAtRest hold = (hold ≡ Nothing) ⊎ ((claim : Claim) × (until : ℕ) × (hold ≡ Held claim until))

-- it may begin: the leases that the command hands in are those that it uses, the holds are those of
-- the log, no claim goes on, the hand is that of the log, its blocks lie in extents, the claims are
-- counted, and the command has had its first reading and goes on
pub record MayBeginTake (s : Setting) (log : CommandLog) (holds : ℕ → Hold) (uses : List InUse)
    (known : Known) (hand : List ℕ) : Type 0 where
  pub used : AreUsed s log uses
  pub extents : (extent : ℕ) → extent < s.geometry.extents →
      holds (lease_at (extent_lease s.geometry extent))
      ≡ hold_by_log s log.before log.exchanges (extent_lease s.geometry extent)
  pub at_rest : (lease : ℕ) → lease < lease_count s.geometry →
      IsAtRest (hold_by_log s log.before log.exchanges lease)
  pub in_hand : hand_by_log s log.before log.exchanges ≡ hand
  pub within : (block : ℕ) → is_in block hand ≡ true →
      extent_of s.geometry block < s.geometry.extents
  pub counted : known.claims
      ≡ claims_in s.geometry log.exchanges + claims_begun s.geometry log.before
  pub first : Exchange
  pub others : List Exchange
  pub begun : log.exchanges ≡ first ∷ others
  pub went : WentOn log.exchanges

-- ---- what its end shows

-- what was known, with the claims that the log has begun by now
abbrev pub counted_by_log : Setting → CommandLog → Known → Known
counted_by_log s log known = record known {
  claims = claims_in s.geometry log.exchanges + claims_begun s.geometry log.before;
}

-- how far it has come is what the log shows: what is known, what is in hand, and the leases in use,
-- those that the command uses; no claim goes on, and the command does
pub record IsByLog (s : Setting) (log : CommandLog) (known : Known) (t : Taking) : Type 0 where
  pub knows : t.known ≡ counted_by_log s log known
  pub hand : hand_by_log s log.before log.exchanges ≡ t.hand
  pub within : (block : ℕ) → is_in block t.hand ≡ true →
      extent_of s.geometry block < s.geometry.extents
  pub uses : AreUsed s log t.uses
  pub at_rest : (lease : ℕ) → lease < lease_count s.geometry →
      IsAtRest (hold_by_log s log.before log.exchanges lease)
  pub went : WentOn log.exchanges

-- a lease is no extent's
abbrev pub IsNoExtent : Geometry → (lease : ℕ) → Type 0
IsNoExtent g lease = (extent : ℕ) → extent < g.extents → lease ≢ extent_lease g extent

-- of each lease that is no extent's what is held by a log is what was held by an earlier one
abbrev pub HoldsOthers : Setting → (first log : CommandLog) → Type 0
HoldsOthers s first log =
    (lease : ℕ) → lease < lease_count s.geometry → IsNoExtent s.geometry lease →
    hold_by_log s log.before log.exchanges lease ≡ hold_by_log s first.before first.exchanges lease

-- why it is refused, where what is held and what is known stays: too few blocks are in hand,
-- and all extents are full, or one was busy; no claim is left; a read failed;
-- or bytes outside the format were read of a map or of an extent's lease
pub data RefusesTake (s : Setting) (log : CommandLog)
    (own : List Exchange) (count : ℕ) : Reply →
    Type 0 where
  full : IsFull s log own count → RefusesTake s log own count reply.Full
  busy : (extent : ExtentNo) (seen : LeaseRecord) →
      WasBusyForSpace s log own count extent.0 seen →
      RefusesTake s log own count (reply.Busy (lease.Extent extent) seen)
  worn_out : (last : ℕ) → IsWornOut s log own count last →
      RefusesTake s log own count (reply.WornOut last)
  unread : (block : BlockNo) → LastAnswered log (ask.Read block) [] answer.Fault →
      RefusesTake s log own count (reply.ReadFault block)
  map_damaged : (block : BlockNo) → IsMapDamaged s log block →
      RefusesTake s log own count (reply.Damaged block)
  lease_damaged : (block : BlockNo) → IsLeaseDamaged s log block →
      RefusesTake s log own count (reply.Damaged block)

-- why it ends the command: it is refused;
-- or a lease is lost or a write failed, and no session is left
pub data FailsTake (s : Setting) (first log : CommandLog)
    (own : List Exchange) (known : Known) (count : ℕ) : End →
    Type 0 where
  refused : (reply : Reply) → RefusesTake s log own count reply → HoldsOthers s first log →
      FailsTake s first log own known count
      (record { reply = reply; known = counted_by_log s log known })
  lost : (name : LeaseName) (until reading : ℕ) → WasLost s log name until reading →
      FailsTake s first log own known count (record {
        reply = reply.Lost name until reading;
        known = nothing_known (claims_in s.geometry log.exchanges
            + claims_begun s.geometry log.before);
      })
  unwritten : (kind : WriteKind) (block : BlockNo) (guard : ℕ) (bytes : List ℕ) →
      LastAnswered log (ask.Write kind block guard) bytes answer.Fault →
      FailsTake s first log own known count (record {
        reply = reply.WriteFault block;
        known =
            nothing_known (claims_in s.geometry log.exchanges + claims_begun s.geometry log.before);
      })

-- enough blocks are in hand, and the command goes on
pub record HasEnough (s : Setting) (first log : CommandLog) (known : Known) (count : ℕ)
    (t : Taking) : Type 0 where
  pub told : IsByLog s log known t
  pub enough : count ≤ length t.hand
  pub others : HoldsOthers s first log

-- why it ends so
pub data EndsTake (s : Setting) (first log : CommandLog) (own : List Exchange)
    (known : Known) (count : ℕ) (follows : Taking → End) : End →
    Type 0 where
  taken : (t : Taking) → HasEnough s first log known count t →
      EndsTake s first log own known count follows (follows t)
  failed : {end : End} → FailsTake s first log own known count end →
      EndsTake s first log own known count follows end

-- why it ends so, where it began after the exchanges of the first log: its own exchanges tell
abbrev pub ShowsTake : Setting → (first : CommandLog) → Known →
    (count : ℕ) → (follows : Taking → End) → CommandLog → End → Type 0
ShowsTake s first known count follows log end =
    (own : List Exchange) × (log.exchanges ≡ own ++ first.exchanges)
    × EndsTake s first log own known count follows end

-- ---- the rules that it keeps

-- a block is the map or the lease of an extent
abbrev pub IsExtentBlock : Geometry → (block : ℕ) → Type 0
IsExtentBlock g block =
    (extent : ℕ) × (extent < g.extents)
    × ((block ≡ map_at g extent) ⊎ (block ≡ lease_at (extent_lease g extent)))

-- an ask reads or writes the map or the lease of an extent, or asks for the clock
abbrev pub IsOfExtents : Geometry → Ask → Type 0
IsOfExtents g (ask.Read block) = IsExtentBlock g block.0
IsOfExtents g (ask.Write kind block guard) = IsExtentBlock g block.0
IsOfExtents g ask.Clock = Unit {0}
IsOfExtents g (ask.Until from) = Unit {0}

-- how many of its asks are answered at most:
-- its maps are read and written, and its leases are claimed
abbrev pub take_bound : Geometry → ℕ
take_bound g = 8 * g.extents

-- it keeps the rules, whatever its answers are: its asks are allowed and of maps and leases
-- of extents alone, at most eight for each extent are answered, and its end has its cause
abbrev pub TakesKeepRules : Type 0
TakesKeepRules = (s : Setting) (log : CommandLog) (holds : ℕ → Hold) (count : ℕ)
    (follows : Taking → End) (uses : List InUse) (known : Known) (hand : List ℕ) → IsSetting s →
    MayBeginTake s log holds uses known hand →
    Keeps s log (IsOfExtents s.geometry) (take_bound s.geometry)
    (ShowsTake s log known count follows) (take_work s holds count follows uses known hand)

-- an ask of it that has come to this rest keeps the rules,
-- by each log that leads there, within any command in which it may begin
abbrev pub IsTakeAsk : (rest : Process End) → Ask → Type 0
IsTakeAsk rest ask = (s : Setting) (log : CommandLog) (holds : ℕ → Hold) (count : ℕ)
    (follows : Taking → End) (uses : List InUse) (known : Known) (hand : List ℕ)
    (own : List Exchange) →
    IsSetting s → MayBeginTake s log holds uses known hand →
    HasCome (take_work s holds count follows uses known hand) own rest →
    IsRightAsk s log (IsOfExtents s.geometry) (take_bound s.geometry) own ask (bytes_out rest)

-- the same of its end
abbrev pub IsTakeEnd : (rest : Process End) → End → Type 0
IsTakeEnd rest end = (s : Setting) (log : CommandLog) (holds : ℕ → Hold) (count : ℕ)
    (follows : Taking → End) (uses : List InUse) (known : Known) (hand : List ℕ)
    (own : List Exchange) →
    IsSetting s → MayBeginTake s log holds uses known hand →
    HasCome (take_work s holds count follows uses known hand) own rest →
    IsRightEnd s log (take_bound s.geometry) (ShowsTake s log known count follows) own end
