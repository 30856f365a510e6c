-- What the log of a take within any command shows, and that of a reserve and of a retire.
--
-- `own` are the exchanges of the take, the newest ones of the log.
use Rattle.std.specs.Prelude.{◌≡◌, ◌≢◌, ◌+◌, ◌≤◌, ◌<◌, ℕ, List, [], ◌∷◌, ◌++◌, length, Some, None}
use Rattle.std.specs.Prelude.{true}
use Rattle.plx_base.specs.declared.lease.Claim.{Claim}
use Rattle.plx_base.specs.declared.lease.LeaseRecord.{LeaseRecord}
use Rattle.plx_base.specs.declared.numbers.BlockNo.{BlockNo}
use Rattle.plx_commands.specs.Limits.{last_claim}
use Rattle.plx_commands.specs.declared.command.Command.{Command}
use Rattle.plx_commands.specs.declared.command.Command.TheVariants.{Reserve, Retire}
use Rattle.plx_disk.specs.declared.ask.Ask.TheVariants as ask
use Rattle.plx_disk.specs.declared.ask.Answer.TheVariants as answer
use Rattle.plx_extent.specs.Maps.{bits_of}
use Rattle.plx_gate.specs.Leases.{read_lease}
use Rattle.plx_geom.specs.Geometry.{lease_count, image_lease, extent_lease, lease_at, map_at}
use Rattle.plx_rules.specs.Settings.{Setting}
use Rattle.plx_rules.specs.Space.{read_map, free_from}
use Rattle.law_run.specs.Busy.{NoneBusy, FirstBusy}
use Rattle.law_run.specs.CommandLogs.{Exchange, CommandLog, WasAnsweredIn, WasAnswered}
use Rattle.law_run.specs.CommandLogs.{LastAnsweredIn, LastAnswered}
use Rattle.law_run.specs.Holdings.{hold_by_log, hand_by_log, Holds, IsNotHeld, claims_in}
use Rattle.law_run.specs.Holdings.{claims_begun}
use Rattle.law_run.specs.KnownBytes.{nothing_given, given_after_exchanges}
use Rattle.law_run.specs.Sessions.{is_attached}

-- ---- takes

-- a command takes so many blocks after these exchanges of it: a reserve as many as are asked for,
-- after its first reading; no other one takes any yet
pub data TakesAfter : Command → (begun : List Exchange) → (count : ℕ) → Type 0 where
  of_reserve : {command : Command} {begun : List Exchange} {count : ℕ} (reading : ℕ) →
      command ≡ Reserve count →
      begun ≡ (record { ask = ask.Clock; bytes = []; answer = answer.Reading reading }) ∷ [] →
      TakesAfter command begun count

-- a take of so many blocks was begun in a log, and these are its exchanges, the newest ones of the
-- log
pub record IsTake (log : CommandLog) (own : List Exchange) (count : ℕ) : Type 0 where
  pub begun : List Exchange
  pub takes : TakesAfter log.command begun count
  pub since : log.exchanges ≡ own ++ begun

-- there is such a take in a log, and this holds of it
abbrev pub OfTake : CommandLog → (Fact : (own : List Exchange) → (count : ℕ) → Type 0) → Type 0
OfTake log Fact = (own : List Exchange) × (count : ℕ) × IsTake log own count × Fact own count

-- ---- maps

-- the map of an extent was read
abbrev pub WasMapRead : Setting → (own : List Exchange) → (extent : ℕ) → Type 0
WasMapRead s own extent =
    (bytes : List ℕ)
    × WasAnsweredIn own (ask.Read (record { 0 = map_at s.geometry extent })) [] (answer.Bytes bytes)

-- the map of an extent was last read or written with the bit of each block set that isn't in hand
abbrev pub IsMapFull : Setting → CommandLog → (own : List Exchange) → (extent : ℕ) → Type 0
IsMapFull s log own extent =
    (bytes : List ℕ)
    × (given_after_exchanges own nothing_given (map_at s.geometry extent) ≡ Some bytes)
    × (free_from (hand_by_log s log.before log.exchanges)
    (map_at s.geometry extent) (bits_of s.geometry.extent_blocks bytes)
    ≡ [])

-- ---- why a take is refused

-- a take of so many blocks has failed: fewer are in hand, though the map of each extent was read
pub record HasFailed (s : Setting) (log : CommandLog)
    (own : List Exchange) (count : ℕ) : Type 0 where
  pub few : length (hand_by_log s log.before log.exchanges) < count
  pub read : (extent : ℕ) → extent < s.geometry.extents → WasMapRead s own extent

-- it has, and the first claim that ended Busy in it
-- is that of this extent's lease, with that record
pub record WasBusyForSpace (s : Setting) (log : CommandLog)
    (own : List Exchange) (count extent : ℕ) (seen : LeaseRecord) : Type 0 where
  pub failed : HasFailed s log own count
  pub first : FirstBusy s log (extent_lease s.geometry extent) seen own

-- it has, no claim ended Busy in it, and each map is full
pub record IsFull (s : Setting) (log : CommandLog) (own : List Exchange) (count : ℕ) : Type 0 where
  pub failed : HasFailed s log own count
  pub unbusy : NoneBusy s log own
  pub full : (extent : ℕ) → extent < s.geometry.extents → IsMapFull s log own extent

-- a take of so many blocks needs a claim, and the boot has none left:
-- fewer are in hand, and the map that was just read, of an extent
-- whose lease isn't held, has a clear bit of a block that isn't in hand
pub record IsWornOut (s : Setting) (log : CommandLog)
    (own : List Exchange) (count last : ℕ) : Type 0 where
  pub is : last ≡ last_claim
  pub begun : last_claim ≤ claims_in s.geometry log.exchanges + claims_begun s.geometry log.before
  pub few : length (hand_by_log s log.before log.exchanges) < count
  pub extent : ℕ
  pub unheld : IsNotHeld (hold_by_log s log.before log.exchanges (extent_lease s.geometry extent))
  pub bytes : List ℕ
  pub read : LastAnsweredIn own
      (ask.Read (record { 0 = map_at s.geometry extent })) [] (answer.Bytes bytes)
  pub free : free_from (hand_by_log s log.before log.exchanges)
      (map_at s.geometry extent) (bits_of s.geometry.extent_blocks bytes)
      ≢ []

-- ---- bytes outside the format

-- a map was read as bytes that are no map, and a later reading,
-- the last ask, is below the end of its extent's lease, where that is held
pub record IsMapDamaged (s : Setting) (log : CommandLog) (block : BlockNo) : Type 0 where
  pub extent : ℕ
  pub here : block.0 ≡ map_at s.geometry extent
  pub bytes : List ℕ
  pub reading : ℕ
  pub read : WasAnswered log (ask.Read block) [] (answer.Bytes bytes)
  pub outside : read_map s.geometry.extent_blocks bytes ≡ None
  pub last : LastAnswered log ask.Clock [] (answer.Reading reading)
  pub below : (claim : Claim) (until : ℕ) →
      Holds s log (extent_lease s.geometry extent) claim until → reading < until

-- the lease of an extent was read as bytes that are no lease,
-- and the clock was asked once more; such a read rests on no lease
pub record IsLeaseDamaged (s : Setting) (log : CommandLog) (block : BlockNo) : Type 0 where
  pub extent : ℕ
  pub here : block.0 ≡ lease_at (extent_lease s.geometry extent)
  pub bytes : List ℕ
  pub reading : ℕ
  pub read : WasAnswered log (ask.Read block) [] (answer.Bytes bytes)
  pub outside : read_lease bytes ≡ None
  pub last : LastAnswered log ask.Clock [] (answer.Reading reading)

-- ---- the Oks

-- as many blocks are in hand as were asked for
pub record ShowsReserve (s : Setting) (log : CommandLog) : Type 0 where
  pub count : ℕ
  pub command : log.command ≡ Reserve count
  pub enough : count ≤ length (hand_by_log s log.before log.exchanges)

-- the hand is empty, and no lease is held but those of attached images
pub record ShowsRetire (s : Setting) (log : CommandLog) : Type 0 where
  pub command : log.command ≡ Retire
  pub empty : hand_by_log s log.before log.exchanges ≡ []
  pub released : (lease : ℕ) (claim : Claim) (until : ℕ) →
      lease < lease_count s.geometry → Holds s log lease claim until →
      (image : ℕ) × (lease ≡ image_lease image) × (is_attached log.before image ≡ true)
