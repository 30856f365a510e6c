-- Blocks of one extent are given back, after any exchanges of a command.
use Rattle.std.proofs.Common.{◌≡◌, ℕ, suc, ◌<◌, List, [], ◌∷◌, Bool, Option, Some, None, refl, ap, ◌∙◌, ◌≢◌}
use Rattle.plx_base.specs.declared.lease.Claim.{Claim}
use Rattle.plx_base.specs.declared.write_kind.WriteKind.TheVariants as kind
use Rattle.plx_base.proofs.Tests.{not-true}
use Rattle.plx_commands.specs.declared.command.Command.{Command}
use Rattle.plx_commands.specs.declared.reply.Reply.TheVariants as reply
use Rattle.plx_commands.specs.Replies.{is_in}
use Rattle.plx_disk.specs.declared.ask.Ask.{Ask}
use Rattle.plx_disk.specs.declared.ask.Ask.TheVariants as ask
use Rattle.plx_disk.specs.declared.ask.Answer.TheVariants as answer
use Rattle.plx_extent.specs.Maps.{map_bytes, IsMap}
use Rattle.plx_geom.specs.Geometry.{extent_lease, map_at}
use Rattle.plx_rules.specs.Ends.{End, ends, lost_process, read_then}
use Rattle.plx_rules.specs.Hands.{is_held}
use Rattle.plx_rules.specs.Holds.{Held}
use Rattle.plx_rules.specs.InUse.{InUse, lease_name, first_reached, unless_reached}
use Rattle.plx_rules.specs.Process.{Process}
use Rattle.plx_rules.specs.Rests.{extent_of}
use Rattle.plx_rules.specs.Session.{Known, nothing_known}
use Rattle.plx_rules.specs.Settings.{Setting}
use Rattle.plx_rules.specs.Space.{extent_use, read_map, with_clear, give_found}
use Rattle.plx_rules.proofs.Maps.{clear-is-map}
use Rattle.law_run.specs.AllowedAsks.{WentOn, MayAsk, give_of_blocks}
use Rattle.law_run.specs.CommandLogs.{Exchange, Finished}
use Rattle.law_run.specs.Holdings.{hold_by_log, hand_by_log}
use Rattle.law_run.specs.Machines.{IsOfBlock}
use Rattle.law_run.proofs.Hands.{HasBlock, hand-keeps}
use Rattle.law_run.proofs.Holding.{hold-stays}
use Rattle.law_run.proofs.Meets.{exchange, Meets}
use Rattle.law_run.proofs.Right.{clock, read_of, log_on}
use Rattle.law_run.proofs.Runs.{HasFirst}
use Rattle.law_run.proofs.FreeBlocks.{map-is}

-- the write of the map
abbrev pub give_ask : Setting → (extent until : ℕ) → Ask
give_ask s extent until = ask.Write kind.Give (record { 0 = map_at s.geometry extent }) until

-- what each end shows
pub record GiveEndings (s : Setting) (before : List Finished) (done : List Exchange) (extent until : ℕ) (claim : Claim) (blocks : List ℕ) (uses : List InUse) (known : Known) (Shows : List Exchange → End → Type 0) : Type 0 where
  pub unread : Shows (exchange (ask.Read (record { 0 = map_at s.geometry extent })) [] answer.Fault ∷ done) (record { reply = reply.ReadFault (record { 0 = map_at s.geometry extent }); known = known })
  pub unwritten : (read : List ℕ) (bits : List Bool) → read_map s.geometry.extent_blocks read ≡ Some bits →
      Shows (exchange (give_ask s extent until) (map_bytes (with_clear blocks (map_at s.geometry extent) bits)) answer.Fault ∷ read_of (map_at s.geometry extent) read ∷ done)
      (record { reply = reply.WriteFault (record { 0 = map_at s.geometry extent }); known = nothing_known known.claims })
  pub missed : (read : List ℕ) (bits : List Bool) (last : ℕ) → read_map s.geometry.extent_blocks read ≡ Some bits →
      Shows (exchange (give_ask s extent until) (map_bytes (with_clear blocks (map_at s.geometry extent) bits)) (answer.Missed last) ∷ read_of (map_at s.geometry extent) read ∷ done)
      (record { reply = reply.Lost (lease_name s.geometry (extent_lease s.geometry extent)) until last; known = nothing_known known.claims })
  pub reached : (read : List ℕ) (last : ℕ) (due : InUse) → read_map s.geometry.extent_blocks read ≡ None →
      hold_by_log s before (clock last ∷ read_of (map_at s.geometry extent) read ∷ done) (extent_lease s.geometry extent) ≡ Held claim until →
      first_reached (extent_use s.geometry extent until ∷ uses) last ≡ Some due →
      Shows (clock last ∷ read_of (map_at s.geometry extent) read ∷ done)
      (record { reply = reply.Lost (lease_name s.geometry due.lease) due.until last; known = nothing_known known.claims })
  pub damaged : (read : List ℕ) (last : ℕ) → read_map s.geometry.extent_blocks read ≡ None →
      hold_by_log s before (clock last ∷ read_of (map_at s.geometry extent) read ∷ done) (extent_lease s.geometry extent) ≡ Held claim until →
      first_reached (extent_use s.geometry extent until ∷ uses) last ≡ None →
      Shows (clock last ∷ read_of (map_at s.geometry extent) read ∷ done) (record { reply = reply.Damaged (record { 0 = map_at s.geometry extent }); known = known })

-- the lease of the extent is held, and the blocks are in hand and lie in it
pub record CanGive (s : Setting) (before : List Finished) (done : List Exchange) (extent until : ℕ) (claim : Claim) (blocks : List ℕ) : Type 0 where
  pub within : extent < s.geometry.extents
  pub held : hold_by_log s before done (extent_lease s.geometry extent) ≡ Held claim until
  pub fresh : (b : ℕ) → HasBlock blocks b → HasBlock (hand_by_log s before done) b
  pub own : (b : ℕ) → HasBlock blocks b → extent_of s.geometry b ≡ extent
  pub pool : (b : ℕ) → HasBlock blocks b → b ≢ map_at s.geometry extent
  pub has : HasFirst done
  pub went : WentOn done

module _ (s : Setting) (before : List Finished) (command : Command) (uses : List InUse) (known : Known) (May : List Exchange → Ask → List ℕ → Type 0) (Shows : List Exchange → End → Type 0)
    (done : List Exchange) (extent until : ℕ) (claim : Claim) (blocks : List ℕ) (can : CanGive s before done extent until claim blocks)
    (allowed : (later : List Exchange) (a : Ask) (bytes : List ℕ) → MayAsk s (log_on before command later) a bytes → IsOfBlock (map_at s.geometry extent) a → May later a bytes)
    (endings : GiveEndings s before done extent until claim blocks uses known Shows) where
  -- once the map was read, the lease is held still, and the blocks are in hand
  held-read : (read : List ℕ) → hold_by_log s before (read_of (map_at s.geometry extent) read ∷ done) (extent_lease s.geometry extent) ≡ Held claim until
  held-read read = hold-stays s before done (read_of (map_at s.geometry extent) read) (extent_lease s.geometry extent) claim until can.has tt can.held

  fresh-read : (read : List ℕ) (b : ℕ) → HasBlock blocks b → HasBlock (hand_by_log s before (read_of (map_at s.geometry extent) read ∷ done)) b
  fresh-read read b among =
      hand-keeps s before (read_of (map_at s.geometry extent) read) done b can.has (can.fresh b among)
      (ap (λ e. is_held (hold_by_log s before (read_of (map_at s.geometry extent) read ∷ done) (extent_lease s.geometry e))) (can.own b among) ∙ ap is_held (held-read read))

  -- the map without them is one
  still-map : (read : List ℕ) (bits : List Bool) → read_map s.geometry.extent_blocks read ≡ Some bits → IsMap s.geometry.extent_blocks (with_clear blocks (map_at s.geometry extent) bits)
  still-map read bits is =
      clear-is-map s.geometry.extent_blocks blocks (map_at s.geometry extent) bits
      (not-true (is_in (map_at s.geometry extent) blocks) (λ has. can.pool (map_at s.geometry extent) has refl)) (map-is s.geometry.extent_blocks read bits is)

  -- bytes that are no map end it after one more reading
  by-map : (rest : Process End) (n : ℕ) → ((read : List ℕ) (bits : List Bool) → read_map s.geometry.extent_blocks read ≡ Some bits →
      Meets May Shows (exchange (give_ask s extent until) (map_bytes (with_clear blocks (map_at s.geometry extent) bits)) answer.Done ∷ read_of (map_at s.geometry extent) read ∷ done) rest n) →
      (read : List ℕ) (found : Option (List Bool)) → read_map s.geometry.extent_blocks read ≡ found →
      Meets May Shows (read_of (map_at s.geometry extent) read ∷ done) (give_found s known uses extent until blocks found rest) (suc n)
  by-map rest n next read None is = (
    allowed (read_of (map_at s.geometry extent) read ∷ done) ask.Clock [] ((tt, can.went), tt) tt,
    λ last small. by-reached last (first_reached in_use last) refl,
  )
    where
      in_use : List InUse
      in_use = extent_use s.geometry extent until ∷ uses

      now : (last : ℕ) → hold_by_log s before (clock last ∷ read_of (map_at s.geometry extent) read ∷ done) (extent_lease s.geometry extent) ≡ Held claim until
      now last = hold-stays s before (read_of (map_at s.geometry extent) read ∷ done) (clock last) (extent_lease s.geometry extent) claim until tt tt (held-read read)

      by-reached : (last : ℕ) (found : Option InUse) → first_reached in_use last ≡ found →
          Meets May Shows (clock last ∷ read_of (map_at s.geometry extent) read ∷ done)
          (unless_reached found (λ due. lost_process s known due last) (ends (reply.Damaged (record { 0 = map_at s.geometry extent })) known)) n
      by-reached last (Some due) found = endings.reached read last due is (now last) found
      by-reached last None found = endings.damaged read last is (now last) found
  by-map rest n next read (Some bits) is =
      let out = map_bytes (with_clear blocks (map_at s.geometry extent) bits) in (
        allowed (read_of (map_at s.geometry extent) read ∷ done) (give_ask s extent until) out
            ((tt, can.went), give_of_blocks extent claim read bits blocks can.within refl (held-read read) (done, refl) is (fresh-read read) (still-map read bits is) refl) refl,
        next read bits is,
        endings.unwritten read bits is,
        λ last past small. endings.missed read bits last is,
      )

  -- they are given back, and the command goes on
  pub one-gives : (rest : Process End) (n : ℕ) → ((read : List ℕ) (bits : List Bool) → read_map s.geometry.extent_blocks read ≡ Some bits →
      Meets May Shows (exchange (give_ask s extent until) (map_bytes (with_clear blocks (map_at s.geometry extent) bits)) answer.Done ∷ read_of (map_at s.geometry extent) read ∷ done) rest n) →
      Meets May Shows done (read_then (map_at s.geometry extent) known (λ bytes. give_found s known uses extent until blocks (read_map s.geometry.extent_blocks bytes) rest)) (suc (suc n))
  one-gives rest n next = (
    allowed done (ask.Read (record { 0 = map_at s.geometry extent })) [] (can.went, tt) refl,
    λ read long. by-map rest n next read (read_map s.geometry.extent_blocks read) refl,
    endings.unread,
  )
