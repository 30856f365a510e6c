-- Why work on the blocks in hand ends a command.
use Rattle.std.proofs.Common.{◌≡◌, ℕ, ◌≤◌, List, ◌∷◌, ◌++◌, None, refl, ap, sym, subst, ◌∙◌, arith, inl, inr}
use Rattle.plx_base.specs.declared.lease.Claim.{Claim}
use Rattle.plx_base.specs.declared.lease.LeaseName.{LeaseName}
use Rattle.plx_commands.specs.declared.reply.Reply.TheVariants as reply
use Rattle.plx_disk.specs.declared.ask.Ask.TheVariants as ask
use Rattle.plx_disk.specs.declared.ask.Answer.TheVariants as answer
use Rattle.plx_geom.proofs.Places.{lease-map, map-map}
use Rattle.plx_geom.specs.Geometry.{IsGeometry, extent_lease, map_at}
use Rattle.plx_rules.specs.Ends.{End}
use Rattle.plx_rules.specs.Holds.{Held}
use Rattle.plx_rules.proofs.InUse.{IsFirstDue, TellsFirstDue, first-tells}
use Rattle.plx_rules.specs.InUse.{InUse, IsUse, lease_name, first_reached}
use Rattle.plx_rules.specs.Session.{Known, nothing_known}
use Rattle.plx_rules.specs.Settings.{Setting}
use Rattle.plx_rules.specs.Space.{extent_use, read_map}
use Rattle.law_run.specs.CommandLogs.{Exchange, CommandLog, IsIn, with_exchanges}
use Rattle.law_run.specs.Holdings.{Holds, hold_by_log}
use Rattle.law_run.specs.OnHand as on_hand
use Rattle.law_run.specs.OnHand.{IsLostOnHand, ShowsOnHand}
use Rattle.law_run.specs.Replies as replies
use Rattle.law_run.specs.Replies.{WasLost, of_clock, of_list}
use Rattle.law_run.specs.Space.{IsMapDamaged}
use Rattle.law_run.specs.Uses as uses
use Rattle.law_run.specs.Uses.{AreUsed, IsInUse}
use Rattle.law_run.proofs.Meets.{exchange}
use Rattle.law_run.proofs.OnExtent.{extent-name}
use Rattle.law_run.proofs.Uses.{block_second}
use Rattle.law_run.proofs.GivingUp.{Endings}
use Rattle.law_run.proofs.Right.{clock, read_of}

-- a map that was read as bytes that are no map, where the reading after that is below the end of its extent's lease
pub map-damaged : (s : Setting) (log : CommandLog) (uses : List InUse) (extent until last : ℕ) (claim : Claim) (bytes : List ℕ) (older : List Exchange) → log.exchanges ≡ clock last ∷ read_of (map_at s.geometry extent) bytes ∷ older →
    read_map s.geometry.extent_blocks bytes ≡ None → Holds s log (extent_lease s.geometry extent) claim until → first_reached (extent_use s.geometry extent until ∷ uses) last ≡ None → IsMapDamaged s log (record { 0 = map_at s.geometry extent })
map-damaged s log uses' extent until last claim bytes older is none held found = record {
  extent = extent;
  here = refl;
  bytes = bytes;
  reading = last;
  read = subst (λ (done : List Exchange). IsIn (read_of (map_at s.geometry extent) bytes) done) (sym is) (inr (inl refl));
  outside = none;
  last = (read_of (map_at s.geometry extent) bytes ∷ older, is);
  below = λ claim' until' held'. (
      let in_use = extent_use s.geometry extent until ∷ uses' in
      let early = (subst (TellsFirstDue in_use last) found (first-tells in_use last)) (extent_use s.geometry extent until) (inl refl) in
      let e : Held claim until ≡ Held claim' until' = sym held ∙ held' in
      let u : until ≡ until' = cc in
      omega (arith, early));
}

-- where the leases that are handed in are those that the command uses, the lost lease is the one that it has to name
pub lost-comes : (s : Setting) → IsGeometry s.geometry → (log : CommandLog) (uses : List InUse) (due : InUse) (reading : ℕ) →
    AreUsed s log uses → IsLostOnHand s log uses due reading → WasLost s log (lease_name s.geometry due.lease) due.until reading
lost-comes s geometry log uses' due reading used (on_hand.missed k block extent bytes last is rests) =
    subst (λ (name : LeaseName). WasLost s log name due.until reading) (sym (ap (lease_name s.geometry) is ∙ extent-name s.geometry extent)) (replies.missed k block bytes last rests)
lost-comes s geometry log uses' due reading used (on_hand.reached extent until claim bytes older below is none held found) =
    replies.reached due refl refl (of_clock (read_of (map_at s.geometry extent) bytes ∷ older, is)) (sound due told.among) told.past (λ other its le. told.first other (complete other its) le)
  where
    in_use : List InUse
    in_use = extent_use s.geometry extent until ∷ uses'

    told : IsFirstDue in_use reading due
    told = subst (TellsFirstDue in_use reading) found (first-tells in_use reading)

    sound : (one : InUse) → IsUse one in_use → IsInUse s log one
    sound one (inl same) = subst (λ (u : InUse). IsInUse s log u) (sym same) (uses.rested extent claim bytes reading older below refl is none held)
    sound one (inr there) = uses.used (used.sound one there)

    complete : (one : InUse) → IsInUse s log one → IsUse one in_use
    complete one (uses.used u) = inr (used.complete one u)
    complete one (uses.unread claim' bytes' last' older' below' is' waited none' gone) =
        absurd (lease-map s.geometry one.lease extent below' (sym (ap block_second (sym is ∙ is'))))
    complete one (uses.rested other claim' bytes' last' older' below' at is' none' held') =
        let place : map_at s.geometry extent ≡ map_at s.geometry other = ap block_second (sym is ∙ is') in
        let some : 1 ≤ s.geometry.extent_blocks = omega (arith, geometry.blocks_low) in
        let same : one.lease ≡ extent_lease s.geometry extent = at ∙ ap (extent_lease s.geometry) (sym (map-map s.geometry extent other some place)) in
        let e : Held claim' one.until ≡ Held claim until = sym held' ∙ (ap (hold_by_log s log.before log.exchanges) same ∙ held) in
        let ends : one.until ≡ until = cc in
        inl (λ i. record { lease = same i; until = ends i })

-- so it ends with its cause
pub ends-shown : (s : Setting) → IsGeometry s.geometry → (log : CommandLog) (spares : ℕ → Type 0) (uses' : List InUse) (known : Known) (follows : End) (IsDone : CommandLog → Type 0) →
    Endings s log.before log.exchanges spares uses' known (λ done end. ShowsOnHand s known uses' follows IsDone (with_exchanges log done) end)
ends-shown s geometry log spares uses' known follows IsDone = record {
  unread = λ own extent along below. on_hand.unread (record { 0 = map_at s.geometry extent }) (own ++ log.exchanges, refl);
  unwritten = λ own k block until bytes along. on_hand.unwritten (record { 0 = block }) (k, until, bytes, (own ++ log.exchanges, refl));
  missed = λ own k extent block until bytes last along below needs.
      shown (exchange (ask.Write k (record { 0 = block }) until) bytes (answer.Missed last) ∷ own ++ log.exchanges) (extent_use s.geometry extent until) last
      (on_hand.missed k (record { 0 = block }) extent bytes (own ++ log.exchanges, refl) refl (of_list (needs log.command)));
  reached = λ own extent until last claim bytes due along below none held found.
      shown (clock last ∷ read_of (map_at s.geometry extent) bytes ∷ own ++ log.exchanges) due last (on_hand.reached extent until claim bytes (own ++ log.exchanges) below refl none held found);
  damaged = λ own extent until last claim bytes along below none held found.
      on_hand.damaged (record { 0 = map_at s.geometry extent })
      (map-damaged s (with_exchanges log (clock last ∷ read_of (map_at s.geometry extent) bytes ∷ own ++ log.exchanges)) uses' extent until last claim bytes (own ++ log.exchanges) refl none held found);
}
  where
    shown : (done : List Exchange) (due : InUse) (last : ℕ) → IsLostOnHand s (with_exchanges log done) uses' due last →
        ShowsOnHand s known uses' follows IsDone (with_exchanges log done) (record { reply = reply.Lost (lease_name s.geometry due.lease) due.until last; known = nothing_known known.claims })
    shown done due last is = on_hand.lost due last is (λ used. lost-comes s geometry (with_exchanges log done) uses' due last used is)
