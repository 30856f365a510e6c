-- The rest of a command of one image by its next ask.
use Rattle.std.proofs.Common.{◌≡◌, ℕ, zero, suc, ◌+◌, ◌≤◌, ◌<◌, List, ◌∷◌, Some, refl, ap, sym, subst, ◌∙◌, arith, inl, inr, true}
use Rattle.plx_base.specs.declared.lease.Claim.{Claim}
use Rattle.plx_base.specs.declared.lease.LeaseName.{LeaseName}
use Rattle.plx_base.specs.declared.lease.LeaseName.TheVariants as lease
use Rattle.plx_base.specs.declared.numbers.SlotNo.{SlotNo}
use Rattle.plx_base.specs.declared.write_kind.WriteKind.{WriteKind}
use Rattle.plx_commands.specs.declared.command.Command.{Command}
use Rattle.plx_commands.specs.declared.reply.Reply.{Reply}
use Rattle.plx_commands.specs.declared.reply.Reply.TheVariants as reply
use Rattle.plx_disk.specs.declared.ask.Ask.{Ask}
use Rattle.plx_disk.specs.declared.ask.Ask.TheVariants as ask
use Rattle.plx_disk.specs.declared.ask.Answer.TheVariants as answer
use Rattle.plx_geom.specs.Geometry.{Geometry, lease_count, lease_number, image_lease, lease_at, map_at}
use Rattle.plx_rules.specs.Process.{Process}
use Rattle.plx_rules.specs.Attaching.{image_use}
use Rattle.plx_rules.specs.Ends.{End, ends, lost_process, write_then, ends_in_time}
use Rattle.plx_rules.specs.Holds.{Hold, Nothing, Held}
use Rattle.plx_rules.proofs.InUse.{same-first}
use Rattle.plx_rules.specs.InUse.{InUse, IsNamedFirst, lease_name}
use Rattle.plx_rules.specs.Session.{Known, nothing_known}
use Rattle.plx_rules.specs.Settings.{Setting}
use Rattle.law_run.specs.CommandLogs.{Exchange, Finished, first_reading, older_than}
use Rattle.law_run.specs.Causes.{MayFollow}
use Rattle.law_run.specs.Holdings as holdings
use Rattle.law_run.specs.Holdings.{hold_by_log, last_found, IsUntil, claims_in, claims_begun}
use Rattle.law_run.specs.Replies.{IsConfirmed, of_clock, WasLost, of_list, rests_by_log, Comes, IsReplied, worked}
use Rattle.law_run.specs.Replies as replies
use Rattle.law_run.specs.Uses as uses
use Rattle.law_run.specs.Uses.{IsInUse, IsOfCommand}
use Rattle.law_run.proofs.Holding.{Course, Going, going-clock}
use Rattle.law_run.proofs.Meets.{exchange, Meets}
use Rattle.law_run.proofs.OnImage.{NamesOne, names-own, names-only, lease-name, by-time}
use Rattle.law_run.proofs.Passed.{Passed, passed-all}
use Rattle.law_run.proofs.Rests.{rests-lost, rests-failed}
use Rattle.law_run.proofs.Uses.{of-one}
use Rattle.law_run.proofs.Right.{clock, Rests, finish, log_on, Shows, Right}
use Rattle.law_run.specs.Senses.{IsAny}
use Rattle.plx_base.proofs.Tests.{lt-cases}
use Rattle.plx_commands.specs.Replies.{is_in}

-- a lease has one end
pub one-until : (claim : Claim) (until other : ℕ) (hold : Hold) → hold ≡ Held claim until → IsUntil other hold → until ≡ other
one-until claim until other hold held (holdings.wrote c is) = absurd (let P : ⊥ = cc in P)
one-until claim until other hold held (holdings.waited c is) = absurd (let P : ⊥ = cc in P)
one-until claim until other hold held (holdings.held c is) = let e : Held claim until ≡ Held c other = sym held ∙ is in cc

-- a lease by its name
pub number-name : (g : Geometry) (lease : ℕ) → lease < lease_count g → lease_number g (lease_name g lease) ≡ lease
number-name g zero within = refl
number-name g (suc n) within = elim (lt-cases n g.images) [
  | inl below ↦ rw below.0 (let e : image_lease n ≡ suc n = omega arith in e)
  | inr above ↦ rw above.0 (omega (arith, above.1))
]

-- no refusal's fact holds of a command after this first reading
abbrev pub IsFine : Setting → List Finished → Command → (reading : ℕ) → Type 0
IsFine s before command reading = (done : List Exchange) → first_reading done ≡ Some reading → Passed s (log_on before command done) 11

-- what the work meets, and an Ok, come where no refusal's fact holds
pub replied-fine : (s : Setting) (before : List Finished) (command : Command) (reading : ℕ) → IsFine s before command reading → (done : List Exchange) → first_reading done ≡ Some reading → (r : Reply) →
    Comes s IsAny (log_on before command done) r → IsReplied s IsAny (log_on before command done) r
replied-fine s before command reading fine done first r comes = worked (passed-all s (log_on before command done) (fine done first)) comes

-- a write that fails ends the command
pub unwritten-shows : (s : Setting) (before : List Finished) (known : Known) (command : Command) (reading : ℕ) → IsFine s before command reading →
    (done : List Exchange) (until : ℕ) (k : WriteKind) (block : ℕ) (bytes : List ℕ) → first_reading done ≡ Some reading →
    known.claims ≡ claims_in s.geometry (exchange (ask.Write k (record { 0 = block }) until) bytes answer.Fault ∷ done) + claims_begun s.geometry before →
    Shows s before command (exchange (ask.Write k (record { 0 = block }) until) bytes answer.Fault ∷ done) (record { reply = reply.WriteFault (record { 0 = block }); known = nothing_known known.claims })
unwritten-shows s before known command reading fine done until k block bytes first claims =
    let x = exchange (ask.Write k (record { 0 = block }) until) bytes answer.Fault in (
      replied-fine s before command reading fine (x ∷ done) (rw first refl) (reply.WriteFault (record { 0 = block })) (k, until, bytes, (done, refl)),
      rests-failed s before command (x ∷ done) (record { 0 = block }) known.claims claims,
    )

-- so does one that is missed
pub missed-shows : (s : Setting) (before : List Finished) (known : Known) (command : Command) (reading : ℕ) → IsFine s before command reading →
    (done : List Exchange) (lease until : ℕ) (k : WriteKind) (block : ℕ) (bytes : List ℕ) (last : ℕ) → first_reading done ≡ Some reading →
    known.claims ≡ claims_in s.geometry (exchange (ask.Write k (record { 0 = block }) until) bytes (answer.Missed last) ∷ done) + claims_begun s.geometry before →
    lease < lease_count s.geometry → is_in lease (rests_by_log s before command done k block bytes) ≡ true →
    Shows s before command (exchange (ask.Write k (record { 0 = block }) until) bytes (answer.Missed last) ∷ done)
    (record { reply = reply.Lost (lease_name s.geometry lease) until last; known = nothing_known known.claims })
missed-shows s before known command reading fine done lease until k block bytes last first claims within needs =
    let x = exchange (ask.Write k (record { 0 = block }) until) bytes (answer.Missed last) in (
      replied-fine s before command reading fine (x ∷ done) (rw first refl) (reply.Lost (lease_name s.geometry lease) until last)
          (replies.missed k (record { 0 = block }) bytes (done, refl)
          (of_list (subst (λ l. is_in l (rests_by_log s before command done k block bytes) ≡ true) (sym (number-name s.geometry lease within)) needs))),
      rests-lost s before command (x ∷ done) (lease_name s.geometry lease) until last known.claims claims,
    )

-- a write, which rests on a lease, where that is allowed
pub asks-write : (May : List Exchange → Ask → List ℕ → Type 0) (s : Setting) (before : List Finished) (known : Known) (command : Command) (reading : ℕ) → IsFine s before command reading →
    (done : List Exchange) (lease until : ℕ) (k : WriteKind) (block : ℕ) (bytes : List ℕ) (then_done : Process End) (n : ℕ) →
    first_reading done ≡ Some reading → known.claims ≡ claims_in s.geometry done + claims_begun s.geometry before →
    ((x : Exchange) → x.ask ≡ ask.Write k (record { 0 = block }) until → claims_in s.geometry (x ∷ done) ≡ claims_in s.geometry done) →
    lease < lease_count s.geometry → is_in lease (rests_by_log s before command done k block bytes) ≡ true → May done (ask.Write k (record { 0 = block }) until) bytes →
    Meets May (Shows s before command) (exchange (ask.Write k (record { 0 = block }) until) bytes answer.Done ∷ done) then_done n →
    Meets May (Shows s before command) done (write_then s known (record { lease = lease; until = until }) k block bytes then_done) (suc n)
asks-write May s before known command reading fine done lease until k block bytes then_done n first claims more within needs may right = (
  may,
  right,
  unwritten-shows s before known command reading fine done until k block bytes first
      (let m = more (exchange (ask.Write k (record { 0 = block }) until) bytes answer.Fault) refl in omega arith),
  λ last past small. missed-shows s before known command reading fine done lease until k block bytes last first
      (let m = more (exchange (ask.Write k (record { 0 = block }) until) bytes (answer.Missed last)) refl in omega arith) within needs,
)

-- a command of one image, along which its lease is held
module _ (s : Setting) (before : List Finished) (known : Known) (command : Command) (slot : SlotNo) (c : Course) (one : NamesOne command slot.0) (within : slot.0 < s.geometry.images)
    (fine : IsFine s before command c.reading) (claims : known.claims ≡ c.begun + claims_begun s.geometry before) where
  -- the last reading is below the end of the lease
  pub confirmed : (done : List Exchange) (reading : ℕ) → Going s before done slot.0 c → reading < c.until → IsConfirmed s (log_on before command (clock reading ∷ done)) slot.0
  confirmed done reading going' below =
      record { reading = reading; until = c.until; last = (done, refl); held = (c.claim, (going-clock s before done reading slot.0 c going').held); below = below }

  -- a reading has reached it
  pub lost-late : (done : List Exchange) (reading n : ℕ) → Going s before done slot.0 c → c.until ≤ reading →
      Right s before command (clock reading ∷ done) (lost_process s known (record { lease = image_lease slot.0; until = c.until }) reading) n
  lost-late done reading n going' past =
      let after = going-clock s before done reading slot.0 c going' in
      subst (λ (name : LeaseName). Right s before command (clock reading ∷ done) (ends (reply.Lost name c.until reading) (nothing_known known.claims)) n) (sym (lease-name s.geometry slot.0 within)) (
        replied-fine s before command c.reading fine (clock reading ∷ done) after.first (reply.Lost (lease.Image slot) c.until reading)
            (replies.reached due (sym (lease-name s.geometry slot.0 within)) refl (of_clock (done, refl))
            (uses.used (record { of = uses.named slot.0 within (names-own command slot.0 one) refl; until = holdings.held c.claim after.held })) past (λ other is le. alone other is)),
        rests-lost s before command (clock reading ∷ done) (lease.Image slot) c.until reading known.claims (let b = after.begun in omega arith),
      )
    where
      due : InUse
      due = record { lease = image_lease slot.0; until = c.until }

      now : hold_by_log s before (clock reading ∷ done) (image_lease slot.0) ≡ Held c.claim c.until
      now = (going-clock s before done reading slot.0 c going').held

      its : (l : ℕ) → IsOfCommand s (log_on before command (clock reading ∷ done)) l → image_lease slot.0 ≡ l
      its l of = of-one s (log_on before command (clock reading ∷ done)) slot.0 (names-only command slot.0 one) (going-clock s before done reading slot.0 c going').mine l of

      alone : (other : InUse) → IsInUse s (log_on before command (clock reading ∷ done)) other → IsNamedFirst due other
      alone other (uses.used u) =
          let same = its other.lease u.of in
          same-first due other (one-until c.claim c.until other.until _ (ap (hold_by_log s before (clock reading ∷ done)) (sym same) ∙ now) u.until) same
      alone other (uses.unread claim bytes r older below is waited none gone) =
          let found : last_found done ≡ Some (lease_at other.lease, bytes) = ap (λ (d : List Exchange). last_found (older_than d)) is in
          let same = (going'.quiet (lease_at other.lease) bytes found).0 other.lease below refl in
          let e : Held c.claim c.until ≡ Nothing = sym now ∙ (ap (hold_by_log s before (clock reading ∷ done)) (sym same) ∙ gone) in
          absurd (let P : ⊥ = cc in P)
      alone other (uses.rested extent claim bytes r older below at_map is none held) =
          let found : last_found done ≡ Some (map_at s.geometry extent, bytes) = ap (λ (d : List Exchange). last_found (older_than d)) is in
          absurd ((going'.quiet (map_at s.geometry extent) bytes found).1 extent refl)

  -- a reply after one more reading
  pub asks-confirm : (done : List Exchange) (r : Reply) (next : Known) (n : ℕ) → Going s before done slot.0 c → MayFollow s (log_on before command done) ask.Clock →
      ((reading : ℕ) → reading < c.until → Going s before (clock reading ∷ done) slot.0 c → IsConfirmed s (log_on before command (clock reading ∷ done)) slot.0 →
      Comes s IsAny (log_on before command (clock reading ∷ done)) r × Rests s (finish command (clock reading ∷ done) r ∷ before) next) →
      Right s before command done (ends_in_time s known (image_use slot.0 c.until) r next) (suc n)
  asks-confirm done r next n going' on right = (
    ((going'.went, tt), on),
    λ reading small. by-time (λ process. Right s before command (clock reading ∷ done) process n) s known slot.0 c.until reading (ends r next)
        (λ past. lost-late done reading n going' past)
        (λ below.
        let after = going-clock s before done reading slot.0 c going' in
        let both = right reading below after (confirmed done reading going' below) in
        (replied-fine s before command c.reading fine (clock reading ∷ done) after.first r both.0, both.1)),
  )
