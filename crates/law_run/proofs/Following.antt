-- What may follow on the newest exchange of a command.
use Rattle.std.proofs.Common.{◌≡◌, ◌≢◌, ℕ, zero, suc, ◌<◌, List, [], ◌∷◌, length, true, Some, None, refl, ap, sym, subst, ◌∙◌, arith, inl, inr}
use Rattle.plx_base.specs.declared.lease.LeaseRecord.{LeaseRecord}
use Rattle.plx_base.specs.declared.numbers.SlotNo.{SlotNo}
use Rattle.plx_commands.specs.declared.command.Command.{Command}
use Rattle.plx_commands.specs.declared.command.Command.TheVariants.{Attach}
use Rattle.plx_disk.specs.declared.ask.Ask.{Ask}
use Rattle.plx_gate.specs.Leases.{read_lease}
use Rattle.plx_geom.proofs.Places.{image-below}
use Rattle.plx_geom.specs.Geometry.{lease_count, image_lease, lease_at, map_at}
use Rattle.plx_rules.specs.Process.{Process, Ends, ReadThen, WriteThen, ClockThen, UntilThen}
use Rattle.plx_rules.specs.InUse.{InUse}
use Rattle.plx_rules.specs.Settings.{Setting}
use Rattle.plx_rules.specs.Space.{read_map}
use Rattle.law_run.specs.Busy.{IsBusy, unexpired, taken}
use Rattle.law_run.specs.Causes.{record_alone, HasReadOutside, of_lease, of_map, of_image, HasReached, WasAttachBusy, MayFollow}
use Rattle.law_run.specs.CommandLogs.{Exchange, Finished, CommandLog}
use Rattle.law_run.specs.Holdings.{hold_by_log, IsUntil, last_found}
use Rattle.law_run.specs.KnownBytes.{known_in}
use Rattle.law_run.specs.Outside.{IsOutside}
use Rattle.law_run.specs.Sessions.{names}
use Rattle.law_run.specs.Uses as uses
use Rattle.law_run.specs.Uses.{IsInUse, IsOfCommand}
use Rattle.law_run.proofs.Asking.{IsFine}
use Rattle.law_run.proofs.Uses.{block_found, bytes_found, not-claim}
use Rattle.law_run.proofs.Meets.{Meets}
use Rattle.law_run.proofs.Passed.{passed-all}
use Rattle.law_run.proofs.Right.{clock, log_on}

-- where the newest exchange read nothing, no bytes outside the format were read by it
pub read-nothing : (s : Setting) (log : CommandLog) → last_found log.exchanges ≡ None → ¬ HasReadOutside s log
read-nothing s log none (of_lease lease bytes within last bad) = let e = sym none ∙ ap last_found last.1 in let P : ⊥ = cc in P
read-nothing s log none (of_map extent bytes within last bad) = let e = sym none ∙ ap last_found last.1 in let P : ⊥ = cc in P
read-nothing s log none (of_image image block bytes named last bad) = let e = sym none ∙ ap last_found last.1 in let P : ⊥ = cc in P

-- any ask may follow on the first reading, where it is below the end of each named image's lease and no refusal's fact holds
pub first-follows : (s : Setting) (before : List Finished) (command : Command) (reading : ℕ) → IsFine s before command reading →
    ((image until : ℕ) → names command image ≡ true → IsUntil until (hold_by_log s before (clock reading ∷ []) (image_lease image)) → reading < until) →
    (a : Ask) → MayFollow s (log_on before command (clock reading ∷ [])) a
first-follows s before command reading fine early a = (
  reached,
  read-nothing s (log_on before command []) refl,
  λ refused. passed-all s (log_on before command (clock reading ∷ [])) (fine (clock reading ∷ []) refl) refused.0 refused.1 refused.2,
)
  where
    by-use : (one : InUse) → IsInUse s (log_on before command (clock reading ∷ [])) one → reading < one.until
    by-use one (uses.used u) = by-command u.of
      where
        by-command : IsOfCommand s (log_on before command (clock reading ∷ [])) one.lease → reading < one.until
        by-command (uses.named image below named is) = early image one.until named (subst (λ l. IsUntil one.until (hold_by_log s before (clock reading ∷ []) l)) is u.until)
        by-command (uses.claimed claim below (inl here)) = absurd (not-claim (clock reading) _ refl refl here)
        by-command (uses.claimed claim below (inr none)) = absurd none
    by-use one (uses.unread claim bytes last older below at_end waited none gone) =
        absurd (let n : 1 ≡ suc (suc (length older)) = ap (λ (d : List Exchange). length d) at_end in omega (arith, n))
    by-use one (uses.rested extent claim bytes last older below at_map at_end none held) =
        absurd (let n : 1 ≡ suc (suc (length older)) = ap (λ (d : List Exchange). length d) at_end in omega (arith, n))

    reached : ¬ HasReached s (log_on before command (clock reading ∷ [])) reading
    reached late = let below = by-use late.due late.used in let past = late.past in omega (arith, below, past)

-- ---- after a read

-- bytes that were read at a block are within the format, where they are as a lease, as a map, and in each image that is named
pub read-inside : (s : Setting) (log : CommandLog) (block : ℕ) (bytes : List ℕ) → last_found log.exchanges ≡ Some (block, bytes) →
    ((lease : ℕ) → lease < lease_count s.geometry → block ≡ lease_at lease → read_lease bytes ≢ None) →
    ((extent : ℕ) → extent < s.geometry.extents → block ≡ map_at s.geometry extent → read_map s.geometry.extent_blocks bytes ≢ None) →
    ((image : ℕ) → names log.command image ≡ true → ¬ IsOutside s.geometry (record_alone s.geometry (known_in s.geometry log image) image) image block bytes) →
    ¬ HasReadOutside s log
read-inside s log block bytes found leases maps images (of_lease lease bytes' within last bad) =
    let b : block ≡ lease_at lease = sym (ap block_found found) ∙ ap (λ (d : List Exchange). block_found (last_found d)) last.1 in
    let y : bytes ≡ bytes' = sym (ap bytes_found found) ∙ ap (λ (d : List Exchange). bytes_found (last_found d)) last.1 in
    leases lease within b (ap read_lease y ∙ bad)
read-inside s log block bytes found leases maps images (of_map extent bytes' below last bad) =
    let b : block ≡ map_at s.geometry extent = sym (ap block_found found) ∙ ap (λ (d : List Exchange). block_found (last_found d)) last.1 in
    let y : bytes ≡ bytes' = sym (ap bytes_found found) ∙ ap (λ (d : List Exchange). bytes_found (last_found d)) last.1 in
    maps extent below b (ap (read_map s.geometry.extent_blocks) y ∙ bad)
read-inside s log block bytes found leases maps images (of_image image block' bytes' named last bad) =
    let b : block ≡ block'.0 = sym (ap block_found found) ∙ ap (λ (d : List Exchange). block_found (last_found d)) last.1 in
    let y : bytes ≡ bytes' = sym (ap bytes_found found) ∙ ap (λ (d : List Exchange). bytes_found (last_found d)) last.1 in
    let given = record_alone s.geometry (known_in s.geometry log image) image in
    images image named (subst (λ n. IsOutside s.geometry given image n bytes) (sym b) (subst (λ (l : List ℕ). IsOutside s.geometry given image block'.0 l) (sym y) bad))

-- a read past the leases ends no claim
pub past-unbusy : (s : Setting) (log : CommandLog) (slot : SlotNo) → slot.0 < s.geometry.images → log.command ≡ Attach slot → (block : ℕ) (bytes : List ℕ) →
    last_found log.exchanges ≡ Some (block, bytes) → lease_count s.geometry < block → ¬ WasAttachBusy s log
past-unbusy s log slot within command block bytes found past busy = by-cause (image_lease busy.slot.0) own busy.seen busy.busy
  where
    own : image_lease busy.slot.0 < lease_count s.geometry
    own =
        let e : Attach slot ≡ Attach busy.slot = sym command ∙ busy.command in
        let same : slot ≡ busy.slot = cc in
        image-below s.geometry busy.slot.0 (subst (λ (n : SlotNo). n.0 < s.geometry.images) same within)

    by-cause : (l : ℕ) → l < lease_count s.geometry → (seen : LeaseRecord) → ¬ IsBusy s log l seen
    by-cause l less seen (unexpired sample bytes' older sampled sees is) =
        let b : block ≡ lease_at l = sym (ap block_found found) ∙ ap (λ (d : List Exchange). block_found (last_found d)) sampled in omega (arith, b, past, less)
    by-cause l less seen (taken claim until bytes' older newest waited sees other) =
        let b : block ≡ lease_at l = sym (ap block_found found) ∙ ap (λ (d : List Exchange). block_found (last_found d)) newest in omega (arith, b, past, less)

-- nor does a read of bytes that are no lease
pub none-unbusy : (s : Setting) (log : CommandLog) (block : ℕ) (bytes : List ℕ) → last_found log.exchanges ≡ Some (block, bytes) → read_lease bytes ≡ None → ¬ WasAttachBusy s log
none-unbusy s log block bytes found none busy = by-cause (image_lease busy.slot.0) busy.seen busy.busy
  where
    by-cause : (l : ℕ) (seen : LeaseRecord) → ¬ IsBusy s log l seen
    by-cause l seen (unexpired sample bytes' older sampled sees is) =
        let y : bytes ≡ bytes' = sym (ap bytes_found found) ∙ ap (λ (d : List Exchange). bytes_found (last_found d)) sampled in
        let e : None ≡ Some seen = sym none ∙ (ap read_lease y ∙ sees) in let P : ⊥ = cc in P
    by-cause l seen (taken claim until bytes' older newest waited sees other) =
        let y : bytes ≡ bytes' = sym (ap bytes_found found) ∙ ap (λ (d : List Exchange). bytes_found (last_found d)) newest in
        let e : None ≡ Some seen = sym none ∙ (ap read_lease y ∙ sees) in let P : ⊥ = cc in P

-- a command that is no attach
pub no-attach : (s : Setting) (log : CommandLog) → ((slot : SlotNo) → ¬ (log.command ≡ Attach slot)) → ¬ WasAttachBusy s log
no-attach s log other busy = other busy.slot busy.command

-- ---- two rules that a part meets

module _ {E : Type 0} (May May' : List Exchange → Ask → List ℕ → Type 0) (Shows Shows' : List Exchange → E → Type 0) where
  -- a part that meets two rules meets both together; of the second one the ends show nothing
  pub meets-two : (process : Process E) (done : List Exchange) (n m : ℕ) → Meets May Shows done process n → Meets May' Shows' done process m →
      Meets (λ d a bytes. May d a bytes × May' d a bytes) Shows done process n
  meets-two (Ends end) done n m one other = one
  meets-two (ReadThen block rest fault) done zero m one other = absurd one
  meets-two (ReadThen block rest fault) done (suc n) zero one other = absurd other
  meets-two (ReadThen block rest fault) done (suc n) (suc m) one other =
      ((one.0, other.0), λ bytes long. meets-two (rest bytes) _ n m (one.1 bytes long) (other.1 bytes long), meets-two fault _ n m one.2 other.2)
  meets-two (WriteThen k block bytes guard then_done fault missed) done zero m one other = absurd one
  meets-two (WriteThen k block bytes guard then_done fault missed) done (suc n) zero one other = absurd other
  meets-two (WriteThen k block bytes guard then_done fault missed) done (suc n) (suc m) one other = (
    (one.0, other.0),
    meets-two then_done _ n m one.1 other.1,
    meets-two fault _ n m one.2 other.2,
    λ reading past small. meets-two (missed reading) _ n m (one.3 reading past small) (other.3 reading past small),
  )
  meets-two (ClockThen rest) done zero m one other = absurd one
  meets-two (ClockThen rest) done (suc n) zero one other = absurd other
  meets-two (ClockThen rest) done (suc n) (suc m) one other = ((one.0, other.0), λ reading small. meets-two (rest reading) _ n m (one.1 reading small) (other.1 reading small))
  meets-two (UntilThen from rest) done zero m one other = absurd one
  meets-two (UntilThen from rest) done (suc n) zero one other = absurd other
  meets-two (UntilThen from rest) done (suc n) (suc m) one other =
      ((one.0, other.0), λ reading past small. meets-two (rest reading) _ n m (one.1 reading past small) (other.1 reading past small))
