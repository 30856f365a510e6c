-- The claim of an extent's lease within a take.
use Rattle.std.proofs.Common.{◌≡◌, ◌≢◌, ℕ, suc, ◌+◌, ◌≤◌, ◌<◌, ◌^◌, List, [], ◌∷◌, length, drop, Bool, true, false, Option, Some, None, refl, ap, sym, subst, ◌∙◌, arith, inl, inr, ◌⊎◌}
use Rattle.std.specs.Prelude.{if◌then◌else◌, ◌&&◌, nat_le, nat_lt}
use Rattle.std.specs.Str.{bytes_eq}
use Rattle.std.proofs.lemmas.Bool.Decides.{eqb_tells}
use Rattle.std.proofs.lemmas.Slice.Eq.{bytes_eq-Decides}
use Rattle.plx_base.specs.declared.lease.Claim.{Claim}
use Rattle.plx_base.specs.declared.lease.LeaseRecord.{LeaseRecord}
use Rattle.plx_base.specs.declared.write_kind.WriteKind.TheVariants as kind
use Rattle.plx_commands.proofs.Places.{at-same}
use Rattle.plx_commands.specs.Limits.{last_claim}
use Rattle.plx_commands.specs.declared.reply.Reply.TheVariants as reply
use Rattle.plx_disk.specs.declared.ask.Answer.{Answer}
use Rattle.plx_disk.specs.declared.ask.Answer.TheVariants as answer
use Rattle.plx_gate.proofs.Leases.{lease-only}
use Rattle.plx_gate.specs.Leases.{lease_bytes, read_lease}
use Rattle.plx_geom.proofs.Places.{lease-lease, lease-map, extent-extent, extent-below}
use Rattle.plx_geom.specs.Geometry.{IsGeometry, lease_count, extent_lease, lease_at, map_at}
use Rattle.plx_rules.specs.Process.{Process, Ends}
use Rattle.plx_rules.specs.Processes.{followed_by}
use Rattle.plx_rules.specs.Claims.{ClaimEnd, ClaimLost, ClaimDamaged, claim_of, own_record, own_use, claim_in_time, reread_by, reread_process, written_process, if_expired, seen_process, claim_process}
use Rattle.plx_rules.specs.Ends.{End, ends, lost_process}
use Rattle.plx_rules.specs.Hands.{is_held}
use Rattle.plx_rules.specs.Holds.{Hold, Nothing, Seen, Wrote, Waited, Held, seen_by, hold_after_read, hold_after_reading, hold_after_reread}
use Rattle.plx_rules.specs.InUse.{InUse, IsUse, first_reached, unless_reached}
use Rattle.plx_rules.specs.Session.{Known, with_claim}
use Rattle.plx_rules.specs.Settings.{Setting}
use Rattle.plx_rules.specs.Space.{Taking, with_claim_begun, with_claimed, with_busy, first_busy, extent_use, read_map, after_extent_claim}
use Rattle.plx_rules.specs.Times.{window, wait, term, is_expired}
use Rattle.law_lease.proofs.LawfulCommands.{IsRest}
use Rattle.law_run.specs.AllowedAsks.{claim_of_lease}
use Rattle.law_run.specs.Busy.{IsBusy, unexpired, taken}
use Rattle.law_run.specs.CommandLogs.{Exchange, CommandLog, older_than}
use Rattle.law_run.specs.Holdings as holdings
use Rattle.law_run.specs.Holdings.{holds_along, holds_after, hold_by_log, last_found, is_clock, IsUntil, claims_in, claims_begun}
use Rattle.law_run.specs.Machines.{with_work}
use Rattle.law_run.specs.Replies.{IsLastReading, of_clock, of_wait, of_claim}
use Rattle.law_run.specs.Sessions.{is_attached}
use Rattle.law_run.specs.Uses as uses
use Rattle.law_run.specs.Uses.{IsInUse, IsOfCommand, IsUsed}
use Rattle.law_run.specs.Takes as takes
use Rattle.law_run.specs.Takes.{HoldsOthers}
use Rattle.law_run.proofs.Asking.{one-until}
use Rattle.law_run.proofs.Beside.{IsOfClaim, after_work, Beside, beside-none, beside-more, unread-unbusy, sight-unbusy, reread-unbusy}
use Rattle.law_run.proofs.ClaimRules.{bytes-other}
use Rattle.law_run.proofs.ClaimSteps.{read_of_lease, claim_write, claim_wait, after_sight, after_claiming, after_waiting, after_rereading, counts-sight, counts-claiming, counts-waiting, counts-rereading, own-limits, own-back, held-claiming, held-waiting, held-rereading}
use Rattle.law_run.proofs.Holding.{claims-more}
use Rattle.law_run.proofs.OnExtent.{map-is-found}
use Rattle.law_run.proofs.Uses.{block_second, bytes_found, no-map, used-within}
use Rattle.plx_rules.proofs.InUse.{TellsFirstDue, first-tells}
use Rattle.law_run.proofs.Right.{clock, read_of}
use Rattle.law_run.proofs.Runs.{along-more}
use Rattle.law_run.proofs.Spelled.{lease-rest}
use Rattle.law_run.proofs.Taking.{WorkRules, BusyIs, HasTaken, some-blocks, busy-more, Keeping, refuses, write-missed, write-failed, lost-reading, MeetsTaking, more, right-here, extended}
use Rattle.law_run.proofs.TakeFollows.{Calm, nothing-outside, map-in-format, map-goes-on, lease-goes-on}
use Rattle.plx_base.proofs.Tests.{clash}
use Rattle.law_run.proofs.Claiming.{nothing-used}

-- a claim that was written ends where it said
until-timed : (last : ℕ) (claim : Claim) (until : ℕ) → IsUntil until (hold_after_reading last (Wrote claim until))
until-timed last claim until = by-test (nat_le (claim.sample + wait) last && nat_lt last until)
  where
    by-test : (test : Bool) → IsUntil until (if test then Waited claim until else Wrote claim until)
    by-test true = holdings.waited claim refl
    by-test false = holdings.wrote claim refl

timed-until : (last : ℕ) (claim : Claim) (until other : ℕ) → IsUntil other (hold_after_reading last (Wrote claim until)) → other ≡ until
timed-until last claim until other = by-test (nat_le (claim.sample + wait) last && nat_lt last until)
  where
    by-test : (test : Bool) → IsUntil other (if test then Waited claim until else Wrote claim until) → other ≡ until
    by-test true (holdings.wrote c is) = absurd (let P : ⊥ = cc in P)
    by-test true (holdings.waited c is) = let e : Waited claim until ≡ Waited c other = is in sym (let u : until ≡ other = cc in u)
    by-test true (holdings.held c is) = absurd (let P : ⊥ = cc in P)
    by-test false (holdings.wrote c is) = let e : Wrote claim until ≡ Wrote c other = is in sym (let u : until ≡ other = cc in u)
    by-test false (holdings.waited c is) = absurd (let P : ⊥ = cc in P)
    by-test false (holdings.held c is) = absurd (let P : ⊥ = cc in P)

-- whether the newest exchange asked for the clock
abbrev clock_newest : List Exchange → Bool
clock_newest [] = false
clock_newest (x ∷ older) = is_clock x.ask

-- the first busy lease is one
busy-some : (b : Option (ℕ × LeaseRecord)) (l : ℕ) (seen : LeaseRecord) → ¬ (first_busy b l seen ≡ None)
busy-some None l seen none = let P : ⊥ = cc in P
busy-some (Some met) l seen none = let P : ⊥ = cc in P

module _ (s : Setting) (geometry : IsGeometry s.geometry) (small : s.boot < 2 ^ 128) (first : CommandLog) (holds : ℕ → Hold) (known : Known) (count : ℕ) (work : WorkRules s first known count) where
  abbrev TakenSo : (M : ℕ → Type 0) → (tried : ℕ) → List Exchange → Taking → Type 0
  TakenSo M tried done t = HasTaken s geometry first holds known count work M tried done t

  abbrev GoesSo : (M : ℕ → Type 0) → (tried : ℕ) → (Taking → Process End) → (n : ℕ) → Type 0
  GoesSo M tried rest n = MeetsTaking s geometry first holds known count work M tried rest n

  abbrev RightSo : List Exchange → Process End → ℕ → Type 0
  RightSo done process n = Keeping s geometry first holds known count work done process n

  abbrev log : List Exchange → CommandLog
  log done = with_work first done

  -- the rest by the leases that a reading has reached
  by-uses : (P : Process End → Type 0) (next : ClaimEnd → Process End) (uses : List InUse) (last : ℕ) (rest : Process ClaimEnd) → ((due : InUse) → first_reached uses last ≡ Some due → P (next (ClaimLost due last))) →
      (first_reached uses last ≡ None → P (followed_by rest next)) → P (followed_by (claim_in_time uses last rest) next)
  by-uses P next uses last rest late early = go (first_reached uses last) refl
    where
      go : (found : Option InUse) → first_reached uses last ≡ found → P (followed_by (unless_reached found (λ due. Ends (ClaimLost due last)) rest) next)
      go None is = early is
      go (Some due) is = late due is

  -- ---- a claim on the way

  module _ (M : ℕ → Type 0) (d : List Exchange) (t : Taking) (e : ℕ) (found : List ℕ) (bits : List Bool) (below : e < s.geometry.extents) (few : t.known.claims < last_claim)
      (r : TakenSo M e (read_of (map_at s.geometry e) found ∷ d) t) (is_map : read_map s.geometry.extent_blocks found ≡ Some bits)
      (nothing : hold_by_log s first.before (after_work first (read_of (map_at s.geometry e) found ∷ d)) (extent_lease s.geometry e) ≡ Nothing) where
    abbrev d0 : List Exchange
    d0 = read_of (map_at s.geometry e) found ∷ d

    abbrev own_lease : ℕ
    own_lease = extent_lease s.geometry e

    abbrev BesideSo : List Exchange → Type 0
    BesideSo done = Beside s first own_lease d0 done

    lease-within : own_lease < lease_count s.geometry
    lease-within = extent-below s.geometry e below

    unheld : is_held (hold_by_log s first.before (after_work first d0) own_lease) ≡ false
    unheld = ap is_held nothing

    beside-next : (done : List Exchange) (x : Exchange) → IsOfClaim own_lease x.ask x.answer → BesideSo done → BesideSo (x ∷ done)
    beside-next done x of b = beside-more s first own_lease d0 done x r.has lease-within unheld of b

    -- a lease that was used before is another one than that which is claimed
    used-apart : (one : InUse) → IsUsed s (log d0) one → one.lease ≢ own_lease
    used-apart one u same = nothing-used one.until _ (ap (hold_by_log s first.before (after_work first d0)) same ∙ nothing) u.until

    -- and what is held of it is as before
    held-still : (done : List Exchange) (l : ℕ) → BesideSo done → l < lease_count s.geometry → l ≢ own_lease →
        hold_by_log s first.before (after_work first done) l ≡ hold_by_log s first.before (after_work first d0) l
    held-still done l b less apart = b.others l apart (r.at_rest l less)

    -- it is used still
    used-still : (done : List Exchange) (one : InUse) → BesideSo done → IsUsed s (log d0) one → IsUsed s (log done) one
    used-still done one b u = record {
      of = by-command u.of;
      until = subst (IsUntil one.until) (sym (held-still done one.lease b (used-within s (log d0) one.lease u.of) (used-apart one u))) u.until;
    }
      where
        by-command : IsOfCommand s (log d0) one.lease → IsOfCommand s (log done) one.lease
        by-command (uses.named image below' named is) = uses.named image below' named is
        by-command (uses.claimed claim below' was) = uses.claimed claim below' (b.still _ was)

    -- a lease that is used beside it was used before
    used-before : (done : List Exchange) (one : InUse) → BesideSo done → one.lease ≢ own_lease → IsUsed s (log done) one → IsUsed s (log d0) one
    used-before done one b apart u = record {
      of = by-command u.of;
      until = subst (IsUntil one.until) (held-still done one.lease b (used-within s (log done) one.lease u.of) apart) u.until;
    }
      where
        by-command : IsOfCommand s (log done) one.lease → IsOfCommand s (log d0) one.lease
        by-command (uses.named image below' named is) = uses.named image below' named is
        by-command (uses.claimed claim below' was) = uses.claimed claim below' (b.claims one.lease _ _ apart was)

    all-still : (done : List Exchange) (one : InUse) → BesideSo done → one.lease ≢ own_lease → IsUsed s (log done) one → IsUse one t.uses
    all-still done one b apart u = r.used.complete one (used-before done one b apart u)

    -- the leases that are no extent's are held as before
    others-still : (done : List Exchange) → BesideSo done → HoldsOthers s first (log done)
    others-still done b l less apart = b.others l (apart e below) (r.at_rest l less) ∙ r.others l less apart

    -- the take stands after the claim
    after-claim : (done : List Exchange) (uses' : List InUse) (b : Option (ℕ × LeaseRecord)) → BesideSo done → claims_in s.geometry (after_work first done) ≡ 1 + claims_in s.geometry (after_work first d0) →
        IsRest (hold_by_log s first.before (after_work first done) own_lease) → BusyIs s geometry first holds known count work b done → (b ≡ None → t.busy ≡ None) →
        ((one : InUse) → IsUse one uses' → IsUsed s (log done) one) →
        ((one : InUse) → one.lease ≡ own_lease → IsUsed s (log done) one → IsUse one uses') →
        ((one : InUse) → IsUse one t.uses → IsUse one uses') →
        TakenSo M (e + 1) done (record { known = with_claim t.known; uses = uses'; hand = t.hand; busy = b })
    after-claim done uses' b bes begun rest busy unbusy sound own wider = record {
      has = bes.has;
      went = bes.went r.went;
      claims = (let c = r.claims in omega (arith, begun));
      sessions = r.sessions;
      at_rest = λ l less. elim (eqb_tells l own_lease) [
        | inl same ↦ subst (λ n. IsRest (hold_by_log s first.before (after_work first done) n)) (sym same.1) rest
        | inr apart ↦ subst IsRest (sym (bes.others l apart.1 (r.at_rest l less))) (r.at_rest l less)
      ];
      others = others-still done bes;
      hand = bes.hand ∙ r.hand;
      within = r.within;
      used = record {
        sound = sound;
        complete = λ one u. elim (eqb_tells one.lease own_lease) [
          | inl same ↦ own one same.1 u
          | inr apart ↦ wider one (all-still done one bes apart.1 u)
        ];
      };
      busy = busy;
      later = λ e' past less. (
          let l = extent_lease s.geometry e' in
          bes.others l (λ same. (let q = extent-extent s.geometry e' e same in omega (arith, past, q))) (r.at_rest l (extent-below s.geometry e' less)) ∙ r.later e' (omega (arith, past)) less);
      maps = λ few' e' m. (
          let old = r.maps few' e' m in (
            (old.0.0, bes.older (read_of (map_at s.geometry e') old.0.0) old.0.1),
            λ none. (let f = old.1 (unbusy none) in (f.0, bes.told e' ∙ f.1, f.2)),
          ));
    }

    -- which lease was busy first, once this one was
    busy-end : (b : Option (ℕ × LeaseRecord)) (x : Exchange) (older : List Exchange) (seen : LeaseRecord) → BusyIs s geometry first holds known count work b older →
        IsBusy s (log (x ∷ older)) own_lease seen → BusyIs s geometry first holds known count work (first_busy b own_lease seen) (x ∷ older)
    busy-end None x older seen none is = (e, below, refl, inl (is, none))
    busy-end (Some met) x older seen other is = (other.0, other.1, other.2, inr other.3)

    module _ (M' : ℕ → Type 0) (new : ¬ M e) (split : (other : ℕ) → M' other → M other ⊎ (other ≡ e)) (needed : length t.hand < count) (rest : Taking → Process End) (m : ℕ)
        (goes : GoesSo M' (e + 1) rest m) where
      abbrev next : ClaimEnd → Process End
      next end = after_extent_claim s count e rest (with_claim_begun t) end

      abbrev own : ℕ → Claim
      own sample = claim_of s.boot t.known.claims sample

      small-number : t.known.claims < 2 ^ 40
      small-number = omega (arith, few)

      abbrev d1 : ℕ → List Exchange
      d1 sample = clock sample ∷ d0

      abbrev d2 : (sample : ℕ) (bytes : List ℕ) → List Exchange
      d2 sample bytes = after_sight d0 own_lease sample bytes

      abbrev d3 : (sample : ℕ) (bytes : List ℕ) → List Exchange
      d3 sample bytes = after_claiming d0 s.boot own_lease t.known.claims sample bytes

      abbrev d4 : (sample : ℕ) (bytes : List ℕ) (last : ℕ) → List Exchange
      d4 sample bytes last = after_waiting d0 s.boot own_lease t.known.claims sample bytes last

      abbrev d5 : (sample : ℕ) (bytes : List ℕ) (last : ℕ) (again : List ℕ) → List Exchange
      d5 sample bytes last again = after_rereading d0 s.boot own_lease t.known.claims sample bytes last again

      b1 : (sample : ℕ) → BesideSo (d1 sample)
      b1 sample = beside-next d0 (clock sample) tt (beside-none s first own_lease d0 r.has)

      b2 : (sample : ℕ) (bytes : List ℕ) → BesideSo (d2 sample bytes)
      b2 sample bytes = beside-next (d1 sample) (read_of_lease own_lease (answer.Bytes bytes)) refl (b1 sample)

      b3 : (sample : ℕ) (bytes : List ℕ) → BesideSo (d3 sample bytes)
      b3 sample bytes = beside-next (d2 sample bytes) (claim_write s.boot own_lease t.known.claims sample answer.Done) refl (b2 sample bytes)

      b4 : (sample : ℕ) (bytes : List ℕ) (last : ℕ) → BesideSo (d4 sample bytes last)
      b4 sample bytes last = beside-next (d3 sample bytes) (claim_wait sample last) tt (b3 sample bytes)

      b5 : (sample : ℕ) (bytes : List ℕ) (last : ℕ) (again : List ℕ) → BesideSo (d5 sample bytes last again)
      b5 sample bytes last again = beside-next (d4 sample bytes last) (read_of_lease own_lease (answer.Bytes again)) refl (b4 sample bytes last)

      nothing1 : (sample : ℕ) → hold_by_log s first.before (after_work first (d1 sample)) own_lease ≡ Nothing
      nothing1 sample = ap (λ (h : ℕ → Hold). h (lease_at own_lease)) (along-more s.geometry (is_attached first.before) (holds_after s.geometry first.before) (clock sample) (after_work first d0) r.has) ∙ ap (hold_after_reading sample) nothing

      -- a lease that was read, of which nothing was held
      shown2 : (sample : ℕ) (bytes : List ℕ) → hold_by_log s first.before (after_work first (d2 sample bytes)) own_lease ≡ seen_by (read_lease bytes) sample
      shown2 sample bytes =
          let H = holds_along s.geometry (is_attached first.before) (holds_after s.geometry first.before) (after_work first (d1 sample)) in
          at-same H (lease_at own_lease) (hold_after_read (Some sample) bytes (H (lease_at own_lease))) ∙ ap (hold_after_read (Some sample) bytes) (nothing1 sample)

      -- ---- ends

      counted : (done : List Exchange) → claims_in s.geometry (after_work first done) ≡ 1 + claims_in s.geometry (after_work first d0) → t.known.claims + 1 ≡ claims_in s.geometry (after_work first done) + claims_begun s.geometry first.before
      counted done begun = let c = r.claims in omega (arith, begun)

      -- the lease couldn't be read
      unreadable : (done : List Exchange) (n : ℕ) → BesideSo done → claims_in s.geometry (after_work first (read_of_lease own_lease answer.Fault ∷ done)) ≡ 1 + claims_in s.geometry (after_work first d0) →
          RightSo (read_of_lease own_lease answer.Fault ∷ done) (ends (reply.ReadFault (record { 0 = lease_at own_lease })) (with_claim t.known)) n
      unreadable done n b begun =
          let x = read_of_lease own_lease answer.Fault in
          refuses s geometry first holds known count work (x ∷ done) (with_claim t.known) (reply.ReadFault (record { 0 = lease_at own_lease })) n r.sessions (counted (x ∷ done) begun)
          (λ l less apart. ap (λ (h : ℕ → Hold). h (lease_at l)) (along-more s.geometry (is_attached first.before) (holds_after s.geometry first.before) x (after_work first done) b.has) ∙ others-still done b l less apart)
          (takes.unread (record { 0 = lease_at own_lease }) (after_work first done, refl))

      -- a reading has reached leases in use
      lost-counted : (done : List Exchange) (last : ℕ) (uses' : List InUse) (due : InUse) (n : ℕ) → BesideSo done → claims_in s.geometry (after_work first done) ≡ 1 + claims_in s.geometry (after_work first d0) →
          IsLastReading (after_work first done) last →
          ((one : InUse) → IsUse one uses' → IsInUse s (log done) one) → ((one : InUse) → IsInUse s (log done) one → IsUse one uses') → first_reached uses' last ≡ Some due →
          RightSo done (lost_process s (with_claim t.known) due last) n
      lost-counted done last uses' due n b begun is sound complete reached =
          lost-reading s geometry first holds known count work done last (with_claim t.known) uses' due n is
          (counted done begun) sound complete reached

      -- those that were used before are in use
      others-use : (done : List Exchange) → BesideSo done → (one : InUse) → IsUse one t.uses → IsInUse s (log done) one
      others-use done b one is = uses.used (used-still done one b (r.used.sound one is))

      -- bytes that are no lease end the take
      no-lease : (done : List Exchange) (bytes : List ℕ) (last n : ℕ) → BesideSo (read_of_lease own_lease (answer.Bytes bytes) ∷ done) → read_lease bytes ≡ None →
          claims_in s.geometry (after_work first (clock last ∷ read_of_lease own_lease (answer.Bytes bytes) ∷ done)) ≡ 1 + claims_in s.geometry (after_work first d0) →
          RightSo (clock last ∷ read_of_lease own_lease (answer.Bytes bytes) ∷ done) (ends (reply.Damaged (record { 0 = lease_at own_lease })) (with_claim t.known)) n
      no-lease done bytes last n b none begun =
          let done' = read_of_lease own_lease (answer.Bytes bytes) ∷ done in
          refuses s geometry first holds known count work (clock last ∷ done') (with_claim t.known) (reply.Damaged (record { 0 = lease_at own_lease })) n r.sessions (counted (clock last ∷ done') begun)
          (others-still (clock last ∷ done') (beside-next done' (clock last) tt b))
          (takes.lease_damaged (record { 0 = lease_at own_lease })
          (record { extent = e; here = refl; bytes = bytes; reading = last; read = inr (inl refl); outside = none; last = (after_work first done', refl) }))

      -- the claim ended Busy, and the take goes on past it
      goes-past : (x : Exchange) (older : List Exchange) (seen : LeaseRecord) → BesideSo (x ∷ older) → claims_in s.geometry (after_work first (x ∷ older)) ≡ 1 + claims_in s.geometry (after_work first d0) →
          hold_by_log s first.before (after_work first (x ∷ older)) own_lease ≡ Nothing → BusyIs s geometry first holds known count work t.busy older →
          IsBusy s (log (x ∷ older)) own_lease seen → Calm s first (x ∷ older) → RightSo (x ∷ older) (rest (with_busy (with_claim_begun t) own_lease seen)) m
      goes-past x older seen b begun none busy is calm =
          goes (with_busy (with_claim_begun t) own_lease seen) (x ∷ older)
          (extended s geometry first holds known count work M M' (e + 1) (x ∷ older) (with_busy (with_claim_begun t) own_lease seen) e
          (after-claim (x ∷ older) t.uses (first_busy t.busy own_lease seen) b begun (subst IsRest (sym none) tt) (busy-end t.busy x older seen busy is) (λ none'. absurd (busy-some t.busy own_lease seen none'))
          (λ one there. used-still (x ∷ older) one b (r.used.sound one there))
          (λ one same u. absurd (nothing-used one.until _ (ap (hold_by_log s first.before (after_work first (x ∷ older))) same ∙ none) u.until)) (λ one there. there))
          split (λ few'. ((found, b.older (read_of (map_at s.geometry e) found) (inl refl)), λ none'. absurd (busy-some t.busy own_lease seen none')))) calm

      -- ---- the reread

      abbrev in_use : ℕ → List InUse
      in_use sample = own_use own_lease (own sample) ∷ t.uses

      busy1 : (sample : ℕ) → BusyIs s geometry first holds known count work t.busy (d1 sample)
      busy1 sample = busy-more s geometry first holds known count work t.busy (clock sample) d0 (λ l seen less. unread-unbusy s first (after_work first (d1 sample)) refl l seen) r.busy

      module _ (sample : ℕ) (early-sample : sample < 2 ^ 48) (bytes : List ℕ) (seen : LeaseRecord) (sees : read_lease bytes ≡ Some seen) (expired : is_expired seen sample ≡ true) where
        busy3 : BusyIs s geometry first holds known count work t.busy (d3 sample bytes)
        busy3 =
            busy-more s geometry first holds known count work t.busy (claim_write s.boot own_lease t.known.claims sample answer.Done) (d2 sample bytes) (λ l seen' less. unread-unbusy s first (after_work first (d3 sample bytes)) refl l seen')
            (busy-more s geometry first holds known count work t.busy (read_of_lease own_lease (answer.Bytes bytes)) (d1 sample)
            (λ l seen' less. sight-unbusy s first (after_work first (d1 sample)) own_lease sample bytes seen sees expired (nothing1 sample) refl l seen') (busy1 sample))

        held3 : hold_by_log s first.before (after_work first (d3 sample bytes)) own_lease ≡ Wrote (own sample) (sample + term)
        held3 = held-claiming s small first.before (after_work first d0) r.has own_lease t.known.claims small-number sample early-sample bytes

        module _ (last : ℕ) (past : sample + wait ≤ last) where
          busy4 : BusyIs s geometry first holds known count work t.busy (d4 sample bytes last)
          busy4 = busy-more s geometry first holds known count work t.busy (claim_wait sample last) (d3 sample bytes) (λ l seen' less. unread-unbusy s first (after_work first (d4 sample bytes last)) refl l seen') busy3

          held4 : hold_by_log s first.before (after_work first (d4 sample bytes last)) own_lease ≡ hold_after_reading last (Wrote (own sample) (sample + term))
          held4 = ap (hold_after_reading last) held3

          module _ (early : last < sample + term) where
            waited : hold_by_log s first.before (after_work first (d4 sample bytes last)) own_lease ≡ Waited (own sample) (sample + term)
            waited = held-waiting s small first.before (after_work first d0) r.has own_lease t.known.claims small-number sample early-sample bytes last past early

            held5 : (again : List ℕ) (same : Bool) → bytes_eq again (lease_bytes (own_record (own sample))) ≡ same → hold_by_log s first.before (after_work first (d5 sample bytes last again)) own_lease ≡ hold_after_reread same (Held (own sample) (sample + term))
            held5 again same is =
                held-rereading s small first.before (after_work first d0) r.has own_lease t.known.claims small-number sample early-sample bytes last again past early ∙ ap (λ b. hold_after_reread b (Held (own sample) (sample + term))) is

            begun5 : (again : List ℕ) → claims_in s.geometry (after_work first (d5 sample bytes last again)) ≡ 1 + claims_in s.geometry (after_work first d0)
            begun5 again = counts-rereading s.geometry (after_work first d0) s.boot own_lease t.known.claims sample bytes last (answer.Bytes again) r.has lease-within

            begun6 : (again : List ℕ) (later : ℕ) → claims_in s.geometry (after_work first (clock later ∷ d5 sample bytes last again)) ≡ 1 + claims_in s.geometry (after_work first d0)
            begun6 again later = claims-more s.geometry (after_work first (d5 sample bytes last again)) (clock later) (no-map s.geometry (lease_at own_lease) again (λ e''. lease-map s.geometry own_lease e'' lease-within)) ∙ begun5 again

            b6 : (again : List ℕ) (later : ℕ) → BesideSo (clock later ∷ d5 sample bytes last again)
            b6 again later = beside-next (d5 sample bytes last again) (clock later) tt (b5 sample bytes last again)

            -- the lease is held
            taken5 : (again : List ℕ) → bytes_eq again (lease_bytes (own_record (own sample))) ≡ true →
                TakenSo M (e + 1) (d5 sample bytes last again) (with_claimed (with_claim_begun t) (extent_use s.geometry e (sample + term)))
            taken5 again is =
                let held = held5 again true is in
                let same : again ≡ lease_bytes (own_record (own sample)) = (bytes_eq-Decides again (lease_bytes (own_record (own sample)))).0 is in
                let spells : read_lease again ≡ Some (own_record (own sample)) = ap read_lease same ∙ own-back s small first.before (after_work first d0) r.has own_lease t.known.claims small-number sample early-sample again in
                after-claim (d5 sample bytes last again) (extent_use s.geometry e (sample + term) ∷ t.uses) t.busy (b5 sample bytes last again) (begun5 again) (subst IsRest (sym held) tt)
                (busy-more s geometry first holds known count work t.busy (read_of_lease own_lease (answer.Bytes again)) (d4 sample bytes last)
                (λ l seen' less. reread-unbusy s first (after_work first (d4 sample bytes last)) own_lease again (own sample) (sample + term) spells waited refl l seen') busy4)
                (λ none. none) (claims held)
                (λ one at u. (
                let ends = one-until (own sample) (sample + term) one.until _ (ap (hold_by_log s first.before (after_work first (d5 sample bytes last again))) at ∙ held) u.until in
                inl (λ i. record { lease = at i; until = sym ends i }))) (λ one there. inr there)
              where
                claims : hold_by_log s first.before (after_work first (d5 sample bytes last again)) own_lease ≡ Held (own sample) (sample + term) → (one : InUse) → IsUse one (extent_use s.geometry e (sample + term) ∷ t.uses) →
                    IsUsed s (log (d5 sample bytes last again)) one
                claims held one (inl same) =
                    subst (λ (u : InUse). IsUsed s (log (d5 sample bytes last again)) u) (sym same)
                    (record { of = uses.claimed (own sample) lease-within (inr (inr (inl refl))); until = holdings.held (own sample) held })
                claims held one (inr there) = used-still (d5 sample bytes last again) one (b5 sample bytes last again) (r.used.sound one there)

            -- bytes that are no lease: what is in use at the reading after them
            gone6 : (again : List ℕ) (later : ℕ) → bytes_eq again (lease_bytes (own_record (own sample))) ≡ false → hold_by_log s first.before (after_work first (clock later ∷ d5 sample bytes last again)) own_lease ≡ Nothing
            gone6 again later is = ap (hold_after_reading later) (held5 again false is)

            sound6 : (again : List ℕ) (later : ℕ) → bytes_eq again (lease_bytes (own_record (own sample))) ≡ false → read_lease again ≡ None → (one : InUse) → IsUse one (in_use sample) →
                IsInUse s (log (clock later ∷ d5 sample bytes last again)) one
            sound6 again later is none one (inl same) =
                subst (λ (u : InUse). IsInUse s (log (clock later ∷ d5 sample bytes last again)) u) (sym same)
                (uses.unread (own sample) again later (after_work first (d4 sample bytes last)) lease-within refl waited none (gone6 again later is))
            sound6 again later is none one (inr there) = others-use (clock later ∷ d5 sample bytes last again) (b6 again later) one there

            complete6 : (again : List ℕ) (later : ℕ) → bytes_eq again (lease_bytes (own_record (own sample))) ≡ false → (one : InUse) →
                IsInUse s (log (clock later ∷ d5 sample bytes last again)) one → IsUse one (in_use sample)
            complete6 again later is one (uses.used u) = elim (eqb_tells one.lease own_lease) [
              | inl same ↦ absurd (nothing-used one.until _ (ap (hold_by_log s first.before (after_work first (clock later ∷ d5 sample bytes last again))) same.1 ∙ gone6 again later is) u.until)
              | inr apart ↦ inr (all-still (clock later ∷ d5 sample bytes last again) one (b6 again later) apart.1 u)
            ]
            complete6 again later is one (uses.unread claim bytes' later' older' below' at_end waited' none' gone) =
                let same : own_lease ≡ one.lease = lease-lease own_lease one.lease (ap block_second at_end) in
                let before : after_work first (d4 sample bytes last) ≡ older' = ap (λ (d : List Exchange). older_than (older_than d)) at_end in
                let w : Waited (own sample) (sample + term) ≡ Waited claim one.until = sym waited ∙ ((λ i. hold_by_log s first.before (before i) (same i)) ∙ waited') in
                let u : sample + term ≡ one.until = cc in
                inl (λ i. record { lease = sym same i; until = sym u i })
            complete6 again later is one (uses.rested e' claim bytes' later' older' below' at at_end none' held) = absurd (lease-map s.geometry own_lease e' lease-within (ap block_second at_end))

            after-again : (again : List ℕ) (same : Bool) → bytes_eq again (lease_bytes (own_record (own sample))) ≡ same → (found' : Option LeaseRecord) → read_lease again ≡ found' →
                RightSo (d5 sample bytes last again) (followed_by (reread_by same (in_use sample) (own sample) found') next) (suc (suc m))
            after-again again true is found' reads =
                right-here s geometry first holds known count work M M' (e + 1) e (sample + term) m (own sample) rest (with_claimed (with_claim_begun t) (extent_use s.geometry e (sample + term)))
                (d5 sample bytes last again) below new split needed (taken5 again is)
                (lease-goes-on s first (d4 sample bytes last) own_lease again lease-within (λ none. (
                let spells = ap read_lease ((bytes_eq-Decides again (lease_bytes (own_record (own sample)))).0 is)
                ∙ own-back s small first.before (after_work first d0) r.has own_lease t.known.claims small-number sample early-sample again in
                let q = sym spells ∙ none in let P : ⊥ = cc in P))) (held5 again true is) goes
            after-again again false is (Some other) reads =
                let process = rest (with_busy (with_claim_begun t) own_lease other) in
                let done = d5 sample bytes last again in
                more s geometry first holds known count work (suc m) process done (more s geometry first holds known count work m process done
                (goes-past (read_of_lease own_lease (answer.Bytes again)) (d4 sample bytes last) other (b5 sample bytes last again) (begun5 again) (held5 again false is) busy4
                (taken (own sample) (sample + term) again (after_work first (d4 sample bytes last)) refl waited reads
                (λ same. bytes-other again (lease_bytes (own_record (own sample))) is ((lease-only again other reads).1 ∙ ap lease_bytes same)))
                (lease-goes-on s first (d4 sample bytes last) own_lease again lease-within (λ none. (let q = sym reads ∙ none in let P : ⊥ = cc in P)))))
            after-again again false is None reads = (
              work.may (d5 sample bytes last again) _ _ ((b5 sample bytes last again).went r.went, tt) tt (λ outside. refl),
              λ later small'. by-uses (λ process. RightSo (clock later ∷ d5 sample bytes last again) process (suc m)) next (in_use sample) later (Ends ClaimDamaged)
                  (λ due reached. lost-counted (clock later ∷ d5 sample bytes last again) later (in_use sample) due (suc m) (b6 again later) (begun6 again later) (of_clock (after_work first (d5 sample bytes last again), refl))
                  (sound6 again later is reads) (complete6 again later is) reached)
                  (λ none. no-lease (d4 sample bytes last) again later (suc m) (b5 sample bytes last again) reads (begun6 again later)),
            )

          -- ---- the wait

          begun4 : claims_in s.geometry (after_work first (d4 sample bytes last)) ≡ 1 + claims_in s.geometry (after_work first d0)
          begun4 = counts-waiting s.geometry (after_work first d0) s.boot own_lease t.known.claims sample bytes last r.has lease-within

          sound4 : (one : InUse) → IsUse one (in_use sample) → IsInUse s (log (d4 sample bytes last)) one
          sound4 one (inl same) =
              subst (λ (u : InUse). IsInUse s (log (d4 sample bytes last)) u) (sym same)
              (uses.used (record {
                of = uses.claimed (own sample) lease-within (inr (inl refl));
                until = subst (IsUntil (sample + term)) (sym held4) (until-timed last (own sample) (sample + term));
              }))
          sound4 one (inr there) = others-use (d4 sample bytes last) (b4 sample bytes last) one there

          complete4 : (one : InUse) → IsInUse s (log (d4 sample bytes last)) one → IsUse one (in_use sample)
          complete4 one (uses.used u) = elim (eqb_tells one.lease own_lease) [
            | inl same ↦
                let here : IsUntil one.until (hold_after_reading last (Wrote (own sample) (sample + term))) =
                subst (IsUntil one.until) (ap (hold_by_log s first.before (after_work first (d4 sample bytes last))) same.1 ∙ held4) u.until in
                let ends : one.until ≡ sample + term = timed-until last (own sample) (sample + term) one.until here in
                inl (λ i. record { lease = same.1 i; until = ends i })
            | inr apart ↦ inr (all-still (d4 sample bytes last) one (b4 sample bytes last) apart.1 u)
          ]
          complete4 one (uses.unread claim bytes' later older' below' at_end waited' none' gone) = let c : false ≡ true = ap clock_newest at_end in absurd (clash true refl (sym c))
          complete4 one (uses.rested e' claim bytes' later older' below' at at_end none' held) = let c : false ≡ true = ap clock_newest at_end in absurd (clash true refl (sym c))

          after-wait : RightSo (d4 sample bytes last) (followed_by (claim_in_time (in_use sample) last (reread_process (in_use sample) own_lease (own sample))) next) (suc (suc (suc m)))
          after-wait =
              by-uses (λ process. RightSo (d4 sample bytes last) process (suc (suc (suc m)))) next (in_use sample) last (reread_process (in_use sample) own_lease (own sample))
              (λ due reached. lost-counted (d4 sample bytes last) last (in_use sample) due (suc (suc (suc m))) (b4 sample bytes last) begun4 (of_wait (sample + wait) (after_work first (d3 sample bytes), refl)) sound4 complete4 reached)
              (λ none. (
                work.may (d4 sample bytes last) _ _ ((b4 sample bytes last).went r.went, tt) (e, below, inr refl) (
                  λ one used'. (subst (TellsFirstDue (in_use sample) last) none (first-tells (in_use sample) last)) one (complete4 one used'),
                  nothing-outside s (d3 sample bytes) refl,
                ),
                λ again long. after-again ((subst (TellsFirstDue (in_use sample) last) none (first-tells (in_use sample) last)) (own_use own_lease (own sample)) (inl refl)) again
                    (bytes_eq again (lease_bytes (own_record (own sample)))) refl (read_lease again) refl,
                unreadable (d4 sample bytes last) (suc (suc m)) (b4 sample bytes last)
                    (counts-rereading s.geometry (after_work first d0) s.boot own_lease t.known.claims sample bytes last answer.Fault r.has lease-within),
              ))

      -- ---- the claim

      begun2 : (sample : ℕ) (x : Answer) → claims_in s.geometry (after_work first (read_of_lease own_lease x ∷ d1 sample)) ≡ 1 + claims_in s.geometry (after_work first d0)
      begun2 sample x = counts-sight s.geometry (after_work first d0) own_lease sample x r.has lease-within

      begun3 : (sample : ℕ) (bytes : List ℕ) (x : Answer) → claims_in s.geometry (after_work first (claim_write s.boot own_lease t.known.claims sample x ∷ d2 sample bytes)) ≡ 1 + claims_in s.geometry (after_work first d0)
      begun3 sample bytes x = counts-claiming s.geometry (after_work first d0) s.boot own_lease t.known.claims sample bytes x r.has lease-within

      -- bytes that are no lease at its first read: what is in use at the reading after them
      complete2 : (sample : ℕ) (bytes : List ℕ) (later : ℕ) → read_lease bytes ≡ None → (one : InUse) → IsInUse s (log (clock later ∷ d2 sample bytes)) one → IsUse one t.uses
      complete2 sample bytes later none one (uses.used u) =
          let b = beside-next (d2 sample bytes) (clock later) tt (b2 sample bytes) in
          let gone : hold_by_log s first.before (after_work first (clock later ∷ d2 sample bytes)) own_lease ≡ Nothing = ap (hold_after_reading later) (shown2 sample bytes ∙ ap (λ f. seen_by f sample) none) in
          elim (eqb_tells one.lease own_lease) [
            | inl same ↦ absurd (nothing-used one.until _ (ap (hold_by_log s first.before (after_work first (clock later ∷ d2 sample bytes))) same.1 ∙ gone) u.until)
            | inr apart ↦ all-still (clock later ∷ d2 sample bytes) one b apart.1 u
          ]
      complete2 sample bytes later none one (uses.unread claim bytes' later' older' below' at_end waited' none' gone) =
          let same : own_lease ≡ one.lease = lease-lease own_lease one.lease (ap block_second at_end) in
          let before : after_work first (d1 sample) ≡ older' = ap (λ (d : List Exchange). older_than (older_than d)) at_end in
          let w : Nothing ≡ Waited claim one.until = sym (nothing1 sample) ∙ ((λ i. hold_by_log s first.before (before i) (same i)) ∙ waited') in
          absurd (let P : ⊥ = cc in P)
      complete2 sample bytes later none one (uses.rested e' claim bytes' later' older' below' at at_end none' held) = absurd (lease-map s.geometry own_lease e' lease-within (ap block_second at_end))

      -- the lease was read
      after-seen : (sample : ℕ) (bytes : List ℕ) → sample < 2 ^ 48 → (found' : Option LeaseRecord) → read_lease bytes ≡ found' →
          RightSo (d2 sample bytes) (followed_by (seen_process t.uses own_lease (own sample) found') next) (suc (suc (suc (suc (suc m)))))
      after-seen sample bytes early None sees = (
        work.may (d2 sample bytes) _ _ ((b2 sample bytes).went r.went, tt) tt (λ outside. refl),
        λ later small'.
            let done = clock later ∷ d2 sample bytes in
            let b = beside-next (d2 sample bytes) (clock later) tt (b2 sample bytes) in
            let begun = claims-more s.geometry (after_work first (d2 sample bytes)) (clock later) (no-map s.geometry (lease_at own_lease) bytes (λ e''. lease-map s.geometry own_lease e'' lease-within)) ∙ begun2 sample (answer.Bytes bytes) in
            by-uses (λ process. RightSo done process (suc (suc (suc (suc m))))) next t.uses later (Ends ClaimDamaged)
            (λ due reached. lost-counted done later t.uses due (suc (suc (suc (suc m)))) b begun (of_clock (after_work first (d2 sample bytes), refl))
            (λ one is. others-use done b one is) (complete2 sample bytes later sees) reached)
            (λ none. no-lease (d1 sample) bytes later (suc (suc (suc (suc m)))) (b2 sample bytes) sees begun),
      )
      after-seen sample bytes early (Some seen) sees = by-expired (is_expired seen sample) refl
        where
          by-expired : (test : Bool) → is_expired seen sample ≡ test →
              RightSo (d2 sample bytes) (followed_by (if_expired test seen (written_process t.uses own_lease (own sample))) next) (suc (suc (suc (suc (suc m)))))
          by-expired false is =
              let process = rest (with_busy (with_claim_begun t) own_lease seen) in
              let done = d2 sample bytes in
              let up : (n : ℕ) → RightSo done process n → RightSo done process (suc n) = λ n right. more s geometry first holds known count work n process done right in
              up (suc (suc (suc (suc m)))) (up (suc (suc (suc m))) (up (suc (suc m)) (up (suc m) (up m
              (goes-past (read_of_lease own_lease (answer.Bytes bytes)) (d1 sample) seen (b2 sample bytes) (begun2 sample (answer.Bytes bytes))
              (shown2 sample bytes ∙ (ap (λ f. seen_by f sample) sees ∙ ap (λ b. if b then Seen sample else Nothing) is)) (busy1 sample)
              (unexpired sample bytes (after_work first d0) refl sees is)
              (lease-goes-on s first (d1 sample) own_lease bytes lease-within (λ none. (let q = sym sees ∙ none in let P : ⊥ = cc in P))))))))
          by-expired true is =
              let block = lease_at own_lease in
              let n = suc (suc (suc (suc m))) in (
                work.may (d2 sample bytes) _ _ (
                  (b2 sample bytes).went r.went,
                  claim_of_lease own_lease (own sample) seen bytes (after_work first d0) lease-within refl
                      (ap is_held (shown2 sample bytes ∙ (ap (λ f. seen_by f sample) sees ∙ ap (λ b. if b then Seen sample else Nothing) is)))
                      refl sees is refl r.claims (own-limits s small first.before (after_work first d0) r.has own_lease t.known.claims small-number sample early bytes) refl
                      (lease-rest (own_record (own sample)) ∙ sym (ap (drop 512) (lease-only bytes seen sees).1 ∙ lease-rest seen)) refl,
                ) (e, below, inr refl) (lease-goes-on s first (d1 sample) own_lease bytes lease-within (λ none. (let q = sym sees ∙ none in let P : ⊥ = cc in P)) _),
                (
                  work.may (d3 sample bytes) _ _
                      ((b3 sample bytes).went r.went, record { lease = own_lease; claim = own sample; until = sample + term; wrote = held3 sample early bytes seen sees is; after = refl }) tt tt,
                  λ last past small'. after-wait sample early bytes seen sees is last past,
                ),
                write-failed s geometry first holds known count work (d2 sample bytes) kind.Claim (record { 0 = block }) (sample + window) (lease_bytes (own_record (own sample))) (t.known.claims + 1) n
                    (counted (claim_write s.boot own_lease t.known.claims sample answer.Fault ∷ d2 sample bytes) (begun3 sample bytes answer.Fault)),
                λ late past small'. write-missed s geometry first holds known count work (d2 sample bytes) kind.Claim (record { 0 = block }) (lease_bytes (own_record (own sample))) e (sample + window) late
                    (t.known.claims + 1) n (of_claim refl) (counted (claim_write s.boot own_lease t.known.claims sample (answer.Missed late) ∷ d2 sample bytes) (begun3 sample bytes (answer.Missed late))),
              )

      -- ---- its first reading

      complete1 : (sample : ℕ) (one : InUse) → IsInUse s (log (d1 sample)) one → IsUse one t.uses
      complete1 sample one (uses.used u) = elim (eqb_tells one.lease own_lease) [
        | inl same ↦ absurd (nothing-used one.until _ (ap (hold_by_log s first.before (after_work first (d1 sample))) same.1 ∙ nothing1 sample) u.until)
        | inr apart ↦ all-still (d1 sample) one (b1 sample) apart.1 u
      ]
      complete1 sample one (uses.unread claim bytes' later' older' below' at_end waited' none' gone) =
          absurd (lease-map s.geometry one.lease e below' (sym (ap block_second at_end)))
      complete1 sample one (uses.rested e' claim bytes' later' older' below' at at_end none' held) =
          let same : found ≡ bytes' = ap (λ (d' : List Exchange). bytes_found (last_found (older_than d'))) at_end in
          let c : Some bits ≡ None = sym is_map ∙ (ap (read_map s.geometry.extent_blocks) same ∙ none') in
          absurd (let P : ⊥ = cc in P)

      -- the lease is claimed
      pub right-claim : RightSo d0 (followed_by (claim_process s.boot t.uses own_lease t.known.claims) next) (suc (suc (suc (suc (suc (suc (suc m)))))))
      right-claim = (
        work.may d0 _ _ (r.went, tt) tt (map-goes-on s first d e found (λ none. (let q = sym is_map ∙ none in let P : ⊥ = cc in P)) _),
        λ sample early. by-uses (λ process. RightSo (d1 sample) process (suc (suc (suc (suc (suc (suc m))))))) next t.uses sample _
            (λ due reached. lost-reading s geometry first holds known count work (d1 sample) sample (with_claim t.known) t.uses due (suc (suc (suc (suc (suc (suc m)))))) (of_clock (after_work first d0, refl))
            (
            let f = map-is-found s.geometry e found bits (some-blocks s geometry first holds known count work) is_map in
            let c = r.claims in
            let one : claims_in s.geometry (after_work first (d1 sample)) ≡ 1 + claims_in s.geometry (after_work first d0) = rw f refl in
            omega (arith, one, c))
            (λ one is. others-use (d1 sample) (b1 sample) one is) (complete1 sample) reached)
            (λ none. (
              work.may (d1 sample) _ _ ((b1 sample).went r.went, tt) (e, below, inr refl) (
                λ one used'. (subst (TellsFirstDue t.uses sample) none (first-tells t.uses sample)) one (complete1 sample one used'),
                map-in-format s d e found (λ bad. (let q = sym is_map ∙ bad in let P : ⊥ = cc in P)),
              ),
              λ bytes long. after-seen sample bytes early (read_lease bytes) refl,
              unreadable (d1 sample) (suc (suc (suc (suc (suc m))))) (b1 sample) (begun2 sample answer.Fault),
            )),
      )
