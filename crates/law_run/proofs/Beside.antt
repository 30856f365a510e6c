-- What the exchanges of a claim leave, beside its own lease.
use Rattle.std.proofs.Common.{◌≡◌, ◌≢◌, ℕ, ◌<◌, List, [], ◌∷◌, Bool, true, false, Option, Some, None, refl, ap, sym, subst, ◌∙◌, arith, inl, inr, ◌⊎◌}
use Rattle.plx_base.specs.declared.lease.Claim.{Claim}
use Rattle.plx_base.specs.declared.lease.LeaseRecord.{LeaseRecord}
use Rattle.plx_base.specs.declared.lease.LeaseRecord.TheVariants as lease_is
use Rattle.plx_base.specs.declared.write_kind.WriteKind.TheVariants as kind
use Rattle.plx_commands.proofs.Places.{at-other}
use Rattle.plx_disk.specs.declared.ask.Ask.{Ask}
use Rattle.plx_disk.specs.declared.ask.Ask.TheVariants as ask
use Rattle.plx_disk.specs.declared.ask.Answer.{Answer}
use Rattle.plx_disk.specs.declared.ask.Answer.TheVariants as answer
use Rattle.plx_gate.specs.Leases.{read_lease}
use Rattle.plx_geom.proofs.Places.{lease-lease, lease-map}
use Rattle.plx_geom.specs.Geometry.{Geometry, lease_count, extent_lease, lease_at, map_at}
use Rattle.plx_rules.specs.Hands.{is_held, hand_answered, hand_held, hand_left}
use Rattle.plx_rules.specs.Holds.{Hold, Nothing, Seen, Wrote, Waited, Held, after_answer}
use Rattle.plx_rules.specs.Rests.{extent_of}
use Rattle.plx_rules.specs.Settings.{Setting}
use Rattle.plx_rules.specs.Stored.{Given}
use Rattle.plx_rules.specs.Times.{is_expired}
use Rattle.law_lease.proofs.LawfulCommands.{IsRest}
use Rattle.law_lease.proofs.LawfulSpace.{timed-rests}
use Rattle.law_run.specs.AllowedAsks.{GoesOn, WentOn}
use Rattle.law_run.specs.Busy.{IsBusy, unexpired, taken}
use Rattle.law_run.specs.CommandLogs.{Exchange, CommandLog, IsIn, older_than, with_exchanges}
use Rattle.law_run.specs.Holdings.{holds_along, holds_after, last_found, hand_by_log, filled_by_log, hold_by_log}
use Rattle.law_run.specs.KnownBytes.{nothing_given, given_after_exchange, given_after_exchanges}
use Rattle.law_run.specs.Machines.{with_work}
use Rattle.law_run.specs.Sessions.{is_attached}
use Rattle.law_run.proofs.Grown.{with-other}
use Rattle.law_run.proofs.Hands.{HasBlock, filter-all, hand-more, hand-is-held, told-quiet}
use Rattle.law_run.proofs.Meets.{exchange}
use Rattle.law_run.proofs.Runs.{HasFirst, last_sample, along-more}
use Rattle.law_run.proofs.Uses.{claim_block, claim_written, block_found, bytes_found}
use Rattle.plx_base.proofs.Tests.{clash}

-- an exchange is one of a claim of this lease: a reading, a read of the lease, or its claim that is done
abbrev pub IsOfClaim : (lease : ℕ) → Ask → Answer → Type 0
IsOfClaim lease ask.Clock (answer.Reading reading) = Unit {0}
IsOfClaim lease (ask.Until from) (answer.Reading reading) = Unit {0}
IsOfClaim lease (ask.Read block) (answer.Bytes bytes) = block.0 ≡ lease_at lease
IsOfClaim lease (ask.Write kind.Claim block guard) answer.Done = block.0 ≡ lease_at lease
IsOfClaim lease a x = ⊥

-- it leaves what is held of another lease
other-stays : (sample : Option ℕ) (a : Ask) (bytes : List ℕ) (x : Answer) (holds : ℕ → Hold) (lease l : ℕ) → l ≢ lease → IsOfClaim lease a x → IsRest (holds (lease_at l)) →
    after_answer sample a bytes x holds (lease_at l) ≡ holds (lease_at l)
other-stays sample ask.Clock bytes (answer.Reading reading) holds lease l apart of rests = timed-rests reading (holds (lease_at l)) rests
other-stays sample (ask.Until from) bytes (answer.Reading reading) holds lease l apart of rests = timed-rests reading (holds (lease_at l)) rests
other-stays sample (ask.Read block) bytes (answer.Bytes found) holds lease l apart of rests = at-other holds block.0 (lease_at l) _ (λ e. apart (lease-lease l lease (e ∙ of)))
other-stays sample (ask.Write kind.Claim block guard) bytes answer.Done holds lease l apart of rests = at-other holds block.0 (lease_at l) _ (λ e. apart (lease-lease l lease (e ∙ of)))
other-stays sample a bytes x holds lease l apart of rests = absurd of

-- it goes on, and leaves the hand and what is told of maps
of-goes : (lease : ℕ) (a : Ask) (x : Answer) → IsOfClaim lease a x → GoesOn x
of-goes lease ask.Clock (answer.Reading reading) of = tt
of-goes lease (ask.Until from) (answer.Reading reading) of = tt
of-goes lease (ask.Read block) (answer.Bytes found) of = tt
of-goes lease (ask.Write kind.Claim block guard) answer.Done of = tt
of-goes lease a x of = absurd of

of-quiet : (g : Geometry) (found : Option (ℕ × List ℕ)) (filled : List (ℕ × List ℕ)) (lease : ℕ) (a : Ask) (bytes : List ℕ) (x : Answer) (hand : List ℕ) → IsOfClaim lease a x →
    hand_left a filled (hand_answered g found a bytes x hand) ≡ hand
of-quiet g found filled lease ask.Clock bytes (answer.Reading reading) hand of = refl
of-quiet g found filled lease (ask.Until from) bytes (answer.Reading reading) hand of = refl
of-quiet g found filled lease (ask.Read block) bytes (answer.Bytes read) hand of = refl
of-quiet g found filled lease (ask.Write kind.Claim block guard) bytes answer.Done hand of = told-quiet g found (ask.Write kind.Claim block guard) bytes answer.Done hand tt
of-quiet g found filled lease a bytes x hand of = absurd of

of-told : (g : Geometry) (lease : ℕ) (done : List Exchange) (x : Exchange) (extent : ℕ) → lease < lease_count g → IsOfClaim lease x.ask x.answer →
    given_after_exchanges (x ∷ done) nothing_given (map_at g extent) ≡ given_after_exchanges done nothing_given (map_at g extent)
of-told g lease done x extent below of = go x.ask x.answer of
  where
    before' : Given
    before' = given_after_exchanges done nothing_given

    go : (a : Ask) (y : Answer) → IsOfClaim lease a y → given_after_exchange a x.bytes y before' (map_at g extent) ≡ before' (map_at g extent)
    go ask.Clock (answer.Reading reading) of' = refl
    go (ask.Until from) (answer.Reading reading) of' = refl
    go (ask.Read block) (answer.Bytes found) of' = with-other before' block.0 found (map_at g extent) (λ e. lease-map g lease extent below (sym (e ∙ of')))
    go (ask.Write kind.Claim block guard) answer.Done of' = with-other before' block.0 x.bytes (map_at g extent) (λ e. lease-map g lease extent below (sym (e ∙ of')))
    go a y of' = absurd of'

of-claimed : (lease : ℕ) (a : Ask) (x : Answer) → IsOfClaim lease a x → (claim_block a ≡ 0) ⊎ (claim_block a ≡ lease_at lease)
of-claimed lease ask.Clock (answer.Reading reading) of = inl refl
of-claimed lease (ask.Until from) (answer.Reading reading) of = inl refl
of-claimed lease (ask.Read block) (answer.Bytes found) of = inl refl
of-claimed lease (ask.Write kind.Claim block guard) answer.Done of = inr of
of-claimed lease a x of = absurd of

-- the exchanges of a command after those of some work that began at the end of its first log
abbrev pub after_work : (first : CommandLog) → (own : List Exchange) → List Exchange
after_work first own = (with_work first own).exchanges

-- what such exchanges leave, from these on, in work that began after the exchanges of a first log
pub record Beside (s : Setting) (first : CommandLog) (lease : ℕ) (from done : List Exchange) : Type 0 where
  pub has : HasFirst (after_work first done)
  pub went : WentOn (after_work first from) → WentOn (after_work first done)
  pub others : (l : ℕ) → l ≢ lease → IsRest (hold_by_log s first.before (after_work first from) l) → hold_by_log s first.before (after_work first done) l ≡ hold_by_log s first.before (after_work first from) l
  pub hand : hand_by_log s first.before (after_work first done) ≡ hand_by_log s first.before (after_work first from)
  pub older : (x : Exchange) → IsIn x from → IsIn x done
  pub told : (extent : ℕ) → given_after_exchanges done nothing_given (map_at s.geometry extent) ≡ given_after_exchanges from nothing_given (map_at s.geometry extent)
  pub still : (x : Exchange) → IsIn x (after_work first from) → IsIn x (after_work first done)
  pub claims : (l guard : ℕ) (bytes : List ℕ) → l ≢ lease → IsIn (claim_written l guard bytes) (after_work first done) → IsIn (claim_written l guard bytes) (after_work first from)

pub beside-none : (s : Setting) (first : CommandLog) (lease : ℕ) (from : List Exchange) → HasFirst (after_work first from) → Beside s first lease from from
beside-none s first lease from has = record {
  has = has;
  went = λ went. went;
  others = λ l apart rests. refl;
  hand = refl;
  older = λ x is. is;
  told = λ extent. refl;
  still = λ x is. is;
  claims = λ l guard bytes apart is. is;
}

rest-held : (hold : Hold) → is_held hold ≡ true → IsRest hold
rest-held (Held claim until) is = tt
rest-held Nothing is = absurd (let P : ⊥ = cc in P)
rest-held (Seen sample) is = absurd (let P : ⊥ = cc in P)
rest-held (Wrote claim until) is = absurd (let P : ⊥ = cc in P)
rest-held (Waited claim until) is = absurd (let P : ⊥ = cc in P)

pub beside-more : (s : Setting) (first : CommandLog) (lease : ℕ) (from done : List Exchange) (x : Exchange) → HasFirst (after_work first from) → lease < lease_count s.geometry →
    is_held (hold_by_log s first.before (after_work first from) lease) ≡ false → IsOfClaim lease x.ask x.answer → Beside s first lease from done → Beside s first lease from (x ∷ done)
beside-more s first lease from done x has-from below unheld of b = record {
  has = tt;
  went = λ went. (of-goes lease x.ask x.answer of, b.went went);
  others = others;
  hand = hand-more s first.before x (after_work first done) b.has
      ∙ (ap (hand_held s.geometry H) (of-quiet s.geometry (last_found (after_work first done)) (filled_by_log s first.before (after_work first done)) lease x.ask x.bytes x.answer (hand_by_log s first.before (after_work first done)) of)
      ∙ (filter-all (λ c. is_held (H (lease_at (extent_lease s.geometry (extent_of s.geometry c))))) (hand_by_log s first.before (after_work first done)) in-hand ∙ b.hand));
  older = λ y is. inr (b.older y is);
  told = λ extent. of-told s.geometry lease done x extent below of ∙ b.told extent;
  still = λ y is. inr (b.still y is);
  claims = claims;
}
  where
    H : ℕ → Hold
    H = holds_along s.geometry (is_attached first.before) (holds_after s.geometry first.before) (after_work first (x ∷ done))

    others : (l : ℕ) → l ≢ lease → IsRest (hold_by_log s first.before (after_work first from) l) → hold_by_log s first.before (after_work first (x ∷ done)) l ≡ hold_by_log s first.before (after_work first from) l
    others l apart rests =
        let old = b.others l apart rests in
        ap (λ (h : ℕ → Hold). h (lease_at l)) (along-more s.geometry (is_attached first.before) (holds_after s.geometry first.before) x (after_work first done) b.has)
        ∙ (other-stays (last_sample (after_work first done)) x.ask x.bytes x.answer (holds_along s.geometry (is_attached first.before) (holds_after s.geometry first.before) (after_work first done)) lease l apart of (subst IsRest (sym old) rests) ∙ old)

    in-hand : (c : ℕ) → HasBlock (hand_by_log s first.before (after_work first done)) c → is_held (H (lease_at (extent_lease s.geometry (extent_of s.geometry c)))) ≡ true
    in-hand c in_hand =
        let l = extent_lease s.geometry (extent_of s.geometry c) in
        let was : is_held (hold_by_log s first.before (after_work first from) l) ≡ true = hand-is-held s first.before (after_work first from) c has-from (subst (λ (h : List ℕ). HasBlock h c) b.hand in_hand) in
        ap is_held (others l (λ e. clash (is_held (hold_by_log s first.before (after_work first from) l)) was (ap (λ n. is_held (hold_by_log s first.before (after_work first from) n)) e ∙ unheld)) (rest-held _ was)) ∙ was

    claims : (l guard : ℕ) (bytes : List ℕ) → l ≢ lease → IsIn (claim_written l guard bytes) (after_work first (x ∷ done)) → IsIn (claim_written l guard bytes) (after_work first from)
    claims l guard bytes apart (inl here) =
        let e : lease_at l ≡ claim_block x.ask = ap (λ (y : Exchange). claim_block y.ask) here in
        absurd (elim (of-claimed lease x.ask x.answer of) [ inl none ↦ (let f = e ∙ none in omega (arith, f)) | inr own ↦ apart (lease-lease l lease (e ∙ own)) ])
    claims l guard bytes apart (inr there) = b.claims l guard bytes apart there

-- ---- where no claim has ended Busy

-- whether the one before the newest asked for the clock
abbrev pub is_clock_ask : Ask → Bool
is_clock_ask ask.Clock = true
is_clock_ask a = false

abbrev pub after_clock : List Exchange → Bool
after_clock (x ∷ y ∷ older) = is_clock_ask y.ask
after_clock other = false

-- an exchange that reads nothing ends none
pub unread-unbusy : (s : Setting) (log : CommandLog) (done : List Exchange) → last_found done ≡ None → (l : ℕ) (seen : LeaseRecord) → ¬ IsBusy s (with_exchanges log done) l seen
unread-unbusy s log done none l seen (unexpired sample bytes older sampled sees is) = let e = sym none ∙ ap last_found sampled in let P : ⊥ = cc in P
unread-unbusy s log done none l seen (taken claim until bytes older newest waited sees other) = let e = sym none ∙ ap last_found newest in let P : ⊥ = cc in P

-- nor does the read of a map
pub map-unbusy : (s : Setting) (log : CommandLog) (done : List Exchange) (extent : ℕ) (found : List ℕ) → last_found done ≡ Some (map_at s.geometry extent, found) →
    (l : ℕ) (seen : LeaseRecord) → l < lease_count s.geometry → ¬ IsBusy s (with_exchanges log done) l seen
map-unbusy s log done extent found is l seen below (unexpired sample bytes older sampled sees e) =
    lease-map s.geometry l extent below (sym (sym (ap block_found is) ∙ ap (λ (d : List Exchange). block_found (last_found d)) sampled))
map-unbusy s log done extent found is l seen below (taken claim until bytes older newest waited sees other) =
    lease-map s.geometry l extent below (sym (sym (ap block_found is) ∙ ap (λ (d : List Exchange). block_found (last_found d)) newest))

-- nor the read of a lease that is expired for the reading before, of which nothing was held
pub sight-unbusy : (s : Setting) (log : CommandLog) (older : List Exchange) (lease sample : ℕ) (found : List ℕ) (record' : LeaseRecord) → read_lease found ≡ Some record' → is_expired record' sample ≡ true →
    hold_by_log s log.before older lease ≡ Nothing → last_sample older ≡ Some sample →
    (l : ℕ) (seen : LeaseRecord) → ¬ IsBusy s (with_exchanges log (exchange (ask.Read (record { 0 = lease_at lease })) [] (answer.Bytes found) ∷ older)) l seen
sight-unbusy s log older lease sample found record' spells expired nothing last l seen (unexpired sample' bytes older' sampled sees is) =
    let b : found ≡ bytes = ap (λ (d : List Exchange). bytes_found (last_found d)) sampled in
    let q : Some sample ≡ Some sample' = sym last ∙ ap (λ (d : List Exchange). last_sample (older_than d)) sampled in
    let t : sample ≡ sample' = cc in
    let r : Some record' ≡ Some seen = sym spells ∙ (ap read_lease b ∙ sees) in
    let same : record' ≡ seen = cc in
    clash (is_expired seen sample') ((λ i. is_expired (sym same i) (sym t i)) ∙ expired) is
sight-unbusy s log older lease sample found record' spells expired nothing last l seen (taken claim until bytes older' newest waited sees other) =
    let b : lease_at lease ≡ lease_at l = ap (λ (d : List Exchange). block_found (last_found d)) newest in
    let same : lease ≡ l = lease-lease lease l b in
    let o : older ≡ older' = ap older_than newest in
    let e : Nothing ≡ Waited claim until = sym nothing ∙ ((λ i. hold_by_log s log.before (o i) (same i)) ∙ waited) in
    let P : ⊥ = cc in P

-- nor the reread of the claim's own record
pub reread-unbusy : (s : Setting) (log : CommandLog) (older : List Exchange) (lease : ℕ) (found : List ℕ) (claim : Claim) (until : ℕ) → read_lease found ≡ Some (lease_is.Claimed claim until) →
    hold_by_log s log.before older lease ≡ Waited claim until → after_clock (exchange (ask.Read (record { 0 = lease_at lease })) [] (answer.Bytes found) ∷ older) ≡ false →
    (l : ℕ) (seen : LeaseRecord) → ¬ IsBusy s (with_exchanges log (exchange (ask.Read (record { 0 = lease_at lease })) [] (answer.Bytes found) ∷ older)) l seen
reread-unbusy s log older lease found claim until spells held quiet l seen (unexpired sample' bytes older' sampled sees is) =
    clash (after_clock (exchange (ask.Read (record { 0 = lease_at lease })) [] (answer.Bytes found) ∷ older)) (ap after_clock sampled) quiet
reread-unbusy s log older lease found claim until spells held quiet l seen (taken claim' until' bytes older' newest waited sees other) =
    let b : lease_at lease ≡ lease_at l = ap (λ (d : List Exchange). block_found (last_found d)) newest in
    let f : found ≡ bytes = ap (λ (d : List Exchange). bytes_found (last_found d)) newest in
    let same : lease ≡ l = lease-lease lease l b in
    let o : older ≡ older' = ap older_than newest in
    let e : Waited claim until ≡ Waited claim' until' = sym held ∙ ((λ i. hold_by_log s log.before (o i) (same i)) ∙ waited) in
    let c : claim ≡ claim' = cc in
    let u : until ≡ until' = cc in
    let r : Some seen ≡ Some (lease_is.Claimed claim until) = sym sees ∙ (ap read_lease (sym f) ∙ spells) in
    let is : seen ≡ lease_is.Claimed claim until = cc in
    other (is ∙ (λ i. lease_is.Claimed (c i) (u i)))
