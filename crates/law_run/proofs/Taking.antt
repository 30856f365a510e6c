-- Takes: what holds along one.
use Rattle.std.proofs.Common.{◌≡◌, ℕ, suc, ◌+◌, ◌-◌, ◌≤◌, ◌<◌, List, [], ◌∷◌, ◌++◌, length, take, Bool, true, false, Option, Some, None, refl, ap, sym, subst, ◌∙◌, arith, inl, inr, ◌⊎◌}
use Rattle.std.proofs.lemmas.List.{length-append}
use Rattle.plx_base.proofs.Tests.{eqb-true}
use Rattle.plx_base.specs.declared.lease.Claim.{Claim}
use Rattle.plx_base.specs.declared.lease.LeaseName.{LeaseName}
use Rattle.plx_base.specs.declared.lease.LeaseName.TheVariants as lease
use Rattle.plx_base.specs.declared.lease.LeaseRecord.{LeaseRecord}
use Rattle.plx_base.specs.declared.numbers.BlockNo.{BlockNo}
use Rattle.plx_base.specs.declared.write_kind.WriteKind.{WriteKind}
use Rattle.plx_base.specs.declared.write_kind.WriteKind.TheVariants as kind
use Rattle.plx_commands.proofs.Places.{at-other}
use Rattle.plx_commands.specs.declared.reply.Reply.{Reply}
use Rattle.plx_commands.specs.declared.reply.Reply.TheVariants as reply
use Rattle.plx_disk.specs.declared.ask.Ask.{Ask}
use Rattle.plx_disk.specs.declared.ask.Ask.TheVariants as ask
use Rattle.plx_disk.specs.declared.ask.Answer.TheVariants as answer
use Rattle.plx_extent.proofs.Maps.{bits-back, length-bits_from}
use Rattle.plx_extent.specs.Maps.{bits_of, map_bytes}
use Rattle.plx_geom.proofs.Places.{lease-map, map-map, extent-below}
use Rattle.plx_geom.specs.Geometry.{IsGeometry, lease_count, extent_lease, lease_at, map_at}
use Rattle.plx_rules.specs.Process.{Process}
use Rattle.plx_rules.specs.Ends.{End, ends, lost_process, damaged_process}
use Rattle.plx_rules.specs.Hands.{is_held, set_since, hand_answered, hand_held, hand_left}
use Rattle.plx_rules.specs.Holds.{Hold, Held}
use Rattle.plx_rules.specs.InUse.{InUse, IsUse, lease_name, first_reached, unless_reached}
use Rattle.plx_rules.specs.Rests.{extent_of}
use Rattle.plx_rules.specs.Session.{Known, nothing_known}
use Rattle.plx_rules.specs.Settings.{Setting}
use Rattle.plx_rules.specs.Space.{Taking, with_taken, extent_use, read_map, free_from, with_set, set_process, take_found, take_here}
use Rattle.law_lease.proofs.LawfulCommands.{IsRest}
use Rattle.law_lease.proofs.LawfulSpace.{timed-rests}
use Rattle.law_run.specs.AllowedAsks.{GoesOn, WentOn, take_of_blocks, MayAsk}
use Rattle.law_run.specs.Busy.{IsBusy, NoneBusy, FirstBusy}
use Rattle.law_run.specs.CommandLogs.{Exchange, CommandLog, IsIn}
use Rattle.law_run.specs.Holdings.{holds_along, holds_after, hold_by_log, hand_by_log, filled_by_log, last_found, claims_in, claims_begun, is_map_found}
use Rattle.law_run.specs.KnownBytes.{nothing_given, given_after_exchanges}
use Rattle.law_run.specs.Machines.{with_work}
use Rattle.law_run.specs.Replies.{IsLastReading, of_clock, RestsOn, of_list, WasLost}
use Rattle.law_run.specs.Uses as uses
use Rattle.law_run.specs.Uses.{AreUsed, IsInUse}
use Rattle.law_run.specs.Replies as replies
use Rattle.law_run.specs.Sessions.{is_attached}
use Rattle.law_run.specs.Takes as takes
use Rattle.law_run.specs.Takes.{IsOfExtents, HoldsOthers, RefusesTake, FailsTake, counted_by_log}
use Rattle.law_run.proofs.Beside.{after_work, unread-unbusy, map-unbusy}
use Rattle.law_run.proofs.FreeBlocks.{has-take, take-all, take-none, free-within, free-none, free-fewer, set-taken, map-bits, map-is}
use Rattle.law_run.proofs.Grown.{with-block-same, with-other}
use Rattle.law_run.proofs.Hands.{HasBlock, has-append, append-left, append-right, filter-all, extent-found, hand-more, hand-is-held}
use Rattle.law_run.proofs.Holding.{hold-stays, claims-more, reads-no-claim}
use Rattle.law_run.proofs.Meets.{exchange, Meets, meets-more}
use Rattle.law_run.proofs.OnExtent.{extent-name, map-no-lease, bad-map}
use Rattle.law_run.proofs.Uses.{claims_at, block_second, used-within, used-more, used-less}
use Rattle.plx_rules.proofs.InUse.{IsFirstDue, TellsFirstDue, first-tells}
use Rattle.law_run.proofs.Right.{clock, read_of}
use Rattle.law_run.proofs.Runs.{HasFirst, along-more}
use Rattle.law_run.proofs.TakeFollows.{FollowsTake, Calm, map-goes-on}
use Rattle.plx_rules.proofs.Maps.{length-with_set, set-is-map}
use Rattle.law_lease.proofs.Rests.{in-one, map-found}

-- ---- the maps of the extents that were passed

abbrev pub ReadAt : Setting → List Exchange → (extent : ℕ) → Type 0
ReadAt s done extent = (bytes : List ℕ) × IsIn (read_of (map_at s.geometry extent) bytes) done

abbrev pub FullAt : Setting → List Exchange → (hand : List ℕ) → (extent : ℕ) → Type 0
FullAt s done hand extent =
    (bytes : List ℕ) × (given_after_exchanges done nothing_given (map_at s.geometry extent) ≡ Some bytes)
    × (free_from hand (map_at s.geometry extent) (bits_of s.geometry.extent_blocks bytes) ≡ [])

-- the rules of the work that a take is part of: they hold of the take's asks, and of its failures
pub record WorkRules (s : Setting) (first : CommandLog) (known : Known) (count : ℕ) : Type 1 where
  pub May : List Exchange → Ask → List ℕ → Type 0
  pub Shows : List Exchange → End → Type 0
  pub may : (own : List Exchange) (a : Ask) (bytes : List ℕ) → MayAsk s (with_work first own) a bytes → IsOfExtents s.geometry a → FollowsTake s first a own → May (after_work first own) a bytes
  pub fails : (own : List Exchange) (end : End) → FailsTake s first (with_work first own) own known count end → Shows (after_work first own) end

module _ (s : Setting) (geometry : IsGeometry s.geometry) (first : CommandLog) (holds : ℕ → Hold) (known : Known) (count : ℕ) (work : WorkRules s first known count) where
  -- the log of the command, once a take that began after the first log has had these exchanges
  abbrev pub log : List Exchange → CommandLog
  log own = with_work first own

  -- which claim has ended Busy first, if one has
  abbrev pub BusyIs : Option (ℕ × LeaseRecord) → List Exchange → Type 0
  BusyIs None done = NoneBusy s (log done) done
  BusyIs (Some met) done = (e : ℕ) × (e < s.geometry.extents) × (met.0 ≡ extent_lease s.geometry e) × FirstBusy s (log done) met.0 met.1 done

  -- how far a take has come: the maps of some extents were read, and none is free there while too few are in hand and no lease was busy;
  -- leases of extents from `tried` on are held as at its start
  pub record HasTaken (M : ℕ → Type 0) (tried : ℕ) (done : List Exchange) (t : Taking) : Type 0 where
    pub has : HasFirst (after_work first done)
    pub went : WentOn (after_work first done)
    pub claims : t.known.claims ≡ claims_in s.geometry (after_work first done) + claims_begun s.geometry first.before
    pub sessions : (image : ℕ) → t.known.sessions image ≡ known.sessions image
    pub at_rest : (l : ℕ) → l < lease_count s.geometry → IsRest (hold_by_log s first.before (after_work first done) l)
    pub others : HoldsOthers s first (log done)
    pub hand : hand_by_log s first.before (after_work first done) ≡ t.hand
    pub within : (b : ℕ) → HasBlock t.hand b → extent_of s.geometry b < s.geometry.extents
    pub used : AreUsed s (log done) t.uses
    pub busy : BusyIs t.busy done
    pub later : (e : ℕ) → tried ≤ e → e < s.geometry.extents →
        hold_by_log s first.before (after_work first done) (extent_lease s.geometry e) ≡ holds (lease_at (extent_lease s.geometry e))
    pub maps : length t.hand < count → (e : ℕ) → M e → ReadAt s done e × (t.busy ≡ None → FullAt s done t.hand e)

  pub some-blocks : 1 ≤ s.geometry.extent_blocks
  some-blocks = omega (arith, geometry.blocks_low)

  -- which claim was busy first is told by one more exchange that ends none Busy
  pub busy-more : (b : Option (ℕ × LeaseRecord)) (x : Exchange) (done : List Exchange) → ((l : ℕ) (seen : LeaseRecord) → l < lease_count s.geometry → ¬ IsBusy s (log (x ∷ done)) l seen) →
      BusyIs b done → BusyIs b (x ∷ done)
  busy-more None x done none is = (none, is)
  busy-more (Some met) x done none is = (is.0, is.1, is.2, inr is.3)

  -- more maps were read
  pub with-maps : (M M' : ℕ → Type 0) (tried : ℕ) (done : List Exchange) (t : Taking) → HasTaken M tried done t →
      (length t.hand < count → (e : ℕ) → M' e → ReadAt s done e × (t.busy ≡ None → FullAt s done t.hand e)) → HasTaken M' tried done t
  with-maps M M' tried done t r maps' = record {
    has = r.has;
    went = r.went;
    claims = r.claims;
    sessions = r.sessions;
    at_rest = r.at_rest;
    others = r.others;
    hand = r.hand;
    within = r.within;
    used = r.used;
    busy = r.busy;
    later = r.later;
    maps = maps';
  }

  -- fewer leases are as at its start
  pub with-tried : (M : ℕ → Type 0) (tried tried' : ℕ) (done : List Exchange) (t : Taking) → tried ≤ tried' → HasTaken M tried done t → HasTaken M tried' done t
  with-tried M tried tried' done t le r = record {
    has = r.has;
    went = r.went;
    claims = r.claims;
    sessions = r.sessions;
    at_rest = r.at_rest;
    others = r.others;
    hand = r.hand;
    within = r.within;
    used = r.used;
    busy = r.busy;
    later = λ e past below. r.later e (omega (arith, le, past)) below;
    maps = r.maps;
  }

  -- an exchange that leaves all leases, and adds these blocks to the hand
  pub more-taken : (M : ℕ → Type 0) (tried : ℕ) (done : List Exchange) (t : Taking) (x : Exchange) (blocks : List ℕ) → HasTaken M tried done t →
      claims_in s.geometry (after_work first (x ∷ done)) ≡ claims_in s.geometry (after_work first done) → GoesOn x.answer →
      ((l : ℕ) → l < lease_count s.geometry → hold_by_log s first.before (after_work first (x ∷ done)) l ≡ hold_by_log s first.before (after_work first done) l) →
      hand_left x.ask (filled_by_log s first.before (after_work first done)) (hand_answered s.geometry (last_found (after_work first done)) x.ask x.bytes x.answer (hand_by_log s first.before (after_work first done))) ≡ t.hand ++ blocks →
      ((b : ℕ) → HasBlock blocks b → (extent_of s.geometry b < s.geometry.extents) × (is_held (hold_by_log s first.before (after_work first done) (extent_lease s.geometry (extent_of s.geometry b))) ≡ true)) →
      ((l : ℕ) (seen : LeaseRecord) → l < lease_count s.geometry → ¬ IsBusy s (log (x ∷ done)) l seen) → claims_at x.ask ≡ false →
      ((e : ℕ) → M e → given_after_exchanges (x ∷ done) nothing_given (map_at s.geometry e) ≡ given_after_exchanges done nothing_given (map_at s.geometry e)) → HasTaken M tried (x ∷ done) (with_taken t blocks)
  more-taken M tried done t x blocks r begun goes same answered own none quiet stands = record {
    has = tt;
    went = (goes, r.went);
    claims = r.claims ∙ ap (λ n. n + claims_begun s.geometry first.before) (sym begun);
    sessions = r.sessions;
    at_rest = λ l below. subst IsRest (sym (same l below)) (r.at_rest l below);
    others = λ l below apart. same l below ∙ r.others l below apart;
    hand = hand-more s first.before x (after_work first done) r.has ∙ (ap (hand_held s.geometry H) answered ∙ filter-all (λ c. is_held (H (lease_at (extent_lease s.geometry (extent_of s.geometry c))))) (t.hand ++ blocks) still);
    within = λ b has. elim (has-append t.hand blocks b has) [ inl old ↦ r.within b old | inr new ↦ (own b new).0 ];
    used = record {
      sound = λ one is. (let u = r.used.sound one is in used-more s (log done) x one (same one.lease (used-within s (log done) one.lease u.of)) u);
      complete = λ one u. r.used.complete one (used-less s (log done) x one quiet (same one.lease) u);
    };
    busy = busy-more t.busy x done none r.busy;
    later = λ e past below. same (extent_lease s.geometry e) (extent-below s.geometry e below) ∙ r.later e past below;
    maps = λ few e m. (
        let long = length-append t.hand blocks in
        let old = r.maps (omega (arith, few, long)) e m in (
          (old.0.0, inr old.0.1),
          λ unbusy. (let f = old.1 unbusy in (f.0, stands e m ∙ f.1, free-fewer t.hand (t.hand ++ blocks) (map_at s.geometry e) (bits_of s.geometry.extent_blocks f.0) (λ b has. append-left t.hand blocks b has) f.2)),
        ));
  }
    where
      H : ℕ → Hold
      H = holds_along s.geometry (is_attached first.before) (holds_after s.geometry first.before) (after_work first (x ∷ done))

      still : (c : ℕ) → HasBlock (t.hand ++ blocks) c → is_held (H (lease_at (extent_lease s.geometry (extent_of s.geometry c)))) ≡ true
      still c has = elim (has-append t.hand blocks c has) [
        | inl old ↦ ap is_held (same (extent_lease s.geometry (extent_of s.geometry c)) (extent-below s.geometry _ (r.within c old)))
            ∙ hand-is-held s first.before (after_work first done) c r.has (subst (λ (h : List ℕ). HasBlock h c) (sym r.hand) old)
        | inr new ↦ (let o = own c new in ap is_held (same (extent_lease s.geometry (extent_of s.geometry c)) (extent-below s.geometry _ o.0)) ∙ o.1)
      ]

  append-none : (xs : List ℕ) → xs ++ [] ≡ xs
  append-none [] = refl
  append-none (x ∷ xs) = ap (λ (l : List ℕ). x ∷ l) (append-none xs)

  no-more : (t : Taking) → with_taken t [] ≡ t
  no-more t i = record t { hand = append-none t.hand i }

  -- an exchange that leaves all leases and the hand
  pub still-taken : (M : ℕ → Type 0) (tried : ℕ) (done : List Exchange) (t : Taking) (x : Exchange) → HasTaken M tried done t →
      claims_in s.geometry (after_work first (x ∷ done)) ≡ claims_in s.geometry (after_work first done) → GoesOn x.answer →
      ((l : ℕ) → l < lease_count s.geometry → hold_by_log s first.before (after_work first (x ∷ done)) l ≡ hold_by_log s first.before (after_work first done) l) →
      hand_left x.ask (filled_by_log s first.before (after_work first done)) (hand_answered s.geometry (last_found (after_work first done)) x.ask x.bytes x.answer (hand_by_log s first.before (after_work first done))) ≡ hand_by_log s first.before (after_work first done) →
      ((l : ℕ) (seen : LeaseRecord) → l < lease_count s.geometry → ¬ IsBusy s (log (x ∷ done)) l seen) → claims_at x.ask ≡ false →
      ((e : ℕ) → M e → given_after_exchanges (x ∷ done) nothing_given (map_at s.geometry e) ≡ given_after_exchanges done nothing_given (map_at s.geometry e)) → HasTaken M tried (x ∷ done) t
  still-taken M tried done t x r begun goes same answered none quiet stands =
      subst (λ (t' : Taking). HasTaken M tried (x ∷ done) t') (no-more t)
      (more-taken M tried done t x [] r begun goes same (answered ∙ (r.hand ∙ sym (append-none t.hand))) (λ b has. absurd (let P : ⊥ = cc in P)) none quiet stands)

  -- a map is read
  pub map-taken : (M : ℕ → Type 0) (tried : ℕ) (done : List Exchange) (t : Taking) (e : ℕ) (bytes : List ℕ) → ¬ M e → HasTaken M tried done t → HasTaken M tried (read_of (map_at s.geometry e) bytes ∷ done) t
  map-taken M tried done t e bytes new r =
      let x = read_of (map_at s.geometry e) bytes in
      let H = holds_along s.geometry (is_attached first.before) (holds_after s.geometry first.before) (after_work first done) in
      still-taken M tried done t x r (claims-more s.geometry (after_work first done) x (reads-no-claim s.geometry (map_at s.geometry e) (after_work first done) (map-no-lease s.geometry e))) tt
      (λ l below. ap (λ (h : ℕ → Hold). h (lease_at l)) (along-more s.geometry (is_attached first.before) (holds_after s.geometry first.before) x (after_work first done) r.has)
      ∙ at-other H (map_at s.geometry e) (lease_at l) _ (lease-map s.geometry l e below))
      refl (λ l seen below. map-unbusy s first (after_work first (x ∷ done)) e bytes refl l seen below) refl
      (λ e' m. with-other (given_after_exchanges done nothing_given) (map_at s.geometry e) bytes (map_at s.geometry e') (λ same. new (subst M (map-map s.geometry e' e some-blocks same) m)))

  -- the clock is read
  pub clock-taken : (M : ℕ → Type 0) (tried : ℕ) (done : List Exchange) (t : Taking) (last : ℕ) → is_map_found s.geometry (last_found (after_work first done)) ≡ false → HasTaken M tried done t → HasTaken M tried (clock last ∷ done) t
  clock-taken M tried done t last none r =
      still-taken M tried done t (clock last) r (claims-more s.geometry (after_work first done) (clock last) none) tt
      (λ l below. ap (λ (h : ℕ → Hold). h (lease_at l)) (along-more s.geometry (is_attached first.before) (holds_after s.geometry first.before) (clock last) (after_work first done) r.has) ∙ timed-rests last _ (r.at_rest l below))
      refl (λ l seen below. unread-unbusy s first (after_work first (clock last ∷ done)) refl l seen) refl (λ e m. refl)

  -- ---- blocks are taken

  module _ (M : ℕ → Type 0) (tried : ℕ) (d : List Exchange) (t : Taking) (e until : ℕ) (claim : Claim) (bytes : List ℕ) (bits : List Bool) (blocks : List ℕ) (k : ℕ) (below : e < s.geometry.extents)
      (new : ¬ M e) (r : HasTaken M tried (read_of (map_at s.geometry e) bytes ∷ d) t) (is : read_map s.geometry.extent_blocks bytes ≡ Some bits) (same : take k (free_from t.hand (map_at s.geometry e) bits) ≡ blocks)
      (held : hold_by_log s first.before (after_work first (read_of (map_at s.geometry e) bytes ∷ d)) (extent_lease s.geometry e) ≡ Held claim until) where
    abbrev pub read_so : List Exchange
    read_so = read_of (map_at s.geometry e) bytes ∷ d

    abbrev pub out_so : List ℕ
    out_so = map_bytes (with_set blocks (map_at s.geometry e) bits)

    abbrev pub write_so : Exchange
    write_so = exchange (ask.Write kind.Take (record { 0 = map_at s.geometry e }) until) out_so answer.Done

    found-bits : bits ≡ bits_of s.geometry.extent_blocks bytes
    found-bits = map-bits s.geometry.extent_blocks bytes bits is

    long : length bits ≡ s.geometry.extent_blocks
    long = ap (λ (b : List Bool). length b) found-bits ∙ length-bits_from s.geometry.extent_blocks 0 bytes

    out-bits : bits_of s.geometry.extent_blocks out_so ≡ with_set blocks (map_at s.geometry e) bits
    out-bits = bits-back (with_set blocks (map_at s.geometry e) bits) s.geometry.extent_blocks (length-with_set blocks (map_at s.geometry e) bits ∙ long) geometry.blocks_high

    added : set_since (map_at s.geometry e) (bits_of s.geometry.extent_blocks bytes) (bits_of s.geometry.extent_blocks out_so) ≡ blocks
    added =
        (λ i. set_since (map_at s.geometry e) (sym found-bits i) (out-bits i))
        ∙ (ap (λ (b : List ℕ). set_since (map_at s.geometry e) bits (with_set b (map_at s.geometry e) bits)) (sym same)
        ∙ (set-taken t.hand k (map_at s.geometry e) bits ∙ same))

    -- each of them was free
    pub were-free : (b : ℕ) → HasBlock blocks b → HasBlock (free_from t.hand (map_at s.geometry e) bits) b
    were-free b has = has-take k (free_from t.hand (map_at s.geometry e) bits) b (subst (λ (l : List ℕ). HasBlock l b) (sym same) has)

    own : (b : ℕ) → HasBlock blocks b → (extent_of s.geometry b < s.geometry.extents) × (is_held (hold_by_log s first.before (after_work first read_so) (extent_lease s.geometry (extent_of s.geometry b))) ≡ true)
    own b has =
        let w = free-within t.hand (map_at s.geometry e) bits b (were-free b has) in
        let here : extent_of s.geometry b ≡ e = extent-found s.geometry e b w.0 (omega (arith, w.1, long)) in
        (omega (arith, below, here), ap (λ n. is_held (hold_by_log s first.before (after_work first read_so) (extent_lease s.geometry n))) here ∙ ap is_held held)

    pub take-taken : HasTaken M tried (write_so ∷ read_so) (with_taken t blocks)
    take-taken =
        more-taken M tried read_so t write_so blocks r (claims-more s.geometry (after_work first read_so) write_so refl) tt
        (λ l less. ap (λ (h : ℕ → Hold). h (lease_at l)) (along-more s.geometry (is_attached first.before) (holds_after s.geometry first.before) write_so (after_work first read_so) r.has))
        answered own (λ l seen less. unread-unbusy s first (after_work first (write_so ∷ read_so)) refl l seen) refl
        (λ e' m. with-other (given_after_exchanges read_so nothing_given) (map_at s.geometry e) out_so (map_at s.geometry e') (λ at. new (subst M (map-map s.geometry e' e some-blocks at) m)))
      where
        answered : hand_answered s.geometry (last_found (after_work first read_so)) write_so.ask write_so.bytes write_so.answer (hand_by_log s first.before (after_work first read_so)) ≡ t.hand ++ blocks
        answered = let one = eqb-true (map_at s.geometry e) (map_at s.geometry e) refl in rw one (λ i. r.hand i ++ added i)

    -- where still too few are in hand, none is free there any more
    pub take-full : k ≡ count - length t.hand → length (t.hand ++ blocks) < count → FullAt s (write_so ∷ read_so) (t.hand ++ blocks) e
    take-full all few =
        let sum = length-append t.hand blocks in
        let process = ap (λ (l : List ℕ). length l) same in
        let every : take k (free_from t.hand (map_at s.geometry e) bits) ≡ free_from t.hand (map_at s.geometry e) bits = take-all k (free_from t.hand (map_at s.geometry e) bits) (omega (arith, all, few, sum, process)) in (
          out_so,
          with-block-same (given_after_exchanges read_so nothing_given) (map_at s.geometry e) out_so,
          ap (free_from (t.hand ++ blocks) (map_at s.geometry e)) out-bits
              ∙ free-none t.hand (t.hand ++ blocks) blocks (map_at s.geometry e) bits (λ b has. append-left t.hand blocks b has)
              (λ b has. append-right t.hand blocks b (subst (λ (l : List ℕ). HasBlock l b) (sym every ∙ same) has)),
        )

  -- ---- ends

  -- after these exchanges, with so many answers left, the rest of the take keeps the rules
  abbrev pub Keeping : List Exchange → Process End → (n : ℕ) → Type 0
  Keeping done process n = Meets work.May work.Shows (after_work first done) process n

  -- what is known by now is what the log shows
  pub known-by-log : (done : List Exchange) (k : Known) → ((image : ℕ) → k.sessions image ≡ known.sessions image) →
      k.claims ≡ claims_in s.geometry (after_work first done) + claims_begun s.geometry first.before → k ≡ counted_by_log s (log done) known
  known-by-log done k same claims i = record { sessions = λ image. same image i; claims = claims i }

  -- the take is refused
  pub refuses : (done : List Exchange) (k : Known) (r : Reply) (n : ℕ) → ((image : ℕ) → k.sessions image ≡ known.sessions image) →
      k.claims ≡ claims_in s.geometry (after_work first done) + claims_begun s.geometry first.before → HoldsOthers s first (log done) → RefusesTake s (log done) done count r →
      Keeping done (ends r k) n
  refuses done k r n same claims others why =
      subst (λ (k' : Known). Keeping done (ends r k') n) (sym (known-by-log done k same claims)) (work.fails done _ (takes.refused r why others))

  pub refuses-taken : (M : ℕ → Type 0) (tried : ℕ) (done : List Exchange) (t : Taking) (r : Reply) (n : ℕ) → HasTaken M tried done t → RefusesTake s (log done) done count r → Keeping done (ends r t.known) n
  refuses-taken M tried done t r n taken why = refuses done t.known r n taken.sessions taken.claims taken.others why

  -- a lease is lost
  loses : (done : List Exchange) (name : LeaseName) (until last claims n : ℕ) →
      claims ≡ claims_in s.geometry (after_work first done) + claims_begun s.geometry first.before →
      WasLost s (log done) name until last → Keeping done (ends (reply.Lost name until last) (nothing_known claims)) n
  loses done name until last claims n counted why =
      subst (λ c. Keeping done (ends (reply.Lost name until last) (nothing_known c)) n) (sym counted) (work.fails done _ (takes.lost name until last why))

  -- a write came too late for its guard, the end of the lease of an extent
  pub write-missed : (done : List Exchange) (k : WriteKind) (block : BlockNo) (bytes : List ℕ) (e until last claims n : ℕ) → RestsOn s (log (exchange (ask.Write k block until) bytes (answer.Missed last) ∷ done)) k block.0 bytes (lease.Extent (record { 0 = e })) →
      claims ≡ claims_in s.geometry (after_work first (exchange (ask.Write k block until) bytes (answer.Missed last) ∷ done)) + claims_begun s.geometry first.before →
      Keeping (exchange (ask.Write k block until) bytes (answer.Missed last) ∷ done) (ends (reply.Lost (lease_name s.geometry (extent_lease s.geometry e)) until last) (nothing_known claims)) n
  write-missed done k block bytes e until last claims n on counted =
      let x = exchange (ask.Write k block until) bytes (answer.Missed last) in
      subst (λ (name : LeaseName). Keeping (x ∷ done) (ends (reply.Lost name until last) (nothing_known claims)) n) (sym (extent-name s.geometry e))
      (loses (x ∷ done) (lease.Extent (record { 0 = e })) until last claims n
      counted
      (replies.missed k block bytes (after_work first done, refl) on))

  -- a write failed
  pub write-failed : (done : List Exchange) (k : WriteKind) (block : BlockNo) (guard : ℕ) (bytes : List ℕ) (claims n : ℕ) →
      claims ≡ claims_in s.geometry (after_work first (exchange (ask.Write k block guard) bytes answer.Fault ∷ done)) + claims_begun s.geometry first.before →
      Keeping (exchange (ask.Write k block guard) bytes answer.Fault ∷ done) (ends (reply.WriteFault block) (nothing_known claims)) n
  write-failed done k block guard bytes claims n counted =
      let x = exchange (ask.Write k block guard) bytes answer.Fault in
      subst (λ c. Keeping (x ∷ done) (ends (reply.WriteFault block) (nothing_known c)) n) (sym counted) (work.fails (x ∷ done) _ (takes.unwritten k block guard bytes (after_work first done, refl)))

  -- a reading has reached leases in use
  pub lost-reading : (done : List Exchange) (last : ℕ) (k : Known) (uses' : List InUse) (due : InUse) (n : ℕ) → IsLastReading (after_work first done) last →
      k.claims ≡ claims_in s.geometry (after_work first done) + claims_begun s.geometry first.before →
      ((one : InUse) → IsUse one uses' → IsInUse s (log done) one) → ((one : InUse) → IsInUse s (log done) one → IsUse one uses') → first_reached uses' last ≡ Some due →
      Keeping done (lost_process s k due last) n
  lost-reading done last k uses' due n is counted sound complete reached =
      let f : IsFirstDue uses' last due = subst (TellsFirstDue uses' last) reached (first-tells uses' last) in
      loses done (lease_name s.geometry due.lease) due.until last k.claims n counted
      (replies.reached due refl refl is (sound due f.among) f.past (λ other its le. f.first other (complete other its) le))

  -- a take goes on rightly from there
  abbrev pub MeetsTaking : (M : ℕ → Type 0) → (tried : ℕ) → (Taking → Process End) → (n : ℕ) → Type 0
  MeetsTaking M tried rest n = (t : Taking) (done : List Exchange) → HasTaken M tried done t → Calm s first done → Keeping done (rest t) n

  pub more : (n : ℕ) (process : Process End) (done : List Exchange) → Keeping done process n → Keeping done process (suc n)
  more n process done right = meets-more work.May work.Shows process (after_work first done) n right

  -- one more map was read
  pub extended : (M M' : ℕ → Type 0) (tried : ℕ) (done : List Exchange) (t : Taking) (e : ℕ) → HasTaken M tried done t → ((other : ℕ) → M' other → M other ⊎ (other ≡ e)) →
      (length t.hand < count → ReadAt s done e × (t.busy ≡ None → FullAt s done t.hand e)) → HasTaken M' tried done t
  extended M M' tried done t e r split fact = with-maps M M' tried done t r (λ few other m'. elim (split other m') [
    | inl m ↦ r.maps few other m
    | inr same ↦ subst (λ n. ReadAt s done n × (t.busy ≡ None → FullAt s done t.hand n)) (sym same) (fact few)
  ])

  -- ---- reads of maps

  pub read-failed : (M : ℕ → Type 0) (tried : ℕ) (done : List Exchange) (t : Taking) (e n : ℕ) → HasTaken M tried done t →
      Keeping (exchange (ask.Read (record { 0 = map_at s.geometry e })) [] answer.Fault ∷ done) (ends (reply.ReadFault (record { 0 = map_at s.geometry e })) t.known) n
  read-failed M tried done t e n r =
      let x = exchange (ask.Read (record { 0 = map_at s.geometry e })) [] answer.Fault in
      let begun = claims-more s.geometry (after_work first done) x (reads-no-claim s.geometry (map_at s.geometry e) (after_work first done) (map-no-lease s.geometry e)) in
      refuses (x ∷ done) t.known (reply.ReadFault (record { 0 = map_at s.geometry e })) n r.sessions (let c = r.claims in omega (arith, begun))
      (λ l below apart. ap (λ (h : ℕ → Hold). h (lease_at l)) (along-more s.geometry (is_attached first.before) (holds_after s.geometry first.before) x (after_work first done) r.has) ∙ r.others l below apart)
      (takes.unread (record { 0 = map_at s.geometry e }) (after_work first done, refl))

  -- bytes that are no map end the take after one more reading
  pub right-damaged : (M : ℕ → Type 0) (tried : ℕ) (d : List Exchange) (t : Taking) (e n : ℕ) (bytes : List ℕ) (uses' : List InUse) → HasTaken M tried (read_of (map_at s.geometry e) bytes ∷ d) t →
      read_map s.geometry.extent_blocks bytes ≡ None →
      ((last : ℕ) (one : InUse) → IsUse one uses' → IsInUse s (log (clock last ∷ read_of (map_at s.geometry e) bytes ∷ d)) one) →
      ((one : InUse) → IsUse one t.uses → IsUse one uses') →
      ((last : ℕ) (claim : Claim) (until : ℕ) → hold_by_log s first.before (after_work first (clock last ∷ read_of (map_at s.geometry e) bytes ∷ d)) (extent_lease s.geometry e) ≡ Held claim until → IsUse (extent_use s.geometry e until) uses') →
      Keeping (read_of (map_at s.geometry e) bytes ∷ d) (damaged_process s t.known uses' (map_at s.geometry e)) (suc n)
  right-damaged M tried d t e n bytes uses' r none sound wider own = (work.may (read_of (map_at s.geometry e) bytes ∷ d) _ _ (r.went, tt) tt (λ outside. refl), λ last small. go last (first_reached uses' last) refl)
    where
      done : List Exchange
      done = read_of (map_at s.geometry e) bytes ∷ d

      complete : (last : ℕ) (one : InUse) → IsInUse s (log (clock last ∷ done)) one → IsUse one uses'
      complete last one (uses.used u) = wider one ((clock-taken M tried done t last (bad-map s.geometry (map_at s.geometry e) bytes none) r).used.complete one u)
      complete last one (uses.unread claim bytes' last' older' below is waited none' gone) = absurd (lease-map s.geometry one.lease e below (sym (ap block_second is)))
      complete last one (uses.rested e' claim bytes' last' older' below at is none' held) =
          let same : extent_lease s.geometry e ≡ one.lease = ap (extent_lease s.geometry) (map-map s.geometry e e' some-blocks (ap block_second is)) ∙ sym at in
          subst (λ l. IsUse (record { lease = l; until = one.until }) uses') same
          (own last claim one.until (ap (hold_by_log s first.before (after_work first (clock last ∷ done))) same ∙ held))

      go : (last : ℕ) (found : Option InUse) → first_reached uses' last ≡ found →
          Keeping (clock last ∷ done) (unless_reached found (λ due. lost_process s t.known due last) (ends (reply.Damaged (record { 0 = map_at s.geometry e })) t.known)) n
      go last (Some due) is =
          let r2 = clock-taken M tried done t last (bad-map s.geometry (map_at s.geometry e) bytes none) r in
          lost-reading (clock last ∷ done) last t.known uses' due n (of_clock (after_work first done, refl))
          r2.claims
          (sound last) (complete last) is
      go last None is =
          let r2 = clock-taken M tried done t last (bad-map s.geometry (map_at s.geometry e) bytes none) r in
          refuses-taken M tried (clock last ∷ done) t (reply.Damaged (record { 0 = map_at s.geometry e })) n r2
          (takes.map_damaged (record { 0 = map_at s.geometry e }) (record {
            extent = e;
            here = refl;
            bytes = bytes;
            reading = last;
            read = inr (inl refl);
            outside = none;
            last = (after_work first done, refl);
            below = λ claim until held. (subst (TellsFirstDue uses' last) is (first-tells uses' last)) (extent_use s.geometry e until) (own last claim until held);
          }))

  -- blocks are taken of an extent whose lease is held
  pub right-here : (M M' : ℕ → Type 0) (tried e until m : ℕ) (claim : Claim) (rest : Taking → Process End) (t : Taking) (done : List Exchange) → e < s.geometry.extents → ¬ M e →
      ((other : ℕ) → M' other → M other ⊎ (other ≡ e)) → length t.hand < count → HasTaken M tried done t → Calm s first done → hold_by_log s first.before (after_work first done) (extent_lease s.geometry e) ≡ Held claim until → MeetsTaking M' tried rest m →
      Keeping done (take_here s count e until rest t) (suc (suc m))
  right-here M M' tried e until m claim rest t done below new split few r calm held goes = (
    work.may done _ _ (r.went, tt) (e, below, inl refl) (calm _),
    λ bytes long. by-map bytes (read_map s.geometry.extent_blocks bytes) refl,
    read-failed M tried done t e (suc m) r,
  )
    where
      place : ℕ
      place = map_at s.geometry e

      calm-map : (bytes : List ℕ) (bits : List Bool) → read_map s.geometry.extent_blocks bytes ≡ Some bits → Calm s first (read_of place bytes ∷ done)
      calm-map bytes bits is = map-goes-on s first done e bytes (λ none. (let q = sym is ∙ none in let P : ⊥ = cc in P))

      now : (bytes : List ℕ) → hold_by_log s first.before (after_work first (read_of place bytes ∷ done)) (extent_lease s.geometry e) ≡ Held claim until
      now bytes = hold-stays s first.before (after_work first done) (read_of place bytes) (extent_lease s.geometry e) claim until r.has tt held

      by-blocks : (bytes : List ℕ) (bits : List Bool) → read_map s.geometry.extent_blocks bytes ≡ Some bits → (blocks : List ℕ) →
          take (count - length t.hand) (free_from t.hand place bits) ≡ blocks → Keeping (read_of place bytes ∷ done) (set_process s e until bits blocks rest t) (suc m)
      by-blocks bytes bits is [] same =
          let r1 = map-taken M tried done t e bytes new r in
          more m (rest t) (read_of place bytes ∷ done) (goes t (read_of place bytes ∷ done)
          (extended M M' tried (read_of place bytes ∷ done) t e r1 split (λ few'. (
            (bytes, inl refl),
            λ unbusy. (bytes, with-block-same (given_after_exchanges done nothing_given) place bytes, ap (free_from t.hand place) (sym (map-bits s.geometry.extent_blocks bytes bits is)) ∙ take-none (count - length t.hand) (free_from t.hand place bits) (omega (arith, few)) same),
          ))) (calm-map bytes bits is))
      by-blocks bytes bits is (block ∷ blocks) same =
          let r1 = map-taken M tried done t e bytes new r in
          let done1 = read_of place bytes ∷ done in
          let out = map_bytes (with_set (block ∷ blocks) place bits) in
          let x = exchange (ask.Write kind.Take (record { 0 = place }) until) out answer.Done in
          let k = count - length t.hand in
          let sum : (y : Exchange) → y.ask ≡ ask.Write kind.Take (record { 0 = place }) until → t.known.claims ≡ claims_in s.geometry (after_work first (y ∷ done1)) + claims_begun s.geometry first.before =
          λ y is'. (let m' : claims_in s.geometry (after_work first (y ∷ done1)) ≡ claims_in s.geometry (after_work first done1) = claims-more s.geometry (after_work first done1) y (rw is' refl) in let c = r1.claims in omega (arith, m')) in (
            work.may done1 _ _ (
              r1.went,
              take_of_blocks e claim bytes bits (block ∷ blocks) below refl (now bytes) (after_work first done, refl) is
                  (λ b has. subst (λ (h : List ℕ). HasBlock (free_from h place bits) b) (sym r1.hand) (were-free M tried done t e until claim bytes bits (block ∷ blocks) k below new r1 is same (now bytes) b has))
                  (set-is-map s.geometry.extent_blocks (block ∷ blocks) place bits (map-is s.geometry.extent_blocks bytes bits is)) refl,
            ) (e, below, inl refl) (calm-map bytes bits is _),
            goes (with_taken t (block ∷ blocks)) (x ∷ done1)
                (extended M M' tried (x ∷ done1) (with_taken t (block ∷ blocks)) e (take-taken M tried done t e until claim bytes bits (block ∷ blocks) k below new r1 is same (now bytes)) split (λ few'. (
                  (bytes, inr (inl refl)),
                  λ unbusy. take-full M tried done t e until claim bytes bits (block ∷ blocks) k below new r1 is same (now bytes) refl few',
                ))) (λ a. tt),
            write-failed done1 kind.Take (record { 0 = place }) until out t.known.claims m (sum (exchange (ask.Write kind.Take (record { 0 = place }) until) out answer.Fault) refl),
            λ late past small. write-missed done1 kind.Take (record { 0 = place }) out e until late t.known.claims m (of_list (in-one (extent_lease s.geometry e) _ (sym (ap (extent_lease s.geometry) (map-found s.geometry e some-blocks)))))
                (sum (exchange (ask.Write kind.Take (record { 0 = place }) until) out (answer.Missed late)) refl),
          )

      by-map : (bytes : List ℕ) (found : Option (List Bool)) → read_map s.geometry.extent_blocks bytes ≡ found → Keeping (read_of place bytes ∷ done) (take_found s count e until found rest t) (suc m)
      by-map bytes (Some bits) is = by-blocks bytes bits is (take (count - length t.hand) (free_from t.hand place bits)) refl
      by-map bytes None is =
          let r1 = map-taken M tried done t e bytes new r in
          let still : (last : ℕ) → hold_by_log s first.before (after_work first (clock last ∷ read_of place bytes ∷ done)) (extent_lease s.geometry e) ≡ Held claim until =
          λ last. hold-stays s first.before (after_work first (read_of place bytes ∷ done)) (clock last) (extent_lease s.geometry e) claim until tt tt (now bytes) in
          right-damaged M tried done t e m bytes (extent_use s.geometry e until ∷ t.uses) r1 is (sound r1 still) (λ one there. inr there)
          (λ last claim' until' held'. (
          let q : Held claim until ≡ Held claim' until' = sym (still last) ∙ held' in
          let u : until ≡ until' = cc in
          inl (ap (extent_use s.geometry e) (sym u))))
        where
          sound : HasTaken M tried (read_of place bytes ∷ done) t → ((last : ℕ) → hold_by_log s first.before (after_work first (clock last ∷ read_of place bytes ∷ done)) (extent_lease s.geometry e) ≡ Held claim until) →
              (last : ℕ) (one : InUse) → IsUse one (extent_use s.geometry e until ∷ t.uses) → IsInUse s (log (clock last ∷ read_of place bytes ∷ done)) one
          sound r1 still last one (inl same) =
              subst (λ (u : InUse). IsInUse s (log (clock last ∷ read_of place bytes ∷ done)) u) (sym same)
              (uses.rested e claim bytes last (after_work first done) below refl refl is (still last))
          sound r1 still last one (inr there) = uses.used ((clock-taken M tried (read_of place bytes ∷ done) t last (bad-map s.geometry place bytes is) r1).used.sound one there)
