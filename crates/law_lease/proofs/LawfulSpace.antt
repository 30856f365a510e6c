-- Each write that a reserve and a retire ask is allowed by what the boot holds.
use Rattle.std.proofs.Common.{◌≡◌, ◌≢◌, ℕ, zero, suc, ◌+◌, ◌-◌, ◌^◌, ◌≤◌, ◌<◌, ◌⊎◌, inl, inr, List, [], ◌∷◌, Bool, true, false, Option, Some, None, refl, ap, sym, subst, ◌∙◌, arith, length, take}
use Rattle.std.proofs.lemmas.Bool.Decides.{leb_tells}
use Rattle.std.specs.Prelude.{if◌then◌else◌, nat_le, nat_lt}
use Rattle.std.specs.Str.{bytes_eq}
use Rattle.plx_base.specs.declared.lease.Claim.{Claim}
use Rattle.plx_base.specs.declared.lease.LeaseRecord.{LeaseRecord}
use Rattle.plx_base.specs.declared.lease.LeaseRecord.TheVariants.{Free}
use Rattle.plx_commands.proofs.Places.{at-same, at-other}
use Rattle.plx_commands.specs.Limits.{last_claim}
use Rattle.plx_commands.specs.declared.command.Command.{Command}
use Rattle.plx_commands.specs.declared.reply.Reply.TheVariants as reply
use Rattle.plx_disk.specs.declared.ask.Ask.TheVariants as ask
use Rattle.plx_disk.specs.declared.ask.Answer.TheVariants as answer
use Rattle.plx_commands.specs.Places.{at}
use Rattle.plx_extent.proofs.Maps.{length-map_bytes}
use Rattle.plx_gate.proofs.Leases.{lease-back, length-lease}
use Rattle.plx_gate.specs.Leases.{IsClaimed, lease_bytes, read_lease}
use Rattle.plx_geom.proofs.Places.{lease-lease, lease-map, image-below, extent-below}
use Rattle.plx_geom.specs.Geometry.{Geometry, IsGeometry, lease_count, root_lease, image_lease, extent_lease, lease_at, map_at}
use Rattle.plx_rules.specs.Process.{Process, Ends}
use Rattle.plx_rules.specs.Claims.{ClaimEnd, ClaimHeld, ClaimBusy, ClaimLost, ClaimReadFault, ClaimWriteFault, ClaimDamaged, claim_of, end_of_term, own_record, own_use, claim_in_time, claim_damaged, reread_by, reread_process, written_process, if_expired, seen_process, claim_process}
use Rattle.plx_rules.specs.Ends.{End}
use Rattle.plx_rules.specs.Holds.{Hold, Nothing, Seen, Wrote, Waited, Held, seen_by, hold_after_read, hold_after_reading, hold_after_claim, hold_after_reread, after_answer}
use Rattle.plx_rules.specs.InUse.{InUse, earlier, first_reached, unless_reached}
use Rattle.plx_rules.specs.Session.{Session, Known}
use Rattle.plx_rules.specs.Settings.{Setting}
use Rattle.plx_rules.specs.Space.{Taking, with_claim_begun, with_claimed, with_taken, with_busy, first_taking, extent_use, if_needed, set_process, take_found, take_here, take_if_held, take_held, after_extent_claim, claim_extent, claim_if_free, other_found, take_if_other, take_others, shortage_process, taken_process, reserve_process, release_then, in_extent, give_found, give_process, retire_extent, retire_extents, retire_lease, retire_images, retire_process, read_map, free_from, with_set, with_clear}
use Rattle.plx_rules.specs.Times.{is_expired, term, wait}
use Rattle.plx_base.proofs.Tests.{nat_lt-tells}
use Rattle.law_lease.proofs.LawfulCommands.{IsRest, Unfilled, lawful-unfilled, right-ends}
use Rattle.law_lease.proofs.Leased.{IsGranted, Lawful, LawfulRest}
use Rattle.law_lease.proofs.Rests.{one-in, lease-place-found, map-found}

-- a reading moves no lease that is held, or isn't
pub timed-rests : (reading : ℕ) (hold : Hold) → IsRest hold → hold_after_reading reading hold ≡ hold
timed-rests reading Nothing rests = refl
timed-rests reading (Held claim until) rests = refl
timed-rests reading (Seen sample) rests = absurd rests
timed-rests reading (Wrote claim until) rests = absurd rests
timed-rests reading (Waited claim until) rests = absurd rests

-- where a reading has reached no lease in use, it hasn't reached the first
pub before-first-end : (one : InUse) (others : List InUse) (reading : ℕ) → first_reached (one ∷ others) reading ≡ None → reading < one.until
before-first-end one others reading none = elim (leb_tells one.until reading) [
  | inl past ↦ absurd (let P : Bool → Type 0 = λ b. (if b then Some (earlier one (first_reached others reading)) else first_reached others reading) ≡ None in let e : Some (earlier one (first_reached others reading)) ≡ None = subst P past.0 none in let Q : ⊥ = cc in Q)
  | inr below ↦ omega (arith, below.1)
]

-- ---- one lease is claimed, and the others stay as they are

-- what is held of the other leases is as it was
abbrev pub OthersStay : (lease : ℕ) → (before after : ℕ → Hold) → Type 0
OthersStay lease before after = (j : ℕ) → j ≢ lease → IsRest (before (lease_at j)) → after (lease_at j) ≡ before (lease_at j)

-- what is held at the end of a claim that may go on
abbrev pub ClaimLeaves : (lease : ℕ) → (before : ℕ → Hold) → ClaimEnd → (ℕ → Hold) → Option ℕ → Type 0
ClaimLeaves lease before (ClaimHeld claim until) after sample = (after (lease_at lease) ≡ Held claim until) × OthersStay lease before after
ClaimLeaves lease before (ClaimBusy seen) after sample = OthersStay lease before after
ClaimLeaves lease before other after sample = Unit {0}

module _ (g : Geometry) (boot : ℕ) (small : boot < 2 ^ 128) (command : Command) (lease : ℕ) (within : lease < lease_count g) (before : ℕ → Hold) where
  -- a claim is right, fills nothing, and leaves that
  abbrev Leaves : (ℕ → Hold) → Option ℕ → Process ClaimEnd → Type 0
  Leaves holds sample process = Lawful (Unfilled (ClaimLeaves lease before)) g boot command holds [] sample process

  stays-timed : (reading : ℕ) (holds : ℕ → Hold) → OthersStay lease before holds → OthersStay lease before (λ block. hold_after_reading reading (holds block))
  stays-timed reading holds stay j ne rests = ap (λ (h : Hold). hold_after_reading reading h) (stay j ne rests) ∙ timed-rests reading (before (lease_at j)) rests

  stays-at : (holds : ℕ → Hold) (hold : Hold) → OthersStay lease before holds → OthersStay lease before (at holds (lease_at lease) hold)
  stays-at holds hold stay j ne rests = at-other holds (lease_at lease) (lease_at j) hold (λ e. ne (lease-lease j lease e)) ∙ stay j ne rests

  leaves-in_time : (uses : List InUse) (reading : ℕ) (rest : Process ClaimEnd) (holds : ℕ → Hold) (sample : Option ℕ) → (first_reached uses reading ≡ None → Leaves holds sample rest) →
      Leaves holds sample (claim_in_time uses reading rest)
  leaves-in_time uses reading rest holds sample right = by_found (first_reached uses reading) refl
    where
      by_found : (found : Option InUse) → first_reached uses reading ≡ found → Leaves holds sample (unless_reached found (λ due. Ends (ClaimLost due reading)) rest)
      by_found None is = right is
      by_found (Some due) is = (tt, refl)

  leaves-damaged : (uses : List InUse) (holds : ℕ → Hold) (sample : Option ℕ) → Leaves holds sample (claim_damaged uses)
  leaves-damaged uses holds sample = λ reading early. leaves-in_time uses reading (Ends ClaimDamaged) _ _ (λ none. (tt, refl))

  leaves-reread : (own : Bool) (uses : List InUse) (claim : Claim) (seen : Option LeaseRecord) (holds : ℕ → Hold) (sample : Option ℕ) → OthersStay lease before holds →
      holds (lease_at lease) ≡ hold_after_reread own (Held claim (end_of_term claim)) → Leaves holds sample (reread_by own uses claim seen)
  leaves-reread true uses claim seen holds sample stay is = ((is, stay), refl)
  leaves-reread false uses claim None holds sample stay is = leaves-damaged uses holds sample
  leaves-reread false uses claim (Some seen) holds sample stay is = (stay, refl)

  leaves-written : (others : List InUse) (number sample : ℕ) (holds : ℕ → Hold) (last : Option ℕ) → number < 2 ^ 40 → sample < 2 ^ 48 → OthersStay lease before holds →
      holds (lease_at lease) ≡ Seen sample → Leaves holds last (written_process others lease (claim_of boot number sample))
  leaves-written others number sample holds last few early stay is = (
    record { lease = lease; number = number; sample = sample; within = within; at_lease = refl; alone = refl; hold = is; spells = refl; few = few; early = early; guarded = refl },
    λ reading past below. leaves-in_time uses reading (reread_process uses lease claim) (λ block. hold_after_reading reading (done block)) (Some reading) (λ none. (
      λ bytes. leaves-reread (bytes_eq bytes (lease_bytes (own_record claim))) uses claim (read_lease bytes) _ _
          (stays-at (λ block. hold_after_reading reading (done block)) _ (stays-timed reading done (stays-at holds _ stay)))
          (at-same (λ block. hold_after_reading reading (done block)) (lease_at lease) _
          ∙ ap (λ (h : Hold). hold_after_read (Some reading) bytes h) (ap (λ (h : Hold). hold_after_reading reading h) held ∙ waited reading past (before-first-end (own_use lease claim) others reading none))),
      (tt, refl),
    )),
    (tt, refl),
    λ reading. (tt, refl),
    length-lease (own_record claim),
  )
    where
      claim : Claim
      claim = claim_of boot number sample

      uses : List InUse
      uses = own_use lease claim ∷ others

      done : ℕ → Hold
      done = at holds (lease_at lease) (hold_after_claim (read_lease (lease_bytes (own_record claim))))

      limits : IsClaimed claim (sample + term)
      limits = record { boot = small; number = few; sample = early; low = omega arith; high = omega (arith, early) }

      held : done (lease_at lease) ≡ Wrote claim (end_of_term claim)
      held = at-same holds (lease_at lease) (hold_after_claim (read_lease (lease_bytes (own_record claim)))) ∙ ap hold_after_claim (lease-back (own_record claim) limits)

      waited : (reading : ℕ) → sample + wait ≤ reading → reading < end_of_term claim → hold_after_reading reading (Wrote claim (end_of_term claim)) ≡ Waited claim (end_of_term claim)
      waited reading past soon = elim (leb_tells (sample + wait) reading) [
        | inl a ↦ elim (leb_tells (suc reading) (sample + term)) [
          | inl b ↦ rw a.0 (rw b.0 refl)
          | inr b ↦ absurd (omega (arith, soon, b.1))
        ]
        | inr a ↦ absurd (omega (arith, past, a.1))
      ]

  leaves-seen : (others : List InUse) (number sample : ℕ) (found : Option LeaseRecord) (holds : ℕ → Hold) → number < 2 ^ 40 → sample < 2 ^ 48 → OthersStay lease before holds →
      holds (lease_at lease) ≡ seen_by found sample → Leaves holds None (seen_process others lease (claim_of boot number sample) found)
  leaves-seen others number sample None holds few early stay is = leaves-damaged others holds None
  leaves-seen others number sample (Some seen) holds few early stay is = by_test (is_expired seen sample) is
    where
      by_test : (a : Bool) → holds (lease_at lease) ≡ (if a then Seen sample else Nothing) → Leaves holds None (if_expired a seen (written_process others lease (claim_of boot number sample)))
      by_test false is' = (stay, refl)
      by_test true is' = leaves-written others number sample holds None few early stay is'

  pub leaves-claim : (others : List InUse) (number : ℕ) (holds : ℕ → Hold) (last : Option ℕ) → number < 2 ^ 40 → OthersStay lease before holds → holds (lease_at lease) ≡ Nothing →
      Leaves holds last (claim_process boot others lease number)
  leaves-claim others number holds last few stay is = λ sample early. leaves-in_time others sample _ _ _ (λ none. (
    λ bytes.
        let then' : ℕ → Hold = λ block. hold_after_reading sample (holds block) in
        leaves-seen others number sample (read_lease bytes) _ few early (stays-at then' _ (stays-timed sample holds stay))
        (at-same then' (lease_at lease) (hold_after_read (Some sample) bytes (then' (lease_at lease))) ∙ ap (λ (h : Hold). hold_after_read (Some sample) bytes (hold_after_reading sample h)) is),
    (tt, refl),
  ))

-- ---- a take

module _ (s : Setting) (geometry : IsGeometry s.geometry) (small : s.boot < 2 ^ 128) (command : Command) where
  abbrev SpaceRight : (ℕ → Hold) → Option ℕ → Process End → Type 0
  SpaceRight holds sample process = LawfulRest s.geometry s.boot command holds [] sample process

  -- the block of an extent's lease
  abbrev lease_block : ℕ → ℕ
  lease_block extent = lease_at (extent_lease s.geometry extent)

  -- of the extents from one on, as much is held as at first
  abbrev SameFrom : (from : ℕ) → (first now : ℕ → Hold) → Type 0
  SameFrom from first now = (e : ℕ) → from ≤ e → e < s.geometry.extents → now (lease_block e) ≡ first (lease_block e)

  -- a take goes on rightly whatever it has so far, where that much is held
  abbrev GoesRight : (from : ℕ) → (first : ℕ → Hold) → (Taking → Process End) → Type 0
  GoesRight from first rest = (t : Taking) (holds : ℕ → Hold) (sample : Option ℕ) → SameFrom from first holds → SpaceRight holds sample (rest t)

  some-blocks : 1 ≤ s.geometry.extent_blocks
  some-blocks = omega (arith, geometry.blocks_low)

  -- the map of an extent is read, which is no lease
  map-read : (extent e : ℕ) (sample : Option ℕ) (bytes : List ℕ) (holds : ℕ → Hold) → e < s.geometry.extents →
      after_answer sample (ask.Read (record { 0 = map_at s.geometry extent })) [] (answer.Bytes bytes) holds (lease_block e) ≡ holds (lease_block e)
  map-read extent e sample bytes holds below =
      at-other holds (map_at s.geometry extent) (lease_block e) _ (lease-map s.geometry (extent_lease s.geometry e) extent (extent-below s.geometry e below))

  space-granted : (extent : ℕ) (holds : ℕ → Hold) (claim : Claim) (until lease : ℕ) → holds (lease_block extent) ≡ Held claim until → lease ≡ extent_lease s.geometry extent → IsGranted holds lease until
  space-granted extent holds claim until lease is same = record { claim = claim; until = until; hold = ap (λ (n : ℕ). holds (lease_at n)) same ∙ is; guarded = omega arith }

  -- bits of a map are set, or none
  right-set : (extent : ℕ) (below : extent < s.geometry.extents) (claim : Claim) (until : ℕ) (bits : List Bool) (blocks : List ℕ) (from : ℕ) (first : ℕ → Hold) (rest : Taking → Process End) (t : Taking) (holds : ℕ → Hold) (sample : Option ℕ) →
      holds (lease_block extent) ≡ Held claim until → SameFrom from first holds → GoesRight from first rest → SpaceRight holds sample (set_process s extent until bits blocks rest t)
  right-set extent below claim until bits [] from first rest t holds sample held same right = right t holds sample same
  right-set extent below claim until bits (block ∷ blocks) from first rest t holds sample held same right = (
    record {
      placed = (extent, below, refl, ap (λ (n : ℕ). extent_lease s.geometry n ∷ []) (map-found s.geometry extent some-blocks));
      grants = λ lease needs. space-granted extent holds claim until lease held (one-in lease _ needs ∙ ap (extent_lease s.geometry) (map-found s.geometry extent some-blocks));
    },
    right (with_taken t (block ∷ blocks)) holds None same,
    tt,
    λ reading. tt,
    length-map_bytes (with_set (block ∷ blocks) (map_at s.geometry extent) bits),
  )

  right-found : (count extent : ℕ) (below : extent < s.geometry.extents) (claim : Claim) (until : ℕ) (found : Option (List Bool)) (from : ℕ) (first : ℕ → Hold) (rest : Taking → Process End) (t : Taking) (holds : ℕ → Hold) (sample : Option ℕ) →
      holds (lease_block extent) ≡ Held claim until → SameFrom from first holds → GoesRight from first rest → SpaceRight holds sample (take_found s count extent until found rest t)
  right-found count extent below claim until None from first rest t holds sample held same right =
      right-ends s command t.known (extent_use s.geometry extent until ∷ t.uses) (reply.Damaged (record { 0 = map_at s.geometry extent })) t.known holds sample
  right-found count extent below claim until (Some bits) from first rest t holds sample held same right =
      right-set extent below claim until bits (take (count - length t.hand) (free_from t.hand (map_at s.geometry extent) bits)) from first rest t holds sample held same right

  right-here : (count extent : ℕ) (below : extent < s.geometry.extents) (claim : Claim) (until from : ℕ) (first : ℕ → Hold) (rest : Taking → Process End) (t : Taking) (holds : ℕ → Hold) (sample : Option ℕ) →
      holds (lease_block extent) ≡ Held claim until → SameFrom from first holds → GoesRight from first rest → SpaceRight holds sample (take_here s count extent until rest t)
  right-here count extent below claim until from first rest t holds sample held same right = (
    λ bytes. right-found count extent below claim until (read_map s.geometry.extent_blocks bytes) from first rest t _ _
        (map-read extent extent sample bytes holds below ∙ held)
        (λ e past low. map-read extent e sample bytes holds low ∙ same e past low) right,
    tt,
  )

  right-needed : (count from : ℕ) (first : ℕ → Hold) (here rest : Taking → Process End) → GoesRight from first here → GoesRight from first rest → GoesRight from first (if_needed count here rest)
  right-needed count from first here rest right right' t holds sample same = by_test (nat_le count (length t.hand))
    where
      by_test : (a : Bool) → SpaceRight holds sample (if a then rest t else here t)
      by_test true = right' t holds sample same
      by_test false = right t holds sample same

  right-if_held : (count extent : ℕ) (below : extent < s.geometry.extents) (first : ℕ → Hold) (hold : Hold) (rest : Taking → Process End) → first (lease_block extent) ≡ hold →
      GoesRight 0 first rest → GoesRight 0 first (take_if_held s count extent hold rest)
  right-if_held count extent below first (Held claim until) rest is right t holds sample same =
      right-here count extent below claim until 0 first rest t holds sample (same extent (omega arith) below ∙ is) same right
  right-if_held count extent below first Nothing rest is right t holds sample same = right t holds sample same
  right-if_held count extent below first (Seen l) rest is right t holds sample same = right t holds sample same
  right-if_held count extent below first (Wrote claim until) rest is right t holds sample same = right t holds sample same
  right-if_held count extent below first (Waited claim until) rest is right t holds sample same = right t holds sample same

  right-held : (count : ℕ) (first : ℕ → Hold) (left extent : ℕ) (rest : Taking → Process End) → left + extent ≡ s.geometry.extents → GoesRight 0 first rest → GoesRight 0 first (take_held s count first left extent rest)
  right-held count first zero extent rest all right = right
  right-held count first (suc left) extent rest all right =
      let next = right-held count first left (extent + 1) rest (omega (arith, all)) right in
      right-needed count 0 first _ _ (right-if_held count extent (omega (arith, all)) first (first (lease_block extent)) _ refl next) next

  -- ---- extents whose leases aren't held

  -- a lease that is no other extent's
  other-extent : (extent e : ℕ) → extent + 1 ≤ e → extent_lease s.geometry e ≢ extent_lease s.geometry extent
  other-extent extent e past same = omega (arith, past, same)

  right-extent_claimed : (count extent : ℕ) (below : extent < s.geometry.extents) (first before : ℕ → Hold) (rest : Taking → Process End) (t : Taking) (end : ClaimEnd) (holds : ℕ → Hold) (sample : Option ℕ) →
      ((e : ℕ) → IsRest (first (lease_block e))) → SameFrom (extent + 1) first before → ClaimLeaves (extent_lease s.geometry extent) before end holds sample → GoesRight (extent + 1) first rest →
      SpaceRight holds sample (after_extent_claim s count extent rest t end)
  right-extent_claimed count extent below first before rest t (ClaimHeld claim until) holds sample rests same left right =
      right-here count extent below claim until (extent + 1) first rest (with_claimed t (extent_use s.geometry extent until)) holds sample left.0
      (λ e past low. left.1 (extent_lease s.geometry e) (other-extent extent e past) (subst IsRest (sym (same e past low)) (rests e)) ∙ same e past low) right
  right-extent_claimed count extent below first before rest t (ClaimBusy seen) holds sample rests same left right =
      right (with_busy t (extent_lease s.geometry extent) seen) holds sample
      (λ e past low. left (extent_lease s.geometry e) (other-extent extent e past) (subst IsRest (sym (same e past low)) (rests e)) ∙ same e past low)
  right-extent_claimed count extent below first before rest t (ClaimLost due reading) holds sample rests same left right = tt
  right-extent_claimed count extent below first before rest t ClaimReadFault holds sample rests same left right = tt
  right-extent_claimed count extent below first before rest t ClaimWriteFault holds sample rests same left right = tt
  right-extent_claimed count extent below first before rest t ClaimDamaged holds sample rests same left right = tt

  right-claim_extent : (enough : Bool) (count extent : ℕ) (below : extent < s.geometry.extents) (first : ℕ → Hold) (rest : Taking → Process End) (t : Taking) (holds : ℕ → Hold) (sample : Option ℕ) →
      nat_lt t.known.claims last_claim ≡ enough → ((e : ℕ) → IsRest (first (lease_block e))) → holds (lease_block extent) ≡ Nothing → SameFrom (extent + 1) first holds → GoesRight (extent + 1) first rest →
      SpaceRight holds sample (claim_extent enough s count extent rest t)
  right-claim_extent false count extent below first rest t holds sample e rests none same right = tt
  right-claim_extent true count extent below first rest t holds sample e rests none same right =
      let few = nat_lt-tells t.known.claims last_claim e in
      lawful-unfilled s.geometry s.boot command (ClaimLeaves (extent_lease s.geometry extent) holds) (λ end held fresh last. Unit {0}) (claim_process s.boot t.uses (extent_lease s.geometry extent) t.known.claims)
      (after_extent_claim s count extent rest (with_claim_begun t)) holds sample
      (leaves-claim s.geometry s.boot small command (extent_lease s.geometry extent) (extent-below s.geometry extent below) holds t.uses t.known.claims holds sample (omega (arith, few)) (λ j ne r. refl) none)
      (λ end h l left. right-extent_claimed count extent below first holds rest (with_claim_begun t) end h l rests same left right)

  right-if_free : (count extent : ℕ) (below : extent < s.geometry.extents) (first : ℕ → Hold) (free : List ℕ) (rest : Taking → Process End) (t : Taking) (holds : ℕ → Hold) (sample : Option ℕ) →
      ((e : ℕ) → IsRest (first (lease_block e))) → holds (lease_block extent) ≡ Nothing → SameFrom (extent + 1) first holds → GoesRight (extent + 1) first rest → SpaceRight holds sample (claim_if_free s count extent free rest t)
  right-if_free count extent below first [] rest t holds sample rests none same right = right t holds sample same
  right-if_free count extent below first (block ∷ blocks) rest t holds sample rests none same right =
      right-claim_extent (nat_lt t.known.claims last_claim) count extent below first rest t holds sample refl rests none same right

  right-other_found : (count extent : ℕ) (below : extent < s.geometry.extents) (first : ℕ → Hold) (found : Option (List Bool)) (rest : Taking → Process End) (t : Taking) (holds : ℕ → Hold) (sample : Option ℕ) →
      ((e : ℕ) → IsRest (first (lease_block e))) → holds (lease_block extent) ≡ Nothing → SameFrom (extent + 1) first holds → GoesRight (extent + 1) first rest → SpaceRight holds sample (other_found s count extent found rest t)
  right-other_found count extent below first None rest t holds sample rests none same right = right-ends s command t.known t.uses (reply.Damaged (record { 0 = map_at s.geometry extent })) t.known holds sample
  right-other_found count extent below first (Some bits) rest t holds sample rests none same right =
      right-if_free count extent below first (free_from t.hand (map_at s.geometry extent) bits) rest t holds sample rests none same right

  right-if_other : (count extent : ℕ) (below : extent < s.geometry.extents) (first : ℕ → Hold) (hold : Hold) (rest : Taking → Process End) → ((e : ℕ) → IsRest (first (lease_block e))) → first (lease_block extent) ≡ hold →
      GoesRight (extent + 1) first rest → GoesRight extent first (take_if_other s count extent hold rest)
  right-if_other count extent below first (Held claim until) rest rests is right t holds sample same = right t holds sample (λ e past low. same e (omega (arith, past)) low)
  right-if_other count extent below first Nothing rest rests is right t holds sample same = (
    λ bytes. right-other_found count extent below first (read_map s.geometry.extent_blocks bytes) rest t _ _ rests
        (map-read extent extent sample bytes holds below ∙ (same extent (omega arith) below ∙ is))
        (λ e past low. map-read extent e sample bytes holds low ∙ same e (omega (arith, past)) low) right,
    tt,
  )
  right-if_other count extent below first (Seen l) rest rests is right t holds sample same = absurd (subst IsRest is (rests extent))
  right-if_other count extent below first (Wrote claim until) rest rests is right t holds sample same = absurd (subst IsRest is (rests extent))
  right-if_other count extent below first (Waited claim until) rest rests is right t holds sample same = absurd (subst IsRest is (rests extent))

  right-others : (count : ℕ) (first : ℕ → Hold) (left extent : ℕ) (rest : Taking → Process End) → ((e : ℕ) → IsRest (first (lease_block e))) → left + extent ≡ s.geometry.extents →
      GoesRight s.geometry.extents first rest → GoesRight extent first (take_others s count first left extent rest)
  right-others count first zero extent rest rests all right t holds sample same = right t holds sample (λ e past low. absurd (omega (arith, past, low)))
  right-others count first (suc left) extent rest rests all right t holds sample same =
      let next = right-others count first left (extent + 1) rest rests (omega (arith, all)) right in
      right-needed count extent first _ _ (right-if_other count extent (omega (arith, all)) first (first (lease_block extent)) _ rests refl next)
      (λ t' h l same'. next t' h l (λ e past low. same' e (omega (arith, past)) low)) t holds sample same

  right-refused : (known : Known) (busy : Option (ℕ × LeaseRecord)) (holds : ℕ → Hold) (sample : Option ℕ) → SpaceRight holds sample (shortage_process s known busy)
  right-refused known None holds sample = tt
  right-refused known (Some met) holds sample = tt

  right-taken : (count from : ℕ) (first : ℕ → Hold) (rest : Taking → Process End) → GoesRight from first rest → GoesRight from first (taken_process s count rest)
  right-taken count from first rest right t holds sample same = by_test (nat_le count (length t.hand))
    where
      by_test : (a : Bool) → SpaceRight holds sample (if a then rest t else shortage_process s t.known t.busy)
      by_test true = right t holds sample same
      by_test false = right-refused t.known t.busy holds sample

  pub right-reserve : (known : Known) (holds : ℕ → Hold) (hand : List ℕ) (count : ℕ) (sample : Option ℕ) → ((e : ℕ) → IsRest (holds (lease_block e))) → SpaceRight holds sample (reserve_process s known holds hand count)
  right-reserve known holds hand count sample rests =
      right-held count holds s.geometry.extents 0 _ (omega arith)
      (right-others count holds s.geometry.extents 0 _ rests (omega arith) (right-taken count s.geometry.extents holds _ (λ t h l same. tt)))
      (first_taking [] known hand) holds sample (λ e past low. refl)

  -- ---- a retire

  -- of the leases not yet given up as much is held as at first
  abbrev SameOn : (Left : ℕ → Type 0) → (first now : ℕ → Hold) → Type 0
  SameOn Left first now = (lease : ℕ) → Left lease → now (lease_at lease) ≡ first (lease_at lease)

  -- the rest is right however the leases are held that were given up
  abbrev RestRight : (Left : ℕ → Type 0) → (first : ℕ → Hold) → Process End → Type 0
  RestRight Left first rest = (holds : ℕ → Hold) (sample : Option ℕ) → SameOn Left first holds → SpaceRight holds sample rest

  right-release : (known : Known) (due : InUse) (claim : Claim) (holds : ℕ → Hold) (sample : Option ℕ) (rest : Process End) → due.lease < lease_count s.geometry → holds (lease_at due.lease) ≡ Held claim due.until →
      SpaceRight (at holds (lease_at due.lease) Nothing) None rest → SpaceRight holds sample (release_then s known due rest)
  right-release known due claim holds sample rest below held right = (
    record { lease = due.lease; claim = claim; until = due.until; within = below; at_lease = refl; alone = ap (λ (n : ℕ). n ∷ []) (lease-place-found due.lease); hold = held; spells = refl; guarded = refl },
    right,
    tt,
    λ r. tt,
    length-lease Free,
  )

  -- the leases from an extent's on, and those of images and of the root
  abbrev FromExtent : (extent lease : ℕ) → Type 0
  FromExtent extent lease = (lease < extent_lease s.geometry 0) ⊎ ((extent_lease s.geometry extent ≤ lease) × (lease < lease_count s.geometry))

  -- the leases from an image's on, and that of the root
  abbrev FromImage : (image lease : ℕ) → Type 0
  FromImage image lease = (lease ≡ root_lease) ⊎ ((image_lease image ≤ lease) × (lease < extent_lease s.geometry 0))

  right-given : (known : Known) (uses : List InUse) (extent : ℕ) (below : extent < s.geometry.extents) (claim : Claim) (until : ℕ) (blocks : List ℕ) (found : Option (List Bool)) (holds : ℕ → Hold) (sample : Option ℕ) (rest : Process End) →
      holds (lease_block extent) ≡ Held claim until → SpaceRight holds None rest → SpaceRight holds sample (give_found s known uses extent until blocks found rest)
  right-given known uses extent below claim until blocks None holds sample rest held right =
      right-ends s command known (extent_use s.geometry extent until ∷ uses) (reply.Damaged (record { 0 = map_at s.geometry extent })) known holds sample
  right-given known uses extent below claim until blocks (Some bits) holds sample rest held right = (
    record {
      placed = (extent, below, refl, ap (λ (n : ℕ). extent_lease s.geometry n ∷ []) (map-found s.geometry extent some-blocks));
      grants = λ lease needs. space-granted extent holds claim until lease held (one-in lease _ needs ∙ ap (extent_lease s.geometry) (map-found s.geometry extent some-blocks));
    },
    right,
    tt,
    λ reading. tt,
    length-map_bytes (with_clear blocks (map_at s.geometry extent) bits),
  )

  -- a lease's block is no map
  lease-read : (lease extent : ℕ) (sample : Option ℕ) (bytes : List ℕ) (holds : ℕ → Hold) → lease < lease_count s.geometry →
      after_answer sample (ask.Read (record { 0 = map_at s.geometry extent })) [] (answer.Bytes bytes) holds (lease_at lease) ≡ holds (lease_at lease)
  lease-read lease extent sample bytes holds below = at-other holds (map_at s.geometry extent) (lease_at lease) _ (lease-map s.geometry lease extent below)

  from-below : (extent lease : ℕ) → FromExtent extent lease → lease < lease_count s.geometry
  from-below extent lease (inl low) = omega (arith, low)
  from-below extent lease (inr high) = high.1

  right-past : (known : Known) (hand : List ℕ) (extent : ℕ) (first : ℕ → Hold) (rest : Process End) → RestRight (FromExtent (extent + 1)) first rest → RestRight (FromExtent extent) first rest
  right-past known hand extent first rest right holds sample same = right holds sample (λ lease left. same lease (wider lease left))
    where
      wider : (lease : ℕ) → FromExtent (extent + 1) lease → FromExtent extent lease
      wider lease (inl low) = inl low
      wider lease (inr high) = inr (omega (arith, high.0), high.1)

  right-given_up : (known : Known) (uses : List InUse) (hand : List ℕ) (extent : ℕ) (below : extent < s.geometry.extents) (first : ℕ → Hold) (hold : Hold) (rest : Process End) → first (lease_block extent) ≡ hold →
      RestRight (FromExtent (extent + 1)) first rest → RestRight (FromExtent extent) first (retire_extent s known uses hand extent hold rest)
  right-given_up known uses hand extent below first (Held claim until) rest is right holds sample same = by_hand (in_extent s.geometry extent hand)
    where
      due : InUse
      due = extent_use s.geometry extent until

      within : extent_lease s.geometry extent < lease_count s.geometry
      within = extent-below s.geometry extent below

      released : (now : ℕ → Hold) (last : Option ℕ) → SameOn (FromExtent extent) first now → SpaceRight now last (release_then s known due rest)
      released now last same' =
          right-release known due claim now last rest within (same' (extent_lease s.geometry extent) (inr (omega arith, within)) ∙ is)
          (right _ None (λ lease left. at-other now (lease_block extent) (lease_at lease) Nothing (λ e. past lease left (lease-lease lease (extent_lease s.geometry extent) e)) ∙ same' lease (wider lease left)))
        where
          past : (lease : ℕ) → FromExtent (extent + 1) lease → lease ≢ extent_lease s.geometry extent
          past lease (inl low) e = omega (arith, low, e)
          past lease (inr high) e = omega (arith, high.0, e)

          wider : (lease : ℕ) → FromExtent (extent + 1) lease → FromExtent extent lease
          wider lease (inl low) = inl low
          wider lease (inr high) = inr (omega (arith, high.0), high.1)

      by_hand : (blocks : List ℕ) → SpaceRight holds sample (give_process s known uses extent until blocks (release_then s known due rest))
      by_hand [] = released holds sample same
      by_hand (block ∷ blocks) = (
        λ bytes.
            let now : ℕ → Hold = after_answer sample (ask.Read (record { 0 = map_at s.geometry extent })) [] (answer.Bytes bytes) holds in
            let same' : SameOn (FromExtent extent) first now = λ lease left. lease-read lease extent sample bytes holds (from-below extent lease left) ∙ same lease left in
            right-given known uses extent below claim until (block ∷ blocks) (read_map s.geometry.extent_blocks bytes) now None _ (same' (extent_lease s.geometry extent) (inr (omega arith, within)) ∙ is) (released now None same'),
        tt,
      )
  right-given_up known uses hand extent below first Nothing rest is right holds sample same = right-past known hand extent first rest right holds sample same
  right-given_up known uses hand extent below first (Seen l) rest is right holds sample same = right-past known hand extent first rest right holds sample same
  right-given_up known uses hand extent below first (Wrote claim until) rest is right holds sample same = right-past known hand extent first rest right holds sample same
  right-given_up known uses hand extent below first (Waited claim until) rest is right holds sample same = right-past known hand extent first rest right holds sample same

  right-extents : (known : Known) (uses : List InUse) (first : ℕ → Hold) (hand : List ℕ) (left extent : ℕ) (rest : Process End) → left + extent ≡ s.geometry.extents → RestRight (FromExtent s.geometry.extents) first rest →
      RestRight (FromExtent extent) first (retire_extents s known uses first hand left extent rest)
  right-extents known uses first hand zero extent rest all right = let same : s.geometry.extents ≡ extent = omega (arith, all) in subst (λ (e : ℕ). RestRight (FromExtent e) first rest) same right
  right-extents known uses first hand (suc left) extent rest all right =
      right-given_up known uses hand extent (omega (arith, all)) first (first (lease_block extent)) _ refl (right-extents known uses first hand left (extent + 1) rest (omega (arith, all)) right)

  -- a lease that is held without a session is given up, and any other stays
  right-lease : (known : Known) (lease : ℕ) (below : lease < lease_count s.geometry) (first : ℕ → Hold) (session : Option Session) (hold : Hold) (Left After : ℕ → Type 0) (rest : Process End) → first (lease_at lease) ≡ hold →
      Left lease → ((l : ℕ) → After l → Left l × (l ≢ lease)) → RestRight After first rest → RestRight Left first (retire_lease s known lease session hold rest)
  right-lease known lease below first session hold Left After rest is here narrower right = by_session session hold is
    where
      stays : RestRight Left first rest
      stays holds sample same = right holds sample (λ l after. same l (narrower l after).0)

      by_session : (session : Option Session) (hold : Hold) → first (lease_at lease) ≡ hold → RestRight Left first (retire_lease s known lease session hold rest)
      by_session None (Held claim until) is' holds sample same =
          right-release known (record { lease = lease; until = until }) claim holds sample rest below (same lease here ∙ is')
          (right _ None (λ l after. at-other holds (lease_at lease) (lease_at l) Nothing (λ e. (narrower l after).1 (lease-lease l lease e)) ∙ same l (narrower l after).0))
      by_session None Nothing is' holds sample same = stays holds sample same
      by_session None (Seen l) is' holds sample same = stays holds sample same
      by_session None (Wrote claim until) is' holds sample same = stays holds sample same
      by_session None (Waited claim until) is' holds sample same = stays holds sample same
      by_session (Some session) hold is' holds sample same = stays holds sample same

  right-images : (known : Known) (first : ℕ → Hold) (left image : ℕ) (rest : Process End) → left + image ≡ s.geometry.images → RestRight (FromImage s.geometry.images) first rest →
      RestRight (FromImage image) first (retire_images s known first left image rest)
  right-images known first zero image rest all right = let same : s.geometry.images ≡ image = omega (arith, all) in subst (λ (i : ℕ). RestRight (FromImage i) first rest) same right
  right-images known first (suc left) image rest all right =
      right-lease known (image_lease image) (image-below s.geometry image (omega (arith, all))) first (known.sessions image) (first (lease_at (image_lease image))) (FromImage image) (FromImage (image + 1)) _ refl
      (inr (omega arith, omega (arith, all))) narrower (right-images known first left (image + 1) rest (omega (arith, all)) right)
    where
      narrower : (l : ℕ) → FromImage (image + 1) l → FromImage image l × (l ≢ image_lease image)
      narrower l (inl root) = (inl root, λ e. omega (arith, root, e))
      narrower l (inr other) = (inr (omega (arith, other.0), other.1), λ e. omega (arith, other.0, e))

  pub right-retire : (known : Known) (holds : ℕ → Hold) (hand : List ℕ) (sample : Option ℕ) → SpaceRight holds sample (retire_process s known holds hand)
  right-retire known holds hand sample =
      right-extents known [] holds hand s.geometry.extents 0 _ (omega arith)
      (λ now last same. right-images known holds s.geometry.images 0 _ (omega arith)
      (right-lease known root_lease (omega arith) holds None (holds (lease_at root_lease)) (FromImage s.geometry.images) (λ l. ⊥) _ refl (inl refl) (λ l none. absurd none) (λ h l same'. tt))
      now last (λ lease left. same lease (first-leases lease left)))
      holds sample (λ lease left. refl)
    where
      first-leases : (lease : ℕ) → FromImage 0 lease → FromExtent s.geometry.extents lease
      first-leases lease (inl root) = inl (omega (arith, root))
      first-leases lease (inr other) = inl (other.1)
