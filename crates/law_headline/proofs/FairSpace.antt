-- A reserve and a retire are fair: they name no image, and give up no lease of a session.
use Rattle.std.proofs.Common.{◌≡◌, ◌≢◌, ℕ, zero, suc, ◌+◌, ◌-◌, ◌<◌, List, [], ◌∷◌, length, take, Bool, true, false, Option, Some, None, refl, ap, sym, subst, ◌∙◌, arith}
use Rattle.std.specs.Prelude.{◌==◌, if◌then◌else◌, nat_lt, nat_le}
use Rattle.std.specs.Str.{bytes_eq}
use Rattle.plx_base.specs.declared.lease.Claim.{Claim}
use Rattle.plx_base.specs.declared.lease.LeaseRecord.{LeaseRecord}
use Rattle.plx_base.specs.declared.lease.LeaseRecord.TheVariants.{Free}
use Rattle.plx_commands.specs.Limits.{last_claim}
use Rattle.plx_commands.specs.Places.{at}
use Rattle.plx_commands.specs.Replies.{number_of, is_in, row, ends_sessions, rests_on_fact, may_claim}
use Rattle.plx_commands.specs.Slots.{changed_slot}
use Rattle.plx_commands.specs.declared.command.Command.{Command}
use Rattle.plx_commands.specs.declared.command.Command.TheVariants.{Reserve, Retire}
use Rattle.plx_commands.specs.declared.reply.Reply.{Reply}
use Rattle.plx_commands.specs.declared.reply.Reply.TheVariants as reply
use Rattle.plx_extent.proofs.Maps.{length-map_bytes}
use Rattle.plx_extent.specs.Maps.{HoldsMap, bits_of, map_bytes}
use Rattle.plx_gate.proofs.Leases.{lease-back, length-lease}
use Rattle.plx_gate.specs.Leases.{lease_bytes, read_lease}
use Rattle.plx_geom.proofs.Places.{extent-below, image-below, root-image, image-extent, lease-lease, lease-map}
use Rattle.plx_geom.specs.Geometry.{IsGeometry, lease_count, root_lease, image_lease, extent_lease, lease_at, map_at}
use Rattle.plx_rules.specs.Claims.{ClaimEnd, ClaimHeld, ClaimBusy, ClaimLost, ClaimReadFault, ClaimWriteFault, claim_of, own_record, own_use, claim_in_time, reread_by, reread_process, written_process, if_expired, seen_process, claim_process}
use Rattle.plx_rules.specs.Ends.{End, ends, read_failed}
use Rattle.plx_rules.specs.Headline.{IsUndamaged}
use Rattle.plx_rules.specs.Holds.{Hold, Nothing, Seen, Wrote, Waited, Held, no_holds, hold_after_read, hold_after_reading, holds_after_reply}
use Rattle.plx_rules.specs.InUse.{InUse, lease_name, first_reached, unless_reached}
use Rattle.plx_rules.specs.Process.{Process, Ends, UntilThen}
use Rattle.plx_rules.specs.Processes.{followed_by}
use Rattle.plx_rules.specs.Session.{Session, Known}
use Rattle.plx_rules.specs.Settings.{Setting}
use Rattle.plx_rules.specs.Space.{Taking, with_claim_begun, with_claimed, with_taken, with_busy, first_taking, extent_use, if_needed, set_process, free_from, with_set, with_clear, take_found, take_here, take_if_held, take_held, after_extent_claim, claim_extent, claim_if_free, other_found, take_if_other, take_others, shortage_process, taken_process, take_process, reserve_process, release_then, in_extent, give_found, give_process, retire_extent, retire_extents, retire_lease, retire_images, retire_process}
use Rattle.plx_rules.specs.Times.{wait, is_expired}
use Rattle.law_headline.proofs.FairProcesses.{backs-read, backs-timed, backs-other, unused-image, IsFair, fair-still, fair-lost, fair-write_failed}
use Rattle.law_headline.proofs.HandFacts.{NoMap, out-filter}
use Rattle.law_headline.proofs.Harmless.{Harmless}
use Rattle.law_headline.proofs.Harmless as harmless
use Rattle.law_headline.proofs.Held.{IsSpelled, attached_of, Backs, IsDrop, just_at}
use Rattle.law_headline.proofs.MapFacts.{map-read, set-spelled, clear-spelled}
use Rattle.law_model.proofs.Replied.{not-own, sessions_after, sessions_sorted}

-- after a refusal that ends no sessions the sessions are those before
refused-sessions : (command : Command) (r : Reply) (f : ℕ → Bool) (k : ℕ) → (number_of r == 0) ≡ false → ends_sessions (number_of r) ≡ false → sessions_after command r f k ≡ f k
refused-sessions command r f k refusal stays =
    ap (λ (b : Bool). sessions_sorted b (ends_sessions (number_of r)) command f k) (not-own command r refusal) ∙ ap (λ (b : Bool). sessions_sorted false b command f k) stays

module _ (s : Setting) (geometry : IsGeometry s.geometry) (a : ℕ) (command : Command) (known : Known) (unchanged : changed_slot command ≡ None) where
  abbrev Fairly : (ℕ → Hold) → Option ℕ → Bool → Process End → Type 0
  Fairly holds sample just process = IsFair s a command known holds sample just process

  -- a refusal that rests on no fact of the model, and ends no sessions
  fair-refused : (holds : ℕ → Hold) (sample : Option ℕ) (just : Bool) (now : Known) (done : Reply) → now.sessions ≡ known.sessions → is_in (number_of done) (row command) ≡ true → (number_of done == 0) ≡ false →
      rests_on_fact (number_of done) ≡ false → ends_sessions (number_of done) ≡ false → ((h : ℕ → Hold) → holds_after_reply done h ≡ h) → IsUndamaged done → Backs s.geometry holds known → Fairly holds sample just (ends done now)
  fair-refused holds sample just now done e listed refusal factless stays keeps clean backs =
      fair-still s a command known holds sample just now done e (λ j. refused-sessions command done (attached_of known) j refusal stays)
      (let P : (ℕ → Hold) → Type 0 = λ h. Backs s.geometry h known in subst P (sym (keeps holds)) backs) clean (harmless.still (harmless.free listed refusal factless stays) unchanged)

  -- an extent's lease is no image's
  extent-unused : (extent : ℕ) → (k : ℕ) (t : Session) → k < s.geometry.images → known.sessions k ≡ Some t → image_lease k ≢ extent_lease s.geometry extent
  extent-unused extent k t below is = image-extent s.geometry k extent below

  -- ---- a claim of a lease that isn't an image's

  -- whatever ends the claim, what comes then is fair
  record FairNext (next : ClaimEnd → Process End) : Type 0 where
    held : (claim : Claim) (until : ℕ) (holds : ℕ → Hold) (sample : Option ℕ) (just : Bool) → Backs s.geometry holds known → Fairly holds sample just (next (ClaimHeld claim until))
    busy : (seen : LeaseRecord) (holds : ℕ → Hold) (sample : Option ℕ) (just : Bool) → Backs s.geometry holds known → Fairly holds sample just (next (ClaimBusy seen))
    read_fault : (holds : ℕ → Hold) (sample : Option ℕ) (just : Bool) → Backs s.geometry holds known → Fairly holds sample just (next ClaimReadFault)
    lost : (due : InUse) (reading : ℕ) (holds : ℕ → Hold) (sample : Option ℕ) (just : Bool) → Fairly holds sample just (next (ClaimLost due reading))
    write_fault : (holds : ℕ → Hold) (sample : Option ℕ) (just : Bool) → Fairly holds sample just (next ClaimWriteFault)
    lost_drops : (due : InUse) (reading : ℕ) → IsDrop (next (ClaimLost due reading))
    fault_drops : IsDrop (next ClaimWriteFault)

  module _ (lease : ℕ) (within : lease < lease_count s.geometry) (other : (k : ℕ) → k < s.geometry.images → image_lease k ≢ lease) (next : ClaimEnd → Process End) (fair : FairNext next) where
    abbrev Claims : (ℕ → Hold) → Option ℕ → Bool → Process ClaimEnd → Type 0
    Claims holds sample just process = Fairly holds sample just (followed_by process next)

    claim-in_time : (uses : List InUse) (reading : ℕ) (holds : ℕ → Hold) (sample : Option ℕ) (just : Bool) (rest : Process ClaimEnd) → Claims holds sample just rest →
        Claims holds sample just (claim_in_time uses reading rest)
    claim-in_time uses reading holds sample just rest is = by_reached (first_reached uses reading)
      where
        by_reached : (o : Option InUse) → Claims holds sample just (unless_reached o (λ due. Ends (ClaimLost due reading)) rest)
        by_reached None = is
        by_reached (Some due) = fair.lost due reading holds sample just

    -- the lease's block is read back
    lease-read : (bytes : List ℕ) → IsSpelled s.geometry (lease_at lease) bytes → (r : LeaseRecord) × (read_lease bytes ≡ Some r)
    lease-read bytes spelled = let r = spelled.lease lease within refl in (r.0, ap read_lease r.1 ∙ lease-back r.0 r.2)

    module _ (claim : Claim) (others : List InUse) where
      abbrev uses : List InUse
      uses = own_use lease claim ∷ others

      reread-fair : (holds : ℕ → Hold) (sample : Option ℕ) (just : Bool) → Backs s.geometry holds known → Claims holds sample just (reread_process uses lease claim)
      reread-fair holds sample just backs = (
        λ bytes spelled.
            let r = lease-read bytes spelled in
            by_test (bytes_eq bytes (lease_bytes (own_record claim))) (read_lease bytes) r.0 r.1 _ (backs-read s.geometry known holds (lease_at lease) sample bytes backs),
        fair.read_fault holds None false backs,
        λ k c u below e w. absurd (other k below (lease-lease (image_lease k) lease (sym e))),
      )
        where
          by_test : (b : Bool) (found : Option LeaseRecord) (r : LeaseRecord) → found ≡ Some r → (h : ℕ → Hold) → Backs s.geometry h known → Claims h None false (reread_by b uses claim found)
          by_test true found r e h backs' = fair.held claim _ h None false backs'
          by_test false None r e h backs' = absurd (let P : ⊥ = cc in P)
          by_test false (Some seen) r e h backs' = fair.busy seen h None false backs'

      wait-fair : (holds : ℕ → Hold) (sample : Option ℕ) (just : Bool) → Backs s.geometry holds known →
          Claims holds sample just (UntilThen (claim.sample + wait) (λ reading. claim_in_time uses reading (reread_process uses lease claim)))
      wait-fair holds sample just backs = λ reading past early.
          let h : ℕ → Hold = λ block. hold_after_reading reading (holds block) in
          claim-in_time uses reading h (Some reading) (just_at s.geometry command h reading) (reread_process uses lease claim)
          (reread-fair h (Some reading) (just_at s.geometry command h reading) (backs-timed s.geometry known holds reading backs))

      seen-fair : (found : Option LeaseRecord) (r : LeaseRecord) (holds : ℕ → Hold) (sample : Option ℕ) (just : Bool) → found ≡ Some r → Backs s.geometry holds known → Claims holds sample just (seen_process others lease claim found)
      seen-fair None r holds sample just e backs = absurd (let P : ⊥ = cc in P)
      seen-fair (Some seen) r holds sample just e backs = by_test (is_expired seen claim.sample)
        where
          by_test : (b : Bool) → Claims holds sample just (if_expired b seen (written_process others lease claim))
          by_test false = fair.busy seen holds sample just backs
          by_test true = (
            record { named = tt; spells = tt },
            length-lease (own_record claim),
            wait-fair _ None false (backs-other s.geometry known holds lease _ (λ k t below is. other k below) backs),
            fair.write_fault no_holds None false,
            λ reading. fair.lost _ reading no_holds None false,
            fair.fault_drops,
            λ reading. fair.lost_drops _ reading,
          )

    claim-fair : (others : List InUse) (number : ℕ) (holds : ℕ → Hold) (sample : Option ℕ) (just : Bool) → Backs s.geometry holds known → Claims holds sample just (claim_process s.boot others lease number)
    claim-fair others number holds sample just backs = λ reading early.
        let h : ℕ → Hold = λ block. hold_after_reading reading (holds block) in
        let backs' = backs-timed s.geometry known holds reading backs in
        claim-in_time others reading h (Some reading) (just_at s.geometry command h reading) _ (
          λ bytes spelled. let r = lease-read bytes spelled in
              seen-fair (claim_of s.boot number reading) others (read_lease bytes) r.0 _ None false r.1 (backs-read s.geometry known _ (lease_at lease) (Some reading) bytes backs'),
          fair.read_fault h None false backs',
          λ k c u below e w. absurd (other k below (lease-lease (image_lease k) lease (sym e))),
        )

  -- ---- maps

  -- a read failed
  read-failed : is_in 10 (row command) ≡ true → (block : ℕ) (now : Known) (holds : ℕ → Hold) (sample : Option ℕ) (just : Bool) → now.sessions ≡ known.sessions → Backs s.geometry holds known → Fairly holds sample just (read_failed block now)
  read-failed listed block now holds sample just e backs = fair-refused holds sample just now (reply.ReadFault (record { 0 = block })) e listed refl refl refl (λ h. refl) tt backs

  -- what is held once a map was read
  abbrev after-map : (extent : ℕ) → Option ℕ → (bytes : List ℕ) → (ℕ → Hold) → ℕ → Hold
  after-map extent sample bytes holds = at holds (map_at s.geometry extent) (hold_after_read sample bytes (holds (map_at s.geometry extent)))

  -- a map is no lease of an image
  map-unconfirmed : {X : Type 0} (extent i : ℕ) → i < s.geometry.images → map_at s.geometry extent ≡ lease_at (image_lease i) → X
  map-unconfirmed extent i below e = absurd (lease-map s.geometry (image_lease i) extent (image-below s.geometry i below) (sym e))

  -- ---- a take

  -- the replies of a take are among the command's
  pub record Takes : Type 0 where
    pub busy : is_in 8 (row command) ≡ true
    pub read_fault : is_in 10 (row command) ≡ true
    pub write_fault : is_in 11 (row command) ≡ true
    pub full : is_in 12 (row command) ≡ true
    pub worn : is_in 15 (row command) ≡ true
    pub claims : may_claim command ≡ true

  module _ (takes : Takes) where
    -- a take goes on fairly, whatever it has so far
    abbrev GoesFair : (Taking → Process End) → Type 0
    GoesFair rest = (t : Taking) (holds : ℕ → Hold) (sample : Option ℕ) (just : Bool) → t.known.sessions ≡ known.sessions → Backs s.geometry holds known → Fairly holds sample just (rest t)

    fair-set : (extent until : ℕ) (bits : List Bool) (blocks : List ℕ) (rest : Taking → Process End) → HoldsMap s.geometry.extent_blocks (map_bytes (with_set blocks (map_at s.geometry extent) bits)) → GoesFair rest → GoesFair (set_process s extent until bits blocks rest)
    fair-set extent until bits [] rest spells right t holds sample just e backs = right t holds sample just e backs
    fair-set extent until bits (block ∷ blocks) rest spells right t holds sample just e backs = (
      record { named = tt; spells = spells },
      length-map_bytes (with_set (block ∷ blocks) (map_at s.geometry extent) bits),
      right (with_taken t (block ∷ blocks)) holds None false e backs,
      fair-write_failed s a command known no_holds None false t.known (map_at s.geometry extent) takes.write_fault,
      λ reading. fair-lost s a command known no_holds None false t.known _ reading,
      refl,
      λ reading. refl,
    )

    fair-here : (count extent until : ℕ) → extent < s.geometry.extents → (rest : Taking → Process End) → GoesFair rest → GoesFair (take_here s count extent until rest)
    fair-here count extent until below rest right t holds sample just e backs = (
      λ bytes spelled.
          let holds-map = spelled.map extent below refl in
          let P : Option (List Bool) → Type 0 = λ o. Fairly (after-map extent sample bytes holds) None false (take_found s count extent until o rest t) in
          subst P (sym (map-read s.geometry.extent_blocks bytes holds-map))
          (fair-set extent until (bits_of s.geometry.extent_blocks bytes) (take (count - length t.hand) (free_from t.hand (map_at s.geometry extent) (bits_of s.geometry.extent_blocks bytes))) rest
          (set-spelled s.geometry.extent_blocks _ (map_at s.geometry extent) (bits_of s.geometry.extent_blocks bytes) geometry.blocks_high holds-map.is) right
          t _ None false e (backs-read s.geometry known holds (map_at s.geometry extent) sample bytes backs)),
      read-failed takes.read_fault (map_at s.geometry extent) t.known holds None false e backs,
      λ k c u low e' w. map-unconfirmed extent k low e',
    )

    fair-needed : (count : ℕ) (here rest : Taking → Process End) → GoesFair here → GoesFair rest → GoesFair (if_needed count here rest)
    fair-needed count here rest right right' t holds sample just e backs = by_test (nat_le count (length t.hand))
      where
        by_test : (b : Bool) → Fairly holds sample just (if b then rest t else here t)
        by_test true = right' t holds sample just e backs
        by_test false = right t holds sample just e backs

    fair-if_held : (count extent : ℕ) → extent < s.geometry.extents → (hold : Hold) (rest : Taking → Process End) → GoesFair rest → GoesFair (take_if_held s count extent hold rest)
    fair-if_held count extent below (Held claim until) rest right = fair-here count extent until below rest right
    fair-if_held count extent below Nothing rest right = right
    fair-if_held count extent below (Seen l) rest right = right
    fair-if_held count extent below (Wrote claim until) rest right = right
    fair-if_held count extent below (Waited claim until) rest right = right

    fair-held : (count : ℕ) (first : ℕ → Hold) (left extent : ℕ) (rest : Taking → Process End) → left + extent ≡ s.geometry.extents → GoesFair rest → GoesFair (take_held s count first left extent rest)
    fair-held count first zero extent rest all right = right
    fair-held count first (suc left) extent rest all right =
        let next = fair-held count first left (extent + 1) rest (omega (arith, all)) right in
        fair-needed count _ _ (fair-if_held count extent (omega (arith, all)) (first (lease_at (extent_lease s.geometry extent))) _ next) next

    -- ---- extents whose leases aren't held

    fair-claimed : (count extent : ℕ) → extent < s.geometry.extents → (rest : Taking → Process End) → GoesFair rest → (t : Taking) → t.known.sessions ≡ known.sessions → FairNext (after_extent_claim s count extent rest t)
    fair-claimed count extent below rest right t e = record {
      held = λ claim until holds sample just backs. fair-here count extent until below rest right (with_claimed t (extent_use s.geometry extent until)) holds sample just e backs;
      busy = λ seen holds sample just backs. right (with_busy t (extent_lease s.geometry extent) seen) holds sample just e backs;
      read_fault = λ holds sample just backs. read-failed takes.read_fault (lease_at (extent_lease s.geometry extent)) t.known holds sample just e backs;
      lost = λ due reading holds sample just. fair-lost s a command known holds sample just t.known due reading;
      write_fault = λ holds sample just. fair-write_failed s a command known holds sample just t.known (lease_at (extent_lease s.geometry extent)) takes.write_fault;
      lost_drops = λ due reading. refl;
      fault_drops = refl;
    }

    fair-claim_extent : (enough : Bool) (count extent : ℕ) → extent < s.geometry.extents → (rest : Taking → Process End) → GoesFair rest → GoesFair (claim_extent enough s count extent rest)
    fair-claim_extent false count extent below rest right t holds sample just e backs =
        fair-still s a command known holds sample just t.known (reply.WornOut last_claim) e (λ j. refused-sessions command (reply.WornOut last_claim) (attached_of known) j refl refl) backs tt
        (harmless.still (harmless.worn takes.worn takes.claims) unchanged)
    fair-claim_extent true count extent below rest right t holds sample just e backs =
        claim-fair (extent_lease s.geometry extent) (extent-below s.geometry extent below) (λ k low. image-extent s.geometry k extent low) (after_extent_claim s count extent rest (with_claim_begun t))
        (fair-claimed count extent below rest right (with_claim_begun t) e) t.uses t.known.claims holds sample just backs

    fair-if_free : (count extent : ℕ) → extent < s.geometry.extents → (free : List ℕ) (rest : Taking → Process End) → GoesFair rest → GoesFair (claim_if_free s count extent free rest)
    fair-if_free count extent below [] rest right t holds sample just e backs = right t holds sample just e backs
    fair-if_free count extent below (block ∷ blocks) rest right t holds sample just e backs =
        fair-claim_extent (nat_lt t.known.claims last_claim) count extent below rest right t holds sample just e backs

    fair-look : (count extent : ℕ) → extent < s.geometry.extents → (rest : Taking → Process End) → GoesFair rest → GoesFair (take_if_other s count extent Nothing rest)
    fair-look count extent below rest right t holds sample just e backs = (
      λ bytes spelled.
          let P : Option (List Bool) → Type 0 = λ o. Fairly (after-map extent sample bytes holds) None false (other_found s count extent o rest t) in
          subst P (sym (map-read s.geometry.extent_blocks bytes (spelled.map extent below refl)))
          (fair-if_free count extent below _ rest right t _ None false e (backs-read s.geometry known holds (map_at s.geometry extent) sample bytes backs)),
      read-failed takes.read_fault (map_at s.geometry extent) t.known holds None false e backs,
      λ k c u low e' w. map-unconfirmed extent k low e',
    )

    fair-if_other : (count extent : ℕ) → extent < s.geometry.extents → (hold : Hold) (rest : Taking → Process End) → GoesFair rest → GoesFair (take_if_other s count extent hold rest)
    fair-if_other count extent below (Held claim until) rest right = right
    fair-if_other count extent below Nothing rest right = fair-look count extent below rest right
    fair-if_other count extent below (Seen l) rest right = fair-look count extent below rest right
    fair-if_other count extent below (Wrote claim until) rest right = fair-look count extent below rest right
    fair-if_other count extent below (Waited claim until) rest right = fair-look count extent below rest right

    fair-others : (count : ℕ) (first : ℕ → Hold) (left extent : ℕ) (rest : Taking → Process End) → left + extent ≡ s.geometry.extents → GoesFair rest → GoesFair (take_others s count first left extent rest)
    fair-others count first zero extent rest all right = right
    fair-others count first (suc left) extent rest all right =
        let next = fair-others count first left (extent + 1) rest (omega (arith, all)) right in
        fair-needed count _ _ (fair-if_other count extent (omega (arith, all)) (first (lease_at (extent_lease s.geometry extent))) _ next) next

    fair-taken : (count : ℕ) (rest : Taking → Process End) → GoesFair rest → GoesFair (taken_process s count rest)
    fair-taken count rest right t holds sample just e backs = by_test (nat_le count (length t.hand))
      where
        refusal : (busy : Option (ℕ × LeaseRecord)) → Fairly holds sample just (shortage_process s t.known busy)
        refusal None = fair-refused holds sample just t.known reply.Full e takes.full refl refl refl (λ h. refl) tt backs
        refusal (Some met) = fair-refused holds sample just t.known (reply.Busy (lease_name s.geometry met.0) met.1) e takes.busy refl refl refl (λ h. refl) tt backs

        by_test : (b : Bool) → Fairly holds sample just (if b then rest t else shortage_process s t.known t.busy)
        by_test true = right t holds sample just e backs
        by_test false = refusal t.busy

    pub fair-take : (first : ℕ → Hold) (count : ℕ) (rest : Taking → Process End) → GoesFair rest → GoesFair (take_process s first count rest)
    fair-take first count rest right =
        fair-held count first s.geometry.extents 0 _ (omega arith) (fair-others count first s.geometry.extents 0 _ (omega arith) (fair-taken count rest right))

  -- ---- a retire

  -- the replies of a give are among the command's
  pub record ListsGiveFaults : Type 0 where
    pub read_fault : is_in 10 (row command) ≡ true
    pub write_fault : is_in 11 (row command) ≡ true

  module _ (gives : ListsGiveFaults) where
    -- what is left goes on fairly
    abbrev StaysFair : Process End → Type 0
    StaysFair rest = (holds : ℕ → Hold) (sample : Option ℕ) (just : Bool) → Backs s.geometry holds known → Fairly holds sample just rest

    fair-release : (due : InUse) (rest : Process End) → ((k : ℕ) (t : Session) → k < s.geometry.images → known.sessions k ≡ Some t → image_lease k ≢ due.lease) → StaysFair rest → StaysFair (release_then s known due rest)
    fair-release due rest other right holds sample just backs = (
      record { named = tt; spells = tt },
      length-lease Free,
      right (at holds (lease_at due.lease) Nothing) None false (backs-other s.geometry known holds due.lease Nothing other backs),
      fair-write_failed s a command known no_holds None false known (lease_at due.lease) gives.write_fault,
      λ reading. fair-lost s a command known no_holds None false known due reading,
      refl,
      λ reading. refl,
    )

    -- blocks in hand are given back
    fair-given : (beside : List InUse) (extent until : ℕ) (blocks : List ℕ) (bits : List Bool) (rest : Process End) → HoldsMap s.geometry.extent_blocks (map_bytes (with_clear blocks (map_at s.geometry extent) bits)) → StaysFair rest →
        StaysFair (give_found s known beside extent until blocks (Some bits) rest)
    fair-given beside extent until blocks bits rest spells right holds sample just backs = (
      record { named = tt; spells = spells },
      length-map_bytes (with_clear blocks (map_at s.geometry extent) bits),
      right holds None false backs,
      fair-write_failed s a command known no_holds None false known (map_at s.geometry extent) gives.write_fault,
      λ reading. fair-lost s a command known no_holds None false known (extent_use s.geometry extent until) reading,
      refl,
      λ reading. refl,
    )

    fair-give : (beside : List InUse) (extent until : ℕ) → extent < s.geometry.extents → (blocks : List ℕ) (rest : Process End) → is_in (map_at s.geometry extent) blocks ≡ false → StaysFair rest → StaysFair (give_process s known beside extent until blocks rest)
    fair-give beside extent until below [] rest out right holds sample just backs = right holds sample just backs
    fair-give beside extent until below (block ∷ blocks) rest out right holds sample just backs = (
      λ bytes spelled.
          let holds-map = spelled.map extent below refl in
          let P : Option (List Bool) → Type 0 = λ o. Fairly (after-map extent sample bytes holds) None false (give_found s known beside extent until (block ∷ blocks) o rest) in
          subst P (sym (map-read s.geometry.extent_blocks bytes holds-map))
          (fair-given beside extent until (block ∷ blocks) (bits_of s.geometry.extent_blocks bytes) rest
          (clear-spelled s.geometry.extent_blocks (block ∷ blocks) (map_at s.geometry extent) (bits_of s.geometry.extent_blocks bytes) geometry.blocks_high out holds-map.is) right
          _ None false (backs-read s.geometry known holds (map_at s.geometry extent) sample bytes backs)),
      read-failed gives.read_fault (map_at s.geometry extent) known holds None false refl backs,
      λ k c u low e' w. map-unconfirmed extent k low e',
    )

    fair-give_up : (beside : List InUse) (hand : List ℕ) → NoMap s.geometry hand → (extent : ℕ) → extent < s.geometry.extents → (hold : Hold) (rest : Process End) → StaysFair rest → StaysFair (retire_extent s known beside hand extent hold rest)
    fair-give_up beside hand none extent below (Held claim until) rest right =
        fair-give beside extent until below (in_extent s.geometry extent hand) _ (out-filter _ (map_at s.geometry extent) hand (none extent below))
        (fair-release (extent_use s.geometry extent until) rest (extent-unused extent) right)
    fair-give_up beside hand none extent below Nothing rest right = right
    fair-give_up beside hand none extent below (Seen l) rest right = right
    fair-give_up beside hand none extent below (Wrote claim until) rest right = right
    fair-give_up beside hand none extent below (Waited claim until) rest right = right

    fair-extents : (beside : List InUse) (first : ℕ → Hold) (hand : List ℕ) → NoMap s.geometry hand → (left extent : ℕ) (rest : Process End) → left + extent ≡ s.geometry.extents → StaysFair rest → StaysFair (retire_extents s known beside first hand left extent rest)
    fair-extents beside first hand none zero extent rest all right = right
    fair-extents beside first hand none (suc left) extent rest all right =
        fair-give_up beside hand none extent (omega (arith, all)) (first (lease_at (extent_lease s.geometry extent))) _ (fair-extents beside first hand none left (extent + 1) rest (omega (arith, all)) right)

    fair-lease : (lease : ℕ) (session : Option Session) (hold : Hold) (rest : Process End) → (session ≡ None → (k : ℕ) (t : Session) → k < s.geometry.images → known.sessions k ≡ Some t → image_lease k ≢ lease) → StaysFair rest →
        StaysFair (retire_lease s known lease session hold rest)
    fair-lease lease None (Held claim until) rest other right = fair-release (record { lease = lease; until = until }) rest (other refl) right
    fair-lease lease None Nothing rest other right = right
    fair-lease lease None (Seen l) rest other right = right
    fair-lease lease None (Wrote claim until) rest other right = right
    fair-lease lease None (Waited claim until) rest other right = right
    fair-lease lease (Some t) hold rest other right = right

    fair-images : (first : ℕ → Hold) (left image : ℕ) (rest : Process End) → StaysFair rest → StaysFair (retire_images s known first left image rest)
    fair-images first zero image rest right = right
    fair-images first (suc left) image rest right =
        fair-lease (image_lease image) (known.sessions image) (first (lease_at (image_lease image))) _ (unused-image s.geometry known image) (fair-images first left (image + 1) rest right)

    pub fair-give_back : (first : ℕ → Hold) (hand : List ℕ) → NoMap s.geometry hand → StaysFair (ends reply.Retired known) → StaysFair (retire_process s known first hand)
    fair-give_back first hand none right =
        fair-extents [] first hand none s.geometry.extents 0 _ (omega arith) (fair-images first s.geometry.images 0 _
        (fair-lease root_lease None (first (lease_at root_lease)) _ (λ e k t below is same. root-image k (sym same)) right))

-- ---- the commands

module _ (s : Setting) (geometry : IsGeometry s.geometry) (a : ℕ) (known : Known) (holds : ℕ → Hold) (backs : Backs s.geometry holds known) where
  pub fair-reserve : (hand : List ℕ) (count : _) (sample : Option ℕ) (just : Bool) → IsFair s a (Reserve count) known holds sample just (reserve_process s known holds hand count)
  fair-reserve hand count sample just =
      fair-take s geometry a (Reserve count) known refl (record { busy = refl; read_fault = refl; write_fault = refl; full = refl; worn = refl; claims = refl }) holds count _
      (λ t h l j e b. fair-still s a (Reserve count) known h l j t.known reply.Reserved e (λ i. refl) b tt (harmless.unnamed refl refl))
      (first_taking [] known hand) holds sample just refl backs

  pub fair-retire : (hand : List ℕ) → NoMap s.geometry hand → (sample : Option ℕ) (just : Bool) → IsFair s a Retire known holds sample just (retire_process s known holds hand)
  fair-retire hand none sample just =
      fair-give_back s geometry a Retire known refl (record { read_fault = refl; write_fault = refl }) holds hand none
      (λ h l j b. fair-still s a Retire known h l j known reply.Retired refl (λ i. refl) b tt (harmless.unnamed refl refl))
      holds sample just backs
