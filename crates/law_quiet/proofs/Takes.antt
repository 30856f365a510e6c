-- A reserve whose blocks are there ends with them in hand.
use Rattle.std.proofs.Common.{◌≡◌, ◌⊎◌, inl, inr, ℕ, ◌+◌, ◌-◌, ◌≤◌, ◌<◌, zero, suc, List, [], ◌∷◌, ◌++◌, length, take, Bool, true, false, Option, Some, None, refl, ap, sym, subst, ◌∙◌, arith, length-append}
use Rattle.std.specs.Prelude.{nat_le, nat_lt, if◌then◌else◌, ◌==◌, ◌||◌}
use Rattle.plx_base.specs.Sectors.{Device, put}
use Rattle.plx_base.proofs.Devices.{put-other}
use Rattle.plx_base.proofs.Tests.{nat_le-tells, nat_le-true, lt-cases}
use Rattle.plx_commands.specs.Limits.{last_claim}
use Rattle.plx_commands.specs.Replies.{is_in}
use Rattle.plx_commands.specs.declared.reply.Reply.TheVariants as reply
use Rattle.plx_extent.specs.Maps.{map_bytes}
use Rattle.plx_extent.proofs.Maps.{length-map_bytes, length-bits_from}
use Rattle.plx_geom.specs.Geometry.{Geometry, IsGeometry, extent_lease, lease_at, map_at}
use Rattle.plx_geom.proofs.Places.{lease-map, map-map, extent-below}
use Rattle.plx_gate.specs.Leases.{read_lease}
use Rattle.plx_rules.specs.Claims.{ClaimEnd, ClaimHeld, ClaimBusy, ClaimLost, ClaimReadFault, ClaimWriteFault, ClaimDamaged, claim_process}
use Rattle.plx_rules.specs.Ends.{End, ends}
use Rattle.plx_rules.specs.Hands.{is_held}
use Rattle.plx_rules.specs.Holds.{Hold, Nothing, Seen, Wrote, Waited, Held}
use Rattle.plx_rules.specs.Process.{Process}
use Rattle.plx_rules.specs.Rests.{extent_of}
use Rattle.plx_rules.specs.Session.{Known}
use Rattle.plx_rules.specs.Settings.{Setting}
use Rattle.plx_rules.specs.Space.{Taking, first_taking, with_taken, with_claim_begun, with_claimed, extent_use, read_map, free_from, with_set, if_needed, set_process, take_found, take_here, take_if_held, take_held, after_extent_claim, claim_extent, claim_if_free, other_found, take_if_other, take_others, taken_process, shortage_process, reserve_process}
use Rattle.law_run.proofs.FreeBlocks.{has-take, take-all, free-within, map-bits}
use Rattle.law_run.proofs.Hands.{extent-found}
use Rattle.law_quiet.specs.Quiet.{free_count, free_blocks}
use Rattle.law_quiet.proofs.Unbusy.{Suits, suits-at-end, IsGone, IsHeldOn, claim-gets, IsReady}
use Rattle.law_quiet.proofs.Walks.{Always, Quietly, tracked-followed}

-- ---- lists of blocks

-- blocks that aren't there change nothing
in-appended : (b : ℕ) (xs ys : List ℕ) → is_in b ys ≡ false → is_in b (xs ++ ys) ≡ is_in b xs
in-appended b [] ys none = none
in-appended b (x ∷ xs) ys none = ap (λ t. (b == x) || t) (in-appended b xs ys none)

-- what is free goes by what is in hand of these blocks alone
free-same : (hand hand' : List ℕ) (m : ℕ) (bits : List Bool) → ((b : ℕ) → m ≤ b → b < m + length bits → is_in b hand ≡ is_in b hand') → free_from hand m bits ≡ free_from hand' m bits
free-same hand hand' m [] same = refl
free-same hand hand' m (bit ∷ bits) same =
    let rest = free-same hand hand' (m + 1) bits (λ b low high. same b (omega (arith, low)) (omega (arith, high))) in
    ap (λ t. if bit || t then free_from hand (m + 1) bits else m ∷ free_from hand (m + 1) bits) (same m (omega arith) (omega arith))
    ∙ ap (λ (xs : List ℕ). if bit || is_in m hand' then xs else m ∷ xs) rest

-- as many are taken as are wanted, or all
take-length : (k : ℕ) (xs : List ℕ) → (k ≤ length (take k xs)) ⊎ (length (take k xs) ≡ length xs)
take-length k xs = elim (lt-cases (length (take k xs)) k) [ inl few ↦ inr (ap length (take-all k xs few.1)) | inr enough ↦ inl enough.1 ]

not-in : (b : ℕ) (xs : List ℕ) → ((is_in b xs ≡ true) → ⊥) → is_in b xs ≡ false
not-in b xs never = by-test (is_in b xs) refl
  where
    by-test : (t : Bool) → is_in b xs ≡ t → is_in b xs ≡ false
    by-test true is = absurd (never is)
    by-test false is = is

-- ---- what is left of a take

module _ (s : Setting) (geometry : IsGeometry s.geometry) (count : ℕ) (holds : ℕ → Hold) (start : Device) (hand : List ℕ) (low : ℕ)
    (clear : (e : ℕ) → e < s.geometry.extents → IsReady low start (extent_lease s.geometry e) (holds (lease_at (extent_lease s.geometry e)))) where
  abbrev g : Geometry
  g = s.geometry

  abbrev lease : ℕ → ℕ
  lease e = lease_at (extent_lease g e)

  abbrev held : ℕ → Bool
  held e = is_held (holds (lease e))

  abbrev free : ℕ → ℕ
  free e = free_count hand (map_at g e) (read_map g.extent_blocks (start (map_at g e)))

  abbrev Unshort : Device → Process End → Type 0
  Unshort device process = Quietly (Suits true) low device process

  some-blocks : 1 ≤ g.extent_blocks
  some-blocks = let low' = geometry.blocks_low in omega (arith, low')

  -- of the extents that are to come maps and leases are as they were, and what is in hand of them is what was; so many free blocks are left
  record Ahead (U : ℕ → Type 0) (t : Taking) (device : Device) (left : ℕ) : Type 0 where
    pub unbusy : t.busy ≡ None
    pub maps : (f : ℕ) → f < g.extents → U f → device (map_at g f) ≡ start (map_at g f)
    pub leases : (f : ℕ) → f < g.extents → U f → device (lease f) ≡ start (lease f)
    pub hands : (f : ℕ) → f < g.extents → U f → (b : ℕ) → extent_of g b ≡ f → is_in b t.hand ≡ is_in b hand
    pub enough : count ≤ length t.hand + left

  fewer : (U V : ℕ → Type 0) (t : Taking) (device : Device) (left left' : ℕ) → ((f : ℕ) → V f → U f) → count ≤ length t.hand + left' → Ahead U t device left → Ahead V t device left'
  fewer U V t device left left' in' enough a = record {
    unbusy = a.unbusy;
    maps = λ f below v. a.maps f below (in' f v);
    leases = λ f below v. a.leases f below (in' f v);
    hands = λ f below v. a.hands f below (in' f v);
    enough = enough;
  }

  if-needed : (device : Device) (here rest : Taking → Process End) (t : Taking) → (count ≤ length t.hand → Unshort device (rest t)) → Unshort device (here t) → Unshort device (if_needed count here rest t)
  if-needed device here rest t enough wanted = by-test (nat_le count (length t.hand)) refl
    where
      by-test : (b : Bool) → nat_le count (length t.hand) ≡ b → Unshort device (if b then rest t else here t)
      by-test true is = enough (nat_le-tells count (length t.hand) is)
      by-test false is = wanted

  -- blocks are taken of an extent that isn't among those to come
  module _ (U : ℕ → Type 0) (e : ℕ) (below : e < g.extents) (apart : U e → ⊥) (until left : ℕ) (rest : Taking → Process End)
      (goes : (t : Taking) (device : Device) → Ahead U t device left → Unshort device (rest t)) where
    set-takes : (t : Taking) (device : Device) (bits : List Bool) → length bits ≡ g.extent_blocks → Ahead U t device (length (free_from t.hand (map_at g e) bits) + left) → (blocks : List ℕ) →
        take (count - length t.hand) (free_from t.hand (map_at g e) bits) ≡ blocks → Unshort device (set_process s e until bits blocks rest t)
    set-takes t device bits long a [] are =
        goes t device (fewer U U t device (length (free_from t.hand (map_at g e) bits) + left) left (λ f u. u)
        (let n = a.enough in let l = ap length are in elim (take-length (count - length t.hand) (free_from t.hand (map_at g e) bits)) [
          | inl all ↦ omega (arith, n, l, all)
          | inr whole ↦ omega (arith, n, l, whole)
        ]) a)
    set-takes t device bits long a (block ∷ blocks) are =
        let m = map_at g e in
        let free_here = free_from t.hand m bits in
        let bytes = map_bytes (with_set (block ∷ blocks) m bits) in
        let within : (b : ℕ) → is_in b (block ∷ blocks) ≡ true → extent_of g b ≡ e =
        λ b has. (let r = free-within t.hand m bits b (has-take (count - length t.hand) free_here b (subst (λ xs. is_in b xs ≡ true) (sym are) has)) in
        extent-found g e b r.0 (omega (arith, r.1, long))) in
        let n = a.enough in
        let l = ap length are in
        let more = length-append t.hand (block ∷ blocks) in
        let next : Ahead U (with_taken t (block ∷ blocks)) (put device m bytes) left = record {
          unbusy = a.unbusy;
          maps = λ f under u. put-other device m bytes (map_at g f) (λ z. apart (subst U (map-map g f e some-blocks z) u)) ∙ a.maps f under u;
          leases = λ f under u. put-other device m bytes (lease f) (lease-map g (extent_lease g f) e (extent-below g f under)) ∙ a.leases f under u;
          hands = λ f under u b is.
              in-appended b t.hand (block ∷ blocks) (not-in b (block ∷ blocks) (λ has. apart (subst U (sym is ∙ within b has) u))) ∙ a.hands f under u b is;
          enough = elim (take-length (count - length t.hand) free_here) [
            | inl all ↦ omega (arith, n, l, all, more)
            | inr whole ↦ omega (arith, n, l, whole, more)
          ];
        } in
        inr (length-map_bytes (with_set (block ∷ blocks) m bits), goes (with_taken t (block ∷ blocks)) (put device m bytes) next, tt, λ reading. tt)

    takes-found : (t : Taking) (device : Device) (found : Option (List Bool)) → read_map g.extent_blocks (start (map_at g e)) ≡ found → Ahead U t device (free_count hand (map_at g e) found + left) →
        ((b : ℕ) → extent_of g b ≡ e → is_in b t.hand ≡ is_in b hand) → Unshort device (take_found s count e until found rest t)
    takes-found t device None is a mine = inl (suits-at-end true s t.known (extent_use g e until ∷ t.uses) (reply.Damaged (record { 0 = map_at g e })) t.known tt)
    takes-found t device (Some bits) is a mine =
        let long : length bits ≡ g.extent_blocks = ap length (map-bits g.extent_blocks (start (map_at g e)) bits is) ∙ length-bits_from g.extent_blocks 0 (start (map_at g e)) in
        let same : free_from t.hand (map_at g e) bits ≡ free_from hand (map_at g e) bits =
        free-same t.hand hand (map_at g e) bits (λ b low' high. mine b (extent-found g e b low' (omega (arith, high, long)))) in
        set-takes t device bits long (subst (λ xs. Ahead U t device (length xs + left)) (sym same) a) (take (count - length t.hand) (free_from t.hand (map_at g e) bits)) refl

    takes-here : (t : Taking) (device : Device) → Ahead U t device (free e + left) → device (map_at g e) ≡ start (map_at g e) →
        ((b : ℕ) → extent_of g b ≡ e → is_in b t.hand ≡ is_in b hand) → Unshort device (take_here s count e until rest t)
    takes-here t device a map mine =
        inr (
          subst (λ bytes. Unshort device (take_found s count e until (read_map g.extent_blocks bytes) rest t)) (sym map)
              (takes-found t device (read_map g.extent_blocks (start (map_at g e))) refl a mine),
          tt,
        )

  -- ---- extents whose leases are held

  abbrev InFirst : ℕ → ℕ → Type 0
  InFirst e f = held f ≡ true → e ≤ f

  abbrev InOthers : ℕ → ℕ → Type 0
  InOthers e f = (held f ≡ false) × (e ≤ f)

  -- how many blocks are free in those that are held, and in the others
  abbrev held-free : (left e : ℕ) → ℕ
  held-free zero e = 0
  held-free (suc left) e = (if held e then free e else 0) + held-free left (e + 1)

  abbrev other-free : (left e : ℕ) → ℕ
  other-free zero e = 0
  other-free (suc left) e = (if held e then 0 else free e) + other-free left (e + 1)

  all-free : (left e : ℕ) → free_blocks g start hand left e ≡ held-free left e + other-free left e
  all-free zero e = refl
  all-free (suc left) e = by-test (held e) (all-free left (e + 1))
    where
      by-test : (t : Bool) → free_blocks g start hand left (e + 1) ≡ held-free left (e + 1) + other-free left (e + 1) →
          free e + free_blocks g start hand left (e + 1) ≡ ((if t then free e else 0) + held-free left (e + 1)) + ((if t then 0 else free e) + other-free left (e + 1))
      by-test true ih = omega (arith, ih)
      by-test false ih = omega (arith, ih)

  -- a hold that is held, or not
  held-is : (e : ℕ) (hold : Hold) → holds (lease e) ≡ hold → held e ≡ is_held hold
  held-is e hold is = ap is_held is

  not-both : {X : Type 0} (t : Bool) → t ≡ true → t ≡ false → X
  not-both t one other = absurd (let e : true ≡ false = sym one ∙ other in let P : ⊥ = cc in P)

  -- past an extent
  past-first : (e : ℕ) (t : Taking) (device : Device) (left left' : ℕ) → count ≤ length t.hand + left' → Ahead (InFirst e) t device left → Ahead (InFirst (e + 1)) t device left'
  past-first e t device left left' enough a = fewer (InFirst e) (InFirst (e + 1)) t device left left' (λ f u is. let later = u is in omega (arith, later)) enough a

  past-other : (e : ℕ) (t : Taking) (device : Device) (left left' : ℕ) → count ≤ length t.hand + left' → Ahead (InOthers e) t device left → Ahead (InOthers (e + 1)) t device left'
  past-other e t device left left' enough a =
      fewer (InOthers e) (InOthers (e + 1)) t device left left' (λ f u. let later = u.1 in (u.0, omega (arith, later))) enough a

  takes-held : (left e : ℕ) → e + left ≡ g.extents → (rest : Taking → Process End) (after : ℕ) → ((t : Taking) (device : Device) → Ahead (InOthers 0) t device after → Unshort device (rest t)) →
      (t : Taking) (device : Device) → Ahead (InFirst e) t device (held-free left e + after) → Unshort device (take_held s count holds left e rest t)
  takes-held zero e all rest after goes t device a = goes t device (fewer (InFirst e) (InOthers 0) t device (0 + after) after (λ f u is. not-both (held f) is u.0) (let n = a.enough in omega (arith, n)) a)
  takes-held (suc left) e all rest after goes t device a =
      if-needed device (take_if_held s count e (holds (lease e)) (take_held s count holds left (e + 1) rest)) (take_held s count holds left (e + 1) rest) t
      (λ enough. takes-held left (e + 1) (omega (arith, all)) rest after goes t device
      (past-first e t device (held-free (suc left) e + after) (held-free left (e + 1) + after) (omega (arith, enough)) a))
      (by-hold (takes-held left (e + 1) (omega (arith, all)) rest after goes) (holds (lease e)) refl)
    where
      skip : ((t : Taking) (device : Device) → Ahead (InFirst (e + 1)) t device (held-free left (e + 1) + after) → Unshort device (take_held s count holds left (e + 1) rest t)) → held e ≡ false →
          Unshort device (take_held s count holds left (e + 1) rest t)
      skip ih none =
          ih t device
          (past-first e t device (held-free (suc left) e + after) (held-free left (e + 1) + after)
          (let n = subst (λ b. count ≤ length t.hand + (((if b then free e else 0) + held-free left (e + 1)) + after)) none a.enough in omega (arith, n)) a)

      by-hold : ((t : Taking) (device : Device) → Ahead (InFirst (e + 1)) t device (held-free left (e + 1) + after) → Unshort device (take_held s count holds left (e + 1) rest t)) → (hold : Hold) → holds (lease e) ≡ hold → Unshort device (take_if_held s count e hold (take_held s count holds left (e + 1) rest) t)
      by-hold ih Nothing is = skip ih (held-is e Nothing is)
      by-hold ih (Seen sample) is = skip ih (held-is e (Seen sample) is)
      by-hold ih (Wrote claim until) is = skip ih (held-is e (Wrote claim until) is)
      by-hold ih (Waited claim until) is = skip ih (held-is e (Waited claim until) is)
      by-hold ih (Held claim until) is =
          let own : held e ≡ true = held-is e (Held claim until) is in
          takes-here (InFirst (e + 1)) e (omega (arith, all)) (λ u. let later = u own in absurd (omega (arith, later))) until (held-free left (e + 1) + after) (take_held s count holds left (e + 1) rest)
          ih t device
          (past-first e t device (held-free (suc left) e + after) (free e + (held-free left (e + 1) + after))
          (let n = subst (λ b. count ≤ length t.hand + (((if b then free e else 0) + held-free left (e + 1)) + after)) own a.enough in omega (arith, n)) a)
          (a.maps e (omega (arith, all)) (λ w. omega arith)) (λ b is'. a.hands e (omega (arith, all)) (λ w. omega arith) b is')

  -- ---- the others

  -- a claim of an extent whose lease isn't held
  module _ (e left : ℕ) (below : e < g.extents) (none : held e ≡ false) (rest : Taking → Process End)
      (goes : (t : Taking) (device : Device) → Ahead (InOthers (e + 1)) t device left → Unshort device (rest t)) where
    gone : (t : Taking) (end : ClaimEnd) → IsGone end → Always (Suits true) (after_extent_claim s count e rest t end)
    gone t (ClaimHeld claim until) is = absurd is
    gone t (ClaimBusy seen) is = absurd is
    gone t (ClaimLost due reading) is = tt
    gone t ClaimReadFault is = tt
    gone t ClaimWriteFault is = tt
    gone t ClaimDamaged is = tt

    got : (t : Taking) (device : Device) → Ahead (InOthers e) t device (free e + left) → (end : ClaimEnd) (now : Device) → IsHeldOn device (extent_lease g e) end now →
        Unshort now (after_extent_claim s count e rest (with_claim_begun t) end)
    got t device a (ClaimHeld claim until) now is =
        let t' = with_claimed (with_claim_begun t) (extent_use g e until) in
        subst (λ d. Unshort d (take_here s count e until rest t')) (sym is.2)
        (takes-here (InOthers (e + 1)) e below (λ u. let later = u.1 in absurd (omega (arith, later))) until left rest goes t' (put device (lease e) is.0)
        (record {
          unbusy = a.unbusy;
          maps = λ f under u. put-other device (lease e) is.0 (map_at g f) (λ z. lease-map g (extent_lease g e) f (extent-below g e below) (sym z)) ∙ a.maps f under (u.0, let later = u.1 in omega (arith, later));
          leases = λ f under u. put-other device (lease e) is.0 (lease f) (λ z. let later = u.1 in omega (arith, z, later)) ∙ a.leases f under (u.0, let later = u.1 in omega (arith, later));
          hands = λ f under u. a.hands f under (u.0, let later = u.1 in omega (arith, later));
          enough = a.enough;
        })
        (put-other device (lease e) is.0 (map_at g e) (λ z. lease-map g (extent_lease g e) e (extent-below g e below) (sym z)) ∙ a.maps e below (none, omega arith))
        (a.hands e below (none, omega arith)))
    got t device a (ClaimBusy seen) now is = absurd is
    got t device a (ClaimLost due reading) now is = inl tt
    got t device a ClaimReadFault now is = inl tt
    got t device a ClaimWriteFault now is = inl tt
    got t device a ClaimDamaged now is = inl tt

    claims : (t : Taking) (device : Device) → Ahead (InOthers e) t device (free e + left) → (may : Bool) → Unshort device (claim_extent may s count e rest t)
    claims t device a false = inl tt
    claims t device a true = elim (clear e below) [
      | inl open' ↦ tracked-followed IsGone (IsHeldOn device (extent_lease g e)) (Suits true) low (after_extent_claim s count e rest (with_claim_begun t)) (gone (with_claim_begun t)) (got t device a) device
          (claim_process s.boot t.uses (extent_lease g e) t.known.claims)
          (claim-gets s.boot t.uses (extent_lease g e) t.known.claims low device open'.0 (ap read_lease (a.leases e below (none, omega arith)) ∙ open'.1) open'.2)
      | inr mine ↦ not-both (held e) (held-is e (Held mine.0 mine.1) mine.2) none
    ]

    if-free : (t : Taking) (device : Device) → (blocks : List ℕ) → Ahead (InOthers e) t device (free e + left) → (length blocks ≡ 0 → free e ≡ 0) → Unshort device (claim_if_free s count e blocks rest t)
    if-free t device [] a same = goes t device (past-other e t device (free e + left) left (let n = a.enough in let f = same refl in omega (arith, n, f)) a)
    if-free t device (block ∷ blocks) a same = claims t device a (nat_lt t.known.claims last_claim)

    other-found : (t : Taking) (device : Device) → Ahead (InOthers e) t device (free e + left) → (found : Option (List Bool)) → read_map g.extent_blocks (start (map_at g e)) ≡ found →
        Unshort device (other_found s count e found rest t)
    other-found t device a None is = inl (suits-at-end true s t.known t.uses (reply.Damaged (record { 0 = map_at g e })) t.known tt)
    other-found t device a (Some bits) is =
        let long : length bits ≡ g.extent_blocks = ap length (map-bits g.extent_blocks (start (map_at g e)) bits is) ∙ length-bits_from g.extent_blocks 0 (start (map_at g e)) in
        let same : free_from t.hand (map_at g e) bits ≡ free_from hand (map_at g e) bits =
        free-same t.hand hand (map_at g e) bits (λ b low' high. a.hands e below (none, omega arith) b (extent-found g e b low' (omega (arith, high, long)))) in
        let counts : free e ≡ length (free_from t.hand (map_at g e) bits) = ap (free_count hand (map_at g e)) is ∙ ap length (sym same) in
        if-free t device (free_from t.hand (map_at g e) bits) a (λ zero'. counts ∙ zero')

    takes-other : (t : Taking) (device : Device) → Ahead (InOthers e) t device (free e + left) → (hold : Hold) → is_held hold ≡ false → Unshort device (take_if_other s count e hold rest t)
    takes-other t device a Nothing is = reads
      where
        reads : Unshort device (take_if_other s count e Nothing rest t)
        reads = inr (
          subst (λ bytes. Unshort device (other_found s count e (read_map g.extent_blocks bytes) rest t)) (sym (a.maps e below (none, omega arith)))
              (other-found t device a (read_map g.extent_blocks (start (map_at g e))) refl),
          tt,
        )
    takes-other t device a (Seen sample) is =
        inr (
          subst (λ bytes. Unshort device (other_found s count e (read_map g.extent_blocks bytes) rest t)) (sym (a.maps e below (none, omega arith)))
              (other-found t device a (read_map g.extent_blocks (start (map_at g e))) refl),
          tt,
        )
    takes-other t device a (Wrote claim until) is =
        inr (
          subst (λ bytes. Unshort device (other_found s count e (read_map g.extent_blocks bytes) rest t)) (sym (a.maps e below (none, omega arith)))
              (other-found t device a (read_map g.extent_blocks (start (map_at g e))) refl),
          tt,
        )
    takes-other t device a (Waited claim until) is =
        inr (
          subst (λ bytes. Unshort device (other_found s count e (read_map g.extent_blocks bytes) rest t)) (sym (a.maps e below (none, omega arith)))
              (other-found t device a (read_map g.extent_blocks (start (map_at g e))) refl),
          tt,
        )
    takes-other t device a (Held claim until) is = absurd (let P : ⊥ = cc in P)

  takes-others : (left e : ℕ) → e + left ≡ g.extents → (rest : Taking → Process End) → ((t : Taking) (device : Device) → Ahead (InOthers g.extents) t device 0 → Unshort device (rest t)) →
      (t : Taking) (device : Device) → Ahead (InOthers e) t device (other-free left e) → Unshort device (take_others s count holds left e rest t)
  takes-others zero e all rest goes t device a =
      goes t device (fewer (InOthers e) (InOthers g.extents) t device 0 0 (λ f u. let later = u.1 in (u.0, omega (arith, later, all))) a.enough a)
  takes-others (suc left) e all rest goes t device a =
      if-needed device (take_if_other s count e (holds (lease e)) (take_others s count holds left (e + 1) rest)) (take_others s count holds left (e + 1) rest) t
      (λ enough. takes-others left (e + 1) (omega (arith, all)) rest goes t device (past-other e t device (other-free (suc left) e) (other-free left (e + 1)) (omega (arith, enough)) a))
      (by-hold (takes-others left (e + 1) (omega (arith, all)) rest goes) (holds (lease e)) refl)
    where
      other : ((t : Taking) (device : Device) → Ahead (InOthers (e + 1)) t device (other-free left (e + 1)) → Unshort device (take_others s count holds left (e + 1) rest t)) → held e ≡ false → Unshort device (take_if_other s count e (holds (lease e)) (take_others s count holds left (e + 1) rest) t)
      other ih none =
          takes-other e (other-free left (e + 1)) (omega (arith, all)) none (take_others s count holds left (e + 1) rest) ih t device
          (fewer (InOthers e) (InOthers e) t device (other-free (suc left) e) (free e + other-free left (e + 1)) (λ f u. u)
          (subst (λ b. count ≤ length t.hand + ((if b then 0 else free e) + other-free left (e + 1))) none a.enough) a)
          (holds (lease e)) none

      by-hold : ((t : Taking) (device : Device) → Ahead (InOthers (e + 1)) t device (other-free left (e + 1)) → Unshort device (take_others s count holds left (e + 1) rest t)) → (hold : Hold) → holds (lease e) ≡ hold → Unshort device (take_if_other s count e hold (take_others s count holds left (e + 1) rest) t)
      by-hold ih Nothing is = subst (λ h. Unshort device (take_if_other s count e h (take_others s count holds left (e + 1) rest) t)) is (other ih (held-is e Nothing is))
      by-hold ih (Seen sample) is = subst (λ h. Unshort device (take_if_other s count e h (take_others s count holds left (e + 1) rest) t)) is (other ih (held-is e (Seen sample) is))
      by-hold ih (Wrote claim until) is = subst (λ h. Unshort device (take_if_other s count e h (take_others s count holds left (e + 1) rest) t)) is (other ih (held-is e (Wrote claim until) is))
      by-hold ih (Waited claim until) is = subst (λ h. Unshort device (take_if_other s count e h (take_others s count holds left (e + 1) rest) t)) is (other ih (held-is e (Waited claim until) is))
      by-hold ih (Held claim until) is =
          let own : held e ≡ true = held-is e (Held claim until) is in
          ih t device
          (past-other e t device (other-free (suc left) e) (other-free left (e + 1))
          (let n = subst (λ b. count ≤ length t.hand + ((if b then 0 else free e) + other-free left (e + 1))) own a.enough in omega (arith, n)) a)

  -- a reserve
  pub reserves : (known : Known) → count ≤ length hand + free_blocks g start hand g.extents 0 → Unshort start (reserve_process s known holds hand count)
  reserves known room =
      let over : Taking → Process End = λ t. ends reply.Reserved t.known in
      takes-held g.extents 0 (omega arith) (take_others s count holds g.extents 0 (taken_process s count over)) (other-free g.extents 0)
      (takes-others g.extents 0 (omega arith) (taken_process s count over)
      (λ t device a. subst (λ b. Unshort device (if b then over t else shortage_process s t.known t.busy)) (sym (nat_le-true count (length t.hand) (let n = a.enough in omega (arith, n)))) (inl tt)))
      (first_taking [] known hand) start
      (record {
        unbusy = refl;
        maps = λ f below u. refl;
        leases = λ f below u. refl;
        hands = λ f below u b is. refl;
        enough = (let all = all-free g.extents 0 in omega (arith, room, all));
      })
