-- Takes keep the rules.
use Rattle.std.proofs.Common.{◌≡◌, ℕ, zero, suc, ◌+◌, ◌*◌, ◌≤◌, ◌<◌, ◌^◌, List, [], ◌∷◌, ◌++◌, length, Bool, true, false, Option, Some, None, refl, ap, sym, subst, ◌∙◌, arith, inl, inr, ◌⊎◌}
use Rattle.std.specs.Prelude.{nat_lt}
use Rattle.std.proofs.lemmas.Bool.Decides.{leb_tells}
use Rattle.plx_base.specs.declared.lease.LeaseName.{LeaseName}
use Rattle.plx_base.specs.declared.lease.LeaseName.TheVariants as lease
use Rattle.plx_base.specs.declared.lease.LeaseRecord.{LeaseRecord}
use Rattle.plx_commands.specs.Limits.{last_claim}
use Rattle.plx_commands.specs.declared.reply.Reply.TheVariants as reply
use Rattle.plx_disk.specs.declared.ask.Ask.{Ask}
use Rattle.plx_extent.specs.Maps.{bits_of}
use Rattle.plx_geom.proofs.Places.{extent-below}
use Rattle.plx_geom.specs.Geometry.{Geometry, IsGeometry, extent_lease, lease_at, map_at}
use Rattle.plx_rules.specs.Ends.{End, ends}
use Rattle.plx_rules.specs.Hands.{is_held}
use Rattle.plx_rules.specs.Holds.{Hold, Nothing, Seen, Wrote, Waited, Held}
use Rattle.plx_rules.specs.InUse.{InUse, lease_name}
use Rattle.plx_rules.specs.Process.{Process, Ends, standing}
use Rattle.plx_rules.specs.Session.{Known}
use Rattle.plx_rules.specs.Settings.{Setting}
use Rattle.plx_rules.specs.Space.{Taking, first_taking, read_map, free_from, take_if_held, take_held, claim_extent, claim_if_free, other_found, take_if_other, take_others, shortage_process, taken_process, take_process}
use Rattle.law_lease.proofs.LawfulCommands.{IsRest}
use Rattle.law_run.specs.Bounds.{one_held}
use Rattle.law_run.specs.Busy.{FirstBusy}
use Rattle.law_run.specs.AllowedAsks.{MayAsk}
use Rattle.law_run.specs.CommandLogs.{Exchange, CommandLog, with_exchanges}
use Rattle.law_run.specs.Holdings.{holds_along, holds_after}
use Rattle.law_run.specs.KnownBytes.{nothing_given, given_after_exchanges}
use Rattle.law_run.specs.Machines.{with_work}
use Rattle.law_run.specs.Rules.{IsSetting}
use Rattle.law_run.specs.Sessions.{is_attached}
use Rattle.law_run.specs.Space.{HasFailed}
use Rattle.law_run.specs.Takes as takes
use Rattle.law_run.specs.Takes.{IsAtRest, IsOfExtents, MayBeginTake, HasEnough, ShowsTake, take_bound, take_work, TakesKeepRules, IsTakeAsk, IsTakeEnd}
use Rattle.law_run.proofs.ClaimRules.{begun-first}
use Rattle.law_run.proofs.FreeBlocks.{map-bits}
use Rattle.law_run.proofs.Grown.{with-block-same}
use Rattle.law_run.proofs.Machines.{MeetsWork, meets-keeps}
use Rattle.law_run.proofs.Meets.{meets-within}
use Rattle.law_run.proofs.OnExtent.{extent-name, bad-map}
use Rattle.law_run.specs.Uses as uses
use Rattle.law_run.proofs.Right.{read_of}
use Rattle.law_run.proofs.Runs.{HasFirst}
use Rattle.law_run.proofs.TakeClaims.{right-claim}
use Rattle.law_run.proofs.Taking.{WorkRules, BusyIs, HasTaken, with-maps, with-tried, map-taken, clock-taken, Keeping, known-by-log, refuses-taken, MeetsTaking, more, right-here, right-damaged, read-failed, extended}
use Rattle.law_run.proofs.TakeFollows.{Calm, map-goes-on}
use Rattle.plx_base.proofs.Tests.{clash, lt-cases}

-- how many answers are needed for an extent whose lease is held, and for another one
abbrev held_need : Hold → ℕ → ℕ
held_need Nothing n = n
held_need (Seen sample) n = n
held_need (Wrote claim until) n = n
held_need (Waited claim until) n = n
held_need (Held claim until) n = suc (suc n)

abbrev other_need : Hold → ℕ → ℕ
other_need Nothing n = suc (suc (suc (suc (suc (suc (suc (suc n)))))))
other_need (Seen sample) n = suc (suc (suc (suc (suc (suc (suc (suc n)))))))
other_need (Wrote claim until) n = suc (suc (suc (suc (suc (suc (suc (suc n)))))))
other_need (Waited claim until) n = suc (suc (suc (suc (suc (suc (suc (suc n)))))))
other_need (Held claim until) n = n

abbrev held_asks : Geometry → (ℕ → Hold) → (left extent n : ℕ) → ℕ
held_asks g holds zero extent n = n
held_asks g holds (suc left) extent n = held_need (holds (lease_at (extent_lease g extent))) (held_asks g holds left (extent + 1) n)

abbrev other_asks : Geometry → (ℕ → Hold) → (left extent n : ℕ) → ℕ
other_asks g holds zero extent n = n
other_asks g holds (suc left) extent n = other_need (holds (lease_at (extent_lease g extent))) (other_asks g holds left (extent + 1) n)

-- how many of the extents are held
abbrev held_extents : Geometry → (ℕ → Hold) → (left extent : ℕ) → ℕ
held_extents g holds zero extent = 0
held_extents g holds (suc left) extent = one_held (holds (lease_at (extent_lease g extent))) + held_extents g holds left (extent + 1)

held-need : (hold : Hold) (n : ℕ) → held_need hold n ≡ 2 * one_held hold + n
held-need Nothing n = omega arith
held-need (Seen sample) n = omega arith
held-need (Wrote claim until) n = omega arith
held-need (Waited claim until) n = omega arith
held-need (Held claim until) n = omega arith

other-need : (hold : Hold) (n : ℕ) → other_need hold n + 8 * one_held hold ≡ 8 + n
other-need Nothing n = omega arith
other-need (Seen sample) n = omega arith
other-need (Wrote claim until) n = omega arith
other-need (Waited claim until) n = omega arith
other-need (Held claim until) n = omega arith

held-asks : (g : Geometry) (holds : ℕ → Hold) (left extent n : ℕ) → held_asks g holds left extent n ≡ 2 * held_extents g holds left extent + n
held-asks g holds zero extent n = omega arith
held-asks g holds (suc left) extent n =
    let a = held-need (holds (lease_at (extent_lease g extent))) (held_asks g holds left (extent + 1) n) in let b = held-asks g holds left (extent + 1) n in omega arith

other-asks : (g : Geometry) (holds : ℕ → Hold) (left extent n : ℕ) → other_asks g holds left extent n + 8 * held_extents g holds left extent ≡ 8 * left + n
other-asks g holds zero extent n = omega arith
other-asks g holds (suc left) extent n =
    let a = other-need (holds (lease_at (extent_lease g extent))) (other_asks g holds left (extent + 1) n) in let b = other-asks g holds left (extent + 1) n in omega arith

-- a lease of which no claim goes on
pub at-rest : (hold : Hold) → IsRest hold → IsAtRest hold
at-rest Nothing rests = inl refl
at-rest (Held claim until) rests = inr (claim, until, refl)
at-rest (Seen sample) rests = absurd rests
at-rest (Wrote claim until) rests = absurd rests
at-rest (Waited claim until) rests = absurd rests

rests-so : (hold : Hold) → IsAtRest hold → IsRest hold
rests-so hold (inl none) = subst IsRest (sym none) tt
rests-so hold (inr held) = subst IsRest (sym held.2) tt

-- work has exchanges where those before it are some
first-own : (done own : List Exchange) → HasFirst done → (x : Exchange) × (older : List Exchange) × (own ++ done ≡ x ∷ older)
first-own [] [] has = absurd has
first-own (x ∷ older) [] has = (x, older, refl)
first-own done (x ∷ own) has = (x, own ++ done, refl)

module _ (s : Setting) (geometry : IsGeometry s.geometry) (small : s.boot < 2 ^ 128) (first : CommandLog) (holds : ℕ → Hold) (known : Known) (count : ℕ) (work : WorkRules s first known count) where
  abbrev TakenSo : (M : ℕ → Type 0) → (tried : ℕ) → List Exchange → Taking → Type 0
  TakenSo M tried done t = HasTaken s geometry first holds known count work M tried done t

  abbrev GoesSo : (M : ℕ → Type 0) → (tried : ℕ) → (Taking → Process End) → (n : ℕ) → Type 0
  GoesSo M tried rest n = MeetsTaking s geometry first holds known count work M tried rest n

  abbrev RightSo : List Exchange → Process End → ℕ → Type 0
  RightSo done process n = Keeping s geometry first holds known count work done process n

  -- ---- the extents whose leases are held

  -- what was held of an extent's lease as the take began
  abbrev first_hold : ℕ → Hold
  first_hold e = holds (lease_at (extent_lease s.geometry e))

  -- the extents before one whose leases were held; and those before one, with all whose leases were
  abbrev HeldBefore : (last e : ℕ) → Type 0
  HeldBefore last e = (e < last) × (is_held (first_hold e) ≡ true)

  abbrev PassedBefore : (last e : ℕ) → Type 0
  PassedBefore last e = ((e < s.geometry.extents) × (is_held (first_hold e) ≡ true)) ⊎ (e < last)

  lift-held : (hold : Hold) (n : ℕ) (process : Process End) (done : List Exchange) → RightSo done process n → RightSo done process (held_need hold n)
  lift-held Nothing n process done right = right
  lift-held (Seen sample) n process done right = right
  lift-held (Wrote claim until) n process done right = right
  lift-held (Waited claim until) n process done right = right
  lift-held (Held claim until) n process done right = more s geometry first holds known count work (suc n) process done (more s geometry first holds known count work n process done right)

  lift-seven : (n : ℕ) (process : Process End) (done : List Exchange) → RightSo done process n → RightSo done process (suc (suc (suc (suc (suc (suc (suc n)))))))
  lift-seven n process done right =
      let up : (k : ℕ) → RightSo done process k → RightSo done process (suc k) = λ k right'. more s geometry first holds known count work k process done right' in
      up (suc (suc (suc (suc (suc (suc n)))))) (up (suc (suc (suc (suc (suc n))))) (up (suc (suc (suc (suc n)))) (up (suc (suc (suc n))) (up (suc (suc n)) (up (suc n) (up n right))))))

  lift-other : (hold : Hold) (n : ℕ) (process : Process End) (done : List Exchange) → RightSo done process n → RightSo done process (other_need hold n)
  lift-other Nothing n process done right = more s geometry first holds known count work _ process done (lift-seven n process done right)
  lift-other (Seen sample) n process done right = more s geometry first holds known count work _ process done (lift-seven n process done right)
  lift-other (Wrote claim until) n process done right = more s geometry first holds known count work _ process done (lift-seven n process done right)
  lift-other (Waited claim until) n process done right = more s geometry first holds known count work _ process done (lift-seven n process done right)
  lift-other (Held claim until) n process done right = right

  -- where enough are in hand no map matters
  enough-maps : (M M' : ℕ → Type 0) (tried : ℕ) (done : List Exchange) (t : Taking) → TakenSo M tried done t → count ≤ length t.hand → TakenSo M' tried done t
  enough-maps M M' tried done t r enough = with-maps s geometry first holds known count work M M' tried done t r (λ few e m. absurd (omega (arith, few, enough)))

  one-held : (e n : ℕ) (rest : Taking → Process End) → e < s.geometry.extents → GoesSo (HeldBefore (e + 1)) 0 rest n → (t : Taking) (done : List Exchange) → TakenSo (HeldBefore e) 0 done t → Calm s first done → length t.hand < count →
      RightSo done (take_if_held s count e (first_hold e) rest t) (held_need (first_hold e) n)
  one-held e n rest below goes t done r calm few = by-hold (first_hold e) refl
    where
      split : (other : ℕ) → HeldBefore (e + 1) other → HeldBefore e other ⊎ (other ≡ e)
      split other m = elim (leb_tells (suc other) e) [ inl less ↦ inl (less.1, m.1) | inr least ↦ inr (omega (arith, m.0, least.1)) ]

      unheld : is_held (first_hold e) ≡ false → RightSo done (rest t) n
      unheld none =
          goes t done (with-maps s geometry first holds known count work (HeldBefore e) (HeldBefore (e + 1)) 0 done t r (λ few' other m. elim (split other m) [
            | inl old ↦ r.maps few' other old
            | inr same ↦ absurd (clash (is_held (first_hold e)) (subst (λ k. is_held (first_hold k) ≡ true) same m.1) none)
          ])) calm

      by-hold : (hold : Hold) → first_hold e ≡ hold → RightSo done (take_if_held s count e hold rest t) (held_need hold n)
      by-hold (Held claim until) is =
          right-here s geometry first holds known count work (HeldBefore e) (HeldBefore (e + 1)) 0 e until n claim rest t done below (λ m. omega (arith, m.0)) split few r calm
          (r.later e (omega arith) below ∙ is) goes
      by-hold Nothing is = unheld (ap is_held is)
      by-hold (Seen sample) is = unheld (ap is_held is)
      by-hold (Wrote c u) is = unheld (ap is_held is)
      by-hold (Waited c u) is = unheld (ap is_held is)

  holds-pass : (left e m : ℕ) (rest : Taking → Process End) → left + e ≡ s.geometry.extents → GoesSo (HeldBefore s.geometry.extents) 0 rest m →
      GoesSo (HeldBefore e) 0 (take_held s count holds left e rest) (held_asks s.geometry holds left e m)
  holds-pass zero e m rest all goes t done r calm = goes t done (subst (λ n. TakenSo (HeldBefore n) 0 done t) (let same : e ≡ s.geometry.extents = omega arith in same) r) calm
  holds-pass (suc left) e m rest all goes t done r calm =
      let next = holds-pass left (e + 1) m rest (omega arith) goes in
      elim (leb_tells count (length t.hand)) [
        | inl enough ↦ rw enough.0 (lift-held (first_hold e) _ _ done (next t done (enough-maps (HeldBefore e) (HeldBefore (e + 1)) 0 done t r enough.1) calm))
        | inr few ↦ rw few.0 (one-held e (held_asks s.geometry holds left (e + 1) m) (take_held s count holds left (e + 1) rest) (omega arith) next t done r calm (omega (arith, few.1)))
      ]

  -- ---- the others

  one-other : (e n : ℕ) (rest : Taking → Process End) → e < s.geometry.extents → GoesSo (PassedBefore (e + 1)) (e + 1) rest n → (t : Taking) (done : List Exchange) → TakenSo (PassedBefore e) e done t → Calm s first done →
      length t.hand < count → RightSo done (take_if_other s count e (first_hold e) rest t) (other_need (first_hold e) n)
  one-other e n rest below goes t done r calm few = by-hold (first_hold e) refl
    where
      place : ℕ
      place = map_at s.geometry e

      split : (other : ℕ) → PassedBefore (e + 1) other → PassedBefore e other ⊎ (other ≡ e)
      split other (inl held) = inl (inl held)
      split other (inr less) = elim (leb_tells (suc other) e) [ inl lower ↦ inl (inr lower.1) | inr least ↦ inr (omega (arith, less, least.1)) ]

      resting : (hold : Hold) → first_hold e ≡ hold → IsRest hold
      resting hold is = subst IsRest (r.later e (omega arith) below ∙ is) (r.at_rest (extent_lease s.geometry e) (extent-below s.geometry e below))

      by-claims : (bytes : List ℕ) (bits : List Bool) (block : ℕ) (blocks : List ℕ) → read_map s.geometry.extent_blocks bytes ≡ Some bits → free_from t.hand place bits ≡ block ∷ blocks → first_hold e ≡ Nothing →
          ¬ PassedBefore e e → RightSo (read_of place bytes ∷ done) (claim_extent (nat_lt t.known.claims last_claim) s count e rest t) (suc (suc (suc (suc (suc (suc (suc n)))))))
      by-claims bytes bits block blocks is free nothing new =
          let r1 = map-taken s geometry first holds known count work (PassedBefore e) e done t e bytes new r in
          let hold = r1.later e (omega arith) below ∙ nothing in
          elim (lt-cases t.known.claims last_claim) [
            | inl left ↦ rw left.0 (right-claim s geometry small first holds known count work (PassedBefore e) done t e bytes bits below left.1 r1 is hold (PassedBefore (e + 1)) new split few rest n goes)
            | inr worn ↦ rw worn.0 (
                refuses-taken s geometry first holds known count work (PassedBefore e) e (read_of place bytes ∷ done) t (reply.WornOut last_claim) (suc (suc (suc (suc (suc (suc (suc n))))))) r1 (takes.worn_out last_claim (record {
                  is = refl;
                  begun = (let c = r1.claims in omega (arith, worn.1));
                  few = (let h = ap (λ (l : List ℕ). length l) r1.hand in omega (arith, few, h));
                  extent = e;
                  unheld = ap is_held hold;
                  bytes = bytes;
                  read = (done, refl);
                  free = λ none. (
                      let q : block ∷ blocks ≡ [] = sym free ∙ ((λ i. free_from (sym r1.hand i) place (map-bits s.geometry.extent_blocks bytes bits is i)) ∙ none) in
                      let P : ⊥ = cc in P);
                })))
          ]

      by-free : (bytes : List ℕ) (bits : List Bool) (free : List ℕ) → read_map s.geometry.extent_blocks bytes ≡ Some bits → free_from t.hand place bits ≡ free → first_hold e ≡ Nothing →
          ¬ PassedBefore e e → RightSo (read_of place bytes ∷ done) (claim_if_free s count e free rest t) (suc (suc (suc (suc (suc (suc (suc n)))))))
      by-free bytes bits (block ∷ blocks) is free nothing new = by-claims bytes bits block blocks is free nothing new
      by-free bytes bits [] is none nothing new =
          let r1 = map-taken s geometry first holds known count work (PassedBefore e) e done t e bytes new r in
          let done1 = read_of place bytes ∷ done in
          lift-seven n (rest t) done1 (goes t done1
          (with-tried s geometry first holds known count work (PassedBefore (e + 1)) e (e + 1) done1 t (omega arith)
          (extended s geometry first holds known count work (PassedBefore e) (PassedBefore (e + 1)) e done1 t e r1 split (λ few'. (
            (bytes, inl refl),
            λ unbusy. (bytes, with-block-same (given_after_exchanges done nothing_given) place bytes, ap (free_from t.hand place) (sym (map-bits s.geometry.extent_blocks bytes bits is)) ∙ none),
          )))) (map-goes-on s first done e bytes (λ none'. (let q = sym is ∙ none' in let P : ⊥ = cc in P))))

      by-map : (bytes : List ℕ) (found : Option (List Bool)) → read_map s.geometry.extent_blocks bytes ≡ found → first_hold e ≡ Nothing → ¬ PassedBefore e e →
          RightSo (read_of place bytes ∷ done) (other_found s count e found rest t) (suc (suc (suc (suc (suc (suc (suc n)))))))
      by-map bytes (Some bits) is nothing new = by-free bytes bits (free_from t.hand place bits) is refl nothing new
      by-map bytes None is nothing new =
          let r1 = map-taken s geometry first holds known count work (PassedBefore e) e done t e bytes new r in
          right-damaged s geometry first holds known count work (PassedBefore e) e done t e (suc (suc (suc (suc (suc (suc n)))))) bytes t.uses r1 is
          (λ last one there. uses.used ((clock-taken s geometry first holds known count work (PassedBefore e) e (read_of place bytes ∷ done) t last (bad-map s.geometry place bytes is) r1).used.sound one there))
          (λ one there. there)
          (λ last claim until held. absurd (
          let r2 = clock-taken s geometry first holds known count work (PassedBefore e) e (read_of place bytes ∷ done) t last (bad-map s.geometry place bytes is) r1 in
          let q : Nothing ≡ Held claim until = sym (r2.later e (omega arith) below ∙ nothing) ∙ held in
          let P : ⊥ = cc in P))

      by-hold : (hold : Hold) → first_hold e ≡ hold → RightSo done (take_if_other s count e hold rest t) (other_need hold n)
      by-hold (Held claim until) is =
          goes t done (with-tried s geometry first holds known count work (PassedBefore (e + 1)) e (e + 1) done t (omega arith)
          (with-maps s geometry first holds known count work (PassedBefore e) (PassedBefore (e + 1)) e done t r (λ few' other m. elim (split other m) [
            | inl old ↦ r.maps few' other old
            | inr same ↦ r.maps few' other (inl (omega (arith, same, below), ap (λ k. is_held (first_hold k)) same ∙ ap is_held is))
          ]))) calm
      by-hold Nothing is = (
        work.may done _ _ (r.went, tt) (e, below, inl refl) (calm _),
        λ bytes long. by-map bytes (read_map s.geometry.extent_blocks bytes) refl is (new is),
        read-failed s geometry first holds known count work (PassedBefore e) e done t e (suc (suc (suc (suc (suc (suc (suc n))))))) r,
      )
        where
          new : first_hold e ≡ Nothing → ¬ PassedBefore e e
          new nothing (inl held) = clash (is_held (first_hold e)) held.1 (ap is_held nothing)
          new nothing (inr less) = omega (arith, less)
      by-hold (Seen sample) is = absurd (resting (Seen sample) is)
      by-hold (Wrote c u) is = absurd (resting (Wrote c u) is)
      by-hold (Waited c u) is = absurd (resting (Waited c u) is)

  others-pass : (left e m : ℕ) (rest : Taking → Process End) → left + e ≡ s.geometry.extents → GoesSo (PassedBefore s.geometry.extents) s.geometry.extents rest m →
      GoesSo (PassedBefore e) e (take_others s count holds left e rest) (other_asks s.geometry holds left e m)
  others-pass zero e m rest all goes t done r calm = goes t done (subst (λ n. TakenSo (PassedBefore n) n done t) (let same : e ≡ s.geometry.extents = omega arith in same) r) calm
  others-pass (suc left) e m rest all goes t done r calm =
      let next = others-pass left (e + 1) m rest (omega arith) goes in
      elim (leb_tells count (length t.hand)) [
        | inl enough ↦ rw enough.0 (lift-other (first_hold e) _ _ done (next t done
            (with-tried s geometry first holds known count work (PassedBefore (e + 1)) e (e + 1) done t (omega arith) (enough-maps (PassedBefore e) (PassedBefore (e + 1)) e done t r enough.1)) calm))
        | inr few ↦ rw few.0 (one-other e (other_asks s.geometry holds left (e + 1) m) (take_others s count holds left (e + 1) rest) (omega arith) next t done r calm (omega (arith, few.1)))
      ]

  -- ---- the end

  -- what follows once enough blocks are in hand
  abbrev Follows : (Taking → Process End) → (n : ℕ) → Type 0
  Follows rest n = (t : Taking) (own : List Exchange) → HasEnough s first (with_work first own) known count t → RightSo own (rest t) n

  right-end : (rest : Taking → Process End) (n : ℕ) → Follows rest n → GoesSo (PassedBefore s.geometry.extents) s.geometry.extents (taken_process s count rest) n
  right-end rest n follows t done r calm = elim (leb_tells count (length t.hand)) [
    | inl enough ↦ rw enough.0 (follows t done (record {
      told = record {
        knows = known-by-log s geometry first holds known count work done t.known r.sessions r.claims;
        hand = r.hand;
        within = r.within;
        uses = r.used;
        at_rest = λ l below. at-rest _ (r.at_rest l below);
        went = r.went;
      };
      enough = enough.1;
      others = r.others;
    }))
    | inr few ↦ rw few.0 (by-busy (omega (arith, few.1)) t.busy refl r.busy)
  ]
    where
      failed : length t.hand < count → HasFailed s (with_work first done) done count
      failed few = record { few = (let h = ap (λ (l : List ℕ). length l) r.hand in omega (arith, few, h)); read = λ e below. (r.maps few e (inr below)).0 }

      by-busy : length t.hand < count → (b : Option (ℕ × LeaseRecord)) → t.busy ≡ b → BusyIs s geometry first holds known count work b done → RightSo done (shortage_process s t.known b) n
      by-busy few None is none =
          refuses-taken s geometry first holds known count work (PassedBefore s.geometry.extents) s.geometry.extents done t reply.Full n r (takes.full (record {
            failed = failed few;
            unbusy = none;
            full = λ e below. (let f = (r.maps few e (inr below)).1 is in (f.0, f.1, ap (λ (h : List ℕ). free_from h (map_at s.geometry e) (bits_of s.geometry.extent_blocks f.0)) r.hand ∙ f.2));
          }))
      by-busy few (Some met) is first_met =
          subst (λ (name : LeaseName). RightSo done (ends (reply.Busy name met.1) t.known) n) (sym (ap (lease_name s.geometry) first_met.2 ∙ extent-name s.geometry first_met.0))
          (refuses-taken s geometry first holds known count work (PassedBefore s.geometry.extents) s.geometry.extents done t (reply.Busy (lease.Extent (record { 0 = first_met.0 })) met.1) n r
          (takes.busy (record { 0 = first_met.0 }) met.1
          (record { failed = failed few; first = subst (λ l. FirstBusy s (with_work first done) l met.1 done) first_met.2 first_met.3 })))

  -- ---- the whole take

  module _ (uses' : List InUse) (hand : List ℕ) (begins : MayBeginTake s first holds uses' known hand) where
    begins-taken : TakenSo (HeldBefore 0) 0 [] (first_taking uses' known hand)
    begins-taken = record {
      has = begun-first first.exchanges begins.others begins.first begins.begun;
      went = begins.went;
      claims = begins.counted;
      sessions = λ image. refl;
      at_rest = λ l below. rests-so _ (begins.at_rest l below);
      others = λ l below apart. refl;
      hand = begins.in_hand;
      within = begins.within;
      used = begins.used;
      busy = tt;
      later = λ e past below. sym (begins.extents e below);
      maps = λ few e m. absurd (omega (arith, m.0));
    }

    abbrev needed : ℕ → ℕ
    needed n = held_asks s.geometry holds s.geometry.extents 0 (other_asks s.geometry holds s.geometry.extents 0 n)

    within-bound : (n : ℕ) → needed n ≤ take_bound s.geometry + n
    within-bound n =
        let a = held-asks s.geometry holds s.geometry.extents 0 (other_asks s.geometry holds s.geometry.extents 0 n) in
        let b = other-asks s.geometry holds s.geometry.extents 0 n in
        omega arith

    -- a take, from its start on, and what follows it
    pub take-meets : (rest : Taking → Process End) (n : ℕ) → Follows rest n → RightSo [] (take_process s holds count rest (first_taking uses' known hand)) (take_bound s.geometry + n)
    take-meets rest n follows =
        meets-within work.May work.Shows (take_process s holds count rest (first_taking uses' known hand)) first.exchanges (needed n) (take_bound s.geometry + n) (within-bound n)
        (holds-pass s.geometry.extents 0 (other_asks s.geometry holds s.geometry.extents 0 n) _ (omega arith)
        (λ t done r calm. others-pass s.geometry.extents 0 n _ (omega arith) (right-end rest n follows) t done
        (with-maps s geometry first holds known count work (HeldBefore s.geometry.extents) (PassedBefore 0) 0 done t r (λ few e m. elim m [
          | inl held ↦ r.maps few e held
          | inr less ↦ absurd (omega (arith, less))
        ])) calm)
        (first_taking uses' known hand) [] begins-taken (λ a. tt))

-- the leases as they are held by a log
abbrev pub holds_by_log : Setting → CommandLog → ℕ → Hold
holds_by_log s log = holds_along s.geometry (is_attached log.before) (holds_after s.geometry log.before) log.exchanges

-- where a take has brought enough blocks in hand, another may begin
pub takes-again : (s : Setting) (first : CommandLog) (own : List Exchange) (known : Known) (count : ℕ) (t : Taking) → HasFirst first.exchanges →
    HasEnough s first (with_work first own) known count t → MayBeginTake s (with_work first own) (holds_by_log s (with_work first own)) t.uses t.known t.hand
takes-again s first own known count t has enough =
    let begun = first-own first.exchanges own has in
    let told = enough.told in
    record {
      used = told.uses;
      extents = λ e below. refl;
      at_rest = told.at_rest;
      in_hand = told.hand;
      within = told.within;
      counted = ap (λ (k : Known). k.claims) told.knows;
      first = begun.0;
      others = begun.1;
      begun = begun.2;
      went = told.went;
    }

-- a take that is work by itself
pub take-work-meets : (s : Setting) → IsSetting s → (log : CommandLog) (holds : ℕ → Hold) (count : ℕ) (follows : Taking → End) (uses' : List InUse) (known : Known) (hand : List ℕ) → MayBeginTake s log holds uses' known hand →
    MeetsWork s log (IsOfExtents s.geometry) (ShowsTake s log known count follows) log.exchanges (take_work s holds count follows uses' known hand) (take_bound s.geometry)
take-work-meets s is log holds count follows uses' known hand begins =
    subst (λ n. MeetsWork s log (IsOfExtents s.geometry) (ShowsTake s log known count follows) log.exchanges (take_work s holds count follows uses' known hand) n)
    (let none : take_bound s.geometry + 0 ≡ take_bound s.geometry = omega arith in none)
    (take-meets s is.geometry is.boot log holds known count (record {
      May = λ done a bytes. MayAsk s (with_exchanges log done) a bytes × IsOfExtents s.geometry a;
      Shows = λ done end. ShowsTake s log known count follows (with_exchanges log done) end;
      may = λ own a bytes allowed place calm. (allowed, place);
      fails = λ own end why. (own, refl, takes.failed why);
    }) uses' hand begins (λ t. Ends (follows t)) 0 (λ t own enough. (own, refl, takes.taken t enough)))

pub takes-keep-rules : TakesKeepRules
takes-keep-rules s log holds count follows uses' known hand is begins =
    meets-keeps s log (IsOfExtents s.geometry) (ShowsTake s log known count follows) (take_work s holds count follows uses' known hand) (take_bound s.geometry)
    (take-work-meets s is log holds count follows uses' known hand begins)

-- so does each take by where it stands
pub take-ask : (rest : Process End) (ask : Ask) → Some ask ≡ standing rest → IsTakeAsk rest ask
take-ask rest ask stands s log holds count follows uses' known hand own is begins leads = (takes-keep-rules s log holds count follows uses' known hand is begins).asks leads ask (sym stands)

pub take-end : (rest : Process End) (end : End) → rest ≡ Ends end → IsTakeEnd rest end
take-end rest end over s log holds count follows uses' known hand own is begins leads = (takes-keep-rules s log holds count follows uses' known hand is begins).ends leads end over
