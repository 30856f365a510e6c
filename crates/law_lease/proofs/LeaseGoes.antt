-- What holds of a lease stays where an ask is answered.
use Rattle.std.proofs.Common.{◌≡◌, ℕ, suc, ◌+◌, ◌^◌, ◌≤◌, ◌<◌, ◌⊎◌, inl, inr, List, Bool, true, false, Option, Some, None, refl, ap, sym, subst, ◌∙◌, arith}
use Rattle.std.specs.Prelude.{slice_get, ◌==◌, ◌&&◌, if◌then◌else◌, nat_le, nat_lt}
use Rattle.std.specs.Str.{bytes_eq}
use Rattle.std.proofs.lemmas.Bool.Decides.{eqb_tells, leb_tells}
use Rattle.std.proofs.lemmas.Slice.Eq.{bytes_eq-Decides}
use Rattle.plx_base.specs.Sectors.{Device}
use Rattle.plx_base.specs.declared.lease.Claim.{Claim}
use Rattle.plx_base.specs.declared.lease.LeaseRecord.{LeaseRecord}
use Rattle.plx_base.specs.declared.lease.LeaseRecord.TheVariants.{Free, Claimed}
use Rattle.plx_base.specs.declared.write_kind.WriteKind.{WriteKind}
use Rattle.plx_base.specs.declared.write_kind.WriteKind.TheVariants as kind
use Rattle.plx_disk.specs.Writes.{Issued, all_sectors}
use Rattle.plx_commands.specs.Places.{at}
use Rattle.plx_commands.proofs.Places.{at-all, at-same, at-other}
use Rattle.plx_rules.specs.Process.{Process, Ends, ReadThen, WriteThen, ClockThen, UntilThen}
use Rattle.plx_rules.specs.Session.{Session}
use Rattle.plx_rules.specs.Boot.{BootEntry, Configuration, configuration, after_process}
use Rattle.plx_rules.specs.Claims.{claim_of}
use Rattle.plx_rules.specs.Ends.{End}
use Rattle.plx_rules.specs.Holds.{Hold, Nothing, Seen, Wrote, Waited, Held}
use Rattle.plx_geom.specs.Geometry.{Geometry, lease_at}
use Rattle.plx_rules.specs.Holds.{after_write, holds_after_reply, first_hold, hold_after_reading, hold_after_read, seen_for, seen_by, hold_after_reread, hold_after_renewal, hold_after_claim}
use Rattle.plx_gate.specs.Leases.{lease_bytes, read_lease, IsLease, IsClaimed}
use Rattle.plx_rules.specs.Times.{wait, term, is_expired}
use Rattle.plx_commands.specs.declared.reply.Reply.{Reply}
use Rattle.plx_commands.specs.declared.reply.Reply.TheVariants as reply
use Rattle.plx_rules.specs.Owners.{first_landed, pending_write}
use Rattle.plx_rules.specs.Settings.{boot_number}
use Rattle.plx_rules.specs.World.{Seat, setting_at}
use Rattle.plx_gate.proofs.Leases.{lease-back, lease-same}
use Rattle.law_lease.proofs.LeaseFrames.{grip-open}
use Rattle.law_lease.proofs.LeaseLands.{asked-may, grip-asked, first-set}
use Rattle.law_lease.proofs.Leased.{MayIssue, LawfulAt, IsLiveWrite, Unlanded, SparesLease, Good, grip_while, grip_at, GoodSeat, LeaseOn, IsAskedAt}
use Rattle.plx_geom.proofs.Places.{lease-lease}

module _ (rests : ℕ → List ℕ) (time : ℕ) (writes : List Issued) (lease : ℕ) (standing : LeaseRecord) (boot : ℕ) where
  -- a reply keeps what is right, or drops it
  good-reply : (reply : Reply) (holds : ℕ → Hold) (block : ℕ) → Good rests time writes lease standing boot None (holds block) →
      Good rests time writes lease standing boot None (holds_after_reply reply holds block)
  good-reply (reply.Lost i u r) holds block good = tt
  good-reply other holds block good = good

  pub good-process : (process : Process End) (holds : ℕ → Hold) (block : ℕ) → Good rests time writes lease standing boot None (holds block) →
      Good rests time writes lease standing boot None (after_process process holds block)
  good-process (Ends end) holds block good = good-reply end.reply holds block good
  good-process (ReadThen b rest fault) holds block good = good
  good-process (WriteThen k b bytes guard done fault missed) holds block good = good
  good-process (ClockThen rest) holds block good = good
  good-process (UntilThen from rest) holds block good = good

  -- a reading: a claim may have waited
  pub good-timed : (reading : ℕ) (hold : Hold) → reading ≤ time + 50 → Good rests time writes lease standing boot None hold → Good rests time writes lease standing boot None (hold_after_reading reading hold)
  good-timed reading Nothing early good = tt
  good-timed reading (Seen sample) early good = good
  good-timed reading (Waited claim until) early good = good
  good-timed reading (Held claim until) early good = good
  good-timed reading (Wrote claim until) early good = by_tests (nat_le (claim.sample + wait) reading) (nat_lt reading until) refl
    where
      by_tests : (a b : Bool) → nat_le (claim.sample + wait) reading ≡ a →
          Good rests time writes lease standing boot None (if a && b then Waited claim until else Wrote claim until)
      by_tests false b is = good
      by_tests true false is = good
      by_tests true true is = elim (leb_tells (claim.sample + wait) reading) [
        | inl past ↦ (good, omega (arith, past.1, early))
        | inr not ↦ absurd (let e : true ≡ false = sym is ∙ not.0 in let P : ⊥ = cc in P)
      ]

  -- the first reading of a command
  pub good-first : (session : Option Session) (reading : ℕ) (hold : Hold) → Good rests time writes lease standing boot None hold →
      Good rests time writes lease standing boot None (first_hold session reading hold)
  good-first None reading (Held claim until) good = by_test (nat_le until reading)
    where
      by_test : (a : Bool) → Good rests time writes lease standing boot None (if a then Nothing else Held claim until)
      by_test true = tt
      by_test false = good
  good-first (Some session) reading (Held claim until) good = good
  good-first None reading Nothing good = tt
  good-first None reading (Seen sample) good = tt
  good-first None reading (Wrote claim until) good = tt
  good-first None reading (Waited claim until) good = tt
  good-first (Some session) reading Nothing good = tt
  good-first (Some session) reading (Seen sample) good = tt
  good-first (Some session) reading (Wrote claim until) good = tt
  good-first (Some session) reading (Waited claim until) good = tt

  module _ (limits : IsLease standing) where
    -- the block is read: it shows the lease free or expired
    good-seen : (sample : Option ℕ) → ((s : ℕ) → sample ≡ Some s → s ≤ time + 50) → Good rests time writes lease standing boot None (seen_for sample (lease_bytes standing))
    good-seen None sampled = tt
    good-seen (Some s) sampled = subst (λ (r : Option LeaseRecord). Good rests time writes lease standing boot None (seen_by r s)) (sym (lease-back standing limits)) (by_lease standing refl limits)
      where
        by_test : (r : LeaseRecord) → standing ≡ r → IsLease r → (a : Bool) → is_expired r s ≡ a → SparesLease standing s ⊎ (a ≡ false) →
            ((c : Claim) (u : ℕ) → standing ≡ Claimed c u → c.sample ≡ s → ⊥) ⊎ (a ≡ false) → Good rests time writes lease standing boot None (if a then Seen s else Nothing)
        by_test r is l false e clear never = tt
        by_test r is l true e (inl clear) (inl never) = record {
          waits = record { sampled = sampled s refl; clear = clear };
          mine = λ c u there own same. absurd (never c u there same);
        }
        by_test r is l true e (inr no') never = cc
        by_test r is l true e clear (inr no') = cc

        by_lease : (r : LeaseRecord) → standing ≡ r → IsLease r → Good rests time writes lease standing boot None (if is_expired r s then Seen s else Nothing)
        by_lease Free is l = by_test Free is l true refl (inl (subst (λ (x : LeaseRecord). SparesLease x s) (sym is) tt))
            (inl (λ c u there same. let e : Free ≡ Claimed c u = sym is ∙ there in let P : ⊥ = cc in P))
        by_lease (Claimed c u) is l = elim (leb_tells (suc (u + 100)) s) [
          | inl past ↦ by_test (Claimed c u) is l (nat_lt (u + 100) s) refl (inl (subst (λ (x : LeaseRecord). SparesLease x s) (sym is) (inl (omega (arith, past.1)))))
              (inl (λ d v there same. let e : Claimed c u ≡ Claimed d v = sym is ∙ there in let f : c ≡ d = cc in
              let low = l.low in let q : c.sample ≡ s = ap (λ (x : Claim). x.sample) f ∙ same in omega (arith, low, q, past.1)))
          | inr not ↦ by_test (Claimed c u) is l (nat_lt (u + 100) s) refl (inr not.0) (inr not.0)
        ]

    pub good-shown : (sample : Option ℕ) (hold : Hold) → ((s : ℕ) → sample ≡ Some s → s ≤ time + 50) → Good rests time writes lease standing boot None hold →
        Good rests time writes lease standing boot None (hold_after_read sample (lease_bytes standing) hold)
    good-shown sample Nothing sampled good = good-seen sample sampled
    good-shown sample (Seen s) sampled good = good-seen sample sampled
    good-shown sample (Wrote claim until) sampled good = good-seen sample sampled
    good-shown sample (Held claim until) sampled good = good
    good-shown sample (Waited claim until) sampled good = by_test (bytes_eq (lease_bytes standing) (lease_bytes (Claimed claim until))) (bytes_eq-Decides (lease_bytes standing) (lease_bytes (Claimed claim until))).0
      where
        by_test : (a : Bool) → (a ≡ true → lease_bytes standing ≡ lease_bytes (Claimed claim until)) → Good rests time writes lease standing boot None (hold_after_reread a (Held claim until))
        by_test false tells = tt
        by_test true tells =
            let there : standing ≡ Claimed claim until = lease-same standing (Claimed claim until) limits good.0.limits (tells refl) in
            record {
              own = good.0.own;
              limits = good.0.limits;
              waited = good.1;
              there = λ live. there;
              only = λ live m x is. absurd (good.0.mine claim until there good.0.own refl m x is);
            }

-- a write that has landed whole isn't live
pub whole-closed : (rests : ℕ → List ℕ) (time : ℕ) (writes : List Issued) (lease n : ℕ) (write : Issued) → slice_get writes n ≡ Some write → write.landed ≡ all_sectors →
    (x : Issued) → IsLiveWrite rests time writes lease n x → ⊥
whole-closed rests time writes lease n write found all x is =
    let same : x ≡ write = (let e : Some x ≡ Some write = sym is.found ∙ found in cc) in
    no' x.kind x.landed (ap (λ (y : Issued). y.landed) same ∙ all) is.missing
  where
    no' : (k : WriteKind) (flags : List Bool) → flags ≡ all_sectors → Unlanded k flags → ⊥
    no' kind.Renew flags whole missing = let e : Some true ≡ Some false = sym (ap (λ (l : List Bool). slice_get l 0) whole) ∙ missing in let P : ⊥ = cc in P
    no' kind.Release flags whole missing = let e : Some true ≡ Some false = sym (ap (λ (l : List Bool). slice_get l 0) whole) ∙ missing in let P : ⊥ = cc in P
    no' other flags whole missing = missing whole

pub good-done : (rests : ℕ → List ℕ) (time : ℕ) (writes : List Issued) (lease : ℕ) (standing : LeaseRecord) (boot n : ℕ) → ((x : Issued) → IsLiveWrite rests time writes lease n x → ⊥) → (hold : Hold) →
    Good rests time writes lease standing boot (Some n) hold → Good rests time writes lease standing boot None hold
good-done rests time writes lease standing boot n closed Nothing is = tt
good-done rests time writes lease standing boot n closed (Seen sample) is = is
good-done rests time writes lease standing boot n closed (Wrote claim until) is = is
good-done rests time writes lease standing boot n closed (Waited claim until) is = is
good-done rests time writes lease standing boot n closed (Held claim until) is = record {
  own = is.own;
  limits = is.limits;
  waited = is.waited;
  there = is.there;
  only = λ live m x op. absurd (let e : Some n ≡ Some m = is.only live m x op in
      let f : n ≡ m = cc in closed x (let P : ℕ → Type 0 = λ k. IsLiveWrite rests time writes lease k x in subst P (sym f) op));
}

-- ---- an appliance's boot goes on

module _ (g : Geometry) (rests : ℕ → List ℕ) (appliances time : ℕ) (device : Device) (writes : List Issued) (seats : ℕ → Seat) (lease : ℕ)
    (on : LeaseOn g rests appliances time device writes seats lease) (a : ℕ) where
  -- its seat changes, and nothing else
  pub lease-seat : (seat : Seat) → GoodSeat g rests time writes lease on.standing a seat → LeaseOn g rests appliances time device writes (at seats a seat) lease
  lease-seat seat good = record {
    standing = on.standing;
    limits = on.limits;
    spells = on.spells;
    alone = on.alone;
    backed = on.backed;
    claims = on.claims;
    each = at-all (λ b s. b < appliances → GoodSeat g rests time writes lease on.standing b s) seats a seat (λ below. good) (λ b ne below. on.each b below);
  }

  abbrev boot : ℕ
  boot = boot_number a (seats a).boots

  abbrev p : Configuration
  p = configuration (setting_at g a (seats a).boots) (seats a).log

  -- a log that leads to some configuration, where no write is issued
  pub lease-at-log : (log : List BootEntry) (q : Configuration) → configuration (setting_at g a (seats a).boots) log ≡ q → Good rests time writes lease on.standing boot None (q.holds (lease_at lease)) →
      LeaseOn g rests appliances time device writes (at seats a (record { boots = (seats a).boots; log = log; pending = None })) lease
  lease-at-log log q leads good =
      lease-seat (record { boots = (seats a).boots; log = log; pending = None })
      (let P : Configuration → Type 0 = λ r. Good rests time writes lease on.standing boot None (grip_at r.place None (lease_at lease) (r.holds (lease_at lease))) in
      let H : Hold → Type 0 = λ h. Good rests time writes lease on.standing boot None h in
      subst P (sym leads) (subst H (sym (grip-open q.place None (lease_at lease) (q.holds (lease_at lease)) refl)) good))

  -- what is held at a configuration that waits for no write
  pub good-free : a < appliances → (seats a).pending ≡ None → Good rests time writes lease on.standing boot None (p.holds (lease_at lease))
  good-free below free =
      let G : Option ℕ → Type 0 = λ o. Good rests time writes lease on.standing boot o (grip_at p.place (pending_write writes o) (lease_at lease) (p.holds (lease_at lease))) in
      let H : Hold → Type 0 = λ h. Good rests time writes lease on.standing boot None h in
      subst H (grip-open p.place None (lease_at lease) (p.holds (lease_at lease)) refl) (subst G free (on.each a below))

  -- a read is answered
  pub good-read : a < appliances → (seats a).pending ≡ None → ((s : ℕ) → p.sample ≡ Some s → s ≤ time + 50) → (block : ℕ) →
      Good rests time writes lease on.standing boot None (at p.holds block (hold_after_read p.sample (device block) (p.holds block)) (lease_at lease))
  good-read below free sampled block = elim (eqb_tells (lease_at lease) block) [
    | inl here ↦
        let P : Hold → Type 0 = λ h. Good rests time writes lease on.standing boot None h in
        let Q : List ℕ → Type 0 = λ x. P (hold_after_read p.sample x (p.holds (lease_at lease))) in
        let R : ℕ → Type 0 = λ b. P (at p.holds b (hold_after_read p.sample (device b) (p.holds b)) (lease_at lease)) in
        subst R here.1 (subst P (sym (at-same p.holds (lease_at lease) (hold_after_read p.sample (device (lease_at lease)) (p.holds (lease_at lease)))))
        (subst Q (sym on.spells) (good-shown rests time writes lease on.standing boot on.limits p.sample (p.holds (lease_at lease)) sampled (good-free below free))))
    | inr away ↦
        let P : Hold → Type 0 = λ h. Good rests time writes lease on.standing boot None h in
        subst P (sym (at-other p.holds block (lease_at lease) (hold_after_read p.sample (device block) (p.holds block)) away.1)) (good-free below free)
  ]

  -- a write is done
  module _ (below : a < appliances) (most : appliances ≤ 8) (boots : (seats a).boots < 2 ^ 32) (n : ℕ) (write : Issued) (waited : (seats a).pending ≡ Some n) (found : slice_get writes n ≡ Some write)
      (all : write.landed ≡ all_sectors) (asked : IsAskedAt p.place boot write) (lawful : LawfulAt g boot p.holds p.filled p.sample p.place) where
    abbrev hold : Hold
    hold = p.holds (lease_at lease)

    good-landed : Good rests time writes lease on.standing boot None (grip_while write.kind (lease_at lease == write.block) true write.bytes hold)
    good-landed =
        let G : Option ℕ → Type 0 = λ o. Good rests time writes lease on.standing boot o (grip_at p.place (pending_write writes o) (lease_at lease) hold) in
        let set : first_landed (Some write) ≡ true = first-set write true (ap (λ (l : List Bool). slice_get l 0) all) in
        let e : grip_at p.place (pending_write writes (Some n)) (lease_at lease) hold ≡ grip_while write.kind (lease_at lease == write.block) true write.bytes hold =
        grip-asked p.place boot write asked (pending_write writes (Some n)) (lease_at lease) hold
        ∙ ap (λ (o : Option Issued). grip_while write.kind (lease_at lease == write.block) (first_landed o) write.bytes hold) found
        ∙ ap (λ (b : Bool). grip_while write.kind (lease_at lease == write.block) b write.bytes hold) set in
        let P : Hold → Type 0 = λ h. Good rests time writes lease on.standing boot (Some n) h in
        good-done rests time writes lease on.standing boot n (whole-closed rests time writes lease n write found all) _ (subst P e (subst G waited (on.each a below)))

    done-of : (k : WriteKind) → (leases : List ℕ) → MayIssue g boot p.holds leases k write.block write.bytes write.guard →
        Good rests time writes lease on.standing boot None (grip_while k (lease_at lease == write.block) true write.bytes hold) →
        Good rests time writes lease on.standing boot None (after_write k write.block write.bytes p.holds (lease_at lease))
    done-of kind.Claim leases may good = elim (eqb_tells (lease_at lease) write.block) [
      | inl here ↦
          let same : lease ≡ may.lease = lease-lease lease may.lease (here.1 ∙ may.at_lease) in
          let seen : hold ≡ Seen may.sample = ap (λ (i : ℕ). p.holds (lease_at i)) same ∙ may.hold in
          let P : Hold → Type 0 = λ h. Good rests time writes lease on.standing boot None h in
          let is-seen = subst P seen good in
          let claim = claim_of boot may.number may.sample in
          let few = may.few in
          let early = may.early in
          let small : boot < 2 ^ 128 = omega (arith, below, most, boots) in
          let limits : IsClaimed claim (may.sample + term) = record { boot = small; number = omega arith; sample = early; low = omega arith; high = omega arith } in
          let back : read_lease write.bytes ≡ Some (Claimed claim (may.sample + term)) = ap read_lease may.spells ∙ lease-back (Claimed claim (may.sample + term)) limits in
          let R : Option LeaseRecord → Type 0 = λ r. P (hold_after_claim r) in
          let new : P (hold_after_claim (read_lease write.bytes)) = subst R (sym back) (record { own = refl; ends = refl; limits = limits; mine = is-seen.mine }) in
          let B : ℕ → Type 0 = λ b. P (at p.holds b (hold_after_claim (read_lease write.bytes)) (lease_at lease)) in
          subst B here.1 (subst P (sym (at-same p.holds (lease_at lease) (hold_after_claim (read_lease write.bytes)))) new)
      | inr away ↦
          let P : Hold → Type 0 = λ h. Good rests time writes lease on.standing boot None h in
          subst P (sym (at-other p.holds write.block (lease_at lease) (hold_after_claim (read_lease write.bytes)) away.1)) good
    ]
    done-of kind.Renew leases may good = elim (eqb_tells (lease_at lease) write.block) [
      | inl here ↦
          let P : Hold → Type 0 = λ h. Good rests time writes lease on.standing boot None h in
          let C : Bool → Type 0 = λ b. P (grip_while kind.Renew b true write.bytes hold) in
          let B : ℕ → Type 0 = λ b. P (at p.holds b (hold_after_renewal (read_lease write.bytes)) (lease_at lease)) in
          subst B here.1 (subst P (sym (at-same p.holds (lease_at lease) (hold_after_renewal (read_lease write.bytes)))) (subst C here.0 good))
      | inr away ↦
          let P : Hold → Type 0 = λ h. Good rests time writes lease on.standing boot None h in
          let C : Bool → Type 0 = λ b. P (grip_while kind.Renew b true write.bytes hold) in
          subst P (sym (at-other p.holds write.block (lease_at lease) (hold_after_renewal (read_lease write.bytes)) away.1)) (subst C away.0 good)
    ]
    done-of kind.Release leases may good = elim (eqb_tells (lease_at lease) write.block) [
      | inl here ↦
          let P : Hold → Type 0 = λ h. Good rests time writes lease on.standing boot None h in
          let B : ℕ → Type 0 = λ b. P (at p.holds b Nothing (lease_at lease)) in
          subst B here.1 (subst P (sym (at-same p.holds (lease_at lease) Nothing)) tt)
      | inr away ↦
          let P : Hold → Type 0 = λ h. Good rests time writes lease on.standing boot None h in
          let C : Bool → Type 0 = λ b. P (grip_while kind.Release b true write.bytes hold) in
          subst P (sym (at-other p.holds write.block (lease_at lease) Nothing away.1)) (subst C away.0 good)
    ]
    done-of kind.Take leases may good = good
    done-of kind.Give leases may good = good
    done-of kind.Sweep leases may good = good
    done-of kind.Fresh leases may good = good
    done-of kind.Record leases may good = good
    done-of kind.JData leases may good = good
    done-of kind.JCommit leases may good = good
    done-of other leases may good = absurd may

    pub good-written : Good rests time writes lease on.standing boot None (after_write write.kind write.block write.bytes p.holds (lease_at lease))
    good-written = (let may = asked-may g boot p.holds p.filled p.sample p.place write asked lawful in done-of write.kind may.0 may.1 good-landed)
