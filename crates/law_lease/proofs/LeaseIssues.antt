-- What holds of a lease stays where a write is issued.
use Rattle.std.proofs.Common.{◌≡◌, ◌≢◌, ℕ, ◌+◌, ◌^◌, ◌≤◌, ◌<◌, ◌⊎◌, inl, inr, List, [], ◌∷◌, ◌++◌, Option, Some, None, true, false, refl, ap, sym, subst, ◌∙◌, arith, length}
use Rattle.std.specs.Prelude.{slice_get}
use Rattle.std.proofs.lemmas.Bool.Decides.{eqb_tells}
use Rattle.plx_base.specs.Sectors.{Device}
use Rattle.plx_base.specs.declared.lease.Claim.{Claim}
use Rattle.plx_base.specs.declared.lease.LeaseRecord.{LeaseRecord}
use Rattle.plx_base.specs.declared.lease.LeaseRecord.TheVariants.{Claimed}
use Rattle.plx_base.specs.declared.write_kind.WriteKind.{WriteKind}
use Rattle.plx_base.specs.declared.write_kind.WriteKind.TheVariants as kind
use Rattle.plx_disk.specs.Writes.{Issued, fresh_write}
use Rattle.plx_commands.specs.Places.{at}
use Rattle.plx_commands.proofs.Places.{at-all}
use Rattle.plx_disk.proofs.Lists.{push-last}
use Rattle.law_lease.proofs.Lists.{push-cases}
use Rattle.plx_rules.specs.Boot.{Configuration, configuration}
use Rattle.plx_rules.specs.Claims.{claim_of}
use Rattle.plx_rules.specs.Holds.{Hold, Nothing, Seen, Wrote, Waited, Held}
use Rattle.plx_geom.specs.Geometry.{Geometry, IsGeometry, lease_count, lease_at}
use Rattle.plx_gate.specs.Leases.{IsClaimed}
use Rattle.plx_rules.specs.Owners.{first_landed, pending_write}
use Rattle.plx_commands.specs.Replies.{is_in}
use Rattle.law_lease.proofs.Rests.{rests-or, rests-home, needs-before, needs-last}
use Rattle.plx_rules.specs.Settings.{boot_number}
use Rattle.plx_rules.specs.World.{Seat, setting_at}
use Rattle.law_lease.proofs.LeaseFrames.{Shrinks, good-shrinks, one-claim, grip-open}
use Rattle.law_lease.proofs.Leased.{MayIssue, MayUse, IsLiveWrite, NoneLive, LiveOnly, IsBacked, IsOfKind, IsClaimWrite, Good, grip_at, GoodSeat, LeaseOn}
use Rattle.plx_geom.proofs.Places.{lease-lease}

-- boots of two appliances have two numbers
pub boots-apart : (a b k l : ℕ) → a < 8 → b < 8 → boot_number a k ≡ boot_number b l → a ≡ b
boots-apart a b k l one other e = omega (arith, one, other, e)

-- while it waits for no write, nothing is live under what a boot holds
pub none-of-only : (rests : ℕ → List ℕ) (time : ℕ) (writes : List Issued) (lease : ℕ) → LiveOnly rests time writes lease None → NoneLive rests time writes lease
none-of-only rests time writes lease only = λ m x is. (let e : None ≡ Some m = only m x is in let P : ⊥ = cc in P)

pub good-pending : (rests : ℕ → List ℕ) (time : ℕ) (writes : List Issued) (lease : ℕ) (standing : LeaseRecord) (boot : ℕ) (pending : Option ℕ) (hold : Hold) →
    Good rests time writes lease standing boot None hold → Good rests time writes lease standing boot pending hold
good-pending rests time writes lease standing boot pending Nothing is = tt
good-pending rests time writes lease standing boot pending (Seen sample) is = is
good-pending rests time writes lease standing boot pending (Wrote claim until) is = is
good-pending rests time writes lease standing boot pending (Waited claim until) is = is
good-pending rests time writes lease standing boot pending (Held claim until) is = record {
  own = is.own;
  limits = is.limits;
  waited = is.waited;
  there = is.there;
  only = λ live m x open'. absurd (none-of-only rests time writes lease (is.only live) m x open');
}

module _ (g : Geometry) (rests : ℕ → List ℕ) (appliances time : ℕ) (device : Device) (writes : List Issued) (seats : ℕ → Seat) (lease : ℕ) (within : lease < lease_count g) (geometry : IsGeometry g) (few : appliances ≤ 8)
    (on : LeaseOn g rests appliances time device writes seats lease)
    (a : ℕ) (below : a < appliances) (boots : (seats a).boots < 2 ^ 32) (free : (seats a).pending ≡ None)
    (leases : List ℕ) (what : WriteKind) (block : ℕ) (bytes : List ℕ) (guard : ℕ) where
  abbrev boot : ℕ
  boot = boot_number a (seats a).boots

  abbrev p : Configuration
  p = configuration (setting_at g a (seats a).boots) (seats a).log

  abbrev write : Issued
  write = fresh_write boot what block bytes guard

  abbrev now : List Issued
  now = writes ++ write ∷ []

  abbrev since : ℕ → List ℕ
  since = at rests (length writes) leases

  abbrev seats' : ℕ → Seat
  seats' = at seats a (record { boots = (seats a).boots; log = (seats a).log; pending = Some (length writes) })

  abbrev hold : Hold
  hold = p.holds (lease_at lease)

  -- what the boot holds is right before the write is issued
  good-before : Good rests time writes lease on.standing boot None hold
  good-before =
      let G : Option ℕ → Type 0 = λ q. Good rests time writes lease on.standing boot q (grip_at p.place (pending_write writes q) (lease_at lease) hold) in
      let H : Hold → Type 0 = λ h. Good rests time writes lease on.standing boot None h in
      subst H (grip-open p.place None (lease_at lease) hold refl) (subst G free (on.each a below))

  -- and after it
  seats-now : Good since time now lease on.standing boot (Some (length writes)) hold →
      ((b : ℕ) → b < appliances → b ≢ a → (h : Hold) → Good rests time writes lease on.standing (boot_number b (seats b).boots) (seats b).pending h →
      Good since time now lease on.standing (boot_number b (seats b).boots) (seats b).pending h) →
      ((b : ℕ) (q : Option ℕ) → b ≢ a → b < appliances → (h : ℕ) → (seats b).pending ≡ Some h → pending_write now (Some h) ≡ pending_write writes (Some h)) →
      (b : ℕ) → b < appliances → GoodSeat g since time now lease on.standing b (seats' b)
  seats-now mine others kept =
      at-all (λ b s. b < appliances → GoodSeat g since time now lease on.standing b s) seats a _
      (λ under. let H : Hold → Type 0 = λ h. Good since time now lease on.standing boot (Some (length writes)) h in
      subst H (sym (grip-open p.place (pending_write now (Some (length writes))) (lease_at lease) hold
      (ap (λ (o : Option Issued). first_landed o) (push-last writes write)))) mine)
      (λ b ne under. by_pending b ne under (seats b).pending refl)
    where
      by_pending : (b : ℕ) → b ≢ a → b < appliances → (q : Option ℕ) → (seats b).pending ≡ q → GoodSeat g since time now lease on.standing b (seats b)
      by_pending b ne under q is =
          let bb = boot_number b (seats b).boots in
          let pb = configuration (setting_at g b (seats b).boots) (seats b).log in
          let F : Option Issued → Type 0 = λ o. Good since time now lease on.standing bb (seats b).pending (grip_at pb.place o (lease_at lease) (pb.holds (lease_at lease))) in
          subst F (sym (same b ne under (seats b).pending refl)) (others b under ne (grip_at pb.place (pending_write writes (seats b).pending) (lease_at lease) (pb.holds (lease_at lease))) (on.each b under))
        where
          same : (b : ℕ) → b ≢ a → (b < appliances) → (q : Option ℕ) → (seats b).pending ≡ q → pending_write now q ≡ pending_write writes q
          same b ne under None is = refl
          same b ne under (Some h) is = kept b (Some h) ne under h is

  module _ (kept : (b : ℕ) (q : Option ℕ) → b ≢ a → b < appliances → (h : ℕ) → (seats b).pending ≡ Some h → pending_write now (Some h) ≡ pending_write writes (Some h)) where
    claims-now : (what ≡ kind.Claim → block ≡ lease_at lease → IsClaimWrite time on.standing write) →
        (m : ℕ) (x : Issued) → slice_get now m ≡ Some x → x.kind ≡ kind.Claim → x.block ≡ lease_at lease → IsClaimWrite time on.standing x
    claims-now new m x there is here = elim (push-cases writes write x m there) [
      | inl old ↦ on.claims m x old is here
      | inr fresh ↦
          let P : Issued → Type 0 = λ y. IsClaimWrite time on.standing y in
          subst P fresh.1 (new (ap (λ (y : Issued). y.kind) fresh.1 ∙ is) (ap (λ (y : Issued). y.block) fresh.1 ∙ here))
    ]

    -- the write doesn't need the lease
    issue-still : (is_in lease leases ≡ true → ⊥) → (what ≡ kind.Claim → block ≡ lease_at lease → IsClaimWrite time on.standing write) →
        LeaseOn g since appliances time device now seats' lease
    issue-still unneeded new =
        let old : (m : ℕ) (x : Issued) → IsLiveWrite since time now lease m x → IsLiveWrite rests time writes lease m x =
        λ m x is. elim (push-cases writes write x m is.found) [
          | inl there ↦ record { found = there; needs = needs-before rests writes leases m x lease there is.needs; missing = is.missing; live = is.live }
          | inr fresh ↦ absurd (unneeded (needs-last rests writes leases m lease fresh.0 is.needs))
        ] in
        let shrinks : Shrinks rests since time time writes now lease = λ m x is. (x, old m x is) in
        record {
          standing = on.standing;
          limits = on.limits;
          spells = on.spells;
          alone = λ m n x y one other. on.alone m n x y (old m x one) (old n y other);
          backed = λ m x is. on.backed m x (old m x is);
          claims = claims-now new;
          each = seats-now
              (good-pending since time now lease on.standing boot (Some (length writes)) hold (good-shrinks rests since time time writes now lease on.standing boot None (omega arith) shrinks hold good-before))
              (λ b under ne h good. good-shrinks rests since time time writes now lease on.standing (boot_number b (seats b).boots) (seats b).pending (omega arith) shrinks h good)
              kept;
        }

    -- the write needs the lease, which the boot holds
    issue-needed : (claim : Claim) (until : ℕ) → hold ≡ Held claim until → guard ≤ until → (IsClaimed claim until → IsOfKind what claim until guard bytes) → what ≢ kind.Claim →
        LeaseOn g since appliances time device now seats' lease
    issue-needed claim until is guarded of_kind unclaimed =
        let H : Hold → Type 0 = λ h. Good rests time writes lease on.standing boot None h in
        let held = subst H is good-before in
        let split : (m : ℕ) (x : Issued) → IsLiveWrite since time now lease m x →
        (IsLiveWrite rests time writes lease m x) ⊎ ((m ≡ length writes) × (write ≡ x) × (time ≤ until + 50)) =
        λ m x is'. elim (push-cases writes write x m is'.found) [
          | inl there ↦ inl (record { found = there; needs = needs-before rests writes leases m x lease there is'.needs; missing = is'.missing; live = is'.live })
          | inr fresh ↦ inr (fresh.0, fresh.1, (let e = is'.live in let f : x.guard ≡ guard = ap (λ (y : Issued). y.guard) (sym fresh.1) in omega (arith, e, f, guarded)))
        ] in
        let none : time ≤ until + 50 → NoneLive rests time writes lease = λ live. none-of-only rests time writes lease (held.only live) in
        record {
          standing = on.standing;
          limits = on.limits;
          spells = on.spells;
          alone = λ m n x y one other. elim (split m x one) [
            | inl old ↦ elim (split n y other) [ inl old' ↦ on.alone m n x y old old' | inr fresh ↦ absurd (none fresh.2 m x old) ]
            | inr fresh ↦ elim (split n y other) [ inl old' ↦ absurd (none fresh.2 n y old') | inr fresh' ↦ fresh.0 ∙ sym fresh'.0 ]
          ];
          backed = λ m x is'. elim (split m x is') [
            | inl old ↦ on.backed m x old
            | inr fresh ↦
                let P : Issued → Type 0 = λ y. IsBacked time on.standing y in
                subst P fresh.1 (record {
                  claim = claim;
                  until = until;
                  there = held.there fresh.2;
                  owner = held.own;
                  guarded = guarded;
                  waited = held.waited;
                  of_kind = of_kind held.limits;
                })
          ];
          claims = claims-now (λ k. absurd (unclaimed k));
          each = seats-now
              (let N : Hold → Type 0 = λ h. Good since time now lease on.standing boot (Some (length writes)) h in
              subst N (sym is) (record {
                own = held.own;
                limits = held.limits;
                waited = held.waited;
                there = held.there;
                only = λ live m x is'. elim (split m x is') [ inl old ↦ absurd (none live m x old) | inr fresh ↦ ap Some (sym fresh.0) ];
              }))
              (λ b under ne h good. others b under ne h (λ live c u there own'. ne (boots-apart b a (seats b).boots (seats a).boots (omega arith) (omega arith)
              (sym own' ∙ (ap (λ (x : Claim). x.boot.0) (one-claim on.standing c claim u until there (held.there live)).0 ∙ held.own)))) split good)
              kept;
        }
      where
        others : (b : ℕ) → b < appliances → b ≢ a → (h : Hold) →
            (time ≤ until + 50 → (c : Claim) (u : ℕ) → on.standing ≡ Claimed c u → c.boot.0 ≡ boot_number b (seats b).boots → ⊥) →
            ((m : ℕ) (x : Issued) → IsLiveWrite since time now lease m x → (IsLiveWrite rests time writes lease m x) ⊎ ((m ≡ length writes) × (write ≡ x) × (time ≤ until + 50))) →
            Good rests time writes lease on.standing (boot_number b (seats b).boots) (seats b).pending h →
            Good since time now lease on.standing (boot_number b (seats b).boots) (seats b).pending h
        others b under ne Nothing foreign split good = tt
        others b under ne (Seen sample) foreign split good = record {
          waits = good.waits;
          mine = λ c u there own same m x is'. elim (split m x is') [ inl old ↦ good.mine c u there own same m x old | inr fresh ↦ foreign fresh.2 c u there own ];
        }
        others b under ne (Wrote claim' until') foreign split good = record {
          own = good.own;
          ends = good.ends;
          limits = good.limits;
          mine = λ c u there own same m x is'. elim (split m x is') [ inl old ↦ good.mine c u there own same m x old | inr fresh ↦ foreign fresh.2 c u there own ];
        }
        others b under ne (Waited claim' until') foreign split good = (
          record {
            own = good.0.own;
            ends = good.0.ends;
            limits = good.0.limits;
            mine = λ c u there own same m x is'. elim (split m x is') [ inl old ↦ good.0.mine c u there own same m x old | inr fresh ↦ foreign fresh.2 c u there own ];
          },
          good.1,
        )
        others b under ne (Held claim' until') foreign split good = record {
          own = good.own;
          limits = good.limits;
          waited = good.waited;
          there = good.there;
          only = λ live m x is'. elim (split m x is') [ inl old ↦ good.only live m x old | inr fresh ↦ absurd (foreign fresh.2 claim' until' (good.there live) good.own) ];
        }

    -- a write under some leases that the boot holds
    issue-use : (k : WriteKind) → what ≡ k → MayUse g p.holds leases k block bytes guard → k ≢ kind.Claim →
        ((claim : Claim) (until : ℕ) → IsClaimed claim until → IsOfKind k claim until guard bytes) → LeaseOn g since appliances time device now seats' lease
    issue-use k is may unclaimed of_kind = elim (rests-or lease leases) [
      | inl needs ↦
          let t = may.grants lease needs in
          issue-needed t.claim t.until t.hold t.guarded
          (λ limits. let K : WriteKind → Type 0 = λ x. IsOfKind x t.claim t.until guard bytes in subst K (sym is) (of_kind t.claim t.until limits))
          (λ c. unclaimed (sym is ∙ c))
      | inr no' ↦ issue-still no' (λ c. absurd (unclaimed (sym is ∙ c)))
    ]

    issue-of : (k : WriteKind) → what ≡ k → MayIssue g boot p.holds leases k block bytes guard → LeaseOn g since appliances time device now seats' lease
    issue-of kind.Claim is may = issue-still (λ need. let e : false ≡ true = subst (λ (l : List ℕ). is_in lease l ≡ true) may.alone need in let P : ⊥ = cc in P)
        (λ k here.
        let same : lease ≡ may.lease = lease-lease lease may.lease (sym here ∙ may.at_lease) in
        let seen : hold ≡ Seen may.sample = ap (λ (i : ℕ). p.holds (lease_at i)) same ∙ may.hold in
        let H : Hold → Type 0 = λ h. Good rests time writes lease on.standing boot None h in
        let is-seen = subst H seen good-before in
        let few' = may.few in
        let early' = may.early in
        record {
          claim = claim_of boot may.number may.sample;
          spells = may.spells;
          limits = record { boot = omega arith; number = omega arith; sample = early'; low = omega arith; high = omega arith };
          owner = refl;
          guarded = may.guarded;
          waits = λ first live. is-seen.waits;
        })
    issue-of kind.Renew is may = elim (eqb_tells lease may.lease) [
      | inl here ↦ issue-needed may.claim may.until (ap (λ (i : ℕ). p.holds (lease_at i)) here.1 ∙ may.hold) (omega (arith, may.guarded))
          (λ limits. let K : WriteKind → Type 0 = λ k. IsOfKind k may.claim may.until guard bytes in
          subst K (sym is) (
            may.guarded,
            (
              may.next,
              may.spells,
              may.later,
              (let low = limits.low in let more = may.later in record { boot = limits.boot; number = limits.number; sample = limits.sample; low = omega arith; high = may.early limits.high }),
            ),
          ))
          (λ k. let e : kind.Renew ≡ kind.Claim = sym is ∙ k in let P : ⊥ = cc in P)
      | inr away ↦ issue-still (λ need. away.1 (rests-home lease may.lease leases may.alone need))
          (λ k. let e : kind.Renew ≡ kind.Claim = sym is ∙ k in let P : ⊥ = cc in absurd P)
    ]
    issue-of kind.Release is may = elim (eqb_tells lease may.lease) [
      | inl here ↦ issue-needed may.claim may.until (ap (λ (i : ℕ). p.holds (lease_at i)) here.1 ∙ may.hold) (omega (arith, may.guarded))
          (λ limits. let K : WriteKind → Type 0 = λ k. IsOfKind k may.claim may.until guard bytes in subst K (sym is) (may.guarded, may.spells))
          (λ k. let e : kind.Release ≡ kind.Claim = sym is ∙ k in let P : ⊥ = cc in P)
      | inr away ↦ issue-still (λ need. away.1 (rests-home lease may.lease leases may.alone need))
          (λ k. let e : kind.Release ≡ kind.Claim = sym is ∙ k in let P : ⊥ = cc in absurd P)
    ]
    issue-of kind.Take is may = issue-use kind.Take is may (λ k. let P : ⊥ = cc in P) (λ c u limits. tt)
    issue-of kind.Give is may = issue-use kind.Give is may (λ k. let P : ⊥ = cc in P) (λ c u limits. tt)
    issue-of kind.Sweep is may = issue-use kind.Sweep is may (λ k. let P : ⊥ = cc in P) (λ c u limits. tt)
    issue-of kind.Fresh is may = issue-use kind.Fresh is may (λ k. let P : ⊥ = cc in P) (λ c u limits. tt)
    issue-of kind.Record is may = issue-use kind.Record is may (λ k. let P : ⊥ = cc in P) (λ c u limits. tt)
    issue-of kind.JData is may = issue-use kind.JData is may (λ k. let P : ⊥ = cc in P) (λ c u limits. tt)
    issue-of kind.JCommit is may = issue-use kind.JCommit is may (λ k. let P : ⊥ = cc in P) (λ c u limits. tt)
    issue-of other is may = absurd may

    pub lease-issued : MayIssue g boot p.holds leases what block bytes guard → LeaseOn g since appliances time device now seats' lease
    lease-issued may = issue-of what refl may
