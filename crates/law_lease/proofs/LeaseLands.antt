-- What holds of a lease stays where a sector lands.
use Rattle.std.proofs.Common.{◌≡◌, ◌≢◌, ℕ, zero, suc, ◌+◌, ◌≤◌, ◌<◌, ◌⊎◌, inl, inr, List, [], ◌∷◌, Bool, true, false, Option, Some, None, refl, ap, sym, subst, ◌∙◌, arith, slice_set}
use Rattle.std.specs.Prelude.{slice_get, ◌==◌}
use Rattle.std.proofs.lemmas.Bool.Decides.{eqb_tells}
use Rattle.plx_base.specs.Sectors.{Device, put, with_landed_sector}
use Rattle.plx_base.proofs.Devices.{put-same, put-other}
use Rattle.plx_base.specs.declared.lease.LeaseRecord.{LeaseRecord}
use Rattle.plx_base.specs.declared.lease.LeaseRecord.TheVariants.{Free, Claimed}
use Rattle.plx_base.specs.declared.write_kind.WriteKind.{WriteKind}
use Rattle.plx_base.specs.declared.write_kind.WriteKind.TheVariants as kind
use Rattle.plx_base.proofs.Tests.{eqb-true, eqb-false}
use Rattle.plx_disk.specs.Writes.{Issued, with_sector, all_sectors}
use Rattle.plx_rules.specs.Process.{Ends, ReadThen, WriteThen, ClockThen, UntilThen}
use Rattle.plx_disk.proofs.Lists.{set-same, set-other}
use Rattle.plx_rules.specs.Times.{window, term}
use Rattle.law_lease.proofs.Lists.{pending-is, whole-none}
use Rattle.plx_rules.specs.Boot.{Place, Idle, Begins, In, configuration}
use Rattle.plx_rules.specs.Holds.{Hold, Held}
use Rattle.plx_geom.specs.Geometry.{Geometry, lease_count, lease_at}
use Rattle.plx_rules.specs.Holds.{hold_after_renewal}
use Rattle.plx_gate.specs.Leases.{lease_bytes, read_lease, IsLease, IsClaimed}
use Rattle.plx_rules.specs.Owners.{first_landed, pending_write, is_set}
use Rattle.plx_rules.specs.Rests.{IsUnder, rests_on}
use Rattle.law_lease.proofs.Rests.{rests-alone}
use Rattle.plx_rules.specs.Settings.{boot_number}
use Rattle.plx_rules.specs.World.{Seat, setting_at}
use Rattle.plx_gate.proofs.Leases.{lease-back, lease-same}
use Rattle.law_lease.proofs.LeaseSectors.{sector-first, sector-past}
use Rattle.law_lease.proofs.LeaseFrames.{Shrinks, good-shrinks, good-changed, claim-alone, claim-clears, renew-clears, grip_while-open, grip_while-away}
use Rattle.law_lease.proofs.Leased.{MayIssue, LawfulAt, Unlanded, IsLiveWrite, NoneLive, IsBacked, IsOfKind, SparesLease, IsClaimWrite, Good, grip_while, grip_at, GoodSeat, LeaseOn, IsPlaced, IsRight, IsAskedAt, IsLawfulSeat}
use Rattle.plx_geom.proofs.Places.{lease-lease, lease-data, lease-descriptor, lease-map, lease-pool, lease-record}

-- a missing flag of a write on which one more sector has landed was missing before
pub unlanded-before : (kind : WriteKind) (flags : List Bool) (k : ℕ) → slice_get flags k ≡ Some false → Unlanded kind (slice_set flags k true) → Unlanded kind flags
unlanded-before kind.Renew flags k missing is = first-before flags k missing is
  where
    first-before : (flags : List Bool) (k : ℕ) → slice_get flags k ≡ Some false → slice_get (slice_set flags k true) 0 ≡ Some false → slice_get flags 0 ≡ Some false
    first-before flags zero missing is = missing
    first-before flags (suc k) missing is = sym (set-other flags (suc k) 0 true (λ e. omega arith)) ∙ is
unlanded-before kind.Release flags k missing is = first-before flags k missing is
  where
    first-before : (flags : List Bool) (k : ℕ) → slice_get flags k ≡ Some false → slice_get (slice_set flags k true) 0 ≡ Some false → slice_get flags 0 ≡ Some false
    first-before flags zero missing is = missing
    first-before flags (suc k) missing is = sym (set-other flags (suc k) 0 true (λ e. omega arith)) ∙ is
unlanded-before other flags k missing is = λ whole. whole-none k (sym (ap (λ (l : List Bool). slice_get l k) whole) ∙ missing)

-- what is missing of a journal's write is missing of it whole
pub not-whole : (flags : List Bool) (k : ℕ) → slice_get flags k ≡ Some false → flags ≢ all_sectors
not-whole flags k missing = λ whole. whole-none k (sym (ap (λ (l : List Bool). slice_get l k) whole) ∙ missing)

pub first-set : (write : Issued) (flag : Bool) → slice_get write.landed 0 ≡ Some flag → first_landed (Some write) ≡ flag
first-set write flag e = ap is_set e

-- ---- what the ask tells of the write that is waited for

-- it may be asked, whatever it rests on
abbrev pub MayBeAsked : Geometry → ℕ → (ℕ → Hold) → WriteKind → ℕ → List ℕ → ℕ → Type 0
MayBeAsked g boot holds kind block bytes guard = (rests : List ℕ) × MayIssue g boot holds rests kind block bytes guard

pub asked-may : (g : Geometry) (boot : ℕ) (holds : ℕ → Hold) (filled : List (ℕ × List ℕ)) (sample : Option ℕ) (place : Place) (write : Issued) → IsAskedAt place boot write →
    LawfulAt g boot holds filled sample place → MayBeAsked g boot holds write.kind write.block write.bytes write.guard
asked-may g boot holds filled sample (In known command (WriteThen kind block bytes guard done fault missed)) write asked lawful =
    (rests_on g command holds filled kind block bytes, rw (asked.0, asked.1, asked.2, asked.3) lawful.0)
asked-may g boot holds filled sample (Idle known) write asked lawful = absurd asked
asked-may g boot holds filled sample (Begins known command) write asked lawful = absurd asked
asked-may g boot holds filled sample (In known command (Ends end)) write asked lawful = absurd asked
asked-may g boot holds filled sample (In known command (ReadThen block rest fault)) write asked lawful = absurd asked
asked-may g boot holds filled sample (In known command (ClockThen rest)) write asked lawful = absurd asked
asked-may g boot holds filled sample (In known command (UntilThen from rest)) write asked lawful = absurd asked

pub grip-asked : (place : Place) (boot : ℕ) (write : Issued) → IsAskedAt place boot write → (pending : Option Issued) (lease : ℕ) (hold : Hold) →
    grip_at place pending lease hold ≡ grip_while write.kind (lease == write.block) (first_landed pending) write.bytes hold
grip-asked (In known command (WriteThen kind block bytes guard done fault missed)) boot write asked pending lease hold =
    rw (asked.0, asked.1, asked.2) refl
grip-asked (Idle known) boot write asked pending lease hold = absurd asked
grip-asked (Begins known command) boot write asked pending lease hold = absurd asked
grip-asked (In known command (Ends end)) boot write asked pending lease hold = absurd asked
grip-asked (In known command (ReadThen block rest fault)) boot write asked pending lease hold = absurd asked
grip-asked (In known command (ClockThen rest)) boot write asked pending lease hold = absurd asked
grip-asked (In known command (UntilThen from rest)) boot write asked pending lease hold = absurd asked

pub pending-other : (writes : List Issued) (number : ℕ) (write : Issued) (pending : Option ℕ) → pending ≢ Some number →
    pending_write (slice_set writes number write) pending ≡ pending_write writes pending
pending-other writes number write None ne = refl
pending-other writes number write (Some m) ne = set-other writes number m write (λ e. ne (ap Some e))

-- one lease's hold, and two spellings of the same bytes
same-hold : (holds : ℕ → Hold) (lease other : ℕ) (hold held : Hold) → holds (lease_at lease) ≡ hold → lease ≡ other → holds (lease_at other) ≡ held → hold ≡ held
same-hold holds lease other hold held same is there = sym same ∙ (ap (λ (n : ℕ). holds (lease_at n)) is ∙ there)

two-spellings : (bytes one other : List ℕ) → bytes ≡ one → bytes ≡ other → one ≡ other
two-spellings bytes one other e f = sym e ∙ f

-- ---- a landing

module _ (g : Geometry) (rests : ℕ → List ℕ) (appliances time : ℕ) (device : Device) (writes : List Issued) (seats : ℕ → Seat) (lease : ℕ) (within : lease < lease_count g)
    (on : LeaseOn g rests appliances time device writes seats lease) (seated : (a : ℕ) → a < appliances → IsLawfulSeat g time writes a (seats a))
    (number sector : ℕ) (write : Issued) (found : slice_get writes number ≡ Some write) (missing : slice_get write.landed sector ≡ Some false)
    (early : time ≤ write.guard + 50) where
  abbrev now : List Issued
  now = slice_set writes number (with_sector write sector)

  abbrev after : Device
  after = put device write.block (with_landed_sector sector write.bytes (device write.block))

  -- the write that lands, and every other
  landed-is : (m : ℕ) (x : Issued) → slice_get now m ≡ Some x → ((m ≡ number) × (x ≡ with_sector write sector)) ⊎ ((m ≢ number) × (slice_get writes m ≡ Some x))
  landed-is m x there = elim (eqb_tells m number) [
    | inl same ↦ inl (
      same.1,
      (let P : ℕ → Type 0 = λ k. slice_get now k ≡ Some x in
          let one = subst P same.1 there in
          let other = set-same writes number (with_sector write sector) write found in
          let e : Some x ≡ Some (with_sector write sector) = sym one ∙ other in cc),
    )
    | inr away ↦ inr (away.1, sym (set-other writes number m (with_sector write sector) away.1) ∙ there)
  ]

  open-landed : (m : ℕ) (x : Issued) → IsLiveWrite rests time now lease m x →
      ((m ≡ number) × (x ≡ with_sector write sector) × IsLiveWrite rests time writes lease number write) ⊎ ((m ≢ number) × IsLiveWrite rests time writes lease m x)
  open-landed m x is = elim (landed-is m x is.found) [
    | inl here ↦
        let P : Issued → Type 0 = λ y. IsLiveWrite rests time now lease m y in
        let is' : IsLiveWrite rests time now lease m (with_sector write sector) = subst P here.1 is in
        let needs : IsUnder rests number lease = (let Q : ℕ → Type 0 = λ k. IsUnder rests k lease in subst Q here.0 is'.needs) in
        inl (here.0, here.1, record { found = found; needs = needs; missing = unlanded-before write.kind write.landed sector missing is'.missing; live = early })
    | inr away ↦ inr (away.0, record { found = away.1; needs = is.needs; missing = is.missing; live = is.live })
  ]

  shrinks : Shrinks rests rests time time writes now lease
  shrinks m x is = elim (open-landed m x is) [
    | inl here ↦ (write, (let P : ℕ → Type 0 = λ k. IsLiveWrite rests time writes lease k write in subst P (sym here.0) here.2))
    | inr away ↦ (x, away.1)
  ]

  claims-landed : (changed : LeaseRecord) → ((sample : ℕ) → sample ≤ time + 50 → SparesLease on.standing sample → SparesLease changed sample) →
      (m : ℕ) (x : Issued) → slice_get now m ≡ Some x → x.kind ≡ kind.Claim → x.block ≡ lease_at lease → IsClaimWrite time changed x
  claims-landed changed clears m x there is at = elim (landed-is m x there) [
    | inl here ↦
        let P : Issued → Type 0 = λ y. IsClaimWrite time changed y in
        let was = on.claims number write found (ap (λ (y : Issued). y.kind) (sym here.1) ∙ is) (ap (λ (y : Issued). y.block) (sym here.1) ∙ at) in
        subst P (sym here.1) (record {
          claim = was.claim;
          spells = was.spells;
          limits = was.limits;
          owner = was.owner;
          guarded = was.guarded;
          waits = λ first live. (let w = was.waits (unlanded-before kind.Renew write.landed sector missing first) live in
              record { sampled = w.sampled; clear = clears was.claim.sample w.sampled w.clear });
        })
    | inr away ↦
        let was = on.claims m x away.1 is at in
        record {
          claim = was.claim;
          spells = was.spells;
          limits = was.limits;
          owner = was.owner;
          guarded = was.guarded;
          waits = λ first live. (let w = was.waits first live in record { sampled = w.sampled; clear = clears was.claim.sample w.sampled w.clear });
        }
  ]

  -- a seat that waits for another write, or for this one
  seat-landed : (changed : LeaseRecord) (a : ℕ) → a < appliances →
      ((seats a).pending ≢ Some number → (hold : Hold) → Good rests time writes lease on.standing (boot_number a (seats a).boots) (seats a).pending hold →
      Good rests time now lease changed (boot_number a (seats a).boots) (seats a).pending hold) →
      ((seats a).pending ≡ Some number → (hold : Hold) → MayBeAsked g (boot_number a (seats a).boots) (configuration (setting_at g a (seats a).boots) (seats a).log).holds write.kind write.block write.bytes write.guard →
      (configuration (setting_at g a (seats a).boots) (seats a).log).holds (lease_at lease) ≡ hold →
      Good rests time writes lease on.standing (boot_number a (seats a).boots) (seats a).pending (grip_while write.kind (lease_at lease == write.block) (first_landed (Some write)) write.bytes hold) →
      Good rests time now lease changed (boot_number a (seats a).boots) (seats a).pending
      (grip_while write.kind (lease_at lease == write.block) (first_landed (Some (with_sector write sector))) write.bytes hold)) →
      GoodSeat g rests time now lease changed a (seats a)
  seat-landed changed a below others mine =
      let seat = seats a in
      let boot = boot_number a seat.boots in
      let p = configuration (setting_at g a seat.boots) seat.log in
      let hold = p.holds (lease_at lease) in
      elim (pending-is seat.pending number) [
        | inl is ↦
            let asked = (seated a below).asked number is in
            let same : asked.0 ≡ write = (let e : Some asked.0 ≡ Some write = sym asked.1 ∙ found in cc) in
            let asked' : IsAskedAt p.place boot write = (let P : Issued → Type 0 = λ y. IsAskedAt p.place boot y in subst P same asked.2) in
            let there : pending_write writes seat.pending ≡ Some write = ap (pending_write writes) is ∙ found in
            let there' : pending_write now seat.pending ≡ Some (with_sector write sector) =
            ap (pending_write now) is ∙ set-same writes number (with_sector write sector) write found in
            let old : grip_at p.place (pending_write writes seat.pending) (lease_at lease) hold
            ≡ grip_while write.kind (lease_at lease == write.block) (first_landed (Some write)) write.bytes hold =
            grip-asked p.place boot write asked' (pending_write writes seat.pending) (lease_at lease) hold
            ∙ ap (λ (o : Option Issued). grip_while write.kind (lease_at lease == write.block) (first_landed o) write.bytes hold) there in
            let new : grip_at p.place (pending_write now seat.pending) (lease_at lease) hold
            ≡ grip_while write.kind (lease_at lease == write.block) (first_landed (Some (with_sector write sector))) write.bytes hold =
            grip-asked p.place boot write asked' (pending_write now seat.pending) (lease_at lease) hold
            ∙ ap (λ (o : Option Issued). grip_while write.kind (lease_at lease == write.block) (first_landed o) write.bytes hold) there' in
            let P : Hold → Type 0 = λ h. Good rests time writes lease on.standing boot seat.pending h in
            let Q : Hold → Type 0 = λ h. Good rests time now lease changed boot seat.pending h in
            subst Q (sym new) (mine is hold (asked-may g boot p.holds p.filled p.sample p.place write asked' (seated a below).lawful) refl (subst P old (on.each a below)))
        | inr ne ↦
            let P : Option Issued → Type 0 = λ o. Good rests time now lease changed boot seat.pending (grip_at p.place o (lease_at lease) hold) in
            subst P (sym (pending-other writes number (with_sector write sector) seat.pending ne))
            (others ne (grip_at p.place (pending_write writes seat.pending) (lease_at lease) hold) (on.each a below))
      ]

  -- the landing leaves the lease and what any boot holds of it
  land-still : after (lease_at lease) ≡ device (lease_at lease) →
      ((hold : Hold) → grip_while write.kind (lease_at lease == write.block) (first_landed (Some (with_sector write sector))) write.bytes hold
      ≡ grip_while write.kind (lease_at lease == write.block) (first_landed (Some write)) write.bytes hold) →
      LeaseOn g rests appliances time after now seats lease
  land-still same grips = record {
    standing = on.standing;
    limits = on.limits;
    spells = same ∙ on.spells;
    alone = λ m n x y one other. (let a = shrinks m x one in let b = shrinks n y other in on.alone m n a.0 b.0 a.1 b.1);
    backed = λ m x is. elim (open-landed m x is) [
      | inl here ↦
          let P : Issued → Type 0 = λ y. IsBacked time on.standing y in
          let was = on.backed number write here.2 in
          subst P (sym here.1) (record { claim = was.claim; until = was.until; there = was.there; owner = was.owner; guarded = was.guarded; waited = was.waited; of_kind = was.of_kind })
      | inr away ↦ on.backed m x away.1
    ];
    claims = claims-landed on.standing (λ sample early' clear. clear);
    each = λ a below. seat-landed on.standing a below
        (λ ne hold good. good-shrinks rests rests time time writes now lease on.standing (boot_number a (seats a).boots) (seats a).pending (omega arith) shrinks hold good)
        (λ is hold may same' good.
        let boot = boot_number a (seats a).boots in
        let P : Hold → Type 0 = λ h. Good rests time now lease on.standing boot (seats a).pending h in
        subst P (sym (grips hold)) (good-shrinks rests rests time time writes now lease on.standing boot (seats a).pending (omega arith) shrinks _ good));
  }

  -- the block isn't the lease's
  land-away : lease_at lease ≢ write.block → LeaseOn g rests appliances time after now seats lease
  land-away ne =
      let e = eqb-false (lease_at lease) write.block ne in
      land-still (put-other device write.block (with_landed_sector sector write.bytes (device write.block)) (lease_at lease) ne)
      (λ hold. ap (λ (b : Bool). grip_while write.kind b (first_landed (Some (with_sector write sector))) write.bytes hold) e
      ∙ (grip_while-away write.kind (first_landed (Some (with_sector write sector))) write.bytes hold
      ∙ sym (ap (λ (b : Bool). grip_while write.kind b (first_landed (Some write)) write.bytes hold) e ∙ grip_while-away write.kind (first_landed (Some write)) write.bytes hold)))

  -- a sector past the first one of a lease's write changes nothing
  land-past : (k : ℕ) → sector ≡ suc k → (r : LeaseRecord) → write.bytes ≡ lease_bytes r → LeaseOn g rests appliances time after now seats lease
  land-past k is r spells = elim (eqb_tells (lease_at lease) write.block) [
    | inl here ↦
        let at : device write.block ≡ lease_bytes on.standing = ap device (sym here.1) ∙ on.spells in
        let flag : slice_get (slice_set write.landed sector true) 0 ≡ slice_get write.landed 0 = set-other write.landed sector 0 true (λ e. omega (arith, e, is)) in
        land-still
        (ap (put device write.block (with_landed_sector sector write.bytes (device write.block))) here.1
        ∙ (put-same device write.block (with_landed_sector sector write.bytes (device write.block))
        ∙ (ap (λ (s : ℕ). with_landed_sector s write.bytes (device write.block)) is
        ∙ (ap (λ (b : List ℕ). with_landed_sector (suc k) b (device write.block)) spells
        ∙ (ap (with_landed_sector (suc k) (lease_bytes r)) at ∙ (sector-past on.standing r k ∙ (sym at ∙ ap device (sym here.1))))))))
        (λ hold. ap (λ (o : Option Bool). grip_while write.kind (lease_at lease == write.block) (is_set o) write.bytes hold) flag)
    | inr away ↦ land-away away.1
  ]

  -- the first sector of a lease's write is the new record
  first-lands : lease_at lease ≡ write.block → sector ≡ 0 → (r : LeaseRecord) → write.bytes ≡ lease_bytes r → after (lease_at lease) ≡ lease_bytes r
  first-lands here is r spells =
      let at : device write.block ≡ lease_bytes on.standing = ap device (sym here) ∙ on.spells in
      ap (put device write.block (with_landed_sector sector write.bytes (device write.block))) here
      ∙ (put-same device write.block (with_landed_sector sector write.bytes (device write.block))
      ∙ (ap (λ (s : ℕ). with_landed_sector s write.bytes (device write.block)) is
      ∙ (ap (λ (b : List ℕ). with_landed_sector 0 b (device write.block)) spells ∙ (ap (with_landed_sector 0 (lease_bytes r)) at ∙ sector-first on.standing r))))

  -- where the record changes no write is live
  land-changed : (changed : LeaseRecord) → IsLease changed → after (lease_at lease) ≡ lease_bytes changed → NoneLive rests time now lease →
      ((sample : ℕ) → sample ≤ time + 50 → SparesLease on.standing sample → SparesLease changed sample) →
      ((a : ℕ) → a < appliances → GoodSeat g rests time now lease changed a (seats a)) → LeaseOn g rests appliances time after now seats lease
  land-changed changed limits spells none clears each = record {
    standing = changed;
    limits = limits;
    spells = spells;
    alone = λ m n x y one other. absurd (none m x one);
    backed = λ m x is. absurd (none m x is);
    claims = claims-landed changed clears;
    each = each;
  }

  -- the first sector of a claim
  land-claim : write.kind ≡ kind.Claim → lease_at lease ≡ write.block → sector ≡ 0 → LeaseOn g rests appliances time after now seats lease
  land-claim is here first =
      let claiming = on.claims number write found is (sym here) in
      let claim = claiming.claim in
      let s = claim.sample in
      let live : time ≤ (s + window) + 50 = omega (arith, early, claiming.guarded) in
      let waits = claiming.waits (ap (slice_get write.landed) (sym first) ∙ missing) early in
      let none : NoneLive rests time writes lease = λ m x op.
      (let b = on.backed m x op in
      let e = op.live in
      let h = b.guarded in
      claim-alone time on.standing s live waits b.claim b.until b.waited (omega (arith, e, h)) b.there) in
      let none' : NoneLive rests time now lease = λ m x op. (let w = shrinks m x op in none m w.0 w.1) in
      let changed = Claimed claim (s + term) in
      let clears : (sample : ℕ) → sample ≤ time + 50 → SparesLease on.standing sample → SparesLease changed sample =
      λ sample sampled clear. claim-clears time s sample on.standing claim (s + term) refl live sampled clear in
      land-changed changed claiming.limits (first-lands here first changed claiming.spells) none' clears
      (λ a below. seat-landed changed a below
      (λ ne hold good. good-changed rests time writes now lease on.standing changed (boot_number a (seats a).boots) (seats a).pending none' clears
      (λ c u waited live' there only. claim-alone time on.standing s live waits c u waited live' there) hold good)
      (λ pending hold may same good.
      let boot = boot_number a (seats a).boots in
      let P : Bool → WriteKind → Hold → Type 0 = λ flag k h. Good rests time now lease changed boot (seats a).pending (grip_while k (lease_at lease == write.block) flag write.bytes h) in
      let R : Bool → WriteKind → Hold → Type 0 = λ flag k h. Good rests time writes lease on.standing boot (seats a).pending (grip_while k (lease_at lease == write.block) flag write.bytes h) in
      let old : Good rests time writes lease on.standing boot (seats a).pending hold = subst (λ (k : WriteKind). R (first_landed (Some write)) k hold) is good in
      let new : Good rests time now lease changed boot (seats a).pending hold =
      good-changed rests time writes now lease on.standing changed boot (seats a).pending none' clears
      (λ c u waited live' there only. claim-alone time on.standing s live waits c u waited live' there) hold old in
      subst (λ (k : WriteKind). P (first_landed (Some (with_sector write sector))) k hold) (sym is) new))

  -- a write of a lease rests on it
  needs-home : (home : ℕ) → write.block ≡ lease_at home → rests number ≡ home ∷ [] → lease_at lease ≡ write.block → IsUnder rests number lease
  needs-home home at all here = rests-alone lease home (rests number) all (lease-lease lease home (here ∙ at))

  -- the first sector of a write that needs the lease
  module _ (here : lease_at lease ≡ write.block) (first : sector ≡ 0) (needs : IsUnder rests number lease) (unlanded : Unlanded write.kind write.landed)
      (landed-now : Unlanded write.kind (slice_set write.landed sector true) → ⊥) where
    this-open : IsLiveWrite rests time writes lease number write
    this-open = record { found = found; needs = needs; missing = unlanded; live = early }

    none-now : NoneLive rests time now lease
    none-now m x op = elim (open-landed m x op) [
      | inl same ↦ landed-now (let P : Issued → Type 0 = λ y. Unlanded y.kind y.landed in subst P same.1 op.missing)
      | inr away ↦ away.0 (on.alone m number x write away.1 this-open)
    ]

    -- of a seat that waits for another write, or for this one
    needed-seats : (changed : LeaseRecord) → ((sample : ℕ) → sample ≤ time + 50 → SparesLease on.standing sample → SparesLease changed sample) →
        ((a : ℕ) → (seats a).pending ≡ Some number → (hold : Hold) → MayBeAsked g (boot_number a (seats a).boots) (configuration (setting_at g a (seats a).boots) (seats a).log).holds write.kind write.block write.bytes write.guard →
        (configuration (setting_at g a (seats a).boots) (seats a).log).holds (lease_at lease) ≡ hold →
        Good rests time writes lease on.standing (boot_number a (seats a).boots) (seats a).pending hold →
        Good rests time now lease changed (boot_number a (seats a).boots) (seats a).pending
        (grip_while write.kind true true write.bytes hold)) →
        (a : ℕ) → a < appliances → GoodSeat g rests time now lease changed a (seats a)
    needed-seats changed clears mine a below = seat-landed changed a below
        (λ ne hold good. good-changed rests time writes now lease on.standing changed (boot_number a (seats a).boots) (seats a).pending none-now clears
        (λ c u waited live there only. ne (only number write this-open)) hold good)
        (λ pending hold may same good.
        let boot = boot_number a (seats a).boots in
        let zeroth : slice_get write.landed 0 ≡ Some false = ap (slice_get write.landed) (sym first) ∙ missing in
        let before : first_landed (Some write) ≡ false = first-set write false zeroth in
        let set : slice_get (slice_set write.landed sector true) 0 ≡ Some true =
        ap (slice_get (slice_set write.landed sector true)) (sym first) ∙ set-same write.landed sector true false missing in
        let now' : first_landed (Some (with_sector write sector)) ≡ true = ap is_set set in
        let P : Hold → Type 0 = λ h. Good rests time writes lease on.standing boot (seats a).pending h in
        let old : Good rests time writes lease on.standing boot (seats a).pending hold =
        subst P (ap (λ (b : Bool). grip_while write.kind (lease_at lease == write.block) b write.bytes hold) before
        ∙ grip_while-open write.kind (lease_at lease == write.block) write.bytes hold) good in
        let Q : Bool → Bool → Type 0 = λ b flag. Good rests time now lease changed boot (seats a).pending (grip_while write.kind b flag write.bytes hold) in
        subst (λ (b : Bool). Q b (first_landed (Some (with_sector write sector)))) (sym (eqb-true (lease_at lease) write.block here))
        (subst (Q true) (sym now') (mine a pending hold may same old)))

  not-set : (slice_get (slice_set write.landed sector true) 0 ≡ Some false) → sector ≡ 0 → ⊥
  not-set flag first =
      let set : slice_get (slice_set write.landed sector true) 0 ≡ Some true =
      ap (slice_get (slice_set write.landed sector true)) (sym first) ∙ set-same write.landed sector true false missing in
      let e : Some true ≡ Some false = sym set ∙ flag in let P : ⊥ = cc in P

  -- the first sector of a renewal
  land-renew : write.kind ≡ kind.Renew → lease_at lease ≡ write.block → sector ≡ 0 → IsUnder rests number lease → LeaseOn g rests appliances time after now seats lease
  land-renew is here first needs =
      let zeroth : slice_get write.landed 0 ≡ Some false = ap (slice_get write.landed) (sym first) ∙ missing in
      let U : WriteKind → Type 0 = λ k. Unlanded k write.landed in
      let unlanded : Unlanded write.kind write.landed = subst U (sym is) zeroth in
      let V : WriteKind → Type 0 = λ k. Unlanded k (slice_set write.landed sector true) in
      let landed-now : Unlanded write.kind (slice_set write.landed sector true) → ⊥ = λ u. not-set (subst V is u) first in
      let backed = on.backed number write (record { found = found; needs = needs; missing = unlanded; live = early }) in
      let K : WriteKind → Type 0 = λ k. IsOfKind k backed.claim backed.until write.guard write.bytes in
      let of_kind : IsOfKind kind.Renew backed.claim backed.until write.guard write.bytes = subst K is backed.of_kind in
      let next = of_kind.1.0 in
      let spells : write.bytes ≡ lease_bytes (Claimed backed.claim next) = of_kind.1.1 in
      let limits : IsClaimed backed.claim next = of_kind.1.3 in
      let changed = Claimed backed.claim next in
      let clears : (sample : ℕ) → sample ≤ time + 50 → SparesLease on.standing sample → SparesLease changed sample =
      λ sample sampled clear. renew-clears time on.standing backed.claim backed.until next sample backed.there (omega (arith, early, of_kind.0)) sampled clear in
      land-changed changed limits (first-lands here first changed spells) (none-now here first needs unlanded landed-now) clears
      (needed-seats here first needs unlanded landed-now changed clears
      (λ a pending hold may same good.
      let boot = boot_number a (seats a).boots in
      let holds = (configuration (setting_at g a (seats a).boots) (seats a).log).holds in
      let M : WriteKind → Type 0 = λ k. MayBeAsked g boot holds k write.block write.bytes write.guard in
      let renew = (subst M is may).1 in
      let lease-is : lease ≡ renew.lease = lease-lease lease renew.lease (here ∙ renew.at_lease) in
      let held : hold ≡ Held renew.claim renew.until = same-hold holds lease renew.lease hold (Held renew.claim renew.until) same lease-is renew.hold in
      let P : Hold → Type 0 = λ h. Good rests time writes lease on.standing boot (seats a).pending h in
      let old = subst P held good in
      let l = old.limits in
      let renewed-limits : IsClaimed renew.claim renew.next =
      (let low = l.low in let more = renew.later in
      record { boot = l.boot; number = l.number; sample = l.sample; low = omega arith; high = renew.early l.high }) in
      let back : read_lease write.bytes ≡ Some (Claimed renew.claim renew.next) = ap read_lease renew.spells ∙ lease-back (Claimed renew.claim renew.next) renewed-limits in
      let alike : changed ≡ Claimed renew.claim renew.next =
      lease-same changed (Claimed renew.claim renew.next) limits renewed-limits (two-spellings write.bytes (lease_bytes changed) (lease_bytes (Claimed renew.claim renew.next)) spells renew.spells) in
      let Q : WriteKind → Hold → Type 0 = λ k h. Good rests time now lease changed boot (seats a).pending (grip_while k true true write.bytes h) in
      let R : Option LeaseRecord → Type 0 = λ r. Good rests time now lease changed boot (seats a).pending (hold_after_renewal r) in
      let done : R (Some (Claimed renew.claim renew.next)) = record {
        own = old.own;
        limits = renewed-limits;
        waited = old.waited;
        there = λ live. alike;
        only = λ live m x op. absurd (none-now here first needs unlanded landed-now m x op);
      } in
      subst (λ (k : WriteKind). Q k hold) (sym is) (subst R (sym back) done)))

  -- the first sector of a release
  land-release : write.kind ≡ kind.Release → lease_at lease ≡ write.block → sector ≡ 0 → IsUnder rests number lease → LeaseOn g rests appliances time after now seats lease
  land-release is here first needs =
      let zeroth : slice_get write.landed 0 ≡ Some false = ap (slice_get write.landed) (sym first) ∙ missing in
      let U : WriteKind → Type 0 = λ k. Unlanded k write.landed in
      let unlanded : Unlanded write.kind write.landed = subst U (sym is) zeroth in
      let V : WriteKind → Type 0 = λ k. Unlanded k (slice_set write.landed sector true) in
      let landed-now : Unlanded write.kind (slice_set write.landed sector true) → ⊥ = λ u. not-set (subst V is u) first in
      let backed = on.backed number write (record { found = found; needs = needs; missing = unlanded; live = early }) in
      let K : WriteKind → Type 0 = λ k. IsOfKind k backed.claim backed.until write.guard write.bytes in
      let of_kind : IsOfKind kind.Release backed.claim backed.until write.guard write.bytes = subst K is backed.of_kind in
      let clears : (sample : ℕ) → sample ≤ time + 50 → SparesLease on.standing sample → SparesLease Free sample = λ sample sampled clear. tt in
      land-changed Free tt (first-lands here first Free of_kind.1) (none-now here first needs unlanded landed-now) clears
      (needed-seats here first needs unlanded landed-now Free clears
      (λ a pending hold may same good.
      let Q : WriteKind → Type 0 = λ k. Good rests time now lease Free (boot_number a (seats a).boots) (seats a).pending (grip_while k true true write.bytes hold) in
      subst Q (sym is) tt))

  -- a sector of any write
  land-of : (k : WriteKind) (s : ℕ) → write.kind ≡ k → sector ≡ s → IsPlaced g k write.block write.bytes (rests number) → LeaseOn g rests appliances time after now seats lease
  land-of kind.Claim (suc s) is at placed = land-past s at placed.3.0 placed.3.1
  land-of kind.Claim zero is at placed = elim (eqb_tells (lease_at lease) write.block) [ inl here ↦ land-claim is here.1 at | inr away ↦ land-away away.1 ]
  land-of kind.Renew (suc s) is at placed = land-past s at placed.3.0 placed.3.1
  land-of kind.Renew zero is at placed = elim (eqb_tells (lease_at lease) write.block) [ inl here ↦ land-renew is here.1 at (needs-home placed.0 placed.2 placed.4 here.1) | inr away ↦ land-away away.1 ]
  land-of kind.Release (suc s) is at placed = land-past s at placed.3.0 placed.3.1
  land-of kind.Release zero is at placed = elim (eqb_tells (lease_at lease) write.block) [ inl here ↦ land-release is here.1 at (needs-home placed.0 placed.2 placed.4 here.1) | inr away ↦ land-away away.1 ]
  land-of kind.JData s is at placed = land-away (λ e. lease-data g lease placed.0 placed.1 within (e ∙ placed.4))
  land-of kind.JCommit s is at placed = land-away (λ e. lease-descriptor g lease placed.0 placed.1 within (e ∙ placed.4))
  land-of kind.Take s is at placed = land-away (λ e. lease-map g lease placed.0 within (e ∙ placed.2))
  land-of kind.Give s is at placed = land-away (λ e. lease-map g lease placed.0 within (e ∙ placed.2))
  land-of kind.Sweep s is at placed = land-away (λ e. lease-map g lease placed.0 within (e ∙ placed.2))
  land-of kind.Fresh s is at placed = land-away (λ e. lease-pool g lease placed.0 placed.1 within (e ∙ placed.2.here))
  land-of kind.Link s is at placed = land-away (λ e. lease-pool g lease placed.2.0 placed.2.1 within (e ∙ placed.2.2.here))
  land-of kind.Overwrite s is at placed = land-away (λ e. lease-pool g lease placed.2.0 placed.2.1 within (e ∙ placed.2.2.here))
  land-of kind.Record s is at placed = land-away (λ e. lease-record g lease placed.0 within (e ∙ placed.2))
  land-of other s is at placed = absurd placed

  pub lease-lands : IsRight g (rests number) write → LeaseOn g rests appliances time after now seats lease
  lease-lands right = land-of write.kind sector refl refl right.placed
