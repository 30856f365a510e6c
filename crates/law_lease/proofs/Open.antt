-- Open writes: those of which a sector may still land, and those that a boot waits for while it holds the lease.
use Rattle.std.proofs.Common.{◌≡◌, ℕ, ◌+◌, ◌<◌, ◌≤◌, ◌⊎◌, inl, inr, List, Some, None, ap, sym, subst, ◌∙◌, arith}
use Rattle.std.specs.Prelude.{slice_get}
use Rattle.plx_base.specs.declared.lease.Claim.{Claim}
use Rattle.plx_base.specs.declared.lease.LeaseRecord.TheVariants.{Claimed}
use Rattle.plx_commands.proofs.Places.{at-all}
use Rattle.plx_commands.specs.Places.{at}
use Rattle.plx_disk.specs.Writes.{Issued, MayLand}
use Rattle.plx_geom.specs.Geometry.{Geometry, lease_count, lease_at}
use Rattle.plx_rules.specs.Process.{Ends, ReadThen, WriteThen, ClockThen, UntilThen}
use Rattle.plx_rules.specs.Boot.{Place, Idle, Begins, In, configuration}
use Rattle.plx_rules.specs.Holds.{Hold, Held}
use Rattle.plx_rules.specs.Owners.{pending_write}
use Rattle.plx_rules.specs.Rests.{IsUnder}
use Rattle.plx_rules.specs.Settings.{boot_number}
use Rattle.plx_rules.specs.World.{World, Seat, setting_at}
use Rattle.law_lease.proofs.LeaseFrames.{one-claim}
use Rattle.law_lease.proofs.LeaseIssues.{boots-apart}
use Rattle.law_lease.proofs.Leased.{IsLiveWrite, Unlanded, StandsConfirmed, Good, IsAskedAt, grip_at, Leased}
use Rattle.plx_base.proofs.Tests.{same-some}

-- an appliance's boot holds a lease, in time
abbrev pub GripsLease : Geometry → (time : ℕ) → List Issued → (appliance : ℕ) → Seat → (lease : ℕ) → Claim → (until : ℕ) → Type 0
GripsLease g time writes a seat lease claim until =
    (grip_at (configuration (setting_at g a seat.boots) seat.log).place (pending_write writes seat.pending) (lease_at lease) ((configuration (setting_at g a seat.boots) seat.log).holds (lease_at lease)) ≡ Held claim until)
    × (time ≤ until + 50)

-- a boot waits for a write that rests on the lease, and holds the lease in time: the write was not answered yet, whether it has landed whole or not, and whatever its guard
abbrev pub IsAwaited : Geometry → (rests : ℕ → List ℕ) → (appliances time : ℕ) → List Issued → (ℕ → Seat) → (lease number : ℕ) → Issued → Type 0
IsAwaited g rests appliances time writes seats lease number write =
    (a : ℕ) × (a < appliances) × ((claim : Claim) × (until : ℕ) × GripsLease g time writes a (seats a) lease claim until) × ((seats a).pending ≡ Some number)
    × (slice_get writes number ≡ Some write) × IsUnder rests number lease

-- a write is open under a lease: a sector of it may still land, or it is awaited
abbrev pub IsOpen : Geometry → (rests : ℕ → List ℕ) → (appliances time : ℕ) → List Issued → (ℕ → Seat) → (lease number : ℕ) → Issued → Type 0
IsOpen g rests appliances time writes seats lease number write =
    IsLiveWrite rests time writes lease number write ⊎ IsAwaited g rests appliances time writes seats lease number write

-- it is an issued write
pub open-found : (g : Geometry) (rests : ℕ → List ℕ) (appliances time : ℕ) (writes : List Issued) (seats : ℕ → Seat) (lease n : ℕ) (x : Issued) →
    IsOpen g rests appliances time writes seats lease n x → slice_get writes n ≡ Some x
open-found g rests appliances time writes seats lease n x (inl live) = live.found
open-found g rests appliances time writes seats lease n x (inr awaited) = awaited.4

-- while a sector that changes something may still land, the write is open under each lease on which it rests
pub lands-open : (w : World) (number sector : ℕ) (write : Issued) → MayLand w.surface number sector write → Unlanded write.kind write.landed →
    (lease : ℕ) → IsUnder w.rests number lease → IsOpen w.geometry w.rests w.appliances w.surface.time w.surface.writes w.seats lease number write
lands-open w number sector write may missing lease under = inl (record { found = may.found; needs = under; missing = missing; live = may.early })

-- what is open later was open before
pub open-later : (g : Geometry) (rests : ℕ → List ℕ) (appliances time by : ℕ) (writes : List Issued) (seats : ℕ → Seat) (lease n : ℕ) (x : Issued) →
    IsOpen g rests appliances (time + by) writes seats lease n x → IsOpen g rests appliances time writes seats lease n x
open-later g rests appliances time by writes seats lease n x (inl op) = inl (record { found = op.found; needs = op.needs; missing = op.missing; live = (let l = op.live in omega arith) })
open-later g rests appliances time by writes seats lease n x (inr o) = inr (o.0, o.1, (o.2.0, o.2.1, (o.2.2.0, (let l = o.2.2.1 in omega arith))), o.3, o.4, o.5)

-- where a seat comes to wait for no write, what is open was open before
pub open-elsewhere : (g : Geometry) (rests : ℕ → List ℕ) (appliances time : ℕ) (writes : List Issued) (seats : ℕ → Seat) (lease a : ℕ) (seat : Seat) → seat.pending ≡ None →
    (n : ℕ) (x : Issued) → IsOpen g rests appliances time writes (at seats a seat) lease n x → IsOpen g rests appliances time writes seats lease n x
open-elsewhere g rests appliances time writes seats lease a seat free n x (inl live) = inl live
open-elsewhere g rests appliances time writes seats lease a seat free n x (inr o) =
    at-all (λ b s. b < appliances → ((claim : Claim) × (until : ℕ) × GripsLease g time writes b s lease claim until) → s.pending ≡ Some n → IsOpen g rests appliances time writes seats lease n x)
    seats a seat
    (λ below grips waits. absurd (let e : None ≡ Some n = sym free ∙ waits in let P : ⊥ = cc in P))
    (λ b ne below grips waits. inr (b, below, grips, waits, o.4, o.5))
    o.0 o.1 o.2 o.3

-- the write that is asked at a place is the boot's
asked-owner : (place : Place) (boot : ℕ) (x : Issued) → IsAskedAt place boot x → x.owner ≡ boot
asked-owner (In known command (WriteThen kind block bytes guard done fault missed)) boot x asked = asked.4
asked-owner (Idle known) boot x asked = absurd asked
asked-owner (Begins known command) boot x asked = absurd asked
asked-owner (In known command (Ends end)) boot x asked = absurd asked
asked-owner (In known command (ReadThen block rest fault)) boot x asked = absurd asked
asked-owner (In known command (ClockThen rest)) boot x asked = absurd asked
asked-owner (In known command (UntilThen from rest)) boot x asked = absurd asked

module _ (w : World) (leased : Leased w) where
  -- the write that a boot waits for is its own
  waits-own : (a n : ℕ) (x : Issued) → a < w.appliances → (w.seats a).pending ≡ Some n → slice_get w.surface.writes n ≡ Some x → x.owner ≡ boot_number a (w.seats a).boots
  waits-own a n x below waits found =
      let asked = (leased.seated a below).asked n waits in
      let same : asked.0 ≡ x = (let e : Some asked.0 ≡ Some x = sym asked.1 ∙ found in cc) in
      ap (λ (y : Issued). y.owner) (sym same) ∙ asked-owner _ _ asked.0 asked.2

  -- two boots don't wait for one write
  pub one-waits : (a b n : ℕ) → a < w.appliances → b < w.appliances → (w.seats a).pending ≡ Some n → (w.seats b).pending ≡ Some n → a ≡ b
  one-waits a b n one other waits waits' =
      let few = leased.few in
      let asked = (leased.seated a one).asked n waits in
      boots-apart a b (w.seats a).boots (w.seats b).boots (omega arith) (omega arith)
      (sym (waits-own a n asked.0 one waits asked.1) ∙ waits-own b n asked.0 other waits' asked.1)

  module _ (lease : ℕ) (within : lease < lease_count w.geometry) where
    -- what a boot holds in time is right
    grips-held : (a : ℕ) → a < w.appliances → (claim : Claim) (until : ℕ) → GripsLease w.geometry w.surface.time w.surface.writes a (w.seats a) lease claim until →
        StandsConfirmed w.rests w.surface.time w.surface.writes lease (leased.on lease within).standing (boot_number a (w.seats a).boots) (w.seats a).pending claim until
    grips-held a below claim until grips =
        let on = leased.on lease within in
        let P : Hold → Type 0 = λ h. Good w.rests w.surface.time w.surface.writes lease on.standing (boot_number a (w.seats a).boots) (w.seats a).pending h in
        subst P grips.0 (on.each a below)

    -- two boots don't hold one lease
    pub grips-one : (a b : ℕ) → a < w.appliances → b < w.appliances → (c d : Claim) (u v : ℕ) → GripsLease w.geometry w.surface.time w.surface.writes a (w.seats a) lease c u →
        GripsLease w.geometry w.surface.time w.surface.writes b (w.seats b) lease d v → a ≡ b
    grips-one a b one other c d u v grips grips' =
        let few = leased.few in
        let mine = grips-held a one c u grips in
        let its = grips-held b other d v grips' in
        boots-apart a b (w.seats a).boots (w.seats b).boots (omega arith) (omega arith)
        (sym mine.own ∙ (ap (λ (x : Claim). x.boot.0) (one-claim (leased.on lease within).standing c d u v (mine.there grips.1) (its.there grips'.1)).0 ∙ its.own))

    -- what is open under a lease that a boot holds is what the boot waits for
    pub grips-only : (a : ℕ) → a < w.appliances → (c : Claim) (u : ℕ) → GripsLease w.geometry w.surface.time w.surface.writes a (w.seats a) lease c u →
        (n : ℕ) (x : Issued) → IsOpen w.geometry w.rests w.appliances w.surface.time w.surface.writes w.seats lease n x → (w.seats a).pending ≡ Some n
    grips-only a below c u grips n x (inl live) = (grips-held a below c u grips).only grips.1 n x live
    grips-only a below c u grips n x (inr o) =
        let same = grips-one a o.0 below o.1 c o.2.0 u o.2.1 grips o.2.2 in
        ap (λ (b : ℕ). (w.seats b).pending) same ∙ o.3

    -- the claim stands under which a write is open: the record on the lease is one of the write's boot
    pub open-stands : (n : ℕ) (x : Issued) → IsOpen w.geometry w.rests w.appliances w.surface.time w.surface.writes w.seats lease n x →
        (claim : Claim) × (until : ℕ) × ((leased.on lease within).standing ≡ Claimed claim until) × (claim.boot.0 ≡ x.owner)
    open-stands n x (inl live) = (let b = (leased.on lease within).backed n x live in (b.claim, b.until, b.there, b.owner))
    open-stands n x (inr o) =
        let held = grips-held o.0 o.1 o.2.0 o.2.1 o.2.2 in
        (o.2.0, o.2.1, held.there o.2.2.1, held.own ∙ sym (waits-own o.0 n x o.1 o.3 o.4))

    -- two writes that are open under one lease are one
    pub open-alone : (m n : ℕ) (x y : Issued) → IsOpen w.geometry w.rests w.appliances w.surface.time w.surface.writes w.seats lease m x →
        IsOpen w.geometry w.rests w.appliances w.surface.time w.surface.writes w.seats lease n y → m ≡ n
    open-alone m n x y (inl one) (inl other) = (leased.on lease within).alone m n x y one other
    open-alone m n x y (inr o) other = same-some m n (sym o.3 ∙ grips-only o.0 o.1 o.2.0 o.2.1 o.2.2 n y other)
    open-alone m n x y (inl one) (inr o) = same-some m n (sym (grips-only o.0 o.1 o.2.0 o.2.1 o.2.2 m x (inl one)) ∙ o.3)
