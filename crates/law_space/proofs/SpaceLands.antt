-- What holds of the maps stays where a sector lands.
use Rattle.std.proofs.Common.{◌≡◌, ◌≢◌, ℕ, ◌+◌, ◌≤◌, ◌<◌, ◌⊎◌, inl, inr, List, Bool, true, false, Option, Some, refl, ap, sym, subst, ◌∙◌, arith, slice_set}
use Rattle.std.specs.Prelude.{slice_get, ◌==◌}
use Rattle.std.proofs.lemmas.Bool.Decides.{eqb_tells}
use Rattle.plx_base.proofs.Devices.{put-same, put-other}
use Rattle.plx_base.specs.Sectors.{Device, put, with_landed_sector}
use Rattle.plx_base.specs.declared.lease.Claim.{Claim}
use Rattle.plx_base.specs.declared.write_kind.WriteKind.{WriteKind}
use Rattle.plx_base.specs.declared.write_kind.WriteKind.TheVariants as kind
use Rattle.plx_base.proofs.Tests.{eqb-is}
use Rattle.plx_disk.proofs.Lists.{set-same, set-other}
use Rattle.plx_disk.specs.Writes.{Issued, MayLand, with_sector}
use Rattle.plx_geom.proofs.Places.{extent-below}
use Rattle.plx_geom.specs.Geometry.{Geometry, extent_lease, map_at}
use Rattle.plx_rules.specs.Boot.{Configuration, configuration}
use Rattle.plx_rules.specs.Holds.{Hold, Held}
use Rattle.plx_rules.specs.Owners.{first_landed, pending_write, is_set}
use Rattle.plx_rules.specs.Settings.{boot_number}
use Rattle.plx_rules.specs.World.{World, Seat, setting_at}
use Rattle.law_lease.proofs.LeaseFrames.{grip_while-open}
use Rattle.law_lease.proofs.LeaseLands.{MayBeAsked, asked-may, grip-asked, not-whole, pending-other}
use Rattle.law_lease.proofs.Leased.{Good, IsAskedAt, StandsConfirmed, IsLiveWrite, Leased, grip_at, grip_while}
use Rattle.law_lease.proofs.Lists.{pending-is}
use Rattle.law_space.proofs.Kept.{AreMarking, IsMarking, KeptSeat, MapKept, Spaced, lease_block}
use Rattle.law_space.proofs.MapWrites.{kept-away, kept-landed, map-of, map-unlanded, marking-landed, on-map}
use Rattle.law_space.proofs.Marks.{IsOfMap}

-- what a boot holds once a sector has landed it held before, or that is the first of a renewal
grip-before : (k : WriteKind) (same : Bool) (write : Issued) (sector : ℕ) (bytes : List ℕ) (hold : Hold) (claim : Claim) (until : ℕ) → slice_get write.landed sector ≡ Some false →
    grip_while k same (first_landed (Some (with_sector write sector))) bytes hold ≡ Held claim until →
    (grip_while k same (first_landed (Some write)) bytes hold ≡ Held claim until) ⊎ ((first_landed (Some write) ≡ false) × (k ≡ kind.Renew) × (same ≡ true))
grip-before k same write sector bytes hold claim until missing e = elim (eqb_tells sector 0) [
  | inl here ↦
      let unset : first_landed (Some write) ≡ false = ap is_set (ap (slice_get write.landed) (sym here.1) ∙ missing) in
      by_kind k same (first_landed (Some (with_sector write sector))) unset e
  | inr away ↦
      let f : first_landed (Some (with_sector write sector)) ≡ first_landed (Some write) = ap is_set (set-other write.landed sector 0 true (λ z. away.1 (sym z))) in
      inl (ap (λ (b : Bool). grip_while k same b bytes hold) (sym f) ∙ e)
]
  where
    by_kind : (k : WriteKind) (same flag : Bool) → first_landed (Some write) ≡ false → grip_while k same flag bytes hold ≡ Held claim until →
        (grip_while k same (first_landed (Some write)) bytes hold ≡ Held claim until) ⊎ ((first_landed (Some write) ≡ false) × (k ≡ kind.Renew) × (same ≡ true))
    by_kind kind.Renew true flag unset e' = inr (unset, refl, refl)
    by_kind kind.Renew false flag unset e' = inl e'
    by_kind kind.Release true true unset e' = absurd (let P : ⊥ = cc in P)
    by_kind kind.Release true false unset e' = inl (ap (λ (b : Bool). grip_while kind.Release true b bytes hold) unset ∙ e')
    by_kind kind.Release false flag unset e' = inl e'
    by_kind other same flag unset e' = inl e'

module _ (w : World) (leased : Leased w) (spaced : Spaced w) (number sector : ℕ) (write : Issued) (may : MayLand w.surface number sector write) where
  abbrev g : Geometry
  g = w.geometry

  abbrev time : ℕ
  time = w.surface.time

  abbrev device : Device
  device = w.surface.device

  abbrev writes : List Issued
  writes = w.surface.writes

  abbrev now : List Issued
  now = slice_set writes number (with_sector write sector)

  abbrev after : Device
  after = put device write.block (with_landed_sector sector write.bytes (device write.block))

  module _ (b : ℕ) (below : b < w.appliances) (extent : ℕ) (within : extent < w.geometry.extents) where
    abbrev seat : Seat
    seat = w.seats b

    abbrev boot : ℕ
    boot = boot_number b (w.seats b).boots

    abbrev p : Configuration
    p = configuration (setting_at w.geometry b (w.seats b).boots) (w.seats b).log

    abbrev lease : ℕ
    lease = lease_block w.geometry extent

    -- what is held, while this is the write that is waited for
    abbrev grip : Option Issued → Hold
    grip pending = grip_at p.place pending lease (p.holds lease)

    pending-before : seat.pending ≡ Some number → pending_write writes seat.pending ≡ Some write
    pending-before is = ap (pending_write writes) is ∙ may.found

    pending-now : seat.pending ≡ Some number → pending_write now seat.pending ≡ Some (with_sector write sector)
    pending-now is = ap (pending_write now) is ∙ set-same writes number (with_sector write sector) write may.found

    -- while its first sector hasn't landed, what is held is what was held as it was asked
    unset : {claim : Claim} {until : ℕ} → first_landed (Some write) ≡ false → p.holds lease ≡ Held claim until →
        grip_while write.kind (lease == write.block) (first_landed (Some write)) write.bytes (p.holds lease) ≡ Held claim until
    unset flag hold = rw (flag, grip_while-open write.kind (lease == write.block) write.bytes (p.holds lease)) hold

    -- the lease was held, in time
    record WasHeld : Type 0 where
      claim : Claim
      until : ℕ
      held : grip (pending_write writes seat.pending) ≡ Held claim until
      live : time ≤ until + 50

    -- it was held before
    held-before : (claim : Claim) (until : ℕ) → grip (pending_write now seat.pending) ≡ Held claim until → time ≤ until + 50 → WasHeld
    held-before claim until e live = elim (pending-is seat.pending number) [
      | inr ne ↦ record { claim = claim; until = until; held = ap grip (sym (pending-other writes number (with_sector write sector) seat.pending ne)) ∙ e; live = live }
      | inl is ↦
          let asked = (leased.seated b below).asked number is in
          let same : asked.0 ≡ write = (let f : Some asked.0 ≡ Some write = sym asked.1 ∙ may.found in cc) in
          let asked' : IsAskedAt p.place boot write = (let P : Issued → Type 0 = λ y. IsAskedAt p.place boot y in subst P same asked.2) in
          let new : grip (pending_write now seat.pending) ≡ grip_while write.kind (lease == write.block) (first_landed (Some (with_sector write sector))) write.bytes (p.holds lease) =
          ap grip (pending-now is) ∙ grip-asked p.place boot write asked' (Some (with_sector write sector)) lease (p.holds lease) in
          let old : grip (pending_write writes seat.pending) ≡ grip_while write.kind (lease == write.block) (first_landed (Some write)) write.bytes (p.holds lease) =
          ap grip (pending-before is) ∙ grip-asked p.place boot write asked' (Some write) lease (p.holds lease) in
          elim (grip-before write.kind (lease == write.block) write sector write.bytes (p.holds lease) claim until may.missing (sym new ∙ e)) [
            | inl before ↦ record { claim = claim; until = until; held = old ∙ before; live = live }
            | inr renewal ↦
                let M : WriteKind → Type 0 = λ k. MayBeAsked g boot p.holds k write.block write.bytes write.guard in
                let renew = (subst M renewal.1 (asked-may g boot p.holds p.filled p.sample p.place write asked' (leased.seated b below).lawful)).1 in
                let hold : p.holds lease ≡ Held renew.claim renew.until = ap p.holds (eqb-is lease write.block renewal.2 ∙ renew.at_lease) ∙ renew.hold in
                let early = may.early in
                let guarded = renew.guarded in
                record { claim = renew.claim; until = renew.until; held = old ∙ unset renewal.0 hold; live = omega (arith, early, guarded) }
          ]
    ]

    -- a write of the extent's map is the one that is waited for
    waited-for : (c : Claim) (u : ℕ) → grip (pending_write writes seat.pending) ≡ Held c u → time ≤ u + 50 → map_at g extent ≡ write.block → seat.pending ≡ Some number
    waited-for c u held live here =
        let home = extent_lease g extent in
        let there = extent-below g extent within in
        let on = on-map g leased.geometry write.kind write.block write.bytes (w.rests number) (leased.right number write may.found).placed extent (sym here) in
        let H : Hold → Type 0 = λ h. Good w.rests time writes home (leased.on home there).standing boot seat.pending h in
        let is-held : StandsConfirmed w.rests time writes home (leased.on home there).standing boot seat.pending c u = subst H held ((leased.on home there).each b below) in
        let op : IsLiveWrite w.rests time writes home number write =
        record { found = may.found; needs = on.1; missing = map-unlanded write.kind write.landed on.0 (not-whole write.landed sector may.missing); live = may.early } in
        is-held.only live number write op

    pub seat-landed : KeptSeat g time extent (after (map_at g extent)) now b seat
    seat-landed = λ claim until e live.
        (let was = held-before claim until e live in
        let kept = spaced.kept b below extent within was.claim was.until was.held was.live in
        elim (eqb_tells (map_at g extent) write.block) [
          | inl here ↦
              let is = waited-for was.claim was.until was.held was.live here.1 in
              let r = leased.right number write may.found in
              let K : Option Issued → Type 0 = λ o. MapKept g extent (device (map_at g extent)) o p.hand p.found in
              let N : Option Issued → Type 0 = λ o. MapKept g extent (after (map_at g extent)) o p.hand p.found in
              let D : List ℕ → Type 0 = λ x. MapKept g extent x (Some (with_sector write sector)) p.hand p.found in
              let lands : after (map_at g extent) ≡ with_landed_sector sector write.bytes (device (map_at g extent)) =
              ap after here.1 ∙ (put-same device write.block (with_landed_sector sector write.bytes (device write.block)) ∙ ap (λ (n : ℕ). with_landed_sector sector write.bytes (device n)) (sym here.1)) in
              subst N (sym (pending-now is)) (subst D (sym lands)
              (kept-landed g extent (device (map_at g extent)) p.hand p.found write sector here.1 may.missing r.flags r.long (subst K (pending-before is) kept)))
          | inr away ↦
              let stays : device (map_at g extent) ≡ after (map_at g extent) = sym (put-other device write.block (with_landed_sector sector write.bytes (device write.block)) (map_at g extent) away.1) in
              let D : List ℕ → Type 0 = λ x. MapKept g extent x (pending_write now seat.pending) p.hand p.found in
              let N : Option Issued → Type 0 = λ o. MapKept g extent (device (map_at g extent)) o p.hand p.found in
              subst D stays (elim (pending-is seat.pending number) [
                | inl is ↦ subst N (sym (pending-now is)) (kept-away g extent (device (map_at g extent)) p.hand p.found write sector away.1 (subst N (pending-before is) kept))
                | inr ne ↦ subst N (sym (pending-other writes number (with_sector write sector) seat.pending ne)) kept
              ])
        ])

  -- the write that lands, and every other
  landed-is : (m : ℕ) (x : Issued) → slice_get now m ≡ Some x → (x ≡ with_sector write sector) ⊎ ((m ≢ number) × (slice_get writes m ≡ Some x))
  landed-is m x there = elim (eqb_tells m number) [
    | inl same ↦
        let P : ℕ → Type 0 = λ k. slice_get now k ≡ Some x in
        inl (let e : Some x ≡ Some (with_sector write sector) = sym (subst P same.1 there) ∙ set-same writes number (with_sector write sector) write may.found in cc)
    | inr away ↦ inr (away.1, sym (set-other writes number m (with_sector write sector) away.1) ∙ there)
  ]

  pub marking-lands : AreMarking time after now
  marking-lands m x there of_map missing live = elim (landed-is m x there) [
    | inl same ↦
        let r = leased.right number write may.found in
        let P : Issued → Type 0 = λ y. IsMarking y (after y.block) in
        let lands : after write.block ≡ with_landed_sector sector write.bytes (device write.block) = put-same device write.block (with_landed_sector sector write.bytes (device write.block)) in
        subst P (sym same) (subst (λ (x : List ℕ). IsMarking (with_sector write sector) x) (sym lands)
        (marking-landed write (device write.block) sector may.missing r.flags r.long
        (spaced.marking number write may.found (subst (λ (y : Issued). IsOfMap y.kind) same of_map) (not-whole write.landed sector may.missing) may.early)))
    | inr old ↦ elim (eqb_tells x.block write.block) [
      | inl here ↦
          let right = leased.right m x old.1 in
          let its = map-of g x.kind x.block x.bytes (w.rests m) of_map right.placed in
          let home = extent_lease g its.0 in
          let on = on-map g leased.geometry write.kind write.block write.bytes (w.rests number) (leased.right number write may.found).placed its.0 (sym here.1 ∙ its.2) in
          let one : IsLiveWrite w.rests time writes home m x = record { found = old.1; needs = its.3; missing = map-unlanded x.kind x.landed of_map missing; live = live } in
          let other : IsLiveWrite w.rests time writes home number write =
          record { found = may.found; needs = on.1; missing = map-unlanded write.kind write.landed on.0 (not-whole write.landed sector may.missing); live = may.early } in
          absurd (old.0 ((leased.on home (extent-below g its.0 its.1)).alone m number x write one other))
      | inr away ↦
          subst (λ (y : List ℕ). IsMarking x y) (sym (put-other device write.block (with_landed_sector sector write.bytes (device write.block)) x.block away.1))
          (spaced.marking m x old.1 of_map missing live)
    ]
  ]
