-- Fresh blocks hold what they were filled with, as long as the lease of their extent is held.
use Rattle.plx_base.proofs.Mixed.{mixed-all, mixed-none}
use Rattle.plx_base.specs.Sectors.{with_landed_sectors}
use Rattle.plx_commands.specs.Places.{at}
use Rattle.plx_disk.specs.Writes.{all_sectors, fresh_write}
use Rattle.plx_rules.specs.Rests.{home_of}
use Rattle.law_lease.proofs.Frame.{Frame, frame-others, land-frame, landed-or, placed-within}
use Rattle.law_lease.proofs.Open.{IsOpen, open-alone, open-elsewhere, open-found}
use Rattle.law_lease.proofs.Rests.{home-in}
use Rattle.law_space.proofs.Kept.{IsMarking}
use Rattle.law_space.proofs.MapWrites.{marking-landed}
use Rattle.law_tree.proofs.ByKind.{OnFresh, TreePlaced}
use Rattle.law_tree.proofs.TreeLands.{LandsAs}
use Rattle.std.proofs.Common.{arith, length, ◌≡◌, ◌≢◌, ℕ, ◌<◌, ◌⊎◌, inl, inr, List, [], ◌∷◌, Bool, true, false, Option, Some, None, refl, ap, sym, ◌∙◌, subst, slice_set}
use Rattle.std.specs.Prelude.{slice_get, filter, if◌then◌else◌}
use Rattle.std.proofs.lemmas.Bool.Decides.{eqb_tells}
use Rattle.plx_base.proofs.Devices.{put-other, put-same}
use Rattle.plx_base.specs.Sectors.{Device, put, with_landed_sector}
use Rattle.plx_base.specs.declared.lease.Claim.{Claim}
use Rattle.plx_base.specs.declared.write_kind.WriteKind.{WriteKind}
use Rattle.plx_base.specs.declared.write_kind.WriteKind.TheVariants as kind
use Rattle.plx_commands.specs.Replies.{is_in}
use Rattle.plx_disk.specs.Writes.{Issued, MayLand, with_sector}
use Rattle.plx_disk.proofs.Lists.{set-same, set-other}
use Rattle.plx_geom.specs.Geometry.{Geometry, extent_lease}
use Rattle.plx_rules.specs.Boot.{configuration}
use Rattle.plx_rules.specs.Rests.{extent_of}
use Rattle.plx_rules.specs.World.{World, Seat, Reached, setting_at}
use Rattle.law_lease.proofs.Frame.{grips-before}
use Rattle.law_lease.proofs.LeaseSteps.{reached-leased}
use Rattle.law_lease.proofs.Leased.{Leased}
use Rattle.law_lease.proofs.Open.{GripsLease, grips-only}
use Rattle.law_tree.proofs.Moved.{apart-free}
use Rattle.law_tree.proofs.Roots.{pool-extent-within}
use Rattle.law_tree.proofs.TreeLands.{lands}
use Rattle.law_tree.proofs.Treed.{Treed, due_at_seat}
use Rattle.plx_geom.proofs.Places.{extent-below}

-- a block was filled with these bytes
abbrev pub IsFilled : (block : ℕ) → List ℕ → List (ℕ × List ℕ) → Type 0
IsFilled block bytes [] = ⊥
IsFilled block bytes (one ∷ others) = ((block ≡ one.0) × (bytes ≡ one.1)) ⊎ IsFilled block bytes others

-- of those that pass a test
pub filled-filter : (test : (ℕ × List ℕ) → Bool) (block : ℕ) (bytes : List ℕ) (filled : List (ℕ × List ℕ)) → IsFilled block bytes (filter test filled) → IsFilled block bytes filled × (test (block, bytes) ≡ true)
filled-filter test block bytes [] is = absurd is
filled-filter test block bytes (one ∷ others) is = by_test (test one) refl (filled-filter test block bytes others) is
  where
    by_test : (t : Bool) → test one ≡ t → (IsFilled block bytes (filter test others) → IsFilled block bytes others × (test (block, bytes) ≡ true)) → IsFilled block bytes (if t then one ∷ filter test others else filter test others) → IsFilled block bytes (one ∷ others) × (test (block, bytes) ≡ true)
    by_test true e rest (inl here) = (inl here, (let P : ℕ × List ℕ → Type 0 = λ x. test x ≡ true in let same : one ≡ (block, bytes) = (λ i. (sym here.0 i, sym here.1 i)) in subst P same e))
    by_test true e rest (inr later) = (let r = rest later in (inr r.0, r.1))
    by_test false e rest later = (let r = rest later in (inr r.0, r.1))

-- it isn't being written now
abbrev pub IsNotPending : List Issued → (pending : Option ℕ) → (block : ℕ) → Type 0
IsNotPending writes pending block = (n : ℕ) (x : Issued) → pending ≡ Some n → slice_get writes n ≡ Some x → x.block ≢ block

-- a block that a boot has filled, and that is in its hand, holds those bytes
abbrev pub FilledSeat : Geometry → (time : ℕ) → Device → List Issued → (appliance : ℕ) → Seat → Type 0
FilledSeat g time d writes a seat =
    (block : ℕ) (bytes : List ℕ) → IsFilled block bytes (configuration (setting_at g a seat.boots) seat.log).filled → IsNotPending writes seat.pending block →
    is_in block (due_at_seat g a seat) ≡ true → (claim : Claim) (until : ℕ) → GripsLease g time writes a seat (extent_lease g (extent_of g block)) claim until → d block ≡ bytes

-- the landing of a sector leaves it
module _ (names : ℕ → ℕ → Type 0) (w : World) (reached : Reached w) (treed : Treed names w) (number sector : ℕ) (write : Issued) (may : MayLand w.surface number sector write) where
  abbrev now : List Issued
  now = slice_set w.surface.writes number (with_sector write sector)

  abbrev after : Device
  after = put w.surface.device write.block (with_landed_sector sector write.bytes (w.surface.device write.block))

  pub filled-lands : (b : ℕ) → b < w.appliances → FilledSeat w.geometry w.surface.time w.surface.device w.surface.writes b (w.seats b) → FilledSeat w.geometry w.surface.time after now b (w.seats b)
  filled-lands b below before c x is unwritten in_hand claim until grips =
      let leased = reached-leased reached in
      let lease = extent_lease w.geometry (extent_of w.geometry c) in
      let was = grips-before w leased number sector write may lease b below claim until grips in
      let old = before c x is unwritten' in_hand was.0 was.1 was.2 in
      let free = treed.fresh b below c in_hand was.0 was.1 was.2 in
      let L = lands names w reached treed number sector write may in
      let ne : c ≢ write.block = λ at. apart-free w.geometry w.surface.device L.under write.block L.writes c free.pool free.off
      (λ under. unwritten' number write (grips-only w leased lease (extent-below w.geometry (extent_of w.geometry c) (pool-extent-within w.geometry c free.pool)) b below was.0 was.1 was.2 number write (L.opens lease under)) may.found (sym at)) at in
      put-other w.surface.device write.block (with_landed_sector sector write.bytes (w.surface.device write.block)) c ne ∙ old
    where
      unwritten' : IsNotPending w.surface.writes (w.seats b).pending c
      unwritten' n y waits found = elim (eqb_tells n number) [
        | inl same ↦
            let there : slice_get w.surface.writes number ≡ Some y = subst (λ (m : ℕ). slice_get w.surface.writes m ≡ Some y) same.1 found in
            let y_is : write ≡ y = (let e : Some write ≡ Some y = sym may.found ∙ there in cc) in
            let P : ℕ → Type 0 = λ m. slice_get now m ≡ Some (with_sector write sector) in
            let blocks : write.block ≡ y.block = ap (λ (z : Issued). z.block) y_is in
            λ at. unwritten n (with_sector write sector) waits (subst P (sym same.1) (set-same w.surface.writes number (with_sector write sector) write may.found)) (blocks ∙ at)
        | inr away ↦ unwritten n y waits (set-other w.surface.writes number n (with_sector write sector) away.1 ∙ found)
      ]

-- ---- a fresh block while it is written

-- of a fresh write that is open under its home some sectors stand on what stood there before
abbrev pub FreshMarked : Geometry → (rests : ℕ → List ℕ) → (appliances time : ℕ) → Device → List Issued → (ℕ → Seat) → Type 0
FreshMarked g rests appliances time d writes seats =
    (home n : ℕ) (x : Issued) → home_of (rests n) ≡ Some home → IsOpen g rests appliances time writes seats home n x → x.kind ≡ kind.Fresh → IsMarking x (d x.block)

-- once it has landed whole the block holds its bytes
pub marked-whole : (x : Issued) (now : List ℕ) → IsMarking x now → x.landed ≡ all_sectors → length x.bytes ≡ 4096 → now ≡ x.bytes
marked-whole x now marking all long =
    marking.mixed_now ∙ (ap (λ (l : List Bool). with_landed_sectors l x.bytes marking.base) all ∙ mixed-all 8 x.bytes marking.base (omega (arith, long)) (let w = marking.whole in omega (arith, w)))

-- it is so as it is issued
pub marked-fresh : (boot block : ℕ) (bytes : List ℕ) (guard : ℕ) (now : List ℕ) → length now ≡ 4096 → IsMarking (fresh_write boot kind.Fresh block bytes guard) now
marked-fresh boot block bytes guard now whole = record { base = now; whole = whole; mixed_now = sym (mixed-none 8 bytes now); one_way = tt }

-- where a seat comes to wait for no write it stays
pub marked-elsewhere : (g : Geometry) (rests : ℕ → List ℕ) (appliances time : ℕ) (d : Device) (writes : List Issued) (seats : ℕ → Seat) (a : ℕ) (seat : Seat) → seat.pending ≡ None →
    FreshMarked g rests appliances time d writes seats → FreshMarked g rests appliances time d writes (at seats a seat)
marked-elsewhere g rests appliances time d writes seats a seat free marked home n x is op fresh = marked home n x is (open-elsewhere g rests appliances time writes seats home a seat free n x op) fresh

-- and at each landing
module _ (names : ℕ → ℕ → Type 0) (w : World) (reached : Reached w) (treed : Treed names w) (number sector : ℕ) (write : Issued) (may : MayLand w.surface number sector write) where
  abbrev g : Geometry
  g = w.geometry

  abbrev changed : Device
  changed = put w.surface.device write.block (with_landed_sector sector write.bytes (w.surface.device write.block))

  abbrev flagged : List Issued
  flagged = slice_set w.surface.writes number (with_sector write sector)

  pub marked-lands : FreshMarked w.geometry w.rests w.appliances w.surface.time w.surface.device w.surface.writes w.seats → FreshMarked w.geometry w.rests w.appliances w.surface.time changed flagged w.seats
  marked-lands marked home n x is op fresh = elim (landed-or w leased number sector write may n x (open-found g w.rests w.appliances w.surface.time flagged w.seats home n x op)) [
    | inl here ↦
        let is' : home_of (w.rests number) ≡ Some home = subst (λ (m : ℕ). home_of (w.rests m) ≡ Some home) here.0 is in
        let op' : IsOpen g w.rests w.appliances w.surface.time flagged w.seats home number x = subst (λ (m : ℕ). IsOpen g w.rests w.appliances w.surface.time flagged w.seats home m x) here.0 op in
        let kind' : write.kind ≡ kind.Fresh = sym (ap (λ (y : Issued). y.kind) here.1) ∙ fresh in
        let old = marked home number write is' (frame.still home x op') kind' in
        let r = leased.right number write may.found in
        let lands' : changed write.block ≡ with_landed_sector sector write.bytes (w.surface.device write.block) = put-same w.surface.device write.block (with_landed_sector sector write.bytes (w.surface.device write.block)) in
        subst (λ (y : Issued). IsMarking y (changed y.block)) (sym here.1)
        (subst (λ (y : List ℕ). IsMarking (with_sector write sector) y) (sym lands') (marking-landed write (w.surface.device write.block) sector may.missing r.flags r.long old))
    | inr away ↦
        let within = placed-within g home x.kind x.block x.bytes (w.rests n) (leased.right n x away.1).placed (home-in home (w.rests n) is) in
        let f = frame-others w leased changed flagged number write frame home within n x away.0 op in
        let on : OnFresh g w.surface.device home x.block = subst (λ (k : WriteKind). TreePlaced k g w.surface.device home x.block x.bytes) fresh (treed.placed home n x is f.0) in
        let ne : x.block ≢ write.block = apart-free g w.surface.device L.under write.block L.writes x.block on.pool on.off
        (λ under. away.0 (open-alone w leased home within n number x write f.0 (subst (λ (l : ℕ). IsOpen g w.rests w.appliances w.surface.time w.surface.writes w.seats l number write) (sym on.lease) (L.opens (extent_lease g (extent_of g x.block)) under)))) in
        subst (λ (y : List ℕ). IsMarking x y) (sym (put-other w.surface.device write.block (with_landed_sector sector write.bytes (w.surface.device write.block)) x.block ne)) (marked home n x is f.0 fresh)
  ]
    where
      leased : Leased w
      leased = reached-leased reached

      frame : Frame w.geometry w.rests w.appliances w.surface.time w.surface.device changed w.surface.writes flagged w.seats number write
      frame = land-frame w leased number sector write may

      L : LandsAs names w reached treed number sector write may write.kind
      L = lands names w reached treed number sector write may
