-- What is open after an event was open before, and what the landing of a sector leaves alone, as each lease sees it.
use Rattle.std.proofs.Common.{◌≡◌, ◌≢◌, ℕ, zero, suc, ◌+◌, ◌≤◌, ◌<◌, ◌⊎◌, inl, inr, List, [], ◌∷◌, ◌++◌, Bool, true, false, Option, Some, None, refl, ap, sym, subst, ◌∙◌, arith, length, slice_set}
use Rattle.std.specs.Prelude.{slice_get, ◌==◌, ◌||◌}
use Rattle.std.proofs.lemmas.Bool.Decides.{eqb_tells}
use Rattle.std.proofs.lemmas.Option.{slice_get_within}
use Rattle.plx_base.specs.Sectors.{Device, put, with_landed_sector}
use Rattle.plx_base.proofs.Devices.{put-other}
use Rattle.plx_base.specs.declared.lease.Claim.{Claim}
use Rattle.plx_base.specs.declared.write_kind.WriteKind.{WriteKind}
use Rattle.plx_base.specs.declared.write_kind.WriteKind.TheVariants as kind
use Rattle.plx_commands.proofs.Places.{at-all, at-other}
use Rattle.plx_commands.specs.Places.{at}
use Rattle.plx_commands.specs.Replies.{is_in}
use Rattle.plx_disk.proofs.Lists.{set-other, set-same, push-before, push-last}
use Rattle.plx_disk.specs.Writes.{Issued, MayLand, fresh_write, with_sector, all_sectors}
use Rattle.plx_geom.proofs.Places.{lease-lease, image-below, extent-below}
use Rattle.plx_geom.specs.Geometry.{Geometry, lease_count, lease_at, root_lease, image_lease, extent_lease}
use Rattle.plx_rules.specs.Boot.{Configuration, configuration}
use Rattle.plx_rules.specs.Holds.{Held}
use Rattle.plx_rules.specs.Owners.{pending_write, first_landed, is_set}
use Rattle.plx_rules.specs.Rests.{AreWithin, IsUnder, extent_of, extents_of, home_of}
use Rattle.plx_rules.specs.Settings.{boot_number}
use Rattle.plx_rules.specs.World.{World, Seat, setting_at}
use Rattle.plx_rules.specs.Homes.{Covers}
use Rattle.law_lease.proofs.Covers.{lease-uncovered, pool-uncovered, home-covers, write-covered}
use Rattle.law_lease.proofs.LeaseFrames.{grip-open, grip_while-open, grip_while-away}
use Rattle.law_lease.proofs.LeaseLands.{MayBeAsked, unlanded-before, asked-may, grip-asked, first-set, pending-other, not-whole}
use Rattle.law_lease.proofs.Leased.{IsPlaced, IsAskedAt, IsRight, Unlanded, grip_while, grip_at, Leased}
use Rattle.law_lease.proofs.Lists.{pending-is, push-cases}
use Rattle.law_lease.proofs.Open.{GripsLease, IsOpen, open-found, open-alone, lands-open}
use Rattle.law_lease.proofs.Rests.{either-in, home-in, rests-home, needs-before, needs-last}
use Rattle.plx_base.proofs.Tests.{same-some}

-- ---- what a landing does, as one lease sees it

-- what the lease covers is the same on two devices
abbrev pub SameUnder : Geometry → (lease : ℕ) → (device other : Device) → Type 0
SameUnder g lease device other = (block : ℕ) → Covers g lease block → other block ≡ device block

-- the write is written under the lease: the lease is its home, and it is open there
pub record IsAtHome (g : Geometry) (rests : ℕ → List ℕ) (appliances time : ℕ) (writes : List Issued) (seats : ℕ → Seat) (number : ℕ) (write : Issued) (lease : ℕ) : Type 0 where
  pub covers : Covers g lease write.block
  pub home : home_of (rests number) ≡ Some lease
  pub opens : IsOpen g rests appliances time writes seats lease number write

-- or it is written elsewhere, and changes nothing that the lease covers
pub record IsAway (g : Geometry) (device after : Device) (block lease : ℕ) : Type 0 where
  pub uncovered : Covers g lease block → ⊥
  pub same : SameUnder g lease device after

-- the frame of a landing: each lease sees it as its own, or as away; every other write that is open after it was open before, and so was the one that lands
pub record Frame (g : Geometry) (rests : ℕ → List ℕ) (appliances time : ℕ) (device after : Device) (writes now : List Issued) (seats : ℕ → Seat) (number : ℕ) (write : Issued) : Type 0 where
  pub each : (lease : ℕ) → lease < lease_count g → (IsAtHome g rests appliances time writes seats number write lease) ⊎ (IsAway g device after write.block lease)
  pub before : (lease n : ℕ) (x : Issued) → n ≢ number → IsOpen g rests appliances time now seats lease n x → IsOpen g rests appliances time writes seats lease n x
  pub still : (lease : ℕ) (x : Issued) → IsOpen g rests appliances time now seats lease number x → IsOpen g rests appliances time writes seats lease number write

-- one that rests on one lease
alone-within : (g : Geometry) (lease home : ℕ) (rests : List ℕ) → home < lease_count g → rests ≡ home ∷ [] → is_in lease rests ≡ true → lease < lease_count g
alone-within g lease home rests within all under = subst (λ (l : ℕ). l < lease_count g) (sym (rests-home lease home rests all under)) within

-- one that rests on an image's lease and on those of the extents of some blocks
linked-within : (g : Geometry) (lease : ℕ) (named : List ℕ) → AreWithin g named → is_in lease (extents_of g named) ≡ true → lease < lease_count g
linked-within g lease [] within under = absurd (let P : ⊥ = cc in P)
linked-within g lease (block ∷ blocks) within under = elim (eqb_tells lease (extent_lease g (extent_of g block))) [
  | inl here ↦ (let b = extent-below g (extent_of g block) within.0 in subst (λ (l : ℕ). l < lease_count g) (sym here.1) b)
  | inr away ↦ linked-within g lease blocks within.1 (subst (λ (t : Bool). (t || is_in lease (extents_of g blocks)) ≡ true) away.0 under)
]

link-within : (g : Geometry) (lease image : ℕ) (named rests : List ℕ) → image < g.images → AreWithin g named → rests ≡ image_lease image ∷ extents_of g named → is_in lease rests ≡ true → lease < lease_count g
link-within g lease image named rests below within all under = elim (eqb_tells lease (image_lease image)) [
  | inl here ↦ (let b = image-below g image below in subst (λ (l : ℕ). l < lease_count g) (sym here.1) b)
  | inr away ↦
      let P : List ℕ → Type 0 = λ l. is_in lease l ≡ true in
      linked-within g lease named within (subst (λ (t : Bool). (t || is_in lease (extents_of g named)) ≡ true) away.0 (subst P all under))
]

-- what each kind shows of its landing: where a lease covers its block, each of its sectors may change something
covered-unlanded : (g : Geometry) (lease : ℕ) (k : WriteKind) (block : ℕ) (bytes rests : List ℕ) (flags : List Bool) → Covers g lease block → IsPlaced g k block bytes rests → flags ≢ all_sectors → Unlanded k flags
covered-unlanded g lease kind.Claim block bytes rests flags covers placed missing = absurd (lease-uncovered g lease block placed.0 placed.1 placed.2 covers)
covered-unlanded g lease kind.Renew block bytes rests flags covers placed missing = absurd (lease-uncovered g lease block placed.0 placed.1 placed.2 covers)
covered-unlanded g lease kind.Release block bytes rests flags covers placed missing = absurd (lease-uncovered g lease block placed.0 placed.1 placed.2 covers)
covered-unlanded g lease other block bytes rests flags covers placed missing = missing

-- a write rests on leases that there are
pub placed-within : (g : Geometry) (lease : ℕ) (k : WriteKind) (block : ℕ) (bytes rests : List ℕ) → IsPlaced g k block bytes rests → is_in lease rests ≡ true → lease < lease_count g
placed-within g lease kind.Claim block bytes rests placed under = absurd (let P : List ℕ → Type 0 = λ l. is_in lease l ≡ true in let e : false ≡ true = subst P placed.4 under in let Q : ⊥ = cc in Q)
placed-within g lease kind.Renew block bytes rests placed under = alone-within g lease placed.0 rests placed.1 placed.4 under
placed-within g lease kind.Release block bytes rests placed under = alone-within g lease placed.0 rests placed.1 placed.4 under
placed-within g lease kind.Take block bytes rests placed under = alone-within g lease (extent_lease g placed.0) rests (extent-below g placed.0 placed.1) placed.3 under
placed-within g lease kind.Give block bytes rests placed under = alone-within g lease (extent_lease g placed.0) rests (extent-below g placed.0 placed.1) placed.3 under
placed-within g lease kind.Sweep block bytes rests placed under =
    let P : List ℕ → Type 0 = λ l. is_in lease l ≡ true in
    elim (either-in lease (extent_lease g placed.0) root_lease (subst P placed.3 under)) [
      | inl home ↦ (let b = extent-below g placed.0 placed.1 in subst (λ (l : ℕ). l < lease_count g) (sym home) b)
      | inr root ↦ omega (arith, root)
    ]
placed-within g lease kind.Fresh block bytes rests placed under = alone-within g lease (extent_lease g placed.0) rests (extent-below g placed.0 placed.2.extent_high) placed.3 under
placed-within g lease kind.Link block bytes rests placed under = link-within g lease placed.0 placed.3.0 rests placed.1 placed.3.1 placed.3.2 under
placed-within g lease kind.Overwrite block bytes rests placed under = alone-within g lease (image_lease placed.0) rests (image-below g placed.0 placed.1) placed.3 under
placed-within g lease kind.Record block bytes rests placed under = link-within g lease placed.0 placed.3.0 rests placed.1 placed.3.1 placed.3.2 under
placed-within g lease kind.JData block bytes rests placed under = alone-within g lease (image_lease placed.0) rests (image-below g placed.0 placed.2) placed.5 under
placed-within g lease kind.JCommit block bytes rests placed under = alone-within g lease (image_lease placed.0) rests (image-below g placed.0 placed.2) placed.5 under
placed-within g lease other block bytes rests placed under = absurd placed

-- all claims on which a write rests stand: it is open under each lease of its list
abbrev pub AllStand : Geometry → (rests : ℕ → List ℕ) → (appliances time : ℕ) → List Issued → (ℕ → Seat) → (number : ℕ) → Issued → Type 0
AllStand g rests appliances time writes seats number write = (lease : ℕ) → IsUnder rests number lease → IsOpen g rests appliances time writes seats lease number write

-- ---- a write is issued

module _ (w : World) (leased : Leased w) (a : ℕ) (below : a < w.appliances) (free : (w.seats a).pending ≡ None) (leases : List ℕ) (what : WriteKind) (block : ℕ) (bytes : List ℕ) (guard : ℕ) where
  abbrev issued : Issued
  issued = fresh_write (boot_number a (w.seats a).boots) what block bytes guard

  abbrev longer : List Issued
  longer = w.surface.writes ++ issued ∷ []

  abbrev waiting : Seat
  waiting = record { boots = (w.seats a).boots; log = (w.seats a).log; pending = Some (length w.surface.writes) }

  abbrev since : ℕ → List ℕ
  since = at w.rests (length w.surface.writes) leases

  abbrev stands : ℕ → Configuration
  stands b = configuration (setting_at w.geometry b (w.seats b).boots) (w.seats b).log

  -- a boot that waits for no write holds what its log says
  pub grips-free : (lease : ℕ) (claim : Claim) (until : ℕ) → (stands a).holds (lease_at lease) ≡ Held claim until → w.surface.time ≤ until + 50 → GripsLease w.geometry w.surface.time w.surface.writes a (w.seats a) lease claim until
  grips-free lease claim until held live =
      let P : Option ℕ → Type 0 = λ o. grip_at (stands a).place (pending_write w.surface.writes o) (lease_at lease) ((stands a).holds (lease_at lease)) ≡ Held claim until in
      (subst P (sym free) (grip-open (stands a).place None (lease_at lease) ((stands a).holds (lease_at lease)) refl ∙ held), live)

  pending-before : (b : ℕ) → b < w.appliances → (q : Option ℕ) → (w.seats b).pending ≡ q → pending_write longer q ≡ pending_write w.surface.writes q
  pending-before b under None e = refl
  pending-before b under (Some n) e =
      let asked = (leased.seated b under).asked n e in push-before w.surface.writes issued asked.0 n asked.1 ∙ sym asked.1

  -- what a boot holds once the write is issued it held before
  pub grips-own : (lease : ℕ) (claim : Claim) (until : ℕ) → GripsLease w.geometry w.surface.time longer a waiting lease claim until → GripsLease w.geometry w.surface.time w.surface.writes a (w.seats a) lease claim until
  grips-own lease claim until grips =
      let held : (stands a).holds (lease_at lease) ≡ Held claim until =
      sym (grip-open (stands a).place (pending_write longer (Some (length w.surface.writes))) (lease_at lease) ((stands a).holds (lease_at lease))
      (ap (λ (o : Option Issued). first_landed o) (push-last w.surface.writes issued))) ∙ grips.0 in
      grips-free lease claim until held grips.1

  pub grips-other : (lease b : ℕ) → b < w.appliances → (claim : Claim) (until : ℕ) → GripsLease w.geometry w.surface.time longer b (w.seats b) lease claim until →
      GripsLease w.geometry w.surface.time w.surface.writes b (w.seats b) lease claim until
  grips-other lease b under claim until grips =
      let G : Option Issued → Type 0 = λ o. grip_at (stands b).place o (lease_at lease) ((stands b).holds (lease_at lease)) ≡ Held claim until in
      (subst G (pending-before b under (w.seats b).pending refl) grips.0, grips.1)

  -- the new write is the last, rests on the lease, and isn't too late to land or has a boot that holds the lease in time
  pub record IsNewlyOpen (lease n : ℕ) (x : Issued) : Type 0 where
    pub last : n ≡ length w.surface.writes
    pub is : issued ≡ x
    pub under : is_in lease leases ≡ true
    pub live : (w.surface.time ≤ guard + 50) ⊎ ((claim : Claim) × (until : ℕ) × GripsLease w.geometry w.surface.time w.surface.writes a (w.seats a) lease claim until)

  -- what is open once the write is issued was open before, or is the new one
  pub open-issued : (lease n : ℕ) (x : Issued) → IsOpen w.geometry since w.appliances w.surface.time longer (at w.seats a waiting) lease n x →
      (IsOpen w.geometry w.rests w.appliances w.surface.time w.surface.writes w.seats lease n x) ⊎ IsNewlyOpen lease n x
  open-issued lease n x (inl op) = elim (push-cases w.surface.writes issued x n op.found) [
    | inl old ↦ inl (inl (record { found = old; needs = needs-before w.rests w.surface.writes leases n x lease old op.needs; missing = op.missing; live = op.live }))
    | inr is ↦ inr (record {
      last = is.0;
      is = is.1;
      under = needs-last w.rests w.surface.writes leases n lease is.0 op.needs;
      live = inl (let e = op.live in let f : x.guard ≡ guard = ap (λ (y : Issued). y.guard) (sym is.1) in omega (arith, e, f));
    })
  ]
  open-issued lease n x (inr o) = elim (push-cases w.surface.writes issued x n o.4) [
    | inl old ↦
        let needs = needs-before w.rests w.surface.writes leases n x lease old o.5 in
        let less = slice_get_within w.surface.writes n x old in
        inl (at-all (λ b s. b < w.appliances → ((claim : Claim) × (until : ℕ) × GripsLease w.geometry w.surface.time longer b s lease claim until) → s.pending ≡ Some n → IsOpen w.geometry w.rests w.appliances w.surface.time w.surface.writes w.seats lease n x)
        w.seats a waiting
        (λ under grips waits. absurd (let e : Some (length w.surface.writes) ≡ Some n = waits in let f : length w.surface.writes ≡ n = cc in omega (arith, less, f)))
        (λ b ne under grips waits. inr (b, under, (grips.0, grips.1, grips-other lease b under grips.0 grips.1 grips.2), waits, old, needs))
        o.0 o.1 o.2 o.3)
    | inr is ↦
        let needs = needs-last w.rests w.surface.writes leases n lease is.0 o.5 in
        at-all (λ b s. b < w.appliances → ((claim : Claim) × (until : ℕ) × GripsLease w.geometry w.surface.time longer b s lease claim until) → s.pending ≡ Some n →
        (IsOpen w.geometry w.rests w.appliances w.surface.time w.surface.writes w.seats lease n x) ⊎ IsNewlyOpen lease n x)
        w.seats a waiting
        (λ under grips waits. inr (record { last = is.0; is = is.1; under = needs; live = inr (grips.0, grips.1, grips-own lease grips.0 grips.1 grips.2) }))
        (λ b ne under grips waits.
        let asked = (leased.seated b under).asked n waits in
        let less = slice_get_within w.surface.writes n asked.0 asked.1 in
        absurd (let f = is.0 in omega (arith, less, f)))
        o.0 o.1 o.2 o.3
  ]

  -- an older write whose claims all stand once this one is issued had them stand before
  pub stood-issued : (n : ℕ) (x : Issued) → slice_get w.surface.writes n ≡ Some x → AllStand w.geometry since w.appliances w.surface.time longer (at w.seats a waiting) n x →
      AllStand w.geometry w.rests w.appliances w.surface.time w.surface.writes w.seats n x
  stood-issued n x old all lease under =
      let less = slice_get_within w.surface.writes n x old in
      let P : List ℕ → Type 0 = λ l. is_in lease l ≡ true in
      let needs : IsUnder since n lease = subst P (sym (at-other w.rests (length w.surface.writes) n leases (λ e. omega (arith, less, e)))) under in
      elim (open-issued lease n x (all lease needs)) [
        | inl was ↦ was
        | inr new ↦ absurd (let l = new.last in omega (arith, less, l))
      ]

-- ---- a sector lands

module _ (w : World) (leased : Leased w) (number sector : ℕ) (write : Issued) (may : MayLand w.surface number sector write) where
  abbrev g : Geometry
  g = w.geometry

  abbrev time : ℕ
  time = w.surface.time

  abbrev device : Device
  device = w.surface.device

  abbrev writes : List Issued
  writes = w.surface.writes

  abbrev p : ℕ → Configuration
  p b = configuration (setting_at g b (w.seats b).boots) (w.seats b).log

  abbrev now : List Issued
  now = slice_set writes number (with_sector write sector)

  abbrev after : Device
  after = put device write.block (with_landed_sector sector write.bytes (device write.block))

  right : IsRight g (w.rests number) write
  right = leased.right number write may.found

  -- the write that lands, and every other
  pub landed-or : (n : ℕ) (x : Issued) → slice_get now n ≡ Some x → ((n ≡ number) × (x ≡ with_sector write sector)) ⊎ ((n ≢ number) × (slice_get writes n ≡ Some x))
  landed-or n x there = elim (eqb_tells n number) [
    | inl same ↦ inl (
      same.1,
      (let P : ℕ → Type 0 = λ k. slice_get now k ≡ Some x in
          let e : Some x ≡ Some (with_sector write sector) = sym (subst P same.1 there) ∙ set-same writes number (with_sector write sector) write may.found in cc),
    )
    | inr away ↦ inr (away.1, sym (set-other writes number n (with_sector write sector) away.1) ∙ there)
  ]

  -- what is held after the landing was held before
  pub grips-before : (lease b : ℕ) → b < w.appliances → (claim : Claim) (until : ℕ) → GripsLease g time now b (w.seats b) lease claim until →
      (c : Claim) × (u : ℕ) × GripsLease g time writes b (w.seats b) lease c u
  grips-before lease b under claim until grips = elim (pending-is (w.seats b).pending number) [
    | inr ne ↦
        let G : Option Issued → Type 0 = λ o. grip_at (p b).place o (lease_at lease) ((p b).holds (lease_at lease)) ≡ Held claim until in
        (claim, until, (subst G (pending-other writes number (with_sector write sector) (w.seats b).pending ne) grips.0, grips.1))
    | inl is ↦
        let asked = (leased.seated b under).asked number is in
        let same : asked.0 ≡ write = (let e : Some asked.0 ≡ Some write = sym asked.1 ∙ may.found in cc) in
        let Q : Issued → Type 0 = λ y. IsAskedAt (p b).place (boot_number b (w.seats b).boots) y in
        let asked' = subst Q same asked.2 in
        let lawful = (leased.seated b under).lawful in
        let may' = asked-may g (boot_number b (w.seats b).boots) (p b).holds (p b).filled (p b).sample (p b).place write asked' lawful in
        let hold = (p b).holds (lease_at lease) in
        let there : pending_write writes (w.seats b).pending ≡ Some write = ap (pending_write writes) is ∙ may.found in
        let there' : pending_write now (w.seats b).pending ≡ Some (with_sector write sector) =
        ap (pending_write now) is ∙ set-same writes number (with_sector write sector) write may.found in
        let old : grip_at (p b).place (pending_write writes (w.seats b).pending) (lease_at lease) hold
        ≡ grip_while write.kind (lease_at lease == write.block) (first_landed (Some write)) write.bytes hold =
        grip-asked (p b).place (boot_number b (w.seats b).boots) write asked' (pending_write writes (w.seats b).pending) (lease_at lease) hold
        ∙ ap (λ (o : Option Issued). grip_while write.kind (lease_at lease == write.block) (first_landed o) write.bytes hold) there in
        let new : grip_at (p b).place (pending_write now (w.seats b).pending) (lease_at lease) hold
        ≡ grip_while write.kind (lease_at lease == write.block) (first_landed (Some (with_sector write sector))) write.bytes hold =
        grip-asked (p b).place (boot_number b (w.seats b).boots) write asked' (pending_write now (w.seats b).pending) (lease_at lease) hold
        ∙ ap (λ (o : Option Issued). grip_while write.kind (lease_at lease == write.block) (first_landed o) write.bytes hold) there' in
        let back = by_kind b write.kind refl sector refl may' (sym new ∙ grips.0) in
        (back.0, back.1, (old ∙ back.2, back.3 grips.1))
  ]
    where
      by_kind : (b : ℕ) (k : WriteKind) → write.kind ≡ k → (s : ℕ) → sector ≡ s → MayBeAsked g (boot_number b (w.seats b).boots) (p b).holds write.kind write.block write.bytes write.guard →
          grip_while write.kind (lease_at lease == write.block) (first_landed (Some (with_sector write sector))) write.bytes ((p b).holds (lease_at lease)) ≡ Held claim until →
          (c : Claim) × (u : ℕ) × (grip_while write.kind (lease_at lease == write.block) (first_landed (Some write)) write.bytes ((p b).holds (lease_at lease)) ≡ Held c u)
          × (time ≤ until + 50 → time ≤ u + 50)
      by_kind b k is (suc s) at' may' e =
          let flag : slice_get (slice_set write.landed sector true) 0 ≡ slice_get write.landed 0 = set-other write.landed sector 0 true (λ z. omega (arith, z, at')) in
          let hold = (p b).holds (lease_at lease) in
          (claim, until, ap (λ (o : Option Bool). grip_while write.kind (lease_at lease == write.block) (is_set o) write.bytes hold) (sym flag) ∙ e, (λ l. l))
      by_kind b kind.Renew is zero at' may' e =
          let hold = (p b).holds (lease_at lease) in
          let zeroth : slice_get write.landed 0 ≡ Some false = ap (slice_get write.landed) (sym at') ∙ may.missing in
          let before : grip_while write.kind (lease_at lease == write.block) (first_landed (Some write)) write.bytes hold ≡ hold =
          ap (λ (f : Bool). grip_while write.kind (lease_at lease == write.block) f write.bytes hold) (first-set write false zeroth)
          ∙ grip_while-open write.kind (lease_at lease == write.block) write.bytes hold in
          let M : WriteKind → Type 0 = λ x. MayBeAsked g (boot_number b (w.seats b).boots) (p b).holds x write.block write.bytes write.guard in
          let t = (subst M is may').1 in
          elim (eqb_tells (lease_at lease) write.block) [
            | inl here' ↦
                let same : lease ≡ t.lease = lease-lease lease t.lease (here'.1 ∙ t.at_lease) in
                (t.claim, t.until, before ∙ (ap (λ (j : ℕ). (p b).holds (lease_at j)) same ∙ t.hold), (λ l. (let early = may.early in let guarded = t.guarded in omega (arith, early, guarded))))
            | inr away ↦ (
              claim,
              until,
              before ∙ (sym (ap (λ (f : Bool). grip_while write.kind f (first_landed (Some (with_sector write sector))) write.bytes hold) away.0
                  ∙ grip_while-away write.kind (first_landed (Some (with_sector write sector))) write.bytes hold) ∙ e),
              (λ l. l),
            )
          ]
      by_kind b kind.Release is zero at' may' e =
          let hold = (p b).holds (lease_at lease) in
          let zeroth : slice_get write.landed 0 ≡ Some false = ap (slice_get write.landed) (sym at') ∙ may.missing in
          let before : grip_while write.kind (lease_at lease == write.block) (first_landed (Some write)) write.bytes hold ≡ hold =
          ap (λ (f : Bool). grip_while write.kind (lease_at lease == write.block) f write.bytes hold) (first-set write false zeroth)
          ∙ grip_while-open write.kind (lease_at lease == write.block) write.bytes hold in
          let M : WriteKind → Type 0 = λ x. MayBeAsked g (boot_number b (w.seats b).boots) (p b).holds x write.block write.bytes write.guard in
          let t = (subst M is may').1 in
          elim (eqb_tells (lease_at lease) write.block) [
            | inl here' ↦
                let same : lease ≡ t.lease = lease-lease lease t.lease (here'.1 ∙ t.at_lease) in
                (t.claim, t.until, before ∙ (ap (λ (j : ℕ). (p b).holds (lease_at j)) same ∙ t.hold), (λ l. (let early = may.early in let guarded = t.guarded in omega (arith, early, guarded))))
            | inr away ↦ (
              claim,
              until,
              before ∙ (sym (ap (λ (f : Bool). grip_while write.kind f (first_landed (Some (with_sector write sector))) write.bytes hold) away.0
                  ∙ grip_while-away write.kind (first_landed (Some (with_sector write sector))) write.bytes hold) ∙ e),
              (λ l. l),
            )
          ]
      by_kind b other is zero at' may' e =
          let hold = (p b).holds (lease_at lease) in
          let same : grip_while write.kind (lease_at lease == write.block) (first_landed (Some write)) write.bytes hold
          ≡ grip_while write.kind (lease_at lease == write.block) (first_landed (Some (with_sector write sector))) write.bytes hold =
          ap (λ (x : WriteKind). grip_while x (lease_at lease == write.block) (first_landed (Some write)) write.bytes hold) is
          ∙ sym (ap (λ (x : WriteKind). grip_while x (lease_at lease == write.block) (first_landed (Some (with_sector write sector))) write.bytes hold) is) in
          (claim, until, same ∙ e, (λ l. l))

  -- another write that is open after the landing was open before
  open-landed : (lease n : ℕ) (x : Issued) → n ≢ number → slice_get writes n ≡ Some x → IsOpen g w.rests w.appliances time now w.seats lease n x →
      IsOpen g w.rests w.appliances time writes w.seats lease n x
  open-landed lease n x ne found (inl op) = inl (record { found = found; needs = op.needs; missing = op.missing; live = op.live })
  open-landed lease n x ne found (inr o) = inr (o.0, o.1, grips-before lease o.0 o.1 o.2.0 o.2.1 o.2.2, o.3, found, o.5)

  -- it is its home alone that covers its block
  sees : (lease : ℕ) → lease < lease_count g → (IsAtHome g w.rests w.appliances time writes w.seats number write lease) ⊎ (IsAway g device after write.block lease)
  sees lease within = elim (home-covers g write.kind write.block write.bytes (w.rests number) right.placed) [
    | inl at ↦ inr (is-away (lease-uncovered g lease write.block at.0 at.1 at.2))
    | inr (inr pool) ↦ inr (is-away (pool-uncovered g leased.geometry lease pool.0 pool.1 write.block pool.2))
    | inr (inl home) ↦ elim (eqb_tells home.0 lease) [
      | inl same ↦
          let covers : Covers g lease write.block = subst (λ (l : ℕ). Covers g l write.block) same.1 home.2 in
          let is : home_of (w.rests number) ≡ Some lease = home.1 ∙ ap Some same.1 in
          inl (record {
            covers = covers;
            home = is;
            opens = lands-open w number sector write may
                (covered-unlanded g lease write.kind write.block write.bytes (w.rests number) write.landed covers right.placed (not-whole write.landed sector may.missing)) lease (home-in lease (w.rests number) is);
          })
      | inr away ↦ inr (is-away (λ covers. away.1 (same-some home.0 lease
          (sym home.1 ∙ write-covered g leased.geometry write.kind write.block write.bytes (w.rests number) right.placed lease covers))))
    ]
  ]
    where
      is-away : (Covers g lease write.block → ⊥) → IsAway g device after write.block lease
      is-away un = record {
        uncovered = un;
        same = λ block covers. put-other device write.block (with_landed_sector sector write.bytes (device write.block)) block (λ e. un (subst (λ (c : ℕ). Covers g lease c) e covers));
      }

  -- the write that lands is open after only where it was before
  still-open : (lease : ℕ) (x : Issued) → slice_get now number ≡ Some (with_sector write sector) → IsOpen g w.rests w.appliances time now w.seats lease number x → IsOpen g w.rests w.appliances time writes w.seats lease number write
  still-open lease x there (inl op) =
      let same : with_sector write sector ≡ x = (let e : Some (with_sector write sector) ≡ Some x = sym there ∙ op.found in cc) in
      let P : Issued → Type 0 = λ y. Unlanded y.kind y.landed in
      let guards : write.guard ≡ x.guard = ap (λ (y : Issued). y.guard) same in
      inl (record {
        found = may.found;
        needs = op.needs;
        missing = unlanded-before write.kind write.landed sector may.missing (subst P (sym same) op.missing);
        live = (let l = op.live in omega (arith, l, guards));
      })
  still-open lease x there (inr o) = inr (o.0, o.1, grips-before lease o.0 o.1 o.2.0 o.2.1 o.2.2, o.3, may.found, o.5)

  -- each landing has the frame
  pub land-frame : Frame g w.rests w.appliances time device after writes now w.seats number write
  land-frame = record {
    each = sees;
    before = λ lease n x ne op. elim (landed-or n x (open-found g w.rests w.appliances time now w.seats lease n x op)) [
      | inl here ↦ absurd (ne here.0)
      | inr away ↦ open-landed lease n x ne away.1 op
    ];
    still = λ lease x op. still-open lease x (set-same writes number (with_sector write sector) write may.found) op;
  }

-- the frame is all that other writes need: what is open under a lease after the landing was open before, and what the lease covers is the same
pub frame-others : (w : World) (leased : Leased w) (changed : Device) (flagged : List Issued) (number : ℕ) (write : Issued) →
    Frame w.geometry w.rests w.appliances w.surface.time w.surface.device changed w.surface.writes flagged w.seats number write →
    (lease : ℕ) → lease < lease_count w.geometry → (n : ℕ) (x : Issued) → n ≢ number → IsOpen w.geometry w.rests w.appliances w.surface.time flagged w.seats lease n x →
    IsOpen w.geometry w.rests w.appliances w.surface.time w.surface.writes w.seats lease n x × SameUnder w.geometry lease w.surface.device changed
frame-others w leased changed flagged number write frame lease within n x ne op =
    let was = frame.before lease n x ne op in
    elim (frame.each lease within) [
      | inl own ↦ absurd (ne (open-alone w leased lease within n number x write was own.opens))
      | inr away ↦ (was, away.same)
    ]

-- and one whose claims all stand after it had them stand before, and finds what each of its leases covers as it was
pub frame-all : (w : World) (leased : Leased w) (changed : Device) (flagged : List Issued) (number : ℕ) (write : Issued) →
    Frame w.geometry w.rests w.appliances w.surface.time w.surface.device changed w.surface.writes flagged w.seats number write →
    (n : ℕ) (x : Issued) → n ≢ number → slice_get w.surface.writes n ≡ Some x → AllStand w.geometry w.rests w.appliances w.surface.time flagged w.seats n x →
    AllStand w.geometry w.rests w.appliances w.surface.time w.surface.writes w.seats n x × ((lease : ℕ) → IsUnder w.rests n lease → SameUnder w.geometry lease w.surface.device changed)
frame-all w leased changed flagged number write frame n x ne found all = (
  (λ lease under. frame.before lease n x ne (all lease under)),
  (λ lease under. (frame-others w leased changed flagged number write frame lease
      (placed-within w.geometry lease x.kind x.block x.bytes (w.rests n) (leased.right n x found).placed under) n x ne (all lease under)).1),
)
