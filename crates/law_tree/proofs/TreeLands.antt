-- What holds of the trees stays where a sector lands.
use Rattle.std.proofs.Common.{◌≡◌, ◌≢◌, ℕ, ◌-◌, ◌<◌, ◌≤◌, ◌⊎◌, inl, inr, List, [], length, Bool, true, false, Some, refl, ap, sym, ◌∙◌, subst, arith, slice_set}
use Rattle.std.proofs.lemmas.Bool.{cases_eq}
use Rattle.plx_base.proofs.Devices.{put-other}
use Rattle.plx_base.proofs.Tests.{either, same-some}
use Rattle.plx_base.specs.Sectors.{Device, put, with_landed_sector}
use Rattle.plx_base.specs.declared.write_kind.WriteKind.{WriteKind}
use Rattle.plx_base.specs.declared.write_kind.WriteKind.TheVariants as kind
use Rattle.plx_commands.specs.Replies.{is_in}
use Rattle.plx_disk.specs.Writes.{Issued, MayLand, with_sector, after_landing}
use Rattle.plx_extent.specs.Maps.{bit_of}
use Rattle.plx_geom.proofs.Places.{lease-record, lease-log, record-map, record-data, record-descriptor, log-map, log-data, log-descriptor, extent-below}
use Rattle.plx_geom.specs.Geometry.{Geometry, IsGeometry, lease_at, lease_count, extent_lease, map_at, record_at, log_at, data_at, descriptor_at, image_lease}
use Rattle.plx_geom.specs.declared.place.Place.TheVariants.{Record, JDesc, JData, Map}
use Rattle.plx_radix.specs.Paths.{To, end}
use Rattle.plx_rules.specs.Pools.{is_allocated}
use Rattle.plx_rules.specs.Rests.{extent_of, home_of}
use Rattle.plx_rules.specs.World.{World, Reached}
use Rattle.law_lease.proofs.Frame.{AllStand, Frame, SameUnder, frame-others, frame-all, placed-within, land-frame, grips-before, landed-or}
use Rattle.law_lease.proofs.LeaseLands.{not-whole}
use Rattle.law_lease.proofs.LeaseSteps.{reached-leased}
use Rattle.law_lease.proofs.Leased.{IsPlaced, IsRight, Leased, Unlanded}
use Rattle.law_lease.proofs.Open.{IsOpen, lands-open, open-alone, open-found, grips-only}
use Rattle.law_lease.proofs.Rests.{home-in}
use Rattle.law_space.proofs.Landings.{TurnsBlock, landing-turns, gives-clear}
use Rattle.law_space.proofs.MapWrites.{on-map}
use Rattle.plx_rules.specs.Trees.{trees_of, InPool}
use Rattle.law_tree.proofs.ByKind.{OnFresh, OnNode, OnLeaf, OnRecord, TreePlaced, TreeWaits, Clears, placed-aside, waits-aside}
use Rattle.law_tree.proofs.Moved.{free, owned, Moved, same, WritesTree, fixed, moved-shared, moved-rooted, moved-off}
use Rattle.law_tree.proofs.OwnLands.{fresh-moves, leaf-moves, leaf-after, link-lands, fresh-after, record-lands}
use Rattle.law_tree.proofs.Roots.{IsTreeless, pool-only, pool-extent-within, quiet-paths}
use Rattle.law_tree.proofs.Treed.{Treed, FreshSeat, TreesPlaced, TreesWait, due_at_seat}

-- a block that has no pool block, record or log in it
quiet-at : (g : Geometry) → IsGeometry g → (block : ℕ) → ((b : ℕ) → InPool g b → b ≢ block) → ((i : ℕ) → i < g.images → record_at g i ≢ block) → ((i : ℕ) → i < g.images → log_at g i ≢ block) → IsTreeless g block
quiet-at g geometry block pool records logs = record { pool = pool; records = records; logs = logs }

quiet-lease : (g : Geometry) → IsGeometry g → (lease block : ℕ) → lease < lease_count g → block ≡ lease_at lease → IsTreeless g block
quiet-lease g geometry lease block within at = record {
  pool = λ b pool is. pool-lease lease within b pool (is ∙ at);
  records = λ i less is. lease-record g lease i within (sym (is ∙ at));
  logs = λ i less is. lease-log g lease i within (sym (is ∙ at));
}
  where
    pool-lease : (l : ℕ) → l < lease_count g → (b : ℕ) → InPool g b → b ≡ lease_at l → ⊥
    pool-lease l below b pool is = let h = pool.is.here in omega (arith, below, is, h)

quiet-map : (g : Geometry) → IsGeometry g → (extent block : ℕ) → extent < g.extents → block ≡ map_at g extent → IsTreeless g block
quiet-map g geometry extent block within at = record {
  pool = λ b pool is. pool-only g geometry b pool (Map (record { 0 = extent })) within (sym (is ∙ at));
  records = λ i less is. record-map g i extent less (is ∙ at);
  logs = λ i less is. log-map g i extent less (is ∙ at);
}

quiet-data : (g : Geometry) → IsGeometry g → (image slot block : ℕ) → image < g.images → slot < g.slots → block ≡ data_at g image slot → IsTreeless g block
quiet-data g geometry image slot block within less at = record {
  pool = λ b pool is. pool-only g geometry b pool (JData (record { 0 = image }) slot) (within, less) (sym (is ∙ at));
  records = λ i below is. record-data g i image slot below (is ∙ at);
  logs = λ i below is. log-data g i image slot below (is ∙ at);
}

quiet-descriptor : (g : Geometry) → IsGeometry g → (image slot block : ℕ) → image < g.images → slot < g.slots → block ≡ descriptor_at g image slot → IsTreeless g block
quiet-descriptor g geometry image slot block within less at = record {
  pool = λ b pool is. pool-only g geometry b pool (JDesc (record { 0 = image }) slot) (within, less) (sym (is ∙ at));
  records = λ i below is. record-descriptor g i image slot below (is ∙ at);
  logs = λ i below is. log-descriptor g i image slot below (is ∙ at);
}

-- what the landing of a sector of a write does
-- `under` are the leases on which it rests, where it may still change something: then it is open under each of them
pub record TreeLanding (Opens : ℕ → Type 0) (names : ℕ → Type 0) (g : Geometry) (d e : Device) (rests : List ℕ) (k : WriteKind) (block : ℕ) (bytes : List ℕ) (landed : List Bool) : Type 0 where
  pub under : List ℕ
  pub opens : (lease : ℕ) → is_in lease under ≡ true → Opens lease
  pub moved : Moved g d e under names
  pub writes : WritesTree g d under block
  pub placed : (home : ℕ) → home_of rests ≡ Some home → TreePlaced k g d home block bytes → TreePlaced k g e home block bytes
  pub waits : TreeWaits k g e rests names block bytes landed

module _ (names : ℕ → ℕ → Type 0) (w : World) (reached : Reached w) (treed : Treed names w) (number sector : ℕ) (write : Issued) (may : MayLand w.surface number sector write) where
  abbrev pub g : Geometry
  g = w.geometry

  abbrev pub d : Device
  d = w.surface.device

  abbrev pub after : Device
  after = put d write.block (with_landed_sector sector write.bytes (d write.block))

  abbrev now : List Issued
  now = slice_set w.surface.writes number (with_sector write sector)

  abbrev leased : Leased w
  leased = reached-leased reached

  abbrev pub own : List ℕ
  own = w.rests number

  right : IsRight g own write
  right = leased.right number write may.found

  -- an unlanded write has all its claims standing
  opens : Unlanded write.kind write.landed → AllStand g w.rests w.appliances w.surface.time w.surface.writes w.seats number write
  opens missing lease under = lands-open w number sector write may missing lease under

  what-waits : Unlanded write.kind write.landed → TreeWaits write.kind g d own (names number) write.block write.bytes write.landed
  what-waits missing = treed.waits number write may.found (opens missing)

  abbrev pub Opens : ℕ → Type 0
  Opens lease = IsOpen g w.rests w.appliances w.surface.time w.surface.writes w.seats lease number write

  abbrev pub LandsAs : WriteKind → Type 0
  LandsAs k = TreeLanding Opens (names number) g d after own k write.block write.bytes (slice_set write.landed sector true)

  -- blocks whose bits are still to be cleared stay unreachable
  clears-after : (write.kind ≡ kind.Give) ⊎ (write.kind ≡ kind.Sweep) → IsTreeless g write.block → Clears g d write.block write.bytes → Clears g after write.block write.bytes
  clears-after of-kind quiet waits b pool here set clear = elim (landing-turns w reached number sector write may b) [
    | inl stays ↦ (let off = waits b pool here (sym stays ∙ set) clear in
        λ q ds m le at. off q ds m le (sym (quiet-paths g d write.block (with_landed_sector sector write.bytes (d write.block)) treed.rooted quiet q ds le) ∙ at))
    | inr turns ↦ absurd (let f : true ≡ false = sym set ∙ (turns.after ∙ clear) in let P : ⊥ = cc in P)
  ]

  -- what it does, by its kind
  pub lands-by : (k : WriteKind) → write.kind ≡ k → LandsAs k
  lands-by k is = by_kind k is (subst (λ (x : WriteKind). IsPlaced g x write.block write.bytes own) is right.placed)
    where
      whole : Unlanded k write.landed → Unlanded write.kind write.landed
      whole missing = subst (λ (x : WriteKind). Unlanded x write.landed) (sym is) missing

      waits-at : (x : WriteKind) → write.kind ≡ x → Unlanded x write.landed → TreeWaits x g d own (names number) write.block write.bytes write.landed
      waits-at x is' missing = subst (λ (y : WriteKind). TreeWaits y g d own (names number) write.block write.bytes write.landed) is' (what-waits (subst (λ (y : WriteKind). Unlanded y write.landed) (sym is') missing))

      quietly : (x : WriteKind) → IsTreeless g write.block → ((home : ℕ) → TreePlaced x g d home write.block write.bytes → TreePlaced x g after home write.block write.bytes) →
          TreeWaits x g after own (names number) write.block write.bytes (slice_set write.landed sector true) → LandsAs x
      quietly x quiet placed waits = record {
        under = [];
        opens = λ lease is'. absurd (let P : ⊥ = cc in P);
        moved = same (quiet-paths g d write.block (with_landed_sector sector write.bytes (d write.block)) treed.rooted quiet);
        writes = fixed quiet.pool;
        placed = λ home is' on. placed home on;
        waits = waits;
      }

      by_kind : (x : WriteKind) → write.kind ≡ x → IsPlaced g x write.block write.bytes own → LandsAs x
      by_kind kind.Claim is' p = quietly kind.Claim (quiet-lease g leased.geometry p.0 write.block p.1 p.2) (λ home on. tt) tt
      by_kind kind.Renew is' p = quietly kind.Renew (quiet-lease g leased.geometry p.0 write.block p.1 p.2) (λ home on. tt) tt
      by_kind kind.Release is' p = quietly kind.Release (quiet-lease g leased.geometry p.0 write.block p.1 p.2) (λ home on. tt) tt
      by_kind kind.Take is' p = quietly kind.Take (quiet-map g leased.geometry p.0 write.block p.1 p.2) (λ home on. tt) tt
      by_kind kind.Give is' p =
          let quiet = quiet-map g leased.geometry p.0 write.block p.1 p.2 in
          quietly kind.Give quiet (λ home on. tt) (clears-after (inl is') quiet (waits-at kind.Give is' (not-whole write.landed sector may.missing)))
      by_kind kind.Sweep is' p =
          let quiet = quiet-map g leased.geometry p.0 write.block p.1 p.2 in
          quietly kind.Sweep quiet (λ home on. tt) (clears-after (inr is') quiet (waits-at kind.Sweep is' (not-whole write.landed sector may.missing)))
      by_kind kind.JData is' p = quietly kind.JData (quiet-data g leased.geometry p.0 p.1 write.block p.2 p.3 p.4) (λ home on. tt) tt
      by_kind kind.JCommit is' p = quietly kind.JCommit (quiet-descriptor g leased.geometry p.0 p.1 write.block p.2 p.3 p.4) (λ home on. tt) tt
      by_kind kind.Link is' p =
          let missing = subst (λ (y : WriteKind). Unlanded y write.landed) (sym is') (not-whole write.landed sector may.missing) in
          let waits = waits-at kind.Link is' (not-whole write.landed sector may.missing) in
          let under' = home-in waits.home own waits.is_home in
          let l = link-lands g leased.geometry d treed.shared treed.rooted own (names number) write.block write.bytes sector write.landed may.missing waits under' in
          let on = waits.on in
          record {
            under = own;
            opens = opens missing;
            moved = l.moved;
            writes = owned on.image on.within (subst (λ (h : ℕ). is_in h own ≡ true) on.lease under') on.above (let low = on.low in omega (arith, low)) on.owned;
            placed = λ home its on'. (let same' : l.waits_after.home ≡ home = same-some l.waits_after.home home (sym l.waits_after.is_home ∙ its) in
                subst (λ (h : ℕ). OnNode g after h write.block write.bytes) same' l.waits_after.on);
            waits = l.waits_after;
          }
      by_kind kind.Overwrite is' p =
          let missing = subst (λ (y : WriteKind). Unlanded y write.landed) (sym is') (not-whole write.landed sector may.missing) in
          let home : home_of own ≡ Some (image_lease p.0) = ap home_of p.3 in
          let on : OnLeaf g d (image_lease p.0) write.block =
          subst (λ (y : WriteKind). TreePlaced y g d (image_lease p.0) write.block write.bytes) is' (treed.placed (image_lease p.0) number write home (opens missing (image_lease p.0) (home-in (image_lease p.0) own home))) in
          record {
            under = own;
            opens = opens missing;
            moved = same (leaf-moves g leased.geometry d treed.shared treed.rooted own (names number) write.block write.bytes sector (image_lease p.0) on);
            writes = owned on.image on.within (subst (λ (h : ℕ). is_in h own ≡ true) on.lease (home-in (image_lease p.0) own home)) on.at (let w' = on.whole in omega (arith, w')) on.owned;
            placed = λ home' its on'. leaf-after g leased.geometry d treed.shared treed.rooted own (names number) write.block write.bytes sector home' on';
            waits = tt;
          }
      by_kind kind.Fresh is' p =
          let missing = subst (λ (y : WriteKind). Unlanded y write.landed) (sym is') (not-whole write.landed sector may.missing) in
          let home : home_of own ≡ Some (extent_lease g p.0) = ap home_of p.3 in
          let on : OnFresh g d (extent_lease g p.0) write.block =
          subst (λ (y : WriteKind). TreePlaced y g d (extent_lease g p.0) write.block write.bytes) is' (treed.placed (extent_lease g p.0) number write home (opens missing (extent_lease g p.0) (home-in (extent_lease g p.0) own home))) in
          record {
            under = own;
            opens = opens missing;
            moved = same (fresh-moves g leased.geometry d treed.shared treed.rooted own (names number) write.block write.bytes sector (extent_lease g p.0) on);
            writes = free (subst (λ (l : ℕ). is_in l own ≡ true) on.lease (home-in (extent_lease g p.0) own home)) on.off;
            placed = λ home' its on'. fresh-after g leased.geometry d treed.shared treed.rooted own (names number) write.block write.bytes sector home' on';
            waits = tt;
          }
      by_kind kind.Record is' p =
          let waits = waits-at kind.Record is' (not-whole write.landed sector may.missing) in
          let l = record-lands g leased.geometry d treed.shared treed.rooted own (names number) write.block write.bytes sector write.landed may.missing waits (home-in waits.home own waits.is_home) in
          record {
            under = own;
            opens = opens (subst (λ (y : WriteKind). Unlanded y write.landed) (sym is') (not-whole write.landed sector may.missing));
            moved = l.moved;
            writes = fixed (λ b pool at. pool-only g leased.geometry b pool (Record (record { 0 = p.0 })) p.1 (sym (at ∙ p.2)));
            placed = λ home its on. (let same' : l.waits_after.home ≡ home = same-some l.waits_after.home home (sym l.waits_after.is_home ∙ its) in
                subst (λ (h : ℕ). OnRecord g after h write.block write.bytes) same' l.waits_after.on);
            waits = l.waits_after;
          }
      by_kind other is' p = absurd p

  abbrev pub lands : LandsAs write.kind
  lands = lands-by write.kind refl

  pub others-stay : (c : ℕ) → c ≢ write.block → after c ≡ d c
  others-stay c ne = put-other d write.block (with_landed_sector sector write.bytes (d write.block)) c ne

  frame : Frame g w.rests w.appliances w.surface.time d after w.surface.writes now w.seats number write
  frame = land-frame w leased number sector write may

  -- what is reached stays allocated
  bits : (q : ℕ) (ds : List ℕ) (b : ℕ) (m : Bool) → length ds ≤ 3 → end (trees_of g d) q ds ≡ To b m → is_allocated g d b ≡ true → is_allocated g after b ≡ true
  bits q ds b m le at set = elim (either (is_allocated g after b)) [
    | inl still ↦ still
    | inr clear ↦ elim (landing-turns w reached number sector write may b) [
      | inl stays ↦ absurd (let f : true ≡ false = sym set ∙ (sym stays ∙ clear) in let P : ⊥ = cc in P)
      | inr turns ↦ absurd (cleared (gives-clear w reached number sector write may b set clear).0 turns clear)
    ]
  ]
    where
      -- a write that clears its bit waits on its being reached by no path
      cleared : (write.kind ≡ kind.Give) ⊎ (write.kind ≡ kind.Sweep) → TurnsBlock w number sector write b → is_allocated g after b ≡ false → ⊥
      cleared of-kind turns clear =
          let pool = (treed.rooted q ds b m le at).0 in
          let here : map_at g (extent_of g b) ≡ write.block = elim (cases_eq (map_at g (extent_of g b)) write.block) [
            | inl is ↦ is
            | inr away ↦ absurd (
                let stays : is_allocated g after b ≡ is_allocated g d b = ap (λ (x : List ℕ). bit_of x (b - map_at g (extent_of g b))) (others-stay (map_at g (extent_of g b)) away) in
                let f : true ≡ false = sym set ∙ (sym stays ∙ clear) in
                let P : ⊥ = cc in P)
          ] in
          let bit : bit_of write.bytes (b - map_at g (extent_of g b)) ≡ false = sym turns.after ∙ clear in
          elim of-kind [
            | inl give ↦ (subst (λ (y : WriteKind). TreeWaits y g d own (names number) write.block write.bytes write.landed) give (what-waits (subst (λ (y : WriteKind). Unlanded y write.landed) (sym give) (not-whole write.landed sector may.missing)))) b pool here set bit q ds m le at
            | inr sweep ↦ (subst (λ (y : WriteKind). TreeWaits y g d own (names number) write.block write.bytes write.landed) sweep (what-waits (subst (λ (y : WriteKind). Unlanded y write.landed) (sym sweep) (not-whole write.landed sector may.missing)))) b pool here set bit q ds m le at
          ]

  -- another write that is open under a lease shares none with it
  apart : (lease : ℕ) → lease < lease_count g → (n : ℕ) (x : Issued) → n ≢ number → IsOpen g w.rests w.appliances w.surface.time w.surface.writes w.seats lease n x →
      is_in lease lands.under ≡ true → ⊥
  apart lease within n x ne op under = ne (open-alone w leased lease within n number x write op (lands.opens lease under))

  -- what holds of the other writes stays
  module _ (spared : (b c : ℕ) → b < w.appliances → (w.seats b).pending ≡ Some number →
      is_in c (due_at_seat g b (w.seats b)) ≡ true →
      names number c → ⊥) where
    placed-lands : TreesPlaced g w.rests w.appliances w.surface.time after now w.seats
    placed-lands home n x is op = elim (landed-or w leased number sector write may n x (open-found g w.rests w.appliances w.surface.time now w.seats home n x op)) [
      | inl here ↦
          let is' : home_of own ≡ Some home = subst (λ (m : ℕ). home_of (w.rests m) ≡ Some home) here.0 is in
          let op' : IsOpen g w.rests w.appliances w.surface.time now w.seats home number x = subst (λ (m : ℕ). IsOpen g w.rests w.appliances w.surface.time now w.seats home m x) here.0 op in
          let was = frame.still home x op' in
          subst (λ (y : Issued). TreePlaced y.kind g after home y.block y.bytes) (sym here.1) (lands.placed home is' (treed.placed home number write is' was))
      | inr away ↦
          let within = placed-within g home x.kind x.block x.bytes (w.rests n) (leased.right n x away.1).placed (home-in home (w.rests n) is) in
          let f = frame-others w leased after now number write frame home within n x away.0 op in
          by-landing home n x is within away.0 f
    ]
      where
        by-landing : (home n : ℕ) (x : Issued) → home_of (w.rests n) ≡ Some home → home < lease_count g → n ≢ number →
            IsOpen g w.rests w.appliances w.surface.time w.surface.writes w.seats home n x × SameUnder g home d after → TreePlaced x.kind g after home x.block x.bytes
        by-landing home n x is' within ne f =
            placed-aside g d after lands.under (names number) write.block treed.shared treed.rooted lands.moved lands.writes others-stay x.kind home x.block x.bytes
            (λ under. apart home within n x ne f.0 under) f.1 (treed.placed home n x is' f.0)

    waits-lands : TreesWait names g w.rests w.appliances w.surface.time after now w.seats
    waits-lands n x found all = elim (landed-or w leased number sector write may n x found) [
      | inl here ↦
          subst (λ (m : ℕ). TreeWaits x.kind g after (w.rests m) (names m) x.block x.bytes x.landed) (sym here.0)
          (subst (λ (y : Issued). TreeWaits y.kind g after own (names number) y.block y.bytes y.landed) (sym here.1) lands.waits)
      | inr away ↦
          let f = frame-all w leased after now number write frame n x away.0 away.1 all in
          let right' = leased.right n x away.1 in
          waits-aside g d after lands.under (names number) write.block treed.shared treed.rooted lands.moved lands.writes others-stay x.kind (w.rests n) (names n) x.block x.bytes x.landed
          (λ home is. home-in home (w.rests n) is)
          (λ extent is. (on-map g leased.geometry x.kind x.block x.bytes (w.rests n) right'.placed extent is).1)
          (λ lease under. apart lease (placed-within g lease x.kind x.block x.bytes (w.rests n) right'.placed under) n x away.0 (f.0 lease under))
          (λ lease under. f.1 lease under)
          (treed.waits n x away.1 f.0)
    ]

    fresh-lands : (b : ℕ) → b < w.appliances → FreshSeat g w.surface.time after now b (w.seats b)
    fresh-lands b below c is claim until grips =
        let was = grips-before w leased number sector write may (extent_lease g (extent_of g c)) b below claim until grips in
        let free = treed.fresh b below c is was.0 was.1 was.2 in
        record {
          pool = free.pool;
          off = moved-off g d after lands.under (names number) lands.moved c
              (λ n. spared b c below
              (grips-only w leased (extent_lease g (extent_of g c)) (extent-below g (extent_of g c) (pool-extent-within g c free.pool)) b below was.0 was.1 was.2 number write (lands.opens (extent_lease g (extent_of g c)) n.under)) is n.named)
              free.off;
        }

    pub landed-treed : Treed names (record w { surface = after_landing w.surface number write sector })
    landed-treed = record {
      shared = moved-shared g d after lands.under (names number) treed.shared lands.moved;
      rooted = moved-rooted g d after lands.under (names number) treed.rooted lands.moved bits;
      fresh = fresh-lands;
      placed = placed-lands;
      waits = waits-lands;
    }
