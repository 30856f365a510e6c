-- What the landing of a sector of a write of trees makes of the paths, and of what holds of the write itself.
use Rattle.std.proofs.Common.{◌≡◌, ◌≢◌, ℕ, ◌-◌, ◌/◌, ◌%◌, ◌<◌, ◌≤◌, ◌⊎◌, inl, inr, List, [], ◌∷◌, length, Bool, true, false, Some, refl, ap, sym, ◌∙◌, subst, arith, slice_set}
use Rattle.std.specs.Prelude.{slice_get, nat_lt, ◌==◌}
use Rattle.std.proofs.lemmas.Bool.Decides.{eqb_tells}
use Rattle.plx_base.proofs.Devices.{put-same, put-other}
use Rattle.plx_base.proofs.Spelling.{landed-same}
use Rattle.plx_base.proofs.Tests.{lt-cases}
use Rattle.plx_base.specs.Sectors.{Device, put, with_landed_sector}
use Rattle.plx_base.specs.Spelling.{OnlySector}
use Rattle.plx_commands.specs.Replies.{is_in}
use Rattle.plx_disk.proofs.Lists.{set-same, set-other}
use Rattle.plx_extent.specs.Maps.{bit_of}
use Rattle.plx_gate.specs.Images.{read_image}
use Rattle.plx_geom.proofs.Places.{record-record, record-log, record-map}
use Rattle.plx_geom.specs.Geometry.{Geometry, IsGeometry, image_lease, record_at, log_at, map_at}
use Rattle.plx_geom.specs.declared.place.Place.TheVariants.{Record, Log, Map}
use Rattle.plx_radix.specs.Nodes.{pointer_at}
use Rattle.plx_radix.specs.Paths.{Pointer, Hole, To, end, Unreachable, Shared}
use Rattle.plx_rules.specs.Pools.{is_allocated}
use Rattle.plx_rules.specs.Rests.{extent_of}
use Rattle.law_paths.specs.Links.{SamePaths, NodeLinked, RootLinked, down}
use Rattle.law_paths.proofs.Kept.{same-paths, leaf-off, node-changes, root-changes, link-above, node-place}
use Rattle.plx_rules.specs.Trees.{live_root, entry_root, root_on, lease_of_root, trees_of, InPool, IsRooted}
use Rattle.law_tree.proofs.ByKind.{OnFresh, OnNode, OnLeaf, OnRecord, Chain, LinkWaits, RecordMoves, stays, clears, links, RecordWaits, chain-moves, only-moves}
use Rattle.law_tree.proofs.Contents.{behind, content-linked, content-own, node-off}
use Rattle.law_tree.proofs.Moved.{Moved, same, made, turned}
use Rattle.law_tree.proofs.Roots.{root-live, lease-live, pool-only, pool-extent-within, roots-put, put-paths}

-- ---- roots

-- a root where the records and logs of all images but one stay
pub root-at : (g : Geometry) (d e : Device) (q : ℕ) → (q < g.images → live_root (read_image (e (record_at g q))) ≡ live_root (read_image (d (record_at g q)))) →
    ((q - g.images) / 128 < g.images → entry_root (read_image (e (record_at g ((q - g.images) / 128)))) (e (log_at g ((q - g.images) / 128))) ((q - g.images) % 128)
    ≡ entry_root (read_image (d (record_at g ((q - g.images) / 128)))) (d (log_at g ((q - g.images) / 128))) ((q - g.images) % 128)) → root_on g e q ≡ root_on g d q
root-at g d e q live entry = go (lt-cases q g.images) (lt-cases ((q - g.images) / 128) g.images)
  where
    go : ((nat_lt q g.images ≡ true) × (q < g.images)) ⊎ ((nat_lt q g.images ≡ false) × (g.images ≤ q)) →
        ((nat_lt ((q - g.images) / 128) g.images ≡ true) × ((q - g.images) / 128 < g.images)) ⊎ ((nat_lt ((q - g.images) / 128) g.images ≡ false) × (g.images ≤ (q - g.images) / 128)) →
        root_on g e q ≡ root_on g d q
    go (inl h) k = rw h.0 (live h.1)
    go (inr h) (inl k) = rw (h.0, k.0) (entry k.1)
    go (inr h) (inr k) = rw (h.0, k.0) refl

-- the record of an image changes, and no log
module _ (g : Geometry) (d e : Device) (i : ℕ) (within : i < g.images) (others : (c : ℕ) → c ≢ record_at g i → e c ≡ d c) where
  log-stays : (k : ℕ) → k < g.images → e (log_at g k) ≡ d (log_at g k)
  log-stays k less = others (log_at g k) (λ is. record-log g i k within (sym is))

  record-stays : (k : ℕ) → k ≢ i → e (record_at g k) ≡ d (record_at g k)
  record-stays k ne = others (record_at g k) (λ is. ne (record-record g k i is))

  entry-by : (k n : ℕ) → k < g.images → (k ≡ i → entry_root (read_image (e (record_at g i))) (d (log_at g i)) n ≡ entry_root (read_image (d (record_at g i))) (d (log_at g i)) n) →
      entry_root (read_image (e (record_at g k))) (e (log_at g k)) n ≡ entry_root (read_image (d (record_at g k))) (d (log_at g k)) n
  entry-by k n less mine = elim (eqb_tells k i) [
    | inl is ↦
        let P : ℕ → Type 0 = λ x. entry_root (read_image (e (record_at g x))) (e (log_at g x)) n ≡ entry_root (read_image (d (record_at g x))) (d (log_at g x)) n in
        subst P (sym is.1) (ap (λ (y : List ℕ). entry_root (read_image (e (record_at g i))) y n) (log-stays i within) ∙ mine is.1)
    | inr away ↦
        ap (λ (y : List ℕ). entry_root (read_image (e (record_at g k))) y n) (log-stays k less)
        ∙ ap (λ (x : List ℕ). entry_root (read_image x) (d (log_at g k)) n) (record-stays k away.1)
  ]

  -- all roots but the live one of the image stay where its entries do
  pub root-but : ((n : ℕ) → entry_root (read_image (e (record_at g i))) (d (log_at g i)) n ≡ entry_root (read_image (d (record_at g i))) (d (log_at g i)) n) → (q : ℕ) → q ≢ i → root_on g e q ≡ root_on g d q
  root-but entries q ne = root-at g d e q (λ less. ap (λ (x : List ℕ). live_root (read_image x)) (record-stays q ne)) (λ less. entry-by ((q - g.images) / 128) ((q - g.images) % 128) less (λ is. entries ((q - g.images) % 128)))

  -- all stay where the live one stays too
  pub root-all : live_root (read_image (e (record_at g i))) ≡ live_root (read_image (d (record_at g i))) →
      ((n : ℕ) → entry_root (read_image (e (record_at g i))) (d (log_at g i)) n ≡ entry_root (read_image (d (record_at g i))) (d (log_at g i)) n) → (q : ℕ) → root_on g e q ≡ root_on g d q
  root-all live entries q = root-at g d e q (λ less. elim (eqb_tells q i) [
    | inl is ↦ (let P : ℕ → Type 0 = λ x. live_root (read_image (e (record_at g x))) ≡ live_root (read_image (d (record_at g x))) in subst P (sym is.1) live)
    | inr away ↦ ap (λ (x : List ℕ). live_root (read_image x)) (record-stays q away.1)
  ]) (λ less. entry-by ((q - g.images) / 128) ((q - g.images) % 128) less (λ is. entries ((q - g.images) % 128)))

  -- or those of the image are holes
  pub root-clears : live_root (read_image (e (record_at g i))) ≡ Hole → ((log : List ℕ) (n : ℕ) → entry_root (read_image (e (record_at g i))) log n ≡ Hole) → (q : ℕ) →
      (root_on g e q ≡ root_on g d q) ⊎ ((root_on g e q ≡ Hole) × (lease_of_root g q ≡ image_lease i))
  root-clears live entries q = go (lt-cases q g.images) (lt-cases ((q - g.images) / 128) g.images)
    where
      go : ((nat_lt q g.images ≡ true) × (q < g.images)) ⊎ ((nat_lt q g.images ≡ false) × (g.images ≤ q)) →
          ((nat_lt ((q - g.images) / 128) g.images ≡ true) × ((q - g.images) / 128 < g.images)) ⊎ ((nat_lt ((q - g.images) / 128) g.images ≡ false) × (g.images ≤ (q - g.images) / 128)) →
          (root_on g e q ≡ root_on g d q) ⊎ ((root_on g e q ≡ Hole) × (lease_of_root g q ≡ image_lease i))
      go (inl h) k = elim (eqb_tells q i) [
        | inl is ↦ inr (root-live g e q h.1 ∙ (ap (λ (x : ℕ). live_root (read_image (e (record_at g x)))) is.1 ∙ live), lease-live g q h.1 ∙ ap image_lease is.1)
        | inr away ↦ inl (rw h.0 (ap (λ (x : List ℕ). live_root (read_image x)) (record-stays q away.1)))
      ]
      go (inr h) (inl k) = elim (eqb_tells ((q - g.images) / 128) i) [
        | inl is ↦ inr (
          rw (h.0, k.0) (ap (λ (x : ℕ). entry_root (read_image (e (record_at g x))) (e (log_at g ((q - g.images) / 128))) ((q - g.images) % 128)) is.1 ∙ entries (e (log_at g ((q - g.images) / 128))) ((q - g.images) % 128)),
          rw h.0 (ap image_lease is.1),
        )
        | inr away ↦ inl (rw (h.0, k.0) (entry-by ((q - g.images) / 128) ((q - g.images) % 128) k.1 (λ is. absurd (away.1 is))))
      ]
      go (inr h) (inr k) = inl (rw (h.0, k.0) refl)

-- ---- a sector of a write lands

module _ (g : Geometry) (geometry : IsGeometry g) (d : Device) (shared : Shared (trees_of g d)) (rooted : IsRooted g d) (rests : List ℕ) (names : ℕ → Type 0) (block : ℕ) (bytes : List ℕ) (s : ℕ) where
  abbrev pub after : Device
  after = put d block (with_landed_sector s bytes (d block))

  pub there : (c : ℕ) → c ≢ block → after c ≡ d c
  there c ne = put-other d block (with_landed_sector s bytes (d block)) c ne

  here : after block ≡ with_landed_sector s bytes (d block)
  here = put-same d block (with_landed_sector s bytes (d block))

  -- what isn't the sector that tells changes nothing
  all-same : (sector : ℕ) → OnlySector sector bytes (d block) → s ≢ sector → (c : ℕ) → after c ≡ d c
  all-same sector only ne c = elim (eqb_tells c block) [
    | inl is ↦ (let P : ℕ → Type 0 = λ x. after x ≡ d x in subst P (sym is.1) (here ∙ only.others s ne))
    | inr away ↦ there c away.1
  ]

  -- and that one brings the whole write
  brings : (sector : ℕ) → OnlySector sector bytes (d block) → s ≡ sector → after block ≡ bytes
  brings sector only is = here ∙ (ap (λ (x : ℕ). with_landed_sector x bytes (d block)) is ∙ only.own)

  nothing-moves : ((c : ℕ) → after c ≡ d c) → SamePaths (trees_of g d) (trees_of g after)
  nothing-moves each = same-paths (trees_of g d) (trees_of g after)
      (λ q. root-at g d after q (λ less. ap (λ (x : List ℕ). live_root (read_image x)) (each (record_at g q)))
      (λ less. ap (λ (y : List ℕ). entry_root (read_image (after (record_at g ((q - g.images) / 128)))) y ((q - g.images) % 128)) (each (log_at g ((q - g.images) / 128)))
      ∙ ap (λ (x : List ℕ). entry_root (read_image x) (d (log_at g ((q - g.images) / 128))) ((q - g.images) % 128)) (each (record_at g ((q - g.images) / 128)))))
      (λ r ds b m k le at. ap (λ (x : List ℕ). pointer_at x k) (each b))

  still-content : ((c : ℕ) → after c ≡ d c) → (q : ℕ) (ds : List ℕ) → length ds ≡ 3 → behind after (end (trees_of g after) q ds) ≡ behind d (end (trees_of g d) q ds)
  still-content each q ds three = ap (behind after) (nothing-moves each q ds (omega (arith, three))) ∙ by_pointer (end (trees_of g d) q ds)
    where
      by_pointer : (p : Pointer) → behind after p ≡ behind d p
      by_pointer Hole = refl
      by_pointer (To b m) = each b

  -- a block of the pool is no record and no log
  pool-record : InPool g block → (i : ℕ) → i < g.images → record_at g i ≢ block
  pool-record pool i less is = pool-only g geometry block pool (Record (record { 0 = i })) less is

  pool-log : InPool g block → (i : ℕ) → i < g.images → log_at g i ≢ block
  pool-log pool i less is = pool-only g geometry block pool (Log (record { 0 = i })) less is

  pool-map : InPool g block → (extent : ℕ) → extent < g.extents → map_at g extent ≢ block
  pool-map pool extent less is = pool-only g geometry block pool (Map (record { 0 = extent })) less is

  -- where no map is written each block stays allocated or clear
  maps-stay : ((extent : ℕ) → extent < g.extents → map_at g extent ≢ block) → (b : ℕ) → InPool g b → is_allocated g after b ≡ is_allocated g d b
  maps-stay away b pool = ap (λ (x : List ℕ). bit_of x (b - map_at g (extent_of g b))) (there (map_at g (extent_of g b)) (away (extent_of g b) (pool-extent-within g b pool)))

  -- ---- a fresh block

  pub fresh-moves : (home : ℕ) → OnFresh g d home block → SamePaths (trees_of g d) (trees_of g after)
  fresh-moves home on = put-paths g d block (with_landed_sector s bytes (d block)) (pool-record on.pool) (pool-log on.pool) (λ q ds m le. on.off q ds m (omega (arith, le)))

  pub fresh-after : (home : ℕ) → OnFresh g d home block → OnFresh g after home block
  fresh-after home on = record { pool = on.pool; lease = on.lease; off = λ q ds m le at. on.off q ds m le (sym (fresh-moves home on q ds le) ∙ at) }

  -- ---- a data block

  pub leaf-moves : (home : ℕ) → OnLeaf g d home block → SamePaths (trees_of g d) (trees_of g after)
  leaf-moves home on =
      let pool = (rooted on.image on.at block true (let w = on.whole in omega (arith, w)) on.owned).0 in
      put-paths g d block (with_landed_sector s bytes (d block)) (pool-record pool) (pool-log pool) (leaf-off (trees_of g d) on.image on.at block shared on.whole on.owned)

  pub leaf-after : (home : ℕ) → OnLeaf g d home block → OnLeaf g after home block
  leaf-after home on = record {
    image = on.image;
    within = on.within;
    lease = on.lease;
    at = on.at;
    whole = on.whole;
    owned = leaf-moves home on on.image on.at (let w = on.whole in omega (arith, w)) ∙ on.owned;
  }

  -- ---- a node

  module _ (landed : List Bool) (missing : slice_get landed s ≡ Some false) where
    flag-before : (k : ℕ) → s ≢ k → slice_get (slice_set landed s true) k ≡ Some false → slice_get landed k ≡ Some false
    flag-before k ne flag = sym (set-other landed s k true (λ e. ne (sym e))) ∙ flag

    flag-gone : (k : ℕ) → s ≡ k → slice_get (slice_set landed s true) k ≡ Some false → ⊥
    flag-gone k is flag =
        let set : slice_get (slice_set landed s true) s ≡ Some true = set-same landed s true false missing in
        let f : Some true ≡ Some false = sym set ∙ (ap (slice_get (slice_set landed s true)) is ∙ flag) in
        let P : ⊥ = cc in P

    flag-now : (k : ℕ) → s ≡ k → slice_get landed k ≡ Some false
    flag-now k is = ap (slice_get landed) (sym is) ∙ missing

    chain-same : (image : ℕ) (fresh : ℕ → ℕ) (post at : List ℕ) → ((c : ℕ) → after c ≡ d c) → Chain g d rests names image fresh post at → Chain g after rests names image fresh post at
    chain-same image fresh post at each chain =
        let paths = nothing-moves each in
        chain-moves g d after rests names image fresh post at (λ es le. paths image es le) (λ j le. each (fresh j))
        (λ j le q ds m low at'. chain.can.unreachable j le q ds m low (sym (paths q ds low) ∙ at'))
        (λ j le. ap (λ (x : List ℕ). bit_of x (fresh j - map_at g (extent_of g (fresh j)))) (each (map_at g (extent_of g (fresh j)))))
        chain

    -- what the landing of a link's sector leaves of it
    pub record LinkLands (waits : LinkWaits g d rests names block bytes landed) : Type 0 where
      pub moved : Moved g d after rests names
      pub waits_after : LinkWaits g after rests names block bytes (slice_set landed s true)
      -- the content of no other virtual block changes
      pub contents : (q : ℕ) (ds : List ℕ) → length ds ≡ 3 → ((q ≡ waits.on.image) × (ds ≡ down waits.post (waits.on.digit ∷ waits.on.above)) → ⊥) →
          behind after (end (trees_of g after) q ds) ≡ behind d (end (trees_of g d) q ds)
      -- and that of its own is the fresh data block once its sector has landed
      pub own : s ≡ waits.on.digit / 64 → behind after (end (trees_of g after) waits.on.image (down waits.post (waits.on.digit ∷ waits.on.above))) ≡ d (waits.fresh 0)

    pub link-lands : (waits : LinkWaits g d rests names block bytes landed) → (is_in waits.home rests ≡ true) → LinkLands waits
    link-lands waits under = go (eqb_tells s (waits.on.digit / 64))
      where
        on : OnNode g d waits.home block bytes
        on = waits.on

        go : ((s == waits.on.digit / 64) ≡ true) × (s ≡ waits.on.digit / 64) ⊎ ((s == waits.on.digit / 64) ≡ false) × (s ≢ waits.on.digit / 64) → LinkLands waits
        go (inr away) =
            let each = all-same (on.digit / 64) on.only away.1 in
            let paths = nothing-moves each in
            record {
              moved = same paths;
              contents = λ q ds three own. still-content each q ds three;
              own = λ is. absurd (away.1 is);
              waits_after = record {
                home = waits.home;
                is_home = waits.is_home;
                on = record {
                  image = on.image;
                  within = on.within;
                  lease = on.lease;
                  digit = on.digit;
                  above = on.above;
                  small = on.small;
                  low = on.low;
                  owned = paths on.image on.above (let l = on.low in omega (arith, l)) ∙ on.owned;
                  only = only-moves (on.digit / 64) bytes (d block) (after block) (each block) on.only;
                };
                fresh = waits.fresh;
                post = waits.post;
                entry = waits.entry;
                entries = λ flag e ne. waits.entries (flag-before (on.digit / 64) away.1 flag) e ne ∙ ap (λ (x : List ℕ). pointer_at x e) (sym (each block));
                chain = λ flag. chain-same on.image waits.fresh waits.post (on.digit ∷ on.above) each (waits.chain (flag-before (on.digit / 64) away.1 flag));
              };
            }
        go (inl told) =
            let chain = waits.chain (flag-now (on.digit / 64) told.1) in
            let entries = waits.entries (flag-now (on.digit / 64) told.1) in
            let pool = (rooted on.image on.above block true (let l = on.low in omega (arith, l)) on.owned).0 in
            let is = brings (on.digit / 64) on.only told.1 in
            let linked : NodeLinked (trees_of g d) (trees_of g after) block on.digit (To (waits.fresh (length waits.post)) true) = record {
              roots = roots-put g d block (with_landed_sector s bytes (d block)) (pool-record pool) (pool-log pool);
              entry = ap (λ (x : List ℕ). pointer_at x on.digit) is ∙ waits.entry;
              entries = λ e ne. ap (λ (x : List ℕ). pointer_at x e) is ∙ entries e ne;
              others = λ c e ne. ap (λ (x : List ℕ). pointer_at x e) (there c ne);
            } in
            let changes = node-changes (trees_of g d) (trees_of g after) on.image waits.fresh waits.post on.digit on.above block shared on.owned chain.can linked in
            record {
              contents = λ q ds three own. content-linked g d after block there shared on.image waits.fresh waits.post (on.digit ∷ on.above) changes (node-off g d shared on.image on.above block on.low on.owned) q ds three own;
              own = λ here'. (content-own g d after block there on.image waits.fresh waits.post (on.digit ∷ on.above) changes
                  (node-place (trees_of g d) (trees_of g after) on.image waits.fresh waits.post on.digit on.above block changes on.owned linked)
                  ∙ there (waits.fresh 0) (λ at. chain.can.unreachable 0 (omega arith) on.image on.above true (let l = on.low in omega (arith, l)) (on.owned ∙ ap (λ (x : ℕ). To x true) (sym at))));
              moved = made on.image on.within (subst (λ (l : ℕ). is_in l rests ≡ true) on.lease under) waits.fresh waits.post (on.digit ∷ on.above) changes chain.named (maps-stay (λ extent less is'. pool-map pool extent less is'));
              waits_after = record {
                home = waits.home;
                is_home = waits.is_home;
                on = record {
                  image = on.image;
                  within = on.within;
                  lease = on.lease;
                  digit = on.digit;
                  above = on.above;
                  small = on.small;
                  low = on.low;
                  owned = link-above (trees_of g d) (trees_of g after) on.image waits.fresh waits.post (on.digit ∷ on.above) changes on.image on.above (omega arith) ∙ on.owned;
                  only = only-moves (on.digit / 64) bytes bytes (after block) is (record { own = landed-same (on.digit / 64) bytes; others = λ other ne. landed-same other bytes });
                };
                fresh = waits.fresh;
                post = waits.post;
                entry = waits.entry;
                entries = λ flag. absurd (flag-gone (on.digit / 64) told.1 flag);
                chain = λ flag. absurd (flag-gone (on.digit / 64) told.1 flag);
              };
            }

    -- ---- a record

    pub record RecordLands (waits : RecordWaits g d rests names block bytes landed) : Type 0 where
      pub moved : Moved g d after rests names
      pub waits_after : RecordWaits g after rests names block bytes (slice_set landed s true)

    pub record-lands : (waits : RecordWaits g d rests names block bytes landed) → (is_in waits.home rests ≡ true) → RecordLands waits
    record-lands waits under = go (eqb_tells s 0)
      where
        on : OnRecord g d waits.home block bytes
        on = waits.on

        i : ℕ
        i = waits.on.image

        -- blocks of the pool stay
        pool-stays : (b : ℕ) → InPool g b → after b ≡ d b
        pool-stays b pool = there b (λ is. pool-only g geometry b pool (Record (record { 0 = waits.on.image })) waits.on.within (sym (is ∙ waits.on.place)))

        nodes-stay : (r : ℕ) (ds : List ℕ) (b : ℕ) (m : Bool) (k : ℕ) → length ds ≤ 2 → end (trees_of g d) r ds ≡ To b m → (trees_of g after).node b k ≡ (trees_of g d).node b k
        nodes-stay r ds b m k le at = ap (λ (x : List ℕ). pointer_at x k) (pool-stays b (rooted r ds b m (omega (arith, le)) at).0)

        others : (c : ℕ) → c ≢ record_at g waits.on.image → after c ≡ d c
        others c ne = there c (λ is. ne (is ∙ waits.on.place))

        moves-same : ((c : ℕ) → after c ≡ d c) → RecordMoves g d rests names i bytes → RecordMoves g after rests names i bytes
        moves-same each moves = by_cases moves
          where
            entries : ((k : ℕ) → entry_root (read_image bytes) (d (log_at g i)) k ≡ entry_root (read_image (d (record_at g i))) (d (log_at g i)) k) →
                (k : ℕ) → entry_root (read_image bytes) (after (log_at g i)) k ≡ entry_root (read_image (after (record_at g i))) (after (log_at g i)) k
            entries was k =
                let P : List ℕ → List ℕ → Type 0 = λ x y. entry_root (read_image bytes) y k ≡ entry_root (read_image x) y k in
                subst (λ (y : List ℕ). P (after (record_at g i)) y) (sym (each (log_at g i))) (subst (λ (x : List ℕ). P x (d (log_at g i))) (sym (each (record_at g i))) (was k))

            by_cases : RecordMoves g d rests names i bytes → RecordMoves g after rests names i bytes
            by_cases (stays root was) = stays (root ∙ ap (λ (x : List ℕ). live_root (read_image x)) (sym (each (record_at g i)))) (entries was)
            by_cases (clears root none) = clears root none
            by_cases (links fresh post chain root was) = links fresh post (chain-same i fresh post [] each chain) root (entries was)

        by_moves : (is : after (record_at g i) ≡ bytes) → RecordMoves g d rests names i bytes → Moved g d after rests names
        by_moves is (stays root was) = same (same-paths (trees_of g d) (trees_of g after)
            (root-all g d after i on.within others (ap (λ (x : List ℕ). live_root (read_image x)) is ∙ root)
            (λ n. ap (λ (x : List ℕ). entry_root (read_image x) (d (log_at g i)) n) is ∙ was n)) nodes-stay)
        by_moves is (clears root none) =
            let each = root-clears g d after i on.within others (ap (λ (x : List ℕ). live_root (read_image x)) is ∙ root) (λ log n. ap (λ (x : List ℕ). entry_root (read_image x) log n) is ∙ none log n) in
            turned (record { each = λ q. elim (each q) [ inl stays' ↦ inl stays' | inr hole ↦ inr (inr hole.0) ]; nodes = nodes-stay })
            (λ q. elim (each q) [ inl stays' ↦ inl stays' | inr hole ↦ inr (subst (λ (l : ℕ). is_in l rests ≡ true) (on.lease ∙ sym hole.1) under) ])
        by_moves is (links fresh post chain root was) =
            let linked : RootLinked (trees_of g d) (trees_of g after) i block (To (fresh (length post)) true) = record {
              root = root-live g after i on.within ∙ (ap (λ (x : List ℕ). live_root (read_image x)) is ∙ root);
              roots = root-but g d after i on.within others (λ n. ap (λ (x : List ℕ). entry_root (read_image x) (d (log_at g i)) n) is ∙ was n);
              others = λ c e ne. ap (λ (x : List ℕ). pointer_at x e) (there c ne);
            } in
            let off : Unreachable (trees_of g d) block = λ q ds m le at. pool-only g geometry block (rooted q ds block m le at).0 (Record (record { 0 = i })) on.within (sym on.place) in
            made i on.within (subst (λ (l : ℕ). is_in l rests ≡ true) on.lease under) fresh post []
            (root-changes (trees_of g d) (trees_of g after) i block fresh post chain.can off
            (λ j le is'. pool-only g geometry (fresh j) (chain.named j le).pool (Record (record { 0 = i })) on.within (sym (is' ∙ on.place))) linked) chain.named (maps-stay (λ extent less is'. record-map g i extent on.within (sym (is' ∙ on.place))))

        go : ((s == 0) ≡ true) × (s ≡ 0) ⊎ ((s == 0) ≡ false) × (s ≢ 0) → RecordLands waits
        go (inr away) =
            let each = all-same 0 on.only away.1 in
            record {
              moved = same (nothing-moves each);
              waits_after = record {
                home = waits.home;
                is_home = waits.is_home;
                on = record { image = on.image; within = on.within; lease = on.lease; place = on.place; only = only-moves 0 bytes (d block) (after block) (each block) on.only };
                moves = λ flag. moves-same each (waits.moves (flag-before 0 away.1 flag));
              };
            }
        go (inl told) =
            let is = brings 0 on.only told.1 in
            record {
              moved = by_moves (ap after (sym on.place) ∙ is) (waits.moves (flag-now 0 told.1));
              waits_after = record {
                home = waits.home;
                is_home = waits.is_home;
                on = record { image = on.image; within = on.within; lease = on.lease; place = on.place; only = only-moves 0 bytes bytes (after block) is (record { own = landed-same 0 bytes; others = λ other ne. landed-same other bytes }) };
                moves = λ flag. absurd (flag-gone 0 told.1 flag);
              };
            }
