-- What holds of a write of trees, by its kind: of its place while its home stands, and of what it waits on while all its claims stand.
use Rattle.std.proofs.Common.{◌≡◌, ◌≢◌, ℕ, ◌+◌, ◌-◌, ◌/◌, ◌<◌, ◌≤◌, List, [], ◌∷◌, length, Bool, true, false, Some, refl, ap, sym, ◌∙◌, subst, arith}
use Rattle.std.specs.Prelude.{slice_get}
use Rattle.plx_base.specs.Sectors.{Device}
use Rattle.plx_base.specs.Spelling.{OnlySector}
use Rattle.plx_base.specs.declared.write_kind.WriteKind.{WriteKind}
use Rattle.plx_base.specs.declared.write_kind.WriteKind.TheVariants as kind
use Rattle.plx_commands.specs.Replies.{is_in}
use Rattle.plx_extent.specs.Maps.{bit_of}
use Rattle.plx_gate.specs.Images.{read_image}
use Rattle.plx_geom.specs.Geometry.{Geometry, image_lease, extent_lease, record_at, log_at, map_at}
use Rattle.plx_geom.specs.declared.place.Place.TheVariants.{Record, Log, Map}
use Rattle.plx_radix.specs.Nodes.{pointer_at}
use Rattle.plx_radix.specs.Paths.{Hole, To, Trees, end, Unreachable, Shared}
use Rattle.plx_rules.specs.Pools.{is_allocated}
use Rattle.plx_rules.specs.Rests.{extent_of, home_of}
use Rattle.law_paths.specs.Links.{Copies, CanLink}
use Rattle.plx_rules.specs.Homes.{Covers}
use Rattle.law_lease.proofs.Frame.{SameUnder}
use Rattle.plx_rules.specs.Trees.{live_root, entry_root, lease_of_root, trees_of, InPool, IsRooted}
use Rattle.law_tree.proofs.Moved.{IsNamedBlock, Moved, WritesTree, moved-other, moved-off, apart-path, apart-free}
use Rattle.law_tree.proofs.Roots.{lease-live, pool-extent-within}

-- ---- its place

-- a fresh block, under the lease of its extent
pub record OnFresh (g : Geometry) (d : Device) (home block : ℕ) : Type 0 where
  pub pool : InPool g block
  pub lease : home ≡ extent_lease g (extent_of g block)
  pub off : Unreachable (trees_of g d) block

-- a node at the end of a marked path of an image, of which one sector may change
pub record OnNode (g : Geometry) (d : Device) (home block : ℕ) (bytes : List ℕ) : Type 0 where
  pub image : ℕ
  pub within : image < g.images
  pub lease : home ≡ image_lease image
  pub digit : ℕ
  pub above : List ℕ
  pub small : digit < 512
  pub low : length above ≤ 2
  pub owned : end (trees_of g d) image above ≡ To block true
  pub only : OnlySector (digit / 64) bytes (d block)

-- a data block at the end of a marked path of an image
pub record OnLeaf (g : Geometry) (d : Device) (home block : ℕ) : Type 0 where
  pub image : ℕ
  pub within : image < g.images
  pub lease : home ≡ image_lease image
  pub at : List ℕ
  pub whole : length at ≡ 3
  pub owned : end (trees_of g d) image at ≡ To block true

-- the record of an image, of which the first sector may change
pub record OnRecord (g : Geometry) (d : Device) (home block : ℕ) (bytes : List ℕ) : Type 0 where
  pub image : ℕ
  pub within : image < g.images
  pub lease : home ≡ image_lease image
  pub place : block ≡ record_at g image
  pub only : OnlySector 0 bytes (d block)

-- by its kind
abbrev pub TreePlaced : WriteKind → Geometry → Device → (home block : ℕ) → (bytes : List ℕ) → Type 0
TreePlaced kind.Fresh g d home block bytes = OnFresh g d home block
TreePlaced kind.Link g d home block bytes = OnNode g d home block bytes
TreePlaced kind.Overwrite g d home block bytes = OnLeaf g d home block
TreePlaced kind.Record g d home block bytes = OnRecord g d home block bytes
TreePlaced other g d home block bytes = Unit {0}

-- ---- what it waits on

-- fresh blocks in their order, which a link at this place makes reachable
pub record Chain (g : Geometry) (d : Device) (rests : List ℕ) (names : ℕ → Type 0) (image : ℕ) (fresh : ℕ → ℕ) (post at : List ℕ) : Type 0 where
  pub can : CanLink (trees_of g d) image fresh post at
  pub named : (j : ℕ) → j ≤ length post → IsNamedBlock g d rests names (fresh j)

-- the link of a node
pub record LinkWaits (g : Geometry) (d : Device) (rests : List ℕ) (names : ℕ → Type 0) (block : ℕ) (bytes : List ℕ) (landed : List Bool) : Type 0 where
  pub home : ℕ
  pub is_home : home_of rests ≡ Some home
  pub on : OnNode g d home block bytes
  pub fresh : ℕ → ℕ
  pub post : List ℕ
  pub entry : pointer_at bytes on.digit ≡ To (fresh (length post)) true
  pub entries : slice_get landed (on.digit / 64) ≡ Some false → (e : ℕ) → e ≢ on.digit → pointer_at bytes e ≡ pointer_at (d block) e
  pub chain : slice_get landed (on.digit / 64) ≡ Some false → Chain g d rests names on.image fresh post (on.digit ∷ on.above)

-- what the write of a record makes of its image's roots: they stay, or are holes, or the live one comes to lead to fresh blocks
pub data RecordMoves (g : Geometry) (d : Device) (rests : List ℕ) (names : ℕ → Type 0) (image : ℕ) (bytes : List ℕ) : Type 0 where
  stays : live_root (read_image bytes) ≡ live_root (read_image (d (record_at g image))) →
      ((k : ℕ) → entry_root (read_image bytes) (d (log_at g image)) k ≡ entry_root (read_image (d (record_at g image))) (d (log_at g image)) k) → RecordMoves g d rests names image bytes
  clears : live_root (read_image bytes) ≡ Hole → ((log : List ℕ) (k : ℕ) → entry_root (read_image bytes) log k ≡ Hole) → RecordMoves g d rests names image bytes
  links : (fresh : ℕ → ℕ) (post : List ℕ) → Chain g d rests names image fresh post [] → live_root (read_image bytes) ≡ To (fresh (length post)) true →
      ((k : ℕ) → entry_root (read_image bytes) (d (log_at g image)) k ≡ entry_root (read_image (d (record_at g image))) (d (log_at g image)) k) → RecordMoves g d rests names image bytes

-- the write of a record
pub record RecordWaits (g : Geometry) (d : Device) (rests : List ℕ) (names : ℕ → Type 0) (block : ℕ) (bytes : List ℕ) (landed : List Bool) : Type 0 where
  pub home : ℕ
  pub is_home : home_of rests ≡ Some home
  pub on : OnRecord g d home block bytes
  pub moves : slice_get landed 0 ≡ Some false → RecordMoves g d rests names on.image bytes

-- a map's blocks whose bits it clears are reached by no path
abbrev pub Clears : Geometry → Device → (block : ℕ) → (bytes : List ℕ) → Type 0
Clears g d block bytes = (b : ℕ) → InPool g b → map_at g (extent_of g b) ≡ block → is_allocated g d b ≡ true → bit_of bytes (b - map_at g (extent_of g b)) ≡ false → Unreachable (trees_of g d) b

-- by its kind
abbrev pub TreeWaits : WriteKind → Geometry → Device → (rests : List ℕ) → (names : ℕ → Type 0) → (block : ℕ) → (bytes : List ℕ) → (landed : List Bool) → Type 0
TreeWaits kind.Give g d rests names block bytes landed = Clears g d block bytes
TreeWaits kind.Sweep g d rests names block bytes landed = Clears g d block bytes
TreeWaits kind.Link g d rests names block bytes landed = LinkWaits g d rests names block bytes landed
TreeWaits kind.Record g d rests names block bytes landed = RecordWaits g d rests names block bytes landed
TreeWaits other g d rests names block bytes landed = Unit {0}

-- ---- they go from one device to another

-- copies stay where the fresh blocks and the paths of the image do
pub copies-move : (w v : Trees) (r : ℕ) (fresh : ℕ → ℕ) (post ds : List ℕ) → ((k i : ℕ) → k ≤ length post → v.node (fresh k) i ≡ w.node (fresh k) i) →
    ((es : List ℕ) → length es ≤ 3 → end v r es ≡ end w r es) → length post + length ds ≡ 3 → Copies w r fresh post ds → Copies v r fresh post ds
copies-move w v r fresh [] ds nodes ends whole copies = tt
copies-move w v r fresh (x ∷ post) ds nodes ends whole copies = (
  nodes (length (x ∷ post)) x (omega arith) ∙ copies.0,
  (λ i ne. nodes (length (x ∷ post)) i (omega arith) ∙ (copies.1 i ne ∙ sym (ends (i ∷ ds) (omega (arith, whole))))),
  copies-move w v r fresh post (x ∷ ds) (λ k i le. nodes k i (omega (arith, le))) ends (omega (arith, whole)) copies.2,
)

-- and so does a chain, where its blocks stay unreachable and allocated
pub chain-moves : (g : Geometry) (d e : Device) (rests : List ℕ) (names : ℕ → Type 0) (image : ℕ) (fresh : ℕ → ℕ) (post at : List ℕ) →
    ((es : List ℕ) → length es ≤ 3 → end (trees_of g e) image es ≡ end (trees_of g d) image es) → ((j : ℕ) → j ≤ length post → e (fresh j) ≡ d (fresh j)) →
    ((j : ℕ) → j ≤ length post → Unreachable (trees_of g e) (fresh j)) → ((j : ℕ) → j ≤ length post → is_allocated g e (fresh j) ≡ is_allocated g d (fresh j)) →
    Chain g d rests names image fresh post at → Chain g e rests names image fresh post at
chain-moves g d e rests names image fresh post at ends same off bits chain =
    let can = chain.can in
    record {
      can = record {
        whole = can.whole;
        apart = can.apart;
        unreachable = off;
        copies = copies-move (trees_of g d) (trees_of g e) image fresh post at (λ k i le. ap (λ (x : List ℕ). pointer_at x i) (same k le)) ends can.whole can.copies;
        unowned = λ b at'. can.unowned b (sym (ends at (omega (arith, can.whole))) ∙ at');
      };
      named = λ j le. (let n = chain.named j le in record { pool = n.pool; allocated = bits j le ∙ n.allocated; under = n.under; named = n.named });
    }

pub only-moves : (sector : ℕ) (bytes one other : List ℕ) → other ≡ one → OnlySector sector bytes one → OnlySector sector bytes other
only-moves sector bytes one other same only = subst (λ (x : List ℕ). OnlySector sector bytes x) (sym same) only

-- what a lease covers by its place
pub map-covers : (g : Geometry) (extent : ℕ) → extent < g.extents → Covers g (extent_lease g extent) (map_at g extent)
map-covers g extent within = record { place = Map (record { 0 = extent }); is = within; here = refl; under = refl }

pub record-covers : (g : Geometry) (image : ℕ) → image < g.images → Covers g (image_lease image) (record_at g image)
record-covers g image within = record { place = Record (record { 0 = image }); is = within; here = refl; under = refl }

pub log-covers : (g : Geometry) (image : ℕ) → image < g.images → Covers g (image_lease image) (log_at g image)
log-covers g image within = record { place = Log (record { 0 = image }); is = within; here = refl; under = refl }

-- a block stays allocated where the map of its extent stays
pub allocated-same : (g : Geometry) (d e : Device) (b : ℕ) → InPool g b → SameUnder g (extent_lease g (extent_of g b)) d e → is_allocated g e b ≡ is_allocated g d b
allocated-same g d e b pool same =
    ap (λ (x : List ℕ). bit_of x (b - map_at g (extent_of g b))) (same (map_at g (extent_of g b)) (map-covers g (extent_of g b) (pool-extent-within g b pool)))

-- ---- beside the landing of a write that rests on other leases

module _ (g : Geometry) (d e : Device) (rests : List ℕ) (names : ℕ → Type 0) (block : ℕ) (shared : Shared (trees_of g d)) (rooted : IsRooted g d)
    (moved : Moved g d e rests names) (writes : WritesTree g d rests block) (others : (c : ℕ) → c ≢ block → e c ≡ d c) where
  -- an image's paths and their blocks stay
  pub paths-aside : (home image : ℕ) → image < g.images → home ≡ image_lease image → (is_in home rests ≡ true → ⊥) → (is_in (lease_of_root g image) rests ≡ true → ⊥)
  paths-aside home image within lease away under = away (subst (λ (l : ℕ). is_in l rests ≡ true) (lease-live g image within ∙ sym lease) under)

  pub path-block : (home image : ℕ) → image < g.images → home ≡ image_lease image → (is_in home rests ≡ true → ⊥) → (ds : List ℕ) (c : ℕ) (m : Bool) → length ds ≤ 3 → end (trees_of g d) image ds ≡ To c m → e c ≡ d c
  path-block home image within lease away ds c m le at = others c (apart-path g d rests block shared rooted writes image ds c m le at (paths-aside home image within lease away))

  pub path-ends : (home image : ℕ) → image < g.images → home ≡ image_lease image → (is_in home rests ≡ true → ⊥) → (ds : List ℕ) → length ds ≤ 3 → end (trees_of g e) image ds ≡ end (trees_of g d) image ds
  path-ends home image within lease away ds le = moved-other g d e rests names moved image (paths-aside home image within lease away) ds le

  -- a block that no path reaches, in an extent on whose lease the write doesn't rest
  pub free-stays : (c : ℕ) → (is_in (extent_lease g (extent_of g c)) rests ≡ true → ⊥) → Unreachable (trees_of g d) c → Unreachable (trees_of g e) c
  free-stays c away off = moved-off g d e rests names moved c (λ n. away n.under) off

  abbrev pub node-aside : (home b : ℕ) (bytes : List ℕ) → (is_in home rests ≡ true → ⊥) → OnNode g d home b bytes → OnNode g e home b bytes
  node-aside home b bytes away on = record {
    image = on.image;
    within = on.within;
    lease = on.lease;
    digit = on.digit;
    above = on.above;
    small = on.small;
    low = on.low;
    owned = path-ends home on.image on.within on.lease away on.above (let l = on.low in omega (arith, l)) ∙ on.owned;
    only = only-moves (on.digit / 64) bytes (d b) (e b) (path-block home on.image on.within on.lease away on.above b true (let l = on.low in omega (arith, l)) on.owned) on.only;
  }

  abbrev pub record-aside : (home b : ℕ) (bytes : List ℕ) → SameUnder g home d e → OnRecord g d home b bytes → OnRecord g e home b bytes
  record-aside home b bytes same on = record {
    image = on.image;
    within = on.within;
    lease = on.lease;
    place = on.place;
    only = only-moves 0 bytes (d b) (e b) (same b (subst (λ (l : ℕ). Covers g l b) (sym on.lease) (subst (λ (x : ℕ). Covers g (image_lease on.image) x) (sym on.place) (record-covers g on.image on.within)))) on.only;
  }

  -- what holds of the place of another write stays
  pub placed-aside : (k : WriteKind) (home b : ℕ) (bytes : List ℕ) → (is_in home rests ≡ true → ⊥) → SameUnder g home d e → TreePlaced k g d home b bytes → TreePlaced k g e home b bytes
  placed-aside kind.Fresh home b bytes away same on = record {
    pool = on.pool;
    lease = on.lease;
    off = free-stays b (λ under. away (subst (λ (l : ℕ). is_in l rests ≡ true) (sym on.lease) under)) on.off;
  }
  placed-aside kind.Link home b bytes away same on = node-aside home b bytes away on
  placed-aside kind.Overwrite home b bytes away same on = record {
    image = on.image;
    within = on.within;
    lease = on.lease;
    at = on.at;
    whole = on.whole;
    owned = path-ends home on.image on.within on.lease away on.at (let w = on.whole in omega (arith, w)) ∙ on.owned;
  }
  placed-aside kind.Record home b bytes away same on = record-aside home b bytes same on
  placed-aside kind.Claim home b bytes away same on = tt
  placed-aside kind.Renew home b bytes away same on = tt
  placed-aside kind.Release home b bytes away same on = tt
  placed-aside kind.Take home b bytes away same on = tt
  placed-aside kind.Give home b bytes away same on = tt
  placed-aside kind.Sweep home b bytes away same on = tt
  placed-aside kind.Log home b bytes away same on = tt
  placed-aside kind.JData home b bytes away same on = tt
  placed-aside kind.JCommit home b bytes away same on = tt

  -- a chain of another write stays
  chain-aside : (its : List ℕ) (called : ℕ → Type 0) (home image : ℕ) (fresh : ℕ → ℕ) (post at : List ℕ) → image < g.images → home ≡ image_lease image → (is_in home rests ≡ true → ⊥) →
      ((lease : ℕ) → is_in lease its ≡ true → is_in lease rests ≡ true → ⊥) → ((lease : ℕ) → is_in lease its ≡ true → SameUnder g lease d e) →
      Chain g d its called image fresh post at → Chain g e its called image fresh post at
  chain-aside its called home image fresh post at within lease away apart same chain =
      chain-moves g d e its called image fresh post at (path-ends home image within lease away)
      (λ j le. (let n = chain.named j le in others (fresh j) (apart-free g d rests block writes (fresh j) n.pool (chain.can.unreachable j le) (apart (extent_lease g (extent_of g (fresh j))) n.under))))
      (λ j le. (let n = chain.named j le in free-stays (fresh j) (apart (extent_lease g (extent_of g (fresh j))) n.under) (chain.can.unreachable j le)))
      (λ j le. (let n = chain.named j le in allocated-same g d e (fresh j) n.pool (same (extent_lease g (extent_of g (fresh j))) n.under)))
      chain

  moves-aside : (its : List ℕ) (called : ℕ → Type 0) (home image : ℕ) (bytes : List ℕ) → image < g.images → home ≡ image_lease image → is_in home its ≡ true →
      ((lease : ℕ) → is_in lease its ≡ true → is_in lease rests ≡ true → ⊥) → ((lease : ℕ) → is_in lease its ≡ true → SameUnder g lease d e) →
      RecordMoves g d its called image bytes → RecordMoves g e its called image bytes
  moves-aside its called home image bytes within lease under apart same moves = by_cases moves
    where
      its_lease : is_in (image_lease image) its ≡ true
      its_lease = subst (λ (l : ℕ). is_in l its ≡ true) lease under

      record_stays : e (record_at g image) ≡ d (record_at g image)
      record_stays = same (image_lease image) its_lease (record_at g image) (record-covers g image within)

      log_stays : e (log_at g image) ≡ d (log_at g image)
      log_stays = same (image_lease image) its_lease (log_at g image) (log-covers g image within)

      entries : ((k : ℕ) → entry_root (read_image bytes) (d (log_at g image)) k ≡ entry_root (read_image (d (record_at g image))) (d (log_at g image)) k) →
          (k : ℕ) → entry_root (read_image bytes) (e (log_at g image)) k ≡ entry_root (read_image (e (record_at g image))) (e (log_at g image)) k
      entries was k =
          let P : List ℕ → List ℕ → Type 0 = λ x y. entry_root (read_image bytes) y k ≡ entry_root (read_image x) y k in
          subst (λ (y : List ℕ). P (e (record_at g image)) y) (sym log_stays) (subst (λ (x : List ℕ). P x (d (log_at g image))) (sym record_stays) (was k))

      by_cases : RecordMoves g d its called image bytes → RecordMoves g e its called image bytes
      by_cases (stays root was) = stays (root ∙ ap (λ (x : List ℕ). live_root (read_image x)) (sym record_stays)) (entries was)
      by_cases (clears root none) = clears root none
      by_cases (links fresh post chain root was) = links fresh post (chain-aside its called home image fresh post [] within lease (apart home under) apart same chain) root (entries was)

  -- what another write waits on stays
  pub waits-aside : (k : WriteKind) (its : List ℕ) (called : ℕ → Type 0) (b : ℕ) (bytes : List ℕ) (landed : List Bool) → ((home : ℕ) → home_of its ≡ Some home → is_in home its ≡ true) →
      ((extent : ℕ) → b ≡ map_at g extent → is_in (extent_lease g extent) its ≡ true) → ((lease : ℕ) → is_in lease its ≡ true → is_in lease rests ≡ true → ⊥) →
      ((lease : ℕ) → is_in lease its ≡ true → SameUnder g lease d e) → TreeWaits k g d its called b bytes landed → TreeWaits k g e its called b bytes landed
  waits-aside kind.Give its called b bytes landed homes maps apart same waits = λ c pool here set clear.
      (let under = maps (extent_of g c) (sym here) in
      free-stays c (apart (extent_lease g (extent_of g c)) under) (waits c pool here (sym (allocated-same g d e c pool (same (extent_lease g (extent_of g c)) under)) ∙ set) clear))
  waits-aside kind.Sweep its called b bytes landed homes maps apart same waits = λ c pool here set clear.
      (let under = maps (extent_of g c) (sym here) in
      free-stays c (apart (extent_lease g (extent_of g c)) under) (waits c pool here (sym (allocated-same g d e c pool (same (extent_lease g (extent_of g c)) under)) ∙ set) clear))
  waits-aside kind.Link its called b bytes landed homes maps apart same waits =
      let under = homes waits.home waits.is_home in
      let on = waits.on in
      let away = apart waits.home under in
      record {
        home = waits.home;
        is_home = waits.is_home;
        on = node-aside waits.home b bytes away on;
        fresh = waits.fresh;
        post = waits.post;
        entry = waits.entry;
        entries = λ flag i ne. waits.entries flag i ne ∙ ap (λ (x : List ℕ). pointer_at x i) (sym (path-block waits.home on.image on.within on.lease away on.above b true (let l = on.low in omega (arith, l)) on.owned));
        chain = λ flag. chain-aside its called waits.home on.image waits.fresh waits.post (on.digit ∷ on.above) on.within on.lease away apart same (waits.chain flag);
      }
  waits-aside kind.Record its called b bytes landed homes maps apart same waits =
      let under = homes waits.home waits.is_home in
      record {
        home = waits.home;
        is_home = waits.is_home;
        on = record-aside waits.home b bytes (same waits.home under) waits.on;
        moves = λ flag. moves-aside its called waits.home waits.on.image bytes waits.on.within waits.on.lease under apart same (waits.moves flag);
      }
  waits-aside kind.Claim its called b bytes landed homes maps apart same waits = tt
  waits-aside kind.Renew its called b bytes landed homes maps apart same waits = tt
  waits-aside kind.Release its called b bytes landed homes maps apart same waits = tt
  waits-aside kind.Take its called b bytes landed homes maps apart same waits = tt
  waits-aside kind.Fresh its called b bytes landed homes maps apart same waits = tt
  waits-aside kind.Overwrite its called b bytes landed homes maps apart same waits = tt
  waits-aside kind.Log its called b bytes landed homes maps apart same waits = tt
  waits-aside kind.JData its called b bytes landed homes maps apart same waits = tt
  waits-aside kind.JCommit its called b bytes landed homes maps apart same waits = tt
