-- What each write meets of the trees as it is issued, and that each reachable block is allocated in every world that events lead to.
use Rattle.std.proofs.Common.{◌≡◌, ℕ, ◌<◌, inl, inr, List, [], ◌∷◌, length, Bool, true, false, Option, Some, None, refl, ap, sym, ◌∙◌, subst, arith}
use Rattle.std.specs.Prelude.{nat_lt}
use Rattle.plx_base.proofs.Devices.{put-same}
use Rattle.plx_base.proofs.Mixed.{mixed-all}
use Rattle.plx_base.proofs.Tests.{same-some, nat_lt-false}
use Rattle.plx_base.specs.Sectors.{Device, put, with_landed_sectors}
use Rattle.plx_base.specs.declared.write_kind.WriteKind.{WriteKind}
use Rattle.plx_base.specs.declared.write_kind.WriteKind.TheVariants as kind
use Rattle.plx_commands.specs.Replies.{is_in}
use Rattle.plx_commands.specs.declared.command.Command.{Command}
use Rattle.plx_disk.specs.Writes.{all_sectors, no_sectors}
use Rattle.plx_gate.proofs.Images.{image-back}
use Rattle.plx_gate.specs.Images.{image_bytes, read_image}
use Rattle.plx_gate.specs.declared.image.ImageRecord.{ImageRecord}
use Rattle.plx_gate.specs.declared.image.ImageRecord.TheVariants as image_is
use Rattle.plx_geom.specs.Geometry.{Geometry, image_lease, extent_lease, log_at}
use Rattle.plx_geom.specs.declared.place.Place.TheVariants.{Record}
use Rattle.plx_radix.specs.Nodes.{pointer_of}
use Rattle.plx_radix.proofs.Nodes.{pointer-hole}
use Rattle.plx_radix.proofs.Paths.{paths_agree}
use Rattle.plx_radix.specs.Paths.{Hole, To, end}
use Rattle.plx_rules.specs.Boot.{Place, In, Configuration}
use Rattle.plx_rules.specs.Ends.{End}
use Rattle.plx_rules.specs.Formatted.{IsFormatted}
use Rattle.plx_rules.specs.Process.{Process, WriteThen}
use Rattle.plx_rules.specs.Records.{root_of, taken_of}
use Rattle.plx_rules.specs.Rests.{extent_of, home_of, rests_on}
use Rattle.plx_rules.specs.Session.{Known}
use Rattle.plx_rules.specs.Settings.{boot_number}
use Rattle.plx_rules.specs.World as world
use Rattle.plx_rules.specs.World.{World, Step, Reached, stands, setting_of}
use Rattle.law_lease.proofs.Frame.{grips-free}
use Rattle.law_lease.proofs.LeaseSteps.{reached-leased}
use Rattle.law_lease.proofs.Leased.{LawfulAt, Leased, MayIssue}
use Rattle.law_lease.proofs.Open.{open-found}
use Rattle.law_lease.proofs.Rests.{home-in}
use Rattle.law_run.specs.AllowedAsks.{MayWrite, fresh_of_block}
use Rattle.law_space.proofs.Kept.{CarefulAt}
use Rattle.law_space.proofs.MapWrites.{on-map}
use Rattle.law_space.proofs.Lists.{unlinked-in}
use Rattle.law_space.proofs.SpaceSteps.{reached-spaced}
use Rattle.plx_rules.specs.Reachable.{trees_in, ReachableAllocated, OneLevel, OnePath}
use Rattle.plx_rules.specs.Trees.{live_root, entry_root, root_on, trees_of}
use Rattle.law_tree.proofs.ByKind.{OnFresh, OnRecord, clears, RecordWaits}
use Rattle.law_tree.proofs.Roots.{root-hole}
use Rattle.law_tree.proofs.SpaceMeets.{WriteAsked, in-hand-free, take-free, give-clears, rule}
use Rattle.law_tree.proofs.Names.{keeps-named, named_in}
use Rattle.law_tree.proofs.TreeSteps.{HoldsInTime, MeetsTree, RulesOfTrees, SparesHands}
use Rattle.law_tree.proofs.Treed.{Treed, IsFree, hand_while}
use Rattle.law_headline.proofs.Content.{KeepsContent}
use Rattle.law_headline.proofs.ContentWrites.{new-keeps}
use Rattle.law_headline.proofs.HeadlineProved.{reached-content}
use Rattle.law_headline.proofs.JournalFacts.{recorded}
use Rattle.law_run.proofs.Facts.{plain-parts}

-- the record of an image without tree and snapshots makes holes of its roots
hole-live : (kept : ImageRecord) → root_of kept ≡ 0 → live_root (Some kept) ≡ Hole
hole-live kept is = ap pointer_of is ∙ pointer-hole

hole-entry : (kept : ImageRecord) (log : List ℕ) (k : ℕ) → taken_of kept ≡ 0 → entry_root (Some kept) log k ≡ Hole
hole-entry kept log k is = let e : nat_lt k (taken_of kept) ≡ false = nat_lt-false k (taken_of kept) (omega (arith, is)) in rw e refl

module _ (names : ℕ → ℕ → Type 0) (w : World) (reached : Reached w) (content : KeepsContent w) (treed : Treed names w) (a : ℕ) (below : a < w.appliances) (known : Known) (command : Command) where
  abbrev g : Geometry
  g = w.geometry

  abbrev d : Device
  d = w.surface.device

  abbrev p : Configuration
  p = stands w a

  abbrev boot : ℕ
  boot = boot_number a (w.seats a).boots

  abbrev leased : Leased w
  leased = reached-leased reached

  module _ (block : ℕ) (bytes : List ℕ) (guard : ℕ) (done fault : Process End) (missed : ℕ → Process End) (none : (w.seats a).pending ≡ None) where
    abbrev StandsAt : WriteKind → Type 0
    StandsAt k = p.place ≡ In known command (WriteThen k block bytes guard done fault missed)

    may-be : (k : WriteKind) → StandsAt k → MayIssue g boot p.holds (rests_on g command p.holds p.filled k block bytes) k block bytes guard
    may-be k here = let L : Place → Type 0 = λ q. LawfulAt g boot p.holds p.filled p.sample q in (subst L here (leased.seated a below).lawful).0

    long : (k : WriteKind) → StandsAt k → length bytes ≡ 4096
    long k here = let L : Place → Type 0 = λ q. LawfulAt g boot p.holds p.filled p.sample q in (subst L here (leased.seated a below).lawful).4

    -- a record that is written makes holes of its image's roots
    record-meets : (here : StandsAt kind.Record) → (home : ℕ) → home_of (rests_on g command p.holds p.filled kind.Record block bytes) ≡ Some home → HoldsInTime p.holds w.surface.time home →
        RecordWaits g d (rests_on g command p.holds p.filled kind.Record block bytes) (names (length w.surface.writes)) block bytes no_sectors
    record-meets here home is holds =
        let leases = rests_on g command p.holds p.filled kind.Record block bytes in
        let may = may-be kind.Record here in
        let placed = may.placed in
        let i = placed.0 in
        let its : home ≡ image_lease placed.0 = same-some home (image_lease placed.0) (sym is ∙ ap home_of placed.3.2) in
        let holds' = subst (λ (l : ℕ). HoldsInTime p.holds w.surface.time l) its holds in
        let under : is_in (image_lease placed.0) leases ≡ true = home-in (image_lease placed.0) leases (ap home_of placed.3.2) in
        let grips = grips-free w leased a below none leases kind.Record block bytes guard (image_lease placed.0) holds'.0 holds'.1 holds'.2 holds'.3 in
        let grips' = grips-free w content.leased a below none leases kind.Record block bytes guard (image_lease placed.0) holds'.0 holds'.1 holds'.2 holds'.3 in
        let keeps = new-keeps w content a below known command kind.Record block bytes guard done fault missed here none placed.0 placed.1 (inl placed.2) under (inr (holds'.0, holds'.1, grips')) in
        let slot = keeps.1 all_sectors refl in
        let whole : with_landed_sectors all_sectors bytes (d block) ≡ bytes = mixed-all 8 bytes (d block) (long kind.Record here) (leased.long block) in
        let was = recorded g _ placed.0 slot.kept slot.writes slot.journal in
        let spelled : bytes ≡ image_bytes slot.kept =
        sym whole ∙ (sym (put-same d block (with_landed_sectors all_sectors bytes (d block))) ∙ (ap (put d block (with_landed_sectors all_sectors bytes (d block))) placed.2 ∙ was.1)) in
        let found : read_image bytes ≡ Some slot.kept = ap read_image spelled ∙ image-back slot.kept was.0 in
        record {
          home = home;
          is_home = is;
          on = record { image = placed.0; within = placed.1; lease = its; place = placed.2; only = keeps.0 };
          moves = λ flag. clears (ap live_root found ∙ hole-live slot.kept (plain-parts slot.kept slot.journal.fits.plain).1)
              (λ log k. ap (λ (r : Option ImageRecord). entry_root r log k) found ∙ hole-entry slot.kept log k (plain-parts slot.kept slot.journal.fits.plain).0);
        }

    -- what is in hand is free
    hand-free : (k : WriteKind) (here : StandsAt k) → ((c : ℕ) → is_in c (hand_while g (In known command (WriteThen k block bytes guard done fault missed)) p.found p.filled p.hand) ≡ true → is_in c p.hand ≡ true) →
        (c : ℕ) → is_in c (hand_while g p.place p.found p.filled p.hand) ≡ true → HoldsInTime p.holds w.surface.time (extent_lease g (extent_of g c)) → IsFree g d c
    hand-free k here same c is holds = in-hand-free names w reached treed a below none c (same c (subst (λ (q : Place). is_in c (hand_while g q p.found p.filled p.hand) ≡ true) here is)) holds

    -- a fresh block is in hand
    fresh-meets : (here : StandsAt kind.Fresh) → (home : ℕ) → home_of (rests_on g command p.holds p.filled kind.Fresh block bytes) ≡ Some home → HoldsInTime p.holds w.surface.time home → OnFresh g d home block
    fresh-meets here home is holds =
        let its : home ≡ extent_lease g (extent_of g block) = same-some home (extent_lease g (extent_of g block)) (sym is) in
        let asks = rule names w reached treed a below none known command kind.Fresh block bytes guard done fault missed here in
        let free = in-hand-free names w reached treed a below none block (by_rule asks asks.may) (subst (λ (l : ℕ). HoldsInTime p.holds w.surface.time l) its holds) in
        record { pool = free.pool; lease = its; off = free.off }
      where
        by_rule : (asks : WriteAsked (setting_of w a) p kind.Fresh block bytes guard) → MayWrite (setting_of w a) asks.of kind.Fresh block bytes guard → is_in block p.hand ≡ true
        by_rule asks (fresh_of_block claim held in_hand long) = subst (λ (x : List ℕ). is_in block x ≡ true) (sym asks.hand) in_hand

    abbrev Meets : WriteKind → Type 0
    Meets k = MeetsTree (names (length w.surface.writes)) g w.surface.time d p (rests_on g command p.holds p.filled k block bytes) k block bytes

    pub meets : (k : WriteKind) → StandsAt k → Meets k
    meets kind.Take here = record {
      placed = λ home is holds. tt;
      waits = λ all. tt;
      taken = λ c is holds. take-free names w reached treed a below none block bytes guard (rule names w reached treed a below none known command kind.Take block bytes guard done fault missed here) c
          (subst (λ (q : Place). is_in c (hand_while g q p.found p.filled p.hand) ≡ true) here is) holds;
    }
    meets kind.Give here = record {
      placed = λ home is holds. tt;
      waits = λ all. give-clears names w reached treed a below none block bytes guard (rule names w reached treed a below none known command kind.Give block bytes guard done fault missed here)
          (λ extent at. all (extent_lease g extent) (on-map g leased.geometry kind.Give block bytes (rests_on g command p.holds p.filled kind.Give block bytes) (may-be kind.Give here).placed extent at).1);
      taken = hand-free kind.Give here (λ c is. is);
    }
    meets kind.Sweep here = absurd (let C : Place → Type 0 = λ q. CarefulAt p.found q in (subst C here ((reached-spaced reached).careful a below)).0)
    meets kind.Record here = record {
      placed = λ home is holds. (let r = record-meets here home is holds in subst (λ (h : ℕ). OnRecord g d h block bytes) (same-some r.home home (sym r.is_home ∙ is)) r.on);
      waits = λ all. (let may = may-be kind.Record here in
          let leases = rests_on g command p.holds p.filled kind.Record block bytes in
          let is : home_of leases ≡ Some (image_lease may.placed.0) = ap home_of may.placed.3.2 in
          record-meets here (image_lease may.placed.0) is (all (image_lease may.placed.0) (home-in (image_lease may.placed.0) leases is)));
      taken = hand-free kind.Record here (λ c is. unlinked-in kind.Record p.filled p.hand c is);
    }
    meets kind.Claim here = record { placed = λ home is holds. tt; waits = λ all. tt; taken = hand-free kind.Claim here (λ c is. is) }
    meets kind.Renew here = record { placed = λ home is holds. tt; waits = λ all. tt; taken = hand-free kind.Renew here (λ c is. is) }
    meets kind.Release here = record { placed = λ home is holds. tt; waits = λ all. tt; taken = hand-free kind.Release here (λ c is. is) }
    meets kind.JData here = record { placed = λ home is holds. tt; waits = λ all. tt; taken = hand-free kind.JData here (λ c is. is) }
    meets kind.JCommit here = record { placed = λ home is holds. tt; waits = λ all. tt; taken = hand-free kind.JCommit here (λ c is. is) }
    meets kind.Fresh here = record {
      placed = λ home is holds. fresh-meets here home is holds;
      waits = λ all. tt;
      taken = hand-free kind.Fresh here (λ c is. is);
    }
    meets kind.Link here = absurd (may-be kind.Link here)
    meets kind.Overwrite here = absurd (may-be kind.Overwrite here)
    meets kind.Log here = absurd (may-be kind.Log here)

rules : (w : World) → Reached w → KeepsContent w → (names : ℕ → ℕ → Type 0) → Treed names w → SparesHands names w → RulesOfTrees names w
rules w reached content names treed spares = record {
  meets = λ a known command k block bytes guard done fault missed below here none linked. meets names w reached content treed a below known command block bytes guard done fault missed none k here;
  spared = spares;
}

-- ---- the first world

-- no path of a formatted device reaches a block
first-end : (g : Geometry) (device : Device) → IsFormatted g device → (q : ℕ) (ds : List ℕ) → end (trees_of g device) q ds ≡ Hole
first-end g device formatted q [] = first-root
  where
    first-root : root_on g device q ≡ Hole
    first-root = root-hole g device q
        (λ i within. ap (λ (x : List ℕ). live_root (read_image x)) (formatted.places (Record (record { 0 = i })) within) ∙ (ap live_root (image-back (image_is.Free 0) (omega arith)) ∙ pointer-hole))
        (λ i k within. ap (λ (x : List ℕ). entry_root (read_image x) (device (log_at g i)) k) (formatted.places (Record (record { 0 = i })) within) ∙ (ap (λ (r : Option ImageRecord). entry_root r (device (log_at g i)) k) (image-back (image_is.Free 0) (omega arith)) ∙ hole-entry (image_is.Free 0) (device (log_at g i)) k refl))
first-end g device formatted q (x ∷ ds) = rw (first-end g device formatted q ds) refl

first-treed : (g : Geometry) (appliances : ℕ) (device : Device) → IsFormatted g device → Treed (named_in (world.first_world g appliances device)) (world.first_world g appliances device)
first-treed g appliances device formatted = record {
  shared = record {
    single = λ r q ds es b m ld le at at'. absurd (let e = sym (first-end g device formatted r ds) ∙ at in let P : ⊥ = cc in P);
    level = λ r q ds es b m n ld le at at'. absurd (let e = sym (first-end g device formatted r ds) ∙ at in let P : ⊥ = cc in P);
  };
  rooted = λ q ds b m le at. absurd (let e = sym (first-end g device formatted q ds) ∙ at in let P : ⊥ = cc in P);
  fresh = λ a below c is claim until grips. absurd (let e = is in let P : ⊥ = cc in P);
  placed = λ home n x is op. absurd (let e = open-found g (λ number. []) appliances 1000 [] (λ b. world.first_seat) home n x op in let P : ⊥ = cc in P);
  waits = λ n x found all. absurd (let P : ⊥ = cc in P);
}

-- every world that events lead to has it
pub reached-treed : {w : World} → Reached w → Treed (named_in w) w
reached-treed (world.first {g = g} {appliances = appliances} {device = device} geometry some few formatted) = first-treed g appliances device formatted
reached-treed (world.later {w = w} reached step) = keeps-named step reached (rules w reached (reached-content reached)) (reached-treed reached)

-- ---- the laws

pub reachable-allocated : ReachableAllocated
reachable-allocated w reached block is =
    let e = (paths_agree (trees_in w) is.root is.digits).leads block is.stands.mark is.stands.there in
    (reached-treed reached).rooted is.root is.digits block e.0 is.stands.short e.1

pub one-level : OneLevel
one-level w reached r q ds es block one other =
    let e = (paths_agree (trees_in w) r ds).leads block one.mark one.there in
    let f = (paths_agree (trees_in w) q es).leads block other.mark other.there in
    (reached-treed reached).shared.level r q ds es block e.0 f.0 one.short other.short e.1 f.1

pub one-path : OnePath
one-path w reached r q ds es block one marked other =
    let e = (paths_agree (trees_in w) r ds).leads block one.mark one.there in
    let f = (paths_agree (trees_in w) q es).leads block other.mark other.there in
    by_mark e.0 e.1 f.0 f.1
  where
    by_mark : (a : Bool) → end (trees_in w) r ds ≡ To block a → (b : Bool) → end (trees_in w) q es ≡ To block b →
        (q ≡ r) × (es ≡ ds)
    by_mark true here b there = (reached-treed reached).shared.single r q ds es block b one.short other.short here there
    by_mark false here b there = absurd ((paths_agree (trees_in w) r ds).unmarked block here marked)
