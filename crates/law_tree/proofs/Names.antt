-- Which blocks a write links: those that its boot has filled since its last link, as long as the boot waits for it.
use Rattle.std.proofs.Common.{◌≡◌, ◌≢◌, ℕ, ◌<◌, inl, inr, List, [], ◌∷◌, length, Bool, true, false, Option, Some, None, refl, ap, sym, subst, ◌∙◌, arith}
use Rattle.std.specs.Prelude.{not, slice_get}
use Rattle.std.proofs.lemmas.Bool.Decides.{eqb_tells}
use Rattle.std.proofs.lemmas.Option.{slice_get_within}
use Rattle.plx_base.proofs.Tests.{same-some}
use Rattle.plx_base.specs.Sectors.{Device}
use Rattle.plx_base.specs.declared.write_kind.WriteKind.{WriteKind}
use Rattle.plx_base.specs.declared.write_kind.WriteKind.TheVariants as kind
use Rattle.plx_commands.proofs.Places.{at-all, at-other}
use Rattle.plx_commands.specs.Places.{at}
use Rattle.plx_commands.specs.Replies.{is_in}
use Rattle.plx_commands.specs.declared.event.Event.{Event}
use Rattle.plx_disk.specs.Writes.{Issued}
use Rattle.plx_geom.specs.Geometry.{Geometry}
use Rattle.plx_rules.specs.Boot.{Place, In, configuration}
use Rattle.plx_rules.specs.Hands.{blocks_without}
use Rattle.plx_rules.specs.Process.{WriteThen}
use Rattle.plx_rules.specs.Rests.{filled_blocks}
use Rattle.plx_rules.specs.World as world
use Rattle.plx_rules.specs.World.{World, Seat, Step, Reached, setting_at}
use Rattle.law_lease.proofs.LeaseSteps.{reached-leased}
use Rattle.law_lease.proofs.Leased.{Leased}
use Rattle.law_space.proofs.Lists.{in-filter}
use Rattle.law_tree.proofs.ByKind.{Chain, RecordMoves, stays, clears, links, TreeWaits}
use Rattle.law_tree.proofs.TreeSteps.{NamesLinked, RulesOfTrees, SparesHands, keeps-trees}
use Rattle.law_tree.proofs.Treed.{Treed, due, due_at_seat, hand_while, linked_at, linked_of}

-- a boot that waits for the write links the block by it
abbrev pub NamedBy : Geometry → (appliances : ℕ) → (ℕ → Seat) → (number block : ℕ) → Type 0
NamedBy g appliances seats number block = (a : ℕ) → a < appliances → (seats a).pending ≡ Some number → is_in block (linked_of g a (seats a)) ≡ true

-- the same, in a world
abbrev pub named_in : World → (number block : ℕ) → Type 0
named_in w = NamedBy w.geometry w.appliances w.seats

-- where a seat comes to wait for no write, what was named is named
named-elsewhere : (g : Geometry) (appliances : ℕ) (seats : ℕ → Seat) (a : ℕ) (seat : Seat) → seat.pending ≡ None → (number block : ℕ) →
    NamedBy g appliances seats number block → NamedBy g appliances (at seats a seat) number block
named-elsewhere g appliances seats a seat free number block named b below = at-all (λ c s. c < appliances → s.pending ≡ Some number → is_in block (linked_of g c s) ≡ true) seats a seat
    (λ under waits. absurd (let e : None ≡ Some number = sym free ∙ waits in let P : ⊥ = cc in P)) (λ c ne under waits. named c under waits) b below

-- and where one comes to wait for another write
named-waiting : (g : Geometry) (appliances : ℕ) (seats : ℕ → Seat) (a : ℕ) (seat : Seat) (other number block : ℕ) → seat.pending ≡ Some other → other ≢ number →
    NamedBy g appliances seats number block → NamedBy g appliances (at seats a seat) number block
named-waiting g appliances seats a seat other number block waits' ne' named b below = at-all (λ c s. c < appliances → s.pending ≡ Some number → is_in block (linked_of g c s) ≡ true) seats a seat
    (λ under waits. absurd (ne' (same-some other number (sym waits' ∙ waits)))) (λ c ne under waits. named c under waits) b below

-- what is left out is none of these blocks
without-out : (others blocks : List ℕ) (block : ℕ) → is_in block (blocks_without others blocks) ≡ true → is_in block others ≡ true → ⊥
without-out others blocks block is there =
    let r = in-filter (λ c. not (is_in c others)) block blocks is in
    let f : false ≡ true = sym (ap not there) ∙ r.1 in
    let P : ⊥ = cc in P

-- a block that its boot still has in hand is linked by no write that it waits for
hand-unlinked : (g : Geometry) (place : Place) (found : Option (ℕ × List ℕ)) (filled : List (ℕ × List ℕ)) (hand : List ℕ) (block : ℕ) →
    is_in block (hand_while g place found filled hand) ≡ true → is_in block (linked_at place filled) ≡ true → ⊥
hand-unlinked g (In known command (WriteThen kind.Link b bytes guard done fault missed)) found filled hand block is there = without-out (filled_blocks filled) hand block is there
hand-unlinked g (In known command (WriteThen kind.Record b bytes guard done fault missed)) found filled hand block is there = without-out (filled_blocks filled) hand block is there
hand-unlinked g other found filled hand block is there = let P : ⊥ = cc in P

pub names-spare : (w : World) → SparesHands (named_in w) w
names-spare w number b block below waits is named =
    let p = configuration (setting_at w.geometry b (w.seats b).boots) (w.seats b).log in
    let D : Option ℕ → Type 0 = λ o. is_in block (due w.geometry o p.place p.found p.filled p.hand) ≡ true in
    hand-unlinked w.geometry p.place p.found p.filled p.hand block (subst D waits is) (named b below waits)

-- more may be named
chain-named : (g : Geometry) (d : Device) (rests : List ℕ) (names more : ℕ → Type 0) (image : ℕ) (fresh : ℕ → ℕ) (post at : List ℕ) → ((c : ℕ) → names c → more c) →
    Chain g d rests names image fresh post at → Chain g d rests more image fresh post at
chain-named g d rests names more image fresh post at all chain = record {
  can = chain.can;
  named = λ j le. (let n = chain.named j le in record { pool = n.pool; allocated = n.allocated; under = n.under; named = all (fresh j) n.named });
}

moves-named : (g : Geometry) (d : Device) (rests : List ℕ) (names more : ℕ → Type 0) (image : ℕ) (bytes : List ℕ) → ((c : ℕ) → names c → more c) →
    RecordMoves g d rests names image bytes → RecordMoves g d rests more image bytes
moves-named g d rests names more image bytes all (stays root was) = stays root was
moves-named g d rests names more image bytes all (clears root none) = clears root none
moves-named g d rests names more image bytes all (links fresh post chain root was) = links fresh post (chain-named g d rests names more image fresh post [] all chain) root was

waits-named : (k : WriteKind) (g : Geometry) (d : Device) (rests : List ℕ) (names more : ℕ → Type 0) (block : ℕ) (bytes : List ℕ) (landed : List Bool) → ((c : ℕ) → names c → more c) →
    TreeWaits k g d rests names block bytes landed → TreeWaits k g d rests more block bytes landed
waits-named kind.Link g d rests names more block bytes landed all waits = record {
  home = waits.home;
  is_home = waits.is_home;
  on = waits.on;
  fresh = waits.fresh;
  post = waits.post;
  entry = waits.entry;
  entries = waits.entries;
  chain = λ flag. chain-named g d rests names more waits.on.image waits.fresh waits.post (waits.on.digit ∷ waits.on.above) all (waits.chain flag);
}
waits-named kind.Record g d rests names more block bytes landed all waits = record {
  home = waits.home;
  is_home = waits.is_home;
  on = waits.on;
  moves = λ flag. moves-named g d rests names more waits.on.image bytes all (waits.moves flag);
}
waits-named kind.Give g d rests names more block bytes landed all waits = waits
waits-named kind.Sweep g d rests names more block bytes landed all waits = waits
waits-named kind.Claim g d rests names more block bytes landed all waits = tt
waits-named kind.Renew g d rests names more block bytes landed all waits = tt
waits-named kind.Release g d rests names more block bytes landed all waits = tt
waits-named kind.Take g d rests names more block bytes landed all waits = tt
waits-named kind.Fresh g d rests names more block bytes landed all waits = tt
waits-named kind.Overwrite g d rests names more block bytes landed all waits = tt
waits-named kind.Log g d rests names more block bytes landed all waits = tt
waits-named kind.JData g d rests names more block bytes landed all waits = tt
waits-named kind.JCommit g d rests names more block bytes landed all waits = tt

treed-named : (names more : ℕ → ℕ → Type 0) (w : World) → ((n c : ℕ) (x : Issued) → slice_get w.surface.writes n ≡ Some x → names n c → more n c) → Treed names w → Treed more w
treed-named names more w all treed = record {
  shared = treed.shared;
  rooted = treed.rooted;
  fresh = treed.fresh;
  placed = treed.placed;
  waits = λ n x found stand. waits-named x.kind w.geometry w.surface.device (w.rests n) (names n) (more n) x.block x.bytes x.landed (λ c. all n c x found) (treed.waits n x found stand);
}

-- ---- along the steps

-- what the write that is issued links is named from then on, and nothing else changes of what is named
issue-named : (w : World) (a : ℕ) (number block : ℕ) (x : Issued) → slice_get w.surface.writes number ≡ Some x → named_in w number block →
    NamedBy w.geometry w.appliances (at w.seats a (record (w.seats a) { pending = Some (length w.surface.writes) })) number block
issue-named w a number block x found named =
    named-waiting w.geometry w.appliances w.seats a _ (length w.surface.writes) number block refl (λ e. (let less = slice_get_within w.surface.writes number x found in omega (arith, less, e))) named

issue-spares : (w : World) (a : ℕ) → (w.seats a).pending ≡ None → SparesHands (NamedBy w.geometry w.appliances (at w.seats a (record (w.seats a) { pending = Some (length w.surface.writes) }))) w
issue-spares w a none number b block below waits is named = names-spare w number b block below waits is (λ c under waits'. by_seat c under waits')
  where
    by_seat : (c : ℕ) → c < w.appliances → (w.seats c).pending ≡ Some number → is_in block (linked_of w.geometry c (w.seats c)) ≡ true
    by_seat c under waits' = elim (eqb_tells c a) [
      | inl same ↦ absurd (let e : None ≡ Some number = sym none ∙ (ap (λ (n : ℕ). (w.seats n).pending) (sym same.1) ∙ waits') in let P : ⊥ = cc in P)
      | inr away ↦
          let other = at-other w.seats a c (record (w.seats a) { pending = Some (length w.surface.writes) }) away.1 in
          let L : Seat → Type 0 = λ s. is_in block (linked_of w.geometry c s) ≡ true in
          subst L other (named c under (ap (λ (s : Seat). s.pending) other ∙ waits'))
    ]

-- the new write is named by what it links
issue-links : (w : World) (leased : Leased w) (a : ℕ) → NamesLinked (NamedBy w.geometry w.appliances (at w.seats a (record (w.seats a) { pending = Some (length w.surface.writes) }))) w a
issue-links w leased a block is b below = at-all (λ c s. c < w.appliances → s.pending ≡ Some (length w.surface.writes) → is_in block (linked_of w.geometry c s) ≡ true) w.seats a
    (record (w.seats a) { pending = Some (length w.surface.writes) }) (λ under waits. is)
    (λ c ne under waits. absurd (let asked = (leased.seated c under).asked (length w.surface.writes) waits in
    let less = slice_get_within w.surface.writes (length w.surface.writes) asked.0 asked.1 in omega (arith, less))) b below

-- by whom the blocks of a link are named goes with the seats
pub keeps-named : {w v : World} {event : Event} → Step w event v → Reached w → ((names : ℕ → ℕ → Type 0) → Treed names w → SparesHands names w → RulesOfTrees names w) →
    Treed (named_in w) w → Treed (named_in v) v
keeps-named (world.issues {w = w} {appliance = a} known command what block bytes guard done fault missed below here none) reached rules treed =
    let now = NamedBy w.geometry w.appliances (at w.seats a.0 (record (w.seats a.0) { pending = Some (length w.surface.writes) })) in
    let before = treed-named (named_in w) now w (λ n c x found named. issue-named w a.0 n c x found named) treed in
    keeps-trees now (world.issues {w = w} {appliance = a} known command what block bytes guard done fault missed below here none) reached (rules now before (issue-spares w a.0 none)) (issue-links w (reached-leased reached) a.0) before
keeps-named (world.ticks {w = w} {by = by} room) reached rules treed =
    keeps-trees (named_in w) (world.ticks {w = w} {by = by} room) reached (rules (named_in w) treed (names-spare w)) tt treed
keeps-named (world.lands {w = w} {appliance = a} {back = back} {sector = sector} number write below back' may) reached rules treed =
    keeps-trees (named_in w) (world.lands {w = w} {appliance = a} {back = back} {sector = sector} number write below back' may) reached (rules (named_in w) treed (names-spare w)) tt treed
keeps-named (world.starts {w = w} {appliance = a} {command = command} known below here whole built) reached rules treed =
    treed-named (named_in w) _ _ (λ n c x found named. named-elsewhere w.geometry w.appliances w.seats a.0 _ refl n c named)
    (keeps-trees (named_in w) (world.starts {w = w} {appliance = a} {command = command} known below here whole built) reached (rules (named_in w) treed (names-spare w)) tt treed)
keeps-named (world.begins {w = w} {appliance = a} {reading = reading} known command below here is) reached rules treed =
    treed-named (named_in w) _ _ (λ n c x found named. named-elsewhere w.geometry w.appliances w.seats a.0 _ refl n c named)
    (keeps-trees (named_in w) (world.begins {w = w} {appliance = a} {reading = reading} known command below here is) reached (rules (named_in w) treed (names-spare w)) tt treed)
keeps-named (world.reads {w = w} {appliance = a} known command block rest fault below here) reached rules treed =
    treed-named (named_in w) _ _ (λ n c x found named. named-elsewhere w.geometry w.appliances w.seats a.0 _ refl n c named)
    (keeps-trees (named_in w) (world.reads {w = w} {appliance = a} known command block rest fault below here) reached (rules (named_in w) treed (names-spare w)) tt treed)
keeps-named (world.read_faults {w = w} {appliance = a} known command block rest fault below here) reached rules treed =
    treed-named (named_in w) _ _ (λ n c x found named. named-elsewhere w.geometry w.appliances w.seats a.0 _ refl n c named)
    (keeps-trees (named_in w) (world.read_faults {w = w} {appliance = a} known command block rest fault below here) reached (rules (named_in w) treed (names-spare w)) tt treed)
keeps-named (world.dones {w = w} {appliance = a} known command what block bytes guard done fault missed number below here waited whole) reached rules treed =
    treed-named (named_in w) _ _ (λ n c x found named. named-elsewhere w.geometry w.appliances w.seats a.0 _ refl n c named)
    (keeps-trees (named_in w) (world.dones {w = w} {appliance = a} known command what block bytes guard done fault missed number below here waited whole) reached (rules (named_in w) treed (names-spare w)) tt treed)
keeps-named (world.write_faults {w = w} {appliance = a} known command what block bytes guard done fault missed below here) reached rules treed =
    treed-named (named_in w) _ _ (λ n c x found named. named-elsewhere w.geometry w.appliances w.seats a.0 _ refl n c named)
    (keeps-trees (named_in w) (world.write_faults {w = w} {appliance = a} known command what block bytes guard done fault missed below here) reached (rules (named_in w) treed (names-spare w)) tt treed)
keeps-named (world.misses {w = w} {appliance = a} {reading = reading} known command what block bytes guard done fault missed below here free past is) reached rules treed =
    treed-named (named_in w) _ _ (λ n c x found named. named-elsewhere w.geometry w.appliances w.seats a.0 _ refl n c named)
    (keeps-trees (named_in w) (world.misses {w = w} {appliance = a} {reading = reading} known command what block bytes guard done fault missed below here free past is) reached (rules (named_in w) treed (names-spare w)) tt treed)
keeps-named (world.clocks {w = w} {appliance = a} {reading = reading} known command rest below here is) reached rules treed =
    treed-named (named_in w) _ _ (λ n c x found named. named-elsewhere w.geometry w.appliances w.seats a.0 _ refl n c named)
    (keeps-trees (named_in w) (world.clocks {w = w} {appliance = a} {reading = reading} known command rest below here is) reached (rules (named_in w) treed (names-spare w)) tt treed)
keeps-named (world.waits {w = w} {appliance = a} {reading = reading} known command from rest below here is past) reached rules treed =
    treed-named (named_in w) _ _ (λ n c x found named. named-elsewhere w.geometry w.appliances w.seats a.0 _ refl n c named)
    (keeps-trees (named_in w) (world.waits {w = w} {appliance = a} {reading = reading} known command from rest below here is past) reached (rules (named_in w) treed (names-spare w)) tt treed)
keeps-named (world.crashes {w = w} {appliance = a} below room) reached rules treed =
    treed-named (named_in w) _ _ (λ n c x found named. named-elsewhere w.geometry w.appliances w.seats a.0 _ refl n c named)
    (keeps-trees (named_in w) (world.crashes {w = w} {appliance = a} below room) reached (rules (named_in w) treed (names-spare w)) tt treed)
