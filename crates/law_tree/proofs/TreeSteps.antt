-- What holds of the trees stays at each step, where each write that is issued meets what its kind has to.
use Rattle.std.proofs.Common.{◌≡◌, ◌≢◌, ℕ, ◌+◌, ◌<◌, ◌≤◌, ◌⊎◌, inl, inr, List, [], ◌∷◌, ◌++◌, length, true, false, Option, Some, None, refl, ap, sym, ◌∙◌, subst, arith}
use Rattle.std.specs.Prelude.{slice_get}
use Rattle.std.proofs.lemmas.Option.{slice_get_within}
use Rattle.plx_base.specs.Sectors.{Device}
use Rattle.plx_base.specs.declared.lease.Claim.{Claim}
use Rattle.plx_base.specs.declared.write_kind.WriteKind.{WriteKind}
use Rattle.plx_base.specs.declared.write_kind.WriteKind.TheVariants as kind
use Rattle.plx_commands.proofs.Places.{at-all, at-same, at-other}
use Rattle.plx_commands.specs.Places.{at}
use Rattle.plx_commands.specs.Replies.{is_in}
use Rattle.plx_commands.specs.declared.command.Command.{Command}
use Rattle.plx_commands.specs.declared.event.Event.{Event}
use Rattle.plx_commands.specs.declared.event.Event.TheVariants as event
use Rattle.plx_disk.specs.Writes.{Issued, fresh_write, no_sectors}
use Rattle.plx_geom.specs.Geometry.{Geometry, extent_lease, lease_at}
use Rattle.plx_rules.specs.Boot.{Place, In, Configuration, configuration}
use Rattle.plx_rules.specs.Ends.{End}
use Rattle.plx_rules.specs.Holds.{Hold, Held}
use Rattle.plx_rules.specs.Owners.{pending_write}
use Rattle.plx_rules.specs.Process.{Process, WriteThen}
use Rattle.plx_rules.specs.Rests.{extent_of, home_of, rests_on}
use Rattle.plx_rules.specs.Session.{Known}
use Rattle.plx_rules.specs.Settings.{boot_number}
use Rattle.plx_rules.specs.World as world
use Rattle.plx_rules.specs.World.{World, Seat, Step, Reached, setting_at, stands, after_issue}
use Rattle.law_lease.proofs.Frame.{open-issued, stood-issued, grips-own, grips-other}
use Rattle.law_lease.proofs.LeaseFrames.{grip-open}
use Rattle.law_lease.proofs.LeaseSteps.{reached-leased}
use Rattle.law_lease.proofs.Leased.{IsGranted, LawfulAt, Leased, MayIssue, grip_at}
use Rattle.law_lease.proofs.Lists.{push-cases}
use Rattle.law_lease.proofs.Open.{GripsLease, IsOpen, open-later, open-found}
use Rattle.law_lease.proofs.Rests.{rests-home}
use Rattle.law_tree.proofs.ByKind.{TreePlaced, TreeWaits}
use Rattle.law_tree.proofs.TreeLands.{landed-treed}
use Rattle.law_tree.proofs.TreeSeats.{seat-treed, start-treed, begin-treed, read-treed, fault-treed, clock-treed, wait-treed, write-fault-treed, miss-treed, done-treed}
use Rattle.law_tree.proofs.Treed.{Treed, FreshSeat, IsFree, TreesPlaced, TreesWait, due_at_seat, hand_while, linked_of}

-- a lease is held in time, by what a boot holds that waits for no write
abbrev pub HoldsInTime : (holds : ℕ → Hold) → (time lease : ℕ) → Type 0
HoldsInTime holds time lease = (claim : Claim) × (until : ℕ) × (holds (lease_at lease) ≡ Held claim until) × (time ≤ until + 50)

-- what a write of trees has to meet as it is issued, by what its boot holds then
pub record MeetsTree (names : ℕ → Type 0) (g : Geometry) (time : ℕ) (d : Device) (p : Configuration) (leases : List ℕ) (k : WriteKind) (block : ℕ) (bytes : List ℕ) : Type 0 where
  pub placed : (home : ℕ) → home_of leases ≡ Some home → HoldsInTime p.holds time home → TreePlaced k g d home block bytes
  pub waits : ((lease : ℕ) → is_in lease leases ≡ true → HoldsInTime p.holds time lease) → TreeWaits k g d leases names block bytes no_sectors
  pub taken : (c : ℕ) → is_in c (hand_while g p.place p.found p.filled p.hand) ≡ true → HoldsInTime p.holds time (extent_lease g (extent_of g c)) → IsFree g d c

-- each lease on which a write that may be issued rests is held, and its guard is not above its end
pub granted : (g : Geometry) (boot : ℕ) (holds : ℕ → Hold) (rests : List ℕ) (k : WriteKind) (block : ℕ) (bytes : List ℕ) (guard : ℕ) → MayIssue g boot holds rests k block bytes guard →
    (lease : ℕ) → is_in lease rests ≡ true → IsGranted holds lease guard
granted g boot holds rests kind.Claim block bytes guard may lease under = absurd (let P : List ℕ → Type 0 = λ l. is_in lease l ≡ true in let e : false ≡ true = subst P may.alone under in let Q : ⊥ = cc in Q)
granted g boot holds rests kind.Renew block bytes guard may lease under = record {
  claim = may.claim;
  until = may.until;
  hold = ap (λ (l : ℕ). holds (lease_at l)) (rests-home lease may.lease rests may.alone under) ∙ may.hold;
  guarded = (let e = may.guarded in omega (arith, e));
}
granted g boot holds rests kind.Release block bytes guard may lease under = record {
  claim = may.claim;
  until = may.until;
  hold = ap (λ (l : ℕ). holds (lease_at l)) (rests-home lease may.lease rests may.alone under) ∙ may.hold;
  guarded = (let e = may.guarded in omega (arith, e));
}
granted g boot holds rests kind.Take block bytes guard may lease under = may.grants lease under
granted g boot holds rests kind.Give block bytes guard may lease under = may.grants lease under
granted g boot holds rests kind.Sweep block bytes guard may lease under = may.grants lease under
granted g boot holds rests kind.Fresh block bytes guard may lease under = may.grants lease under
granted g boot holds rests kind.Record block bytes guard may lease under = may.grants lease under
granted g boot holds rests kind.JData block bytes guard may lease under = may.grants lease under
granted g boot holds rests kind.JCommit block bytes guard may lease under = may.grants lease under
granted g boot holds rests other block bytes guard may lease under = absurd may

-- a write is issued
module _ (names : ℕ → ℕ → Type 0) (w : World) (leased : Leased w) (treed : Treed names w) (a : ℕ) (below : a < w.appliances) (none : (w.seats a).pending ≡ None) (leases : List ℕ) (k : WriteKind) (block : ℕ) (bytes : List ℕ) (guard : ℕ)
    (grants : (lease : ℕ) → is_in lease leases ≡ true → IsGranted (configuration (setting_at w.geometry a (w.seats a).boots) (w.seats a).log).holds lease guard)
    (meets : MeetsTree (names (length w.surface.writes)) w.geometry w.surface.time w.surface.device (configuration (setting_at w.geometry a (w.seats a).boots) (w.seats a).log) leases k block bytes) where
  abbrev p : Configuration
  p = configuration (setting_at w.geometry a (w.seats a).boots) (w.seats a).log

  abbrev issued : Issued
  issued = fresh_write (boot_number a (w.seats a).boots) k block bytes guard

  abbrev longer : List Issued
  longer = w.surface.writes ++ issued ∷ []

  abbrev waiting : Seat
  waiting = record { boots = (w.seats a).boots; log = (w.seats a).log; pending = Some (length w.surface.writes) }

  abbrev since : ℕ → List ℕ
  since = at w.rests (length w.surface.writes) leases

  -- what a boot grips that waits for no write it holds
  grip-holds : (lease : ℕ) (claim : Claim) (until : ℕ) → GripsLease w.geometry w.surface.time w.surface.writes a (w.seats a) lease claim until → HoldsInTime p.holds w.surface.time lease
  grip-holds lease claim until grips =
      let P : Option ℕ → Type 0 = λ o. grip_at p.place (pending_write w.surface.writes o) (lease_at lease) (p.holds (lease_at lease)) ≡ Held claim until in
      (claim, until, sym (grip-open p.place None (lease_at lease) (p.holds (lease_at lease)) refl) ∙ subst P none grips.0, grips.1)

  new-holds : (lease n : ℕ) (x : Issued) → is_in lease leases ≡ true →
      (w.surface.time ≤ guard + 50) ⊎ ((claim : Claim) × (until : ℕ) × GripsLease w.geometry w.surface.time w.surface.writes a (w.seats a) lease claim until) → HoldsInTime p.holds w.surface.time lease
  new-holds lease n x under (inl early) = (let t = grants lease under in (t.claim, t.until, t.hold, (let h = t.guarded in omega (arith, early, h))))
  new-holds lease n x under (inr grips) = grip-holds lease grips.0 grips.1 grips.2

  placed-issued : TreesPlaced w.geometry since w.appliances w.surface.time w.surface.device longer (at w.seats a waiting)
  placed-issued home n x is op = elim (open-issued w leased a below none leases k block bytes guard home n x op) [
    | inl old ↦
        let less = open-found w.geometry w.rests w.appliances w.surface.time w.surface.writes w.seats home n x old in
        treed.placed home n x (ap home_of (sym (at-other w.rests (length w.surface.writes) n leases (before n x less))) ∙ is) old
    | inr new ↦
        let here : home_of leases ≡ Some home = ap home_of (sym (at-same w.rests (length w.surface.writes) leases)) ∙ subst (λ (m : ℕ). home_of (since m) ≡ Some home) new.last is in
        subst (λ (y : Issued). TreePlaced y.kind w.geometry w.surface.device home y.block y.bytes) new.is (meets.placed home here (new-holds home n x new.under new.live))
  ]
    where
      before : (n : ℕ) (x : Issued) → slice_get w.surface.writes n ≡ Some x → n ≢ length w.surface.writes
      before n x found e = let less = slice_get_within w.surface.writes n x found in omega (arith, less, e)

  waits-issued : TreesWait names w.geometry since w.appliances w.surface.time w.surface.device longer (at w.seats a waiting)
  waits-issued n x found all = elim (push-cases w.surface.writes issued x n found) [
    | inl old ↦
        let was = treed.waits n x old (stood-issued w leased a below none leases k block bytes guard n x old all) in
        subst (λ (l : List ℕ). TreeWaits x.kind w.geometry w.surface.device l (names n) x.block x.bytes x.landed) (sym (at-other w.rests (length w.surface.writes) n leases (before n x old))) was
    | inr new ↦
        let mine : since n ≡ leases = ap since new.0 ∙ at-same w.rests (length w.surface.writes) leases in
        let holds : (lease : ℕ) → is_in lease leases ≡ true → HoldsInTime p.holds w.surface.time lease = λ lease under. all-holds n x new lease under (all lease (subst (λ (l : List ℕ). is_in lease l ≡ true) (sym mine) under)) in
        subst (λ (l : List ℕ). TreeWaits x.kind w.geometry w.surface.device l (names n) x.block x.bytes x.landed) (sym mine)
        (subst (λ (m : ℕ). TreeWaits x.kind w.geometry w.surface.device leases (names m) x.block x.bytes x.landed) (sym new.0)
        (subst (λ (y : Issued). TreeWaits y.kind w.geometry w.surface.device leases (names (length w.surface.writes)) y.block y.bytes y.landed) new.1 (meets.waits holds)))
  ]
    where
      before : (n : ℕ) (x : Issued) → slice_get w.surface.writes n ≡ Some x → n ≢ length w.surface.writes
      before n x found' e = let less = slice_get_within w.surface.writes n x found' in omega (arith, less, e)

      all-holds : (n : ℕ) (x : Issued) → (n ≡ length w.surface.writes) × (issued ≡ x) → (lease : ℕ) → is_in lease leases ≡ true →
          IsOpen w.geometry since w.appliances w.surface.time longer (at w.seats a waiting) lease n x → HoldsInTime p.holds w.surface.time lease
      all-holds n x new lease under op = elim (open-issued w leased a below none leases k block bytes guard lease n x op) [
        | inl old ↦ absurd (before n x (open-found w.geometry w.rests w.appliances w.surface.time w.surface.writes w.seats lease n x old) new.0)
        | inr newly ↦ new-holds lease n x under newly.live
      ]

  fresh-issued : (b : ℕ) → b < w.appliances → FreshSeat w.geometry w.surface.time w.surface.device longer b (at w.seats a waiting b)
  fresh-issued b below' = at-all (λ c s. c < w.appliances → FreshSeat w.geometry w.surface.time w.surface.device longer c s) w.seats a waiting
      (λ under c is claim until grips. (let was = grips-own w leased a below none leases k block bytes guard (extent_lease w.geometry (extent_of w.geometry c)) claim until grips in
      meets.taken c is (grip-holds (extent_lease w.geometry (extent_of w.geometry c)) claim until was)))
      (λ c ne under x is claim until grips. treed.fresh c under x is claim until (grips-other w leased a below none leases k block bytes guard (extent_lease w.geometry (extent_of w.geometry x)) c under claim until grips)) b below'

-- ---- all events

-- what a boot has in hand is named by no write that it waits for
abbrev pub SparesHands : (names : ℕ → ℕ → Type 0) → World → Type 0
SparesHands names w = (number b c : ℕ) → b < w.appliances → (w.seats b).pending ≡ Some number → is_in c (due_at_seat w.geometry b (w.seats b)) ≡ true → names number c → ⊥

-- a write that an appliance issues next is named by the blocks that it links
abbrev pub NamesLinked : (names : ℕ → ℕ → Type 0) → World → (appliance : ℕ) → Type 0
NamesLinked names w a = (c : ℕ) → is_in c (linked_of w.geometry a (w.seats a)) ≡ true → names (length w.surface.writes) c

-- it is so where an event issues it
abbrev pub NamesIssued : (names : ℕ → ℕ → Type 0) → World → Event → Type 0
NamesIssued names w (event.Issue a) = NamesLinked names w a.0
NamesIssued names w other = Unit {0}

-- who knows the processes says what each write meets as it is issued
pub record RulesOfTrees (names : ℕ → ℕ → Type 0) (w : World) : Type 0 where
  pub meets : (a : ℕ) (known : Known) (command : Command) (k : WriteKind) (block : ℕ) (bytes : List ℕ) (guard : ℕ) (done fault : Process End) (missed : ℕ → Process End) → a < w.appliances →
      (stands w a).place ≡ In known command (WriteThen k block bytes guard done fault missed) → (w.seats a).pending ≡ None → NamesLinked names w a →
      MeetsTree (names (length w.surface.writes)) w.geometry w.surface.time w.surface.device (stands w a) (rests_on w.geometry command (stands w a).holds (stands w a).filled k block bytes) k block bytes
  pub spared : SparesHands names w

pub keeps-trees : (names : ℕ → ℕ → Type 0) {w v : World} {event : Event} → Step w event v → Reached w → RulesOfTrees names w → NamesIssued names w event → Treed names w → Treed names v
keeps-trees names (world.ticks {w = w} {by = by} room) reached rules linked treed = record {
  shared = treed.shared;
  rooted = treed.rooted;
  fresh = λ a below c is claim until grips. treed.fresh a below c is claim until (grips.0, (let l = grips.1 in omega (arith, l)));
  placed = λ home n x is op. treed.placed home n x is (open-later w.geometry w.rests w.appliances w.surface.time by w.surface.writes w.seats home n x op);
  waits = λ n x found all. treed.waits n x found (λ lease under. open-later w.geometry w.rests w.appliances w.surface.time by w.surface.writes w.seats lease n x (all lease under));
}
keeps-trees names (world.starts {w = w} {appliance = a} {command = command} known below here whole built) reached rules linked treed = start-treed names w (reached-leased reached) treed a.0 below _ _ known command here
keeps-trees names (world.begins {w = w} {appliance = a} {reading = reading} known command below here is) reached rules linked treed = begin-treed names w (reached-leased reached) treed a.0 below _ _ known command reading here
keeps-trees names (world.reads {w = w} {appliance = a} known command block rest fault below here) reached rules linked treed = read-treed names w (reached-leased reached) treed a.0 below _ _ known command block rest fault here
keeps-trees names (world.read_faults {w = w} {appliance = a} known command block rest fault below here) reached rules linked treed = fault-treed names w (reached-leased reached) treed a.0 below _ _ known command block rest fault here
keeps-trees names (world.issues {w = w} {appliance = a} known command what block bytes guard done fault missed below here none) reached rules linked treed = record {
  shared = treed.shared;
  rooted = treed.rooted;
  fresh = fresh-issued names w leased treed a.0 below none leases what block bytes guard grants meets;
  placed = placed-issued names w leased treed a.0 below none leases what block bytes guard grants meets;
  waits = waits-issued names w leased treed a.0 below none leases what block bytes guard grants meets;
}
  where
    leased : Leased w
    leased = reached-leased reached

    p : Configuration
    p = stands w a.0

    leases : List ℕ
    leases = rests_on w.geometry command (stands w a.0).holds (stands w a.0).filled what block bytes

    grants : (lease : ℕ) → is_in lease leases ≡ true → IsGranted (stands w a.0).holds lease guard
    grants = granted w.geometry (boot_number a.0 (w.seats a.0).boots) (stands w a.0).holds leases what block bytes guard
        (let L : Place → Type 0 = λ q. LawfulAt w.geometry (boot_number a.0 (w.seats a.0).boots) (stands w a.0).holds (stands w a.0).filled (stands w a.0).sample q in (subst L here (leased.seated a.0 below).lawful).0)

    meets : MeetsTree (names (length w.surface.writes)) w.geometry w.surface.time w.surface.device (stands w a.0) leases what block bytes
    meets = rules.meets a.0 known command what block bytes guard done fault missed below here none linked
keeps-trees names (world.lands {w = w} {appliance = a} {back = back} {sector = sector} number write below back' may) reached rules linked treed =
    let t = landed-treed names w reached treed number sector write may (λ b c under waits is named. rules.spared number b c under waits is named) in
    record { shared = t.shared; rooted = t.rooted; fresh = t.fresh; placed = t.placed; waits = t.waits }
keeps-trees names (world.dones {w = w} {appliance = a} known command what block bytes guard done fault missed number below here waited whole) reached rules linked treed =
    done-treed names w (reached-leased reached) treed a.0 below _ _ known command what block bytes guard done fault missed here number waited whole
keeps-trees names (world.write_faults {w = w} {appliance = a} known command what block bytes guard done fault missed below here) reached rules linked treed =
    write-fault-treed names w (reached-leased reached) treed a.0 below _ _ known command what block bytes guard done fault missed here
keeps-trees names (world.misses {w = w} {appliance = a} {reading = reading} known command what block bytes guard done fault missed below here free past is) reached rules linked treed =
    miss-treed names w (reached-leased reached) treed a.0 below _ _ known command what block bytes guard done fault missed here reading
keeps-trees names (world.clocks {w = w} {appliance = a} {reading = reading} known command rest below here is) reached rules linked treed = clock-treed names w (reached-leased reached) treed a.0 below _ _ known command rest reading here
keeps-trees names (world.waits {w = w} {appliance = a} {reading = reading} known command from rest below here is past) reached rules linked treed = wait-treed names w (reached-leased reached) treed a.0 below _ _ known command from rest reading here
keeps-trees names (world.crashes {w = w} {appliance = a} below room) reached rules linked treed =
    seat-treed names w (reached-leased reached) treed a.0 below _ _ (record { boots = (w.seats a.0).boots + 1; log = []; pending = None }) refl (λ c is claim until grips. absurd (let e = is in let P : ⊥ = cc in P))
