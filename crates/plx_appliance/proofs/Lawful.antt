-- What holds of the machine of each command: one record a machine.
use Rattle.std.proofs.Common.{◌≡◌, ℕ, ◌<◌, List, Option, Some, None, sym, ap, ◌∙◌, subst}
use Rattle.plx_alloc.specs.Asking.{SparesHand, SparesLeases}
use Rattle.plx_alloc.specs.Tables.{hand_numbers, held_hand}
use Rattle.plx_alloc.specs.Tables.{extent_leases as extents_of}
use Rattle.plx_alloc.specs.declared.allocator.Allocator.{Allocator}
use Rattle.plx_commands.specs.declared.reply.Reply.{Reply}
use Rattle.plx_disk.specs.declared.ask.Answer.{Answer}
use Rattle.plx_disk.specs.declared.ask.Ask.{Ask}
use Rattle.plx_geom.specs.Geometry.{Geometry, lease_at, lease_count}
use Rattle.plx_rules.specs.Boot.{Fits}
use Rattle.plx_rules.specs.Hands.{found_by, hand_answered}
use Rattle.plx_rules.specs.Holds.{Hold, after_answer, sample_of}
use Rattle.plx_rules.specs.Machines.{Asks}
use Rattle.plx_rules.specs.Process.{bytes_out, standing}
use Rattle.plx_session.proofs.Machines.{EndsOnFailure}
use Rattle.plx_appliance.specs.Holding.{HoldsAs, hold_without_claim, image_leases_after_write}
use Rattle.plx_appliance.specs.Lent.{Lent}
use Rattle.plx_appliance.specs.Machines.{Stays}
use Rattle.plx_appliance.specs.Space.{AreWithin, IsHand}
use Rattle.plx_appliance.specs.Tokens.{lease_holds_at}
use Rattle.plx_appliance.specs.Works.{Inside, Moves, Spares, StartsInside, work_rest, work_setting, work_suits}
use Rattle.plx_appliance.specs.declared.work.Work.{Work}
use Rattle.plx_appliance.proofs.Held.{spare-holds}
use Rattle.plx_appliance.proofs.InHand.{FillsNone, spares-hand}

-- a command that goes on suits what it is lent, and is for the same geometry
pub record WorkGoesOn (g : Geometry) (later : Lent) (new : Work) : Type 0 where
  pub setting : (work_setting new).geometry ≡ g
  pub space : later.space.geometry ≡ g
  pub suits : work_suits later.space new

-- what is in hand once the command that runs was answered
pub record HandMoves (g : Geometry) (later : Lent) (all : List ℕ) : Type 0 where
  pub within : AreWithin g all
  pub held : held_hand g (extents_of later.space) all ≡ hand_numbers later.space

-- as it begins, it has come as far as the log
abbrev pub StartsRightly : Work → Type 0
StartsRightly w =
    (g : Geometry) (leases extents holds : ℕ → Hold) (sample : Option ℕ) → (work_setting w).geometry ≡ g → StartsInside leases extents w →
    ((lease : ℕ) → lease < lease_count g → holds (lease_at lease) ≡ lease_holds_at g leases extents (lease_at lease)) → ((block : ℕ) → holds block ≡ hold_without_claim (holds block)) →
    Inside w holds sample None

-- once it was answered, what is kept of the leases is what the log holds
abbrev pub KeepsLeases : Work → Type 0
KeepsLeases w =
    (g : Geometry) (lent later : Lent) (new : Work) (q : Ask) (a : Answer) (holds : ℕ → Hold) (sample : Option ℕ) (found : Option (ℕ × List ℕ)) (result : Option Reply) →
    (work_setting w).geometry ≡ g → lent.space.geometry ≡ g → work_suits lent.space w → Some q ≡ standing (work_rest lent w) → Spares w q → Fits q a →
    HoldsAs g lent.leases (extents_of lent.space) holds → Inside w holds sample found → Moves w new a lent later result →
    HoldsAs g (image_leases_after_write q a later.leases) (image_leases_after_write q a (extents_of later.space)) (after_answer sample q (bytes_out (work_rest lent w)) a holds)

-- its claim has come as far
abbrev pub ComesAsFar : Work → Type 0
ComesAsFar w =
    (g : Geometry) (lent later : Lent) (new : Work) (q : Ask) (a : Answer) (holds : ℕ → Hold) (sample : Option ℕ) (found : Option (ℕ × List ℕ)) (result : Option Reply) →
    (work_setting w).geometry ≡ g → lent.space.geometry ≡ g → work_suits lent.space w → Some q ≡ standing (work_rest lent w) → Spares w q → Fits q a →
    HoldsAs g (image_leases_after_write q a later.leases) (image_leases_after_write q a (extents_of later.space)) (after_answer sample q (bytes_out (work_rest lent w)) a holds) →
    Inside w holds sample found → Moves w new a lent later result → result ≡ None → WorkGoesOn g later new →
    Inside new (after_answer sample q (bytes_out (work_rest lent w)) a holds) (sample_of a) (found_by q a)

-- and what is in hand is what the log has
abbrev pub KeepsHand : Work → Type 0
KeepsHand w =
    (g : Geometry) (lent later : Lent) (new : Work) (q : Ask) (a : Answer) (holds : ℕ → Hold) (sample : Option ℕ) (found : Option (ℕ × List ℕ)) (result : Option Reply) →
    (work_setting w).geometry ≡ g → lent.space.geometry ≡ g → later.space.geometry ≡ g → Some q ≡ standing (work_rest lent w) → Spares w q → Inside w holds sample found →
    IsHand g (extents_of lent.space) (hand_numbers lent.space) → IsHand g (extents_of later.space) (hand_numbers later.space) → Moves w new a lent later result →
    HandMoves g later (hand_answered g found q (bytes_out (work_rest lent w)) a (hand_numbers lent.space))

-- its asks fill no block
abbrev pub FillsNothing : Work → Type 0
FillsNothing w = (lent : Lent) (q : Ask) → Some q ≡ standing (work_rest lent w) → Spares w q → FillsNone q

-- all that holds of it: wherever it stands it asks, and a write that fails or is missed ends it
pub record IsLawful (w : Work) : Type 0 where
  pub asks : (lent : Lent) → Asks (work_rest lent w)
  pub fails : (lent : Lent) → EndsOnFailure (work_rest lent w)
  pub starts : StartsRightly w
  pub leases : KeepsLeases w
  pub inside : ComesAsFar w
  pub hand : KeepsHand w
  pub fills : FillsNothing w

-- ---- for all machines

-- a command stays the same command
pub by-stays : {M : Type 0} {made : M → Work} {Moved : M → Type 0} {new : Work} (P : Work → Type 0) → Stays made Moved new → ((x : M) → Moved x → P (made x)) → P new
by-stays P stays goes = subst P (sym stays.is) (goes stays.now stays.moves)

-- what space holds stays
pub same-space : (g : Geometry) (q : Ask) (a : Answer) (leases holds : ℕ → Hold) (before after : Allocator) → after ≡ before →
    HoldsAs g leases (image_leases_after_write q a (extents_of before)) holds → HoldsAs g leases (image_leases_after_write q a (extents_of after)) holds
same-space g q a leases holds before after same h = subst (λ (space : Allocator). HoldsAs g leases (image_leases_after_write q a (extents_of space)) holds) (sym same) h

-- what moves no lease
pub spare-moved : (g own : Geometry) (q : Ask) (bytes : List ℕ) (a : Answer) (before after extents holds : ℕ → Hold) (sample : Option ℕ) → own ≡ g → SparesLeases own q →
    HoldsAs g before extents holds → after ≡ before → HoldsAs g (image_leases_after_write q a after) (image_leases_after_write q a extents) (after_answer sample q bytes a holds)
spare-moved g own q bytes a before after extents holds sample same spare h is =
    subst (λ (ls : ℕ → Hold). HoldsAs g (image_leases_after_write q a ls) (image_leases_after_write q a extents) (after_answer sample q bytes a holds)) (sym is)
    (spare-holds g before extents holds sample q bytes a (subst (λ (k : Geometry). SparesLeases k q) same spare) h)

-- what takes and gives back no block leaves the hand
pub kept-hand : (g : Geometry) (lent later : Lent) (q : Ask) (bytes : List ℕ) (a : Answer) (found : Option (ℕ × List ℕ)) → SparesHand q →
    IsHand g (extents_of lent.space) (hand_numbers lent.space) → IsHand g (extents_of later.space) (hand_numbers later.space) → hand_numbers later.space ≡ hand_numbers lent.space →
    HandMoves g later (hand_answered g found q bytes a (hand_numbers lent.space))
kept-hand g lent later q bytes a found spare own left same =
    let hand = hand_numbers lent.space in
    let is : hand_answered g found q bytes a hand ≡ hand = spares-hand g found q bytes a hand spare in
    record {
      within = subst (AreWithin g) (sym is) own.within;
      held = ap (held_hand g (extents_of later.space)) (is ∙ sym same) ∙ left.held;
    }
