-- What an appliance knows and owns stays, while others change the model or the device elsewhere.
use Rattle.std.proofs.Common.{◌≡◌, ◌≢◌, ℕ, ◌≤◌, ◌<◌, List, Option, Some, refl, sym, subst, ◌∙◌, arith}
use Rattle.std.specs.Prelude.{slice_get}
use Rattle.plx_base.specs.Sectors.{Device, with_landed_sectors}
use Rattle.plx_base.specs.declared.lease.Claim.{Claim}
use Rattle.plx_commands.specs.Model.{Model}
use Rattle.plx_commands.specs.declared.command.Command.{Command}
use Rattle.plx_disk.specs.Writes.{Issued}
use Rattle.plx_geom.specs.Geometry.{Geometry, image_lease}
use Rattle.plx_geom.proofs.Places.{image-below}
use Rattle.plx_rules.specs.Process.{Process}
use Rattle.plx_rules.specs.Boot.{Place, Idle, Begins, In, Configuration}
use Rattle.plx_rules.specs.Ends.{End}
use Rattle.plx_rules.specs.Session.{Known}
use Rattle.plx_rules.specs.World.{World}
use Rattle.law_lease.proofs.Leased.{Leased}
use Rattle.law_lease.proofs.Open.{IsOpen, grips-one, grips-only}
use Rattle.law_headline.proofs.Content.{IsJournalled, PlaceFits, IsServing, HasContent, OwnedAt, Grips}
use Rattle.law_model.proofs.Foreign.{Foreign}
use Rattle.law_headline.proofs.Held.{Regime, Without, With, ModelRuns, Looks, IsOf, IsOn, HeldProcess}
use Rattle.law_headline.proofs.HeldFrames.{missing_of, same-at, held-process-same, has-same, has-foreign, looks-foreign}
use Rattle.law_headline.proofs.JournalFacts.{IsJournal-same}
use Rattle.law_headline.proofs.JournalOne.{shows-one}
use Rattle.law_headline.proofs.Journals.{Same, HoldsSlot}
use Rattle.law_model.specs.Sound.{Differs}
use Rattle.law_model.proofs.Replied.{Names, Unmoved}

-- ---- the model

running-unmoved : (g : Geometry) (a h : ℕ) (command : Command) (known : Known) (m n : Model) → h ≢ a → Unmoved a m n → ModelRuns g h command known m → ModelRuns g h command known n
running-unmoved g a h command known m n ne un is = record {
  placed = (let p = is.placed in let e = un.appliances in omega (arith, p, e));
  images = un.images ∙ is.images;
  runs = un.running h ne ∙ is.runs;
  sessions = λ j. un.sessions h ne j ∙ is.sessions j;
}

pub place-unmoved : (g : Geometry) (a h : ℕ) (m n : Model) (p : Configuration) (place : Place) → h ≢ a → Unmoved a m n → PlaceFits g h m p place → PlaceFits g h n p place
place-unmoved g a h m n p (Idle known) ne un fits = (un.running h ne ∙ fits.0, (λ j. un.sessions h ne j ∙ fits.1 j), fits.2)
place-unmoved g a h m n p (Begins known command) ne un fits = (running-unmoved g a h command known m n ne un fits.0, fits.1, fits.2, fits.3)
place-unmoved g a h m n p (In known command process) ne un fits = (running-unmoved g a h command known m n ne un fits.0, fits.1)

module _ (g : Geometry) (a h i : ℕ) (device : Device) (writes : List Issued) (pending : Option ℕ) (m n : Model) (ne : h ≢ a) (un : Unmoved a m n)
    (foreign : Foreign a (m.slots i) (n.slots i)) (differs : Differs (n.slots i)) where
  has-all : (known : Known) → HasContent g h i known device m → HasContent g h i known device n
  has-all known has s is = has-foreign g i h a s device (m.slots i) (n.slots i) ne foreign (has s is)

  looks-all : (command : Command) (known : Known) (regime : Regime) → Looks g h i command known regime m → Looks g h i command known regime n
  looks-all command known regime looks =
      looks-foreign g h i a command known regime m n ne foreign differs un.images un.appliances (un.running h ne) (un.sessions h ne) looks

  pub owned-foreign : (place : Place) → OwnedAt g h i device writes pending m place → OwnedAt g h i device writes pending n place
  owned-foreign (Idle known) owned = has-all known owned
  owned-foreign (Begins known command) owned = (
    λ names s is. (let b = owned.0 names s is in record {
      image = b.image;
      change = b.change;
      looks = looks-all command known (With b.image b.change) b.looks;
      begun = b.begun;
      journal = b.journal;
      left = b.left;
    }),
    λ away. has-all known (owned.1 away),
  )
  owned-foreign (In known command process) owned = (
    λ names. (let s = owned.0 names in record { regime = s.regime; looks = looks-all command known s.regime s.looks; held = s.held; on = s.on; fills = s.fills }),
    λ away. has-all known (owned.1 away),
  )

-- what another boot minds stays right where the image's owner in the model says what becomes of its change
module _ (g : Geometry) (few : g.slots ≤ 64) (a h i : ℕ) (device : Device) (writes : List Issued) (pending : Option ℕ) (m n : Model) (ne : h ≢ a) (un : Unmoved a m n)
    (mine : (m.slots i).owner ≡ Some a) (keeps : HoldsSlot g device i (n.slots i)) (differs : Differs (n.slots i)) where
  not-theirs : {X : Type 0} → (m.slots i).owner ≡ Some h → X
  not-theirs e = absurd (ne (let f : Some h ≡ Some a = sym e ∙ mine in cc))

  pub owned-taken : (place : Place) → OwnedAt g h i device writes pending m place → OwnedAt g h i device writes pending n place
  owned-taken (Idle known) owned = λ s is. not-theirs (owned s is).owner
  owned-taken (Begins known command) owned = ((λ names s is. not-theirs (owned.0 names s is).looks.slot.0), (λ away s is. not-theirs (owned.1 away s is).owner))
  owned-taken (In known command process) owned =
      ((λ names. let s = owned.0 names in by_regime s.regime s.looks s.held s.on s.fills), (λ away s is. not-theirs (owned.1 away s is).owner))
    where
      by_regime : (regime : Regime) → Looks g h i command known regime m → HeldProcess g h i command known regime process device → IsOn g i device regime →
          ((k : ℕ) (x : Issued) → pending ≡ Some k → slice_get writes k ≡ Some x → IsJournalled x.kind → with_landed_sectors (missing_of x.landed) x.bytes (device x.block) ≡ x.bytes) →
          IsServing g h i command known process device writes pending n
      by_regime (With image change) looks held on fills = not-theirs looks.slot.0
      by_regime (Without kept ws) looks held on fills = record {
        regime = Without kept ws;
        looks = record {
          running = running-unmoved g a h command known m n ne un looks.running;
          slot = (shows-one g device i kept keeps.kept ws keeps.writes (n.slots i) on keeps.journal keeps.either, differs);
          purpose = looks.purpose;
        };
        held = held;
        on = on;
        fills = fills;
      }

-- ---- the device

module _ (g : Geometry) (h i : ℕ) (d e : Device) (writes now : List Issued) (pending : Option ℕ) (m : Model) (same : Same g i d e) where
  on-same : (regime : Regime) → IsOn g i d regime → IsOn g i e regime
  on-same (Without kept ws) j = IsJournal-same g d e i kept ws same j
  on-same (With image change) j = tt

  -- the device holds the same of the image, and of what is waited for there is what there was
  pub owned-same : (place : Place) →
      ((known : Known) (command : Command) (process : Process End) → place ≡ In known command process → Names command i → (n : ℕ) (x : Issued) → pending ≡ Some n → slice_get now n ≡ Some x → IsJournalled x.kind →
      slice_get writes n ≡ Some x × IsOf g i x.block) →
      OwnedAt g h i d writes pending m place → OwnedAt g h i e now pending m place
  owned-same (Idle known) old owned = λ s is. has-same g i h s d e (m.slots i) same (owned s is)
  owned-same (Begins known command) old owned = (
    λ names s is. (let b = owned.0 names s is in record {
      image = b.image;
      change = b.change;
      looks = b.looks;
      begun = b.begun;
      journal = IsJournal-same g d e i s.image s.writes same b.journal;
      left = b.left;
    }),
    λ away s is. has-same g i h s d e (m.slots i) same (owned.1 away s is),
  )
  owned-same (In known command process) old owned = (
    λ names. (let s = owned.0 names in record {
      regime = s.regime;
      looks = s.looks;
      held = held-process-same g h i command known s.regime process d e same s.held;
      on = on-same s.regime s.on;
      fills = λ n x waits found kind.
          (let was = old known command process refl names n x waits found kind in
          let P : List ℕ → Type 0 = λ b. with_landed_sectors (missing_of x.landed) x.bytes b ≡ x.bytes in
          subst P (sym (same-at g i x.block d e was.1 same)) (s.fills n x waits was.0 kind));
    }),
    λ away s is. has-same g i h s d e (m.slots i) same (owned.1 away s is),
  )

-- ---- two boots don't hold one lease

pub one-grip : (w : World) → Leased w → (i a b : ℕ) → i < w.geometry.images → a < w.appliances → b < w.appliances → (c d : Claim) (u v : ℕ) →
    Grips w.geometry w.surface.time w.surface.writes a (w.seats a) i c u → Grips w.geometry w.surface.time w.surface.writes b (w.seats b) i d v → a ≡ b
one-grip w leased i a b within = grips-one w leased (image_lease i) (image-below w.geometry i within) a b

-- what is open under a held lease is what its boot waits for
pub grip-only : (w : World) → Leased w → (i a : ℕ) → i < w.geometry.images → a < w.appliances → (c : Claim) (u : ℕ) →
    Grips w.geometry w.surface.time w.surface.writes a (w.seats a) i c u → (n : ℕ) (x : Issued) → IsOpen w.geometry w.rests w.appliances w.surface.time w.surface.writes w.seats (image_lease i) n x → (w.seats a).pending ≡ Some n
grip-only w leased i a within = grips-only w leased (image_lease i) (image-below w.geometry i within) a
