-- What an entry of one appliance leaves of a slot for the others.
use Rattle.std.proofs.Common.{◌≡◌, ◌≢◌, ℕ, ◌⊎◌, inl, inr, Bool, true, false, Option, Some, None, refl, sym, subst, ◌∙◌}
use Rattle.plx_base.proofs.Tests.{and-parts}
use Rattle.plx_commands.specs.Facts.{refusals, is_none}
use Rattle.plx_commands.specs.Images.{Image}
use Rattle.plx_commands.specs.Model.{Model, Slot, images_in, owns_all}
use Rattle.plx_commands.specs.Moves.{under_way, given_up, slot_without_owner, where_owned, begins_change, started_at, refused_at}
use Rattle.plx_commands.specs.Places.{at}
use Rattle.plx_commands.specs.Slots.{named_slots, changed_slot, image_after}
use Rattle.plx_commands.specs.declared.command.Command.{Command}
use Rattle.plx_commands.proofs.Places.{at-all}
use Rattle.law_model.specs.Sound.{Sound}
use Rattle.law_model.proofs.Owners.{owner-cases, disowned-other, disowned-stranger, changed-owned}

-- the image stays, a change may come where there was none, what another appliance owns stays whole, and no other appliance becomes the owner
pub record Foreign (a : ℕ) (s t : Slot) : Type 0 where
  pub image : t.image ≡ s.image
  pub change : (t.change ≡ s.change) ⊎ (s.change ≡ None)
  pub others : s.owner ≢ Some a → t ≡ s
  pub owner : (c : ℕ) → t.owner ≡ Some c → s.owner ≡ Some c

pub foreign-same : (a : ℕ) (s : Slot) → Foreign a s s
foreign-same a s = record { image = refl; change = inl refl; others = λ ne. refl; owner = λ c e. e }

pub foreign-equal : (a : ℕ) (s t : Slot) → t ≡ s → Foreign a s t
foreign-equal a s t same = let Q : Slot → Type 0 = λ x. Foreign a s x in subst Q (sym same) (foreign-same a s)

pub foreign-back : (a : ℕ) (s : Slot) → Foreign a s (slot_without_owner s a)
foreign-back a s = record {
  image = refl;
  change = inl refl;
  others = λ ne. let e = disowned-stranger s.owner a ne in λ i. record { image = s.image; change = s.change; owner = e i };
  owner = λ c e. disowned-other s.owner a c e;
}

-- a start by an idle appliance
pub foreign-start : (m : Model) (a : ℕ) (command : Command) (j : ℕ) → Sound m → m.running a ≡ None → Foreign a (m.slots j) (started_at m a command (changed_slot command) j)
foreign-start m a command j sound idle = by_slot (changed_slot command) refl
  where
    by_test : (slot : ℕ) → changed_slot command ≡ Some slot → (x : Bool) → begins_change m a command ≡ x →
        Foreign a (m.slots j) (where_owned x m.slots slot (under_way (m.slots slot) (image_after (images_in m) slot command)) j)
    by_test slot is false e = foreign-same a (m.slots j)
    by_test slot is true e =
        let mine = changed-owned m a command slot is (and-parts (owns_all m a (named_slots command)) (is_none (refusals m a command)) e).0 in
        at-all (λ k t. Foreign a (m.slots k) t) m.slots slot (under_way (m.slots slot) (image_after (images_in m) slot command))
        (record { image = refl; change = inr (no_change (m.slots slot).change refl mine); others = λ ne. absurd (ne mine); owner = λ c e. e })
        (λ k ne. foreign-same a (m.slots k)) j
      where
        no_change : (c : Option Image) → (m.slots slot).change ≡ c → (m.slots slot).owner ≡ Some a → (m.slots slot).change ≡ None
        no_change None is mine = is
        no_change (Some i) is mine =
            let w = sound.decided a slot i mine is in
            absurd (let f : None ≡ Some w.0 = sym idle ∙ w.1 in let P : ⊥ = cc in P)

    by_slot : (o : Option ℕ) → changed_slot command ≡ o → Foreign a (m.slots j) (started_at m a command o j)
    by_slot None is = foreign-same a (m.slots j)
    by_slot (Some slot) is = by_test slot is (begins_change m a command) refl

-- a change that is given up by an appliance that doesn't own this slot
pub refused-foreign : (m : Model) (a : ℕ) (o : Option ℕ) (k : ℕ) → (m.slots k).owner ≢ Some a → Foreign a (m.slots k) (refused_at m a o k)
refused-foreign m a None k ne = foreign-same a (m.slots k)
refused-foreign m a (Some j) k ne = elim (owner-cases (m.slots j).owner a) [
  | inl mine ↦
      let G : Bool → Type 0 = λ b. Foreign a (m.slots k) (where_owned b m.slots j (given_up (m.slots j)) k) in
      subst G (sym mine.0)
      (at-all (λ n t. (m.slots n).owner ≢ Some a → Foreign a (m.slots n) t) m.slots j (given_up (m.slots j)) (λ ne'. absurd (ne' mine.1)) (λ n away ne'. foreign-same a (m.slots n)) k ne)
  | inr away ↦
      let G : Bool → Type 0 = λ b. Foreign a (m.slots k) (where_owned b m.slots j (given_up (m.slots j)) k) in
      subst G (sym away.0) (foreign-same a (m.slots k))
]

-- a session that ends leaves all slots
pub back-at : (m : Model) (a j k : ℕ) → Foreign a (m.slots k) (at m.slots j (slot_without_owner (m.slots j) a) k)
back-at m a j k = at-all (λ n t. Foreign a (m.slots n) t) m.slots j (slot_without_owner (m.slots j) a) (foreign-back a (m.slots j)) (λ n ne. foreign-same a (m.slots n)) k
