-- Who owns a slot.
use Rattle.std.proofs.Common.{◌≡◌, ◌≢◌, ℕ, ◌⊎◌, inl, inr, [], ◌∷◌, Bool, true, false, Option, Some, None, refl, ap, sym, ◌∙◌}
use Rattle.std.specs.Prelude.{if◌then◌else◌}
use Rattle.std.proofs.lemmas.Bool.Decides.{eqb_tells}
use Rattle.plx_base.proofs.Tests.{and-parts}
use Rattle.plx_commands.specs.Model.{Model, owns, owns_all, owner_without}
use Rattle.plx_commands.specs.Slots.{named_slots, changed_slot}
use Rattle.plx_commands.specs.declared.command.Command.{Command}
use Rattle.plx_commands.specs.declared.command.Command.TheVariants.{Attach, Detach, Create, Delete, Read, Write, Flush, Reserve, Renew, Retire, Reclaim}

pub owns-is : (o : Option ℕ) (a : ℕ) → owns o a ≡ true → o ≡ Some a
owns-is None a e = absurd (let P : ⊥ = cc in P)
owns-is (Some b) a e = elim (eqb_tells b a) [ inl same ↦ ap Some same.1 | inr away ↦ absurd (let f : true ≡ false = sym e ∙ away.0 in let P : ⊥ = cc in P) ]

pub owns-own : (o : Option ℕ) (a : ℕ) → o ≡ Some a → owns o a ≡ true
owns-own o a e = ap (λ (x : Option ℕ). owns x a) e ∙ (elim (eqb_tells a a) [ inl same ↦ same.0 | inr away ↦ absurd (away.1 refl) ])

pub owner-cases : (o : Option ℕ) (a : ℕ) → ((owns o a ≡ true) × (o ≡ Some a)) ⊎ ((owns o a ≡ false) × (o ≢ Some a))
owner-cases None a = inr (refl, λ e. cc)
owner-cases (Some b) a = elim (eqb_tells b a) [ inl same ↦ inl (same.0, ap Some same.1) | inr away ↦ inr (away.0, λ e. away.1 (cc)) ]

pub disowned-not : (o : Option ℕ) (a : ℕ) → owner_without o a ≢ Some a
disowned-not o a e = elim (owner-cases o a) [
  | inl mine ↦ (let f : None ≡ Some a = sym (ap (λ (b : Bool). if b then None else o) mine.0) ∙ e in let P : ⊥ = cc in P)
  | inr away ↦ away.1 (sym (ap (λ (b : Bool). if b then None else o) away.0) ∙ e)
]

pub disowned-other : (o : Option ℕ) (a b : ℕ) → owner_without o a ≡ Some b → o ≡ Some b
disowned-other o a b e = elim (owner-cases o a) [
  | inl mine ↦ absurd (let f : None ≡ Some b = sym (ap (λ (t : Bool). if t then None else o) mine.0) ∙ e in let P : ⊥ = cc in P)
  | inr away ↦ sym (ap (λ (t : Bool). if t then None else o) away.0) ∙ e
]

pub disowned-stranger : (o : Option ℕ) (a : ℕ) → o ≢ Some a → owner_without o a ≡ o
disowned-stranger o a ne = elim (owner-cases o a) [ inl mine ↦ absurd (ne mine.1) | inr away ↦ ap (λ (t : Bool). if t then None else o) away.0 ]

-- the owner of all slots that a command names owns the one that it changes
pub changed-owned : (m : Model) (a : ℕ) (command : Command) (slot : ℕ) → changed_slot command ≡ Some slot → owns_all m a (named_slots command) ≡ true → (m.slots slot).owner ≡ Some a
changed-owned m a command slot changes owned = by_command command changes owned
  where
    first : (k : ℕ) → owns_all m a (k ∷ []) ≡ true → Some k ≡ Some slot → (m.slots slot).owner ≡ Some a
    first k all is =
        let same : k ≡ slot = cc in
        ap (λ (n : ℕ). (m.slots n).owner) (sym same) ∙ owns-is (m.slots k).owner a (and-parts (owns (m.slots k).owner a) true all).0

    by_command : (c : Command) → changed_slot c ≡ Some slot → owns_all m a (named_slots c) ≡ true → (m.slots slot).owner ≡ Some a
    by_command (Create k size label) is all = first k.0 all is
    by_command (Delete k) is all = first k.0 all is
    by_command (Write k vblock payload) is all = first k.0 all is
    by_command (Attach k) is all = absurd (let P : ⊥ = cc in P)
    by_command (Detach k) is all = absurd (let P : ⊥ = cc in P)
    by_command (Read k vblock) is all = absurd (let P : ⊥ = cc in P)
    by_command (Flush k) is all = absurd (let P : ⊥ = cc in P)
    by_command (Reserve count) is all = absurd (let P : ⊥ = cc in P)
    by_command Renew is all = absurd (let P : ⊥ = cc in P)
    by_command Retire is all = absurd (let P : ⊥ = cc in P)
    by_command Reclaim is all = absurd (let P : ⊥ = cc in P)
