-- Blocks in hand lie in extents whose leases are held, and what becomes held.
use Rattle.std.proofs.Common.{◌≡◌, ℕ, ◌⊎◌, inl, inr, List, [], ◌∷◌, Bool, true, false, Option, Some, None, refl, ap, sym, subst, ◌∙◌}
use Rattle.std.specs.Prelude.{◌==◌}
use Rattle.std.proofs.lemmas.Bool.Decides.{eqb_tells}
use Rattle.plx_base.specs.declared.lease.Claim.{Claim}
use Rattle.plx_base.specs.declared.lease.LeaseRecord.{LeaseRecord}
use Rattle.plx_base.specs.declared.lease.LeaseRecord.TheVariants.{Free, Claimed}
use Rattle.plx_base.specs.declared.write_kind.WriteKind.{WriteKind}
use Rattle.plx_base.specs.declared.write_kind.WriteKind.TheVariants as kind
use Rattle.plx_commands.proofs.Places.{at-same, at-other}
use Rattle.plx_commands.specs.Places.{at}
use Rattle.plx_commands.specs.Replies.{is_in}
use Rattle.plx_commands.specs.declared.command.Command.{Command}
use Rattle.plx_disk.specs.declared.ask.Ask.{Ask}
use Rattle.plx_disk.specs.declared.ask.Answer.{Answer}
use Rattle.plx_disk.specs.declared.ask.Answer.TheVariants as answer
use Rattle.plx_gate.specs.Leases.{read_lease}
use Rattle.plx_geom.specs.Geometry.{Geometry, extent_lease, lease_at}
use Rattle.plx_rules.specs.Boot.{BootEntry, Began, Asked, Place, Idle, Begins, In, Configuration, configuration, after_process, first_process, first_read, goes_to, went_on}
use Rattle.plx_rules.specs.Ends.{End}
use Rattle.plx_rules.specs.Hands.{found_by, filled_answered, hand_answered, hand_left, is_held}
use Rattle.plx_rules.specs.Holds.{Hold, Nothing, Seen, Wrote, Waited, Held, after_answer, after_first, after_write, hold_after_renewal, sample_of, hold_after_read, hold_after_claim}
use Rattle.plx_rules.specs.Process.{Process, answered}
use Rattle.plx_rules.specs.Rests.{extent_of}
use Rattle.plx_rules.specs.Session.{Known}
use Rattle.plx_rules.specs.Settings.{Setting}
use Rattle.plx_rules.proofs.Holds.{nothing-held}
use Rattle.law_lease.proofs.Leased.{grip_while}
use Rattle.law_space.proofs.Lists.{in-filter}

-- each block in hand lies in an extent whose lease is held
abbrev pub HandHeld : Geometry → Configuration → Type 0
HandHeld g p = (block : ℕ) → is_in block p.hand ≡ true → is_held (p.holds (lease_at (extent_lease g (extent_of g block)))) ≡ true

hand-goes : (g : Geometry) (known : Known) (command : Command) (holds : ℕ → Hold) (hand : List ℕ) (filled : List (ℕ × List ℕ)) (sample : Option ℕ) (found : Option (ℕ × List ℕ)) (process : Process End) →
    HandHeld g (goes_to g known command holds hand filled sample found 0 process)
hand-goes g known command holds hand filled sample found process block is =
    (in-filter (λ block. is_held (after_process process holds (lease_at (extent_lease g (extent_of g block))))) block hand is).1

hand-first : (s : Setting) (known : Known) (command : Command) (answer : Answer) (p : Configuration) → HandHeld s.geometry p → HandHeld s.geometry (first_read s known command answer p)
hand-first s known command (answer.Reading reading) p held = hand-goes s.geometry known command (after_first s.geometry known reading p.holds) p.hand [] (Some reading) None (first_process s known reading command p)
hand-first s known command other p held = held

hand-went : (s : Setting) (ask : Ask) (bytes : List ℕ) (answer : Answer) (p : Configuration) (place : Place) → HandHeld s.geometry p → HandHeld s.geometry (went_on s ask bytes answer p place)
hand-went s ask bytes answer p (Idle known) held = held
hand-went s ask bytes answer p (Begins known command) held = hand-first s known command answer p held
hand-went s ask bytes answer p (In known command process) held =
    hand-goes s.geometry known command (after_answer p.sample ask bytes answer p.holds) (hand_left ask p.filled (hand_answered s.geometry p.found ask bytes answer p.hand)) (filled_answered ask bytes answer p.filled) (sample_of answer) (found_by ask answer) (answered process answer)

-- so it is wherever a boot stands
pub hand-held : (s : Setting) (log : List BootEntry) → HandHeld s.geometry (configuration s log)
hand-held s [] = λ block is. absurd (let P : ⊥ = cc in P)
hand-held s (Began command ∷ older) = hand-held s older
hand-held s (Asked ask bytes answer ∷ older) = hand-went s ask bytes answer (configuration s older) (configuration s older).place (hand-held s older)

-- ---- what is held after an answer was held before

-- after a read it was held before, or wasn't held
pub shown-held : (sample : Option ℕ) (bytes : List ℕ) (hold : Hold) (claim : Claim) (until : ℕ) → hold_after_read sample bytes hold ≡ Held claim until → (hold ≡ Held claim until) ⊎ (is_held hold ≡ false)
shown-held sample bytes (Held c u) claim until e = inl e
shown-held sample bytes Nothing claim until e = inr refl
shown-held sample bytes (Seen s) claim until e = inr refl
shown-held sample bytes (Wrote c u) claim until e = inr refl
shown-held sample bytes (Waited c u) claim until e = inr refl

pub read-held : (holds : ℕ → Hold) (block lease : ℕ) (sample : Option ℕ) (bytes : List ℕ) (claim : Claim) (until : ℕ) →
    at holds block (hold_after_read sample bytes (holds block)) lease ≡ Held claim until → (holds lease ≡ Held claim until) ⊎ (is_held (holds lease) ≡ false)
read-held holds block lease sample bytes claim until e = elim (eqb_tells lease block) [
  | inl here ↦
      let f : at holds block (hold_after_read sample bytes (holds block)) lease ≡ hold_after_read sample bytes (holds block) =
      ap (at holds block (hold_after_read sample bytes (holds block))) here.1 ∙ at-same holds block (hold_after_read sample bytes (holds block)) in
      subst (λ (h : Hold). (h ≡ Held claim until) ⊎ (is_held h ≡ false)) (ap holds (sym here.1)) (shown-held sample bytes (holds block) claim until (sym f ∙ e))
  | inr away ↦ inl (sym (at-other holds block lease (hold_after_read sample bytes (holds block)) away.1) ∙ e)
]

-- once a write is done, what is held is what its boot held as it had landed
pub written-held : (k : WriteKind) (block : ℕ) (bytes : List ℕ) (holds : ℕ → Hold) (lease : ℕ) (claim : Claim) (until : ℕ) →
    after_write k block bytes holds lease ≡ Held claim until → grip_while k (lease == block) true bytes (holds lease) ≡ Held claim until
written-held kind.Claim block bytes holds lease claim until e = elim (eqb_tells lease block) [
  | inl here ↦
      let f : at holds block (hold_after_claim (read_lease bytes)) lease ≡ hold_after_claim (read_lease bytes) = ap (at holds block (hold_after_claim (read_lease bytes))) here.1 ∙ at-same holds block (hold_after_claim (read_lease bytes)) in
      wrote-never (read_lease bytes) (sym f ∙ e)
  | inr away ↦ sym (at-other holds block lease (hold_after_claim (read_lease bytes)) away.1) ∙ e
]
  where
    wrote-never : {A : Type 0} (r : Option LeaseRecord) → hold_after_claim r ≡ Held claim until → A
    wrote-never None e' = nothing-held claim until e'
    wrote-never (Some Free) e' = nothing-held claim until e'
    wrote-never (Some (Claimed c u)) e' = absurd (let P : ⊥ = cc in P)
written-held kind.Renew block bytes holds lease claim until e = elim (eqb_tells lease block) [
  | inl here ↦
      let f : at holds block (hold_after_renewal (read_lease bytes)) lease ≡ hold_after_renewal (read_lease bytes) = ap (at holds block (hold_after_renewal (read_lease bytes))) here.1 ∙ at-same holds block (hold_after_renewal (read_lease bytes)) in
      ap (λ (b : Bool). grip_while kind.Renew b true bytes (holds lease)) here.0 ∙ (sym f ∙ e)
  | inr away ↦
      ap (λ (b : Bool). grip_while kind.Renew b true bytes (holds lease)) away.0 ∙ (sym (at-other holds block lease (hold_after_renewal (read_lease bytes)) away.1) ∙ e)
]
written-held kind.Release block bytes holds lease claim until e = elim (eqb_tells lease block) [
  | inl here ↦
      let f : at holds block Nothing lease ≡ Nothing = ap (at holds block Nothing) here.1 ∙ at-same holds block Nothing in
      nothing-held claim until (sym f ∙ e)
  | inr away ↦
      ap (λ (b : Bool). grip_while kind.Release b true bytes (holds lease)) away.0 ∙ (sym (at-other holds block lease Nothing away.1) ∙ e)
]
written-held other block bytes holds lease claim until e = e
