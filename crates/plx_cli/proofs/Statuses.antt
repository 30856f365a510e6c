-- Which statuses a run can end with, and what they say of the text that was to be written.
use Rattle.std.proofs.Common.{◌≡◌, ◌≢◌, ◌∙◌, ◌⊎◌, inl, inr, ℕ, List, Bool, false, eqb, eq-eqb, ap, refl, subst, sym}
use Rattle.plx_cli.specs.declared.status.Status.{Status}
use Rattle.plx_cli.specs.declared.status.Status.TheVariants.{Done, Usage, BadLine, SourceFault, SinkFault, NoMemory, TooLong}
use Rattle.plx_cli.specs.Program.{IsAnswer, IsBad, IsOutcome, IsTrace}

-- the program's exit status
abbrev pub exit_status : Status → ℕ
exit_status Done = 0
exit_status Usage = 1
exit_status BadLine = 2
exit_status SourceFault = 3
exit_status SinkFault = 4
exit_status NoMemory = 5
exit_status TooLong = 6

-- two statuses have one number
abbrev pub same_status : Status → Status → Bool
same_status a b = eqb (exit_status a) (exit_status b)

-- no two statuses are one
pub differs : {A : Type 0} (a b : Status) → same_status a b ≡ false → a ≡ b → A
differs a b apart same = absurd (
    let equal = eq-eqb (exit_status a) (exit_status b) (ap exit_status same) in
    let P : ⊥ = cc in
    P)

-- what is to be written was played, or names a bad line
module _ (bytes text : List ℕ) (status : Status) where
  pub outcome-status : IsOutcome bytes status text →
      (status ≡ Done) ⊎ (status ≡ BadLine) ⊎ (status ≡ SinkFault) ⊎ (status ≡ NoMemory)
  outcome-status (inl played) = inl played.0
  outcome-status (inr named) = inr (inl named.0)

  pub outcome-only : {A : Type 0} (other : Status) → IsOutcome bytes status text →
      same_status Done other ≡ false → same_status BadLine other ≡ false → status ≡ other → A
  outcome-only other (inl played) done bad is = differs Done other done (sym played.0 ∙ is)
  outcome-only other (inr named) done bad is = differs BadLine other bad (sym named.0 ∙ is)

-- the same of the text's slice
module _ (bytes slice text : List ℕ) (status : Status) (same : slice ≡ text) where
  pub outcome-answer : IsOutcome bytes status text → IsAnswer bytes slice
  outcome-answer (inl played) = inl (subst (λ l. IsTrace bytes l) (sym same) played.1)
  outcome-answer (inr named) = inr (subst (λ l. IsBad bytes l) (sym same) named.1)

  pub outcome-trace : IsOutcome bytes status text → status ≡ Done → IsTrace bytes slice
  outcome-trace (inl played) is = subst (λ l. IsTrace bytes l) (sym same) played.1
  outcome-trace (inr named) is = differs BadLine Done refl (sym named.0 ∙ is)

  pub outcome-bad : IsOutcome bytes status text → status ≡ BadLine → IsBad bytes slice
  outcome-bad (inl played) is = differs Done BadLine refl (sym played.0 ∙ is)
  outcome-bad (inr named) is = subst (λ l. IsBad bytes l) (sym same) named.1

module _ (status : Status) where
  -- a status of no input isn't that of an answer
  pub answers-only : {A : Type 0} (other : Status) →
      (status ≡ Done) ⊎ (status ≡ BadLine) ⊎ (status ≡ SinkFault) ⊎ (status ≡ NoMemory) →
      same_status Done other ≡ false → same_status BadLine other ≡ false →
      same_status SinkFault other ≡ false → same_status NoMemory other ≡ false →
      status ≡ other → A
  answers-only other (inl is) done bad sink short same =
      differs Done other done (sym is ∙ same)
  answers-only other (inr (inl is)) done bad sink short same =
      differs BadLine other bad (sym is ∙ same)
  answers-only other (inr (inr (inl is))) done bad sink short same =
      differs SinkFault other sink (sym is ∙ same)
  answers-only other (inr (inr (inr is))) done bad sink short same =
      differs NoMemory other short (sym is ∙ same)

  -- where nothing is written, memory ran out
  pub answers-short :
      (status ≡ Done) ⊎ (status ≡ BadLine) ⊎ (status ≡ SinkFault) ⊎ (status ≡ NoMemory) →
      status ≢ Done → status ≢ BadLine → status ≢ SinkFault → status ≡ NoMemory
  answers-short (inl is) undone named failed = absurd (undone is)
  answers-short (inr (inl is)) undone named failed = absurd (named is)
  answers-short (inr (inr (inl is))) undone named failed = absurd (failed is)
  answers-short (inr (inr (inr is))) undone named failed = is
