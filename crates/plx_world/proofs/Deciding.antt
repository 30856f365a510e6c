-- Whether an answer fits an ask can be told.
use Rattle.std.proofs.Common.{◌≡◌, ◌≢◌, ◌≤◌, ◌<◌, ◌^◌, ◌⊎◌, ℕ, inl, inr, length}
use Rattle.std.proofs.lemmas.Bool.Decides.{eqb_tells, leb_tells}
use Rattle.std.proofs.Common.{arith}
use Rattle.plx_disk.specs.declared.ask.Answer.{Answer}
use Rattle.plx_disk.specs.declared.ask.Answer.TheVariants as answer
use Rattle.plx_disk.specs.declared.ask.Ask.{Ask}
use Rattle.plx_disk.specs.declared.ask.Ask.TheVariants as ask
use Rattle.plx_rules.specs.Boot.{Fits}

-- a number is another, or not
equal-or : (a b : ℕ) → (a ≡ b) ⊎ (a ≢ b)
equal-or a b = elim (eqb_tells a b) [ inl is ↦ inl is.1 | inr other ↦ inr other.1 ]

-- it is at least another, or not
reaches-or : (a b : ℕ) → (a ≤ b) ⊎ ¬ (a ≤ b)
reaches-or a b = elim (leb_tells a b) [ inl is ↦ inl is.1 | inr other ↦ inr (λ within. let past : b < a = other.1 in absurd (omega arith)) ]

below-or : (a b : ℕ) → (a < b) ⊎ ¬ (a < b)
below-or a b = elim (leb_tells b a) [ inl is ↦ inr (λ within. let past : b ≤ a = is.1 in absurd (omega arith)) | inr other ↦ inl other.1 ]

-- two facts hold together, or not
both-or : {A B : Type 0} → A ⊎ ¬ A → B ⊎ ¬ B → (A × B) ⊎ ¬ (A × B)
both-or (inl a) (inl b) = inl (a, b)
both-or (inl a) (inr none) = inr (λ both. none both.1)
both-or (inr none) b = inr (λ both. none both.0)

-- an answer fits an ask, or not
pub fits-or : (a : Ask) (given : Answer) → Fits a given ⊎ ¬ (Fits a given)
fits-or (ask.Read block) (answer.Bytes bytes) = equal-or (length bytes) 4096
fits-or (ask.Read block) answer.Done = inr (λ x. x)
fits-or (ask.Read block) (answer.Reading reading) = inr (λ x. x)
fits-or (ask.Read block) (answer.Missed reading) = inr (λ x. x)
fits-or (ask.Read block) answer.Fault = inl tt
fits-or (ask.Write kind block guard) (answer.Bytes bytes) = inr (λ x. x)
fits-or (ask.Write kind block guard) answer.Done = inl tt
fits-or (ask.Write kind block guard) (answer.Reading reading) = inr (λ x. x)
fits-or (ask.Write kind block guard) (answer.Missed reading) = both-or (below-or guard reading) (below-or reading (2 ^ 48))
fits-or (ask.Write kind block guard) answer.Fault = inl tt
fits-or ask.Clock (answer.Bytes bytes) = inr (λ x. x)
fits-or ask.Clock answer.Done = inr (λ x. x)
fits-or ask.Clock (answer.Reading reading) = below-or reading (2 ^ 48)
fits-or ask.Clock (answer.Missed reading) = inr (λ x. x)
fits-or ask.Clock answer.Fault = inr (λ x. x)
fits-or (ask.Until from) (answer.Bytes bytes) = inr (λ x. x)
fits-or (ask.Until from) answer.Done = inr (λ x. x)
fits-or (ask.Until from) (answer.Reading reading) = both-or (reaches-or from reading) (below-or reading (2 ^ 48))
fits-or (ask.Until from) (answer.Missed reading) = inr (λ x. x)
fits-or (ask.Until from) answer.Fault = inr (λ x. x)
