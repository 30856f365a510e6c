-- What is known of one image, among all that is known.
use Rattle.std.proofs.Common.{◌≡◌, ℕ, inl, inr, sym, ap, ◌∙◌}
use Rattle.std.specs.Prelude.{Option}
use Rattle.std.proofs.Math.Path.{fun_ext}
use Rattle.plx_commands.specs.Places.{at}
use Rattle.std.proofs.lemmas.Bool.Decides.{eqb_tells}
use Rattle.plx_commands.proofs.Places.{at-other}
use Rattle.plx_rules.specs.Session.{Known, Session, with_session}

-- a table with the same at one place
at-is : {X : Type 0} (table : ℕ → X) (place : ℕ) (x : X) → table place ≡ x → at table place x ≡ table
at-is table place x is = fun_ext (λ k. elim (eqb_tells k place) [
  | inl same ↦ rw same.0 (sym is ∙ ap table (sym same.1))
  | inr other ↦ at-other table place k x other.1
])

-- the same session
pub with-same : (known : Known) (image : ℕ) (session : Option Session) → known.sessions image ≡ session → with_session known image session ≡ known
with-same known image session is = ap (λ (t : ℕ → Option Session). record known { sessions = t }) (at-is known.sessions image session is)
