use Rattle.std.proofs.Common.{◌≡◌, ◌∙◌, Option, None, Some, true, ap, sym}
use Rattle.std.specs.Prelude.{MatchOption, is_some}
use Rattle.plx_appliance.proofs.RunLogs.{session-shown}
use Rattle.plx_appliance.proofs.appliance.Appliance.is_attached.Goals as goal

-- what was found is there where what it stands for is
there-where : {A B : Type 0} (found : Option A) (known : Option B) (P : A → Type 0) → ((x : A) → P x → is_some known ≡ true) →
    MatchOption found (known ≡ None) P → is_some found ≡ is_some known
there-where None known P says told = sym (ap is_some told)
there-where (Some x) known P says told = sym (says x told)

pub returns : goal.returns
returns c = λ log stands.
    c.is_some.ensures ∙ there-where _ _ _ (λ session is. ap is_some is.0) c.get.ensures ∙ session-shown c.args.self.now log c.args.slot.0 stands
