-- The rules by their numbers.
use Rattle.std.proofs.Common.{◌≡◌, ◌<◌, ℕ, zero, suc, ◌+◌, refl, sym, subst, arith, below_more, Bool, true, false, IsTrue, ◌↔◌, Option, Some, IsSome}
use Rattle.plx_base.specs.declared.numbers.ApplianceNo.{ApplianceNo}
use Rattle.plx_commands.specs.Judge.{Accepts, Breaks, InCommand, IsByOwner, IsFounded, IsLeastBroken, IsListed, IsReplyInCommand, IsStartOfIdle, IsUnrefused, IsValue, appliance_of}
use Rattle.plx_commands.specs.Judge.{known, idle, running, listed, owner, value, refusal, unrefused}
use Rattle.plx_commands.specs.Model.{Model}
use Rattle.plx_commands.specs.declared.command.Command.{Command}
use Rattle.plx_commands.specs.declared.reply.Reply.{Reply}
use Rattle.plx_commands.specs.declared.entry.Entry.{Entry}
use Rattle.plx_commands.specs.declared.entry.Entry.TheVariants as entry
use Rattle.plx_commands.proofs.Accepted.{in_command}

abbrev pub Rule : Model → Entry → ℕ → Type 0
Rule m e zero = Unit {0}
Rule m e (suc zero) = appliance_of e < m.appliances
Rule m e (suc (suc zero)) = IsStartOfIdle m e
Rule m e (suc (suc (suc zero))) = IsReplyInCommand m e
Rule m e (suc (suc (suc (suc zero)))) = InCommand IsListed m e
Rule m e (suc (suc (suc (suc (suc zero))))) = InCommand IsByOwner m e
Rule m e (suc (suc (suc (suc (suc (suc zero)))))) = InCommand IsValue m e
Rule m e (suc (suc (suc (suc (suc (suc (suc zero))))))) = InCommand IsFounded m e
Rule m e (suc (suc (suc (suc (suc (suc (suc (suc zero)))))))) = InCommand IsUnrefused m e
Rule m e (suc (suc (suc (suc (suc (suc (suc (suc (suc n))))))))) = Unit {0}

breaks-rule : {m : Model} {e : Entry} {n : ℕ} → Breaks m e n → ¬ Rule m e n
breaks-rule (known h) = h
breaks-rule (idle h) = h
breaks-rule (running h) = h
breaks-rule (listed h) = h
breaks-rule (owner h) = h
breaks-rule (value h) = h
breaks-rule (refusal h) = h
breaks-rule (unrefused h) = h

-- an entry that is accepted breaks no rule
pub accepted_keeps : {m : Model} {e : Entry} {n : ℕ} → Breaks m e n → ¬ Accepts m e
accepted_keeps (known h) a = h a.known
accepted_keeps (idle h) a = h a.idle
accepted_keeps (running h) a = h a.running
accepted_keeps (listed h) a = h a.listed
accepted_keeps (owner h) a = h a.owner
accepted_keeps (value h) a = h a.value
accepted_keeps (refusal h) a = h a.refusal
accepted_keeps (unrefused h) a = h a.unrefused

-- what a test denies
pub not-so : {P : Type 0} (b : Bool) → IsTrue b ↔ P → b ≡ false → ¬ P
not-so b h fails p = let yes : b ≡ true = h.1 p in cc

-- all rules below this number are kept
abbrev pub Below : Model → Entry → ℕ → Type 0
Below m e n = (k : ℕ) → k < n → Rule m e k

pub below_one : (m : Model) (e : Entry) → Below m e 1
below_one m e zero h = tt
below_one m e (suc k) h = absurd (omega arith)

pub below_next : (m : Model) (e : Entry) (n : ℕ) → Below m e n → Rule m e n → Below m e (n + 1)
below_next m e n below here = below_more (Rule m e) n below here

-- a rule is the least that is broken where all below it are kept
pub least-broken : (m : Model) (e : Entry) (n : ℕ) → Below m e n → Breaks m e n → IsLeastBroken m e n
least-broken m e n below here = record { broken = here; least = λ k h b. breaks-rule b (below k h) }

pub not_in_command : (Holds : Model → ℕ → Command → Reply → Type 0) (m : Model) (a : ApplianceNo) (command : Command) (reply : Reply) → m.running a.0 ≡ Some command → ¬ Holds m a.0 command reply → ¬ InCommand Holds m (entry.Reply a reply)
not_in_command Holds m a command reply runs fails h = fails (h command runs)

pub is_running : (o : Option Command) (command : Command) → o ≡ Some command → IsSome o
is_running o command e = subst (λ (p : Option Command). IsSome p) (sym e) refl

pub below_three : (m : Model) (a : ApplianceNo) (reply : Reply) → a.0 < m.appliances → Below m (entry.Reply a reply) 3
below_three m a reply at_hand = below_next m (entry.Reply a reply) 2 (below_next m (entry.Reply a reply) 1 (below_one m (entry.Reply a reply)) at_hand) tt

-- the appliance is in this command
pub record IsInCommand (m : Model) (a : ApplianceNo) (command : Command) : Type 0 where
  pub known : a.0 < m.appliances
  pub runs : m.running a.0 ≡ Some command

pub below_four : (m : Model) (a : ApplianceNo) (command : Command) (reply : Reply) → IsInCommand m a command → Below m (entry.Reply a reply) 4
below_four m a command reply is = below_next m (entry.Reply a reply) 3 (below_three m a reply is.known) (is_running _ command is.runs)

pub below_five : (m : Model) (a : ApplianceNo) (command : Command) (reply : Reply) → IsInCommand m a command → IsListed m a.0 command reply → Below m (entry.Reply a reply) 5
below_five m a command reply is h = below_next m (entry.Reply a reply) 4 (below_four m a command reply is) (in_command IsListed m a command reply is.runs h)

pub below_six : (m : Model) (a : ApplianceNo) (command : Command) (reply : Reply) → IsInCommand m a command → IsListed m a.0 command reply → IsByOwner m a.0 command reply → Below m (entry.Reply a reply) 6
below_six m a command reply is row h = below_next m (entry.Reply a reply) 5 (below_five m a command reply is row) (in_command IsByOwner m a command reply is.runs h)

pub below_seven : (m : Model) (a : ApplianceNo) (command : Command) (reply : Reply) → IsInCommand m a command → IsListed m a.0 command reply → IsByOwner m a.0 command reply → IsValue m a.0 command reply → Below m (entry.Reply a reply) 7
below_seven m a command reply is row own h = below_next m (entry.Reply a reply) 6 (below_six m a command reply is row own) (in_command IsValue m a command reply is.runs h)

pub below_eight : (m : Model) (a : ApplianceNo) (command : Command) (reply : Reply) → IsInCommand m a command → IsListed m a.0 command reply → IsByOwner m a.0 command reply → IsValue m a.0 command reply → IsFounded m a.0 command reply → Below m (entry.Reply a reply) 8
below_eight m a command reply is row own has h = below_next m (entry.Reply a reply) 7 (below_seven m a command reply is row own has) (in_command IsFounded m a command reply is.runs h)
