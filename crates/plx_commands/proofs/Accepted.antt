-- When the model accepts an entry.
use Rattle.std.proofs.Common.{◌≡◌, ℕ, ◌<◌, List, [], ◌∷◌, ◌++◌, Bool, true, false, Option, Some, None, IsSome, refl, ap, sym, subst, ◌∙◌, inl, inr}
use Rattle.std.specs.Prelude.{◌==◌, ◌||◌}
use Rattle.plx_base.specs.declared.numbers.ApplianceNo.{ApplianceNo}
use Rattle.plx_commands.specs.Facts.{refusals, of_claims, IsAmong}
use Rattle.plx_commands.specs.Judge.{Accepts, IsListed, IsByOwner, HasValue, IsValue, IsFounded, IsUnrefused, InCommand, of_owner}
use Rattle.plx_commands.specs.Model.{Model, owns_all}
use Rattle.plx_commands.specs.Replies.{number_of, is_own, is_in, row, rests_on_fact}
use Rattle.plx_commands.specs.declared.command.Command.{Command}
use Rattle.plx_commands.specs.declared.reply.Reply.{Reply}
use Rattle.plx_commands.specs.declared.entry.Entry.TheVariants as entry

-- the rules on a reply to this command
pub record Answers (m : Model) (appliance : ℕ) (command : Command) (reply : Reply) : Type 0 where
  pub listed : IsListed m appliance command reply
  pub owner : IsByOwner m appliance command reply
  pub value : IsValue m appliance command reply
  pub refusal : IsFounded m appliance command reply
  pub unrefused : IsUnrefused m appliance command reply

pub accepts-start : (m : Model) (a : ApplianceNo) (command : Command) → a.0 < m.appliances → m.running a.0 ≡ None → Accepts m (entry.Start a command)
accepts-start m a command known idle = record { known = known; idle = idle; running = tt; listed = tt; owner = tt; value = tt; refusal = tt; unrefused = tt }

pub accepts-crash : (m : Model) (a : ApplianceNo) → a.0 < m.appliances → Accepts m (entry.Crash a)
accepts-crash m a known = record { known = known; idle = tt; running = tt; listed = tt; owner = tt; value = tt; refusal = tt; unrefused = tt }

-- what holds of the command that an appliance is in
pub in_command : (Holds : Model → ℕ → Command → Reply → Type 0) (m : Model) (a : ApplianceNo) (command : Command) (reply : Reply) → m.running a.0 ≡ Some command → Holds m a.0 command reply → InCommand Holds m (entry.Reply a reply)
in_command Holds m a command reply runs h other also =
    let same : command ≡ other = cc in
    subst (λ (c : Command). Holds m a.0 c reply) same h

pub accepts-reply : (m : Model) (a : ApplianceNo) (command : Command) (reply : Reply) → a.0 < m.appliances → m.running a.0 ≡ Some command → Answers m a.0 command reply → Accepts m (entry.Reply a reply)
accepts-reply m a command reply known runs answers = record {
  known = known;
  idle = tt;
  running = subst (λ (o : Option Command). IsSome o) (sym runs) refl;
  listed = in_command IsListed m a command reply runs answers.listed;
  owner = in_command IsByOwner m a command reply runs answers.owner;
  value = in_command IsValue m a command reply runs answers.value;
  refusal = in_command IsFounded m a command reply runs answers.refusal;
  unrefused = in_command IsUnrefused m a command reply runs answers.unrefused;
}

-- a reply that is accepted answers the command that runs
pub answers-of : (m : Model) (a : ApplianceNo) (command : Command) (reply : Reply) → m.running a.0 ≡ Some command → Accepts m (entry.Reply a reply) → Answers m a.0 command reply
answers-of m a command reply runs accepts = record {
  listed = accepts.listed command runs;
  owner = accepts.owner command runs;
  value = accepts.value command runs;
  refusal = accepts.refusal command runs;
  unrefused = accepts.unrefused command runs;
}

or-left : (b c : Bool) → b ≡ true → (b || c) ≡ true
or-left true c e = refl
or-left false c e = absurd (let P : ⊥ = cc in P)

or-right : (b c : Bool) → c ≡ true → (b || c) ≡ true
or-right true c e = refl
or-right false c e = e

-- a command's own Ok
pub ok-answers : (m : Model) (a : ℕ) (command : Command) (reply : Reply) → is_own command reply ≡ true → number_of reply ≡ 0 →
    owns_all m a (of_owner command) ≡ true → HasValue m command reply → refusals m a command ≡ [] → Answers m a command reply
ok-answers m a command reply own ok owned value none = record {
  listed = or-left (is_own command reply) (is_in (number_of reply) (row command)) own;
  owner = λ e. owned;
  value = λ e. value;
  refusal = λ rests. absurd (let f : rests_on_fact 0 ≡ true = ap rests_on_fact (sym ok) ∙ rests in let P : ⊥ = cc in P);
  unrefused = λ e. none;
}

not-zero : (n : ℕ) → (n == 0) ≡ false → n ≡ 0 → ⊥
not-zero n e is = let f : (0 == 0) ≡ false = ap (λ k. k == 0) (sym is) ∙ e in let P : ⊥ = cc in P

-- a refusal that rests on no fact
pub other-answers : (m : Model) (a : ℕ) (command : Command) (reply : Reply) → is_in (number_of reply) (row command) ≡ true → (number_of reply == 0) ≡ false →
    rests_on_fact (number_of reply) ≡ false → Answers m a command reply
other-answers m a command reply listed refusal free = record {
  listed = or-right (is_own command reply) (is_in (number_of reply) (row command)) listed;
  owner = λ e. absurd (not-zero (number_of reply) refusal e);
  value = λ e. absurd (not-zero (number_of reply) refusal e);
  refusal = λ rests. absurd (let f : true ≡ false = sym rests ∙ free in let P : ⊥ = cc in P);
  unrefused = λ e. absurd (not-zero (number_of reply) refusal e);
}

-- a refusal that rests on a fact
pub founded-answers : (m : Model) (a : ℕ) (command : Command) (reply : Reply) → is_in (number_of reply) (row command) ≡ true → (number_of reply == 0) ≡ false →
    IsAmong reply (refusals m a command ++ of_claims command) → Answers m a command reply
founded-answers m a command reply listed refusal among = record {
  listed = or-right (is_own command reply) (is_in (number_of reply) (row command)) listed;
  owner = λ e. absurd (not-zero (number_of reply) refusal e);
  value = λ e. absurd (not-zero (number_of reply) refusal e);
  refusal = λ rests. among;
  unrefused = λ e. absurd (not-zero (number_of reply) refusal e);
}

-- more refusals allow the same
pub among-more : (reply : Reply) (some more : List Reply) → IsAmong reply some → IsAmong reply (some ++ more)
among-more reply [] more h = absurd h
among-more reply (other ∷ others) more (inl here) = inl here
among-more reply (other ∷ others) more (inr later) = inr (among-more reply others more later)

-- a reply among some is among them with more before
pub among-later : (reply : Reply) (some more : List Reply) → IsAmong reply more → IsAmong reply (some ++ more)
among-later reply [] more h = h
among-later reply (other ∷ others) more h = inr (among-later reply others more h)
