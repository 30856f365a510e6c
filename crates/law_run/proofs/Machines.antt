-- Work that meets rules keeps them.
use Rattle.std.proofs.Common.{◌≡◌, ℕ, ◌+◌, List, [], ◌∷◌, ◌++◌, length, sym, subst, arith}
use Rattle.plx_disk.specs.declared.ask.Ask.{Ask}
use Rattle.plx_disk.specs.declared.ask.Answer.{Answer}
use Rattle.plx_rules.specs.Process.{Process, answered, bytes_out}
use Rattle.plx_rules.specs.Settings.{Setting}
use Rattle.law_run.specs.AllowedAsks.{MayAsk}
use Rattle.law_run.specs.CommandLogs.{Exchange, CommandLog, with_exchanges}
use Rattle.law_run.specs.Machines.{HasCome, MovesOn, begins, goes_on, Keeps}
use Rattle.law_run.specs.Rules.{AllAllowed}
use Rattle.law_run.proofs.Meets.{Meets, meets-next, exchange}

-- a machine that begins has no exchanges yet
pub comes-first : {E : Type 0} (start rest : Process E) → rest ≡ start → HasCome start [] rest
comes-first start rest is = subst (λ (p : Process _). HasCome start [] p) (sym is) begins

-- a machine whose rest is answered moves on
pub moves-on : {E : Type 0} (old : Process E) (x : Answer) (new : Process E) → new ≡ answered old x → MovesOn old x new
moves-on old x new is start own a come stands fits = subst (λ (p : Process _). HasCome start (exchange a (bytes_out old) x ∷ own) p) (sym is) (goes_on a x come stands fits)

module _ {E : Type 0} (s : Setting) (log : CommandLog) (Place : Ask → Type 0) (Shows : CommandLog → E → Type 0) where
  abbrev MayWork : List Exchange → Ask → List ℕ → Type 0
  MayWork done a bytes = MayAsk s (with_exchanges log done) a bytes × Place a

  abbrev ShowsWork : List Exchange → E → Type 0
  ShowsWork done end = Shows (with_exchanges log done) end

  -- after these exchanges of the command, with so many answers left, the rest of some work keeps the rules
  abbrev pub MeetsWork : List Exchange → Process E → ℕ → Type 0
  MeetsWork done rest n = Meets MayWork ShowsWork done rest n

  abbrev Allowed : List Exchange → Type 0
  Allowed done = AllAllowed s log.before log.command done

  -- what holds of some work at its start holds of the rest of it after each list of exchanges by which that has come
  meets-come : (start : Process E) (n : ℕ) → MeetsWork log.exchanges start n → {own : List Exchange} {rest : Process E} → HasCome start own rest →
      (left : ℕ) × (length own + left ≡ n) × (Allowed log.exchanges → Allowed (own ++ log.exchanges)) × MeetsWork (own ++ log.exchanges) rest left
  meets-come start n meets begins = (n, omega arith, λ older. older, meets)
  meets-come start n meets (goes_on {own = own} {rest = rest} a x come stands fits) =
      let before = meets-come start n meets come in
      let next = meets-next MayWork ShowsWork rest (own ++ log.exchanges) a before.0 before.3 stands in
      (next.left, (let sum = before.1 in let fewer = next.fewer in omega arith), λ older. (next.allowed.0, before.2 older), next.follows x fits)

  -- so each ask is allowed, there are so many at most, and each end shows its cause
  pub meets-keeps : (start : Process E) (n : ℕ) → MeetsWork log.exchanges start n → Keeps s log Place n Shows start
  meets-keeps start n meets = record {
    asks = λ {own} {rest} come a stands. (
        let at = meets-come start n meets come in
        let next = meets-next MayWork ShowsWork rest (own ++ log.exchanges) a at.0 at.3 stands in
        record { allowed = next.allowed.0; place = next.allowed.1; bounded = (let sum = at.1 in let fewer = next.fewer in omega arith) });
    ends = λ {own} {rest} come end is. (
        let at = meets-come start n meets come in
        record {
          allowed = at.2;
          bounded = (let sum = at.1 in omega arith);
          shown = subst (λ (p : Process E). MeetsWork (own ++ log.exchanges) p at.0) is at.3;
        });
  }
