-- Work after work.
use Rattle.std.proofs.Common.{◌≡◌, ℕ, zero, suc, ◌+◌, List, arith}
use Rattle.plx_disk.specs.declared.ask.Ask.{Ask}
use Rattle.plx_rules.specs.Process.{Process, Ends, ReadThen, WriteThen, ClockThen, UntilThen}
use Rattle.plx_rules.specs.Processes.{followed_by}
use Rattle.law_run.specs.CommandLogs.{Exchange}
use Rattle.law_run.proofs.Meets.{Meets, meets-more}

-- so many answers and then so many
abbrev pub both_counts : ℕ → ℕ → ℕ
both_counts zero m = m
both_counts (suc n) m = suc (both_counts n m)

pub both-is : (n m : ℕ) → both_counts n m ≡ n + m
both-is zero m = omega arith
both-is (suc n) m = let e = both-is n m in omega arith

-- what is met with so many answers left is met with more
pub meets-both : {F : Type 0} (May : List Exchange → Ask → List ℕ → Type 0) (Shows : List Exchange → F → Type 0) (process : Process F) (done : List Exchange) (n m : ℕ) →
    Meets May Shows done process m → Meets May Shows done process (both_counts n m)
meets-both May Shows process done zero m meets = meets
meets-both May Shows process done (suc n) m meets = meets-more May Shows process done (both_counts n m) (meets-both May Shows process done n m meets)

-- work after work: the first meets the rules, and at each of its ends the second does from the exchanges there on
module _ {E F : Type 0} (May : List Exchange → Ask → List ℕ → Type 0) (Shows : List Exchange → F → Type 0) (next : E → Process F) (m : ℕ) where
  pub meets-then : (process : Process E) (done : List Exchange) (n : ℕ) → Meets May (λ after end. Meets May Shows after (next end) m) done process n →
      Meets May Shows done (followed_by process next) (both_counts n m)
  meets-then (Ends end) done n meets = meets-both May Shows (next end) done n m meets
  meets-then (ReadThen block rest fault) done zero meets = absurd meets
  meets-then (ReadThen block rest fault) done (suc n) meets = (meets.0, λ bytes long. meets-then (rest bytes) _ n (meets.1 bytes long), meets-then fault _ n meets.2)
  meets-then (WriteThen kind block bytes guard then_done fault missed) done zero meets = absurd meets
  meets-then (WriteThen kind block bytes guard then_done fault missed) done (suc n) meets =
      (meets.0, meets-then then_done _ n meets.1, meets-then fault _ n meets.2, λ reading past small. meets-then (missed reading) _ n (meets.3 reading past small))
  meets-then (ClockThen rest) done zero meets = absurd meets
  meets-then (ClockThen rest) done (suc n) meets = (meets.0, λ reading small. meets-then (rest reading) _ n (meets.1 reading small))
  meets-then (UntilThen from rest) done zero meets = absurd meets
  meets-then (UntilThen from rest) done (suc n) meets = (meets.0, λ reading past small. meets-then (rest reading) _ n (meets.1 reading past small))
