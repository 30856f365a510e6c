-- The rest of some work meets rules, however it is answered.
use Rattle.std.proofs.Common.{◌≡◌, ℕ, zero, suc, ◌^◌, ◌≤◌, ◌<◌, List, [], ◌∷◌, length, Some, refl, subst, arith, inl, inr}
use Rattle.std.proofs.lemmas.Bool.Decides.{leb_tells}
use Rattle.plx_base.specs.declared.write_kind.WriteKind.{WriteKind}
use Rattle.plx_disk.specs.declared.ask.Ask.{Ask}
use Rattle.plx_disk.specs.declared.ask.Ask.TheVariants as ask
use Rattle.plx_disk.specs.declared.ask.Answer.{Answer}
use Rattle.plx_disk.specs.declared.ask.Answer.TheVariants as answer
use Rattle.plx_rules.specs.Boot.{Fits}
use Rattle.plx_rules.specs.Process.{Process, Ends, ReadThen, WriteThen, ClockThen, UntilThen, answered, standing, bytes_out}
use Rattle.law_run.specs.CommandLogs.{Exchange}

abbrev pub exchange : Ask → List ℕ → Answer → Exchange
exchange ask bytes answer = record { ask = ask; bytes = bytes; answer = answer }

-- `May` says which ask is allowed after these exchanges, and `Shows` what they show at an end
module _ {E : Type 0} (May : List Exchange → Ask → List ℕ → Type 0) (Shows : List Exchange → E → Type 0) where
  -- after these exchanges, with so many answers left, each ask of the rest is allowed and each of its ends shows its work
  abbrev pub Meets : List Exchange → Process E → ℕ → Type 0
  Meets done (Ends end) n = Shows done end
  Meets done (ReadThen block rest fault) zero = ⊥
  Meets done (ReadThen block rest fault) (suc n) =
      May done (ask.Read (record { 0 = block })) []
      × ((bytes : List ℕ) → length bytes ≡ 4096 → Meets (exchange (ask.Read (record { 0 = block })) [] (answer.Bytes bytes) ∷ done) (rest bytes) n)
      × Meets (exchange (ask.Read (record { 0 = block })) [] answer.Fault ∷ done) fault n
  Meets done (WriteThen kind block bytes guard then_done fault missed) zero = ⊥
  Meets done (WriteThen kind block bytes guard then_done fault missed) (suc n) =
      May done (ask.Write kind (record { 0 = block }) guard) bytes
      × Meets (exchange (ask.Write kind (record { 0 = block }) guard) bytes answer.Done ∷ done) then_done n
      × Meets (exchange (ask.Write kind (record { 0 = block }) guard) bytes answer.Fault ∷ done) fault n
      × ((reading : ℕ) → guard < reading → reading < 2 ^ 48 → Meets (exchange (ask.Write kind (record { 0 = block }) guard) bytes (answer.Missed reading) ∷ done) (missed reading) n)
  Meets done (ClockThen rest) zero = ⊥
  Meets done (ClockThen rest) (suc n) =
      May done ask.Clock [] × ((reading : ℕ) → reading < 2 ^ 48 → Meets (exchange ask.Clock [] (answer.Reading reading) ∷ done) (rest reading) n)
  Meets done (UntilThen from rest) zero = ⊥
  Meets done (UntilThen from rest) (suc n) =
      May done (ask.Until from) [] × ((reading : ℕ) → from ≤ reading → reading < 2 ^ 48 → Meets (exchange (ask.Until from) [] (answer.Reading reading) ∷ done) (rest reading) n)

  -- what is met with so many answers left is met with one more
  pub meets-more : (process : Process E) (done : List Exchange) (n : ℕ) → Meets done process n → Meets done process (suc n)
  meets-more (Ends end) done n meets = meets
  meets-more (ReadThen block rest fault) done zero meets = absurd meets
  meets-more (ReadThen block rest fault) done (suc n) meets = (meets.0, λ bytes long. meets-more (rest bytes) _ n (meets.1 bytes long), meets-more fault _ n meets.2)
  meets-more (WriteThen kind block bytes guard then_done fault missed) done zero meets = absurd meets
  meets-more (WriteThen kind block bytes guard then_done fault missed) done (suc n) meets =
      (meets.0, meets-more then_done _ n meets.1, meets-more fault _ n meets.2, λ reading past small. meets-more (missed reading) _ n (meets.3 reading past small))
  meets-more (ClockThen rest) done zero meets = absurd meets
  meets-more (ClockThen rest) done (suc n) meets = (meets.0, λ reading small. meets-more (rest reading) _ n (meets.1 reading small))
  meets-more (UntilThen from rest) done zero meets = absurd meets
  meets-more (UntilThen from rest) done (suc n) meets = (meets.0, λ reading past small. meets-more (rest reading) _ n (meets.1 reading past small))

  pub meets-within : (process : Process E) (done : List Exchange) (n most : ℕ) → n ≤ most → Meets done process n → Meets done process most
  meets-within process done n zero below meets = let same : n ≡ 0 = omega (arith, below) in subst (λ m. Meets done process m) same meets
  meets-within process done n (suc most) below meets = elim (leb_tells n most) [
    | inl less ↦ meets-more process done most (meets-within process done n most less.1 meets)
    | inr all ↦ (let same : n ≡ suc most = omega (arith, below, all.1) in subst (λ m. Meets done process m) same meets)
  ]

  -- the ask that stands is allowed, and what follows a fitting answer to it meets the rules with one answer fewer
  pub record MeetsNext (done : List Exchange) (process : Process E) (a : Ask) (n : ℕ) : Type 0 where
    pub allowed : May done a (bytes_out process)
    pub left : ℕ
    pub fewer : n ≡ suc left
    pub follows : (x : Answer) → Fits a x → Meets (exchange a (bytes_out process) x ∷ done) (answered process x) left

  on-standing : (done : List Exchange) (process : Process E) (a b : Ask) (n : ℕ) → Some a ≡ Some b → MeetsNext done process a n → MeetsNext done process b n
  on-standing done process a b n e answers = let same : a ≡ b = cc in subst (λ (c : Ask). MeetsNext done process c n) same answers

  after-read : (done : List Exchange) (block : ℕ) (rest : List ℕ → Process E) (fault : Process E) (n : ℕ) → Meets done (ReadThen block rest fault) (suc n) → (x : Answer) →
      Fits (ask.Read (record { 0 = block })) x → Meets (exchange (ask.Read (record { 0 = block })) [] x ∷ done) (answered (ReadThen block rest fault) x) n
  after-read done block rest fault n meets (answer.Bytes bytes) fits = meets.1 bytes fits
  after-read done block rest fault n meets answer.Fault fits = meets.2
  after-read done block rest fault n meets x fits = absurd fits

  after-write : (done : List Exchange) (kind : WriteKind) (block : ℕ) (bytes : List ℕ) (guard : ℕ) (then_done fault : Process E) (missed : ℕ → Process E) (n : ℕ) →
      Meets done (WriteThen kind block bytes guard then_done fault missed) (suc n) → (x : Answer) → Fits (ask.Write kind (record { 0 = block }) guard) x →
      Meets (exchange (ask.Write kind (record { 0 = block }) guard) bytes x ∷ done) (answered (WriteThen kind block bytes guard then_done fault missed) x) n
  after-write done kind block bytes guard then_done fault missed n meets answer.Done fits = meets.1
  after-write done kind block bytes guard then_done fault missed n meets answer.Fault fits = meets.2
  after-write done kind block bytes guard then_done fault missed n meets (answer.Missed reading) fits = meets.3 reading fits.0 fits.1
  after-write done kind block bytes guard then_done fault missed n meets x fits = absurd fits

  after-clock : (done : List Exchange) (rest : ℕ → Process E) (n : ℕ) → Meets done (ClockThen rest) (suc n) → (x : Answer) → Fits ask.Clock x →
      Meets (exchange ask.Clock [] x ∷ done) (answered (ClockThen rest) x) n
  after-clock done rest n meets (answer.Reading reading) fits = meets.1 reading fits
  after-clock done rest n meets x fits = absurd fits

  after-until : (done : List Exchange) (from : ℕ) (rest : ℕ → Process E) (n : ℕ) → Meets done (UntilThen from rest) (suc n) → (x : Answer) → Fits (ask.Until from) x →
      Meets (exchange (ask.Until from) [] x ∷ done) (answered (UntilThen from rest) x) n
  after-until done from rest n meets (answer.Reading reading) fits = meets.1 reading fits.0 fits.1
  after-until done from rest n meets x fits = absurd fits

  pub meets-next : (process : Process E) (done : List Exchange) (a : Ask) (n : ℕ) → Meets done process n → standing process ≡ Some a → MeetsNext done process a n
  meets-next (Ends end) done a n meets stands = absurd (let P : ⊥ = cc in P)
  meets-next (ReadThen block rest fault) done a zero meets stands = absurd meets
  meets-next (ReadThen block rest fault) done a (suc n) meets stands =
      on-standing done (ReadThen block rest fault) (ask.Read (record { 0 = block })) a (suc n) stands
      (record { allowed = meets.0; left = n; fewer = refl; follows = after-read done block rest fault n meets })
  meets-next (WriteThen kind block bytes guard then_done fault missed) done a zero meets stands = absurd meets
  meets-next (WriteThen kind block bytes guard then_done fault missed) done a (suc n) meets stands =
      on-standing done (WriteThen kind block bytes guard then_done fault missed) (ask.Write kind (record { 0 = block }) guard) a (suc n) stands
      (record { allowed = meets.0; left = n; fewer = refl; follows = after-write done kind block bytes guard then_done fault missed n meets })
  meets-next (ClockThen rest) done a zero meets stands = absurd meets
  meets-next (ClockThen rest) done a (suc n) meets stands =
      on-standing done (ClockThen rest) ask.Clock a (suc n) stands (record { allowed = meets.0; left = n; fewer = refl; follows = after-clock done rest n meets })
  meets-next (UntilThen from rest) done a zero meets stands = absurd meets
  meets-next (UntilThen from rest) done a (suc n) meets stands =
      on-standing done (UntilThen from rest) (ask.Until from) a (suc n) stands (record { allowed = meets.0; left = n; fewer = refl; follows = after-until done from rest n meets })
