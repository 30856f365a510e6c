-- The test of a label.
use Rattle.std.proofs.Common.{◌≡◌, ℕ, Bool, true, false, List, [], ◌∷◌, length, refl, ap, sym, ◌∙◌, arith}
use Rattle.std.proofs.lemmas.Bool.Decides.{nat_tests}
use Rattle.std.proofs.lemmas.List.Sums.{AllPass-from_list_all, list_all-from_AllPass}
use Rattle.std.proofs.lemmas.Slice.Eq.{bytes_eq-Decides}
use Rattle.std.specs.List.{list_all}
use Rattle.std.specs.Prelude.{◌&&◌, not, nat_le}
use Rattle.std.specs.Str.{bytes_eq}
use Rattle.plx_base.specs.Labels.{IsLabel, is_label, is_label_byte}
use Rattle.plx_base.proofs.Tests.{all_three, not-true}

first : (a b c : Bool) → (a && (b && not c)) ≡ true → a ≡ true
first true b c h = refl
first false b c h = cc

second : (a b c : Bool) → (a && (b && not c)) ≡ true → b ≡ true
second true true c h = refl
second true false c h = cc
second false b c h = cc

third : (a b c : Bool) → (a && (b && not c)) ≡ true → c ≡ false
third true true true h = cc
third true true false h = refl
third true false c h = cc
third false b c h = cc

-- a label passes the test
pub is_label-true : (bytes : List ℕ) → IsLabel bytes → is_label bytes ≡ true
is_label-true bytes h =
    let short = h.short in
    all_three (nat_le (length bytes) 32) (list_all is_label_byte bytes) (not (bytes_eq bytes (45 ∷ []))) (grind (arith, nat_tests))
    (list_all-from_AllPass is_label_byte bytes h.printable)
    (ap not (not-true (bytes_eq bytes (45 ∷ [])) (λ e. h.no_hyphen ((bytes_eq-Decides bytes (45 ∷ [])).0 e))))

-- what passes the test is a label
pub true-is_label : (bytes : List ℕ) → is_label bytes ≡ true → IsLabel bytes
true-is_label bytes h =
    let a = first (nat_le (length bytes) 32) (list_all is_label_byte bytes) (bytes_eq bytes (45 ∷ [])) h in
    let b = second (nat_le (length bytes) 32) (list_all is_label_byte bytes) (bytes_eq bytes (45 ∷ [])) h in
    let c = third (nat_le (length bytes) 32) (list_all is_label_byte bytes) (bytes_eq bytes (45 ∷ [])) h in
    record {
      short = grind (arith, nat_tests);
      printable = AllPass-from_list_all is_label_byte bytes b;
      no_hyphen = λ e. let d = (bytes_eq-Decides bytes (45 ∷ [])).1 e in absurd (let bad : true ≡ false = sym d ∙ c in cc);
    }
