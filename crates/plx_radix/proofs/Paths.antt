-- Paths by the bytes and by marks that are and-ed.
use Rattle.std.proofs.Common.{ℕ, ◌≡◌, Bool, true, false, List, [], ◌∷◌, refl, ◌∙◌, ap}
use Rattle.plx_radix.specs.Paths.{Pointer, Hole, To, Trees, unmarked, end}
use Rattle.plx_radix.specs.Paths.{path, AllMarked, WalksAgree, PathsAgree}

-- the path's pointer p and the and-ed one e, where all pointers so far carry the mark or not
pub data PathsFit (w : Trees) (r : ℕ) (ds : List ℕ) (p e : Pointer) : Type 0 where
  hole : p ≡ Hole → e ≡ Hole → PathsFit w r ds p e
  all : (b : ℕ) → p ≡ To b true → e ≡ To b true → AllMarked w r ds → PathsFit w r ds p e
  some : (b : ℕ) (m : Bool) → p ≡ To b m → e ≡ To b false → (AllMarked w r ds → ⊥) → PathsFit w r ds p e

fits-root : (w : Trees) (r : ℕ) (p : Pointer) → w.root r ≡ p → PathsFit w r [] (w.root r) (w.root r)
fits-root w r Hole h = hole h h
fits-root w r (To b true) h = all b h h (rw h refl)
fits-root w r (To b false) h = some b false h h (λ c. absurd (no (rw h at c)))
  where
    no : ◌≡◌ {A = Bool} false true → ⊥
    no e = cc

fits-next : (w : Trees) (r d : ℕ) (ds : List ℕ) (p e : Pointer) → path w r ds ≡ p → end w r ds ≡ e → PathsFit w r ds p e → PathsFit w r (d ∷ ds) (path w r (d ∷ ds)) (end w r (d ∷ ds))
fits-next w r d ds p e hp he (hole x y) = hole (rw (hp ∙ x) refl) (rw (he ∙ y) refl)
fits-next w r d ds p e hp he (all b x y a) = go (w.node b d) refl
  where
    at_path : path w r (d ∷ ds) ≡ w.node b d
    at_path = rw (hp ∙ x) refl

    at_end : end w r (d ∷ ds) ≡ w.node b d
    at_end = rw (he ∙ y) refl

    no : ◌≡◌ {A = Bool} false true → ⊥
    no e = cc

    go : (n : Pointer) → w.node b d ≡ n → PathsFit w r (d ∷ ds) (path w r (d ∷ ds)) (end w r (d ∷ ds))
    go Hole h = hole (at_path ∙ h) (at_end ∙ h)
    go (To c true) h = all c (at_path ∙ h) (at_end ∙ h) (a, rw (at_path ∙ h) refl)
    go (To c false) h = some c false (at_path ∙ h) (at_end ∙ h) (λ k. no (rw (at_path ∙ h) at (k.1)))
fits-next w r d ds p e hp he (some b m x y a) = go (w.node b d) refl
  where
    at_path : path w r (d ∷ ds) ≡ w.node b d
    at_path = rw (hp ∙ x) refl

    at_end : end w r (d ∷ ds) ≡ unmarked (w.node b d)
    at_end = rw (he ∙ y) refl

    go : (n : Pointer) → w.node b d ≡ n → PathsFit w r (d ∷ ds) (path w r (d ∷ ds)) (end w r (d ∷ ds))
    go Hole h = hole (at_path ∙ h) (at_end ∙ ap unmarked h)
    go (To c n) h = some c n (at_path ∙ h) (at_end ∙ ap unmarked h) (λ k. a k.0)

pub fits : (w : Trees) (r : ℕ) (ds : List ℕ) → PathsFit w r ds (path w r ds) (end w r ds)
fits w r [] = fits-root w r (w.root r) refl
fits w r (d ∷ ds) = fits-next w r d ds (path w r ds) (end w r ds) refl refl (fits w r ds)

agree : (w : Trees) (r : ℕ) (ds : List ℕ) (p e : Pointer) → path w r ds ≡ p → end w r ds ≡ e → PathsFit w r ds p e → WalksAgree w r ds
agree w r ds p e hp he (hole x y) = record {
  leads = λ b m h. absurd (let z = hp ∙ x in cc);
  comes = λ b m h. absurd (let z = he ∙ y in cc);
  marked = λ b h. absurd (let z = he ∙ y in cc);
  unmarked = λ b h a. absurd (let z = he ∙ y in cc);
}
agree w r ds p e hp he (all c x y a) = record {
  leads = λ b m h. (true, let z = hp ∙ x in let s : c ≡ b = cc in rw (← s) (he ∙ y));
  comes = λ b n h. (true, let z = he ∙ y in let s : c ≡ b = cc in rw (← s) (hp ∙ x));
  marked = λ b h. a;
  unmarked = λ b h k. absurd (let z = he ∙ y in cc);
}
agree w r ds p e hp he (some c m x y a) = record {
  leads = λ b n h. (false, let z = hp ∙ x in let s : c ≡ b = cc in rw (← s) (he ∙ y));
  comes = λ b n h. (m, let z = he ∙ y in let s : c ≡ b = cc in rw (← s) (hp ∙ x));
  marked = λ b h. absurd (let z = he ∙ y in cc);
  unmarked = λ b h k. a k;
}

pub paths_agree : PathsAgree
paths_agree w r ds = agree w r ds (path w r ds) (end w r ds) refl refl (fits w r ds)
