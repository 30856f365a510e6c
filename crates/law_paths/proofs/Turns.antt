-- A link changes the pointers on one path, from its place down, and no other pointer.
use Rattle.std.proofs.Common.{ℕ, ◌+◌, ◌≤◌, ◌≡◌, ◌≢◌, ◌⊎◌, inl, inr, true, false, List, [], ◌∷◌, length, nat_eq, arith, refl, sym, ◌∙◌, ap, subst}
use Rattle.std.proofs.lemmas.Bool.Decides.{eqb_tells}
use Rattle.plx_radix.specs.Paths.{Pointer, Hole, To, Trees, unmarked, child, end}
use Rattle.law_paths.specs.Links.{down, Copies, LinkChanges}

-- the path ds of r leads to the fresh block with the digits rest to go
pub record OnChain (w v : Trees) (r : ℕ) (fresh : ℕ → ℕ) (post at ds : List ℕ) : Type 0 where
  pub rest : List ℕ
  pub shorter : length rest ≤ length post
  pub path : down rest ds ≡ down post at
  pub copies : Copies w r fresh rest ds
  pub unowned : (b : ℕ) → end w r ds ≢ To b true
  pub new : end v r ds ≡ To (fresh (length rest)) true

abbrev pub Turn : Trees → Trees → ℕ → (ℕ → ℕ) → List ℕ → List ℕ → ℕ → List ℕ → Type 0
Turn w v r fresh post at q ds = ((q ≡ r) × OnChain w v r fresh post at ds) ⊎ (end v q ds ≡ end w q ds)

pub unowned-child : (f : ℕ → ℕ → Pointer) (p : Pointer) (d : ℕ) → ((b : ℕ) → p ≢ To b true) → (b : ℕ) → child f p d ≢ To b true
unowned-child f Hole d h b e = cc
unowned-child f (To a true) d h b e = h a refl
unowned-child f (To a false) d h b e = go (f a d) e
  where
    go : (p : Pointer) → unmarked p ≡ To b true → ⊥
    go Hole e = cc
    go (To x m) e = cc

pub down-length : (post ds : List ℕ) → length (down post ds) ≡ length post + length ds
down-length [] ds = omega arith
down-length (d ∷ post) ds = down-length post (d ∷ ds) ∙ omega arith

-- the link's own place
pub chain-first : (w v : Trees) (r : ℕ) (fresh : ℕ → ℕ) (post at ds : List ℕ) → LinkChanges w v r fresh post at → ds ≡ at → end v r ds ≡ To (fresh (length post)) true → OnChain w v r fresh post at ds
chain-first w v r fresh post at ds c e new = record { rest = post; shorter = omega arith; path = ap (down post) e; copies = rw e c.can.copies; unowned = rw e c.can.unowned; new = new }

-- below a place of the chain
pub chain-below : (w v : Trees) (r : ℕ) (fresh : ℕ → ℕ) (post at ds rest : List ℕ) (d : ℕ) → LinkChanges w v r fresh post at → length ds ≤ 2
    → length rest ≤ length post → down rest ds ≡ down post at → Copies w r fresh rest ds → ((b : ℕ) → end w r ds ≢ To b true) → end v r ds ≡ To (fresh (length rest)) true
    → OnChain w v r fresh post at (d ∷ ds) ⊎ (end v r (d ∷ ds) ≡ end w r (d ∷ ds))
chain-below w v r fresh post at ds [] d c le shorter path copies un new =
    absurd (omega (arith, ap length path, down-length post at, c.can.whole))
chain-below w v r fresh post at ds (x ∷ rest) d c le shorter path copies un new = go (eqb_tells d x)
  where
    there : end v r (d ∷ ds) ≡ w.node (fresh (length (x ∷ rest))) d
    there = rw new (c.chain (length (x ∷ rest)) d shorter)

    go : ((nat_eq d x ≡ true) × (d ≡ x)) ⊎ ((nat_eq d x ≡ false) × (d ≢ x)) → OnChain w v r fresh post at (d ∷ ds) ⊎ (end v r (d ∷ ds) ≡ end w r (d ∷ ds))
    go (inl h) = inl (record { rest = rest; shorter = omega arith; path = rw h.1 path; copies = rw h.1 copies.2; unowned = unowned-child w.node (end w r ds) d un; new = there ∙ rw h.1 copies.0 })
    go (inr h) = inr (there ∙ copies.1 d h.1)

pub turns : (w v : Trees) (r : ℕ) (fresh : ℕ → ℕ) (post at : List ℕ) → LinkChanges w v r fresh post at → (q : ℕ) (ds : List ℕ) → length ds ≤ 3 → Turn w v r fresh post at q ds
turns w v r fresh post at c q [] le = go (c.roots q)
  where
    go : ((q ≡ r) × ([] ≡ at) × (v.root r ≡ To (fresh (length post)) true)) ⊎ (v.root q ≡ w.root q) → Turn w v r fresh post at q []
    go (inl h) = inl (h.0, chain-first w v r fresh post at [] c h.1 h.2)
    go (inr h) = inr h
turns w v r fresh post at c q (d ∷ ds) le = go (turns w v r fresh post at c q ds (omega arith))
  where
    on : q ≡ r → OnChain w v r fresh post at (d ∷ ds) ⊎ (end v r (d ∷ ds) ≡ end w r (d ∷ ds)) → Turn w v r fresh post at q (d ∷ ds)
    on e (inl h) = inl (e, h)
    on e (inr h) = let P : ℕ → Type 0 = λ x. end v x (d ∷ ds) ≡ end w x (d ∷ ds) in inr (subst P (sym e) h)

    off : ((q ≡ r) × (d ∷ ds ≡ at) × (end v r (d ∷ ds) ≡ To (fresh (length post)) true)) ⊎ (end v q (d ∷ ds) ≡ end w q (d ∷ ds)) → Turn w v r fresh post at q (d ∷ ds)
    off (inl h) = inl (h.0, chain-first w v r fresh post at (d ∷ ds) c h.1 h.2)
    off (inr h) = inr h

    go : Turn w v r fresh post at q ds → Turn w v r fresh post at q (d ∷ ds)
    go (inl h) = on h.0 (chain-below w v r fresh post at ds h.1.rest d c (omega arith) h.1.shorter h.1.path h.1.copies h.1.unowned h.1.new)
    go (inr h) = off (c.entries q ds d (omega arith) h)
