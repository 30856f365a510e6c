-- Changes of roots alone.
use Rattle.std.proofs.Common.{ℕ, ◌≤◌, ◌≡◌, ◌≢◌, ◌⊎◌, inl, inr, Bool, true, false, List, [], ◌∷◌, length, arith, refl, sym, ◌∙◌, ap, subst}
use Rattle.plx_radix.specs.Paths.{Pointer, Hole, To, Trees, unmarked, child, end}
use Rattle.law_paths.specs.Roots.{RootAfter, RootsTurn, RootsKeep, RootsReach}
use Rattle.law_paths.proofs.Turns.{unowned-child}
use Rattle.law_paths.proofs.Kept.{child-same}

-- the pointer below an unmarked one is the unmarked pointer below
pub unmarked-child : (f : ℕ → ℕ → Pointer) (p : Pointer) (d : ℕ) → child f (unmarked p) d ≡ unmarked (child f p d)
unmarked-child f Hole d = refl
unmarked-child f (To b true) d = refl
unmarked-child f (To b false) d = twice (f b d)
  where
    twice : (p : Pointer) → unmarked p ≡ unmarked (unmarked p)
    twice Hole = refl
    twice (To b m) = refl

pub to-unmarked : (p : Pointer) (b : ℕ) (m : Bool) → unmarked p ≡ To b m → (n : Bool) × (p ≡ To b n) × (m ≡ false)
to-unmarked Hole b m e = absurd (cc)
to-unmarked (To a n) b m e = let x : a ≡ b = cc in let y : m ≡ false = cc in (n, ap (λ z. To z n) x, y)

-- a child of an unmarked pointer looks at the same node
node-below : (w v : Trees) (s : ℕ) (ds : List ℕ) (d : ℕ) → RootsTurn w v → length ds ≤ 2 → child v.node (end w s ds) d ≡ child w.node (end w s ds) d
node-below w v s ds d t le = child-same v.node w.node (end w s ds) d (λ b m h. t.nodes s ds b m d le h)

pub ends-same : (w v : Trees) (q : ℕ) → RootsTurn w v → v.root q ≡ w.root q → (ds : List ℕ) → length ds ≤ 3 → end v q ds ≡ end w q ds
ends-same w v q t e [] le = e
ends-same w v q t e (d ∷ ds) le = rw (ends-same w v q t e ds (omega arith)) (node-below w v q ds d t (omega arith))

pub ends-copy : (w v : Trees) (q s : ℕ) → RootsTurn w v → v.root q ≡ unmarked (w.root s) → (ds : List ℕ) → length ds ≤ 3 → end v q ds ≡ unmarked (end w s ds)
ends-copy w v q s t e [] le = e
ends-copy w v q s t e (d ∷ ds) le = rw (ends-copy w v q s t e ds (omega arith), unmarked-child v.node (end w s ds) d, node-below w v s ds d t (omega arith)) refl

pub ends-hole : (v : Trees) (q : ℕ) → v.root q ≡ Hole → (ds : List ℕ) → end v q ds ≡ Hole
ends-hole v q e [] = e
ends-hole v q e (d ∷ ds) = ap (λ p. child v.node p d) (ends-hole v q e ds)

pub unowned-path : (v : Trees) (r : ℕ) → ((b : ℕ) → v.root r ≢ To b true) → (ds : List ℕ) (b : ℕ) → end v r ds ≢ To b true
unowned-path v r h [] b = h b
unowned-path v r h (d ∷ ds) b = unowned-child v.node (end v r ds) d (unowned-path v r h ds) b

-- where a path after the change came from: the same path, or that of a root that has no mark from then on
pub record CameFrom (w v : Trees) (q : ℕ) (ds : List ℕ) (b : ℕ) (m : Bool) : Type 0 where
  pub root : ℕ
  pub mark : Bool
  pub was : end w root ds ≡ To b mark
  pub own : ((root ≡ q) × (mark ≡ m)) ⊎ ((m ≡ false) × ((c : ℕ) → v.root root ≢ To c true))

pub came-from : (w v : Trees) → RootsTurn w v → (q : ℕ) (ds : List ℕ) (b : ℕ) (m : Bool) → length ds ≤ 3 → end v q ds ≡ To b m → CameFrom w v q ds b m
came-from w v t q ds b m le h = go (t.each q)
  where
    go : RootAfter w v q → CameFrom w v q ds b m
    go (inl e) = record { root = q; mark = m; was = sym (ends-same w v q t e ds le) ∙ h; own = inl (refl, refl) }
    go (inr (inl e)) = let x = to-unmarked (end w e.0 ds) b m (sym (ends-copy w v q e.0 t e.1 ds le) ∙ h) in record { root = e.0; mark = x.0; was = x.1; own = inr (x.2, e.2) }
    go (inr (inr e)) = absurd (let x = sym (ends-hole v q e ds) ∙ h in cc)

pub roots-reach : RootsReach
roots-reach w v t q ds b m le h = let x = came-from w v t q ds b m le h in (x.root, x.mark, x.was)

pub roots-keep : RootsKeep
roots-keep w v s t = record { single = single; level = λ r q ds es b m n ld le h k. let x = came-from w v t r ds b m ld h in let y = came-from w v t q es b n le k in s.level x.root y.root ds es b x.mark y.mark ld le x.was y.was }
  where
    owned : (r : ℕ) (ds : List ℕ) (b : ℕ) → CameFrom w v r ds b true → end w r ds ≡ To b true
    owned r ds b x = go x.own
      where
        go : ((x.root ≡ r) × (x.mark ≡ true)) ⊎ ((true ≡ false) × ((c : ℕ) → v.root x.root ≢ To c true)) → end w r ds ≡ To b true
        go (inl e) = let P : ℕ → Type 0 = λ z. end w z ds ≡ To b true in subst P e.0 (let Q : Bool → Type 0 = λ z. end w x.root ds ≡ To b z in subst Q e.1 x.was)
        go (inr e) = absurd (let z : true ≡ false = e.0 in cc)

    single : (r q : ℕ) (ds es : List ℕ) (b : ℕ) (m : Bool) → length ds ≤ 3 → length es ≤ 3 → end v r ds ≡ To b true → end v q es ≡ To b m → (q ≡ r) × (es ≡ ds)
    single r q ds es b m ld le h k = go y.own
      where
        x : CameFrom w v r ds b true
        x = came-from w v t r ds b true ld h

        y : CameFrom w v q es b m
        y = came-from w v t q es b m le k

        one : (y.root ≡ r) × (es ≡ ds)
        one = s.single r y.root ds es b y.mark ld le (owned r ds b x) y.was

        go : ((y.root ≡ q) × (y.mark ≡ m)) ⊎ ((m ≡ false) × ((c : ℕ) → v.root y.root ≢ To c true)) → (q ≡ r) × (es ≡ ds)
        go (inl e) = (sym e.0 ∙ one.0, one.1)
        go (inr e) = absurd (unowned-path v y.root e.1 ds b (let P : ℕ → Type 0 = λ z. end v z ds ≡ To b true in subst P (sym one.0) h))
