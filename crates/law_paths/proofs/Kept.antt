-- What changes of blocks do to the paths.
use Rattle.std.proofs.Common.{ℕ, ◌<◌, ◌≤◌, ◌≡◌, ◌≢◌, ◌⊎◌, inl, inr, Bool, true, false, List, [], ◌∷◌, length, nat_eq, arith, refl, sym, ◌∙◌, ap, subst}
use Rattle.std.proofs.lemmas.Bool.Decides.{eqb_tells}
use Rattle.plx_radix.specs.Paths.{Pointer, Hole, To, Trees, unmarked, child, end, Unreachable, Shared}
use Rattle.law_paths.specs.Links.{down, Copies, CanLink, SamePaths, NodeLinked, RootLinked, LinkChanges, LinksKeep}
use Rattle.law_paths.proofs.Turns.{Turn, turns, down-length}

-- nodes that agree below p
pub child-same : (f g : ℕ → ℕ → Pointer) (p : Pointer) (d : ℕ) → ((b : ℕ) (m : Bool) → p ≡ To b m → f b d ≡ g b d) → child f p d ≡ child g p d
child-same f g Hole d h = refl
child-same f g (To b true) d h = h b true refl
child-same f g (To b false) d h = ap unmarked (h b false refl)

-- a change of blocks that no node of a path stands in changes no path
pub same-paths : (w v : Trees) → ((q : ℕ) → v.root q ≡ w.root q)
    → ((r : ℕ) (ds : List ℕ) (b : ℕ) (m : Bool) (d : ℕ) → length ds ≤ 2 → end w r ds ≡ To b m → v.node b d ≡ w.node b d) → SamePaths w v
same-paths w v roots same r [] le = roots r
same-paths w v roots same r (d ∷ ds) le =
    rw (same-paths w v roots same r ds (omega arith)) (child-same v.node w.node (end w r ds) d (λ b m e. same r ds b m d (omega arith) e))

-- the nodes of all blocks but one stay, and that one is no node of a path
pub same-but : (w v : Trees) (b : ℕ) → ((q : ℕ) → v.root q ≡ w.root q) → ((c d : ℕ) → c ≢ b → v.node c d ≡ w.node c d)
    → ((r : ℕ) (ds : List ℕ) (m : Bool) → length ds ≤ 2 → end w r ds ≢ To b m) → SamePaths w v
same-but w v b roots others off = same-paths w v roots (λ r ds c m d le h. others c d (λ e. off r ds m le (rw e at h)))

-- the block at the end of a marked path of three digits is no node of a path
pub leaf-off : (w : Trees) (r : ℕ) (at : List ℕ) (b : ℕ) → Shared w → length at ≡ 3 → end w r at ≡ To b true → (q : ℕ) (ds : List ℕ) (m : Bool) → length ds ≤ 2 → end w q ds ≢ To b m
leaf-off w r at b s three marked q ds m l h = let e = (s.single r q at ds b m (omega arith) (omega arith) marked h).1 in omega (arith, ap length e)

pub down-same : (xs ys ds es : List ℕ) → length xs ≡ length ys → down xs ds ≡ down ys es → ds ≡ es
down-same [] [] ds es e h = h
down-same (x ∷ xs) [] ds es e h = absurd (omega arith)
down-same [] (y ∷ ys) ds es e h = absurd (omega arith)
down-same (x ∷ xs) (y ∷ ys) ds es e h = let k : x ∷ ds ≡ y ∷ es = down-same xs ys (x ∷ ds) (y ∷ es) (omega arith) h in cc

pub block-is : (p : Pointer) (a b : ℕ) (m n : Bool) → p ≡ To a m → p ≡ To b n → a ≡ b
block-is p a b m n e f = cc

pub at-root : (v : Trees) (q r : ℕ) (ds : List ℕ) (p : Pointer) → q ≡ r → end v r ds ≡ p → end v q ds ≡ p
at-root v q r ds p e h = let P : ℕ → Type 0 = λ x. end v x ds ≡ p in subst P (sym e) h

-- two paths of v that meet were two paths of w that meet, or are one
pub paths-meet : (w v : Trees) (r : ℕ) (fresh : ℕ → ℕ) (post at : List ℕ) → CanLink w r fresh post at → (p q : ℕ) (ds es : List ℕ) (b : ℕ) (m n : Bool)
    → length ds ≤ 3 → length es ≤ 3 → Turn w v r fresh post at p ds → Turn w v r fresh post at q es → end v p ds ≡ To b m → end v q es ≡ To b n
    → ((q ≡ p) × (es ≡ ds)) ⊎ ((end w p ds ≡ To b m) × (end w q es ≡ To b n))
paths-meet w v r fresh post at c p q ds es b m n ld le (inr x) (inr y) h k = inr (sym x ∙ h, sym y ∙ k)
paths-meet w v r fresh post at c p q ds es b m n ld le (inl x) (inr y) h k =
    let e : fresh (length x.1.rest) ≡ b = block-is (end v p ds) (fresh (length x.1.rest)) b true m (at-root v p r ds _ x.0 x.1.new) h in
    absurd (c.unreachable (length x.1.rest) x.1.shorter q es n le (rw e (sym y ∙ k)))
paths-meet w v r fresh post at c p q ds es b m n ld le (inr x) (inl y) h k =
    let e : fresh (length y.1.rest) ≡ b = block-is (end v q es) (fresh (length y.1.rest)) b true n (at-root v q r es _ y.0 y.1.new) k in
    absurd (c.unreachable (length y.1.rest) y.1.shorter p ds m ld (rw e (sym x ∙ h)))
paths-meet w v r fresh post at c p q ds es b m n ld le (inl x) (inl y) h k =
    let e : fresh (length x.1.rest) ≡ b = block-is (end v p ds) (fresh (length x.1.rest)) b true m (at-root v p r ds _ x.0 x.1.new) h in
    let f : fresh (length y.1.rest) ≡ b = block-is (end v q es) (fresh (length y.1.rest)) b true n (at-root v q r es _ y.0 y.1.new) k in
    let g = c.apart (length x.1.rest) (length y.1.rest) x.1.shorter y.1.shorter (e ∙ sym f) in
    inl (y.0 ∙ sym x.0, sym (down-same x.1.rest y.1.rest ds es g (x.1.path ∙ sym y.1.path)))

pub link-kept : (w v : Trees) (r : ℕ) (fresh : ℕ → ℕ) (post at : List ℕ) → Shared w → LinkChanges w v r fresh post at → Shared v
link-kept w v r fresh post at i c = record { single = single; level = level }
  where
    meets : (p q : ℕ) (ds es : List ℕ) (b : ℕ) (m n : Bool) → length ds ≤ 3 → length es ≤ 3 → end v p ds ≡ To b m → end v q es ≡ To b n
        → ((q ≡ p) × (es ≡ ds)) ⊎ ((end w p ds ≡ To b m) × (end w q es ≡ To b n))
    meets p q ds es b m n ld le h k = paths-meet w v r fresh post at c.can p q ds es b m n ld le (turns w v r fresh post at c p ds ld) (turns w v r fresh post at c q es le) h k

    single : (p q : ℕ) (ds es : List ℕ) (b : ℕ) (m : Bool) → length ds ≤ 3 → length es ≤ 3 → end v p ds ≡ To b true → end v q es ≡ To b m → (q ≡ p) × (es ≡ ds)
    single p q ds es b m ld le h k = elim (meets p q ds es b true m ld le h k) [ inl x ↦ x | inr x ↦ i.single p q ds es b m ld le x.0 x.1 ]

    level : (p q : ℕ) (ds es : List ℕ) (b : ℕ) (m n : Bool) → length ds ≤ 3 → length es ≤ 3 → end v p ds ≡ To b m → end v q es ≡ To b n → length ds ≡ length es
    level p q ds es b m n ld le h k = elim (meets p q ds es b m n ld le h k) [ inl x ↦ sym (ap length x.1) | inr x ↦ i.level p q ds es b m n ld le x.0 x.1 ]

-- where no path changes, what is shared stays
pub same-kept : (w v : Trees) → Shared w → SamePaths w v → Shared v
same-kept w v i same = record {
  single = λ r q ds es b m ld le h k. i.single r q ds es b m ld le (sym (same r ds ld) ∙ h) (sym (same q es le) ∙ k);
  level = λ r q ds es b m n ld le h k. i.level r q ds es b m n ld le (sym (same r ds ld) ∙ h) (sym (same q es le) ∙ k);
}

-- a link of the root
pub root-changes : (w v : Trees) (r x : ℕ) (fresh : ℕ → ℕ) (post : List ℕ) → CanLink w r fresh post [] → Unreachable w x → ((j : ℕ) → j ≤ length post → fresh j ≢ x)
    → RootLinked w v r x (To (fresh (length post)) true) → LinkChanges w v r fresh post []
root-changes w v r x fresh post c off ne l = record {
  can = c;
  roots = λ q. roots q (eqb_tells q r);
  entries = λ q ds d le same. inr (rw same (child-same v.node w.node (end w q ds) d (λ b m e. l.others b d (λ f. off q ds m (omega arith) (rw f at e)))));
  chain = λ k d le. l.others (fresh k) d (ne k le);
}
  where
    roots : (q : ℕ) → ((nat_eq q r ≡ true) × (q ≡ r)) ⊎ ((nat_eq q r ≡ false) × (q ≢ r)) → ((q ≡ r) × (◌≡◌ {A = List ℕ} [] []) × (v.root r ≡ To (fresh (length post)) true)) ⊎ (v.root q ≡ w.root q)
    roots q (inl h) = inl (h.1, refl, l.root)
    roots q (inr h) = inr (l.roots q h.1)

-- which entry of which path the changed entry is
entry-cases : (w v : Trees) (r d : ℕ) (above : List ℕ) (b : ℕ) (new : Pointer) → Shared w → end w r above ≡ To b true → length above ≤ 2 → NodeLinked w v b d new
    → (q : ℕ) (ds : List ℕ) (e : ℕ) (p : Pointer) → length ds ≤ 2 → end w q ds ≡ p
    → ((q ≡ r) × (e ∷ ds ≡ d ∷ above) × (child v.node p e ≡ new)) ⊎ (child v.node p e ≡ child w.node p e)
entry-cases w v r d above b new i owned short l q ds e Hole le h = inr refl
entry-cases w v r d above b new i owned short l q ds e (To c m) le h = go m h (eqb_tells c b) (eqb_tells e d)
  where
    found : (m : Bool) → end w q ds ≡ To c m → c ≡ b → (q ≡ r) × (ds ≡ above)
    found m h f = i.single r q above ds b m (omega arith) (omega arith) owned (rw f at h)

    mark : (m : Bool) → end w q ds ≡ To c m → c ≡ b → m ≡ true
    mark m h f = let s = found m h f in
        let g : end w q ds ≡ To b true = let P : ℕ → Type 0 = λ z. end w z ds ≡ To b true in subst P (sym s.0) (let Q : List ℕ → Type 0 = λ z. end w r z ≡ To b true in subst Q (sym s.1) owned) in
        let k : To c m ≡ To b true = sym h ∙ g in cc

    other : (m : Bool) → v.node c e ≡ w.node c e → child v.node (To c m) e ≡ child w.node (To c m) e
    other true k = k
    other false k = ap unmarked k

    go : (m : Bool) → end w q ds ≡ To c m → ((nat_eq c b ≡ true) × (c ≡ b)) ⊎ ((nat_eq c b ≡ false) × (c ≢ b)) → ((nat_eq e d ≡ true) × (e ≡ d)) ⊎ ((nat_eq e d ≡ false) × (e ≢ d))
        → ((q ≡ r) × (e ∷ ds ≡ d ∷ above) × (child v.node (To c m) e ≡ new)) ⊎ (child v.node (To c m) e ≡ child w.node (To c m) e)
    go m h (inr x) y = inr (other m (l.others c e x.1))
    go m h (inl x) (inr y) = inr (other m (rw x.1 (l.entries e y.1)))
    go true h (inl x) (inl y) = let s = found true h x.1 in inl (s.0, rw (y.1, s.1) refl, rw (x.1, y.1) l.entry)
    go false h (inl x) (inl y) = absurd (let k = mark false h x.1 in cc)

-- a link of a node
pub node-changes : (w v : Trees) (r : ℕ) (fresh : ℕ → ℕ) (post : List ℕ) (d : ℕ) (above : List ℕ) (b : ℕ) → Shared w → end w r above ≡ To b true → CanLink w r fresh post (d ∷ above)
    → NodeLinked w v b d (To (fresh (length post)) true) → LinkChanges w v r fresh post (d ∷ above)
node-changes w v r fresh post d above b i owned c l = record {
  can = c;
  roots = λ q. inr (l.roots q);
  entries = entries;
  chain = λ k e le. l.others (fresh k) e (λ h. c.unreachable k le r above true (omega (arith, c.whole)) (rw h owned));
}
  where
    new : Pointer
    new = To (fresh (length post)) true

    entries : (q : ℕ) (ds : List ℕ) (e : ℕ) → length ds ≤ 2 → end v q ds ≡ end w q ds
        → ((q ≡ r) × (e ∷ ds ≡ d ∷ above) × (end v r (e ∷ ds) ≡ new)) ⊎ (end v q (e ∷ ds) ≡ end w q (e ∷ ds))
    entries q ds e le same = go (entry-cases w v r d above b new i owned (omega (arith, c.whole)) l q ds e (end w q ds) le refl)
      where
        go : ((q ≡ r) × (e ∷ ds ≡ d ∷ above) × (child v.node (end w q ds) e ≡ new)) ⊎ (child v.node (end w q ds) e ≡ child w.node (end w q ds) e)
            → ((q ≡ r) × (e ∷ ds ≡ d ∷ above) × (end v r (e ∷ ds) ≡ new)) ⊎ (end v q (e ∷ ds) ≡ end w q (e ∷ ds))
        go (inl x) = inl (x.0, x.1, at-root v r q (e ∷ ds) new (sym x.0) (rw same x.2))
        go (inr x) = inr (rw same x)

-- what is reached after a link was reached before at the same place, or is linked by it
pub link-back : (w v : Trees) (r : ℕ) (fresh : ℕ → ℕ) (post at : List ℕ) → LinkChanges w v r fresh post at → (q : ℕ) (ds : List ℕ) (b : ℕ) (m : Bool) → length ds ≤ 3 → end v q ds ≡ To b m
    → (end w q ds ≡ To b m) ⊎ ((q ≡ r) × ((j : ℕ) × (j ≤ length post) × (fresh j ≡ b)))
link-back w v r fresh post at c q ds b m le h = go (turns w v r fresh post at c q ds le)
  where
    go : Turn w v r fresh post at q ds → (end w q ds ≡ To b m) ⊎ ((q ≡ r) × ((j : ℕ) × (j ≤ length post) × (fresh j ≡ b)))
    go (inl k) = inr (k.0, (length k.1.rest, k.1.shorter, block-is (end v q ds) (fresh (length k.1.rest)) b true m (at-root v q r ds (To (fresh (length k.1.rest)) true) k.0 k.1.new) h))
    go (inr k) = inl (sym k ∙ h)

-- the paths of other roots stay
pub link-others : (w v : Trees) (r : ℕ) (fresh : ℕ → ℕ) (post at : List ℕ) → LinkChanges w v r fresh post at → (q : ℕ) (ds : List ℕ) → length ds ≤ 3 → q ≢ r → end v q ds ≡ end w q ds
link-others w v r fresh post at c q ds le ne = go (turns w v r fresh post at c q ds le)
  where
    go : Turn w v r fresh post at q ds → end v q ds ≡ end w q ds
    go (inl x) = absurd (ne x.0)
    go (inr x) = x

-- of the paths of three digits one changes
pub link-leaves : (w v : Trees) (r : ℕ) (fresh : ℕ → ℕ) (post at : List ℕ) → LinkChanges w v r fresh post at → (q : ℕ) (ds : List ℕ) → length ds ≡ 3 → ((q ≡ r) × (ds ≡ down post at) → ⊥)
    → end v q ds ≡ end w q ds
link-leaves w v r fresh post at c q ds le ne = go (turns w v r fresh post at c q ds (omega arith))
  where
    last : (rest ds : List ℕ) → length rest ≡ 0 → down rest ds ≡ ds
    last [] ds e = refl
    last (x ∷ rest) ds e = absurd (omega arith)

    go : Turn w v r fresh post at q ds → end v q ds ≡ end w q ds
    go (inr x) = x
    go (inl x) = let z : length x.1.rest ≡ 0 = omega (arith, ap length x.1.path, down-length x.1.rest ds, down-length post at, c.can.whole, le) in
        absurd (ne (x.0, sym (last x.1.rest ds z) ∙ x.1.path))

-- the chain leads to the new data block
pub chain-reaches : (w v : Trees) (r : ℕ) (fresh : ℕ → ℕ) (post at : List ℕ) → LinkChanges w v r fresh post at → (rest ds : List ℕ) → length rest ≤ length post → Copies w r fresh rest ds
    → end v r ds ≡ To (fresh (length rest)) true → end v r (down rest ds) ≡ To (fresh 0) true
chain-reaches w v r fresh post at c [] ds le k h = h
chain-reaches w v r fresh post at c (d ∷ rest) ds le k h = chain-reaches w v r fresh post at c rest (d ∷ ds) (omega arith) k.2 (rw h (c.chain (length (d ∷ rest)) d le ∙ k.0))

pub links-keep : LinksKeep
links-keep w v r fresh post d above b s owned c l = link-kept w v r fresh post (d ∷ above) s (node-changes w v r fresh post d above b s owned c l)

-- the place of a link has the new pointer
pub node-place : (w v : Trees) (r : ℕ) (fresh : ℕ → ℕ) (post : List ℕ) (d : ℕ) (above : List ℕ) (b : ℕ) → LinkChanges w v r fresh post (d ∷ above) → end w r above ≡ To b true
    → NodeLinked w v b d (To (fresh (length post)) true) → end v r (d ∷ above) ≡ To (fresh (length post)) true
node-place w v r fresh post d above b c owned l = go (turns w v r fresh post (d ∷ above) c r above (omega (arith, c.can.whole)))
  where
    go : Turn w v r fresh post (d ∷ above) r above → end v r (d ∷ above) ≡ To (fresh (length post)) true
    go (inl x) = absurd (omega (arith, x.1.shorter, ap length x.1.path, down-length x.1.rest above, down-length post (d ∷ above)))
    go (inr x) = rw (x ∙ owned) l.entry

-- the paths above a link's place stay
pub link-above : (w v : Trees) (r : ℕ) (fresh : ℕ → ℕ) (post at : List ℕ) → LinkChanges w v r fresh post at → (q : ℕ) (ds : List ℕ) → length ds < length at → end v q ds ≡ end w q ds
link-above w v r fresh post at c q ds lt = go (turns w v r fresh post at c q ds (omega (arith, c.can.whole)))
  where
    go : Turn w v r fresh post at q ds → end v q ds ≡ end w q ds
    go (inl x) = absurd (omega (arith, x.1.shorter, ap length x.1.path, down-length x.1.rest ds, down-length post at))
    go (inr x) = x
