-- Of a list of blocks those are kept that pass a test, one after another.
use Rattle.std.proofs.Common.{◌≡◌, ◌<◌, ◌≤◌, ◌+◌, ◌∙◌, ap, sym, refl, subst, ℕ, List, [], ◌∷◌, ◌++◌, length, drop, get_or, Bool, true, false, arith}
use Rattle.std.specs.Prelude.{filter, if◌then◌else◌}
use Rattle.std.proofs.lemmas.List.{append_assoc, append-nil, length-append, map-append}
use Rattle.std.proofs.lemmas.List.Elements.{All-push}
use Rattle.plx_base.specs.declared.numbers.BlockNo.{BlockNo}
use Rattle.plx_geom.specs.Geometry.{Geometry}
use Rattle.plx_alloc.specs.Pools.{AreInPool, IsInPool}
use Rattle.plx_alloc.specs.Tables.{numbers}
use Rattle.plx_alloc.proofs.Numbers.{drop-next, drop-past}

-- what is kept of the blocks before one
pub record AreKeptBlocks (p : ℕ → Bool) (g : Geometry) (items : List BlockNo) (i : ℕ) (kept : List BlockNo) : Type 0 where
  pub few : length kept ≤ i
  pub pool : AreInPool g kept
  pub same : numbers kept ++ filter p (numbers (drop i items)) ≡ filter p (numbers items)

pub kept-none : (p : ℕ → Bool) (g : Geometry) (items : List BlockNo) → AreKeptBlocks p g items 0 []
kept-none p g items = record { few = omega arith; pool = λ k d less. absurd (omega (arith, less)); same = refl }

filter-by-test : (p : ℕ → Bool) (items : List BlockNo) (i : ℕ) (d : BlockNo) (b : Bool) → i < length items → p (get_or items i d).0 ≡ b →
    filter p (numbers (drop i items)) ≡ (if b then (get_or items i d).0 ∷ filter p (numbers (drop (i + 1) items)) else filter p (numbers (drop (i + 1) items)))
filter-by-test p items i d b less is =
    ap (λ blocks. filter p (numbers blocks)) (drop-next items i d less)
    ∙ ap (λ b. if b then (get_or items i d).0 ∷ filter p (numbers (drop (i + 1) items)) else filter p (numbers (drop (i + 1) items))) is

pub kept-more : (p : ℕ → Bool) (g : Geometry) (items : List BlockNo) (i : ℕ) (d : BlockNo) (kept new : List BlockNo) → i < length items →
    p (get_or items i d).0 ≡ true → AreInPool g items → new ≡ kept ++ get_or items i d ∷ [] → AreKeptBlocks p g items i kept → AreKeptBlocks p g items (i + 1) new
kept-more p g items i d kept new less so pool is h =
    let x = get_or items i d in
    let few = h.few in
    let long : length (kept ++ x ∷ []) ≡ length kept + 1 = length-append kept (x ∷ []) in
    subst (λ blocks. AreKeptBlocks p g items (i + 1) blocks) (sym is) (record {
      few = omega (arith, few, long);
      pool = All-push (λ (block : BlockNo). IsInPool g block.0) kept x h.pool (pool i d less);
      same =
          ap (λ front. front ++ filter p (numbers (drop (i + 1) items))) (map-append (λ (b : BlockNo). b.0) kept (x ∷ []))
          ∙ (append_assoc (numbers kept) (x.0 ∷ []) (filter p (numbers (drop (i + 1) items)))
          ∙ (ap (λ rest. numbers kept ++ rest) (sym (filter-by-test p items i d true less so)) ∙ h.same));
    })

pub kept-less : (p : ℕ → Bool) (g : Geometry) (items : List BlockNo) (i : ℕ) (d : BlockNo) (kept new : List BlockNo) → i < length items →
    p (get_or items i d).0 ≡ false → new ≡ kept → AreKeptBlocks p g items i kept → AreKeptBlocks p g items (i + 1) new
kept-less p g items i d kept new less other is h =
    let few = h.few in
    subst (λ blocks. AreKeptBlocks p g items (i + 1) blocks) (sym is) (record {
      few = omega (arith, few);
      pool = h.pool;
      same = ap (λ rest. numbers kept ++ rest) (sym (filter-by-test p items i d false less other)) ∙ h.same;
    })

pub kept-all : (p : ℕ → Bool) (g : Geometry) (items : List BlockNo) (i : ℕ) (kept : List BlockNo) → length items ≤ i → AreKeptBlocks p g items i kept →
    numbers kept ≡ filter p (numbers items)
kept-all p g items i kept past h =
    sym (append-nil (numbers kept)) ∙ (ap (λ blocks. numbers kept ++ filter p (numbers blocks)) (sym (drop-past items i past)) ∙ h.same)
