-- Which bits changed since a map was read: those of the blocks that are taken, or given back.
use Rattle.std.proofs.Common.{◌≡◌, ◌≤◌, ◌∙◌, ap, sym, ℕ, List, ◌++◌, length, take, Bool}
use Rattle.std.specs.Prelude.{◌==◌, filter, not, if◌then◌else◌}
use Rattle.std.proofs.Math.Path.{fun_ext}
use Rattle.law_run.proofs.FreeBlocks.{set-taken}
use Rattle.plx_commands.specs.Replies.{is_in}
use Rattle.plx_extent.proofs.Maps.{bits-back, has-map}
use Rattle.plx_extent.specs.Maps.{IsMap, bits_of, map_bytes}
use Rattle.plx_rules.specs.Hands.{hand_written, set_since, blocks_without}
use Rattle.plx_rules.specs.Space.{free_from, with_set}
use Rattle.plx_base.specs.declared.write_kind.WriteKind.TheVariants as kind
use Rattle.plx_alloc.proofs.Chosen.{eq-self}
use Rattle.plx_rules.proofs.Maps.{length-with_set}

-- the bytes that were read, and those that are written, tell what is taken
pub tells-taken : (blocks : ℕ) (hand : List ℕ) (n map : ℕ) (bits : List Bool) (taken : List ℕ) (bytes out : List ℕ) (now : List ℕ) → blocks ≤ 32768 →
    IsMap blocks bits → bytes ≡ map_bytes bits → out ≡ map_bytes (with_set taken map bits) → taken ≡ take n (free_from hand map bits) →
    (if map == map then hand_written kind.Take map (bits_of blocks bytes) (bits_of blocks out) now else now) ≡ now ++ taken
tells-taken blocks hand n map bits taken bytes out now most is read written which =
    let old : bits_of blocks bytes ≡ bits = has-map blocks bits bytes most is read in
    let long : length (with_set taken map bits) ≡ blocks = length-with_set taken map bits ∙ is.long in
    let new : bits_of blocks out ≡ with_set taken map bits = ap (bits_of blocks) written ∙ bits-back (with_set taken map bits) blocks long most in
    ap (λ b. if b then hand_written kind.Take map (bits_of blocks bytes) (bits_of blocks out) now else now) (eq-self map)
    ∙ (ap (λ xs. now ++ set_since map xs (bits_of blocks out)) old
    ∙ (ap (λ ys. now ++ set_since map bits ys) new
    ∙ (ap (λ blocks. now ++ set_since map bits (with_set blocks map bits)) which
    ∙ ap (λ blocks. now ++ blocks) (set-taken hand n map bits ∙ sym which))))

-- blocks that are among these, or among those, are left out alike
without-same : (blocks others hand : List ℕ) → ((block : ℕ) → is_in block blocks ≡ is_in block others) → blocks_without blocks hand ≡ blocks_without others hand
without-same blocks others hand same = ap (λ (p : ℕ → Bool). filter p hand) (fun_ext (λ block. ap not (same block)))

-- the bytes that were read, and those that are written, tell what is given back
pub tells-given : (blocks map : ℕ) (bits new : List Bool) (given bytes out now : List ℕ) → blocks ≤ 32768 → IsMap blocks bits → bytes ≡ map_bytes bits →
    out ≡ map_bytes new → length new ≡ length bits → ((block : ℕ) → is_in block given ≡ is_in block (set_since map new bits)) →
    (if map == map then hand_written kind.Give map (bits_of blocks bytes) (bits_of blocks out) now else now) ≡ blocks_without given now
tells-given blocks map bits new given bytes out now most is read written long which =
    let before : bits_of blocks bytes ≡ bits = has-map blocks bits bytes most is read in
    let after : bits_of blocks out ≡ new = ap (bits_of blocks) written ∙ bits-back new blocks (long ∙ is.long) most in
    ap (λ b. if b then hand_written kind.Give map (bits_of blocks bytes) (bits_of blocks out) now else now) (eq-self map)
    ∙ (ap (λ xs. blocks_without (set_since map (bits_of blocks out) xs) now) before
    ∙ (ap (λ ys. blocks_without (set_since map ys bits) now) after
    ∙ sym (without-same given (set_since map new bits) now which)))
