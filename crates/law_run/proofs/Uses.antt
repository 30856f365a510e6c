-- The leases that a command uses, along its exchanges.
use Rattle.std.proofs.Common.{◌≡◌, ◌≢◌, ℕ, ◌<◌, List, [], ◌∷◌, Bool, true, false, Option, Some, None, refl, ap, sym, subst, ◌∙◌, arith, inl, inr}
use Rattle.plx_base.proofs.Tests.{eqb-false}
use Rattle.plx_base.specs.declared.write_kind.WriteKind.TheVariants as kind
use Rattle.plx_disk.specs.declared.ask.Ask.{Ask}
use Rattle.plx_disk.specs.declared.ask.Ask.TheVariants as ask
use Rattle.plx_disk.specs.declared.ask.Answer.TheVariants as answer
use Rattle.plx_geom.proofs.Places.{image-below}
use Rattle.plx_geom.specs.Geometry.{Geometry, lease_count, image_lease, extents_start, lease_at, map_at}
use Rattle.plx_rules.specs.InUse.{InUse}
use Rattle.plx_rules.specs.Rests.{extent_of}
use Rattle.plx_rules.specs.Settings.{Setting}
use Rattle.law_run.specs.CommandLogs.{Exchange, CommandLog, IsIn, with_exchange}
use Rattle.law_run.specs.Holdings.{hold_by_log, last_found, IsUntil, is_map_found}
use Rattle.law_run.specs.Sessions.{names}
use Rattle.law_run.specs.Uses as uses
use Rattle.law_run.specs.Uses.{IsOfCommand, IsUsed}
use Rattle.law_run.proofs.Meets.{exchange}
use Rattle.law_run.proofs.Right.{read_of}

-- whether an ask is a claim's
abbrev pub claims_at : Ask → Bool
claims_at (ask.Write kind.Claim block guard) = true
claims_at a = false

-- the block that it claims
abbrev pub claim_block : Ask → ℕ
claim_block (ask.Write kind.Claim block guard) = block.0
claim_block a = 0

-- the block of the read before the newest exchange
abbrev pub read_block : Ask → ℕ
read_block (ask.Read block) = block.0
read_block a = 0

abbrev pub block_second : List Exchange → ℕ
block_second [] = 0
block_second (x ∷ []) = 0
block_second (x ∷ y ∷ older) = read_block y.ask

-- the block and the bytes that were found
abbrev pub block_found : Option (ℕ × List ℕ) → ℕ
block_found None = 0
block_found (Some found) = found.0

abbrev pub bytes_found : Option (ℕ × List ℕ) → List ℕ
bytes_found None = []
bytes_found (Some found) = found.1

-- a claim that is done
abbrev pub claim_written : (lease guard : ℕ) → List ℕ → Exchange
claim_written lease guard bytes = exchange (ask.Write kind.Claim (record { 0 = lease_at lease }) guard) bytes answer.Done

-- a claim is no exchange whose ask is none
pub not-claim : (x y : Exchange) → claims_at x.ask ≡ false → claims_at y.ask ≡ true → ¬ (y ≡ x)
not-claim x y none is same = let e : true ≡ false = sym is ∙ (ap (λ (z : Exchange). claims_at z.ask) same ∙ none) in let P : ⊥ = cc in P

-- ---- the leases that are used

pub used-within : (s : Setting) (log : CommandLog) (lease : ℕ) → IsOfCommand s log lease → lease < lease_count s.geometry
used-within s log lease (uses.named image below named is) = let w = image-below s.geometry image below in omega (arith, is, w)
used-within s log lease (uses.claimed claim below was) = below

-- a command that names one image, and has written no claim but of its lease, has that one alone
pub of-one : (s : Setting) (log : CommandLog) (image : ℕ) → ((other : ℕ) → names log.command other ≡ true → other ≡ image) →
    ((l guard : ℕ) (bytes : List ℕ) → IsIn (claim_written l guard bytes) log.exchanges → l ≡ image_lease image) → (lease : ℕ) → IsOfCommand s log lease → image_lease image ≡ lease
of-one s log image only mine lease (uses.named other below named is) = ap image_lease (sym (only other named)) ∙ sym is
of-one s log image only mine lease (uses.claimed claim below was) = sym (mine lease _ _ was)

-- one more exchange leaves the lease to the command
pub of-more : (s : Setting) (log : CommandLog) (x : Exchange) (lease : ℕ) → IsOfCommand s log lease → IsOfCommand s (with_exchange x log) lease
of-more s log x lease (uses.named image below named is) = uses.named image below named is
of-more s log x lease (uses.claimed claim below was) = uses.claimed claim below (inr was)

-- and no further one comes but by a claim
pub of-less : (s : Setting) (log : CommandLog) (x : Exchange) (lease : ℕ) → claims_at x.ask ≡ false → IsOfCommand s (with_exchange x log) lease → IsOfCommand s log lease
of-less s log x lease none (uses.named image below named is) = uses.named image below named is
of-less s log x lease none (uses.claimed claim below (inl here)) = absurd (not-claim x _ none refl here)
of-less s log x lease none (uses.claimed claim below (inr there)) = uses.claimed claim below there

pub used-more : (s : Setting) (log : CommandLog) (x : Exchange) (one : InUse) →
    hold_by_log s log.before (x ∷ log.exchanges) one.lease ≡ hold_by_log s log.before log.exchanges one.lease → IsUsed s log one → IsUsed s (with_exchange x log) one
used-more s log x one same u = record { of = of-more s log x one.lease u.of; until = subst (IsUntil one.until) (sym same) u.until }

pub used-less : (s : Setting) (log : CommandLog) (x : Exchange) (one : InUse) → claims_at x.ask ≡ false →
    (one.lease < lease_count s.geometry → hold_by_log s log.before (x ∷ log.exchanges) one.lease ≡ hold_by_log s log.before log.exchanges one.lease) →
    IsUsed s (with_exchange x log) one → IsUsed s log one
used-less s log x one none same u =
    let of = of-less s log x one.lease none u.of in
    record { of = of; until = subst (IsUntil one.until) (same (used-within s log one.lease of)) u.until }

-- ---- the block that was read last

-- a block that is no map is none that was found
pub no-map : (g : Geometry) (block : ℕ) (bytes : List ℕ) → ((extent : ℕ) → block ≢ map_at g extent) → is_map_found g (Some (block, bytes)) ≡ false
no-map g block bytes apart = let e = eqb-false (map_at g (extent_of g block)) block (λ same. apart (extent_of g block) (sym same)) in rw e refl

-- the block that the newest exchange has read, if any, is no map, and no lease but that of an image
abbrev pub IsQuiet : Geometry → (image : ℕ) → List Exchange → Type 0
IsQuiet g image done = (block : ℕ) (bytes : List ℕ) → last_found done ≡ Some (block, bytes) →
    ((l : ℕ) → l < lease_count g → block ≡ lease_at l → l ≡ image_lease image) × ((e : ℕ) → block ≢ map_at g e)

pub quiet-none : (g : Geometry) (image : ℕ) (done : List Exchange) → last_found done ≡ None → IsQuiet g image done
quiet-none g image done none block bytes is = absurd (let e : None ≡ Some (block, bytes) = sym none ∙ is in let P : ⊥ = cc in P)

pub quiet-read : (g : Geometry) (image : ℕ) (done : List Exchange) (block : ℕ) (bytes : List ℕ) → lease_count g < block → block < extents_start g → IsQuiet g image (read_of block bytes ∷ done)
quiet-read g image done block bytes past before block' bytes' is =
    let same : block ≡ block' = ap block_found is in (
      (λ l below at. absurd (omega (arith, past, below, at, same))),
      (λ e' at. let P : ⊥ = omega (arith, before, at, same) in P),
    )

pub quiet-unfound : (g : Geometry) (image : ℕ) (done : List Exchange) → IsQuiet g image done → is_map_found g (last_found done) ≡ false
quiet-unfound g image done quiet = by-found (last_found done) refl
  where
    by-found : (found : Option (ℕ × List ℕ)) → last_found done ≡ found → is_map_found g found ≡ false
    by-found None is = refl
    by-found (Some found) is = no-map g found.0 found.1 (λ e same. (quiet found.0 found.1 is).1 e same)
