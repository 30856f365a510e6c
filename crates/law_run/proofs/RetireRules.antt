-- The giving up of all extents keeps the rules.
use Rattle.std.proofs.Common.{◌≡◌, ℕ, ◌*◌, ◌<◌, List, [], ◌++◌, Some, sym, subst, arith, inl, inr}
use Rattle.plx_disk.specs.declared.ask.Ask.{Ask}
use Rattle.plx_base.proofs.Tests.{not-true}
use Rattle.plx_geom.proofs.Places.{extent-below}
use Rattle.plx_geom.specs.Geometry.{IsGeometry, extent_lease}
use Rattle.plx_rules.specs.Ends.{End}
use Rattle.plx_rules.specs.Holds.{Hold}
use Rattle.plx_rules.specs.InUse.{InUse}
use Rattle.plx_rules.specs.Process.{Process, Ends, standing}
use Rattle.plx_rules.specs.Rests.{extent_of}
use Rattle.plx_rules.specs.Session.{Known}
use Rattle.plx_rules.specs.Settings.{Setting}
use Rattle.law_run.specs.AllowedAsks.{MayAsk}
use Rattle.law_run.specs.CommandLogs.{Exchange, CommandLog, with_exchanges}
use Rattle.law_run.specs.Holdings.{hand_by_log, hold_by_log}
use Rattle.law_run.specs.OnHand as on_hand
use Rattle.law_run.specs.OnHand.{IsOfOneExtent, MayBeginOnHand, ShowsOnHand}
use Rattle.law_run.specs.RetireRules.{AreGivenUp, IsRetireAsk, IsRetireEnd, RetiresKeepRules, retire_bound, retire_work}
use Rattle.law_run.proofs.ClaimRules.{begun-first}
use Rattle.law_run.proofs.Hands.{HasBlock, none-has, held-is, hand-is-held}
use Rattle.law_run.proofs.Machines.{MeetsWork, meets-keeps}
use Rattle.law_run.proofs.GivingUp.{retire_asks, retire-asks-are, retires}
use Rattle.law_run.proofs.OnHand.{GivenBack, PastExtent, Retiring, retires-none}
use Rattle.law_run.proofs.OnHandEnds.{ends-shown}

-- no lease is spared
abbrev NoneSpared : ℕ → Type 0
NoneSpared lease = ⊥

module _ (s : Setting) (geometry : IsGeometry s.geometry) (log : CommandLog) (known : Known) (uses : List InUse) (holds : ℕ → Hold) (hand : List ℕ) (follows : End) (may : MayBeginOnHand s log holds hand) where
  inside : (b : ℕ) → HasBlock (hand_by_log s log.before log.exchanges) b → extent_of s.geometry b < s.geometry.extents
  inside b has = may.inside b (subst (λ (l : List ℕ). HasBlock l b) (sym may.fresh) has)

  abbrev Work : (P K : ℕ → Type 0) → List Exchange → Type 0
  Work P K own = Retiring s log.before log.exchanges NoneSpared P K own

  -- all extents are given up
  given-up : (own : List Exchange) → Work (PastExtent s s.geometry.extents) (GivenBack s.geometry.extents) own → AreGivenUp s log (with_exchanges log (own ++ log.exchanges))
  given-up own r = record {
    unheld = λ extent below. not-true _ (λ is. (
        let held = held-is (hold_by_log s log.before (own ++ log.exchanges) (extent_lease s.geometry extent)) is in
        r.given (extent_lease s.geometry extent) held.0 held.1 (extent-below s.geometry extent below) (omega arith, omega (arith, below)) held.2));
    empty = none-has (hand_by_log s log.before (own ++ log.exchanges)) (λ b has. (
        let below = inside b (r.fewer b has) in
        let held = held-is _ (hand-is-held s log.before (own ++ log.exchanges) b r.along.has has) in
        r.given (extent_lease s.geometry (extent_of s.geometry b)) held.0 held.1 (extent-below s.geometry _ below) (omega arith, omega (arith, below)) held.2));
    others = λ lease low. r.later lease (omega (arith, low)) (λ p. omega (arith, low, p.0));
  }

  retire-meets : MeetsWork s log (IsOfOneExtent s.geometry) (ShowsOnHand s known uses follows (AreGivenUp s log)) log.exchanges (retire_work s known uses holds hand follows) (retire_bound s.geometry)
  retire-meets =
      subst (λ n. MeetsWork s log (IsOfOneExtent s.geometry) (ShowsOnHand s known uses follows (AreGivenUp s log)) log.exchanges (retire_work s known uses holds hand follows) n)
      (let e = retire-asks-are s.geometry.extents 0 in let e' : retire_asks s.geometry.extents 0 ≡ 3 * s.geometry.extents = omega arith in e')
      (retires s log.before log.exchanges NoneSpared inside geometry.blocks_high (omega (arith, geometry.blocks_low)) log.command uses known
      (λ done a bytes. MayAsk s (with_exchanges log done) a bytes × IsOfOneExtent s.geometry a)
      (λ done end. ShowsOnHand s known uses follows (AreGivenUp s log) (with_exchanges log done) end)
      (λ b has. may.pool b (subst (λ (l : List ℕ). HasBlock l b) (sym may.fresh) has))
      (λ done a bytes may' place. (may', (place.0, place.1, inl place.2)))
      (ends-shown s geometry log NoneSpared uses known follows (AreGivenUp s log))
      holds may.held hand may.fresh
      (λ done a bytes extent may' below place. (may', (extent, below, inr place)))
      s.geometry.extents 0 [] 0 (Ends follows) (omega arith)
      (retires-none s log.before log.exchanges NoneSpared inside (begun-first log.exchanges may.others may.first may.begun) may.went (PastExtent s 0) (GivenBack 0)
      (λ l below p. omega (arith, p.0, p.1)) (λ e k. omega (arith, k)))
      (λ own r. on_hand.done (given-up own r)))

pub retires-keep-rules : RetiresKeepRules
retires-keep-rules s log known uses holds hand follows geometry may =
    meets-keeps s log (IsOfOneExtent s.geometry) (ShowsOnHand s known uses follows (AreGivenUp s log)) (retire_work s known uses holds hand follows) (retire_bound s.geometry)
    (retire-meets s geometry log known uses holds hand follows may)

-- so does it by where it stands
pub retire-ask : (rest : Process End) (ask : Ask) → Some ask ≡ standing rest → IsRetireAsk rest ask
retire-ask rest ask stands s log known uses holds hand follows own geometry may leads = (retires-keep-rules s log known uses holds hand follows geometry may).asks leads ask (sym stands)

pub retire-end : (rest : Process End) (end : End) → rest ≡ Ends end → IsRetireEnd rest end
retire-end rest end over s log known uses holds hand follows own geometry may leads = (retires-keep-rules s log known uses holds hand follows geometry may).ends leads end over
