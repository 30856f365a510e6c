-- The giving back of all blocks in hand keeps the rules.
use Rattle.std.proofs.Common.{◌≡◌, ℕ, zero, suc, ◌+◌, ◌*◌, ◌<◌, List, [], ◌++◌, false, Some, refl, ap, sym, subst, ◌∙◌, arith, ◌≢◌}
use Rattle.plx_disk.specs.declared.ask.Ask.{Ask}
use Rattle.plx_geom.proofs.Places.{extent-below}
use Rattle.plx_geom.specs.Geometry.{IsGeometry, extent_lease, lease_at, map_at}
use Rattle.plx_rules.specs.Ends.{End}
use Rattle.plx_rules.specs.Hands.{is_held}
use Rattle.plx_rules.specs.Holds.{Hold, Nothing, Seen, Wrote, Waited, Held}
use Rattle.plx_rules.specs.InUse.{InUse}
use Rattle.plx_rules.specs.Process.{Process, Ends, standing}
use Rattle.plx_rules.specs.Rests.{extent_of}
use Rattle.plx_rules.specs.Session.{Known}
use Rattle.plx_rules.specs.Settings.{Setting}
use Rattle.plx_rules.specs.Space.{in_extent}
use Rattle.law_run.specs.AllowedAsks.{MayAsk}
use Rattle.law_run.specs.CommandLogs.{Exchange, CommandLog, with_exchanges}
use Rattle.law_run.specs.Holdings.{hold_by_log, hand_by_log}
use Rattle.law_run.specs.OnHand as on_hand
use Rattle.law_run.specs.OnHand.{IsOfOneMap, MayBeginOnHand, ShowsOnHand}
use Rattle.law_run.proofs.ClaimRules.{begun-first}
use Rattle.law_run.proofs.Hands.{HasBlock}
use Rattle.law_run.proofs.Machines.{MeetsWork, meets-keeps}
use Rattle.law_run.proofs.GivingUp.{Endings, gives, more}
use Rattle.law_run.proofs.OnHand.{GivenBack, Retiring, given-more, none-unheld, retires-none}
use Rattle.law_run.proofs.OnHandEnds.{ends-shown}
use Rattle.plx_alloc.specs.GiveBackRules.{GiveBacksKeepRules, IsGiveBackAsk, IsGiveBackEnd, IsGivenBack, give_back_bound, give_back_work}
use Rattle.plx_alloc.specs.Gives.{give_extent, give_extents}

-- so many answers for each extent
abbrev give_asks : (left : ℕ) → ℕ
give_asks zero = 0
give_asks (suc left) = suc (suc (give_asks left))

give-asks-are : (left : ℕ) → give_asks left ≡ 2 * left
give-asks-are zero = refl
give-asks-are (suc left) = let e = give-asks-are left in omega arith

-- no lease is given up, and none is spared
abbrev NoLease : ℕ → Type 0
NoLease lease = ⊥

module _ (s : Setting) (geometry : IsGeometry s.geometry) (log : CommandLog) (known : Known) (uses : List InUse) (holds : ℕ → Hold) (hand : List ℕ) (follows : End) (may : MayBeginOnHand s log holds hand) where
  inside : (b : ℕ) → HasBlock (hand_by_log s log.before log.exchanges) b → extent_of s.geometry b < s.geometry.extents
  inside b has = may.inside b (subst (λ (l : List ℕ). HasBlock l b) (sym may.fresh) has)

  in-pool : (b : ℕ) → HasBlock (hand_by_log s log.before log.exchanges) b → (extent : ℕ) → b ≢ map_at s.geometry extent
  in-pool b has = may.pool b (subst (λ (l : List ℕ). HasBlock l b) (sym may.fresh) has)

  abbrev Work : (K : ℕ → Type 0) → List Exchange → Type 0
  Work K own = Retiring s log.before log.exchanges NoLease NoLease K own

  abbrev MeetsGivingBack : List Exchange → Process End → ℕ → Type 0
  MeetsGivingBack own process n = MeetsWork s log (IsOfOneMap s.geometry) (ShowsOnHand s known uses follows (IsGivenBack s log)) (own ++ log.exchanges) process n

  abbrev MayGive : List Exchange → Ask → List ℕ → Type 0
  MayGive done a bytes = MayAsk s (with_exchanges log done) a bytes × IsOfOneMap s.geometry a

  abbrev ShowsGiven : List Exchange → End → Type 0
  ShowsGiven done end = ShowsOnHand s known uses follows (IsGivenBack s log) (with_exchanges log done) end

  may-give : (done : List Exchange) (a : Ask) (bytes : List ℕ) → MayAsk s (with_exchanges log done) a bytes → IsOfOneMap s.geometry a → MayGive done a bytes
  may-give done a bytes may' place = (may', place)

  endings : Endings s log.before log.exchanges NoLease uses known ShowsGiven
  endings = ends-shown s geometry log NoLease uses known follows (IsGivenBack s log)

  -- all are given back
  given-back : (own : List Exchange) → Work (GivenBack s.geometry.extents) own → IsGivenBack s log (with_exchanges log (own ++ log.exchanges))
  given-back own r = record {
    own = own;
    since = refl;
    left = λ b has. r.cleared b has (inside b (r.fewer b has));
    fewer = r.fewer;
    held = λ lease below. r.later lease below (λ p. p);
  }

  -- the extents from one on
  extents-given : (left extent : ℕ) (own : List Exchange) → left + extent ≡ s.geometry.extents → Work (GivenBack extent) own →
      MeetsGivingBack own (give_extents s known uses holds hand left extent (Ends follows)) (give_asks left)
  extents-given zero extent own all r = on_hand.done (given-back own (subst (λ e. Work (GivenBack e) own) (let e : extent ≡ s.geometry.extents = omega arith in e) r))
  extents-given (suc left) extent own all r =
      by-hold (holds (lease_at (extent_lease s.geometry extent)))
      (r.later (extent_lease s.geometry extent) (extent-below s.geometry extent (omega arith)) (λ p. p) ∙ sym (may.held extent (omega arith)))
      (λ own' r'. extents-given left (extent + 1) own' (omega arith) r')
    where
      tail : Process End
      tail = give_extents s known uses holds hand left (extent + 1) (Ends follows)

      m : ℕ
      m = give_asks left

      unheld : is_held (hold_by_log s log.before (own ++ log.exchanges) (extent_lease s.geometry extent)) ≡ false →
          ((own' : List Exchange) → Work (GivenBack (extent + 1)) own' → MeetsGivingBack own' tail m) → MeetsGivingBack own tail (suc (suc m))
      unheld none next =
          let one = next own (given-more s log.before log.exchanges NoLease inside NoLease own extent r (none-unheld s log.before log.exchanges NoLease inside own extent r.along.has none)) in
          let one-more = more s log.before log.exchanges NoLease inside geometry.blocks_high (omega (arith, geometry.blocks_low)) log.command uses known MayGive ShowsGiven in-pool may-give endings in
          one-more (suc m) tail own (one-more m tail own one)

      by-hold : (hold : Hold) → hold_by_log s log.before (own ++ log.exchanges) (extent_lease s.geometry extent) ≡ hold →
          ((own' : List Exchange) → Work (GivenBack (extent + 1)) own' → MeetsGivingBack own' tail m) → MeetsGivingBack own (give_extent s known uses hand extent hold tail) (suc (suc m))
      by-hold (Held claim until) is next =
          gives s log.before log.exchanges NoLease inside geometry.blocks_high (omega (arith, geometry.blocks_low)) log.command uses known MayGive ShowsGiven in-pool may-give endings NoLease own extent until m claim
          (in_extent s.geometry extent hand) tail (omega arith) (λ p. p) r is (ap (in_extent s.geometry extent) (sym may.fresh)) (λ own' r' held'. next own' r')
      by-hold Nothing is next = unheld (ap is_held is) next
      by-hold (Seen sample) is next = unheld (ap is_held is) next
      by-hold (Wrote c u) is next = unheld (ap is_held is) next
      by-hold (Waited c u) is next = unheld (ap is_held is) next

  give-back-meets : MeetsGivingBack [] (give_back_work s known uses holds hand follows) (give_back_bound s.geometry)
  give-back-meets =
      subst (λ n. MeetsGivingBack [] (give_back_work s known uses holds hand follows) n) (give-asks-are s.geometry.extents)
      (extents-given s.geometry.extents 0 [] (omega arith)
      (retires-none s log.before log.exchanges NoLease inside (begun-first log.exchanges may.others may.first may.begun) may.went NoLease (GivenBack 0) (λ l below p. p) (λ e k. omega (arith, k))))

pub give-backs-keep-rules : GiveBacksKeepRules
give-backs-keep-rules s log known uses holds hand follows geometry may =
    meets-keeps s log (IsOfOneMap s.geometry) (ShowsOnHand s known uses follows (IsGivenBack s log)) (give_back_work s known uses holds hand follows) (give_back_bound s.geometry)
    (give-back-meets s geometry log known uses holds hand follows may)

-- so does it by where it stands
pub give-back-ask : (rest : Process End) (ask : Ask) → Some ask ≡ standing rest → IsGiveBackAsk rest ask
give-back-ask rest ask stands s log known uses holds hand follows own geometry may leads = (give-backs-keep-rules s log known uses holds hand follows geometry may).asks leads ask (sym stands)

pub give-back-end : (rest : Process End) (end : End) → rest ≡ Ends end → IsGiveBackEnd rest end
give-back-end rest end over s log known uses holds hand follows own geometry may leads = (give-backs-keep-rules s log known uses holds hand follows geometry may).ends leads end over
