-- The giving back of an extent's blocks keeps the rules.
use Rattle.std.proofs.Common.{◌≡◌, ℕ, List, ◌∷◌, Some, refl, sym, subst, inl, inr}
use Rattle.plx_disk.specs.declared.ask.Ask.{Ask}
use Rattle.plx_extent.specs.Maps.{map_bytes}
use Rattle.plx_geom.specs.Geometry.{map_at}
use Rattle.plx_rules.specs.Ends.{End}
use Rattle.plx_rules.specs.InUse.{InUse}
use Rattle.plx_rules.specs.Process.{Process, Ends, standing}
use Rattle.plx_rules.specs.Session.{Known}
use Rattle.plx_rules.specs.Settings.{Setting}
use Rattle.plx_rules.specs.Space.{with_clear}
use Rattle.law_run.specs.AllowedAsks.{MayAsk}
use Rattle.law_run.specs.CommandLogs.{Exchange, CommandLog, with_exchanges}
use Rattle.law_run.proofs.ClaimRules.{begun-first}
use Rattle.law_run.specs.Machines.{IsOfBlock}
use Rattle.law_run.proofs.Machines.{MeetsWork, meets-keeps}
use Rattle.law_run.proofs.OneGive.{CanGive, GiveEndings, one-gives}
use Rattle.law_run.proofs.Right.{read_of}
use Rattle.plx_alloc.specs.Gives.{Around, giving_at, giving_rest}
use Rattle.plx_alloc.specs.Moving.{giving_ask_at}
use Rattle.plx_alloc.specs.declared.allocator.Allocator.{Allocator}
use Rattle.plx_alloc.specs.declared.giving.Giving.{Giving}
use Rattle.plx_alloc.specs.declared.giving.GivingAt.{GivingAt}
use Rattle.plx_alloc.specs.declared.giving.GivingAt.TheVariants as at
use Rattle.plx_alloc.specs.GiveRules.{ExtentGivesKeepRules, IsGiveAsk, MayBeginGive, ShowsGive, cleared, damaged, give_bound, give_work, missed, reached, unread, unwritten}

module _ (s : Setting) (log : CommandLog) (known : Known) (uses : List InUse) (extent until : ℕ) (blocks : List ℕ) (follows : End) (may : MayBeginGive s log extent until blocks) where
  abbrev place : ℕ
  place = map_at s.geometry extent

  abbrev MayGive : List Exchange → Ask → List ℕ → Type 0
  MayGive done a bytes = MayAsk s (with_exchanges log done) a bytes × IsOfBlock place a

  abbrev ShowsGiven : List Exchange → End → Type 0
  ShowsGiven done end = ShowsGive s uses extent until blocks known follows (with_exchanges log done) end

  can : CanGive s log.before log.exchanges extent until may.claim blocks
  can = record {
    within = may.within;
    held = may.held;
    fresh = may.fresh;
    own = may.own;
    pool = may.pool;
    has = begun-first log.exchanges may.others may.first may.begun;
    went = may.went;
  }

  endings : GiveEndings s log.before log.exchanges extent until may.claim blocks uses known ShowsGiven
  endings = record {
    unread = unread (log.exchanges, refl);
    unwritten = λ read bits is. unwritten (map_bytes (with_clear blocks place bits)) (read_of place read ∷ log.exchanges, refl);
    missed = λ read bits last is. missed (map_bytes (with_clear blocks place bits)) last (read_of place read ∷ log.exchanges, refl);
    reached = λ read last due none held found. reached due last (read_of place read ∷ log.exchanges, refl) found;
    damaged = λ read last none held early. damaged read last (inr (inl refl)) none (read_of place read ∷ log.exchanges, refl) early;
  }

  give-meets : MeetsWork s log (IsOfBlock place) (ShowsGive s uses extent until blocks known follows) log.exchanges (give_work s known uses extent until blocks follows) give_bound
  give-meets =
      one-gives s log.before log.command uses known MayGive ShowsGiven log.exchanges extent until may.claim blocks can (λ done a bytes may' here. (may', here)) endings
      (Ends follows) 0 (λ read bits is. cleared bits (read_of place read ∷ log.exchanges, refl))

pub extent-gives-keep-rules : ExtentGivesKeepRules
extent-gives-keep-rules s log known uses extent until blocks follows may =
    meets-keeps s log (IsOfBlock (map_at s.geometry extent)) (ShowsGive s uses extent until blocks known follows) (give_work s known uses extent until blocks follows) give_bound
    (give-meets s log known uses extent until blocks follows may)

-- so does each of its asks, by where it stands
give-ask : (rest : Process End) (ask : Ask) → Some ask ≡ standing rest → IsGiveAsk rest ask
give-ask rest ask stands s log known uses extent until blocks follows own may leads = (extent-gives-keep-rules s log known uses extent until blocks follows may).asks leads ask (sym stands)

give-asks : (place : GivingAt) (o : Around) (a : Allocator) (m : Giving) → IsGiveAsk (giving_at place o a m) (giving_ask_at place m)
give-asks at.Map o a m = give-ask (giving_at at.Map o a m) (giving_ask_at at.Map m) refl
give-asks at.Write o a m = give-ask (giving_at at.Write o a m) (giving_ask_at at.Write m) refl
give-asks at.Damaged o a m = give-ask (giving_at at.Damaged o a m) (giving_ask_at at.Damaged m) refl

-- its machine
pub asks-rightly : (here : GivingAt) (o : Around) (a : Allocator) (m : Giving) → m.at ≡ here → IsGiveAsk (giving_rest o a m) (giving_ask_at here m)
asks-rightly here o a m is = subst (λ p. IsGiveAsk (giving_rest o a m) (giving_ask_at p m)) is (give-asks m.at o a m)
