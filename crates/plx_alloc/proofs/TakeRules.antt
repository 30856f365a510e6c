-- The taking of blocks of an extent whose lease is held keeps the rules.
use Rattle.std.proofs.Common.{◌≡◌, ℕ, ◌+◌, ◌-◌, List, [], ◌∷◌, length, Bool, true, false, Option, Some, None, refl, sym, subst, inl, inr}
use Rattle.std.specs.Prelude.{if◌then◌else◌}
use Rattle.plx_commands.specs.Replies.{is_in}
use Rattle.plx_commands.specs.declared.reply.Reply.TheVariants as reply
use Rattle.plx_extent.specs.Maps.{map_bytes}
use Rattle.plx_geom.specs.Geometry.{extent_lease, map_at}
use Rattle.plx_rules.specs.Ends.{End, ends, lost_process}
use Rattle.plx_rules.specs.Holds.{Held}
use Rattle.plx_rules.specs.InUse.{InUse, first_reached, unless_reached}
use Rattle.plx_rules.specs.Process.{Process, Ends}
use Rattle.plx_rules.specs.Settings.{Setting}
use Rattle.plx_rules.specs.Space.{Taking, extent_use, free_from, read_map, set_process, take_found, with_set}
use Rattle.plx_rules.proofs.Maps.{set-is-map}
use Rattle.law_run.specs.AllowedAsks.{take_of_blocks}
use Rattle.law_run.specs.CommandLogs.{Exchange, CommandLog}
use Rattle.law_run.specs.Holdings.{hand_by_log, hold_by_log}
use Rattle.law_run.proofs.ClaimRules.{begun-first}
use Rattle.law_run.proofs.FreeBlocks.{has-take, map-is}
use Rattle.law_run.proofs.Hands.{HasBlock, hand-fewer, has-head, has-parts, has-tail}
use Rattle.law_run.proofs.Holding.{hold-stays}
use Rattle.law_run.specs.Machines.{IsOfBlock}
use Rattle.law_run.proofs.Machines.{MeetsWork, meets-keeps}
use Rattle.law_run.proofs.Right.{clock, read_of}
use Rattle.law_run.proofs.Runs.{HasFirst}
use Rattle.plx_alloc.specs.TakeRules.{MayBeginExtentTake, ShowsExtentTake, ExtentTakesKeepRules, blocks_taken, damaged, missed, none_taken, reached, some_taken, extent_take_bound, extent_take_work, unread, unwritten}

-- with fewer blocks in hand, what was free is free
free-step : (hand less : List ℕ) (m b : ℕ) (bits : List Bool) (one other : Bool) → (other ≡ true → one ≡ true) →
    (HasBlock (free_from hand (m + 1) bits) b → HasBlock (free_from less (m + 1) bits) b) →
    HasBlock (if one then free_from hand (m + 1) bits else m ∷ free_from hand (m + 1) bits) b → HasBlock (if other then free_from less (m + 1) bits else m ∷ free_from less (m + 1) bits) b
free-step hand less m b bits true true wider later has = later has
free-step hand less m b bits true false wider later has = has-tail b m (free_from less (m + 1) bits) (later has)
free-step hand less m b bits false true wider later has = let P : ⊥ = let e : false ≡ true = wider refl in cc in absurd P
free-step hand less m b bits false false wider later has = elim (has-parts b m (free_from hand (m + 1) bits) has) [
  | inl same ↦ has-head b m (free_from less (m + 1) bits) same
  | inr there ↦ has-tail b m (free_from less (m + 1) bits) (later there)
]

free-still : (hand less : List ℕ) (m b : ℕ) (bits : List Bool) → ((c : ℕ) → HasBlock less c → HasBlock hand c) → HasBlock (free_from hand m bits) b → HasBlock (free_from less m bits) b
free-still hand less m b [] fewer has = has
free-still hand less m b (true ∷ bits) fewer has = free-still hand less (m + 1) b bits fewer has
free-still hand less m b (false ∷ bits) fewer has =
    free-step hand less m b bits (is_in m hand) (is_in m less) (fewer m) (free-still hand less (m + 1) b bits fewer) has

module _ (s : Setting) (log : CommandLog) (count extent until : ℕ) (t : Taking) (follows : Taking → End) (may : MayBeginExtentTake s log extent until t) where
  abbrev place : ℕ
  place = map_at s.geometry extent

  abbrev read : List ℕ → List Exchange
  read bytes = read_of place bytes ∷ log.exchanges

  abbrev Takes : List Exchange → Process End → ℕ → Type 0
  Takes done process n = MeetsWork s log (IsOfBlock place) (ShowsExtentTake s count extent until t follows) done process n

  has : HasFirst log.exchanges
  has = begun-first log.exchanges may.others may.first may.begun

  -- once the map was read, the lease is held still, and what was free is free
  held-read : (bytes : List ℕ) → hold_by_log s log.before (read bytes) (extent_lease s.geometry extent) ≡ Held may.claim until
  held-read bytes = hold-stays s log.before log.exchanges (read_of place bytes) (extent_lease s.geometry extent) may.claim until has tt may.held

  free-read : (bytes : List ℕ) (bits : List Bool) (blocks : List ℕ) → blocks_taken s count extent t bits ≡ blocks → (b : ℕ) → is_in b blocks ≡ true →
      is_in b (free_from (hand_by_log s log.before (read bytes)) place bits) ≡ true
  free-read bytes bits blocks same b among =
      free-still t.hand (hand_by_log s log.before (read bytes)) place b bits
      (λ c now. subst (λ (hand : List ℕ). HasBlock hand c) may.hand (hand-fewer s log.before (read_of place bytes) log.exchanges c has now))
      (has-take (count - length t.hand) (free_from t.hand place bits) b (subst (λ (l : List ℕ). HasBlock l b) (sym same) among))

  abbrev uses : List InUse
  uses = extent_use s.geometry extent until ∷ t.uses

  -- the reading after bytes that are no map
  by-reading : (bytes : List ℕ) (last : ℕ) (found : Option InUse) → read_map s.geometry.extent_blocks bytes ≡ None → first_reached uses last ≡ found →
      Takes (clock last ∷ read bytes) (unless_reached found (λ due. lost_process s t.known due last) (ends (reply.Damaged (record { 0 = place })) t.known)) 0
  by-reading bytes last (Some due) none is = reached due last (read bytes, refl) is
  by-reading bytes last None none is = damaged bytes last (inr (inl refl)) none (read bytes, refl) is

  by-blocks : (bytes : List ℕ) (bits : List Bool) → read_map s.geometry.extent_blocks bytes ≡ Some bits → (blocks : List ℕ) → blocks_taken s count extent t bits ≡ blocks →
      Takes (read bytes) (set_process s extent until bits blocks (λ t. Ends (follows t)) t) 1
  by-blocks bytes bits is [] same = none_taken bytes bits (log.exchanges, refl) is same
  by-blocks bytes bits is (block ∷ blocks) same = (
    (
      (
        (tt, may.went),
        take_of_blocks extent may.claim bytes bits (block ∷ blocks) may.within refl (held-read bytes) (log.exchanges, refl) is
            (free-read bytes bits (block ∷ blocks) same) (set-is-map s.geometry.extent_blocks (block ∷ blocks) place bits (map-is s.geometry.extent_blocks bytes bits is)) refl,
      ),
      refl,
    ),
    some_taken bits (block ∷ blocks) same (read bytes, refl),
    unwritten (map_bytes (with_set (block ∷ blocks) place bits)) (read bytes, refl),
    λ reading past small. missed (map_bytes (with_set (block ∷ blocks) place bits)) reading (read bytes, refl),
  )

  by-map : (bytes : List ℕ) (found : Option (List Bool)) → read_map s.geometry.extent_blocks bytes ≡ found →
      Takes (read bytes) (take_found s count extent until found (λ t. Ends (follows t)) t) 1
  by-map bytes None is = ((((tt, may.went), tt), tt), λ last small. by-reading bytes last (first_reached uses last) is refl)
  by-map bytes (Some bits) is = by-blocks bytes bits is (blocks_taken s count extent t bits) refl

  take-meets : Takes log.exchanges (extent_take_work s count extent until t follows) extent_take_bound
  take-meets = (
    ((may.went, tt), refl),
    λ bytes long. by-map bytes (read_map s.geometry.extent_blocks bytes) refl,
    unread (log.exchanges, refl),
  )

pub extent-takes-keep-rules : ExtentTakesKeepRules
extent-takes-keep-rules s log count extent until t follows may =
    meets-keeps s log (IsOfBlock (map_at s.geometry extent)) (ShowsExtentTake s count extent until t follows) (extent_take_work s count extent until t follows) extent_take_bound
    (take-meets s log count extent until t follows may)
