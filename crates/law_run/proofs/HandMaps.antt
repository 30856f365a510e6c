-- No block in hand is a map.
use Rattle.std.proofs.Common.{◌≡◌, ◌≢◌, ℕ, zero, suc, ◌+◌, ◌≤◌, ◌<◌, List, [], ◌∷◌, ◌++◌, Bool, true, false, get_or, length, ap, sym, subst, ◌∙◌, arith, inl, inr}
use Rattle.std.specs.Prelude.{◌==◌, if◌then◌else◌}
use Rattle.plx_base.specs.declared.write_kind.WriteKind.TheVariants as kind
use Rattle.plx_commands.specs.declared.command.Command.{Command}
use Rattle.plx_disk.specs.declared.ask.Ask.{Ask}
use Rattle.plx_disk.specs.declared.ask.Ask.TheVariants as ask
use Rattle.plx_disk.specs.declared.ask.Answer.{Answer}
use Rattle.plx_disk.specs.declared.ask.Answer.TheVariants as answer
use Rattle.plx_extent.proofs.Maps.{length-bits_from}
use Rattle.plx_extent.specs.Maps.{bits_of}
use Rattle.plx_geom.proofs.Places.{map-pool}
use Rattle.plx_geom.specs.Geometry.{Geometry, extent_lease, lease_at, map_at}
use Rattle.plx_rules.specs.Hands.{is_held, set_since, hand_from, hand_answered, hand_held}
use Rattle.plx_rules.specs.Holds.{Hold}
use Rattle.plx_rules.specs.Rests.{extent_of}
use Rattle.plx_rules.specs.Settings.{Setting}
use Rattle.law_run.specs.AllowedAsks.{MayWrite, MayAsk, take_of_blocks}
use Rattle.law_run.specs.CommandLogs.{Exchange, Finished, CommandLog}
use Rattle.law_run.specs.Holdings.{holds_along, holds_after, last_found, hand_told, hand_after, hand_by_log, filled_by_log}
use Rattle.law_run.specs.Rules.{AllAllowed, AllKept}
use Rattle.law_run.specs.Sessions.{is_attached}
use Rattle.law_run.proofs.FreeBlocks.{since-clear, own-read}
use Rattle.law_run.proofs.Hands.{HasBlock, has-append, has-filter, give-fewer, told-quiet, left-has}
use Rattle.law_run.proofs.Right.{log_on}
use Rattle.law_run.specs.Senses.{IsAny}

-- none of these blocks is a map
abbrev pub AreNoMaps : Geometry → List ℕ → Type 0
AreNoMaps g hand = (b : ℕ) → HasBlock hand b → (extent : ℕ) → b ≢ map_at g extent

-- what a map's write sets is past the map's own block, whose bit was set
since-no-maps : (g : Geometry) (extent : ℕ) (old new : List Bool) → get_or old 0 false ≡ true → (b : ℕ) → HasBlock (set_since (map_at g extent) old new) b → (i : ℕ) × (b ≡ map_at g extent + i) × (1 ≤ i) × (i < length old)
since-no-maps g extent old new own b has =
    let c = since-clear b (map_at g extent) old new has in (c.0, c.1, positive c.0 c.3, c.2)
  where
    positive : (i : ℕ) → get_or old i false ≡ false → 1 ≤ i
    positive zero clear = absurd (let e : true ≡ false = sym own ∙ clear in let P : ⊥ = cc in P)
    positive (suc i) clear = omega arith

take-no-maps : (s : Setting) (log : CommandLog) (block : ℕ) (bytes : List ℕ) (guard : ℕ) (hand : List ℕ) → MayWrite s log kind.Take block bytes guard →
    AreNoMaps s.geometry hand → AreNoMaps s.geometry (hand_from s.geometry (last_found log.exchanges) kind.Take block bytes hand)
take-no-maps s log block bytes guard hand (take_of_blocks extent claim read bits blocks below here held was spells free limits wrote) none b has other =
    by-found (block == block) (subst (λ (found : _). HasBlock (hand_from s.geometry found kind.Take block bytes hand) b) (ap last_found was.1) has)
  where
    by-found : (test : Bool) → HasBlock (if test then hand ++ set_since block (bits_of s.geometry.extent_blocks read) (bits_of s.geometry.extent_blocks bytes) else hand) b → b ≢ map_at s.geometry other
    by-found false has' = none b has' other
    by-found true has' = elim (has-append hand (set_since block (bits_of s.geometry.extent_blocks read) (bits_of s.geometry.extent_blocks bytes)) b has') [
      | inl old ↦ none b old other
      | inr new ↦
          let i = since-no-maps s.geometry extent (bits_of s.geometry.extent_blocks read) (bits_of s.geometry.extent_blocks bytes) (own-read s.geometry.extent_blocks read bits spells) b
          (subst (λ n. HasBlock (set_since n (bits_of s.geometry.extent_blocks read) (bits_of s.geometry.extent_blocks bytes)) b) here new) in
          let long = length-bits_from s.geometry.extent_blocks 0 read in
          λ same. map-pool s.geometry other extent i.0 i.2 (omega (arith, i.3, long)) (sym same ∙ i.1)
    ]

told-no-maps : (s : Setting) (log : CommandLog) (a : Ask) (bytes : List ℕ) (x : Answer) (hand : List ℕ) → MayAsk s log a bytes →
    AreNoMaps s.geometry hand → AreNoMaps s.geometry (hand_answered s.geometry (last_found log.exchanges) a bytes x hand)
told-no-maps s log (ask.Write kind.Take block guard) bytes answer.Done hand may none = take-no-maps s log block.0 bytes guard hand may.1 none
told-no-maps s log (ask.Write kind.Give block guard) bytes answer.Done hand may none = λ b has. none b (give-fewer s.geometry (last_found log.exchanges) block.0 bytes hand b has)
told-no-maps s log (ask.Write k block guard) bytes answer.Done hand may none =
    subst (AreNoMaps s.geometry) (sym (told-quiet s.geometry (last_found log.exchanges) (ask.Write k block guard) bytes answer.Done hand tt)) none
told-no-maps s log a bytes x hand may none = none

held-no-maps : (g : Geometry) (holds : ℕ → Hold) (hand : List ℕ) → AreNoMaps g hand → AreNoMaps g (hand_held g holds hand)
held-no-maps g holds hand none b has = none b (has-filter (λ c. is_held (holds (lease_at (extent_lease g (extent_of g c))))) hand b has).0

along-no-maps : (s : Setting) (before : List Finished) (command : Command) (done : List Exchange) → AllAllowed s before command done → AreNoMaps s.geometry (hand_after s.geometry before) →
    AreNoMaps s.geometry (hand_told s.geometry (is_attached before) (holds_after s.geometry before) (hand_after s.geometry before) done)
along-no-maps s before command [] allowed none = none
along-no-maps s before command (x ∷ []) allowed none = none
along-no-maps s before command (x ∷ last ∷ older) allowed none =
    λ b has. told-no-maps s (log_on before command (last ∷ older)) x.ask x.bytes x.answer (hand_by_log s before (last ∷ older)) allowed.0
    (held-no-maps s.geometry (holds_along s.geometry (is_attached before) (holds_after s.geometry before) (last ∷ older)) _ (along-no-maps s before command (last ∷ older) allowed.1 none))
    b (left-has x.ask (filled_by_log s before (last ∷ older)) _ b has)

-- after commands that kept the rules
kept-no-maps : (s : Setting) (before : List Finished) → AllKept s IsAny before → AreNoMaps s.geometry (hand_after s.geometry before)
kept-no-maps s [] kept b has = absurd (let P : ⊥ = cc in P)
kept-no-maps s (finished ∷ before) kept b has =
    held-no-maps s.geometry (holds_after s.geometry (finished ∷ before)) _
    (along-no-maps s before finished.command finished.exchanges kept.0.allowed (kept-no-maps s before kept.1)) b has

-- and along one that keeps them
pub hand-no-maps : (s : Setting) (before : List Finished) (command : Command) (done : List Exchange) → AllKept s IsAny before → AllAllowed s before command done →
    AreNoMaps s.geometry (hand_by_log s before done)
hand-no-maps s before command [] kept allowed = kept-no-maps s before kept
hand-no-maps s before command (x ∷ done) kept allowed =
    held-no-maps s.geometry (holds_along s.geometry (is_attached before) (holds_after s.geometry before) (x ∷ done)) _
    (along-no-maps s before command (x ∷ done) allowed (kept-no-maps s before kept))
