-- The hand along a command: only takes add to it, and only blocks of extents whose leases are held stay in it.
use Rattle.std.proofs.Common.{◌≡◌, ◌≢◌, ℕ, suc, ◌+◌, ◌-◌, ◌*◌, ◌/◌, ◌≤◌, ◌<◌, List, [], ◌∷◌, ◌++◌, length, Bool, true, false, Option, Some, None, refl, ap, sym, subst, ◌∙◌, arith, inl, inr, ◌⊎◌}
use Rattle.std.specs.Prelude.{filter, if◌then◌else◌, not, ◌&&◌, ◌||◌, ◌==◌}
use Rattle.std.proofs.lemmas.Bool.Decides.{eqb_tells}
use Rattle.std.proofs.lemmas.Nat.{div-mul-add}
use Rattle.plx_base.proofs.Tests.{eqb-true}
use Rattle.plx_base.specs.declared.write_kind.WriteKind.{WriteKind}
use Rattle.plx_base.specs.declared.write_kind.WriteKind.TheVariants as kind
use Rattle.plx_commands.specs.Replies.{is_in}
use Rattle.plx_commands.specs.declared.command.Command.{Command}
use Rattle.plx_disk.specs.declared.ask.Ask.{Ask}
use Rattle.plx_disk.specs.declared.ask.Ask.TheVariants as ask
use Rattle.plx_disk.specs.declared.ask.Answer.{Answer}
use Rattle.plx_disk.specs.declared.ask.Answer.TheVariants as answer
use Rattle.plx_extent.proofs.Maps.{length-bits_from}
use Rattle.plx_extent.specs.Maps.{bits_of}
use Rattle.plx_geom.specs.Geometry.{Geometry, extent_lease, lease_at, extents_start, map_at}
use Rattle.plx_rules.specs.Hands.{is_held, set_since, blocks_without, hand_written, hand_from, hand_answered, hand_held, hand_left, hand_unlinked}
use Rattle.plx_rules.specs.Holds.{Hold, Nothing, Seen, Wrote, Waited, Held}
use Rattle.plx_rules.specs.Rests.{extent_of, filled_blocks}
use Rattle.plx_rules.specs.Settings.{Setting}
use Rattle.law_run.specs.AllowedAsks.{MayWrite, MayAsk, take_of_blocks}
use Rattle.law_run.specs.CommandLogs.{Exchange, Finished, CommandLog}
use Rattle.law_run.specs.Holdings.{holds_along, holds_after, last_found, hand_told, hand_after, hand_by_log, filled_by_log, hold_by_log}
use Rattle.law_run.specs.Rules.{AllAllowed, AllKept}
use Rattle.law_run.specs.Sessions.{is_attached}
use Rattle.law_run.proofs.Right.{log_on, IsHeld}
use Rattle.law_run.proofs.Runs.{HasFirst, told-more}
use Rattle.law_run.specs.Senses.{IsAny}

-- ---- blocks in a list

-- a block is among these
abbrev pub HasBlock : List ℕ → ℕ → Type 0
HasBlock blocks b = is_in b blocks ≡ true

pub has-head : (b x : ℕ) (xs : List ℕ) → b ≡ x → HasBlock (x ∷ xs) b
has-head b x xs same = rw (eqb-true b x same) refl

pub has-tail : (b x : ℕ) (xs : List ℕ) → HasBlock xs b → HasBlock (x ∷ xs) b
has-tail b x xs has = by-test (b == x)
  where
    by-test : (test : Bool) → (test || is_in b xs) ≡ true
    by-test true = refl
    by-test false = has

pub has-parts : (b x : ℕ) (xs : List ℕ) → HasBlock (x ∷ xs) b → (b ≡ x) ⊎ HasBlock xs b
has-parts b x xs has = elim (eqb_tells b x) [
  | inl same ↦ inl same.1
  | inr apart ↦ inr (subst (λ (t : Bool). (t || is_in b xs) ≡ true) apart.0 has)
]

in-filtered : (p : ℕ → Bool) (x : ℕ) (xs : List ℕ) (b : ℕ) → (HasBlock (filter p xs) b → HasBlock xs b × (p b ≡ true)) → (test : Bool) → p x ≡ test →
    HasBlock (if test then x ∷ filter p xs else filter p xs) b → HasBlock (x ∷ xs) b × (p b ≡ true)
in-filtered p x xs b rest true is has = elim (has-parts b x (filter p xs) has) [
  | inl same ↦ (has-head b x xs same, ap p same ∙ is)
  | inr there ↦ (has-tail b x xs (rest there).0, (rest there).1)
]
in-filtered p x xs b rest false is has = (has-tail b x xs (rest has).0, (rest has).1)

-- a block that a filter leaves passes its test
pub has-filter : (p : ℕ → Bool) (xs : List ℕ) (b : ℕ) → HasBlock (filter p xs) b → HasBlock xs b × (p b ≡ true)
has-filter p [] b has = absurd (let P : ⊥ = cc in P)
has-filter p (x ∷ xs) b has = in-filtered p x xs b (has-filter p xs b) (p x) refl has

filtered-in : (p : ℕ → Bool) (x : ℕ) (xs : List ℕ) (b : ℕ) → (HasBlock xs b → HasBlock (filter p xs) b) → p b ≡ true → (test : Bool) → p x ≡ test → HasBlock (x ∷ xs) b →
    HasBlock (if test then x ∷ filter p xs else filter p xs) b
filtered-in p x xs b rest passes true is has = elim (has-parts b x xs has) [
  | inl same ↦ has-head b x (filter p xs) same
  | inr there ↦ has-tail b x (filter p xs) (rest there)
]
filtered-in p x xs b rest passes false is has = elim (has-parts b x xs has) [
  | inl same ↦ absurd (let e : true ≡ false = sym passes ∙ (ap p same ∙ is) in let P : ⊥ = cc in P)
  | inr there ↦ rest there
]

-- and one that passes is left
pub filter-has : (p : ℕ → Bool) (xs : List ℕ) (b : ℕ) → HasBlock xs b → p b ≡ true → HasBlock (filter p xs) b
filter-has p [] b has passes = absurd (let P : ⊥ = cc in P)
filter-has p (x ∷ xs) b has passes = filtered-in p x xs b (λ there. filter-has p xs b there passes) passes (p x) refl has

-- where all pass, all are left
pub filter-all : (p : ℕ → Bool) (xs : List ℕ) → ((b : ℕ) → HasBlock xs b → p b ≡ true) → filter p xs ≡ xs
filter-all p [] all = refl
filter-all p (x ∷ xs) all = by-test (p x) (all x (has-head x x xs refl)) (filter-all p xs (λ b has. all b (has-tail b x xs has)))
  where
    by-test : (test : Bool) → test ≡ true → filter p xs ≡ xs → (if test then x ∷ filter p xs else filter p xs) ≡ x ∷ xs
    by-test true is rest = ap (λ (l : List ℕ). x ∷ l) rest
    by-test false is rest = absurd (let P : ⊥ = cc in P)

-- a list that has none is empty
pub none-has : (xs : List ℕ) → ((b : ℕ) → ¬ HasBlock xs b) → xs ≡ []
none-has [] none = refl
none-has (x ∷ xs) none = absurd (none x (has-head x x xs refl))

-- blocks of two lists
pub has-append : (xs ys : List ℕ) (b : ℕ) → HasBlock (xs ++ ys) b → HasBlock xs b ⊎ HasBlock ys b
has-append [] ys b has = inr has
has-append (x ∷ xs) ys b has = elim (has-parts b x (xs ++ ys) has) [
  | inl same ↦ inl (has-head b x xs same)
  | inr there ↦ elim (has-append xs ys b there) [ inl one ↦ inl (has-tail b x xs one) | inr other ↦ inr other ]
]

pub append-left : (xs ys : List ℕ) (b : ℕ) → HasBlock xs b → HasBlock (xs ++ ys) b
append-left [] ys b has = absurd (let P : ⊥ = cc in P)
append-left (x ∷ xs) ys b has = elim (has-parts b x xs has) [
  | inl same ↦ has-head b x (xs ++ ys) same
  | inr there ↦ has-tail b x (xs ++ ys) (append-left xs ys b there)
]

pub append-right : (xs ys : List ℕ) (b : ℕ) → HasBlock ys b → HasBlock (xs ++ ys) b
append-right [] ys b has = has
append-right (x ∷ xs) ys b has = has-tail b x (xs ++ ys) (append-right xs ys b has)

-- ---- blocks of an extent

-- a block from the map of an extent on, within its size, lies in it
pub extent-found : (g : Geometry) (extent b : ℕ) → map_at g extent ≤ b → b < map_at g extent + g.extent_blocks → extent_of g b ≡ extent
extent-found g extent b low high = div-of (extent * g.extent_blocks) (b - map_at g extent) (omega (arith, low, high)) (omega (arith, low))
  where
    div-of : (row j : ℕ) → j < g.extent_blocks → b ≡ map_at g extent + j → extent_of g b ≡ extent
    div-of row j less is = ap (λ n. n / g.extent_blocks) (let e : b - extents_start g ≡ extent * g.extent_blocks + j = omega (arith, is) in e) ∙ div-mul-add extent g.extent_blocks j less

-- the bits that were set since stand for blocks within
pub set-within : (block : ℕ) (old new : List Bool) (b : ℕ) → HasBlock (set_since block old new) b → (block ≤ b) × (b < block + length new)
set-within block [] new b has = absurd (let P : ⊥ = cc in P)
set-within block (was ∷ old) [] b has = absurd (let P : ⊥ = cc in P)
set-within block (was ∷ old) (is ∷ new) b has = by-test (is && not was) has (set-within (block + 1) old new b)
  where
    by-test : (test : Bool) → HasBlock (if test then block ∷ set_since (block + 1) old new else set_since (block + 1) old new) b →
        (HasBlock (set_since (block + 1) old new) b → (block + 1 ≤ b) × (b < block + 1 + length new)) → (block ≤ b) × (b < block + suc (length new))
    by-test true has' rest = elim (has-parts b block (set_since (block + 1) old new) has') [
      | inl same ↦ (omega (arith, same), omega (arith, same))
      | inr there ↦ (let r = rest there in (omega (arith, r.0), omega (arith, r.1)))
    ]
    by-test false has' rest = let r = rest has' in (omega (arith, r.0), omega (arith, r.1))

-- so such a block of a map lies in its extent
pub set-extent : (g : Geometry) (extent : ℕ) (old : List Bool) (new : List ℕ) (b : ℕ) → HasBlock (set_since (map_at g extent) old (bits_of g.extent_blocks new)) b → extent_of g b ≡ extent
set-extent g extent old new b has =
    let r = set-within (map_at g extent) old (bits_of g.extent_blocks new) b has in
    let long = length-bits_from g.extent_blocks 0 new in
    extent-found g extent b r.0 (omega (arith, r.1, long))

-- ---- one more exchange

-- an ask is no take; and none that changes the hand
abbrev pub IsNoTake : Ask → Type 0
IsNoTake (ask.Write kind.Take block guard) = ⊥
IsNoTake a = Unit {0}

abbrev pub IsQuiet : Ask → Type 0
IsQuiet (ask.Write kind.Take block guard) = ⊥
IsQuiet (ask.Write kind.Give block guard) = ⊥
IsQuiet a = Unit {0}

quiet-from : (g : Geometry) (found : Option (ℕ × List ℕ)) (k : WriteKind) (block guard : ℕ) (bytes : List ℕ) (hand : List ℕ) → IsQuiet (ask.Write k (record { 0 = block }) guard) →
    hand_from g found k block bytes hand ≡ hand
quiet-from g None k block guard bytes hand quiet = refl
quiet-from g (Some found) k block guard bytes hand quiet = by-test (found.0 == block) (written k quiet)
  where
    old : List Bool
    old = bits_of g.extent_blocks found.1

    new : List Bool
    new = bits_of g.extent_blocks bytes

    written : (k' : WriteKind) → IsQuiet (ask.Write k' (record { 0 = block }) guard) → hand_written k' block old new hand ≡ hand
    written kind.Take q = absurd q
    written kind.Give q = absurd q
    written other q = refl

    by-test : (test : Bool) → hand_written k block old new hand ≡ hand → (if test then hand_written k block old new hand else hand) ≡ hand
    by-test true is = is
    by-test false is = refl

-- an exchange that changes no map leaves the hand
pub told-quiet : (g : Geometry) (found : Option (ℕ × List ℕ)) (a : Ask) (bytes : List ℕ) (x : Answer) (hand : List ℕ) → IsQuiet a → hand_answered g found a bytes x hand ≡ hand
told-quiet g found (ask.Write k block guard) bytes answer.Done hand quiet = quiet-from g found k block.0 guard bytes hand quiet
told-quiet g found (ask.Write k block guard) bytes x hand quiet = refl
told-quiet g found (ask.Read block) bytes x hand quiet = refl
told-quiet g found ask.Clock bytes x hand quiet = refl
told-quiet g found (ask.Until from) bytes x hand quiet = refl

-- an ask that links nothing
abbrev pub LinksNone : Ask → Type 0
LinksNone (ask.Write kind.Link block guard) = ⊥
LinksNone (ask.Write kind.Record block guard) = ⊥
LinksNone a = Unit {0}

-- takes no block out of the hand
pub left-same : (a : Ask) (filled : List (ℕ × List ℕ)) (hand : List ℕ) → LinksNone a → hand_left a filled hand ≡ hand
left-same (ask.Write k block guard) filled hand none = by-kind k none
  where
    by-kind : (k' : WriteKind) → LinksNone (ask.Write k' block guard) → hand_unlinked k' filled hand ≡ hand
    by-kind kind.Link none' = absurd none'
    by-kind kind.Record none' = absurd none'
    by-kind other none' = refl
left-same (ask.Read block) filled hand none = refl
left-same ask.Clock filled hand none = refl
left-same (ask.Until from) filled hand none = refl

-- and none brings any
pub left-has : (a : Ask) (filled : List (ℕ × List ℕ)) (hand : List ℕ) (b : ℕ) → HasBlock (hand_left a filled hand) b → HasBlock hand b
left-has (ask.Write k block guard) filled hand b has = by-kind k has
  where
    by-kind : (k' : WriteKind) → HasBlock (hand_unlinked k' filled hand) b → HasBlock hand b
    by-kind kind.Link has' = (has-filter (λ c. not (is_in c (filled_blocks filled))) hand b has').0
    by-kind kind.Record has' = (has-filter (λ c. not (is_in c (filled_blocks filled))) hand b has').0
    by-kind other has' = has'
left-has (ask.Read block) filled hand b has = has
left-has ask.Clock filled hand b has = has
left-has (ask.Until from) filled hand b has = has

-- a give leaves the blocks of the other extents
pub give-leaves : (g : Geometry) (found : Option (ℕ × List ℕ)) (extent : ℕ) (bytes : List ℕ) (hand : List ℕ) (b : ℕ) → extent_of g b ≢ extent → HasBlock hand b →
    HasBlock (hand_from g found kind.Give (map_at g extent) bytes hand) b
give-leaves g None extent bytes hand b apart has = has
give-leaves g (Some found) extent bytes hand b apart has = by-test (found.0 == map_at g extent)
  where
    gone : List ℕ
    gone = set_since (map_at g extent) (bits_of g.extent_blocks bytes) (bits_of g.extent_blocks found.1)

    kept : (test : Bool) → is_in b gone ≡ test → not test ≡ true
    kept true is = absurd (apart (set-extent g extent (bits_of g.extent_blocks bytes) found.1 b is))
    kept false is = refl

    by-test : (test : Bool) → HasBlock (if test then blocks_without gone hand else hand) b
    by-test true = filter-has (λ c. not (is_in c gone)) hand b has (kept (is_in b gone) refl)
    by-test false = has

-- and gives none
pub give-fewer : (g : Geometry) (found : Option (ℕ × List ℕ)) (block : ℕ) (bytes : List ℕ) (hand : List ℕ) (b : ℕ) → HasBlock (hand_from g found kind.Give block bytes hand) b → HasBlock hand b
give-fewer g None block bytes hand b has = has
give-fewer g (Some found) block bytes hand b has = by-test (found.0 == block) has
  where
    gone : List ℕ
    gone = set_since block (bits_of g.extent_blocks bytes) (bits_of g.extent_blocks found.1)

    by-test : (test : Bool) → HasBlock (if test then blocks_without gone hand else hand) b → HasBlock hand b
    by-test true has' = (has-filter (λ c. not (is_in c gone)) hand b has').0
    by-test false has' = has'

-- a take adds blocks of its extent
pub take-adds : (g : Geometry) (found : Option (ℕ × List ℕ)) (extent : ℕ) (bytes : List ℕ) (hand : List ℕ) (b : ℕ) → HasBlock (hand_from g found kind.Take (map_at g extent) bytes hand) b →
    HasBlock hand b ⊎ (extent_of g b ≡ extent)
take-adds g None extent bytes hand b has = inl has
take-adds g (Some found) extent bytes hand b has = by-test (found.0 == map_at g extent) has
  where
    more : List ℕ
    more = set_since (map_at g extent) (bits_of g.extent_blocks found.1) (bits_of g.extent_blocks bytes)

    by-test : (test : Bool) → HasBlock (if test then hand ++ more else hand) b → HasBlock hand b ⊎ (extent_of g b ≡ extent)
    by-test true has' = elim (has-append hand more b has') [
      | inl old ↦ inl old
      | inr new ↦ inr (set-extent g extent (bits_of g.extent_blocks found.1) bytes b new)
    ]
    by-test false has' = inl has'

-- ---- along a command

-- the blocks in hand lie in extents whose leases are held
pub hand-more : (s : Setting) (before : List Finished) (x : Exchange) (done : List Exchange) → HasFirst done →
    hand_by_log s before (x ∷ done)
    ≡ hand_held s.geometry (holds_along s.geometry (is_attached before) (holds_after s.geometry before) (x ∷ done))
    (hand_left x.ask (filled_by_log s before done) (hand_answered s.geometry (last_found done) x.ask x.bytes x.answer (hand_by_log s before done)))
hand-more s before x done has =
    ap (hand_held s.geometry (holds_along s.geometry (is_attached before) (holds_after s.geometry before) (x ∷ done)))
    (told-more s.geometry (is_attached before) (holds_after s.geometry before) (hand_after s.geometry before) x done has)

pub hand-is-held : (s : Setting) (before : List Finished) (done : List Exchange) (b : ℕ) → HasFirst done → HasBlock (hand_by_log s before done) b →
    is_held (hold_by_log s before done (extent_lease s.geometry (extent_of s.geometry b))) ≡ true
hand-is-held s before [] b has-first has = absurd has-first
hand-is-held s before (x ∷ done) b has-first has =
    (has-filter (λ c. is_held (holds_along s.geometry (is_attached before) (holds_after s.geometry before) (x ∷ done) (lease_at (extent_lease s.geometry (extent_of s.geometry c)))))
    (hand_told s.geometry (is_attached before) (holds_after s.geometry before) (hand_after s.geometry before) (x ∷ done)) b has).1

-- a lease that is held
pub held-is : (hold : Hold) → is_held hold ≡ true → IsHeld hold
held-is (Held claim until) is = (claim, until, refl)
held-is Nothing is = absurd (let P : ⊥ = cc in P)
held-is (Seen sample) is = absurd (let P : ⊥ = cc in P)
held-is (Wrote claim until) is = absurd (let P : ⊥ = cc in P)
held-is (Waited claim until) is = absurd (let P : ⊥ = cc in P)

-- ---- the blocks in hand are blocks of the geometry's extents

abbrev pub IsWithinExtents : Geometry → List ℕ → Type 0
IsWithinExtents g hand = (b : ℕ) → HasBlock hand b → extent_of g b < g.extents

take-within : (s : Setting) (log : CommandLog) (block : ℕ) (bytes : List ℕ) (guard : ℕ) (found : Option (ℕ × List ℕ)) (hand : List ℕ) → MayWrite s log kind.Take block bytes guard →
    IsWithinExtents s.geometry hand → IsWithinExtents s.geometry (hand_from s.geometry found kind.Take block bytes hand)
take-within s log block bytes guard found hand (take_of_blocks extent claim read bits blocks below here held was spells free limits wrote) within b has =
    elim (take-adds s.geometry found extent bytes hand b (subst (λ c. HasBlock (hand_from s.geometry found kind.Take c bytes hand) b) here has)) [
      | inl old ↦ within b old
      | inr new ↦ omega (arith, below, new)
    ]

told-within : (s : Setting) (log : CommandLog) (found : Option (ℕ × List ℕ)) (a : Ask) (bytes : List ℕ) (x : Answer) (hand : List ℕ) → MayAsk s log a bytes →
    IsWithinExtents s.geometry hand → IsWithinExtents s.geometry (hand_answered s.geometry found a bytes x hand)
told-within s log found (ask.Write kind.Take block guard) bytes answer.Done hand may within = take-within s log block.0 bytes guard found hand may.1 within
told-within s log found (ask.Write kind.Give block guard) bytes answer.Done hand may within = λ b has. within b (give-fewer s.geometry found block.0 bytes hand b has)
told-within s log found (ask.Write k block guard) bytes answer.Done hand may within =
    subst (IsWithinExtents s.geometry) (sym (told-quiet s.geometry found (ask.Write k block guard) bytes answer.Done hand tt)) within
told-within s log found a bytes x hand may within = within

held-within : (g : Geometry) (holds : ℕ → Hold) (hand : List ℕ) → IsWithinExtents g hand → IsWithinExtents g (hand_held g holds hand)
held-within g holds hand within b has = within b (has-filter (λ c. is_held (holds (lease_at (extent_lease g (extent_of g c))))) hand b has).0

along-within : (s : Setting) (before : List Finished) (command : Command) (done : List Exchange) → AllAllowed s before command done → IsWithinExtents s.geometry (hand_after s.geometry before) →
    IsWithinExtents s.geometry (hand_told s.geometry (is_attached before) (holds_after s.geometry before) (hand_after s.geometry before) done)
along-within s before command [] allowed within = within
along-within s before command (x ∷ []) allowed within = within
along-within s before command (x ∷ last ∷ older) allowed within =
    let rest = told-within s (log_on before command (last ∷ older)) (last_found (last ∷ older)) x.ask x.bytes x.answer (hand_by_log s before (last ∷ older)) allowed.0
    (held-within s.geometry (holds_along s.geometry (is_attached before) (holds_after s.geometry before) (last ∷ older)) _ (along-within s before command (last ∷ older) allowed.1 within)) in
    λ b has. rest b (left-has x.ask (filled_by_log s before (last ∷ older)) _ b has)

-- after commands that kept the rules
pub kept-within : (s : Setting) (before : List Finished) → AllKept s IsAny before → IsWithinExtents s.geometry (hand_after s.geometry before)
kept-within s [] kept b has = absurd (let P : ⊥ = cc in P)
kept-within s (finished ∷ before) kept b has =
    held-within s.geometry (holds_after s.geometry (finished ∷ before)) _
    (along-within s before finished.command finished.exchanges kept.0.allowed (kept-within s before kept.1)) b has

-- and along one that keeps them
pub hand-in-extents : (s : Setting) (before : List Finished) (command : Command) (done : List Exchange) → AllKept s IsAny before → AllAllowed s before command done →
    IsWithinExtents s.geometry (hand_by_log s before done)
hand-in-extents s before command [] kept allowed = kept-within s before kept
hand-in-extents s before command (x ∷ done) kept allowed =
    held-within s.geometry (holds_along s.geometry (is_attached before) (holds_after s.geometry before) (x ∷ done)) _
    (along-within s before command (x ∷ done) allowed (kept-within s before kept))

-- ---- one more exchange, by blocks

pub hand-keeps : (s : Setting) (before : List Finished) (x : Exchange) (done : List Exchange) (b : ℕ) → HasFirst done →
    HasBlock (hand_left x.ask (filled_by_log s before done) (hand_answered s.geometry (last_found done) x.ask x.bytes x.answer (hand_by_log s before done))) b →
    is_held (hold_by_log s before (x ∷ done) (extent_lease s.geometry (extent_of s.geometry b))) ≡ true → HasBlock (hand_by_log s before (x ∷ done)) b
hand-keeps s before x done b has-first has held =
    subst (λ (l : List ℕ). HasBlock l b) (sym (hand-more s before x done has-first))
    (filter-has (λ c. is_held (hold_by_log s before (x ∷ done) (extent_lease s.geometry (extent_of s.geometry c))))
    (hand_left x.ask (filled_by_log s before done) (hand_answered s.geometry (last_found done) x.ask x.bytes x.answer (hand_by_log s before done))) b has held)

pub hand-fewer : (s : Setting) (before : List Finished) (x : Exchange) (done : List Exchange) (b : ℕ) → HasFirst done → HasBlock (hand_by_log s before (x ∷ done)) b →
    HasBlock (hand_answered s.geometry (last_found done) x.ask x.bytes x.answer (hand_by_log s before done)) b
hand-fewer s before x done b has-first has =
    left-has x.ask (filled_by_log s before done) _ b
    (has-filter (λ c. is_held (hold_by_log s before (x ∷ done) (extent_lease s.geometry (extent_of s.geometry c))))
    (hand_left x.ask (filled_by_log s before done) (hand_answered s.geometry (last_found done) x.ask x.bytes x.answer (hand_by_log s before done))) b
    (subst (λ (l : List ℕ). HasBlock l b) (hand-more s before x done has-first) has)).0
