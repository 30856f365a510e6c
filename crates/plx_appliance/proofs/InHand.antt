-- The blocks in hand, by what is held of the leases of extents.
use Rattle.std.proofs.Common.{◌≡◌, ℕ, suc, ◌<◌, List, [], ◌∷◌, Option, Some, None, Bool, true, false, refl, ap, ◌∙◌, arith}
use Rattle.std.specs.Prelude.{◌==◌, if◌then◌else◌}
use Rattle.plx_base.specs.declared.write_kind.WriteKind.{WriteKind}
use Rattle.plx_base.specs.declared.write_kind.WriteKind.TheVariants as kind
use Rattle.plx_base.specs.declared.numbers.BlockNo.{BlockNo}
use Rattle.plx_commands.specs.declared.reply.Reply.{Reply}
use Rattle.plx_commands.specs.declared.reply.Reply.TheVariants as reply
use Rattle.plx_disk.specs.declared.ask.Ask.{Ask}
use Rattle.plx_disk.specs.declared.ask.Ask.TheVariants as ask
use Rattle.plx_disk.specs.declared.ask.Answer.{Answer}
use Rattle.plx_disk.specs.declared.ask.Answer.TheVariants as answer
use Rattle.plx_geom.specs.Geometry.{Geometry, IsGeometry, extent_lease, lease_at}
use Rattle.std.proofs.Math.Nat.{div-lt_iff_lt-mul}
use Rattle.plx_alloc.specs.Pools.{AreInPool, IsInPool}
use Rattle.plx_alloc.specs.Tables.{numbers}
use Rattle.plx_rules.specs.Hands.{blocks_without, filled_answered, filled_done, hand_answered, hand_from, hand_held, hand_left, hand_unlinked, hand_written, is_held}
use Rattle.plx_rules.specs.Holds.{Hold, Nothing, Seen, Wrote, Waited, Held}
use Rattle.plx_rules.specs.Rests.{extent_of}
use Rattle.plx_extent.specs.Maps.{bits_of}
use Rattle.plx_alloc.specs.Asking.{SparesHand}
use Rattle.plx_appliance.specs.AfterReply.{hand_after_reply, leases_after}
use Rattle.plx_appliance.specs.Holding.{HoldsAs, DropsNothing, image_leases_after_write, dropped_hand, hold_without_claim}
use Rattle.plx_appliance.specs.Space.{AreWithin, held_hand}
use Rattle.plx_appliance.proofs.Entered.{held-extent}

is-held-settled : (hold : Hold) → is_held hold ≡ is_held (hold_without_claim hold)
is-held-settled Nothing = refl
is-held-settled (Seen sample) = refl
is-held-settled (Wrote claim until) = refl
is-held-settled (Waited claim until) = refl
is-held-settled (Held claim until) = refl

kept-or-not : (b c : Bool) (block : ℕ) (some other : List ℕ) → b ≡ c → some ≡ other → (if b then block ∷ some else some) ≡ (if c then block ∷ other else other)
kept-or-not b c block some other e same = ap (λ (t : Bool). if t then block ∷ some else some) e ∙ ap (λ (l : List ℕ). if c then block ∷ l else l) same

-- what stays in hand by the log is what stays by the leases that are kept
pub hand-as : (g : Geometry) (leases extents holds : ℕ → Hold) (hand : List ℕ) → HoldsAs g leases extents holds → AreWithin g hand →
    hand_held g holds hand ≡ held_hand g extents hand
hand-as g leases extents holds [] h within = refl
hand-as g leases extents holds (block ∷ hand) h within =
    let extent = extent_of g block in
    let below = within.0 in
    let here : is_held (holds (lease_at (extent_lease g extent))) ≡ is_held (extents extent) =
    is-held-settled (holds (lease_at (extent_lease g extent)))
    ∙ ap is_held (h (extent_lease g extent) (omega (arith, below)) ∙ held-extent g leases extents extent) in
    kept-or-not (is_held (holds (lease_at (extent_lease g extent)))) (is_held (extents extent)) block (hand_held g holds hand) (held_hand g extents hand) here
    (hand-as g leases extents holds hand h within.1)

-- no lease is held, and no block stays
pub none-in-hand : (g : Geometry) (hand : List ℕ) → held_hand g (λ extent. Nothing) hand ≡ []
none-in-hand g [] = refl
none-in-hand g (block ∷ hand) = none-in-hand g hand

pub dropped-hand : (g : Geometry) (extents : ℕ → Hold) (q : Ask) (a : Answer) (hand all : List ℕ) → held_hand g extents all ≡ hand →
    held_hand g (image_leases_after_write q a extents) all ≡ dropped_hand q a hand
dropped-hand g extents (ask.Read block) a hand all h = h
dropped-hand g extents (ask.Write k block guard) (answer.Bytes b) hand all h = h
dropped-hand g extents (ask.Write k block guard) answer.Done hand all h = h
dropped-hand g extents (ask.Write k block guard) (answer.Reading r) hand all h = h
dropped-hand g extents (ask.Write k block guard) (answer.Missed r) hand all h = none-in-hand g all
dropped-hand g extents (ask.Write k block guard) answer.Fault hand all h = none-in-hand g all
dropped-hand g extents ask.Clock a hand all h = h
dropped-hand g extents (ask.Until from) a hand all h = h

-- after an answer that keeps what is held the hand stays
pub kept-hand : (q : Ask) (a : Answer) (hand : List ℕ) → DropsNothing q a → dropped_hand q a hand ≡ hand
kept-hand (ask.Read block) a hand kept = refl
kept-hand (ask.Write k block guard) (answer.Bytes b) hand kept = refl
kept-hand (ask.Write k block guard) answer.Done hand kept = refl
kept-hand (ask.Write k block guard) (answer.Reading r) hand kept = refl
kept-hand (ask.Write k block guard) (answer.Missed r) hand kept = absurd kept
kept-hand (ask.Write k block guard) answer.Fault hand kept = absurd kept
kept-hand ask.Clock a hand kept = refl
kept-hand (ask.Until from) a hand kept = refl

pub reply-hand : (g : Geometry) (extents : ℕ → Hold) (r : Reply) (hand all : List ℕ) → held_hand g extents all ≡ hand →
    held_hand g (leases_after r extents) all ≡ hand_after_reply r hand
reply-hand g extents (reply.Attached report) hand all h = h
reply-hand g extents reply.Detached hand all h = h
reply-hand g extents reply.Created hand all h = h
reply-hand g extents reply.Deleted hand all h = h
reply-hand g extents (reply.Data payload) hand all h = h
reply-hand g extents (reply.Written number) hand all h = h
reply-hand g extents (reply.Flushed applied blocks) hand all h = h
reply-hand g extents reply.Reserved hand all h = h
reply-hand g extents reply.Renewed hand all h = h
reply-hand g extents reply.Retired hand all h = h
reply-hand g extents (reply.Reclaimed covered freed reads) hand all h = h
reply-hand g extents reply.NotAttached hand all h = h
reply-hand g extents reply.AlreadyAttached hand all h = h
reply-hand g extents reply.NoImage hand all h = h
reply-hand g extents reply.Exists hand all h = h
reply-hand g extents (reply.OutOfRange size) hand all h = h
reply-hand g extents (reply.Busy lease seen) hand all h = h
reply-hand g extents (reply.Lost lease until reading) hand all h = none-in-hand g all
reply-hand g extents (reply.ReadFault block) hand all h = h
reply-hand g extents (reply.WriteFault block) hand all h = h
reply-hand g extents reply.Full hand all h = h
reply-hand g extents (reply.Damaged block) hand all h = h
reply-hand g extents (reply.WornOut count) hand all h = h

-- a write that takes and gives back no block
written-spare : (k : WriteKind) (block : BlockNo) (guard map : ℕ) (old new : List Bool) (hand : List ℕ) → SparesHand (ask.Write k block guard) →
    hand_written k map old new hand ≡ hand
written-spare kind.Claim block guard map old new hand spare = refl
written-spare kind.Renew block guard map old new hand spare = refl
written-spare kind.Release block guard map old new hand spare = refl
written-spare kind.Take block guard map old new hand spare = absurd spare
written-spare kind.Give block guard map old new hand spare = absurd spare
written-spare kind.Sweep block guard map old new hand spare = refl
written-spare kind.Fresh block guard map old new hand spare = refl
written-spare kind.Link block guard map old new hand spare = refl
written-spare kind.Overwrite block guard map old new hand spare = refl
written-spare kind.Record block guard map old new hand spare = refl
written-spare kind.Log block guard map old new hand spare = refl
written-spare kind.JData block guard map old new hand spare = refl
written-spare kind.JCommit block guard map old new hand spare = refl

same-anyway : (b : Bool) (one other : List ℕ) → one ≡ other → (if b then one else other) ≡ other
same-anyway true one other e = e
same-anyway false one other e = refl

from-spare : (g : Geometry) (found : Option (ℕ × List ℕ)) (k : WriteKind) (block : BlockNo) (guard : ℕ) (bytes hand : List ℕ) → SparesHand (ask.Write k block guard) →
    hand_from g found k block.0 bytes hand ≡ hand
from-spare g None k block guard bytes hand spare = refl
from-spare g (Some found) k block guard bytes hand spare =
    same-anyway (found.0 == block.0) (hand_written k block.0 (bits_of g.extent_blocks found.1) (bits_of g.extent_blocks bytes) hand) hand
    (written-spare k block guard block.0 (bits_of g.extent_blocks found.1) (bits_of g.extent_blocks bytes) hand spare)

-- an ask that takes and gives back no block
pub spares-hand : (g : Geometry) (found : Option (ℕ × List ℕ)) (q : Ask) (bytes : List ℕ) (a : Answer) (hand : List ℕ) → SparesHand q →
    hand_answered g found q bytes a hand ≡ hand
spares-hand g found (ask.Read block) bytes a hand spare = refl
spares-hand g found (ask.Write k block guard) bytes (answer.Bytes b) hand spare = refl
spares-hand g found (ask.Write k block guard) bytes answer.Done hand spare = from-spare g found k block guard bytes hand spare
spares-hand g found (ask.Write k block guard) bytes (answer.Reading r) hand spare = refl
spares-hand g found (ask.Write k block guard) bytes (answer.Missed r) hand spare = refl
spares-hand g found (ask.Write k block guard) bytes answer.Fault hand spare = refl
spares-hand g found ask.Clock bytes a hand spare = refl
spares-hand g found (ask.Until from) bytes a hand spare = refl

-- ---- what is filled and linked

-- an ask that fills no block
abbrev pub FillsNone : Ask → Type 0
FillsNone (ask.Write kind.Fresh block guard) = ⊥
FillsNone other = Unit {0}

-- so is one that leaves the hand
pub spares-fills : (q : Ask) → SparesHand q → FillsNone q
spares-fills (ask.Write kind.Fresh block guard) spare = absurd spare
spares-fills (ask.Write k block guard) spare = tt
spares-fills (ask.Read block) spare = tt
spares-fills ask.Clock spare = tt
spares-fills (ask.Until from) spare = tt

-- where nothing was filled, nothing is filled then
pub unfilled-after : (q : Ask) (bytes : List ℕ) (a : Answer) → FillsNone q → filled_answered q bytes a [] ≡ []
unfilled-after (ask.Write k block guard) bytes answer.Done none = by-kind k none
  where
    by-kind : (k' : WriteKind) → FillsNone (ask.Write k' block guard) → filled_done k' block.0 bytes [] ≡ []
    by-kind kind.Fresh none' = absurd none'
    by-kind kind.Link none' = refl
    by-kind kind.Record none' = refl
    by-kind other none' = refl
unfilled-after (ask.Write k block guard) bytes (answer.Bytes b) none = refl
unfilled-after (ask.Write k block guard) bytes (answer.Reading r) none = refl
unfilled-after (ask.Write k block guard) bytes (answer.Missed r) none = refl
unfilled-after (ask.Write k block guard) bytes answer.Fault none = refl
unfilled-after (ask.Read block) bytes a none = refl
unfilled-after ask.Clock bytes a none = refl
unfilled-after (ask.Until from) bytes a none = refl

-- and nothing leaves the hand by a link
without-none : (hand : List ℕ) → blocks_without [] hand ≡ hand
without-none [] = refl
without-none (block ∷ hand) = ap (λ (l : List ℕ). block ∷ l) (without-none hand)

pub left-unfilled : (q : Ask) (filled : List (ℕ × List ℕ)) (hand : List ℕ) → filled ≡ [] → hand_left q filled hand ≡ hand
left-unfilled q filled hand none = ap (λ (f : List (ℕ × List ℕ)). hand_left q f hand) none ∙ by-ask q
  where
    by-kind : (k : WriteKind) → hand_unlinked k [] hand ≡ hand
    by-kind kind.Link = without-none hand
    by-kind kind.Record = without-none hand
    by-kind other = refl

    by-ask : (r : Ask) → hand_left r [] hand ≡ hand
    by-ask (ask.Write k block guard) = by-kind k
    by-ask (ask.Read block) = refl
    by-ask ask.Clock = refl
    by-ask (ask.Until from) = refl

-- ---- blocks of pools

extent-of-below : (g : Geometry) (block : ℕ) → IsGeometry g → IsInPool g block → extent_of g block < g.extents
extent-of-below g block limits pool =
    let low = pool.low in
    let high = pool.high in
    let some = limits.blocks_low in
    (div-lt_iff_lt-mul (omega (arith, some))).1 (omega (arith, low, high))

-- what is in hand lies in extents of the geometry
pub hand-within : (g : Geometry) (blocks : List BlockNo) → IsGeometry g → AreInPool g blocks → AreWithin g (numbers blocks)
hand-within g [] limits pool = tt
hand-within g (block ∷ blocks) limits pool =
    (extent-of-below g block.0 limits (pool 0 block (omega arith)), hand-within g blocks limits (λ k d below. pool (suc k) d (omega (arith, below))))

-- what stays in hand stays again
pub held-twice : (g : Geometry) (extents : ℕ → Hold) (hand : List ℕ) → held_hand g extents (held_hand g extents hand) ≡ held_hand g extents hand
held-twice g extents [] = refl
held-twice g extents (block ∷ hand) = by_test (is_held (extents (extent_of g block))) refl (held-twice g extents hand)
  where
    by_test : (b : Bool) → is_held (extents (extent_of g block)) ≡ b → held_hand g extents (held_hand g extents hand) ≡ held_hand g extents hand →
        held_hand g extents (if b then block ∷ held_hand g extents hand else held_hand g extents hand) ≡ (if b then block ∷ held_hand g extents hand else held_hand g extents hand)
    by_test true e rest = ap (λ (b : Bool). if b then block ∷ held_hand g extents (held_hand g extents hand) else held_hand g extents (held_hand g extents hand)) e
        ∙ ap (λ (l : List ℕ). block ∷ l) rest
    by_test false e rest = rest
