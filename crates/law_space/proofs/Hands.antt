-- A block in hand is allocated, and in no other hand.
use Rattle.std.proofs.Common.{◌≡◌, ℕ, ◌-◌, ◌<◌, inl, inr, List, true, Option, Some, None, refl, ap, sym, subst, ◌∙◌, arith}
use Rattle.plx_base.specs.declared.write_kind.WriteKind.{WriteKind}
use Rattle.plx_base.specs.declared.write_kind.WriteKind.TheVariants as kind
use Rattle.plx_commands.specs.Replies.{is_in}
use Rattle.plx_disk.specs.Writes.{Issued}
use Rattle.plx_extent.specs.Maps.{bit_of}
use Rattle.plx_geom.specs.Geometry.{Geometry, extent_lease, map_at}
use Rattle.plx_rules.specs.Boot.{Place, Idle, Begins, In, Configuration}
use Rattle.plx_rules.specs.Hands.{hand_from}
use Rattle.plx_rules.specs.Owners.{pending_write}
use Rattle.plx_rules.specs.Process.{Ends, ReadThen, WriteThen, ClockThen, UntilThen}
use Rattle.plx_rules.specs.Pools.{HandsAllocated, HandsApart, hand_at}
use Rattle.plx_rules.specs.Rests.{extent_of}
use Rattle.plx_rules.specs.World.{setting_of, stands}
use Rattle.law_lease.proofs.LeaseSteps.{reached-leased}
use Rattle.law_lease.proofs.Leased.{IsAskedAt, Leased}
use Rattle.law_lease.proofs.Owners.{exclusion, grip-held}
use Rattle.law_space.proofs.Kept.{CarefulAt, MapKept, lease_block}
use Rattle.law_space.proofs.Lists.{unlinked-in}
use Rattle.law_space.proofs.MapWrites.{hand-after, kept-marked}
use Rattle.law_space.proofs.Marks.{MayMark}
use Rattle.law_space.proofs.SpaceSteps.{reached-spaced}

-- what is in hand while a write is asked was in hand
hand-before : (g : Geometry) (place : Place) (found : Option (ℕ × List ℕ)) (filled : List (ℕ × List ℕ)) (hand : List ℕ) (block : ℕ) → is_in block (hand_at g place found filled hand) ≡ true → is_in block hand ≡ true
hand-before g (In known command (WriteThen kind.Give b bytes guard done fault missed)) found filled hand block is = elim (hand-after g found kind.Give b bytes hand block is) [
  | inl before ↦ before
  | inr taken ↦ absurd (let e : kind.Give ≡ kind.Take = taken.take in let P : ⊥ = cc in P)
]
hand-before g (In known command (WriteThen kind.Link b bytes guard done fault missed)) found filled hand block is = unlinked-in kind.Link filled hand block is
hand-before g (In known command (WriteThen kind.Record b bytes guard done fault missed)) found filled hand block is = unlinked-in kind.Record filled hand block is
hand-before g other found filled hand block is = is

-- of a give that is waited for, it stays in hand
hand-given : (g : Geometry) (place : Place) (found : Option (ℕ × List ℕ)) (filled : List (ℕ × List ℕ)) (hand : List ℕ) (block boot : ℕ) (write : Issued) → IsAskedAt place boot write → is_in block (hand_at g place found filled hand) ≡ true →
    write.kind ≡ kind.Give → is_in block (hand_from g found kind.Give write.block write.bytes hand) ≡ true
hand-given g (In known command (WriteThen k b bytes guard done fault missed)) found filled hand block boot write asked is give =
    let H : WriteKind → Type 0 = λ x. is_in block (hand_at g (In known command (WriteThen x b bytes guard done fault missed)) found filled hand) ≡ true in
    let here : is_in block (hand_from g found kind.Give b bytes hand) ≡ true = subst H (sym asked.0 ∙ give) is in
    subst (λ (x : List ℕ). is_in block (hand_from g found kind.Give write.block x hand) ≡ true) (sym asked.2)
    (subst (λ (n : ℕ). is_in block (hand_from g found kind.Give n bytes hand) ≡ true) (sym asked.1) here)
hand-given g (Idle known) found filled hand block boot write asked is give = absurd asked
hand-given g (Begins known command) found filled hand block boot write asked is give = absurd asked
hand-given g (In known command (Ends end)) found filled hand block boot write asked is give = absurd asked
hand-given g (In known command (ReadThen b rest fault)) found filled hand block boot write asked is give = absurd asked
hand-given g (In known command (ClockThen rest)) found filled hand block boot write asked is give = absurd asked
hand-given g (In known command (UntilThen from rest)) found filled hand block boot write asked is give = absurd asked

-- a write that is waited for is one that may be asked of a map
asked-careful : (place : Place) (found : Option (ℕ × List ℕ)) (boot : ℕ) (write : Issued) → IsAskedAt place boot write → CarefulAt found place → MayMark write.kind found write.block write.bytes
asked-careful (In known command (WriteThen k b bytes guard done fault missed)) found boot write asked careful = rw (asked.0, asked.1, asked.2) careful.0
asked-careful (Idle known) found boot write asked careful = absurd asked
asked-careful (Begins known command) found boot write asked careful = absurd asked
asked-careful (In known command (Ends end)) found boot write asked careful = absurd asked
asked-careful (In known command (ReadThen b rest fault)) found boot write asked careful = absurd asked
asked-careful (In known command (ClockThen rest)) found boot write asked careful = absurd asked
asked-careful (In known command (UntilThen from rest)) found boot write asked careful = absurd asked

-- a block in the hand of a boot that owns its extent's lease is allocated
pub hands-allocated : HandsAllocated
hands-allocated w reached a block below has = by_pending (w.seats a).pending refl
  where
    g : Geometry
    g = w.geometry

    extent : ℕ
    extent = extent_of w.geometry block

    leased : Leased w
    leased = reached-leased reached

    within : extent_of w.geometry block < w.geometry.extents
    within = let l = has.owns.within in omega arith

    p : Configuration
    p = stands w a

    now : List ℕ
    now = w.surface.device (map_at w.geometry extent)

    kept : MapKept g extent now (pending_write w.surface.writes (w.seats a).pending) p.hand p.found
    kept =
        let lease = lease_block g extent in
        (reached-spaced reached).kept a below extent within has.owns.claim has.owns.until
        (grip-held p.place (pending_write w.surface.writes (w.seats a).pending) lease (p.holds lease) has.owns.claim has.owns.until has.owns.held) has.owns.time

    in-hand : is_in block p.hand ≡ true
    in-hand = hand-before g p.place p.found p.filled p.hand block has.here

    by_pending : (pending : Option ℕ) → (w.seats a).pending ≡ pending → bit_of now (block - map_at g extent) ≡ true
    by_pending None is =
        let K : Option ℕ → Type 0 = λ o. MapKept g extent now (pending_write w.surface.writes o) p.hand p.found in
        let kept' : MapKept g extent now None p.hand p.found = subst K is kept in
        ap (λ (x : List ℕ). bit_of x (block - map_at g extent)) kept'.laid_now ∙ (kept'.marked block in-hand refl).1
    by_pending (Some n) is =
        let asked = (leased.seated a below).asked n is in
        let right = leased.right n asked.0 asked.1 in
        let K : Option Issued → Type 0 = λ o. MapKept g extent now o p.hand p.found in
        let kept' : MapKept g extent now (Some asked.0) p.hand p.found = subst K (ap (pending_write w.surface.writes) is ∙ asked.1) kept in
        kept-marked g leased.geometry extent now p.hand p.found asked.0 (w.rests n) right.placed right.flags right.long
        (asked-careful p.place p.found ((setting_of w a).boot) asked.0 asked.2 ((reached-spaced reached).careful a below)) kept' block in-hand refl
        (hand-given g p.place p.found p.filled p.hand block ((setting_of w a).boot) asked.0 asked.2 has.here)

-- two boots that have a block in hand are one
pub hands-apart : HandsApart
hands-apart w reached a b block one other has has' = exclusion w reached a b (extent_lease w.geometry (extent_of w.geometry block)) one other has.owns has'.owns
