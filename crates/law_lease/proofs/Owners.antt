-- At most one boot owns a lease, and what needed it changes nothing under another owner.
use Rattle.std.proofs.Common.{◌≡◌, ℕ, zero, suc, ◌<◌, List, Bool, true, false, Option, refl, ap, sym, subst, ◌∙◌, arith}
use Rattle.std.specs.Prelude.{slice_get, ◌==◌}
use Rattle.plx_base.specs.Sectors.{Device, put, with_landed_sector}
use Rattle.plx_base.proofs.Devices.{put-again}
use Rattle.plx_base.specs.declared.lease.Claim.{Claim}
use Rattle.plx_base.specs.declared.lease.LeaseRecord.{LeaseRecord}
use Rattle.plx_base.specs.declared.lease.LeaseRecord.TheVariants.{Claimed}
use Rattle.plx_base.specs.declared.write_kind.WriteKind.{WriteKind}
use Rattle.plx_base.specs.declared.write_kind.WriteKind.TheVariants as kind
use Rattle.plx_disk.specs.Writes.{Issued}
use Rattle.plx_rules.specs.Process.{Ends, ReadThen, WriteThen, ClockThen, UntilThen}
use Rattle.plx_rules.specs.Boot.{Place, Idle, Begins, In}
use Rattle.plx_rules.specs.Holds.{Hold, Held}
use Rattle.plx_geom.specs.Geometry.{lease_count, lease_at}
use Rattle.plx_gate.specs.Leases.{lease_bytes}
use Rattle.plx_rules.specs.Owners.{Owns, Exclusion, Guarding, held_while, hold_at_place, first_landed, pending_write}
use Rattle.plx_rules.specs.World.{World, setting_of, stands}
use Rattle.law_lease.proofs.Rests.{rests-home}
use Rattle.law_lease.proofs.LeaseSectors.{sector-past}
use Rattle.law_lease.proofs.LeaseFrames.{one-claim}
use Rattle.law_lease.proofs.LeaseIssues.{boots-apart}
use Rattle.law_lease.proofs.LeaseLands.{not-whole}
use Rattle.law_lease.proofs.LeaseSteps.{reached-leased}
use Rattle.law_lease.proofs.Leased.{IsLiveWrite, Unlanded, Good, StandsConfirmed, grip_while, grip_at, IsPlaced, Leased}

-- what a boot owns is what it holds
grip_while-held : (k : WriteKind) (here landed : Bool) (bytes : List ℕ) (hold : Hold) (claim : Claim) (until : ℕ) → held_while k here landed bytes hold ≡ Held claim until →
    grip_while k here landed bytes hold ≡ Held claim until
grip_while-held kind.Release true landed bytes hold claim until e = absurd (let P : ⊥ = cc in P)
grip_while-held kind.Release false landed bytes hold claim until e = e
grip_while-held kind.Renew true true bytes hold claim until e = e
grip_while-held kind.Renew true false bytes hold claim until e = e
grip_while-held kind.Renew false landed bytes hold claim until e = e
grip_while-held other here landed bytes hold claim until e = e

pub grip-held : (place : Place) (pending : Option Issued) (lease : ℕ) (hold : Hold) (claim : Claim) (until : ℕ) → hold_at_place place pending lease hold ≡ Held claim until →
    grip_at place pending lease hold ≡ Held claim until
grip-held (In known command (WriteThen k block bytes guard done fault missed)) pending lease hold claim until e =
    grip_while-held k (lease == block) (first_landed pending) bytes hold claim until e
grip-held (Idle known) pending lease hold claim until e = e
grip-held (Begins known command) pending lease hold claim until e = e
grip-held (In known command (Ends end)) pending lease hold claim until e = e
grip-held (In known command (ReadThen block rest fault)) pending lease hold claim until e = e
grip-held (In known command (ClockThen rest)) pending lease hold claim until e = e
grip-held (In known command (UntilThen from rest)) pending lease hold claim until e = e

-- an owner's lease is right
pub owner-held : (w : World) (leased : Leased w) (a lease : ℕ) (within : lease < lease_count w.geometry) → a < w.appliances → (owns : Owns w a lease) →
    StandsConfirmed w.rests w.surface.time w.surface.writes lease (leased.on lease within).standing ((setting_of w a).boot) (w.seats a).pending owns.claim owns.until
owner-held w leased a lease within below owns =
    let P : Hold → Type 0 = λ h. Good w.rests w.surface.time w.surface.writes lease (leased.on lease within).standing ((setting_of w a).boot) (w.seats a).pending h in
    subst P (grip-held (stands w a).place (pending_write w.surface.writes (w.seats a).pending) (lease_at lease) ((stands w a).holds (lease_at lease))
    owns.claim owns.until owns.held) ((leased.on lease within).each a below)

-- two owners are one
pub exclusion : Exclusion
exclusion w reached a b lease one other owns owns' =
    let leased = reached-leased reached in
    let mine = owner-held w leased a lease owns.within one owns in
    let its = owner-held w leased b lease owns.within other owns' in
    let within = owns.within in
    let standing = (leased.on lease within).standing in
    let few = leased.few in
    let there : standing ≡ Claimed owns.claim owns.until = mine.there owns.time in
    let there' : (leased.on lease within).standing ≡ Claimed owns'.claim owns'.until = its.there owns'.time in
    boots-apart a b (w.seats a).boots (w.seats b).boots (omega arith) (omega arith)
    (sym mine.own ∙ (ap (λ (c : Claim). c.boot.0) (one-claim standing owns.claim owns'.claim owns.until owns'.until there there').0 ∙ its.own))

-- a landing that changes nothing
put-nothing : (device : Device) (block : ℕ) (bytes : List ℕ) → bytes ≡ device block → (b : ℕ) → put device block bytes b ≡ device b
put-nothing device block bytes same b = ap (λ (x : List ℕ). put device block x b) same ∙ put-again device block b

-- a write that needs a lease changes nothing under another owner
pub guarding : Guarding
guarding w reached number sector write lease b within needs may below owns apart block =
    by_kind write.kind refl sector refl
  where
    leased : Leased w
    leased = reached-leased reached

    its : StandsConfirmed w.rests w.surface.time w.surface.writes lease (leased.on lease within).standing ((setting_of w b).boot) (w.seats b).pending owns.claim owns.until
    its = owner-held w leased b lease within below owns

    -- a live write is the owner's
    closed : Unlanded write.kind write.landed → ⊥
    closed unlanded =
        let op : IsLiveWrite w.rests w.surface.time w.surface.writes lease number write = record { found = may.found; needs = needs; missing = unlanded; live = may.early } in
        let backed = (leased.on lease within).backed number write op in
        apart (sym its.own ∙ (ap (λ (c : Claim). c.boot.0)
        (one-claim (leased.on lease within).standing owns.claim backed.claim owns.until backed.until (its.there owns.time) backed.there).0 ∙ backed.owner))

    past : (k : ℕ) → sector ≡ suc k → write.block ≡ lease_at lease → (r : LeaseRecord) → write.bytes ≡ lease_bytes r →
        put w.surface.device write.block (with_landed_sector sector write.bytes (w.surface.device write.block)) block ≡ w.surface.device block
    past k is here r spells =
        let on = leased.on lease within in
        let at : w.surface.device write.block ≡ lease_bytes on.standing = ap w.surface.device here ∙ on.spells in
        put-nothing w.surface.device write.block (with_landed_sector sector write.bytes (w.surface.device write.block))
        (ap (λ (s : ℕ). with_landed_sector s write.bytes (w.surface.device write.block)) is
        ∙ (ap (λ (x : List ℕ). with_landed_sector (suc k) x (w.surface.device write.block)) spells ∙ (ap (with_landed_sector (suc k) (lease_bytes r)) at ∙ (sector-past on.standing r k ∙ sym at)))) block

    by_kind : (k : WriteKind) → write.kind ≡ k → (s : ℕ) → sector ≡ s →
        put w.surface.device write.block (with_landed_sector sector write.bytes (w.surface.device write.block)) block ≡ w.surface.device block
    by_kind kind.Renew is zero at =
        let U : WriteKind → Type 0 = λ k. Unlanded k write.landed in
        absurd (closed (subst U (sym is) (ap (slice_get write.landed) (sym at) ∙ may.missing)))
    by_kind kind.Renew is (suc k) at =
        let Q : WriteKind → Type 0 = λ k. IsPlaced w.geometry k write.block write.bytes (w.rests number) in
        let placed = subst Q is (leased.right number write may.found).placed in
        past k at (placed.2 ∙ ap lease_at (sym (rests-home lease placed.0 (w.rests number) placed.4 needs))) placed.3.0 placed.3.1
    by_kind kind.Release is zero at =
        let U : WriteKind → Type 0 = λ k. Unlanded k write.landed in
        absurd (closed (subst U (sym is) (ap (slice_get write.landed) (sym at) ∙ may.missing)))
    by_kind kind.Release is (suc k) at =
        let Q : WriteKind → Type 0 = λ k. IsPlaced w.geometry k write.block write.bytes (w.rests number) in
        let placed = subst Q is (leased.right number write may.found).placed in
        past k at (placed.2 ∙ ap lease_at (sym (rests-home lease placed.0 (w.rests number) placed.4 needs))) placed.3.0 placed.3.1
    by_kind other is s at =
        let U : WriteKind → Type 0 = λ k. Unlanded k write.landed in
        absurd (closed (subst U (sym is) (not-whole write.landed sector may.missing)))
