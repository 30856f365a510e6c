-- Detaches.
use Rattle.std.proofs.Common.{◌≢◌, ℕ, List, [], ◌∷◌, None, refl, sym, subst, arith}
use Rattle.plx_base.specs.declared.lease.Claim.{Claim}
use Rattle.plx_base.specs.declared.lease.LeaseRecord.TheVariants as lease_is
use Rattle.plx_base.specs.declared.numbers.SlotNo.{SlotNo}
use Rattle.plx_base.specs.declared.write_kind.WriteKind.TheVariants as kind
use Rattle.plx_commands.specs.declared.command.Command.TheVariants.{Detach}
use Rattle.plx_commands.specs.declared.reply.Reply.TheVariants as reply
use Rattle.plx_disk.specs.declared.ask.Ask.TheVariants as ask
use Rattle.plx_disk.specs.declared.ask.Answer.TheVariants as answer
use Rattle.plx_gate.specs.Leases.{lease_bytes}
use Rattle.plx_geom.specs.Geometry.{image_lease, lease_at}
use Rattle.plx_geom.proofs.Places.{image-below}
use Rattle.plx_rules.specs.Commands.{detach_process, command_process}
use Rattle.plx_rules.specs.Ends.{ends}
use Rattle.plx_rules.specs.Session.{Session, Known, with_session}
use Rattle.plx_rules.specs.Settings.{Setting}
use Rattle.law_run.specs.AllowedAsks.{release_of_lease}
use Rattle.law_run.specs.CommandLogs.{Finished}
use Rattle.law_run.specs.Refusals.{NamesBlock, of_read, of_write, NeedsImage, of_delete, of_block}
use Rattle.law_run.proofs.Asking.{IsFine, replied-fine, asks-write}
use Rattle.law_run.proofs.Clear.{Clear, clear, ready-follows}
use Rattle.law_run.proofs.Holding.{spared-first, spared-more}
use Rattle.law_run.proofs.Meets.{exchange}
use Rattle.law_run.proofs.OnImage.{OnImage, names-own, names-other, on-image, Ready}
use Rattle.law_run.proofs.Rests.{rests-by}
use Rattle.law_run.proofs.Right.{clock, FitsAt, Rests, finish, May, Right}
use Rattle.law_run.proofs.Runs.{start, hand_start}
use Rattle.plx_commands.proofs.Places.{at-other, at-same}
use Rattle.law_lease.proofs.Rests.{in-one, lease-place-found}

on-detach : (slot : SlotNo) → OnImage (Detach slot) slot.0
on-detach slot = record { named = λ other. refl; used = λ other. refl; needed = λ other. refl; no_attach = λ other is. (let P : ⊥ = cc in P) }

no-block : (slot : SlotNo) (image v : ℕ) → ¬ NamesBlock (Detach slot) image v
no-block slot image v (of_read other is same) = let P : ⊥ = cc in P
no-block slot image v (of_write other payload is same) = let P : ⊥ = cc in P

no-image : (slot : SlotNo) (image : ℕ) → ¬ NeedsImage (Detach slot) image
no-image slot image (of_delete other is same) = let P : ⊥ = cc in P
no-image slot image (of_block vblock names) = no-block slot image vblock names

detach-clear : (slots : ℕ) (slot : SlotNo) (session : Session) (n : ℕ) → Clear slots (Detach slot) session n
detach-clear slots slot session n = record {
  images = λ lt image needs. absurd (no-image slot image needs);
  free = λ lt other size label is. absurd (let P : ⊥ = cc in P);
  blocks = λ lt image v names. absurd (no-block slot image v names);
  sizes = λ lt other size label is. absurd (let P : ⊥ = cc in P);
  fresh = λ lt other size label is. absurd (let P : ⊥ = cc in P);
  counted = λ lt other v payload is. absurd (let P : ⊥ = cc in P);
  room = λ lt other v payload is. absurd (let P : ⊥ = cc in P);
}

-- the lease of another image stands in another block
pub lease-apart : (image other : ℕ) → other ≢ image → lease_at (image_lease other) ≢ lease_at (image_lease image)
lease-apart image other apart same = apart (omega (arith, same))

right-detach : (s : Setting) (before : List Finished) (known : Known) (slot : SlotNo) (reading : ℕ) (rests : Rests s before known) (session : Session) (claim : Claim) (until : ℕ) →
    Ready s before known (Detach slot) slot reading (on-detach slot) rests session claim until →
    Right s before (Detach slot) (clock reading ∷ []) (detach_process s known slot.0 session until) 1
right-detach s before known slot reading rests session claim until ready =
    let command = Detach slot in
    let on = on-detach slot in
    let lease = image_lease slot.0 in
    let within = image-below s.geometry slot.0 ready.fits.within in
    let fine : IsFine s before command reading = λ done first. clear s before known command slot reading on rests session claim until ready done 11 first (detach-clear s.geometry.slots slot session 11) in
    let x = exchange (ask.Write kind.Release (record { 0 = lease_at lease }) until) (lease_bytes lease_is.Free) answer.Done in
    let next = with_session known slot.0 None in
    asks-write (May s before command) s before known command reading fine (clock reading ∷ []) lease until kind.Release (lease_at lease) (lease_bytes lease_is.Free) (ends reply.Detached next) 0
    refl (let a = rests.claims in omega arith) (λ y is. rw is refl) within (in-one lease _ (sym (lease-place-found lease)))
    (((tt, tt), release_of_lease lease claim within refl ready.now refl), ready-follows s before known command slot reading on rests session claim until ready fine ask.Clock) (
      replied-fine s before command reading fine (x ∷ clock reading ∷ []) refl reply.Detached (record { slot = slot; command = refl; guard = until; released = (clock reading ∷ [], refl) }),
      rests-by s before command (x ∷ clock reading ∷ []) reply.Detached known next slot.0 (names-other command slot.0 on.named)
          (λ other apart. at-other known.sessions slot.0 other None apart) (λ other b apart. rw (names-other command slot.0 on.named other apart) refl) (λ h. refl)
          (spared-more s before (clock reading ∷ []) x slot.0 tt (λ other apart. lease-apart slot.0 other apart) (spared-first s before reading slot.0))
          (subst (λ o. FitsAt s (finish command (x ∷ clock reading ∷ []) reply.Detached ∷ before) slot.0 o) (sym (at-same known.sessions slot.0 None))
          (rw (names-own command slot.0 on.named) refl))
          (let a = rests.claims in omega arith) rests,
    )

pub detach-begins : (s : Setting) (before : List Finished) (known : Known) (slot : SlotNo) (reading : ℕ) → Rests s before known →
    Right s before (Detach slot) (clock reading ∷ []) (command_process s known (start s before reading) (hand_start s before reading) reading (Detach slot)) 1
detach-begins s before known slot reading rests =
    on-image s before known (Detach slot) slot reading (on-detach slot) rests 1 (detach_process s known slot.0)
    (λ session claim until ready. right-detach s before known slot reading rests session claim until ready)
