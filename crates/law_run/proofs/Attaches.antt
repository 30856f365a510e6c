-- Attaches, from the first reading on.
use Rattle.std.proofs.Common.{◌≡◌, ℕ, suc, ◌+◌, ◌*◌, ◌≤◌, ◌<◌, ◌^◌, List, [], ◌∷◌, Bool, true, false, Option, Some, None, refl, ap, sym, subst, ◌∙◌, arith, inl, inr}
use Rattle.std.specs.Prelude.{nat_lt}
use Rattle.plx_base.specs.declared.numbers.SlotNo.{SlotNo}
use Rattle.plx_commands.specs.Limits.{last_claim}
use Rattle.plx_commands.specs.declared.command.Command.TheVariants.{Attach}
use Rattle.plx_commands.specs.declared.reply.Reply.TheVariants as reply
use Rattle.plx_disk.specs.declared.ask.Ask.TheVariants as ask
use Rattle.plx_geom.specs.Geometry.{image_lease, lease_at}
use Rattle.plx_rules.specs.Process.{Process}
use Rattle.plx_rules.specs.Attaching.{claim_image, attach_held, attach_process}
use Rattle.plx_rules.specs.Commands.{command_process}
use Rattle.plx_rules.specs.Ends.{End}
use Rattle.plx_rules.specs.Hands.{is_held}
use Rattle.plx_rules.specs.Holds.{Hold, Nothing, Seen, Wrote, Waited, Held}
use Rattle.plx_rules.specs.Session.{Session, Known}
use Rattle.plx_rules.specs.Settings.{Setting}
use Rattle.law_run.specs.CommandLogs.{Finished}
use Rattle.law_run.specs.Holdings.{at_first, holds_after, hold_by_log, IsUntil, IsNotHeld}
use Rattle.law_run.specs.Refusals.{already_attached, no_slot, claims}
use Rattle.law_run.specs.Replies.{refused}
use Rattle.law_run.specs.Sessions.{names, is_attached}
use Rattle.law_run.proofs.Asking.{IsFine, one-until}
use Rattle.law_run.proofs.Following.{first-follows}
use Rattle.law_run.proofs.Attaching.{twice, twice-is, attach-one, unattached-by, right-load}
use Rattle.law_run.proofs.Holding.{first-hold, hold-after-first, unattached-early, spared-first, Course, going-first}
use Rattle.law_run.proofs.OnImage.{names-own, names-other, names-only}
use Rattle.law_run.proofs.Passed.{passed-at-most}
use Rattle.law_run.proofs.Rests.{rests-by, own-still}
use Rattle.law_run.proofs.Right.{clock, FitsAt, Rests, log_on, Right}
use Rattle.law_run.proofs.Runs.{start, hand_start}
use Rattle.plx_base.proofs.Tests.{nat_lt-tells, clash, lt-cases, lt-isn't}
use Rattle.law_run.proofs.Claiming.{attach-passed, right-claim}

-- at most so many asks are answered after the first reading
abbrev Within : Setting → List Finished → SlotNo → (reading : ℕ) → Process End → Type 0
Within s before slot reading process = (left : ℕ) × (left ≤ 8 + 2 * s.geometry.slots) × Right s before (Attach slot) (clock reading ∷ []) process left

module _ (s : Setting) (boot_small : s.boot < 2 ^ 128) (before : List Finished) (known : Known) (slot : SlotNo) (reading : ℕ) (rests : Rests s before known) where
  -- the lease isn't held
  by-claims : (hold : Hold) → hold_by_log s before (clock reading ∷ []) (image_lease slot.0) ≡ hold → IsNotHeld hold → slot.0 < s.geometry.images →
      is_attached before slot.0 ≡ false → Within s before slot reading (claim_image (nat_lt known.claims last_claim) s known slot.0)
  by-claims hold is none within missing = elim (lt-cases known.claims last_claim) [
    | inl few ↦ rw few.0 (
      suc (suc (suc (suc (suc (suc (suc (twice s.geometry.slots))))))),
      (let t = twice-is s.geometry.slots in omega arith),
      right-claim s boot_small before known slot reading within missing rests few.1 (ap is_held is ∙ none),
    )
    | inr worn ↦ rw worn.0 (
      0,
      omega arith,
      (
        refused 9 (reading, refl)
            (claims slot refl (reading, refl, ap is_held (sym (first-hold s before reading slot.0 within) ∙ is) ∙ none) (let c = rests.claims in omega (arith, worn.1)))
            (λ p other refuses. passed-at-most s (log_on before (Attach slot) (clock reading ∷ [])) 9 p other
            (attach-passed s before slot (clock reading ∷ []) 9 (λ lt. missing) (λ lt. within) (λ lt. absurd (omega arith))) refuses),
        unattached-by s before known known slot missing (λ image. refl) rests (clock reading ∷ []) (reply.WornOut last_claim) (λ other b. refl) (λ h. refl) (spared-first s before reading slot.0)
            (let c = rests.claims in omega arith),
      ),
    )
  ]

  by-hold : (hold : Hold) → hold_by_log s before (clock reading ∷ []) (image_lease slot.0) ≡ hold → slot.0 < s.geometry.images → is_attached before slot.0 ≡ false →
      Within s before slot reading (attach_held s known slot.0 hold)
  by-hold (Held claim until) is within missing =
      let c : Course = record { reading = reading; claim = claim; until = until; begun = 0 } in
      let fine : IsFine s before (Attach slot) reading = λ done first. attach-passed s before slot done 11 (λ lt. missing) (λ lt. within)
      (λ lt needed. absurd (
      let e : Some reading ≡ Some needed.0 = sym first ∙ needed.1 in
      let same : reading ≡ needed.0 = cc in
      clash _ (ap is_held
      (subst (λ r. at_first (is_attached before slot.0) r (holds_after s.geometry before (lease_at (image_lease slot.0))) ≡ Held claim until) same
      (sym (first-hold s before reading slot.0 within) ∙ is))) needed.2)) in
      let soon : reading < until = unattached-early reading (holds_after s.geometry before (lease_at (image_lease slot.0))) claim until
      (ap (λ test. at_first test reading (holds_after s.geometry before (lease_at (image_lease slot.0)))) (sym missing) ∙ (sym (first-hold s before reading slot.0 within) ∙ is)) in
      let early : (image until' : ℕ) → names (Attach slot) image ≡ true → IsUntil until' (hold_by_log s before (clock reading ∷ []) (image_lease image)) → reading < until' =
      λ image until' named used. (
      let same = names-only (Attach slot) slot.0 (attach-one slot) image named in
      let u = one-until claim until until' _ is (subst (λ i. IsUntil until' (hold_by_log s before (clock reading ∷ []) (image_lease i))) same used) in
      omega (arith, u, soon)) in (
        suc (suc (twice s.geometry.slots)),
        (let t = twice-is s.geometry.slots in omega arith),
        right-load s before known known slot c within missing fine (let k = rests.claims in omega arith) (λ image. refl) rests (clock reading ∷ [])
            (going-first s before slot.0 claim until reading is) (first-follows s before (Attach slot) reading fine early ask.Clock) (λ place. refl) (λ kept. (tt, tt)),
      )
  by-hold Nothing is within missing = by-claims Nothing is refl within missing
  by-hold (Seen sample) is within missing = by-claims (Seen sample) is refl within missing
  by-hold (Wrote c u) is within missing = by-claims (Wrote c u) is refl within missing
  by-hold (Waited c u) is within missing = by-claims (Waited c u) is refl within missing

  by-slot : (test : Bool) → nat_lt slot.0 s.geometry.images ≡ test → is_attached before slot.0 ≡ false →
      Within s before slot reading (attach_process s known slot.0 None test (start s before reading (lease_at (image_lease slot.0))))
  by-slot true is missing = by-hold (start s before reading (lease_at (image_lease slot.0))) refl (nat_lt-tells slot.0 s.geometry.images is) missing
  by-slot false is missing = (
    0,
    omega arith,
    (
      refused 4 (reading, refl) (no_slot slot refl (lt-isn't slot.0 s.geometry.images is))
          (λ p other refuses. passed-at-most s (log_on before (Attach slot) (clock reading ∷ [])) 4 p other
          (attach-passed s before slot (clock reading ∷ []) 4 (λ lt. missing) (λ lt. absurd (omega arith)) (λ lt. absurd (omega arith))) refuses),
      unattached-by s before known known slot missing (λ image. refl) rests (clock reading ∷ []) reply.NoImage (λ other b. refl) (λ h. refl) (spared-first s before reading slot.0)
          (let c = rests.claims in omega arith),
    ),
  )

  by-session : (found : Option Session) → known.sessions slot.0 ≡ found → FitsAt s before slot.0 found →
      Within s before slot reading (attach_process s known slot.0 found (nat_lt slot.0 s.geometry.images) (start s before reading (lease_at (image_lease slot.0))))
  by-session None is fits = by-slot (nat_lt slot.0 s.geometry.images) refl fits
  by-session (Some session) is fits = (
    0,
    omega arith,
    (
      refused 2 (reading, refl) (already_attached slot refl fits.0)
          (λ p other refuses. passed-at-most s (log_on before (Attach slot) (clock reading ∷ [])) 2 p other
          (attach-passed s before slot (clock reading ∷ []) 2 (λ lt. absurd (omega arith)) (λ lt. absurd (omega arith)) (λ lt. absurd (omega arith))) refuses),
      rests-by s before (Attach slot) (clock reading ∷ []) reply.AlreadyAttached known known slot.0 (names-other (Attach slot) slot.0 (attach-one slot)) (λ other apart. refl) (λ other b apart. refl) (λ h. refl)
          (spared-first s before reading slot.0)
          (own-still s before (Attach slot) (clock reading ∷ []) reply.AlreadyAttached slot.0 (known.sessions slot.0) (λ b. refl) (λ h. refl) (rests.sessions slot.0)
          (λ attached. rw (names-own (Attach slot) slot.0 (attach-one slot), attached) refl)
          (λ attached. (let h = fits.2 in (h.0, h.1, hold-after-first s before reading slot.0 h.0 h.1 fits.1.within fits.0 h.2))))
          (let c = rests.claims in omega arith) rests,
    ),
  )

pub attach-begins : (s : Setting) → s.boot < 2 ^ 128 → (before : List Finished) (known : Known) (slot : SlotNo) (reading : ℕ) → Rests s before known →
    Within s before slot reading (command_process s known (start s before reading) (hand_start s before reading) reading (Attach slot))
attach-begins s boot_small before known slot reading rests = by-session s boot_small before known slot reading rests (known.sessions slot.0) refl (rests.sessions slot.0)
