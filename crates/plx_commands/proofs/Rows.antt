-- Traces worked out by hand: which of them the model permits, and which it doesn't.
use Rattle.std.proofs.Common.{◌≡◌, ℕ, ◌<◌, List, [], ◌∷◌, true, false, Some, refl, subst, arith, inl, inr}
use Rattle.plx_base.specs.Blocks.{zeros, filled}
use Rattle.plx_base.specs.declared.numbers.ApplianceNo.{ApplianceNo}
use Rattle.plx_base.specs.declared.numbers.SlotNo.{SlotNo}
use Rattle.plx_base.specs.declared.lease.LeaseName.TheVariants as lease
use Rattle.plx_base.specs.declared.payload.Payload.TheVariants.{All}
use Rattle.plx_commands.proofs.Accepted.{accepts-start, accepts-crash, accepts-reply, ok-answers, other-answers, founded-answers}
use Rattle.plx_commands.specs.Images.{Image, report_of, free_image, new_image, image_after_write}
use Rattle.plx_commands.specs.Judge.{Permitted, IsLeastBroken, Breaks, InCommand, IsByOwner, known, idle, running, listed, owner, value, refusal, unrefused}
use Rattle.plx_commands.specs.Model.{Model, first_model}
use Rattle.plx_commands.specs.Moves.{model_of}
use Rattle.plx_commands.specs.Facts.{IsAmong, of_claims}
use Rattle.plx_commands.specs.Limits.{last_claim}
use Rattle.plx_commands.specs.Replies.{is_listed}
use Rattle.plx_commands.specs.declared.command.Command.{Command}
use Rattle.plx_commands.specs.declared.command.Command.TheVariants.{Attach, Create, Read, Write}
use Rattle.plx_commands.specs.declared.reply.Reply.TheVariants.{Attached, Created, Data, Written, Lost, NotAttached, WornOut}
use Rattle.plx_commands.specs.declared.entry.Entry.{Entry}
use Rattle.plx_commands.specs.declared.entry.Entry.TheVariants as entry

-- the one slot
abbrev only_slot : SlotNo
only_slot = record { 0 = 0 }

-- the first appliance
abbrev appliance_one : ApplianceNo
appliance_one = record { 0 = 0 }

-- the second appliance
abbrev appliance_two : ApplianceNo
appliance_two = record { 0 = 1 }

zero-filled : filled 0 ≡ zeros
unfolding filled zeros
zero-filled = refl

-- an appliance attaches a free slot and makes an image of eight blocks in it
abbrev open_trace : List Entry
open_trace =
    entry.Reply appliance_one Created ∷ entry.Start appliance_one (Create only_slot 8 (97 ∷ []))
    ∷ entry.Reply appliance_one (Attached (report_of (free_image 0))) ∷ entry.Start appliance_one (Attach only_slot) ∷ []

-- the image as it is made, and the block that is written first
abbrev image : Image
image = new_image 1 8 (97 ∷ [])

-- the image with its first block filled
abbrev first_block : ℕ → Image
first_block byte = image_after_write image 0 (filled byte)

opened-permitted : (appliances : ℕ) → 0 < appliances → Permitted (first_model 1 appliances) open_trace
opened-permitted appliances some = (
  accepts-reply _ appliance_one (Create only_slot 8 (97 ∷ [])) Created some refl (ok-answers _ 0 (Create only_slot 8 (97 ∷ [])) Created refl refl refl (omega arith) refl),
  (
    accepts-start _ appliance_one (Create only_slot 8 (97 ∷ [])) some refl,
    (
      accepts-reply _ appliance_one (Attach only_slot) (Attached (report_of (free_image 0))) some refl (ok-answers _ 0 (Attach only_slot) (Attached (report_of (free_image 0))) refl refl refl (omega arith, inl refl) refl),
      (accepts-start _ appliance_one (Attach only_slot) some refl, tt),
    ),
  ),
)

-- a written block is read as it was written, another one as zeros
abbrev plain_trace : List Entry
plain_trace =
    entry.Reply appliance_one (Data (All 0)) ∷ entry.Start appliance_one (Read only_slot 1)
    ∷ entry.Reply appliance_one (Data (All 90)) ∷ entry.Start appliance_one (Read only_slot 0)
    ∷ entry.Reply appliance_one (Written 1) ∷ entry.Start appliance_one (Write only_slot 0 (All 90)) ∷ open_trace

plain-permitted : Permitted (first_model 1 1) plain_trace
plain-permitted = (
  accepts-reply _ appliance_one (Read only_slot 1) (Data (All 0)) (omega arith) refl (ok-answers _ 0 (Read only_slot 1) (Data (All 0)) refl refl refl (omega arith, zero-filled) refl),
  (
    accepts-start _ appliance_one (Read only_slot 1) (omega arith) refl,
    (
      accepts-reply _ appliance_one (Read only_slot 0) (Data (All 90)) (omega arith) refl (ok-answers _ 0 (Read only_slot 0) (Data (All 90)) refl refl refl (omega arith, refl) refl),
      (
        accepts-start _ appliance_one (Read only_slot 0) (omega arith) refl,
        (
          accepts-reply _ appliance_one (Write only_slot 0 (All 90)) (Written 1) (omega arith) refl (ok-answers _ 0 (Write only_slot 0 (All 90)) (Written 1) refl refl refl (omega arith, refl) refl),
          (accepts-start _ appliance_one (Write only_slot 0 (All 90)) (omega arith) refl, opened-permitted 1 (omega arith)),
        ),
      ),
    ),
  ),
)

-- a write that a crash cut off is reported as done or as not done
abbrev after_crash_trace : List Entry
after_crash_trace =
    entry.Start appliance_one (Attach only_slot) ∷ entry.Crash appliance_one ∷ entry.Start appliance_one (Write only_slot 0 (All 187))
    ∷ entry.Reply appliance_one (Written 1) ∷ entry.Start appliance_one (Write only_slot 0 (All 170)) ∷ open_trace

crashed-permitted : Permitted (first_model 1 1) after_crash_trace
crashed-permitted = (
  accepts-start _ appliance_one (Attach only_slot) (omega arith) refl,
  (
    accepts-crash _ appliance_one (omega arith),
    (
      accepts-start _ appliance_one (Write only_slot 0 (All 187)) (omega arith) refl,
      (
        accepts-reply _ appliance_one (Write only_slot 0 (All 170)) (Written 1) (omega arith) refl (ok-answers _ 0 (Write only_slot 0 (All 170)) (Written 1) refl refl refl (omega arith, refl) refl),
        (accepts-start _ appliance_one (Write only_slot 0 (All 170)) (omega arith) refl, opened-permitted 1 (omega arith)),
      ),
    ),
  ),
)

-- once the report says that it wasn't done, the block is the old one; once it says that it was, the new one
abbrev not_done : List Entry
not_done = entry.Reply appliance_one (Data (All 170)) ∷ entry.Start appliance_one (Read only_slot 0) ∷ entry.Reply appliance_one (Attached (report_of (first_block 170))) ∷ after_crash_trace

not-done-permitted : Permitted (first_model 1 1) not_done
not-done-permitted = (
  accepts-reply _ appliance_one (Read only_slot 0) (Data (All 170)) (omega arith) refl (ok-answers _ 0 (Read only_slot 0) (Data (All 170)) refl refl refl (omega arith, refl) refl),
  (
    accepts-start _ appliance_one (Read only_slot 0) (omega arith) refl,
    (
      accepts-reply _ appliance_one (Attach only_slot) (Attached (report_of (first_block 170))) (omega arith) refl (ok-answers _ 0 (Attach only_slot) (Attached (report_of (first_block 170))) refl refl refl (omega arith, inl refl) refl),
      crashed-permitted,
    ),
  ),
)

-- the image with its first block filled twice
abbrev second_block : Image
second_block = image_after_write (first_block 170) 0 (filled 187)

-- after a crash within a write its data is read, as the write may have been done
abbrev was_done : List Entry
was_done = entry.Reply appliance_one (Data (All 187)) ∷ entry.Start appliance_one (Read only_slot 0) ∷ entry.Reply appliance_one (Attached (report_of second_block)) ∷ after_crash_trace

was-done-permitted : Permitted (first_model 1 1) was_done
was-done-permitted = (
  accepts-reply _ appliance_one (Read only_slot 0) (Data (All 187)) (omega arith) refl (ok-answers _ 0 (Read only_slot 0) (Data (All 187)) refl refl refl (omega arith, refl) refl),
  (
    accepts-start _ appliance_one (Read only_slot 0) (omega arith) refl,
    (
      accepts-reply _ appliance_one (Attach only_slot) (Attached (report_of second_block)) (omega arith) refl (ok-answers _ 0 (Attach only_slot) (Attached (report_of second_block)) refl refl refl (omega arith, inr (second_block, refl, refl)) refl),
      crashed-permitted,
    ),
  ),
)

-- after a lost lease the appliance has no session
abbrev lost_trace : List Entry
lost_trace =
    entry.Reply appliance_one NotAttached ∷ entry.Start appliance_one (Read only_slot 0)
    ∷ entry.Reply appliance_one (Lost (lease.Image only_slot) 11000 11000) ∷ entry.Start appliance_one (Read only_slot 0) ∷ open_trace

lost-permitted : Permitted (first_model 1 1) lost_trace
lost-permitted = (
  accepts-reply _ appliance_one (Read only_slot 0) NotAttached (omega arith) refl (founded-answers _ 0 (Read only_slot 0) NotAttached refl refl (inl refl)),
  (
    accepts-start _ appliance_one (Read only_slot 0) (omega arith) refl,
    (
      accepts-reply _ appliance_one (Read only_slot 0) (Lost (lease.Image only_slot) 11000 11000) (omega arith) refl (other-answers _ 0 (Read only_slot 0) (Lost (lease.Image only_slot) 11000 11000) refl refl refl),
      (accepts-start _ appliance_one (Read only_slot 0) (omega arith) refl, opened-permitted 1 (omega arith)),
    ),
  ),
)

-- while one appliance is in a write, another takes the image over: it reports that this write wasn't done, and writes itself
abbrev taken_over : List Entry
taken_over =
    entry.Reply appliance_two (Written 1) ∷ entry.Start appliance_two (Write only_slot 0 (All 187))
    ∷ entry.Reply appliance_two (Attached (report_of image)) ∷ entry.Start appliance_two (Attach only_slot)
    ∷ entry.Start appliance_one (Write only_slot 0 (All 170)) ∷ open_trace

taken-over-permitted : Permitted (first_model 1 2) taken_over
taken-over-permitted = (
  accepts-reply _ appliance_two (Write only_slot 0 (All 187)) (Written 1) (omega arith) refl (ok-answers _ 1 (Write only_slot 0 (All 187)) (Written 1) refl refl refl (omega arith, refl) refl),
  (
    accepts-start _ appliance_two (Write only_slot 0 (All 187)) (omega arith) refl,
    (
      accepts-reply _ appliance_two (Attach only_slot) (Attached (report_of image)) (omega arith) refl (ok-answers _ 1 (Attach only_slot) (Attached (report_of image)) refl refl refl (omega arith, inl refl) refl),
      (
        accepts-start _ appliance_two (Attach only_slot) (omega arith) refl,
        (accepts-start _ appliance_one (Write only_slot 0 (All 170)) (omega arith) refl, opened-permitted 2 (omega arith)),
      ),
    ),
  ),
)

-- the first appliance loses the image that the second has taken over, and the second reads
abbrev lost_over : List Entry
lost_over =
    entry.Reply appliance_two (Data (All 187)) ∷ entry.Start appliance_two (Read only_slot 0)
    ∷ entry.Reply appliance_one (Lost (lease.Image only_slot) 11000 11702) ∷ taken_over

lost-over-permitted : Permitted (first_model 1 2) lost_over
lost-over-permitted = (
  accepts-reply _ appliance_two (Read only_slot 0) (Data (All 187)) (omega arith) refl (ok-answers _ 1 (Read only_slot 0) (Data (All 187)) refl refl refl (omega arith, refl) refl),
  (
    accepts-start _ appliance_two (Read only_slot 0) (omega arith) refl,
    (
      accepts-reply _ appliance_one (Write only_slot 0 (All 170)) (Lost (lease.Image only_slot) 11000 11702) (omega arith) refl (other-answers _ 0 (Write only_slot 0 (All 170)) (Lost (lease.Image only_slot) 11000 11702) refl refl refl),
      taken-over-permitted,
    ),
  ),
)

-- an Ok of the appliance that owned the image before breaks rule 5, and no rule before it
abbrev model_taken_over : Model
model_taken_over = model_of (first_model 1 2) taken_over

stranger : IsLeastBroken model_taken_over (entry.Reply appliance_one (Written 2)) 5
stranger = record { broken = owner foreign; least = earlier }
  where
    foreign : ¬ InCommand IsByOwner model_taken_over (entry.Reply appliance_one (Written 2))
    foreign keeps = let e : false ≡ true = keeps (Write only_slot 0 (All 170)) refl refl in let P : ⊥ = cc in P

    by_command : (command : Command) → model_taken_over.running 0 ≡ Some command → is_listed command (Written 2) ≡ true
    by_command command runs =
        let e : Some (Write only_slot 0 (All 170)) ≡ Some command = runs in
        let same : Write only_slot 0 (All 170) ≡ command = cc in
        subst (λ (c : Command). is_listed c (Written 2) ≡ true) same refl

    earlier : (other : ℕ) → other < 5 → ¬ Breaks model_taken_over (entry.Reply appliance_one (Written 2)) other
    earlier other less (known breaks) = breaks (omega arith)
    earlier other less (idle breaks) = breaks tt
    earlier other less (running breaks) = breaks refl
    earlier other less (listed breaks) = breaks by_command
    earlier other less (owner breaks) = absurd (omega (arith, less))
    earlier other less (value breaks) = absurd (omega (arith, less))
    earlier other less (refusal breaks) = absurd (omega (arith, less))
    earlier other less (unrefused breaks) = absurd (omega (arith, less))

-- a write of the owner that is answered with the Ok of a read breaks rule 4
written-not-data : ¬ (is_listed (Write only_slot 0 (All 170)) (Data (All 170)) ≡ true)
written-not-data e = let P : ⊥ = cc in P

-- a boot that has no claims left may say so of an attach and not of a create, of which the model knows how often it was done
claims-worn : IsAmong (WornOut last_claim) (of_claims (Attach only_slot))
claims-worn = inl refl

create-worn : ¬ IsAmong (WornOut last_claim) (of_claims (Create only_slot 8 []))
create-worn h = h
