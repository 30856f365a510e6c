-- An entry leaves the image in each slot that its command neither changes nor attaches.
use Rattle.std.proofs.Common.{◌≡◌, ◌≢◌, ℕ, Bool, true, false, Option, Some, None, refl, ap, sym, subst, ◌∙◌}
use Rattle.plx_commands.specs.Model.{Model, Slot, owns}
use Rattle.plx_commands.specs.Moves.{begins_change, done_at, model_after_ok, model_after_reply, refused_at, replied_in, slot_after_attach, slot_after_change, slot_without_owner, started_at, where_owned}
use Rattle.plx_commands.specs.Places.{at}
use Rattle.plx_commands.specs.Slots.{changed_slot}
use Rattle.plx_commands.specs.declared.command.Command.{Command}
use Rattle.plx_commands.specs.declared.command.Command.TheVariants.{Attach, Detach, Create, Delete, Read, Write, Flush, Reserve, Renew, Retire, Reclaim}
use Rattle.plx_commands.specs.declared.entry.Entry.TheVariants as entry
use Rattle.plx_commands.specs.declared.reply.Reply.{Reply}
use Rattle.plx_commands.specs.declared.reply.Reply.TheVariants.{Attached}
use Rattle.plx_commands.proofs.Places.{at-all, at-other}
use Rattle.law_model.proofs.Replied.{by-sort}
use Rattle.law_model.specs.ImagesStay.{ImageStays, ImagesStay, decided_slot}

-- a slot that is the same, and one that nobody owns any more
stays-same : (s : Slot) → ImageStays s s
stays-same s = record { image = refl; change = refl }

stays-equal : (s t : Slot) → t ≡ s → ImageStays s t
stays-equal s t same = let Q : Slot → Type 0 = λ x. ImageStays s x in subst Q (sym same) (stays-same s)

stays-back : (s : Slot) (a : ℕ) → ImageStays s (slot_without_owner s a)
stays-back s a = record { image = refl; change = refl }

-- what a command changes is what it decides
changed-decided : (command : Command) (slot : ℕ) → changed_slot command ≡ Some slot → decided_slot command ≡ Some slot
changed-decided (Attach k) slot e = absurd (let P : ⊥ = cc in P)
changed-decided (Detach k) slot e = e
changed-decided (Create k size label) slot e = e
changed-decided (Delete k) slot e = e
changed-decided (Read k v) slot e = e
changed-decided (Write k v x) slot e = e
changed-decided (Flush k) slot e = e
changed-decided (Reserve count) slot e = e
changed-decided Renew slot e = e
changed-decided Retire slot e = e
changed-decided Reclaim slot e = e

module _ (m : Model) (a : ℕ) (command : Command) (k : ℕ) (away : decided_slot command ≢ Some k) where
  -- another slot than the one that the command changes
  other-slot : (j : ℕ) → changed_slot command ≡ Some j → k ≢ j
  other-slot j is same = away (changed-decided command j is ∙ ap Some (sym same))

  stays-at : (j : ℕ) (new : Slot) → changed_slot command ≡ Some j → ImageStays (m.slots k) (at m.slots j new k)
  stays-at j new is = stays-equal (m.slots k) _ (at-other m.slots j k new (other-slot j is))

  stays-where : (test : Bool) (j : ℕ) (new : Slot) → changed_slot command ≡ Some j → ImageStays (m.slots k) (where_owned test m.slots j new k)
  stays-where true j new is = stays-at j new is
  stays-where false j new is = stays-same (m.slots k)

  stays-started : (o : Option ℕ) → changed_slot command ≡ o → ImageStays (m.slots k) (started_at m a command o k)
  stays-started None is = stays-same (m.slots k)
  stays-started (Some j) is = stays-where (begins_change m a command) j _ is

  stays-refused : (o : Option ℕ) → changed_slot command ≡ o → ImageStays (m.slots k) (refused_at m a o k)
  stays-refused None is = stays-same (m.slots k)
  stays-refused (Some j) is = stays-where (owns (m.slots j).owner a) j _ is

  stays-done : (o : Option ℕ) → changed_slot command ≡ o → ImageStays (m.slots k) (done_at m o k)
  stays-done None is = stays-same (m.slots k)
  stays-done (Some j) is = stays-at j (slot_after_change (m.slots j)) is

stays-succeeded : (m : Model) (a : ℕ) (command : Command) (reply : Reply) (k : ℕ) → decided_slot command ≢ Some k → ImageStays (m.slots k) ((model_after_ok m a command reply).slots k)
stays-succeeded m a (Attach j) (Attached report) k away =
    stays-equal (m.slots k) _ (at-other m.slots j.0 k (slot_after_attach (m.slots j.0) a report) (λ e. away (ap Some (sym e))))
stays-succeeded m a (Attach j) reply k away = stays-same (m.slots k)
stays-succeeded m a (Detach j) reply k away =
    at-all (λ n t. ImageStays (m.slots n) t) m.slots j.0 (slot_without_owner (m.slots j.0) a) (stays-back (m.slots j.0) a) (λ n ne. stays-same (m.slots n)) k
stays-succeeded m a command reply k away = stays-done m a command k away (changed_slot command) refl

stays-replied : (m : Model) (a : ℕ) (command : Command) (reply : Reply) (k : ℕ) → decided_slot command ≢ Some k → ImageStays (m.slots k) ((model_after_reply m a command reply).slots k)
stays-replied m a command reply k away =
    by-sort (λ n. ImageStays (m.slots k) (n.slots k)) m a command reply (λ own. stays-succeeded m a command reply k away) (λ drops. stays-back (m.slots k) a)
    (λ stays. stays-refused m a command k away (changed_slot command) refl)

pub images-stay : ImagesStay
images-stay m (entry.Start a command) k other = stays-started m a.0 command k (λ e. other (command, refl, e)) (changed_slot command) refl
images-stay m (entry.Crash a) k other = stays-back (m.slots k) a.0
images-stay m (entry.Reply a reply) k other = by_running (m.running a.0) refl
  where
    by_running : (r : Option Command) → m.running a.0 ≡ r → ImageStays (m.slots k) ((replied_in m a.0 r reply).slots k)
    by_running None is = stays-same (m.slots k)
    by_running (Some command) is = stays-replied m a.0 command reply k (λ e. other (command, is, e))
