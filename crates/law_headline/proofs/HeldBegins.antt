-- A command that begins while its boot holds the lease of its image.
use Rattle.std.proofs.Common.{◌≡◌, ℕ, ◌+◌, ◌≤◌, ◌<◌, inl, inr, List, Bool, true, false, Option, Some, None, ap, sym, subst, ◌∙◌, arith}
use Rattle.std.specs.Prelude.{nat_lt, not}
use Rattle.plx_base.specs.Payload.{bytes_of}
use Rattle.plx_base.specs.Sectors.{Device}
use Rattle.plx_base.specs.declared.lease.Claim.{Claim}
use Rattle.plx_commands.specs.Facts.{is_size, is_worn}
use Rattle.plx_commands.specs.Images.{Image, image_after_write, new_image, free_image}
use Rattle.plx_commands.specs.Limits.{last_generation, last_write}
use Rattle.plx_commands.specs.declared.command.Command.{Command}
use Rattle.plx_commands.specs.declared.command.Command.TheVariants.{Attach, Detach, Create, Delete, Read, Write, Flush, Reserve, Renew, Retire, Reclaim}
use Rattle.plx_gate.specs.declared.image.ImageRecord.{ImageRecord}
use Rattle.plx_geom.specs.Geometry.{IsGeometry, image_lease, lease_at}
use Rattle.plx_base.proofs.Tests.{nat_lt-true}
use Rattle.plx_rules.specs.Process.{Process}
use Rattle.plx_rules.specs.Journaled.{Journaled}
use Rattle.plx_rules.specs.Attaching.{image_use, attach_process}
use Rattle.plx_rules.specs.Commands.{IsBuilt, IsWellFormed, attached_process, of_attached, detach_process, create_process, delete_process, read_process, write_process, command_process}
use Rattle.plx_rules.specs.Ends.{End}
use Rattle.plx_rules.specs.Holds.{Hold, Held}
use Rattle.plx_rules.specs.Session.{Session, Known}
use Rattle.plx_rules.specs.Settings.{Setting}
use Rattle.law_headline.proofs.Held.{Without, With, HeldProcess}
use Rattle.law_headline.proofs.HeldCommands.{slot_no, held-in-time, load-attaches}
use Rattle.law_headline.proofs.HeldSessions.{keeps-with, held-detach, held-attach, held-read, held-write, held-create, held-delete}
use Rattle.law_headline.proofs.Journals.{IsJournal, IsShown}
use Rattle.law_model.proofs.Replied.{Names}

-- the change that an owner's command puts under way
abbrev pub IsBegunChange : Command → Image → Option Image → Type 0
IsBegunChange (Attach slot) image change = change ≡ None
IsBegunChange (Detach slot) image change = change ≡ None
IsBegunChange (Create slot size label) image change =
    image.live ≡ false → not (is_size size) ≡ false → is_worn last_generation image.generation ≡ false → change ≡ Some (new_image (image.generation + 1) size label)
IsBegunChange (Delete slot) image change = image.live ≡ true → change ≡ Some (free_image image.generation)
IsBegunChange (Read slot vblock) image change = change ≡ None
IsBegunChange (Write slot vblock payload) image change =
    image.live ≡ true → vblock < image.size → is_worn last_write image.writes ≡ false → change ≡ Some (image_after_write image vblock (bytes_of payload))
IsBegunChange (Flush slot) image change = change ≡ None
IsBegunChange (Reserve count) image change = change ≡ None
IsBegunChange Renew image change = change ≡ None
IsBegunChange Retire image change = change ≡ None
IsBegunChange Reclaim image change = change ≡ None

module _ (s : Setting) (geometry : IsGeometry s.geometry) (a i : ℕ) (within : i < s.geometry.images) (known : Known) (holds : ℕ → Hold) (hand : List ℕ) (reading : ℕ) (claim : Claim) (until : ℕ)
    (held : holds (lease_at (image_lease i)) ≡ Held claim until) (device : Device) (kept : ImageRecord) (writes : List Journaled) (journal : IsJournal s.geometry device i kept writes) where
  abbrev few : s.geometry.slots ≤ 64
  few = geometry.slots_high

  -- an attach of an image whose lease is held without a session
  pub begin-without : known.sessions i ≡ None → HeldProcess s.geometry a i (Attach (slot_no i)) known (Without kept writes) (command_process s known holds hand reading (Attach (slot_no i))) device
  begin-without none =
      let P : Option Session → Bool → Hold → Type 0 = λ o b h. HeldProcess s.geometry a i (Attach (slot_no i)) known (Without kept writes) (attach_process s known i o b h) device in
      subst (λ (o : Option Session). P o (nat_lt i s.geometry.images) (holds (lease_at (image_lease i)))) (sym none)
      (subst (λ (b : Bool). P None b (holds (lease_at (image_lease i)))) (sym (nat_lt-true i s.geometry.images within))
      (subst (P None true) (sym held) (load-attaches s a i within few known device kept writes journal none known until none)))

  module _ (image : Image) (left : IsShown kept writes image) (has : known.sessions i ≡ Some (record { image = kept; writes = writes })) where
    -- a command of a session
    with-session : (command : Command) (change : Option Image) (rest : Session → ℕ → Process End) →
        HeldProcess s.geometry a i command known (With image change) (rest (record { image = kept; writes = writes }) until) device →
        HeldProcess s.geometry a i command known (With image change) (of_attached s known holds reading i rest) device
    with-session command change rest process =
        let P : Option Session → Bool → Hold → Type 0 = λ o b h. HeldProcess s.geometry a i command known (With image change) (attached_process s known i o b h reading rest) device in
        subst (λ (o : Option Session). P o (nat_lt i s.geometry.images) (holds (lease_at (image_lease i)))) (sym has)
        (subst (λ (b : Bool). P (Some (record { image = kept; writes = writes })) b (holds (lease_at (image_lease i)))) (sym (nat_lt-true i s.geometry.images within))
        (subst (P (Some (record { image = kept; writes = writes })) true) (sym held)
        (held-in-time s a i command known (With image change) device (keeps-with s a i within few known device kept writes image journal left has command change)
        known (image_use i until) reading (rest (record { image = kept; writes = writes }) until) process)))

    -- the command of this slot
    begin-at : (command : Command) (change : Option Image) → Names command i → IsWellFormed command → IsBuilt command → IsBegunChange command image change →
        HeldProcess s.geometry a i command known (With image change) (command_process s known holds hand reading command) device
    begin-at (Attach j) change (inl is) well built begun =
        let P : ℕ → Option Image → Type 0 = λ n c. HeldProcess s.geometry a i (Attach (slot_no n)) known (With image c) (command_process s known holds hand reading (Attach (slot_no n))) device in
        let Q : Option Session → Type 0 = λ o. HeldProcess s.geometry a i (Attach (slot_no i)) known (With image None) (attach_process s known i o (nat_lt i s.geometry.images) (holds (lease_at (image_lease i)))) device in
        subst (λ (n : ℕ). P n change) (sym is) (subst (P i) (sym begun) (subst Q (sym has) (held-attach s a i within few known device kept writes image journal left has)))
    begin-at (Detach j) change (inl is) well built begun =
        let P : ℕ → Type 0 = λ n. HeldProcess s.geometry a i (Detach (slot_no n)) known (With image change) (command_process s known holds hand reading (Detach (slot_no n))) device in
        subst P (sym is) (with-session (Detach (slot_no i)) change (detach_process s known i)
        (keeps-with s a i within few known device kept writes image journal left has (Detach (slot_no i)) change, held-detach s a i within few known device kept writes image journal left has change))
    begin-at (Create j size label) change (inl is) well built begun =
        let P : ℕ → Type 0 = λ n. HeldProcess s.geometry a i (Create (slot_no n) size label) known (With image change) (command_process s known holds hand reading (Create (slot_no n) size label)) device in
        subst P (sym is) (with-session (Create (slot_no i) size label) change (create_process s known i size label)
        (held-create s a i within few known device kept writes image journal left has size label until change well
        (λ dead fits young. begun (left.live ∙ dead) fits (ap (λ n. is_worn last_generation n) left.generation ∙ young))))
    begin-at (Delete j) change (inl is) well built begun =
        let P : ℕ → Type 0 = λ n. HeldProcess s.geometry a i (Delete (slot_no n)) known (With image change) (command_process s known holds hand reading (Delete (slot_no n))) device in
        subst P (sym is) (with-session (Delete (slot_no i)) change (delete_process s known i)
        (held-delete s a i within few known device kept writes image journal left has until change (λ lives. begun (left.live ∙ lives))))
    begin-at (Read j vblock) change (inl is) well built begun =
        let P : ℕ → Option Image → Type 0 = λ n c. HeldProcess s.geometry a i (Read (slot_no n) vblock) known (With image c) (command_process s known holds hand reading (Read (slot_no n) vblock)) device in
        subst (λ (n : ℕ). P n change) (sym is) (subst (P i) (sym begun) (with-session (Read (slot_no i) vblock) None (read_process s known i vblock)
        (held-read s a i within few known device kept writes image journal left has vblock until)))
    begin-at (Write j vblock payload) change (inl is) well built begun =
        let P : ℕ → Type 0 = λ n. HeldProcess s.geometry a i (Write (slot_no n) vblock payload) known (With image change) (command_process s known holds hand reading (Write (slot_no n) vblock payload)) device in
        subst P (sym is) (with-session (Write (slot_no i) vblock payload) change (write_process s known i vblock (bytes_of payload))
        (held-write s a i within few known device kept writes image journal left has vblock payload until change well
        (λ lives less young. begun (left.live ∙ lives) (let size = left.size in omega (arith, size, less)) (ap (λ n. is_worn last_write n) left.count ∙ young))))
    begin-at (Attach j) change (inr no') well built begun = absurd no'
    begin-at (Detach j) change (inr no') well built begun = absurd no'
    begin-at (Create j size label) change (inr no') well built begun = absurd no'
    begin-at (Delete j) change (inr no') well built begun = absurd no'
    begin-at (Read j vblock) change (inr no') well built begun = absurd no'
    begin-at (Write j vblock payload) change (inr no') well built begun = absurd no'
    begin-at (Flush j) change names well built begun = absurd built
    begin-at (Reserve count) change names well built begun = absurd names
    begin-at Renew change names well built begun = absurd names
    begin-at Retire change names well built begun = absurd names
    begin-at Reclaim change names well built begun = absurd built

    pub begin-with : (command : Command) (change : Option Image) → Names command i → IsWellFormed command → IsBuilt command → IsBegunChange command image change →
        HeldProcess s.geometry a i command known (With image change) (command_process s known holds hand reading command) device
    begin-with = begin-at
