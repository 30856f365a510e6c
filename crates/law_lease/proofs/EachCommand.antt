-- Each write that any command asks is allowed.
use Rattle.std.proofs.Common.{ℕ, ◌^◌, ◌<◌, List, [], Some, refl, arith}
use Rattle.std.specs.Prelude.{nat_lt}
use Rattle.plx_base.specs.Payload.{bytes_of}
use Rattle.plx_commands.specs.declared.command.Command.{Command}
use Rattle.plx_commands.specs.declared.command.Command.TheVariants.{Attach, Detach, Create, Delete, Read, Write, Flush, Reserve, Renew, Retire, Reclaim}
use Rattle.plx_geom.specs.Geometry.{IsGeometry, lease_count, image_lease, extent_lease, lease_at}
use Rattle.plx_rules.specs.Commands.{detach_process, create_process, delete_process, read_process, write_process, attached_uses, IsWellFormed, command_process}
use Rattle.plx_rules.specs.Holds.{Hold, after_first, session_at}
use Rattle.plx_rules.specs.Session.{Known}
use Rattle.plx_rules.specs.Settings.{Setting}
use Rattle.law_lease.proofs.LawfulCommands.{first-rests, right-in_time, right-attach, right-attached, right-detach, right-create, right-delete, right-read, right-write, right-renew}
use Rattle.law_lease.proofs.LawfulSpace.{right-reserve, right-retire}
use Rattle.law_lease.proofs.Leased.{LawfulRest}

pub lawful-command : (s : Setting) → IsGeometry s.geometry → s.boot < 2 ^ 128 → (known : Known) (holds : ℕ → Hold) (hand : List ℕ) (reading : ℕ) (command : Command) → reading < 2 ^ 48 → IsWellFormed command →
    LawfulRest s.geometry s.boot command (after_first s.geometry known reading holds) [] (Some reading) (command_process s known (after_first s.geometry known reading holds) hand reading command)
lawful-command s geometry small known holds hand reading (Attach slot) early whole =
    right-attach s (Attach slot) known slot.0 (after_first s.geometry known reading holds) (Some reading) (known.sessions slot.0) (nat_lt slot.0 s.geometry.images) _ refl refl
    (first-rests (session_at s.geometry known (lease_at (image_lease slot.0))) reading (holds (lease_at (image_lease slot.0))))
lawful-command s geometry small known holds hand reading (Detach slot) early whole =
    right-attached s (Detach slot) known slot.0 reading (after_first s.geometry known reading holds) (Some reading) (known.sessions slot.0) (nat_lt slot.0 s.geometry.images) _ (detach_process s known slot.0) refl refl
    (λ session claim until within is. right-detach s (Detach slot) known slot.0 (after_first s.geometry known reading holds) (Some reading) claim until within is session)
lawful-command s geometry small known holds hand reading (Create slot size label) early whole =
    right-attached s (Create slot size label) known slot.0 reading (after_first s.geometry known reading holds) (Some reading) (known.sessions slot.0) (nat_lt slot.0 s.geometry.images) _ (create_process s known slot.0 size label) refl refl
    (λ session claim until within is. right-create s (Create slot size label) known slot.0 (after_first s.geometry known reading holds) (Some reading) claim until within is size label session whole)
lawful-command s geometry small known holds hand reading (Delete slot) early whole =
    right-attached s (Delete slot) known slot.0 reading (after_first s.geometry known reading holds) (Some reading) (known.sessions slot.0) (nat_lt slot.0 s.geometry.images) _ (delete_process s known slot.0) refl refl
    (λ session claim until within is. right-delete s (Delete slot) known slot.0 (after_first s.geometry known reading holds) (Some reading) claim until within is session)
lawful-command s geometry small known holds hand reading (Read slot vblock) early whole =
    right-attached s (Read slot vblock) known slot.0 reading (after_first s.geometry known reading holds) (Some reading) (known.sessions slot.0) (nat_lt slot.0 s.geometry.images) _ (read_process s known slot.0 vblock) refl refl
    (λ session claim until within is. right-read s (Read slot vblock) known slot.0 (after_first s.geometry known reading holds) (Some reading) claim until within is vblock session)
lawful-command s geometry small known holds hand reading (Write slot vblock payload) early whole =
    right-attached s (Write slot vblock payload) known slot.0 reading (after_first s.geometry known reading holds) (Some reading) (known.sessions slot.0) (nat_lt slot.0 s.geometry.images) _ (write_process s known slot.0 vblock (bytes_of payload)) refl refl
    (λ session claim until within is. right-write s (Write slot vblock payload) known slot.0 (after_first s.geometry known reading holds) (Some reading) claim until within is vblock (bytes_of payload) session geometry.slots_low whole)
lawful-command s geometry small known holds hand reading Renew early whole =
    right-in_time s Renew known (attached_uses known (after_first s.geometry known reading holds) s.geometry.images 0) reading _ (after_first s.geometry known reading holds) (Some reading)
    (right-renew s Renew known (after_first s.geometry known reading holds) reading (lease_count s.geometry) 0 (after_first s.geometry known reading holds) (Some reading) early (omega arith) (λ j past. refl))
lawful-command s geometry small known holds hand reading (Flush slot) early whole = tt
lawful-command s geometry small known holds hand reading (Reserve count) early whole =
    right-reserve s geometry small (Reserve count) known (after_first s.geometry known reading holds) hand count (Some reading)
    (λ e. first-rests (session_at s.geometry known (lease_at (extent_lease s.geometry e))) reading (holds (lease_at (extent_lease s.geometry e))))
lawful-command s geometry small known holds hand reading Retire early whole = right-retire s geometry small Retire known (after_first s.geometry known reading holds) hand (Some reading)
lawful-command s geometry small known holds hand reading Reclaim early whole = tt
