-- A command that has begun: what it asks after its first reading.
use Rattle.std.specs.Prelude.{◌≡◌, ℕ, List, nat_lt}
use Rattle.plx_commands.specs.declared.command.Command.{Command}
use Rattle.plx_geom.specs.Geometry.{image_lease, lease_at}
use Rattle.plx_rules.specs.Process.{Process}
use Rattle.plx_rules.specs.Attaching.{attach_process}
use Rattle.plx_rules.specs.Commands.{command_process, detach_process, of_attached}
use Rattle.plx_rules.specs.Ends.{End}
use Rattle.plx_rules.specs.Holds.{Hold}
use Rattle.plx_rules.specs.Session.{Known}
use Rattle.plx_rules.specs.Settings.{Setting}
use Rattle.plx_rules.specs.Space.{reserve_process, retire_process}
use Rattle.plx_session.specs.Commands.{image_process}
use Rattle.plx_appliance.specs.RenewStarts.{renew_command}
use Rattle.plx_appliance.specs.declared.begun.Begun.{Begun}
use Rattle.plx_appliance.specs.declared.begun.Begun.TheVariants as begun

-- what it asks after its first reading
abbrev pub waiting_process : Setting → Known → (holds : ℕ → Hold) → (hand : List ℕ) → (reading : ℕ) → Begun → Process End
waiting_process s known holds hand reading (begun.Attach slot room) =
    attach_process s known slot.0 (known.sessions slot.0) (nat_lt slot.0 s.geometry.images) (holds (lease_at (image_lease slot.0)))
waiting_process s known holds hand reading (begun.Detach slot lease) = of_attached s known holds reading slot.0 (detach_process s known slot.0)
waiting_process s known holds hand reading (begun.Image slot command) = of_attached s known holds reading slot.0 (image_process s known slot.0 command)
waiting_process s known holds hand reading (begun.Renew renewals lease) = renew_command s known holds reading
waiting_process s known holds hand reading (begun.Reserve need room lease) = reserve_process s known holds hand need.count
waiting_process s known holds hand reading (begun.Retire room extent_lease image_lease) = retire_process s known holds hand

-- for how many journal slots it has memory, where it needs any
abbrev pub begun_slots : ℕ → Begun → ℕ
begun_slots slots (begun.Attach slot room) = room.slots
begun_slots slots other = slots

-- for how many leases it has memory, where it needs any
abbrev pub begun_leases : ℕ → Begun → ℕ
begun_leases leases (begun.Renew renewals lease) = renewals.leases
begun_leases leases other = leases

-- after its first reading it asks what this command does
abbrev pub WaitsAs : Command → Begun → Type 0
WaitsAs command b =
    (s : Setting) (known : Known) (holds : ℕ → Hold) (hand : List ℕ) (reading : ℕ) →
    waiting_process s known holds hand reading b ≡ command_process s known holds hand reading command

-- it is this command, begun with memory for so many journal slots and leases
pub record BeginsAs (slots leases : ℕ) (command : Command) (b : Begun) : Type 0 where
  pub process : WaitsAs command b
  pub room : begun_slots slots b ≡ slots
  pub renewals : begun_leases leases b ≡ leases
