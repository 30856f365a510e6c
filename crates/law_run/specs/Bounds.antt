-- How many asks of a command are answered at most.
use Rattle.std.specs.Prelude.{ℕ, zero, suc, ◌+◌, ◌*◌, List}
use Rattle.plx_commands.specs.declared.command.Command.{Command}
use Rattle.plx_commands.specs.declared.command.Command.TheVariants.{Attach, Detach, Create, Delete}
use Rattle.plx_commands.specs.declared.command.Command.TheVariants.{Read, Write, Flush, Reserve}
use Rattle.plx_commands.specs.declared.command.Command.TheVariants.{Renew, Retire, Reclaim}
use Rattle.plx_geom.specs.Geometry.{Geometry, lease_count, lease_at}
use Rattle.plx_rules.specs.Holds.{Hold, Nothing, Seen, Wrote, Waited, Held}
use Rattle.plx_rules.specs.Settings.{Setting}
use Rattle.law_run.specs.CommandLogs.{Exchange, Finished, CommandLog}
use Rattle.law_run.specs.Holdings.{holds_after}

-- 1 for a lease that is held
abbrev pub one_held : Hold → ℕ
one_held Nothing = 0
one_held (Seen sample) = 0
one_held (Wrote claim until) = 0
one_held (Waited claim until) = 0
one_held (Held claim until) = 1

-- how many leases are held, of `left` leases from this one on
abbrev pub count_held : (ℕ → Hold) → (left lease : ℕ) → ℕ
count_held holds zero lease = 0
count_held holds (suc left) lease =
    one_held (holds (lease_at lease)) + count_held holds left (lease + 1)

-- how many leases are held after some commands
abbrev pub held_after : Geometry → List Finished → ℕ
held_after g before = count_held (holds_after g before) (lease_count g) 0

-- the bound of a command, by what was done before it and by what it has met so far; one that isn't
-- built asks for its first reading alone
abbrev pub bound_of : Setting → List Finished → Command → List Exchange → ℕ
bound_of s before (Attach slot) exchanges = 9 + 2 * s.geometry.slots
bound_of s before (Detach slot) exchanges = 2
bound_of s before (Create slot size label) exchanges = 3
bound_of s before (Delete slot) exchanges = 3
bound_of s before (Read slot vblock) exchanges = 2
bound_of s before (Write slot vblock payload) exchanges = 4
bound_of s before (Flush slot) exchanges = 1
bound_of s before (Reserve count) exchanges = 1 + 8 * s.geometry.extents
bound_of s before Renew exchanges = 1 + held_after s.geometry before
bound_of s before Retire exchanges = 2 + 3 * s.geometry.extents + s.geometry.images
bound_of s before Reclaim exchanges = 1

-- that of the command of a log
abbrev pub bound : Setting → CommandLog → ℕ
bound s log = bound_of s log.before log.command log.exchanges
