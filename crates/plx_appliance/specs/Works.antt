-- The command that runs, by what is said of its machine.
use Rattle.std.specs.Prelude.{◌≡◌, ℕ, List, Option, Result, Ok, Err}
use Rattle.plx_alloc.specs.declared.allocator.Allocator.{Allocator}
use Rattle.plx_commands.specs.declared.reply.Reply.{Reply}
use Rattle.plx_disk.specs.declared.ask.Answer.{Answer}
use Rattle.plx_disk.specs.declared.ask.Ask.{Ask}
use Rattle.plx_rules.specs.Ends.{End, ends}
use Rattle.plx_rules.specs.Holds.{Hold}
use Rattle.plx_rules.specs.Process.{Process}
use Rattle.plx_session.specs.Ending.{known_after}
use Rattle.plx_session.specs.declared.setting.Setting.{Setting}
use Rattle.plx_appliance.specs.Lent.{Lent}
use Rattle.plx_appliance.specs.Machines.{machine_of}
use Rattle.plx_appliance.specs.declared.work.Work.{Work}

-- what the command that runs still asks
abbrev pub work_rest : Lent → Work → Process End
work_rest lent w = (machine_of w).rest lent

-- what it is given
abbrev pub work_setting : Work → Setting
work_setting w = (machine_of w).setting

-- for how many journal slots it has memory
abbrev pub work_slots : Work → ℕ
work_slots w = (machine_of w).slots

-- what is left once a command had its first reading: its machine's rest, or its end with this refusal
abbrev pub work_entered : Lent → Result Work Reply → Process End
work_entered lent (Ok w) = work_rest lent w
work_entered lent (Err reply) = ends reply (known_after reply lent.known)

-- what a claim, a renewal and a release ask concerns their lease alone; every other ask no lease
abbrev pub Spares : Work → Ask → Type 0
Spares w ask = (machine_of w).Spares ask

-- it suits what is kept of space
abbrev pub work_suits : Allocator → Work → Type 0
work_suits space w = (machine_of w).Suits space

-- a command's machine is for this setting
pub record IsTied (setting : Setting) (w : Work) : Type 0 where
  pub same : work_setting w ≡ setting
  pub room : work_slots w ≡ setting.geometry.slots

-- how far a command has come with its claim, which leases it still renews, and what it makes of what was read last
abbrev pub Inside : Work → (ℕ → Hold) → Option ℕ → Option (ℕ × List ℕ) → Type 0
Inside w holds sample found = (machine_of w).Inside holds sample found

-- how a command begins with its claim, and which leases it renews
abbrev pub StartsInside : (leases extents : ℕ → Hold) → Work → Type 0
StartsInside leases extents w = (machine_of w).Starts leases extents

-- the command that runs was answered: a claim, a renewal and a release change what is held of their lease, a take and a give the hand, and nothing else does
abbrev pub Moves : (old new : Work) → Answer → (before after : Lent) → Option Reply → Type 0
Moves old new answer before after result = (machine_of old).Moves new answer before after result
