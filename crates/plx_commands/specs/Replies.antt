-- Replies by their numbers, and which replies a command has.
use Rattle.std.specs.Prelude.{ℕ, List, [], ◌∷◌, Bool, false, ◌&&◌, ◌||◌, ◌==◌, nat_le, Option, Some}
use Rattle.std.specs.Prelude.{None}
use Rattle.plx_commands.specs.declared.command.Command.{Command}
use Rattle.plx_commands.specs.declared.command.Command.TheVariants.{Attach, Detach, Create, Delete}
use Rattle.plx_commands.specs.declared.command.Command.TheVariants.{Read, Write, Flush, Reserve}
use Rattle.plx_commands.specs.declared.command.Command.TheVariants.{Renew, Retire, Reclaim}
use Rattle.plx_commands.specs.declared.reply.Reply.{Reply}
use Rattle.plx_commands.specs.declared.reply.Reply.TheVariants.{Attached, Detached, Created}
use Rattle.plx_commands.specs.declared.reply.Reply.TheVariants.{Deleted, Data, Written, Flushed}
use Rattle.plx_commands.specs.declared.reply.Reply.TheVariants.{Reserved, Renewed, Retired}
use Rattle.plx_commands.specs.declared.reply.Reply.TheVariants.{Reclaimed, NotAttached}
use Rattle.plx_commands.specs.declared.reply.Reply.TheVariants.{AlreadyAttached, NoImage, Exists}
use Rattle.plx_commands.specs.declared.reply.Reply.TheVariants.{OutOfRange, Busy, Lost, ReadFault}
use Rattle.plx_commands.specs.declared.reply.Reply.TheVariants.{WriteFault, Full, Damaged, WornOut}

-- the number of a reply: 0 of an Ok, else the refusal's own. 6, 7 and 16 are refusals
-- of snapshots and of longer writes; 14 is want of memory, which is never a reply
abbrev pub number_of : Reply → ℕ
number_of (Attached report) = 0
number_of Detached = 0
number_of Created = 0
number_of Deleted = 0
number_of (Data payload) = 0
number_of (Written number) = 0
number_of (Flushed applied blocks) = 0
number_of Reserved = 0
number_of Renewed = 0
number_of Retired = 0
number_of (Reclaimed covered freed reads) = 0
number_of NotAttached = 1
number_of AlreadyAttached = 2
number_of NoImage = 3
number_of Exists = 4
number_of (OutOfRange size) = 5
number_of (Busy lease seen) = 8
number_of (Lost lease until reading) = 9
number_of (ReadFault block) = 10
number_of (WriteFault block) = 11
number_of Full = 12
number_of (Damaged block) = 13
number_of (WornOut count) = 15

-- the Oks in their order, beginning with 1
abbrev pub ok_of : Reply → Option ℕ
ok_of (Attached report) = Some 1
ok_of Detached = Some 2
ok_of Created = Some 3
ok_of Deleted = Some 4
ok_of (Data payload) = Some 5
ok_of (Written number) = Some 6
ok_of (Flushed applied blocks) = Some 7
ok_of Reserved = Some 11
ok_of Renewed = Some 12
ok_of Retired = Some 13
ok_of (Reclaimed covered freed reads) = Some 14
ok_of NotAttached = None
ok_of AlreadyAttached = None
ok_of NoImage = None
ok_of Exists = None
ok_of (OutOfRange size) = None
ok_of (Busy lease seen) = None
ok_of (Lost lease until reading) = None
ok_of (ReadFault block) = None
ok_of (WriteFault block) = None
ok_of Full = None
ok_of (Damaged block) = None
ok_of (WornOut count) = None

-- the Ok of each command
abbrev pub own_ok : Command → ℕ
own_ok (Attach slot) = 1
own_ok (Detach slot) = 2
own_ok (Create slot size label) = 3
own_ok (Delete slot) = 4
own_ok (Read slot vblock) = 5
own_ok (Write slot vblock payload) = 6
own_ok (Flush slot) = 7
own_ok (Reserve count) = 11
own_ok Renew = 12
own_ok Retire = 13
own_ok Reclaim = 14

-- the numbers of each command's replies besides its Ok
abbrev pub row : Command → List ℕ
row (Attach slot) = 2 ∷ 3 ∷ 8 ∷ 9 ∷ 10 ∷ 11 ∷ 13 ∷ 15 ∷ []
row (Detach slot) = 1 ∷ 9 ∷ 11 ∷ []
row (Create slot size label) = 1 ∷ 4 ∷ 5 ∷ 9 ∷ 11 ∷ 15 ∷ []
row (Delete slot) = 1 ∷ 3 ∷ 9 ∷ 11 ∷ []
row (Read slot vblock) = 1 ∷ 3 ∷ 5 ∷ 9 ∷ 10 ∷ 13 ∷ []
row (Write slot vblock payload) = 1 ∷ 3 ∷ 5 ∷ 8 ∷ 9 ∷ 10 ∷ 11 ∷ 12 ∷ 13 ∷ 15 ∷ []
row (Flush slot) = 1 ∷ 3 ∷ 8 ∷ 9 ∷ 10 ∷ 11 ∷ 12 ∷ 13 ∷ 15 ∷ []
row (Reserve count) = 8 ∷ 9 ∷ 10 ∷ 11 ∷ 12 ∷ 13 ∷ 15 ∷ []
row Renew = 9 ∷ 11 ∷ []
row Retire = 9 ∷ 10 ∷ 11 ∷ 13 ∷ []
row Reclaim = 8 ∷ 9 ∷ 10 ∷ 11 ∷ 13 ∷ 15 ∷ []

-- the number is in the row
abbrev pub is_in : ℕ → List ℕ → Bool
is_in number [] = false
is_in number (other ∷ others) = (number == other) || is_in number others

-- an Ok is the one of the command
abbrev pub is_own_ok : Option ℕ → ℕ → Bool
is_own_ok None own = false
is_own_ok (Some ok) own = ok == own

-- the reply is the command's own Ok
abbrev pub is_own : Command → Reply → Bool
is_own command reply = is_own_ok (ok_of reply) (own_ok command)

-- the reply is one of the command's
abbrev pub is_listed : Command → Reply → Bool
is_listed command reply = is_own command reply || is_in (number_of reply) (row command)

-- a lost lease and a failed write end all sessions of the appliance
abbrev pub ends_sessions : ℕ → Bool
ends_sessions number = (number == 9) || (number == 11)

-- refusals that come exactly where a fact of the model holds
abbrev pub rests_on_fact : ℕ → Bool
rests_on_fact number = (nat_le 1 number && nat_le number 7) || (number == 15)

-- a command that may claim a lease: one that may find it busy
abbrev pub may_claim : Command → Bool
may_claim command = is_in 8 (row command)
