-- A command's own Ok.
use Rattle.std.proofs.Common.{◌≡◌, true, refl}
use Rattle.plx_commands.specs.Replies.{is_own, number_of}
use Rattle.plx_commands.specs.declared.command.Command.{Command}
use Rattle.plx_commands.specs.declared.reply.Reply.{Reply}
use Rattle.plx_commands.specs.declared.reply.Reply.TheVariants.{Attached, Detached, Created, Deleted, Data, Written, Flushed, Reserved, Renewed, Retired, Reclaimed}

-- it has the number 0
pub own-zero : (command : Command) (reply : Reply) → is_own command reply ≡ true → number_of reply ≡ 0
own-zero command (Attached report) own = refl
own-zero command Detached own = refl
own-zero command Created own = refl
own-zero command Deleted own = refl
own-zero command (Data payload) own = refl
own-zero command (Written number) own = refl
own-zero command (Flushed applied blocks) own = refl
own-zero command Reserved own = refl
own-zero command Renewed own = refl
own-zero command Retired own = refl
own-zero command (Reclaimed covered freed reads) own = refl
own-zero command reply own = cc
