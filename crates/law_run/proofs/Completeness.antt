-- A reply that isn't the command's own Ok has a cause.
use Rattle.std.proofs.Common.{◌≡◌, ◌⊎◌, inl, inr, [], true, refl, sym, subst}
use Rattle.plx_base.specs.declared.numbers.BlockNo.{BlockNo}
use Rattle.plx_commands.specs.Replies.{is_own}
use Rattle.plx_commands.specs.declared.command.Command.{Command}
use Rattle.plx_commands.specs.declared.reply.Reply.{Reply}
use Rattle.plx_commands.specs.declared.reply.Reply.TheVariants as reply
use Rattle.plx_disk.specs.declared.ask.Ask.TheVariants as ask
use Rattle.plx_disk.specs.declared.ask.Answer.TheVariants as answer
use Rattle.plx_rules.specs.Settings.{Setting}
use Rattle.law_run.specs.CommandLogs.{CommandLog, WasAnswered}
use Rattle.law_run.specs.Completeness.{HasCause, fact, failed, missed, reached, busy, full, worn, outside, outside_map, outside_lease, OkWithoutCause}
use Rattle.law_run.specs.Replies.{Comes, IsReplied, refused, worked}
use Rattle.law_run.specs.Replies as replies
use Rattle.law_run.specs.Senses.{Local, IsLocal}

own-of-same : (command : Command) (is : Command) (r : Reply) → command ≡ is → is_own is r ≡ true → is_own command r ≡ true
own-of-same command is r e mine = subst (λ c. is_own c r ≡ true) (sym e) mine

of-work : (s : Setting) (log : CommandLog) (r : Reply) → Comes s IsLocal log r → HasCause s log ⊎ (is_own log.command r ≡ true)
of-work s log (reply.Attached report) comes = inr (own-of-same log.command _ (reply.Attached report) (comes Local tt).command refl)
of-work s log reply.Detached comes = inr (own-of-same log.command _ reply.Detached comes.command refl)
of-work s log reply.Created comes = inr (own-of-same log.command _ reply.Created (comes Local tt).command refl)
of-work s log reply.Deleted comes = inr (own-of-same log.command _ reply.Deleted (comes Local tt).command refl)
of-work s log (reply.Data payload) comes = inr (own-of-same log.command _ (reply.Data payload) (comes Local tt).command refl)
of-work s log (reply.Written number) comes = inr (own-of-same log.command _ (reply.Written number) (comes Local tt).command refl)
of-work s log (reply.Flushed applied blocks) comes = absurd comes
of-work s log reply.Reserved comes = inr (own-of-same log.command _ reply.Reserved comes.command refl)
of-work s log reply.Renewed comes = inr (own-of-same log.command _ reply.Renewed comes.command refl)
of-work s log reply.Retired comes = inr (own-of-same log.command _ reply.Retired comes.command refl)
of-work s log (reply.Reclaimed covered freed reads) comes = absurd comes
of-work s log reply.NotAttached comes = absurd comes
of-work s log reply.AlreadyAttached comes = absurd comes
of-work s log reply.NoImage comes = absurd comes
of-work s log reply.Exists comes = absurd comes
of-work s log (reply.OutOfRange size) comes = absurd comes
of-work s log (reply.Busy lease seen) comes = inl (busy lease seen comes)
of-work s log (reply.Lost lease until reading) (replies.missed k b bytes was rests) = inl (missed _ bytes _ was)
of-work s log (reply.Lost lease until reading) (replies.reached due name ends last its past first) = inl (reached due reading last its past)
of-work s log (reply.ReadFault b) comes = inl (failed _ _ comes)
of-work s log (reply.WriteFault b) comes = inl (failed _ comes.2 comes.3)
of-work s log reply.Full comes = inl (full comes)
of-work s log (reply.Damaged b) (replies.in_image is) = inl (outside is.image b is.bytes is.named is.read is.outside)
of-work s log (reply.Damaged b) (replies.in_map is) =
    inl (outside_map is.extent is.bytes (subst (λ (c : BlockNo). WasAnswered log (ask.Read c) [] (answer.Bytes is.bytes)) (λ i. record { 0 = is.here i }) is.read) is.outside)
of-work s log (reply.Damaged b) (replies.in_lease is) =
    inl (outside_lease is.extent is.bytes (subst (λ (c : BlockNo). WasAnswered log (ask.Read c) [] (answer.Bytes is.bytes)) (λ i. record { 0 = is.here i }) is.read) is.outside)
of-work s log (reply.WornOut count) comes = inl (worn count comes)

pub ok-without-cause : OkWithoutCause
ok-without-cause s log r (refused place once refuses first) = inl (fact place r refuses)
ok-without-cause s log r (worked fine comes) = of-work s log r comes
