use Rattle.std.proofs.Common.{rules, ◌≡◌, ◌∙◌, ap, sym, Some, ◌∷◌}
use Rattle.plx_commands.specs.declared.reply.Reply.TheVariants as reply
use Rattle.plx_lease.specs.Uses.{use_of, uses_of}
use Rattle.plx_rules.specs.Ends.{ends, lost_process}
use Rattle.plx_rules.specs.InUse.{first_reached, unless_reached}
use Rattle.plx_alloc.specs.Tables.{allocator_setting}
use Rattle.plx_alloc.specs.Gives.{around_known, retire_use}
use Rattle.plx_alloc.proofs.giving.Giving.damaged.Goals as goal

pub returns-in-Some : goal.returns-in-Some
returns-in-Some c = λ o.
    let a = c.args.space.now in
    let s = allocator_setting o.appliance a in
    let known = around_known o a in
    let e : Some (use_of c.in-Some.due) ≡ first_reached (retire_use c.args.self.now ∷ uses_of c.args.self.now.uses) c.args.reading = search rules in
    c.lost.ensures s o.rest known (sym c.geometry.ensures)
    ∙ ap (λ due. unless_reached due (λ due. lost_process s known due c.args.reading) (ends (reply.Damaged c.args.self.now.map) known)) e
