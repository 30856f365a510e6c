use Rattle.std.proofs.Common.{◌≡◌, ◌∙◌, ap, arith, replicate}
use Rattle.plx_commands.specs.Model.{first_slot}
use Rattle.plx_model.specs.Shown.{slot_of}
use Rattle.plx_model.proofs.Tables.{same-more}
use Rattle.plx_model.proofs.first.first_slots.Goals as goal

pub loop-preserved : goal.loop-preserved
loop-preserved c =
    same-more slot_of c.loop.slots.items c.new.result c.loop.counter first_slot c.push.new.self.items
    c.in_ok-push.ensures.items c.loop.invariant c.new.ensures

pub returns : goal.returns
returns c =
    let all : c.loop.counter ≡ c.args.images = omega arith in
    c.loop.invariant ∙ ap (λ n. replicate n first_slot) all
