use Rattle.std.proofs.Common.{◌<◌, length, arith}
use Rattle.plx_commands.specs.Moves.{slot_without_owner}
use Rattle.plx_model.proofs.Pictures.{picture-changed}
use Rattle.plx_model.proofs.model.Model.disown.Goals as goal

pub returns-clause-moved : goal.returns-clause-moved
returns-clause-moved c =
    let within : c.args.slot < length c.args.self.now.slots.items = omega (arith, c.len.ensures, c.if-len-index.false) in
    picture-changed (λ slot. slot_without_owner slot c.args.appliance.0) c.args.self.now.slots.items c.args.self.now.seats.items c.args.slot c.index_mut-state.result.now c.disown.new.self
    within c.index_mut-state.ensures.value c.disown.ensures
