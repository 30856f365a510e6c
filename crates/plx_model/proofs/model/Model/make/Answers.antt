use Rattle.std.proofs.Common.{◌∙◌, sym}
use Rattle.plx_commands.specs.Moves.{slot_after_change}
use Rattle.plx_model.proofs.OnResult.{any_err}
use Rattle.plx_model.proofs.Pictures.{picture-changed, picture-rested, picture-same, picture-sessions}
use Rattle.plx_model.proofs.model.Model.make.Goals as goal

pub returns-in_err-make-clause-err : goal.returns-in_err-make-clause-err
returns-in_err-make-clause-err c =
    any_err c.from_residual.result
    (picture-same c.args.self.now.slots.items c.args.self.now.seats.items c.args.slot c.index_mut-state.result.now c.make.new.self c.requires.within c.index_mut-state.ensures.value c.in_err-make.ensures.err)

pub returns-clause-ok : goal.returns-clause-ok
returns-clause-ok c =
    picture-rested c.args.self.now.slots.items _ c.args.self.now.seats.items c.args.self.now.seats.items c.args.appliance.0 c.run.new.self _ _
    (picture-changed slot_after_change c.args.self.now.slots.items c.args.self.now.seats.items c.args.slot c.index_mut-state.result.now c.make.new.self c.requires.within c.index_mut-state.ensures.value c.in_ok-make.ensures.ok)
    c.requires.known (c.run.ensures.sessions ∙ sym (picture-sessions c.args.self.now.slots.items c.args.self.now.seats.items c.args.appliance.0 c.index_mut-seat.result.now c.requires.known c.index_mut-seat.ensures.value)) c.run.ensures.running
