use Rattle.std.proofs.Common.{◌∙◌, ℕ, Bool, true, sym, ap}
use Rattle.plx_commands.specs.Moves.{slot_after_attach}
use Rattle.plx_commands.specs.Places.{at}
use Rattle.plx_model.proofs.OnResult.{any_err}
use Rattle.plx_model.proofs.Pictures.{picture-changed, picture-rested, picture-same, picture-sessions}
use Rattle.plx_model.proofs.model.Model.enter.Goals as goal

pub returns-in_err-attach-clause-err : goal.returns-in_err-attach-clause-err
returns-in_err-attach-clause-err c =
    any_err c.from_residual.result
    (picture-same c.args.self.now.slots.items c.args.self.now.seats.items c.args.slot c.index_mut-state.result.now c.attach.new.self c.requires.within c.index_mut-state.ensures.value c.in_err-attach.ensures.err)

pub returns-clause-ok : goal.returns-clause-ok
returns-clause-ok c =
    picture-rested c.args.self.now.slots.items _ c.args.self.now.seats.items c.args.self.now.seats.items c.args.appliance.0 c.run.new.self _ _
    (picture-changed (λ slot. slot_after_attach slot c.args.appliance.0 c.args.report.now) c.args.self.now.slots.items c.args.self.now.seats.items c.args.slot c.index_mut-state.result.now c.attach.new.self c.requires.within c.index_mut-state.ensures.value c.in_ok-attach.ensures.ok)
    c.requires.known
    (c.run.ensures.sessions
    ∙ (c.open.ensures.sessions
    ∙ ap (λ (f : ℕ → Bool). at f c.args.slot true) (sym (picture-sessions c.args.self.now.slots.items c.args.self.now.seats.items c.args.appliance.0 c.index_mut-seat.result.now c.requires.known c.index_mut-seat.ensures.value)))) c.run.ensures.running
