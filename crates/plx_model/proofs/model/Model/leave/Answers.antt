use Rattle.std.proofs.Common.{◌≡◌, ◌<◌, ◌∙◌, ℕ, Bool, false, length, sym, ap, subst}
use Rattle.plx_commands.specs.Model.{Model}
use Rattle.plx_commands.specs.Places.{at}
use Rattle.plx_model.specs.Shown.{model_of_tables, seat_sessions}
use Rattle.plx_model.proofs.Pictures.{picture-rested, picture-sessions}
use Rattle.plx_model.proofs.model.Model.leave.Goals as goal

pub returns : goal.returns
returns c =
    let within : c.args.appliance.0 < length c.disown.new.self.seats.items = subst (λ (n : ℕ). c.args.appliance.0 < n) (sym c.disown.ensures.seats) c.requires in
    let had : (model_of_tables c.args.self.now).sessions c.args.appliance.0 ≡ seat_sessions c.index_mut-seat.result.now =
    sym (ap (λ (m : Model). m.sessions c.args.appliance.0) c.disown.ensures.moved)
    ∙ picture-sessions c.disown.new.self.slots.items c.disown.new.self.seats.items c.args.appliance.0 c.index_mut-seat.result.now within c.index_mut-seat.ensures.value in
    picture-rested c.args.self.now.slots.items c.disown.new.self.slots.items c.args.self.now.seats.items c.disown.new.self.seats.items c.args.appliance.0 c.run.new.self _ _
    c.disown.ensures.moved within (c.run.ensures.sessions ∙ (c.close.ensures.sessions ∙ ap (λ (f : ℕ → Bool). at f c.args.slot false) (sym had))) c.run.ensures.running
