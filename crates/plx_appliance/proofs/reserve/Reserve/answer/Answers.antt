use Rattle.std.proofs.Common.{◌≡◌, refl, Some, None, ◌∙◌}
use Rattle.plx_commands.specs.declared.reply.Reply.{Reply}
use Rattle.plx_appliance.specs.Lent.{lends}
use Rattle.plx_appliance.specs.Reserves.{outer_of}
use Rattle.plx_appliance.proofs.reserve.Reserve.answer.Goals as goal

-- a reply isn't none
reply-is-some : (reply : Reply) → Some reply ≡ None → ⊥
reply-is-some reply none = absurd cc

pub returns-in-None : goal.returns-in-None
returns-in-None c =
    let e = c.in-None.ensures in
    let setting = c.args.self.now.setting in
    record {
      rest = λ sessions leases. e.rest (outer_of setting sessions);
      setting = refl;
      suits = λ none. e.suits refl;
      held = e.held;
      same = e.same;
      moves = λ sessions leases. record {
        images = refl;
        end = None;
        goes_on = λ none. refl;
        extents = e.leases;
        hand = e.hand;
        found = λ fits none. e.found fits refl;
      };
    }

pub returns-in-Some : goal.returns-in-Some
returns-in-Some c =
    let e = c.in-Some.ensures in
    let setting = c.args.self.now.setting in
    record {
      rest = λ sessions leases.
          c.reserve_reply.ensures (lends sessions leases c.answer.new.space).known ∙ e.rest (outer_of setting sessions);
      setting = refl;
      suits = λ none. absurd (reply-is-some _ none);
      held = e.held;
      same = e.same;
      moves = λ sessions leases. record {
        images = refl;
        end = Some c.in-Some.end;
        goes_on = λ none. absurd (reply-is-some _ none);
        extents = e.leases;
        hand = e.hand;
        found = λ fits none. absurd (reply-is-some _ none);
      };
    }
