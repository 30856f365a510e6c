use Rattle.std.proofs.Common.{◌∙◌, refl}
use Rattle.plx_world.proofs.Answered.{on-err}
use Rattle.plx_world.proofs.Cancels.{cancels-stays}
use Rattle.plx_world.proofs.Lending.{answers-lent, back-stays, cancels-lent, stays-lent}
use Rattle.plx_world.proofs.world.World.answer_read.Goals as goal

pub returns-clause-ok : goal.returns-clause-ok
returns-clause-ok c =
    answers-lent c.args.self.now _ c.answer-told.new.self _ c.args.appliance c.args.block.0 c.lend.new.buffer
    (record {
      before = record { geometry = refl; seats = refl; trace = refl };
      after = record { geometry = refl; seats = refl; trace = refl };
      lends = c.in_ok-lend.ensures.ok;
      same = c.answer-told.ensures.disk;
      back = c.take_back.ensures.back;
    }) c.in_ok-told.ensures.ok

pub returns-in_err-told-clause-err : goal.returns-in_err-told-clause-err
returns-in_err-told-clause-err c =
    on-err _ _ (stays-lent c.args.self.now _ c.answer-told.new.self _ c.args.block.0 c.lend.new.buffer
    (record {
      before = record { geometry = refl; seats = refl; trace = refl };
      after = record { geometry = refl; seats = refl; trace = refl };
      lends = c.in_ok-lend.ensures.ok;
      same = c.answer-told.ensures.disk;
      back = c.take_back.ensures.back;
    }) c.in_err-told.ensures.err)

pub invariant_of-self : goal.invariant_of-self
invariant_of-self c =
    let old = c.args.self.now in
    record {
      many = old.many;
      sized = c.lend.ensures.blocks ∙ old.sized;
      tied = old.tied;
      uncancelled = cancels-lent c.lend.result old.disk c.lend.new.disk c.args.block.0 c.lend.new.buffer c.lend.ensures.ok c.lend.ensures.err old.uncancelled;
    }

pub invariant_of-self-2 : goal.invariant_of-self-2
invariant_of-self-2 c =
    let told = c.answer-told.new.self in
    record {
      many = told.many;
      sized = c.take_back.ensures.blocks ∙ told.sized;
      tied = told.tied;
      uncancelled = cancels-stays c.args.self.now.disk c.take_back.new.disk
          (back-stays c.args.self.now.disk c.lend.new.disk told.disk c.take_back.new.disk c.args.block.0 c.lend.new.buffer c.in_ok-lend.ensures.ok c.answer-told.ensures.disk
          c.take_back.ensures.back) c.args.self.now.uncancelled;
    }
