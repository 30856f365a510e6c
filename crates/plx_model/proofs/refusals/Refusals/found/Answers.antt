use Rattle.std.proofs.Common.{◌↔◌, ◌++◌, IsTrue, sym, subst}
use Rattle.plx_commands.specs.declared.reply.Reply.{Reply}
use Rattle.plx_model.specs.Shown.{IsFoundedIn, listed_refusals, listed_claims}
use Rattle.plx_model.proofs.Founded.{founded_range, founded_worn}
use Rattle.plx_model.proofs.refusals.Refusals.found.Goals as goal

pub returns-in-OutOfRange : goal.returns-in-OutOfRange
returns-in-OutOfRange c =
    let P : Reply → Type 0 = λ reply. IsTrue c.is_beyond.result ↔ IsFoundedIn (listed_refusals c.args.self.now ++ listed_claims c.args.self.now) reply in
    subst P (sym c.in-OutOfRange.is) (
      λ h. (founded_range c.args.self.now c.in-OutOfRange.size).0 (c.is_beyond.ensures.0 h),
      λ h. c.is_beyond.ensures.1 ((founded_range c.args.self.now c.in-OutOfRange.size).1 h),
    )

pub returns-in-WornOut : goal.returns-in-WornOut
returns-in-WornOut c =
    let P : Reply → Type 0 = λ reply. IsTrue c.is_worn.result ↔ IsFoundedIn (listed_refusals c.args.self.now ++ listed_claims c.args.self.now) reply in
    subst P (sym c.in-WornOut.is) (
      λ h. (founded_worn c.args.self.now c.in-WornOut.count).0 (c.is_worn.ensures.0 h),
      λ h. c.is_worn.ensures.1 ((founded_worn c.args.self.now c.in-WornOut.count).1 h),
    )
