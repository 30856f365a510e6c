use Rattle.plx_session.proofs.Places.{place-within}
use Rattle.plx_session.proofs.setting.Setting.block.Goals as goal

pub returns-clause-within : goal.returns-clause-within
returns-clause-within c = rw c.number.ensures (place-within c.args.self.now.geometry c.args.place c.args.self.now.limits c.requires)
