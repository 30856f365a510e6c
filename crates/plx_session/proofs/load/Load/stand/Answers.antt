use Rattle.std.proofs.Common.{◌≡◌, ◌+◌, ◌-◌, suc, refl, arith}
use Rattle.plx_session.proofs.load.Load.stand.Goals as goal

pub returns-then-self-clause-rest : goal.returns-then-self-clause-rest
returns-then-self-clause-rest c = λ known.
    let l = c.args.self.now in
    let more : l.slots - l.next ≡ suc (l.slots - (l.next + 1)) = omega (arith, c.if-self.true) in
    rw more refl
