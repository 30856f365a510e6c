use Rattle.std.proofs.Common.{◌≡◌, ◌↔◌, All, IsTrue, take}
use Rattle.plx_base.proofs.block.are_all.Given as goal

-- the bytes seen are all this one exactly where none has differed
abbrev pub invariant-loop-other : goal.invariant-loop-other
invariant-loop-other l = IsTrue l.same ↔ All (λ b. b ≡ l.byte) (take l.other-index l.bytes)
