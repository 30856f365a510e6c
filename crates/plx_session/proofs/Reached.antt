-- Where a load may stand.
use Rattle.std.proofs.Common.{ℕ, ◌≤◌, arith}
use Rattle.plx_session.specs.Inside.{slots_reached}
use Rattle.plx_session.specs.declared.load.LoadAt.{LoadAt}
use Rattle.plx_session.specs.declared.load.LoadAt.TheVariants.{Record, Slot, Data, Damaged, Last}

-- no more slots are read than reached
pub next_reached : (at : LoadAt) (next : ℕ) → next ≤ slots_reached at next
next_reached Record next = omega arith
next_reached Slot next = omega arith
next_reached (Data descriptor) next = omega arith
next_reached (Damaged block) next = omega arith
next_reached Last next = omega arith
