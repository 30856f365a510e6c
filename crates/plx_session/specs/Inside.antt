-- Where a load may stand.
use Rattle.std.specs.Prelude.{◌+◌, ℕ}
use Rattle.plx_session.specs.declared.load.LoadAt.{LoadAt}
use Rattle.plx_session.specs.declared.load.LoadAt.TheVariants.{Record, Slot, Data, Damaged, Last}

-- how many slots are read, with the one that is being read
abbrev pub slots_reached : LoadAt → ℕ → ℕ
slots_reached Record next = next
slots_reached Slot next = next + 1
slots_reached (Data descriptor) next = next + 1
slots_reached (Damaged block) next = next
slots_reached Last next = next
