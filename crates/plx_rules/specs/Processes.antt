-- Parts that are put together.
use Rattle.plx_rules.specs.Process.{Process, Ends, ReadThen, WriteThen, ClockThen, UntilThen}

-- one process, and then another that goes by its end
abbrev pub followed_by : {E F : Type 0} → Process E → (E → Process F) → Process F
followed_by (Ends end) next = next end
followed_by (ReadThen block rest fault) next =
    ReadThen block (λ bytes. followed_by (rest bytes) next) (followed_by fault next)
followed_by (WriteThen kind block bytes guard done fault missed) next =
    WriteThen kind block bytes guard (followed_by done next)
    (followed_by fault next) (λ reading. followed_by (missed reading) next)
followed_by (ClockThen rest) next = ClockThen (λ reading. followed_by (rest reading) next)
followed_by (UntilThen from rest) next = UntilThen from (λ reading. followed_by (rest reading) next)
