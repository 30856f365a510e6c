-- Machines: what one still asks, and how one runs within another.
use Rattle.std.specs.Prelude.{◌≡◌, ◌^◌, ◌<◌, ℕ, List, length, Option, Some, None}
use Rattle.plx_disk.specs.declared.ask.Ask.{Ask}
use Rattle.plx_disk.specs.declared.ask.Ask.TheVariants as ask
use Rattle.plx_disk.specs.declared.ask.Answer.{Answer}
use Rattle.plx_disk.specs.declared.ask.Answer.TheVariants as answer
use Rattle.plx_disk.specs.declared.turn.Turn.{Turn}
use Rattle.plx_disk.specs.declared.turn.Turn.TheVariants.{Again, Ended}
use Rattle.plx_rules.specs.Process.{Process, Ends, ReadThen, WriteThen, ClockThen, UntilThen}

-- what is left to ask once an answer led to this end, or to none yet
abbrev pub rest_after : {E F : Type 0} → (E → F) → Process F → Option E → Process F
rest_after view process None = process
rest_after view process (Some end) = Ends (view end)

-- an ask stands
abbrev pub Asks : {E : Type 0} → Process E → Type 0
Asks (Ends end) = ⊥
Asks (ReadThen block rest fault) = Unit {0}
Asks (WriteThen kind block bytes guard done fault missed) = Unit {0}
Asks (ClockThen rest) = Unit {0}
Asks (UntilThen from rest) = Unit {0}

-- whether an ask stands
abbrev pub turn_of : {E : Type 0} → Process E → Turn
turn_of (Ends end) = Ended
turn_of (ReadThen block rest fault) = Again
turn_of (WriteThen kind block bytes guard done fault missed) = Again
turn_of (ClockThen rest) = Again
turn_of (UntilThen from rest) = Again

-- a reading is within the limit of readings
abbrev pub IsTimely : Answer → Type 0
IsTimely (answer.Reading reading) = reading < 2 ^ 48
IsTimely (answer.Missed reading) = reading < 2 ^ 48
IsTimely (answer.Bytes bytes) = Unit {0}
IsTimely answer.Done = Unit {0}
IsTimely answer.Fault = Unit {0}

-- the bytes of a write fill a block
abbrev pub AreWhole : Option Ask → List ℕ → Type 0
AreWhole (Some (ask.Write kind block guard)) bytes = length bytes ≡ 4096
AreWhole other bytes = Unit {0}

-- what is read or written is this block, and no guard is too late for the clock
abbrev pub AsksOnly : (block : ℕ) → Ask → Type 0
AsksOnly block (ask.Read read) = read.0 ≡ block
AsksOnly block (ask.Write kind written guard) = (written.0 ≡ block) × (guard < 2 ^ 49)
AsksOnly block ask.Clock = Unit {0}
AsksOnly block (ask.Until from) = Unit {0}
