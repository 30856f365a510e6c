-- One machine within another: an ask of the inner one is an ask of the outer one.
use Rattle.std.proofs.Common.{◌≡◌, refl, ap, ◌∙◌, sym}
use Rattle.plx_disk.specs.declared.ask.Answer.{Answer}
use Rattle.plx_disk.specs.declared.ask.Answer.TheVariants as answer
use Rattle.plx_rules.specs.Process.{Process, Ends, ReadThen, WriteThen, ClockThen, UntilThen, answered, standing, bytes_out}
use Rattle.plx_rules.specs.Machines.{Asks}
use Rattle.plx_rules.specs.Processes.{followed_by}

-- what is asked, and with which bytes
pub standing-followed : {E F : Type 0} (process : Process E) (next : E → Process F) → Asks process → standing (followed_by process next) ≡ standing process
standing-followed (Ends end) next asks = absurd asks
standing-followed (ReadThen block rest fault) next asks = refl
standing-followed (WriteThen kind block bytes guard done fault missed) next asks = refl
standing-followed (ClockThen rest) next asks = refl
standing-followed (UntilThen from rest) next asks = refl

pub bytes-followed : {E F : Type 0} (process : Process E) (next : E → Process F) → Asks process → bytes_out (followed_by process next) ≡ bytes_out process
bytes-followed (Ends end) next asks = absurd asks
bytes-followed (ReadThen block rest fault) next asks = refl
bytes-followed (WriteThen kind block bytes guard done fault missed) next asks = refl
bytes-followed (ClockThen rest) next asks = refl
bytes-followed (UntilThen from rest) next asks = refl

pub asks-followed : {E F : Type 0} (process : Process E) (next : E → Process F) → Asks process → Asks (followed_by process next)
asks-followed (Ends end) next asks = absurd asks
asks-followed (ReadThen block rest fault) next asks = tt
asks-followed (WriteThen kind block bytes guard done fault missed) next asks = tt
asks-followed (ClockThen rest) next asks = tt
asks-followed (UntilThen from rest) next asks = tt

-- an answer goes to the inner one
pub answered-followed : {E F : Type 0} (process : Process E) (next : E → Process F) (a : Answer) → Asks process → answered (followed_by process next) a ≡ followed_by (answered process a) next
answered-followed (Ends end) next a asks = absurd asks
answered-followed (ReadThen block rest fault) next (answer.Bytes bytes) asks = refl
answered-followed (ReadThen block rest fault) next answer.Done asks = refl
answered-followed (ReadThen block rest fault) next (answer.Reading reading) asks = refl
answered-followed (ReadThen block rest fault) next (answer.Missed reading) asks = refl
answered-followed (ReadThen block rest fault) next answer.Fault asks = refl
answered-followed (WriteThen kind block bytes guard done fault missed) next (answer.Bytes b) asks = refl
answered-followed (WriteThen kind block bytes guard done fault missed) next answer.Done asks = refl
answered-followed (WriteThen kind block bytes guard done fault missed) next (answer.Reading reading) asks = refl
answered-followed (WriteThen kind block bytes guard done fault missed) next (answer.Missed reading) asks = refl
answered-followed (WriteThen kind block bytes guard done fault missed) next answer.Fault asks = refl
answered-followed (ClockThen rest) next (answer.Bytes bytes) asks = refl
answered-followed (ClockThen rest) next answer.Done asks = refl
answered-followed (ClockThen rest) next (answer.Reading reading) asks = refl
answered-followed (ClockThen rest) next (answer.Missed reading) asks = refl
answered-followed (ClockThen rest) next answer.Fault asks = refl
answered-followed (UntilThen from rest) next (answer.Bytes bytes) asks = refl
answered-followed (UntilThen from rest) next answer.Done asks = refl
answered-followed (UntilThen from rest) next (answer.Reading reading) asks = refl
answered-followed (UntilThen from rest) next (answer.Missed reading) asks = refl
answered-followed (UntilThen from rest) next answer.Fault asks = refl

-- so the outer equation follows from the inner one: where the inner one goes on (`after` is its rest), and where it ends (`after` is its end)
pub followed-after-answer : {E F : Type 0} (process after : Process E) (next : E → Process F) (a : Answer) → Asks process → after ≡ answered process a → followed_by after next ≡ answered (followed_by process next) a
followed-after-answer process after next a asks e = ap (λ p. followed_by p next) e ∙ sym (answered-followed process next a asks)
