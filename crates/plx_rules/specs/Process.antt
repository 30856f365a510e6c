-- What is still to be asked: the next ask with what follows each answer, or the end.
use Rattle.std.specs.Prelude.{ℕ, List, [], Option, Some, None}
use Rattle.plx_base.specs.declared.write_kind.WriteKind.{WriteKind}
use Rattle.plx_disk.specs.declared.ask.Ask.{Ask}
use Rattle.plx_disk.specs.declared.ask.Ask.TheVariants as ask
use Rattle.plx_disk.specs.declared.ask.Answer.{Answer}
use Rattle.plx_disk.specs.declared.ask.Answer.TheVariants as answer

-- the rest of some work: its next ask with what follows each answer, or its end
pub data Process (E : Type 0) : Type 0 where
  Ends : E → Process E
  ReadThen : (block : ℕ) → (List ℕ → Process E) → (fault : Process E) → Process E
  WriteThen : (kind : WriteKind) → (block : ℕ) → (bytes : List ℕ) →
      (guard : ℕ) → (done fault : Process E) → (missed : ℕ → Process E) → Process E
  ClockThen : (ℕ → Process E) → Process E
  UntilThen : (from : ℕ) → (ℕ → Process E) → Process E

-- the rest after an answer; one that doesn't fit the ask leaves it as it is
abbrev pub answered : {E : Type 0} → Process E → Answer → Process E
answered (ReadThen block rest fault) (answer.Bytes bytes) = rest bytes
answered (ReadThen block rest fault) answer.Fault = fault
answered (WriteThen kind block bytes guard done fault missed) answer.Done = done
answered (WriteThen kind block bytes guard done fault missed) answer.Fault = fault
answered (WriteThen kind block bytes guard done fault missed) (answer.Missed reading) =
    missed reading
answered (ClockThen rest) (answer.Reading reading) = rest reading
answered (UntilThen from rest) (answer.Reading reading) = rest reading
answered process other = process

-- the ask that stands
abbrev pub standing : {E : Type 0} → Process E → Option Ask
standing (Ends end) = None
standing (ReadThen block rest fault) = Some (ask.Read (record { 0 = block }))
standing (WriteThen kind block bytes guard done fault missed) =
    Some (ask.Write kind (record { 0 = block }) guard)
standing (ClockThen rest) = Some ask.Clock
standing (UntilThen from rest) = Some (ask.Until from)

-- the bytes of the write that is asked for
abbrev pub bytes_out : {E : Type 0} → Process E → List ℕ
bytes_out (WriteThen kind block bytes guard done fault missed) = bytes
bytes_out other = []
