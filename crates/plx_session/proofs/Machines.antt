-- Each machine of an image asks at each of its stages, and a write that fails or is missed ends it.
use Rattle.std.proofs.Common.{ℕ}
use Rattle.plx_rules.specs.Ends.{End}
use Rattle.plx_rules.specs.Machines.{Asks}
use Rattle.plx_rules.specs.Process.{Process, Ends, ReadThen, WriteThen, ClockThen, UntilThen}
use Rattle.plx_rules.specs.Session.{Known}
use Rattle.plx_session.specs.Loads.{load_at}
use Rattle.plx_session.specs.Rests.{record_stage, write_at}
use Rattle.plx_session.specs.Works.{image_rest}
use Rattle.plx_session.specs.declared.load.Load.{Load}
use Rattle.plx_session.specs.declared.load.LoadAt.{LoadAt}
use Rattle.plx_session.specs.declared.load.LoadAt.TheVariants as load
use Rattle.plx_session.specs.declared.record.Record.{Record}
use Rattle.plx_session.specs.declared.record.RecordAt.{RecordAt}
use Rattle.plx_session.specs.declared.record.RecordAt.TheVariants as record_at'
use Rattle.plx_session.specs.declared.work.ImageWork.{ImageWork}
use Rattle.plx_session.specs.declared.work.ImageWork.TheVariants as work
use Rattle.plx_session.specs.declared.write.Write.{Write}
use Rattle.plx_session.specs.declared.write.WriteAt.{WriteAt}
use Rattle.plx_session.specs.declared.write.WriteAt.TheVariants as write

-- a write that fails or is missed ends it
abbrev pub EndsOnFailure : Process End → Type 0
EndsOnFailure (Ends end) = Unit {0}
EndsOnFailure (ReadThen block rest fault) = Unit {0}
EndsOnFailure (WriteThen kind block bytes guard done fault missed) = (Asks fault → ⊥) × ((reading : ℕ) → Asks (missed reading) → ⊥)
EndsOnFailure (ClockThen rest) = Unit {0}
EndsOnFailure (UntilThen from rest) = Unit {0}

-- ---- by stage

write-asks : (a : WriteAt) (known : Known) (w : Write) → Asks (write_at a known w)
write-asks write.Data known w = tt
write-asks write.Commit known w = tt
write-asks write.Last known w = tt

write-fails : (at : WriteAt) (known : Known) (w : Write) → EndsOnFailure (write_at at known w)
write-fails write.Data known w = (λ h. h, λ reading h. h)
write-fails write.Commit known w = (λ h. h, λ reading h. h)
write-fails write.Last known w = tt

record-asks : (a : RecordAt) (known : Known) (r : Record) → Asks (record_stage a known r)
record-asks record_at'.First known r = tt
record-asks record_at'.Last known r = tt

record-fails : (at : RecordAt) (known : Known) (r : Record) → EndsOnFailure (record_stage at known r)
record-fails record_at'.First known r = (λ h. h, λ reading h. h)
record-fails record_at'.Last known r = tt

pub load-asks : (a : LoadAt) (known : Known) (l : Load) → Asks (load_at a known l)
load-asks load.Record known l = tt
load-asks load.Slot known l = tt
load-asks (load.Data d) known l = tt
load-asks (load.Damaged block) known l = tt
load-asks load.Last known l = tt

pub load-fails : (at : LoadAt) (known : Known) (l : Load) → EndsOnFailure (load_at at known l)
load-fails load.Record known l = tt
load-fails load.Slot known l = tt
load-fails (load.Data d) known l = tt
load-fails (load.Damaged block) known l = tt
load-fails load.Last known l = tt

-- ---- of a command

pub image-asks : (known : Known) (w : ImageWork) → Asks (image_rest known w)
image-asks known (work.Record r) = record-asks r.at known r
image-asks known (work.Read r) = tt
image-asks known (work.Write w) = write-asks w.at known w

pub image-fails : (known : Known) (w : ImageWork) → EndsOnFailure (image_rest known w)
image-fails known (work.Record r) = record-fails r.at known r
image-fails known (work.Read r) = tt
image-fails known (work.Write w) = write-fails w.at known w
