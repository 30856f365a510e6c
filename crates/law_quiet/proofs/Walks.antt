-- What the rest of a command comes to where nothing disturbs it.
use Rattle.std.proofs.Common.{◌≡◌, ◌≤◌, ◌+◌, ◌⊎◌, inl, inr, ℕ, List, length}
use Rattle.plx_base.specs.Sectors.{Device, put}
use Rattle.plx_rules.specs.Process.{Process, Ends, ReadThen, WriteThen, ClockThen, UntilThen}
use Rattle.plx_rules.specs.Times.{drift}
use Rattle.plx_rules.specs.Processes.{followed_by}

-- however it is answered, its end is good
abbrev pub Always : {E : Type 0} (Good : E → Type 0) → Process E → Type 0
Always Good (Ends end) = Good end
Always Good (ReadThen block rest fault) = ((bytes : List ℕ) → Always Good (rest bytes)) × Always Good fault
Always Good (WriteThen kind block bytes guard done fault missed) = Always Good done × Always Good fault × ((reading : ℕ) → Always Good (missed reading))
Always Good (ClockThen rest) = (reading : ℕ) → Always Good (rest reading)
Always Good (UntilThen from rest) = (reading : ℕ) → Always Good (rest reading)

-- where reads find this device, with what it has written itself, and no reading is before this moment, it comes to an end that is good on the device
-- as it is then; or to a place from where on its end is good however it is answered
abbrev pub TrackedTo : {E : Type 0} (Good : E → Type 0) (At : E → Device → Type 0) (low : ℕ) → Device → Process E → Type 0
TrackedTo Good At low device (Ends end) = At end device
TrackedTo Good At low device (ReadThen block rest fault) = (Always Good (rest (device block)) ⊎ TrackedTo Good At low device (rest (device block))) × Always Good fault
TrackedTo Good At low device (WriteThen kind block bytes guard done fault missed) =
    (length bytes ≡ 4096) × (Always Good done ⊎ TrackedTo Good At low (put device block bytes) done) × Always Good fault × ((reading : ℕ) → Always Good (missed reading))
TrackedTo Good At low device (ClockThen rest) = (reading : ℕ) → low ≤ reading + drift → Always Good (rest reading) ⊎ TrackedTo Good At low device (rest reading)
TrackedTo Good At low device (UntilThen from rest) = (reading : ℕ) → from ≤ reading → low ≤ reading + drift → Always Good (rest reading) ⊎ TrackedTo Good At low device (rest reading)

-- its end is good, whatever the device is then
abbrev pub Tracked : {E : Type 0} (Good : E → Type 0) (low : ℕ) → Device → Process E → Type 0
Tracked Good low device process = TrackedTo Good (λ end now. Good end) low device process

-- its end is good where nothing disturbs it
abbrev pub Quietly : {E : Type 0} (Good : E → Type 0) (low : ℕ) → Device → Process E → Type 0
Quietly Good low device process = Always Good process ⊎ Tracked Good low device process

-- one process and then another
pub always-followed : {E F : Type 0} (At : E → Type 0) (Good : F → Type 0) (process : Process E) (next : E → Process F) → Always At process → ((end : E) → At end → Always Good (next end)) →
    Always Good (followed_by process next)
always-followed At Good (Ends end) next all then = then end all
always-followed At Good (ReadThen block rest fault) next all then = (λ bytes. always-followed At Good (rest bytes) next (all.0 bytes) then, always-followed At Good fault next all.1 then)
always-followed At Good (WriteThen kind block bytes guard done fault missed) next all then =
    (always-followed At Good done next all.0 then, always-followed At Good fault next all.1 then, λ reading. always-followed At Good (missed reading) next (all.2 reading) then)
always-followed At Good (ClockThen rest) next all then = λ reading. always-followed At Good (rest reading) next (all reading) then
always-followed At Good (UntilThen from rest) next all then = λ reading. always-followed At Good (rest reading) next (all reading) then

module _ {E F : Type 0} (Good : E → Type 0) (At : E → Device → Type 0) (Then : F → Type 0) (low : ℕ) (next : E → Process F) (always : (end : E) → Good end → Always Then (next end))
    (quietly : (end : E) (device : Device) → At end device → Quietly Then low device (next end)) where
  pub tracked-followed : (device : Device) (process : Process E) → Always Good process ⊎ TrackedTo Good At low device process → Quietly Then low device (followed_by process next)
  tracked-followed device process (inl all) = inl (always-followed Good Then process next all always)
  tracked-followed device (Ends end) (inr t) = quietly end device t
  tracked-followed device (ReadThen block rest fault) (inr t) = inr (tracked-followed device (rest (device block)) t.0, always-followed Good Then fault next t.1 always)
  tracked-followed device (WriteThen kind block bytes guard done fault missed) (inr t) =
      inr (
        t.0,
        tracked-followed (put device block bytes) done t.1,
        always-followed Good Then fault next t.2 always,
        λ reading. always-followed Good Then (missed reading) next (t.3 reading) always,
      )
  tracked-followed device (ClockThen rest) (inr t) = inr (λ reading early. tracked-followed device (rest reading) (t reading early))
  tracked-followed device (UntilThen from rest) (inr t) = inr (λ reading past early. tracked-followed device (rest reading) (t reading past early))

-- where any end is good
pub always-any : {E : Type 0} (process : Process E) → Always (λ end. Unit {0}) process
always-any (Ends end) = tt
always-any (ReadThen block rest fault) = (λ bytes. always-any (rest bytes), always-any fault)
always-any (WriteThen kind block bytes guard done fault missed) = (always-any done, always-any fault, λ reading. always-any (missed reading))
always-any (ClockThen rest) = λ reading. always-any (rest reading)
always-any (UntilThen from rest) = λ reading. always-any (rest reading)
