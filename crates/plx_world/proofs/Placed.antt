-- Where a boot stands, by what it asks.
use Rattle.std.proofs.Common.{◌≡◌, ℕ, List, Some, refl, ap, ◌∙◌}
use Rattle.plx_base.specs.declared.numbers.BlockNo.{BlockNo}
use Rattle.plx_base.specs.declared.write_kind.WriteKind.{WriteKind}
use Rattle.plx_commands.specs.declared.command.Command.{Command}
use Rattle.plx_disk.specs.declared.ask.Ask.TheVariants as ask
use Rattle.plx_rules.specs.Boot.{Place, Idle, Begins, In, asks}
use Rattle.plx_rules.specs.Ends.{End}
use Rattle.plx_rules.specs.Process.{Process, Ends, ReadThen, WriteThen, ClockThen, UntilThen}
use Rattle.plx_rules.specs.Session.{Known}

-- a read is asked for
pub record AsksRead (p : Place) (block : BlockNo) : Type 0 where
  pub known : Known
  pub command : Command
  pub rest : List ℕ → Process End
  pub fault : Process End
  pub at : p ≡ In known command (ReadThen block.0 rest fault)

pub asked-read : (p : Place) (block : BlockNo) → asks p ≡ Some (ask.Read block) → AsksRead p block
asked-read (Idle known) block e = cc
asked-read (Begins known command) block e = cc
asked-read (In known command (Ends end)) block e = cc
asked-read (In known command (ReadThen b rest fault)) block e =
    let same : record { 0 = b } ≡ block = cc in
    record { known = known; command = command; rest = rest; fault = fault; at = ap (λ (x : BlockNo). In known command (ReadThen x.0 rest fault)) same }
asked-read (In known command (WriteThen kind b bytes guard done fault missed)) block e = cc
asked-read (In known command (ClockThen rest)) block e = cc
asked-read (In known command (UntilThen from rest)) block e = cc

-- a write is
pub record AsksWriteAt (p : Place) (kind : WriteKind) (block : BlockNo) (guard : ℕ) : Type 0 where
  pub known : Known
  pub command : Command
  pub bytes : List ℕ
  pub done : Process End
  pub fault : Process End
  pub missed : ℕ → Process End
  pub at : p ≡ In known command (WriteThen kind block.0 bytes guard done fault missed)

pub asked-write : (p : Place) (kind : WriteKind) (block : BlockNo) (guard : ℕ) → asks p ≡ Some (ask.Write kind block guard) → AsksWriteAt p kind block guard
asked-write (Idle known) kind block guard e = cc
asked-write (Begins known command) kind block guard e = cc
asked-write (In known command (Ends end)) kind block guard e = cc
asked-write (In known command (ReadThen b rest fault)) kind block guard e = cc
asked-write (In known command (WriteThen k b bytes g done fault missed)) kind block guard e =
    let same_kind : k ≡ kind = cc in
    let same : record { 0 = b } ≡ block = cc in
    let same_guard : g ≡ guard = cc in
    record {
      known = known;
      command = command;
      bytes = bytes;
      done = done;
      fault = fault;
      missed = missed;
      at = ap (λ (x : WriteKind). In known command (WriteThen x b bytes g done fault missed)) same_kind
          ∙ ap (λ (x : BlockNo). In known command (WriteThen kind x.0 bytes g done fault missed)) same
          ∙ ap (λ (x : ℕ). In known command (WriteThen kind block.0 bytes x done fault missed)) same_guard;
    }
asked-write (In known command (ClockThen rest)) kind block guard e = cc
asked-write (In known command (UntilThen from rest)) kind block guard e = cc

-- the clock is, first of all or later
pub data AsksClockAt (p : Place) : Type 0 where
  first : (known : Known) (command : Command) → p ≡ Begins known command → AsksClockAt p
  later : (known : Known) (command : Command) (rest : ℕ → Process End) → p ≡ In known command (ClockThen rest) → AsksClockAt p

pub asked-clock : (p : Place) → asks p ≡ Some ask.Clock → AsksClockAt p
asked-clock (Idle known) e = cc
asked-clock (Begins known command) e = first known command refl
asked-clock (In known command (Ends end)) e = cc
asked-clock (In known command (ReadThen b rest fault)) e = cc
asked-clock (In known command (WriteThen kind b bytes guard done fault missed)) e = cc
asked-clock (In known command (ClockThen rest)) e = later known command rest refl
asked-clock (In known command (UntilThen from rest)) e = cc

-- the clock is, from some time on
pub record AsksUntilAt (p : Place) (from : ℕ) : Type 0 where
  pub known : Known
  pub command : Command
  pub rest : ℕ → Process End
  pub at : p ≡ In known command (UntilThen from rest)

pub asked-until : (p : Place) (from : ℕ) → asks p ≡ Some (ask.Until from) → AsksUntilAt p from
asked-until (Idle known) from e = cc
asked-until (Begins known command) from e = cc
asked-until (In known command (Ends end)) from e = cc
asked-until (In known command (ReadThen b rest fault)) from e = cc
asked-until (In known command (WriteThen kind b bytes guard done fault missed)) from e = cc
asked-until (In known command (ClockThen rest)) from e = cc
asked-until (In known command (UntilThen f rest)) from e =
    let same : f ≡ from = cc in
    record { known = known; command = command; rest = rest; at = ap (λ (x : ℕ). In known command (UntilThen x rest)) same }
