-- Each answer of the program's world is an event of the world that it stands for.
use Rattle.std.proofs.Common.{◌≡◌, ◌≢◌, ◌^◌, ◌≤◌, ◌<◌, ℕ, List, [], Option, Some, None, Bool, true, false, refl, ap, sym, subst, ◌∙◌, arith}
use Rattle.std.specs.Prelude.{is_some}
use Rattle.plx_base.specs.declared.numbers.ApplianceNo.{ApplianceNo}
use Rattle.plx_base.specs.declared.numbers.BlockNo.{BlockNo}
use Rattle.plx_base.specs.declared.write_kind.WriteKind.{WriteKind}
use Rattle.plx_commands.specs.declared.event.Event.{Event}
use Rattle.plx_commands.specs.declared.event.Event.TheVariants as event
use Rattle.plx_disk.specs.Standing.{Stands as DiskStands}
use Rattle.plx_disk.specs.Writes.{HasLanded, Surface}
use Rattle.plx_disk.specs.declared.ask.Answer.TheVariants as answer
use Rattle.plx_disk.specs.declared.ask.Ask.{Ask}
use Rattle.plx_disk.specs.declared.ask.Ask.TheVariants as ask
use Rattle.plx_rules.specs.Boot.{asks, replies_at, writes_out, first_process}
use Rattle.plx_rules.specs.World as rules
use Rattle.plx_rules.specs.World.{IsReadingAt, Step, stands, setting_of, goes_on, reads, read_faults, write_faults, dones, misses, begins, clocks, waits}
use Rattle.plx_world.specs.Answering.{AnswersRead, IsAnswered, asked_by, pending_of}
use Rattle.plx_world.specs.Standing.{WorldStands, StandsOn, Steps}
use Rattle.plx_world.specs.declared.world.World.{World}
use Rattle.plx_world.proofs.Inverted as inverted
use Rattle.plx_world.proofs.Inverted.{step-read, step-done, step-miss, step-reading, AsksReading, clock, wait}
use Rattle.plx_world.proofs.Placed.{asked-read, asked-write, asked-clock, asked-until, AsksClockAt, first, later}
use Rattle.plx_world.proofs.Seating.{if-none, if-some}

-- what the code has found that an appliance asks
abbrev pub IsAsk : World → ApplianceNo → Option Ask → Type 0
IsAsk world a asked = (w : rules.World) → WorldStands world w → asked ≡ asked_by w a.0

-- and the write for which it waits
abbrev pub IsWaitedFor : World → ApplianceNo → Option ℕ → Type 0
IsWaitedFor world a pending = (w : rules.World) → WorldStands world w → pending ≡ pending_of w a.0

-- the appliance is there, and this is what it asks at its place
pub asks-there : (world : World) (a : ApplianceNo) (asked : Ask) (w : rules.World) → IsAsk world a (Some asked) → WorldStands world w →
    (a.0 < w.appliances) × (asks (stands w a.0).place ≡ Some asked)
asks-there world a asked w is h = if-some a.0 w.appliances (asks (stands w a.0).place) asked (sym (is w h))

-- an event that no world allows
pub impossible : (old new : World) (one : Event) → StandsOn old new → ((w v : rules.World) → WorldStands old w → Step w one v → ⊥) → Steps old new one false
impossible old new one stays none w h = (λ v step. none w v h step, stays w h)

-- ---- answers that no ask wants

-- whether a read is asked for
abbrev pub asks_read : Option Ask → Bool
asks_read (Some (ask.Read block)) = true
asks_read other = false

-- whether a write is
abbrev pub asks_write : Option Ask → Bool
asks_write (Some (ask.Write kind block guard)) = true
asks_write other = false

-- whether either is
abbrev pub asks_device : Option Ask → Bool
asks_device (Some (ask.Read block)) = true
asks_device (Some (ask.Write kind block guard)) = true
asks_device other = false

-- whether a reading is
abbrev pub asks_reading : Option Ask → Bool
asks_reading (Some ask.Clock) = true
asks_reading (Some (ask.Until from)) = true
asks_reading other = false

-- one ask that passes a test and one that doesn't
pub apart : (test : Option Ask → Bool) (asked other : Option Ask) → test asked ≡ false → test other ≡ true → asked ≢ other
apart test asked other fails holds e = let both : test asked ≡ test other = ap test e in cc

-- what the code has found is this
pub known-ask : (world : World) (a : ApplianceNo) (asked one : Ask) → IsAsk world a (Some asked) → asked ≡ one → IsAsk world a (Some one)
known-ask world a asked one is known = subst (λ (x : Ask). IsAsk world a (Some x)) known is

-- no read is asked for
pub reads-none : (old : World) (a : ApplianceNo) (asked : Option Ask) → IsAsk old a asked → asks_read asked ≡ false → Steps old old (event.Read a) false
reads-none old a asked is none = impossible old old (event.Read a) (λ w h. h)
    (λ w v h step. let found = step-read step in apart asks_read asked (Some (ask.Read found.0)) none refl (is w h ∙ found.1))

-- neither a read nor a write is
no-ask-no-fault : (a : ApplianceNo) (asked : Option Ask) (w : rules.World) → asks_device asked ≡ false →
    asked ≡ asked_by w a.0 → inverted.AsksDevice w a → ⊥
no-ask-no-fault a asked w none is (inverted.read block at) =
    apart asks_device asked (Some (ask.Read block)) none refl (is ∙ at)
no-ask-no-fault a asked w none is (inverted.write kind block guard at) =
    apart asks_device asked (Some (ask.Write kind block guard)) none refl (is ∙ at)

pub faults-none : (old : World) (a : ApplianceNo) (asked : Option Ask) → IsAsk old a asked →
    asks_device asked ≡ false → Steps old old (event.Fault a) false
faults-none old a asked is none = impossible old old (event.Fault a) (λ w h. h)
    (λ w v h step. no-ask-no-fault a asked w none (is w h) (inverted.step-fault step))

-- no write is
pub dones-none : (old : World) (a : ApplianceNo) (asked : Option Ask) → IsAsk old a asked → asks_write asked ≡ false → Steps old old (event.Done a) false
dones-none old a asked is none = impossible old old (event.Done a) (λ w h. h)
    (λ w v h step. let found = (step-done step).1 in apart asks_write asked (Some (ask.Write found.kind found.block found.guard)) none refl (is w h ∙ found.asked))

pub misses-none : (old : World) (a : ApplianceNo) (reading : ℕ) (asked : Option Ask) → IsAsk old a asked → asks_write asked ≡ false →
    Steps old old (event.Miss a reading) false
misses-none old a reading asked is none = impossible old old (event.Miss a reading) (λ w h. h)
    (λ w v h step. let found = (step-miss step).0 in apart asks_write asked (Some (ask.Write found.kind found.block found.guard)) none refl (is w h ∙ found.asked))

-- the write hasn't landed
pub dones-unlanded : (old mid : World) (a : ApplianceNo) (number : ℕ) → IsWaitedFor old a (Some number) → StandsOn old mid →
    ((s : Surface) → DiskStands old.disk s → HasLanded s number → ⊥) → Steps old mid (event.Done a) false
dones-unlanded old mid a number pends stays unlanded = impossible old mid (event.Done a) stays
    (λ w v h step. let found = step-done step in let e : Some number ≡ Some found.0 = pends w h ∙ found.1.pends in let same : found.0 ≡ number = cc in
    unlanded w.surface h.surface (subst (λ (n : ℕ). HasLanded w.surface n) same found.2))

-- a write is, and its guard isn't past
pub misses-early : (old : World) (a : ApplianceNo) (reading : ℕ) (kind : WriteKind) (block : BlockNo) (guard : ℕ) →
    IsAsk old a (Some (ask.Write kind block guard)) → reading ≤ guard → Steps old old (event.Miss a reading) false
misses-early old a reading kind block guard is early = impossible old old (event.Miss a reading) (λ w h. h)
    (λ w v h step. let found = step-miss step in let e : Some (ask.Write kind block guard) ≡ Some (ask.Write found.0.kind found.0.block found.0.guard) = is w h ∙ found.0.asked in
    let same : guard ≡ found.0.guard = cc in let past = found.1 in absurd (omega (arith, early, past, same)))

-- a clock shows it at the time of the program's world
near-then : (old : World) (w : rules.World) (reading : ℕ) → WorldStands old w → IsReadingAt reading w.surface.time → IsReadingAt reading old.disk.time
near-then old w reading h near =
    let now = h.surface.time in
    let low = near.early in
    let high = near.late in record { early = omega arith; late = omega arith }

-- no reading is
pub clocks-none : (old : World) (a : ApplianceNo) (reading : ℕ) (asked : Option Ask) → IsAsk old a asked → asks_reading asked ≡ false →
    Steps old old (event.Reading a reading) false
clocks-none old a reading asked is none = impossible old old (event.Reading a reading) (λ w h. h) (λ w v h step. by-answer w h (step-reading step).0)
  where
    by-answer : (w : rules.World) → WorldStands old w → AsksReading w a reading → ⊥
    by-answer w h (clock asks) = apart asks_reading asked (Some ask.Clock) none refl (is w h ∙ asks)
    by-answer w h (wait from asks late) = apart asks_reading asked (Some (ask.Until from)) none refl (is w h ∙ asks)

-- a later one is waited for
pub clocks-early : (old : World) (a : ApplianceNo) (from reading : ℕ) → IsAsk old a (Some (ask.Until from)) → reading < from → Steps old old (event.Reading a reading) false
clocks-early old a from reading is early = impossible old old (event.Reading a reading) (λ w h. h) (λ w v h step. by-answer w h (step-reading step).0)
  where
    by-answer : (w : rules.World) → WorldStands old w → AsksReading w a reading → ⊥
    by-answer w h (clock asks) = let e : Some (ask.Until from) ≡ Some ask.Clock = is w h ∙ asks in cc
    by-answer w h (wait other asks late) =
        let e : Some (ask.Until from) ≡ Some (ask.Until other) = is w h ∙ asks in
        let same : from ≡ other = cc in absurd (omega (arith, early, late, same))

-- no clock shows it
pub clocks-far : (old : World) (a : ApplianceNo) (reading time : ℕ) (near : Bool) → time ≡ old.disk.time → near ≡ false → (IsReadingAt reading time → near ≡ true) →
    Steps old old (event.Reading a reading) false
clocks-far old a reading time near now far shown = impossible old old (event.Reading a reading) (λ w h. h) (λ w v h step.
    let P : ℕ → Type 0 = λ t. IsReadingAt reading t in
    let both : true ≡ false = sym (shown (subst P (sym now) (near-then old w reading h (step-reading step).1))) ∙ far in cc)

-- ---- reads

pub reads-block : (old new : World) (a : ApplianceNo) (block : BlockNo) → IsAsk old a (Some (ask.Read block)) → AnswersRead old new a block.0 →
    Steps old new (event.Read a) true
reads-block old new a block is read w h =
    let there = asks-there old a (ask.Read block) w is h in
    let found = asked-read (stands w a.0).place block there.1 in
    let one = event.Read a in
    let P : List ℕ → Type 0 = λ x. WorldStands new (goes_on w one a (ask.Read (record { 0 = block.0 })) [] (answer.Bytes x) (found.rest x)) in (
      goes_on w one a (ask.Read (record { 0 = block.0 })) [] (answer.Bytes (w.surface.device block.0)) (found.rest (w.surface.device block.0)),
      reads found.known found.command block.0 found.rest found.fault there.0 found.at,
      subst P (read.stored w.surface h.surface)
          (read.answered.leads w one (ask.Read (record { 0 = block.0 })) [] (found.rest read.bytes) h there.1 (ap writes_out found.at) read.whole
          (ap (replies_at (setting_of w a.0) (answer.Bytes read.bytes) (stands w a.0)) found.at)),
    )

-- ---- faults

pub faults-read : (old new : World) (a : ApplianceNo) (block : BlockNo) → IsAsk old a (Some (ask.Read block)) → IsAnswered old new a answer.Fault →
    Steps old new (event.Fault a) true
faults-read old new a block is answered w h =
    let there = asks-there old a (ask.Read block) w is h in
    let found = asked-read (stands w a.0).place block there.1 in
    let one = event.Fault a in (
      goes_on w one a (ask.Read (record { 0 = block.0 })) [] answer.Fault found.fault,
      read_faults found.known found.command block.0 found.rest found.fault there.0 found.at,
      answered.leads w one (ask.Read (record { 0 = block.0 })) [] found.fault h there.1 (ap writes_out found.at) tt
          (ap (replies_at (setting_of w a.0) answer.Fault (stands w a.0)) found.at),
    )

pub faults-write : (old new : World) (a : ApplianceNo) (kind : WriteKind) (block : BlockNo) (guard : ℕ) → IsAsk old a (Some (ask.Write kind block guard)) →
    IsAnswered old new a answer.Fault → Steps old new (event.Fault a) true
faults-write old new a kind block guard is answered w h =
    let there = asks-there old a (ask.Write kind block guard) w is h in
    let found = asked-write (stands w a.0).place kind block guard there.1 in
    let one = event.Fault a in (
      goes_on w one a (ask.Write kind (record { 0 = block.0 }) guard) found.bytes answer.Fault found.fault,
      write_faults found.known found.command kind block.0 found.bytes guard found.done found.fault found.missed there.0 found.at,
      answered.leads w one (ask.Write kind (record { 0 = block.0 }) guard) found.bytes found.fault h there.1 (ap writes_out found.at) tt
          (ap (replies_at (setting_of w a.0) answer.Fault (stands w a.0)) found.at),
    )

-- ---- writes that are done

pub dones-write : (old mid new : World) (a : ApplianceNo) (kind : WriteKind) (block : BlockNo) (guard number : ℕ) → IsAsk old a (Some (ask.Write kind block guard)) →
    IsWaitedFor old a (Some number) → ((s : Surface) → DiskStands old.disk s → HasLanded s number) →
    StandsOn old mid → IsAnswered mid new a answer.Done → Steps old new (event.Done a) true
dones-write old mid new a kind block guard number is pends landed stays answered w h =
    let there = asks-there old a (ask.Write kind block guard) w is h in
    let found = asked-write (stands w a.0).place kind block guard there.1 in
    let pending = if-some a.0 w.appliances (w.seats a.0).pending number (sym (pends w h)) in
    let one = event.Done a in (
      goes_on w one a (ask.Write kind (record { 0 = block.0 }) guard) found.bytes answer.Done found.done,
      dones found.known found.command kind block.0 found.bytes guard found.done found.fault found.missed number there.0 found.at pending.1 (landed w.surface h.surface),
      answered.leads w one (ask.Write kind (record { 0 = block.0 }) guard) found.bytes found.done (stays w h) there.1 (ap writes_out found.at) tt
          (ap (replies_at (setting_of w a.0) answer.Done (stands w a.0)) found.at),
    )

-- ---- writes that are missed

pub misses-write : (old new : World) (a : ApplianceNo) (kind : WriteKind) (block : BlockNo) (guard reading : ℕ) → IsAsk old a (Some (ask.Write kind block guard)) →
    IsWaitedFor old a None → guard < reading → IsReadingAt reading old.disk.time → old.disk.time < 2 ^ 47 → IsAnswered old new a (answer.Missed reading) →
    Steps old new (event.Miss a reading) true
misses-write old new a kind block guard reading is pends past near early answered w h =
    let there = asks-there old a (ask.Write kind block guard) w is h in
    let found = asked-write (stands w a.0).place kind block guard there.1 in
    let pending = if-none a.0 w.appliances (w.seats a.0).pending there.0 (pends w h) in
    let now = h.surface.time in
    let low = near.early in
    let high = near.late in
    let one = event.Miss a reading in (
      goes_on w one a (ask.Write kind (record { 0 = block.0 }) guard) found.bytes (answer.Missed reading) (found.missed reading),
      misses found.known found.command kind block.0 found.bytes guard found.done found.fault found.missed there.0 found.at pending past
          (record { early = omega arith; late = omega arith }),
      answered.leads w one (ask.Write kind (record { 0 = block.0 }) guard) found.bytes (found.missed reading) h there.1 (ap writes_out found.at) (past, omega arith)
          (ap (replies_at (setting_of w a.0) (answer.Missed reading) (stands w a.0)) found.at),
    )

-- ---- readings

clocks-place : (old new : World) (a : ApplianceNo) (reading : ℕ) (w : rules.World) → a.0 < w.appliances → asks (stands w a.0).place ≡ Some ask.Clock →
    IsReadingAt reading w.surface.time → reading < 2 ^ 48 → WorldStands old w → IsAnswered old new a (answer.Reading reading) → AsksClockAt (stands w a.0).place →
    (v : rules.World) × Step w (event.Reading a reading) v × WorldStands new v
clocks-place old new a reading w below asked near soon h answered (first known command at) =
    let one = event.Reading a reading in
    let rest = first_process (setting_of w a.0) known reading command (stands w a.0) in (
      goes_on w one a ask.Clock [] (answer.Reading reading) rest,
      begins known command below at near,
      answered.leads w one ask.Clock [] rest h asked (ap writes_out at) soon (ap (replies_at (setting_of w a.0) (answer.Reading reading) (stands w a.0)) at),
    )
clocks-place old new a reading w below asked near soon h answered (later known command rest at) =
    let one = event.Reading a reading in (
      goes_on w one a ask.Clock [] (answer.Reading reading) (rest reading),
      clocks known command rest below at near,
      answered.leads w one ask.Clock [] (rest reading) h asked (ap writes_out at) soon (ap (replies_at (setting_of w a.0) (answer.Reading reading) (stands w a.0)) at),
    )

pub clocks-now : (old new : World) (a : ApplianceNo) (reading : ℕ) → IsAsk old a (Some ask.Clock) → IsReadingAt reading old.disk.time → old.disk.time < 2 ^ 47 →
    IsAnswered old new a (answer.Reading reading) → Steps old new (event.Reading a reading) true
clocks-now old new a reading is near early answered w h =
    let there = asks-there old a ask.Clock w is h in
    let now = h.surface.time in
    let low = near.early in
    let high = near.late in
    clocks-place old new a reading w there.0 there.1 (record { early = omega arith; late = omega arith }) (omega arith) h answered (asked-clock (stands w a.0).place there.1)

pub waits-until : (old new : World) (a : ApplianceNo) (from reading : ℕ) → IsAsk old a (Some (ask.Until from)) → IsReadingAt reading old.disk.time → old.disk.time < 2 ^ 47 →
    from ≤ reading → IsAnswered old new a (answer.Reading reading) → Steps old new (event.Reading a reading) true
waits-until old new a from reading is near early late answered w h =
    let there = asks-there old a (ask.Until from) w is h in
    let found = asked-until (stands w a.0).place from there.1 in
    let now = h.surface.time in
    let low = near.early in
    let high = near.late in
    let one = event.Reading a reading in (
      goes_on w one a (ask.Until from) [] (answer.Reading reading) (found.rest reading),
      waits found.known found.command from found.rest there.0 found.at (record { early = omega arith; late = omega arith }) late,
      answered.leads w one (ask.Until from) [] (found.rest reading) h there.1 (ap writes_out found.at) (late, omega arith)
          (ap (replies_at (setting_of w a.0) (answer.Reading reading) (stands w a.0)) found.at),
    )

-- a write for which nothing waits
pub none-pending : (pending : Option ℕ) → is_some pending ≡ false → pending ≡ None
none-pending None e = refl
none-pending (Some number) e = cc

-- a write that is waited for
pub some-pending : (pending : Option ℕ) → is_some pending ≡ true → pending ≢ None
some-pending None some none = cc
some-pending (Some number) some none = cc
