-- What the program makes of its words and its input.
use Rattle.std.specs.Prelude.{◌≡◌, ◌≢◌, ◌<◌, ◌≤◌, ◌+◌, ℕ, List, [], ◌∷◌, length, take, reverse, Option, Some, codes, String, string_bytes, ◌⊎◌}
use Rattle.std.specs.Io.KnownBytes.{Appends}
use Rattle.plx_base.specs.Sectors.{Device}
use Rattle.plx_commands.specs.declared.event.Event.{Event}
use Rattle.plx_geom.specs.Geometry.{Geometry}
use Rattle.plx_port.specs.Faults.{Rose}
use Rattle.plx_port.specs.Streams.{ReadsToEnd, TakesCount}
use Rattle.plx_rules.specs.Formatted.{IsFormatted}
use Rattle.plx_rules.specs.Pools.{allocated_in}
use Rattle.plx_rules.specs.Sequences.{Plays}
use Rattle.plx_rules.specs.World.{World, first_world}
use Rattle.plx_world.specs.Playing.{IsLawful, LawsHold}
use Rattle.plx_text.specs.Once.{SameTrace, ScheduleOnce, TraceOnce}
use Rattle.plx_text.specs.Schedules.{IsSchedule, schedule_grammar}
use Rattle.plx_text.specs.Traces.{bad_line_text, trace_lines, trace_text}
use Rattle.plx_words.specs.Files.{IsFirstBad}
use Rattle.plx_words.specs.Texts.{LinesTell}
use Rattle.plx_cli.specs.declared.status.Status.{Status}
use Rattle.plx_cli.specs.declared.status.Status.TheVariants.{Done, BadLine, SourceFault, SinkFault, NoMemory, TooLong}

-- the most bytes of the input
abbrev pub input_limit : ℕ
input_limit = 67108864

module _ {A : Type 0} where
  -- the words are the program's name and `replay`
  abbrev pub IsReplay : List (String A) → Type 0
  IsReplay (name ∷ word ∷ []) = string_bytes word ≡ codes "replay"
  IsReplay words = ⊥

-- a world to which the events lead, in order, from a formatted device: the laws hold of it, this is the text of its trace and of its two counts, and
-- the words of the text tell their values
pub record IsTold (first : Geometry × ℕ) (events : List Event) (text : List ℕ) : Type 0 where
  pub device : Device
  pub formatted : IsFormatted first.0 device
  pub world : World
  pub plays : Plays (first_world first.0 first.1 device) events world
  pub lawful : IsLawful world
  pub trace : text ≡ trace_text first.0 first.1 (reverse world.trace) 0 (allocated_in world)
  pub tells : LinesTell (trace_lines first.0 first.1 (reverse world.trace) 0 (allocated_in world))

-- a text that was written tells of one geometry, one number of appliances and one trace alone
abbrev pub ToldOnce : Type 0
ToldOnce = (first first' : Geometry × ℕ) (events events' : List Event) (text : List ℕ) (told : IsTold first events text) (told' : IsTold first' events' text)
    → SameTrace first (reverse told.world.trace) 0 (allocated_in told.world) first' (reverse told'.world.trace) 0 (allocated_in told'.world)

-- the bytes are a schedule, and this text tells of the world to which its events lead
pub record IsTrace (bytes text : List ℕ) : Type 0 where
  pub first : Geometry × ℕ
  pub events : List Event
  pub schedule : IsSchedule bytes first events
  pub told : IsTold first events text

-- the bytes have a first line that isn't in the grammar, and this text names it
pub record IsBad (bytes text : List ℕ) : Type 0 where
  pub line : ℕ
  pub first : IsFirstBad schedule_grammar bytes line
  pub names : text ≡ bad_line_text line

-- what is to be written for an input
abbrev pub IsAnswer : List ℕ → List ℕ → Type 0
IsAnswer bytes text = IsTrace bytes text ⊎ IsBad bytes text

-- the same, with the status once it is written
abbrev pub IsOutcome : List ℕ → Status → List ℕ → Type 0
IsOutcome bytes status text = ((status ≡ Done) × IsTrace bytes text) ⊎ ((status ≡ BadLine) × IsBad bytes text)

-- such a text of these bytes was appended
abbrev pub Appended : (List ℕ → List ℕ → Type 0) → List ℕ → Option (List ℕ) → Option (List ℕ) → Type 0
Appended IsText bytes old new = (text : List ℕ) × IsText bytes text × Appends old new text

-- a front of such a text was appended, and not all of it
abbrev pub AppendedPart : (List ℕ → List ℕ → Type 0) → List ℕ → Option (List ℕ) → Option (List ℕ) → Type 0
AppendedPart IsText bytes old new = (text : List ℕ) × IsText bytes text × (n : ℕ) × (n < length text) × Appends old new (take n text)

-- the source tells what it has left: these bytes, which are no more than the limit, and it didn't fail
pub record IsGiven (bytes : List ℕ) (left : Option (List ℕ)) (before after : ℕ) : Type 0 where
  pub tells : left ≡ Some bytes
  pub short : length bytes ≤ input_limit
  pub sound : ¬ Rose before after

-- an input was read to its end, of which this holds
abbrev pub ReadsSuch : Option (List ℕ) → Option (List ℕ) → (List ℕ → Type 0) → Type 0
ReadsSuch old new P = (bytes : List ℕ) × ReadsToEnd old new bytes × P bytes

-- ---- what the call ensures

-- the laws of all texts: a trace's is that of no other trace, nor is what was written, and a schedule's bytes are those of no
-- other schedule
pub record TextsTell : Type 0 where
  pub once : TraceOnce
  pub told : ToldOnce
  pub schedule : ScheduleOnce

-- the laws that the call stands for, whatever it is asked: of all worlds that events lead to, and of all texts
pub record Laws : Type 0 where
  pub worlds : LawsHold
  pub texts : TextsTell

-- what was written: the trace of the schedule, or the number of its first bad line, or a part of it
pub record IsOutput (status : Status) (left left' held held' : Option (List ℕ)) : Type 0 where
  pub done : status ≡ Done → ReadsSuch left left' (λ bytes. Appended IsTrace bytes held held')
  pub bad : status ≡ BadLine → ReadsSuch left left' (λ bytes. Appended IsBad bytes held held')
  pub part : status ≡ SinkFault → ReadsSuch left left' (λ bytes. AppendedPart IsAnswer bytes held held')

-- when the statuses of faults and of long inputs come, by the counts of faults of the source and of
-- the sink, which never fall, and by what was taken
pub record StatusHasCause (status : Status) (left left' : Option (List ℕ)) (read read' written written' : ℕ) : Type 0 where
  pub source : status ≡ SourceFault → Rose read read'
  pub sink : status ≡ SinkFault → Rose written written'
  pub long : status ≡ TooLong → TakesCount left left' (input_limit + 1)
  pub within : status ≢ TooLong → (n : ℕ) × (n ≤ input_limit) × TakesCount left left' n
  pub counts : (read ≤ read') × (written ≤ written')

-- where the source gives an input of at most the limit, a bad line is answered, and a schedule is played
pub record InputIsAnswered (status : Status) (left : Option (List ℕ)) (read read' written written' : ℕ) : Type 0 where
  pub exact : (bytes : List ℕ) (line : ℕ) → IsGiven bytes left read read' →
      IsFirstBad schedule_grammar bytes line →
      (status ≡ BadLine) ⊎ (status ≡ SinkFault) ⊎ (status ≡ NoMemory)
  pub complete : (bytes : List ℕ) (first : Geometry × ℕ) (events : List Event) →
      IsGiven bytes left read read' → IsSchedule bytes first events → ¬ Rose written written' →
      (status ≡ Done) ⊎ (status ≡ NoMemory)
