-- Which values have the same text.
use Rattle.std.specs.Prelude.{◌≡◌, ℕ, List, map}
use Rattle.plx_commands.specs.declared.entry.Entry.{Entry}
use Rattle.plx_commands.specs.declared.event.Event.{Event}
use Rattle.plx_geom.specs.Geometry.{Geometry}
use Rattle.plx_words.specs.Texts.{LinesTell}
use Rattle.plx_text.specs.Schedules.{IsSchedule}
use Rattle.plx_text.specs.Traces.{plain_entry, trace_lines, trace_text}

-- the same trace: the geometry, the number of appliances,
-- the entries but for the form of their payloads, and the two counts
pub record SameTrace (world : Geometry × ℕ) (entries : List Entry) (reachable allocated : ℕ)
    (world' : Geometry × ℕ) (entries' : List Entry) (reachable' allocated' : ℕ) : Type 0 where
  pub world_same : world ≡ world'
  pub entries_same : map plain_entry entries ≡ map plain_entry entries'
  pub reachable_same : reachable ≡ reachable'
  pub allocated_same : allocated ≡ allocated'

-- a text is the trace of one world alone, where its words tell their values
abbrev pub TraceOnce : Type 0
TraceOnce =
    (world world' : Geometry × ℕ) (entries entries' : List Entry)
    (reachable reachable' allocated allocated' : ℕ)
    → LinesTell (trace_lines world.0 world.1 entries reachable allocated)
    → LinesTell (trace_lines world'.0 world'.1 entries' reachable' allocated')
    → trace_text world.0 world.1 entries reachable allocated
    ≡ trace_text world'.0 world'.1 entries' reachable' allocated'
    → SameTrace world entries reachable allocated world' entries' reachable' allocated'

-- bytes are the schedule of one world and of one list of events alone
abbrev pub ScheduleOnce : Type 0
ScheduleOnce =
    (bytes : List ℕ) (world world' : Geometry × ℕ) (events events' : List Event)
    → IsSchedule bytes world events → IsSchedule bytes world' events'
    → (world ≡ world') × (events ≡ events')
