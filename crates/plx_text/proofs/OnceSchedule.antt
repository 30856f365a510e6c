-- Bytes spell one schedule alone.
use Rattle.std.proofs.Common.{◌≡◌, ℕ, List, [], ◌∷◌}
use Rattle.plx_commands.specs.declared.event.Event.{Event}
use Rattle.plx_geom.specs.Geometry.{Geometry}
use Rattle.plx_words.proofs.Once.{lines-once, one-value}
use Rattle.plx_words.specs.Files.{Numbered}
use Rattle.plx_words.specs.Words.{words_of}
use Rattle.plx_text.proofs.Found.{event-spelled, world-spelled}
use Rattle.plx_text.specs.Events.{SpellsEvent, event_of}
use Rattle.plx_text.specs.Once.{ScheduleOnce}
use Rattle.plx_text.specs.Schedules.{SpellSchedule, world_of}

lines-same : (world world' : Geometry × ℕ) (events events' : List Event) (lines : List Numbered) → SpellSchedule world events lines → SpellSchedule world' events' lines
    → (world ≡ world') × (events ≡ events')
lines-same world world' events events' [] here there = absurd here
lines-same world world' events events' (line ∷ lines) here there = (
  one-value (world_of (words_of line.1)) world world' (world-spelled world (words_of line.1) here.0) (world-spelled world' (words_of line.1) there.0),
  lines-once (λ (one : Event) (line : Numbered). SpellsEvent one (words_of line.1))
      (λ (one other : Event) (line : Numbered) is too. one-value (event_of (words_of line.1)) one other (event-spelled one (words_of line.1) is) (event-spelled other (words_of line.1) too))
      events events' lines here.1 there.1,
)

pub once : ScheduleOnce
once bytes world world' events events' here there = lines-same world world' events events' _ here.lines there.lines
