-- The headline.
use Rattle.std.specs.Prelude.{◌≡◌, ◌<◌, ℕ, List, [], ◌∷◌}
use Rattle.plx_commands.specs.Judge.{Permitted}
use Rattle.plx_commands.specs.Model.{Model, first_model}
use Rattle.plx_commands.specs.Moves.{model_of}
use Rattle.plx_commands.specs.declared.entry.Entry.{Entry}
use Rattle.plx_commands.specs.declared.entry.Entry.TheVariants as entry
use Rattle.plx_commands.specs.declared.event.Event.{Event}
use Rattle.plx_commands.specs.declared.event.Event.TheVariants as event
use Rattle.plx_commands.specs.declared.reply.Reply.{Reply}
use Rattle.plx_commands.specs.declared.reply.Reply.TheVariants as reply
use Rattle.plx_rules.specs.Histories.{Past}
use Rattle.plx_rules.specs.Stored.{StoresEither}
use Rattle.plx_rules.specs.World.{World, Reached}

-- the starts and crashes of a trace
abbrev pub starts_and_crashes : List Entry → List Entry
starts_and_crashes [] = []
starts_and_crashes (entry.Start appliance command ∷ others) =
    entry.Start appliance command ∷ starts_and_crashes others
starts_and_crashes (entry.Reply appliance reply ∷ others) = starts_and_crashes others
starts_and_crashes (entry.Crash appliance ∷ others) =
    entry.Crash appliance ∷ starts_and_crashes others

-- a history with what one event tells: a start or a crash
abbrev pub told_of_event : Event → List Entry → List Entry
told_of_event (event.Start appliance command) others = entry.Start appliance command ∷ others
told_of_event (event.Crash appliance) others = entry.Crash appliance ∷ others
told_of_event event others = others

-- the starts and crashes of a history
abbrev pub events_told : List Past → List Entry
events_told [] = []
events_told (past ∷ others) = told_of_event past.event (events_told others)

-- the model before a world's trace
abbrev pub model_before : World → Model
model_before w = first_model w.geometry.images w.appliances

-- the model after a world's trace
abbrev pub model_in : World → Model
model_in w = model_of (model_before w) w.trace

-- the trace has exactly the starts and crashes of the possible events,
-- in their order; the block-list model permits it; and the device stores
-- each image of the model, without the change that is under way or with it
pub record Headline (w : World) : Type 0 where
  pub told : starts_and_crashes w.trace ≡ events_told w.history
  pub permitted : Permitted (model_before w) w.trace
  pub stored : (image : ℕ) → image < w.geometry.images →
      StoresEither w.geometry w.surface.device image ((model_in w).slots image)

-- every world that events lead to meets the headline
abbrev pub HeadlineOfAll : Type 0
HeadlineOfAll = (w : World) → Reached w → Headline w

-- a reply doesn't tell of bytes outside the format
abbrev pub IsUndamaged : Reply → Type 0
IsUndamaged (reply.Damaged block) = ⊥
IsUndamaged other = Unit {0}

-- no reply of a trace does
abbrev pub AreUndamaged : List Entry → Type 0
AreUndamaged [] = Unit {0}
AreUndamaged (entry.Start appliance command ∷ others) = AreUndamaged others
AreUndamaged (entry.Reply appliance reply ∷ others) = IsUndamaged reply × AreUndamaged others
AreUndamaged (entry.Crash appliance ∷ others) = AreUndamaged others

-- in no world that events lead to, from a formatted device, a reply is Damaged
abbrev pub NeverDamaged : Type 0
NeverDamaged = (w : World) → Reached w → AreUndamaged w.trace
