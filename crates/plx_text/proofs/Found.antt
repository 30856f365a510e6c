-- What words tell is what they can spell at most.
use Rattle.std.proofs.Common.{◌≡◌, ℕ, true, List, [], ◌∷◌, refl, arith}
use Rattle.std.specs.Prelude.{Some}
use Rattle.plx_base.specs.declared.lease.LeaseName.{LeaseName}
use Rattle.plx_base.specs.declared.lease.LeaseName.TheVariants.{Root, Image, Extent}
use Rattle.plx_base.specs.declared.lease.LeaseRecord.TheVariants.{Free, Claimed}
use Rattle.plx_base.specs.declared.write_kind.WriteKind.TheVariants as kind
use Rattle.plx_commands.specs.declared.command.Command.{Command}
use Rattle.plx_commands.specs.declared.command.Command.TheVariants.{Attach, Create, Write, Flush, Reclaim}
use Rattle.plx_commands.specs.declared.entry.Entry.{Entry}
use Rattle.plx_commands.specs.declared.entry.Entry.TheVariants as entry
use Rattle.plx_commands.specs.declared.event.Event.{Event}
use Rattle.plx_commands.specs.declared.event.Event.TheVariants as event
use Rattle.plx_commands.specs.declared.event.Region.TheVariants as region
use Rattle.plx_commands.specs.declared.event.Stop.{Stop}
use Rattle.plx_commands.specs.declared.event.Stop.TheVariants as stop
use Rattle.plx_commands.specs.declared.reply.Reply.{Reply}
use Rattle.plx_commands.specs.declared.reply.Reply.TheVariants.{Attached, Data, Busy, Lost}
use Rattle.plx_geom.specs.Geometry.{Geometry}
use Rattle.plx_words.proofs.Values.{Tell, bit-value, data-value, label-value, spells-tell, value}
use Rattle.plx_words.proofs.Clean.{all_bounded}
use Rattle.plx_words.specs.Pieces.{Tells, all_spelled, piece_text}
use Rattle.plx_text.specs.Commands.{built_line, built_of, command_line, command_of}
use Rattle.plx_text.specs.Events.{SpellsEvent, event_line, event_of}
use Rattle.plx_text.specs.Replies.{lease_from, lease_piece, reply_line, reply_in}
use Rattle.plx_text.specs.Stops.{stop_of, stop_piece}
use Rattle.plx_text.specs.Schedules.{SpellsWorld, world_line, world_of}
use Rattle.plx_text.specs.Traces.{entry_line, entry_in}

pub world-found : (world : Geometry × ℕ) (words : List (List ℕ)) → Tell (world_line world.0 world.1) words → world_of words ≡ Some world
world-found (g, appliances) words tells =
    rw (tells.1, value g.images (omega arith), value g.extents (omega arith), value g.extent_blocks (omega arith), value g.slots (omega arith), value appliances (omega arith)) refl

stop-found : (at : Stop) → Tells (stop_piece at) → stop_of (piece_text (stop_piece at)) ≡ Some at
stop-found (stop.Write kind.Claim) tells = refl
stop-found (stop.Write kind.Renew) tells = refl
stop-found (stop.Write kind.Release) tells = refl
stop-found (stop.Write kind.Take) tells = refl
stop-found (stop.Write kind.Give) tells = refl
stop-found (stop.Write kind.Record) tells = refl
stop-found (stop.Write kind.JData) tells = refl
stop-found (stop.Write kind.JCommit) tells = refl
stop-found (stop.Read region.Lease) tells = refl
stop-found (stop.Read region.Record) tells = refl
stop-found (stop.Read region.Journal) tells = refl
stop-found (stop.Read region.Map) tells = refl
stop-found other tells = grind arith

pub command-found : (one : Command) (words : List (List ℕ)) → Tell (command_line one) words → command_of words ≡ Some one
command-found (Create slot size name) words tells = rw (tells.1, value slot.0 (omega arith), value size (omega arith), label-value name tells.0.1.1.1.0) refl
command-found (Write slot vblock payload) words tells = rw (tells.1, value slot.0 (omega arith), value vblock (omega arith), data-value payload tells.0.1.1.1.0) refl
command-found other words tells = grind (arith, value)

-- the same of a schedule
built-found : (one : Command) (words : List (List ℕ)) → Tell (built_line one) words → built_of words ≡ Some one
built-found (Create slot size name) words tells = rw (tells.1, value slot.0 (omega arith), value size (omega arith), label-value name tells.0.1.1.1.0) refl
built-found (Write slot vblock payload) words tells = rw (tells.1, value slot.0 (omega arith), value vblock (omega arith), data-value payload tells.0.1.1.1.0) refl
built-found (Flush slot) words tells = absurd tells.0.0
built-found Reclaim words tells = absurd tells.0.0
built-found other words tells = grind (arith, value)

pub event-found : (one : Event) (words : List (List ℕ)) → Tell (event_line one) words → event_of words ≡ Some one
event-found (event.Start appliance command) words tells =
    rw (tells.1, value appliance.0 (omega arith), built-found command (all_spelled (built_line command)) (tells.0.1.1, refl)) refl
event-found (event.Upto appliance at) words tells = rw (tells.1, value appliance.0 (omega arith), stop-found at tells.0.1.1.0) refl
event-found other words tells = grind (arith, value)

lease_from-piece : (lease : LeaseName) → Tells (lease_piece lease) → lease_from (piece_text (lease_piece lease)) ≡ lease
lease_from-piece Root tells = refl
lease_from-piece (Image slot) tells = grind (arith, value)
lease_from-piece (Extent extent) tells = grind (arith, value)

pub reply-found : (one : Reply) (words : List (List ℕ)) → Tell (reply_line one) words → reply_in words ≡ Some one
reply-found (Attached report) words tells =
    rw (
      tells.1,
      bit-value report.live,
      value report.generation (omega arith),
      value report.size (omega arith),
      value report.writes (omega arith),
      value report.taken (omega arith),
      value report.dropped (omega arith),
      label-value report.label tells.0.1.1.1.1.1.1.1.0,
    ) refl
reply-found (Data payload) words tells = rw (tells.1, data-value payload tells.0.1.0) refl
reply-found (Busy lease Free) words tells = rw (tells.1, lease_from-piece lease tells.0.1.0) refl
reply-found (Busy lease (Claimed claim until)) words tells =
    rw (
      tells.1,
      lease_from-piece lease tells.0.1.0,
      value claim.boot.0 (omega arith),
      value claim.number (omega arith),
      value claim.sample (omega arith),
      value until (omega arith),
    ) refl
reply-found (Lost lease until reading) words tells = rw (tells.1, lease_from-piece lease tells.0.1.0, value until (omega arith), value reading (omega arith)) refl
reply-found other words tells = grind (arith, value)

pub entry_in-line : (one : Entry) (words : List (List ℕ)) → Tell (entry_line one) words → entry_in words ≡ Some one
entry_in-line (entry.Start appliance command) words tells =
    rw (tells.1, value appliance.0 (omega arith), command-found command (all_spelled (command_line command)) (tells.0.1.1, refl)) refl
entry_in-line (entry.Reply appliance reply) words tells =
    rw (tells.1, value appliance.0 (omega arith), reply-found reply (all_spelled (reply_line reply)) (tells.0.1.1, refl)) refl
entry_in-line (entry.Crash appliance) words tells = grind (arith, value)

-- the numbers of a line of a schedule are bounded
stop-bounded : (at : Stop) → all_bounded (stop_piece at ∷ []) ≡ true
stop-bounded (stop.Write kind.JData) = refl
stop-bounded (stop.Read region.Journal) = refl
stop-bounded other = refl

command-bounded : (one : Command) → all_bounded (built_line one) ≡ true
command-bounded (Attach slot) = refl
command-bounded other = refl

event-bounded : (one : Event) → all_bounded (event_line one) ≡ true
event-bounded (event.Start appliance command) = command-bounded command
event-bounded (event.Upto appliance at) = stop-bounded at
event-bounded other = refl

-- so what they spell is what they can spell at most
pub world-spelled : (world : Geometry × ℕ) (words : List (List ℕ)) → SpellsWorld world words → world_of words ≡ Some world
world-spelled world words spells = world-found world words (spells-tell (world_line world.0 world.1) words refl spells)

pub event-spelled : (one : Event) (words : List (List ℕ)) → SpellsEvent one words → event_of words ≡ Some one
event-spelled one words spells = event-found one words (spells-tell (event_line one) words (event-bounded one) spells)
