-- What each command still asks, by where its machine stands and by what is known.
use Rattle.std.specs.Prelude.{ℕ, Option, Result}
use Rattle.plx_base.specs.declared.payload.Payload.{Payload}
use Rattle.plx_base.specs.declared.write_kind.WriteKind.TheVariants as kind
use Rattle.plx_commands.specs.declared.reply.Reply.{Reply}
use Rattle.plx_commands.specs.declared.reply.Reply.TheVariants as reply
use Rattle.plx_gate.specs.declared.image.ImageRecord.{ImageRecord}
use Rattle.plx_geom.specs.Geometry.{record_at, descriptor_at, data_at}
use Rattle.plx_rules.specs.Process.{Process}
use Rattle.plx_rules.specs.Journaled.{Journaled}
use Rattle.plx_rules.specs.Attaching.{image_use}
use Rattle.plx_rules.specs.Ends.{End, ends, write_then, ends_in_time}
use Rattle.plx_rules.specs.Session.{Known, with_session}
use Rattle.plx_session.specs.Failing.{left_by}
use Rattle.plx_session.specs.Giving.{rules_setting}
use Rattle.plx_session.specs.Leases.{leased_use}
use Rattle.plx_session.specs.Pushing.{new_session_if, with_one_more}
use Rattle.plx_session.specs.declared.failure.Failure.{Failure}
use Rattle.plx_session.specs.declared.read.Read.{Read}
use Rattle.plx_session.specs.declared.record.Done.{Done}
use Rattle.plx_session.specs.declared.record.Done.TheVariants as done
use Rattle.plx_session.specs.declared.record.Record.{Record}
use Rattle.plx_session.specs.declared.record.RecordAt.{RecordAt}
use Rattle.plx_session.specs.declared.record.RecordAt.TheVariants as record_at'
use Rattle.plx_session.specs.declared.write.Write.{Write}
use Rattle.plx_session.specs.declared.write.WriteAt.{WriteAt}
use Rattle.plx_session.specs.declared.write.WriteAt.TheVariants as write

-- a read
abbrev pub read_rest : Known → Read → Process End
read_rest known r = ends_in_time (rules_setting r.image.setting) known (image_use r.image.slot.0 r.image.until) (reply.Data r.payload) known

-- what is left once it was answered: it comes to what it gives
abbrev pub read_left : Known → Read → Option (Result Payload Failure) → Process End
read_left known r result = left_by known r.image (read_rest known r) (λ payload. ends (reply.Data payload) known) result

-- what the journal has of a write
abbrev pub journal_write : Write → Journaled
journal_write w = record { number = w.number; vblock = w.vblock; block = w.block }

-- what is known once the journal of an image has one more write
abbrev pub known_with_write : Known → (slots image : ℕ) → Journaled → Known
known_with_write known slots image write = with_session known image (with_one_more slots (known.sessions image) write)

-- what is left of a write at its last clock reading
abbrev pub write_last : Known → Write → Process End
write_last known w =
    ends_in_time (rules_setting w.image.setting) known (image_use w.image.slot.0 w.image.until) (reply.Written w.number)
    (known_with_write known w.image.setting.geometry.slots w.image.slot.0 (journal_write w))

-- what is left of it at the write of its descriptor
abbrev pub write_commit : Known → Write → Process End
write_commit known w =
    write_then (rules_setting w.image.setting) known (leased_use w.image) kind.JCommit (descriptor_at w.image.setting.geometry w.image.slot.0 w.index) w.spelled (write_last known w)

-- what is left of it at the write of its data
abbrev pub write_data : Known → Write → Process End
write_data known w =
    write_then (rules_setting w.image.setting) known (leased_use w.image) kind.JData (data_at w.image.setting.geometry w.image.slot.0 w.index) w.block (write_commit known w)

-- what is left of a write, by where it stands
abbrev pub write_at : WriteAt → Known → Write → Process End
write_at write.Data known w = write_data known w
write_at write.Commit known w = write_commit known w
write_at write.Last known w = write_last known w

-- what is left of a write
abbrev pub write_rest : Known → Write → Process End
write_rest known w = write_at w.at known w

-- the end of a write that is done
abbrev pub written_ends : Known → Write → (number : ℕ) → Process End
written_ends known w number =
    ends (reply.Written number) (known_with_write known w.image.setting.geometry.slots w.image.slot.0 (record { number = number; vblock = w.vblock; block = w.block }))

-- what is left of a write once it was answered: it comes to its number
abbrev pub write_left : Known → Write → Option (Result ℕ Failure) → Process End
write_left known w result = left_by known w.image (write_rest known w) (written_ends known w) result

-- the Ok of a create or a delete
abbrev pub done_reply : Done → Reply
done_reply done.Created = reply.Created
done_reply done.Deleted = reply.Deleted

-- what is left of a create or a delete at its last clock reading
abbrev pub record_last : Known → Record → Process End
record_last known r =
    ends_in_time (rules_setting r.image.setting) known (image_use r.image.slot.0 r.image.until) (done_reply r.done)
    (with_session known r.image.slot.0 (new_session_if (known.sessions r.image.slot.0) r.made))

-- what is left of it at the write of the record
abbrev pub record_first : Known → Record → Process End
record_first known r =
    write_then (rules_setting r.image.setting) known (leased_use r.image) kind.Record (record_at r.image.setting.geometry r.image.slot.0) r.spelled (record_last known r)

-- what is left of a create or a delete, by where it stands
abbrev pub record_stage : RecordAt → Known → Record → Process End
record_stage record_at'.First known r = record_first known r
record_stage record_at'.Last known r = record_last known r

-- what is left of a create or a delete
abbrev pub record_rest : Known → Record → Process End
record_rest known r = record_stage r.at known r

-- the end of a create or a delete that is done
abbrev pub made_ends : Known → Record → ImageRecord → Process End
made_ends known r made = ends (done_reply r.done) (with_session known r.image.slot.0 (new_session_if (known.sessions r.image.slot.0) made))

-- what is left of a create or a delete once it was answered: it comes to the record that was made
abbrev pub record_left : Known → Record → Option (Result ImageRecord Failure) → Process End
record_left known r result = left_by known r.image (record_rest known r) (made_ends known r) result
