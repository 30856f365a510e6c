-- What a load still asks, by where it stands and by what is known.
use Rattle.std.specs.Prelude.{◌+◌, ◌-◌, ℕ, List, Option, Some, Result}
use Rattle.plx_commands.specs.declared.reply.Reply.TheVariants as reply
use Rattle.plx_geom.specs.Geometry.{descriptor_at, data_at}
use Rattle.plx_rules.specs.Process.{Process}
use Rattle.plx_rules.specs.Journaled.{Journaled}
use Rattle.plx_rules.specs.Attaching.{after_load, attach_ends, image_use, load_image}
use Rattle.plx_rules.specs.Ends.{End, damaged_process, ends}
use Rattle.plx_rules.specs.Journal.{finding}
use Rattle.plx_rules.specs.Loading.{LoadEnd, load_found, load_process, load_read}
use Rattle.plx_rules.specs.Processes.{followed_by}
use Rattle.plx_rules.specs.Session.{Known, session_report, with_session, with_write_by_number}
use Rattle.plx_session.specs.Failing.{left_by}
use Rattle.plx_session.specs.Giving.{rules_setting}
use Rattle.plx_session.specs.Shown.{session_of, writes_of}
use Rattle.plx_session.specs.declared.failure.Failure.{Failure}
use Rattle.plx_session.specs.declared.load.Load.{Load}
use Rattle.plx_session.specs.declared.load.LoadAt.{LoadAt}
use Rattle.plx_session.specs.declared.load.LoadAt.TheVariants as load
use Rattle.plx_session.specs.declared.session.Session.{Session}

-- a write that the journal holds
abbrev pub loaded_write : (number vblock : ℕ) → List ℕ → Journaled
loaded_write number vblock bytes = record { number = number; vblock = vblock; block = bytes }

-- the journal from a slot on
abbrev pub slots_process : Load → (next : ℕ) → List Journaled → Process LoadEnd
slots_process l next writes = load_process l.image.setting.geometry l.image.slot.0 l.session.image (l.slots - next) next writes

-- the data of a slot whose descriptor counts, and the journal after it
abbrev pub data_process : Load → (number vblock : ℕ) → Process LoadEnd
data_process l number vblock =
    load_read (data_at l.image.setting.geometry l.image.slot.0 l.next) (λ data'.
    slots_process l (l.next + 1) (with_write_by_number (loaded_write number vblock data') (writes_of l.session.journal)))

-- what is asked once the descriptor of a slot was read
abbrev pub found_process : Load → List ℕ → Process LoadEnd
found_process l bytes =
    load_found (descriptor_at l.image.setting.geometry l.image.slot.0 l.next) (finding l.session.image l.image.setting.geometry.slots l.next bytes)
    (slots_process l (l.next + 1) (writes_of l.session.journal))
    (λ number vblock. data_process l number vblock)

-- the read of a slot, and what is asked after it
abbrev pub slot_process : Load → Process LoadEnd
slot_process l = load_read (descriptor_at l.image.setting.geometry l.image.slot.0 l.next) (λ bytes. found_process l bytes)

-- the end of the load
abbrev pub and_ends : Known → Load → Process LoadEnd → Process End
and_ends known l process = followed_by process (after_load (rules_setting l.image.setting) known l.image.slot.0 l.image.until l.session.image)

-- what is left of a load once it has these writes of the slots before the next one
abbrev pub loaded_rest : Known → Load → (next : ℕ) → List Journaled → Process End
loaded_rest known l next writes = and_ends known l (slots_process l next writes)

-- what is left of a load once these bytes of a descriptor were read
abbrev pub found_rest : Known → Load → List ℕ → Process End
found_rest known l bytes = and_ends known l (found_process l bytes)

-- bytes outside the format were read at a block
abbrev pub damaged_rest : Known → Load → (block : ℕ) → Process End
damaged_rest known l block = damaged_process (rules_setting l.image.setting) known (image_use l.image.slot.0 l.image.until) block

-- what is left of a load, by where it stands
abbrev pub load_at : LoadAt → Known → Load → Process End
load_at load.Record known l = load_image (rules_setting l.image.setting) known l.image.slot.0 l.image.until
load_at load.Slot known l = and_ends known l (slot_process l)
load_at (load.Data d) known l = and_ends known l (data_process l d.number d.vblock)
load_at (load.Damaged block) known l = damaged_rest known l block.0
load_at load.Last known l = attach_ends (rules_setting l.image.setting) known l.image.slot.0 l.image.until (session_of l.session)

-- what is left of a load
abbrev pub load_rest : Known → Load → Process End
load_rest known l = load_at l.at known l

-- the end of a load that is done
abbrev pub loaded_ends : Known → Load → Session → Process End
loaded_ends known l session =
    ends (reply.Attached (session_report (session_of session))) (with_session known l.image.slot.0 (Some (session_of session)))

-- what is left of a load once it was answered: it comes to the session
abbrev pub load_left : Known → Load → Option (Result Session Failure) → Process End
load_left known l result = left_by known l.image (load_rest known l) (loaded_ends known l) result
