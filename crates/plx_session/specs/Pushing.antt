-- What becomes of a session.
use Rattle.std.specs.Prelude.{ℕ, length, Option, Some, None, nat_lt, if◌then◌else◌}
use Rattle.plx_gate.specs.declared.image.ImageRecord.{ImageRecord}
use Rattle.plx_rules.specs.Journaled.{Journaled}
use Rattle.plx_rules.specs.Session.{Session, new_session, with_write}

-- a session has one more write, if there is one whose journal has a slot for it
abbrev pub with_one_more : ℕ → Option Session → Journaled → Option Session
with_one_more slots None write = None
with_one_more slots (Some session) write = Some (if nat_lt (length session.writes) slots then with_write session write else session)

-- a session, if there is one, is that of an image that was just made or deleted
abbrev pub new_session_if : Option Session → ImageRecord → Option Session
new_session_if None image = None
new_session_if (Some session) image = Some (new_session image)
