-- What stays the same of the things that an appliance keeps.
use Rattle.std.specs.Prelude.{◌≡◌, ℕ, List, Option, Some, None, slice_index_or}
use Rattle.plx_session.specs.declared.session.Session.{Session}

-- of how many slots the journal of a session is, if there is one
abbrev pub slots_with_session : ℕ → Option Session → ℕ
slots_with_session slots None = slots
slots_with_session slots (Some session) = session.journal.slots

-- all sessions are of journals of so many slots
abbrev pub AreOf : ℕ → List (Option Session) → Type 0
AreOf slots images = (image : ℕ) → slots_with_session slots (slice_index_or images image None) ≡ slots
