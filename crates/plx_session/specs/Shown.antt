-- A session, as the definitions see it.
use Rattle.std.specs.Prelude.{ℕ, List, Option, Some, None}
use Rattle.plx_rules.specs.Journaled.{Journaled}
use Rattle.plx_rules.specs.Session.{Known, with_session}
use Rattle.plx_rules.specs.Session.{Session as KnownSession}
use Rattle.plx_session.specs.PlacedWrites.{writes_in}
use Rattle.plx_session.specs.declared.journal.Journal.{Journal}
use Rattle.plx_session.specs.declared.session.Session.{Session}

-- the writes that a journal holds
abbrev pub writes_of : Journal → List Journaled
writes_of journal = writes_in journal.bytes.items journal.writes.items

-- a session
abbrev pub session_of : Session → KnownSession
session_of session = record { image = session.image; writes = writes_of session.journal }

-- so of a session, if there is one
abbrev pub known_session : Option Session → Option KnownSession
known_session None = None
known_session (Some session) = Some (session_of session)

-- what is known with this session of an image, or with none
abbrev pub known_with : Known → (image : ℕ) → Option Session → Known
known_with known image session = with_session known image (known_session session)
