-- What an appliance keeps between commands, as the definitions see it.
use Rattle.std.specs.Prelude.{ℕ, List, Option, None, slice_index_or}
use Rattle.plx_rules.specs.Session.{Known}
use Rattle.plx_rules.specs.Session.{Session as KnownSession}
use Rattle.plx_appliance.specs.declared.holdings.Holdings.{Holdings}
use Rattle.plx_session.specs.declared.session.Session.{Session}
use Rattle.plx_appliance.specs.declared.sessions.Sessions.{Sessions}
use Rattle.plx_session.specs.Shown.{known_session}

-- the sessions by image
abbrev pub sessions_of : List (Option Session) → ℕ → Option KnownSession
sessions_of images = λ image. known_session (slice_index_or images image None)

-- what is known by these sessions, after so many claims
abbrev pub known_by : Sessions → ℕ → Known
known_by sessions claims = record { sessions = sessions_of sessions.images.items; claims = claims }

-- what is known by all that an appliance holds
abbrev pub known_of : Holdings → Known
known_of h = known_by h.sessions h.space.claims
