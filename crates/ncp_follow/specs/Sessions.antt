-- Two hosts, as observed at the interface of one: who has begun, and who awaits an RRP (NIC 8246, RST and
-- RRP).
use Rattle.std.specs.Prelude.{ℕ, ◌==◌, not, ◌&&◌, nat_lt, Bool, true, false, List, [], ◌∷◌, ◌++◌, length, get_or, slice_set, Option, Some, None, if◌then◌else◌}
use Rattle.std.specs.List.{position}
use Rattle.ncp_follow.specs.declared.session.Session.{Session}
use Rattle.ncp_follow.specs.declared.sessions.TheConstants.{MAX_SESSIONS}
use Rattle.ncp_follow.specs.Amounts.{nothing, with_more}

-- nothing observed; in a partial capture both have begun
abbrev pub new_session : Bool → ℕ → ℕ → Session
new_session part at peer =
    record { at = at; peer = peer; host_began = part; peer_began = part; host_waits = false; peer_waits = false; sent = nothing; came = nothing }

abbrev pub is_between : ℕ → ℕ → Session → Bool
is_between at peer session = session.at == at && session.peer == peer

-- a side's commands and texts count once it has begun with an RST or an RRP, and while neither side
-- awaits an RRP
abbrev pub is_heard : Session → Bool → Bool
is_heard session sent = (if sent then session.host_began else session.peer_began) && not session.host_waits && not session.peer_waits

-- a side that sends an RST awaits an RRP
abbrev pub session_after_reset : Session → Bool → Session
session_after_reset session sent =
    if sent then record session { host_began = true; host_waits = true } else record session { peer_began = true; peer_waits = true }

-- an RRP is the one that the other side awaits
abbrev pub session_after_reply : Session → Bool → Session
session_after_reply session sent =
    if sent then record session { host_began = true; peer_waits = false } else record session { peer_began = true; host_waits = false }

-- a text of `bits` bits outside of connections
abbrev pub with_stray : Session → Bool → ℕ → Session
with_stray session sent bits =
    if sent then record session { sent = with_more session.sent 1 bits } else record session { came = with_more session.came 1 bits }

-- ---- as a list, in the order of their first messages

abbrev pub session_at : List Session → Option ℕ → Session → Session
session_at sessions None new = new
session_at sessions (Some place) new = get_or sessions place new

abbrev pub session_of : Bool → List Session → ℕ → ℕ → Session
session_of part sessions at peer = session_at sessions (position (is_between at peer) sessions) (new_session part at peer)

-- a session at its index; without one, appended if there is room
abbrev pub put_session : List Session → Option ℕ → Session → List Session
put_session sessions (Some place) session = slice_set sessions place session
put_session sessions None session = if nat_lt (length sessions) MAX_SESSIONS then sessions ++ session ∷ [] else sessions

abbrev pub with_session : List Session → Session → List Session
with_session sessions session = put_session sessions (position (is_between session.at session.peer) sessions) session
