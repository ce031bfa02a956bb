-- An opened connection, and its texts.
use Rattle.std.specs.Prelude.{ℕ, ◌+◌, ◌-◌, ◌^◌, ◌==◌, min, nat_lt, Bool, List, [], ◌++◌, length, take, get_or, slice_get, slice_set, Option, Some, None, if◌then◌else◌}
use Rattle.ncp_bits.specs.declared.bits.TheConstants.{MAX_BITS}
use Rattle.ncp_follow.specs.declared.followed_conn.FollowedConn.{FollowedConn}
use Rattle.ncp_follow.specs.declared.connection.Connection.{Connection}
use Rattle.ncp_follow.specs.declared.connection.EndReason.{EndReason}
use Rattle.ncp_follow.specs.declared.connection.EndReason.TheVariants.{Open}
use Rattle.ncp_follow.specs.Amounts.{nothing, with_more}
use Rattle.ncp_follow.specs.Tracks.{new_track}

abbrev pub number_or_zero : Option ℕ → ℕ
number_or_zero None = 0
number_or_zero (Some number) = number

-- with this number, opened by this record
abbrev pub opened_as : ℕ → ℕ → FollowedConn → Connection
opened_as number opened track = record {
  number = number;
  at = track.at;
  peer = track.peer;
  local = track.local;
  remote = track.remote;
  link = number_or_zero track.link;
  size = number_or_zero track.size;
  opened = opened;
  ended = None;
  end = Open;
  said = nothing;
  late = 0;
  granted = nothing;
  returned = nothing;
  text = [];
}

-- a text is appended, up to `MAX_BITS` bits in all
abbrev pub text_with : List Bool → List Bool → List Bool
text_with text more = text ++ take (MAX_BITS - length text) more

abbrev pub connection_with_text : Connection → List Bool → Connection
connection_with_text connection text = record connection { said = with_more connection.said 1 (length text); text = text_with connection.text text }

-- with its text emptied
abbrev pub without_text : Connection → Connection
without_text connection = record connection { text = [] }

-- one more late text, on its link but not accepted
abbrev pub with_late : Connection → Connection
with_late connection = record connection { late = min (connection.late + 1) (2 ^ 32 - 1) }

abbrev pub with_granted : Connection → ℕ → ℕ → Connection
with_granted connection messages bits = record connection { granted = with_more connection.granted messages bits }

abbrev pub with_returned : Connection → ℕ → ℕ → Connection
with_returned connection messages bits = record connection { returned = with_more connection.returned messages bits }

abbrev pub connection_with_end : Connection → EndReason → Option ℕ → Connection
connection_with_end connection end ended = record connection { end = end; ended = ended }

-- ---- as a list, in order of opening

abbrev pub opened_at : List Connection → ℕ → Connection
opened_at told place = get_or told place (opened_as 0 0 (new_track 0 0 0 0))

-- with another connection at an index, if that is in range
abbrev pub with_opened_at : List Connection → ℕ → Connection → List Connection
with_opened_at told place connection = if nat_lt place (length told) then slice_set told place connection else told

abbrev pub with_end_recorded : List Connection → Option ℕ → EndReason → Option ℕ → List Connection
with_end_recorded told None end ended = told
with_end_recorded told (Some place) end ended = with_opened_at told place (connection_with_end (opened_at told place) end ended)

-- ---- by number, from 1

abbrev pub index_numbered : ℕ → Option ℕ
index_numbered number = if number == 0 then None else Some (number - 1)

-- the connection at an index, if there is one
abbrev pub numbered : List Connection → Option ℕ → Option Connection
numbered told None = None
numbered told (Some place) = slice_get told place

-- its text; empty if there is no connection
abbrev pub connection_text : Option Connection → List Bool
connection_text None = []
connection_text (Some connection) = connection.text

-- with the text of the connection at an index emptied
abbrev pub silent_at : List Connection → Option ℕ → List Connection
silent_at told None = told
silent_at told (Some place) = with_opened_at told place (without_text (opened_at told place))
