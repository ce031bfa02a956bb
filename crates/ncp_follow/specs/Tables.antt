-- The effects of commands on the control link, and of texts on the others, on connections (NIC 8246, RTS,
-- STR, CLS, ALL and RET).
use Rattle.std.specs.Prelude.{ℕ, ◌+◌, ◌==◌, not, ◌&&◌, ◌||◌, nat_lt, nat_le, Bool, true, false, List, [], ◌∷◌, ◌++◌, length, slice_set, Option, Some, None, is_some, if◌then◌else◌}
use Rattle.std.specs.List.{position, remove, filter}
use Rattle.std.proofs.Math.Bool.{beq}
use Rattle.ncp_follow.specs.declared.followed_conn.FollowedConn.{FollowedConn}
use Rattle.ncp_follow.specs.declared.tracks.TheConstants.{MAX_TRACKS}
use Rattle.ncp_follow.specs.declared.opened.TheConstants.{MAX_OPENED}
use Rattle.ncp_follow.specs.declared.connection.Connection.{Connection}
use Rattle.ncp_follow.specs.declared.connection.EndReason.{EndReason}
use Rattle.ncp_follow.specs.declared.connection.EndReason.TheVariants.{CloseSent, CloseCame, Closed}
use Rattle.ncp_interface.specs.declared.request.Request.{Request}
use Rattle.ncp_interface.specs.declared.request.Request.TheVariants.{Link, Size}
use Rattle.ncp_follow.specs.declared.observation.Observation.{Observation}
use Rattle.ncp_follow.specs.declared.tables.Tables.{Tables}
use Rattle.ncp_follow.specs.Amounts.{with_more, with_less}
use Rattle.ncp_follow.specs.Tracks.{new_track, is_pair, is_used, has_left, with_left, has_chosen, with_choice, is_whole, takes_bits, track_at}
use Rattle.ncp_interface.specs.Sockets.{is_senders, is_of_sexes}
use Rattle.ncp_follow.specs.Connections.{opened_as, connection_with_text, with_late, with_granted, with_returned, opened_at, with_opened_at, with_end_recorded}

-- ---- connections that have not ended

abbrev pub is_track_of : ℕ → ℕ → FollowedConn → Bool
is_track_of at peer track = track.at == at && track.peer == peer

abbrev pub pair_index : ℕ → ℕ → ℕ → ℕ → List FollowedConn → Option ℕ
pair_index at peer local remote tracks = position (is_pair at peer local remote) tracks

abbrev pub index_at_link : ℕ → ℕ → Bool → ℕ → List FollowedConn → Option ℕ
index_at_link at peer sender link tracks = position (is_used at peer sender link) tracks

abbrev pub with_new : List FollowedConn → FollowedConn → List FollowedConn
with_new tracks track = if nat_lt (length tracks) MAX_TRACKS then tracks ++ track ∷ [] else tracks

abbrev pub without : List FollowedConn → ℕ → ℕ → List FollowedConn
without tracks at peer = filter (λ track. not (is_track_of at peer track)) tracks

-- one more can be opened
abbrev pub has_room_opened : List Connection → Bool
has_room_opened told = nat_lt (length told) MAX_OPENED

-- one more, opened by this record
abbrev pub with_opened : List Connection → ℕ → FollowedConn → List Connection
with_opened told opened track = told ++ opened_as (length told + 1) opened track ∷ []

-- ---- requests

-- another connection has the link that the receiver asks for
abbrev pub is_link_taken : Observation → ℕ → Request → List FollowedConn → Bool
is_link_taken observation local (Link link) tracks = is_some (index_at_link observation.at observation.peer (is_senders local) link tracks)
is_link_taken observation local (Size size) tracks = false

-- a connection at its index; it is opened if both sides have asked, neither has closed, and there is room
abbrev pub track_placed : Observation → ℕ → FollowedConn → Tables → Tables
track_placed observation place track tables =
    if is_whole track && has_room_opened tables.told
    then record tables { tracks = slice_set tables.tracks place (record track { place = Some (length tables.told) }); told = with_opened tables.told observation.number track }
    else record tables { tracks = slice_set tables.tracks place track }

-- a request of a side that has already asked or sent its CLS changes nothing
abbrev pub asked_at : Observation → ℕ → ℕ → Request → Tables → Option ℕ → Tables
asked_at observation local remote request tables None =
    record tables { tracks = with_new tables.tracks (with_choice (new_track observation.at observation.peer local remote) request) }
asked_at observation local remote request tables (Some place) =
    let track = track_at tables.tracks place in
    if has_chosen track request || has_left track observation.sent then tables
    else track_placed observation place (with_choice track request) tables

abbrev pub after_request : Observation → ℕ → ℕ → Request → Tables → Tables
after_request observation local remote request tables =
    if is_link_taken observation local request tables.tracks then tables
    else asked_at observation local remote request tables (pair_index observation.at observation.peer local remote tables.tracks)

-- a valid request: the sexes of both sockets, and the link of an RTS or the size of an STR
abbrev pub is_right : ℕ → ℕ → Request → Bool
is_right receive send (Link link) = is_of_sexes receive send && nat_le 2 link && nat_le link 71
is_right receive send (Size size) = is_of_sexes receive send && nat_lt 0 size

abbrev pub is_of_receiver : Request → Bool
is_of_receiver (Link link) = true
is_of_receiver (Size size) = false

-- the host's socket is the receiver's if it sends an RTS or receives an STR
abbrev pub after_asking : Observation → ℕ → ℕ → Request → Tables → Tables
after_asking observation receive send request tables =
    if not (is_right receive send request) then tables
    else if beq (is_of_receiver request) observation.sent then after_request observation receive send request tables
    else after_request observation send receive request tables

-- ---- CLS

abbrev pub end_by : Bool → EndReason
end_by sent = if sent then CloseSent else CloseCame

-- the second CLS ends a connection
abbrev pub left_at : Observation → ℕ → FollowedConn → Tables → Tables
left_at observation place track tables =
    if track.host_left && track.peer_left
    then record tables { tracks = remove tables.tracks place; told = with_end_recorded tables.told track.place Closed (Some observation.number) }
    else record tables { tracks = slice_set tables.tracks place track; told = with_end_recorded tables.told track.place (end_by observation.sent) None }

abbrev pub closed_at : Observation → Tables → Option ℕ → Tables
closed_at observation tables None = tables
closed_at observation tables (Some place) =
    let track = track_at tables.tracks place in
    if has_left track observation.sent then tables else left_at observation place (with_left track observation.sent) tables

abbrev pub after_close : Observation → ℕ → ℕ → Tables → Tables
after_close observation my your tables =
    if observation.sent then closed_at observation tables (pair_index observation.at observation.peer my your tables.tracks)
    else closed_at observation tables (pair_index observation.at observation.peer your my tables.tracks)

-- ---- allocation

-- an ALL of a receiver that sent its CLS, or for a connection that was not opened, changes nothing
abbrev pub granted_of : ℕ → ℕ → ℕ → FollowedConn → Tables → Option ℕ → Tables
granted_of place messages bits track tables None = tables
granted_of place messages bits track tables (Some t) =
    record tables {
      tracks = slice_set tables.tracks place (record track { left = with_more track.left messages bits });
      told = with_opened_at tables.told t (with_granted (opened_at tables.told t) messages bits);
    }

abbrev pub granted_at : Observation → ℕ → ℕ → Tables → Option ℕ → Tables
granted_at observation messages bits tables None = tables
granted_at observation messages bits tables (Some place) =
    let track = track_at tables.tracks place in if has_left track observation.sent then tables else granted_of place messages bits track tables track.place

abbrev pub after_grant : Observation → ℕ → ℕ → ℕ → Tables → Tables
after_grant observation link messages bits tables = granted_at observation messages bits tables (index_at_link observation.at observation.peer (not observation.sent) link tables.tracks)

-- a sender's RET reduces the allocation left
abbrev pub returned_of : ℕ → ℕ → ℕ → FollowedConn → Tables → Option ℕ → Tables
returned_of place messages bits track tables None = tables
returned_of place messages bits track tables (Some t) =
    record tables {
      tracks = slice_set tables.tracks place (record track { left = with_less track.left messages bits });
      told = with_opened_at tables.told t (with_returned (opened_at tables.told t) messages bits);
    }

abbrev pub returned_at : Observation → ℕ → ℕ → Tables → Option ℕ → Tables
returned_at observation messages bits tables None = tables
returned_at observation messages bits tables (Some place) =
    let track = track_at tables.tracks place in if has_left track observation.sent then tables else returned_of place messages bits track tables track.place

abbrev pub after_return : Observation → ℕ → ℕ → ℕ → Tables → Tables
after_return observation link messages bits tables = returned_at observation messages bits tables (index_at_link observation.at observation.peer observation.sent link tables.tracks)

-- ---- texts

-- a text of an opened connection: accepted, or late
abbrev pub opened_after : FollowedConn → ℕ → ℕ → List Bool → List Connection → List Connection
opened_after track place size text told =
    if takes_bits track size (length text) then with_opened_at told place (connection_with_text (opened_at told place) text)
    else with_opened_at told place (with_late (opened_at told place))

abbrev pub texts_of : ℕ → ℕ → List Bool → FollowedConn → Tables → Option ℕ → Tables
texts_of place size text track tables None = tables
texts_of place size text track tables (Some t) =
    record tables {
      tracks = slice_set tables.tracks place (record track { left = with_less track.left 1 (length text) });
      told = opened_after track t size text tables.told;
    }

abbrev pub said_at : ℕ → List Bool → Tables → Option ℕ → Tables
said_at size text tables None = tables
said_at size text tables (Some place) = let track = track_at tables.tracks place in texts_of place size text track tables track.place

abbrev pub after_text : Observation → ℕ → ℕ → List Bool → Tables → Tables
after_text observation link size text tables = said_at size text tables (index_at_link observation.at observation.peer observation.sent link tables.tracks)

-- its connection was opened
abbrev pub belongs_at : List FollowedConn → Option ℕ → Bool
belongs_at tracks None = false
belongs_at tracks (Some place) = is_some (track_at tracks place).place

abbrev pub belongs : Observation → ℕ → Tables → Bool
belongs observation link tables = belongs_at tables.tracks (index_at_link observation.at observation.peer observation.sent link tables.tracks)

-- ---- resets

abbrev pub end_one : ℕ → ℕ → ℕ → EndReason → FollowedConn → List Connection → List Connection
end_one number at peer end track told = if is_track_of at peer track then with_end_recorded told track.place end (Some number) else told

-- ends the connections of two hosts, in order
abbrev pub end_all : ℕ → ℕ → ℕ → EndReason → List FollowedConn → List Connection → List Connection
end_all number at peer end [] told = told
end_all number at peer end (track ∷ tracks) told = end_all number at peer end tracks (end_one number at peer end track told)

abbrev pub after_clearing : Observation → EndReason → Tables → Tables
after_clearing observation end tables = record tables {
  tracks = without tables.tracks observation.at observation.peer;
  told = end_all observation.number observation.at observation.peer end tables.tracks tables.told;
}
