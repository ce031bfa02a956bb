-- The text reported of the connection between two sockets.
use Rattle.std.specs.Prelude.{ℕ, Bool, List, Option, Some, None}
use Rattle.ncp_model.specs.declared.pair.Pair.{Pair}
use Rattle.ncp_follow.specs.declared.followed_conn.FollowedConn.{FollowedConn}
use Rattle.ncp_follow.specs.declared.tables.Tables.{Tables}
use Rattle.ncp_follow.specs.Tracks.{track_at}
use Rattle.ncp_follow.specs.Connections.{numbered, connection_text}
use Rattle.ncp_follow.specs.Tables.{pair_index}

-- the index, among the opened connections, of the followed one at this index
abbrev pub place_opened : List FollowedConn → Option ℕ → Option ℕ
place_opened tracks None = None
place_opened tracks (Some place) = (track_at tracks place).place

-- of the connection between two sockets, at an interface; empty if none was opened
abbrev pub text_told : ℕ → ℕ → Pair → Tables → List Bool
text_told at peer pair tables =
    connection_text (numbered tables.told (place_opened tables.tracks (pair_index at peer pair.local pair.remote tables.tracks)))
