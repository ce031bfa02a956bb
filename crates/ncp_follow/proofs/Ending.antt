-- The connections of two hosts end, one after the other.
use Rattle.std.proofs.Common.{◌≡◌, ℕ, List, [], ◌∷◌, ◌++◌, refl}
use Rattle.ncp_follow.specs.declared.followed_conn.FollowedConn.{FollowedConn}
use Rattle.ncp_follow.specs.declared.connection.Connection.{Connection}
use Rattle.ncp_follow.specs.declared.connection.EndReason.{EndReason}
use Rattle.ncp_follow.specs.Tables.{end_one, end_all}

-- one connection more
pub ended_more : (number at peer : ℕ) (end : EndReason) (tracks : List FollowedConn) (track : FollowedConn) (told : List Connection)
    → end_all number at peer end (tracks ++ track ∷ []) told ≡ end_one number at peer end track (end_all number at peer end tracks told)
ended_more number at peer end [] track told = refl
ended_more number at peer end (first ∷ tracks) track told = ended_more number at peer end tracks track (end_one number at peer end first told)
