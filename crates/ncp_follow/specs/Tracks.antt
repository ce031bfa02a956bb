-- Connections, and requests for them, as observed at a host's interface (NIC 8246, RTS, STR and CLS). The
-- receiver's socket is even, the sender's is odd. The receiver chooses the link, the sender the byte
-- size. A connection is opened when both have asked and neither has sent a CLS; it ends when both have
-- sent one.
use Rattle.std.specs.Prelude.{ℕ, ◌==◌, not, ◌&&◌, Bool, true, false, List, get_or, Some, None, is_some, if◌then◌else◌}
use Rattle.std.proofs.Math.Bool.{beq}
use Rattle.ncp_follow.specs.declared.followed_conn.FollowedConn.{FollowedConn}
use Rattle.ncp_interface.specs.declared.request.Request.{Request}
use Rattle.ncp_interface.specs.declared.request.Request.TheVariants.{Link, Size}
use Rattle.ncp_interface.specs.Sockets.{is_senders, is_number_given}
use Rattle.ncp_follow.specs.Amounts.{nothing, covers}

-- neither side has asked
abbrev pub new_track : ℕ → ℕ → ℕ → ℕ → FollowedConn
new_track at peer local remote = record {
  at = at;
  peer = peer;
  local = local;
  remote = remote;
  link = None;
  size = None;
  host_left = false;
  peer_left = false;
  left = nothing;
  place = None;
}

abbrev pub is_pair : ℕ → ℕ → ℕ → ℕ → FollowedConn → Bool
is_pair at peer local remote track = track.at == at && track.peer == peer && track.local == local && track.remote == remote

-- it has this link, and the host is its sender (or its receiver)
abbrev pub is_used : ℕ → ℕ → Bool → ℕ → FollowedConn → Bool
is_used at peer sender link track = track.at == at && track.peer == peer && beq (is_senders track.local) sender && is_number_given track.link link

abbrev pub has_left : FollowedConn → Bool → Bool
has_left track sent = if sent then track.host_left else track.peer_left

abbrev pub with_left : FollowedConn → Bool → FollowedConn
with_left track sent = if sent then record track { host_left = true } else record track { peer_left = true }

abbrev pub has_chosen : FollowedConn → Request → Bool
has_chosen track (Link link) = is_some track.link
has_chosen track (Size size) = is_some track.size

abbrev pub with_choice : FollowedConn → Request → FollowedConn
with_choice track (Link link) = record track { link = Some link }
with_choice track (Size size) = record track { size = Some size }

-- neither side has closed
abbrev pub nobody_left : FollowedConn → Bool
nobody_left track = not track.host_left && not track.peer_left

-- both sides have asked, and neither has closed
abbrev pub is_whole : FollowedConn → Bool
is_whole track = is_some track.link && is_some track.size && nobody_left track

-- it accepts a text of `bits` bits in bytes of this size: neither side has closed, the size is the
-- sender's, and the allocation left covers it
abbrev pub takes_bits : FollowedConn → ℕ → ℕ → Bool
takes_bits track size bits = nobody_left track && is_number_given track.size size && covers track.left bits

abbrev pub track_at : List FollowedConn → ℕ → FollowedConn
track_at tracks place = get_or tracks place (new_track 0 0 0 0)
