-- A connection of the monitor and one of the follower: the same sockets, requests and CLSs, and it is not
-- suspended. So the tests of both agree.
use Rattle.std.proofs.Common.{◌≡◌, ℕ, ◌==◌, Bool, true, false, not, ◌&&◌, List, Option, is_some, refl, ap, ◌∙◌}
use Rattle.std.proofs.Math.Bool.{beq}
use Rattle.ncp_monitor.specs.declared.conn_state.ConnState.{ConnState}
use Rattle.ncp_interface.specs.declared.request.Request.{Request}
use Rattle.ncp_interface.specs.declared.request.Request.TheVariants.{Link, Size}
use Rattle.ncp_monitor.specs.declared.conn_state.FactKind.{FactKind}
use Rattle.ncp_monitor.specs.ConnStates.{SeenTables, is_of_sockets, has_link, has_sent_cls, with_cls_sent, has_sent_request, with_request_sent, is_conn_between, unasked_conn, is_marked, index_with_sockets, index_with_link}
use Rattle.ncp_interface.specs.Sockets.{is_senders, is_number_given}
use Rattle.ncp_follow.specs.declared.followed_conn.FollowedConn.{FollowedConn}
use Rattle.ncp_follow.specs.Tracks.{new_track, is_pair, is_used, has_left, with_left, has_chosen, with_choice}
use Rattle.ncp_follow.specs.Tables.{is_track_of, pair_index, index_at_link}
use Rattle.ncp_proof_follow_tables.proofs.Besides.{Besides, besides_position}

pub record SameConn (l : ConnState) (m : FollowedConn) : Type 0 where
  pub at : m.at ≡ l.at
  pub peer : m.peer ≡ l.peer
  pub local : m.local ≡ l.local
  pub remote : m.remote ≡ l.remote
  pub link : m.link ≡ l.link
  pub size : m.size ≡ l.size
  pub host_left : m.host_left ≡ l.host_left
  pub peer_left : m.peer_left ≡ l.peer_left
  pub awake : l.suspended ≡ false

-- of all connections, in order
abbrev pub SameConns : List ConnState → List FollowedConn → Type 0
SameConns = Besides SameConn

-- ---- what is asked of it

pub pair_is : (at peer local remote : ℕ) (l : ConnState) (m : FollowedConn) → SameConn l m → is_pair at peer local remote m ≡ is_of_sockets at peer local remote l
pair_is at peer local remote l m s =
    ap (λ (x : ℕ). x == at && m.peer == peer && m.local == local && m.remote == remote) s.at
    ∙ ap (λ (x : ℕ). l.at == at && x == peer && m.local == local && m.remote == remote) s.peer
    ∙ ap (λ (x : ℕ). l.at == at && l.peer == peer && x == local && m.remote == remote) s.local
    ∙ ap (λ (x : ℕ). l.at == at && l.peer == peer && l.local == local && x == remote) s.remote

pub between_is : (at peer : ℕ) (l : ConnState) (m : FollowedConn) → SameConn l m → is_track_of at peer m ≡ is_conn_between at peer l
between_is at peer l m s = ap (λ (x : ℕ). x == at && m.peer == peer) s.at ∙ ap (λ (x : ℕ). l.at == at && x == peer) s.peer

turned_is : (sends host : Bool) → beq sends (not host) ≡ not (beq sends host)
turned_is true true = refl
turned_is true false = refl
turned_is false true = refl
turned_is false false = refl

pub used_is : (at peer : ℕ) (host : Bool) (link : ℕ) (l : ConnState) (m : FollowedConn) → SameConn l m → is_used at peer (not host) link m ≡ has_link at peer host link l
used_is at peer host link l m s =
    ap (λ (x : ℕ). x == at && m.peer == peer && beq (is_senders m.local) (not host) && is_number_given m.link link) s.at
    ∙ ap (λ (x : ℕ). l.at == at && x == peer && beq (is_senders m.local) (not host) && is_number_given m.link link) s.peer
    ∙ ap (λ (x : ℕ). l.at == at && l.peer == peer && beq (is_senders x) (not host) && is_number_given m.link link) s.local
    ∙ ap (λ (x : Option ℕ). l.at == at && l.peer == peer && beq (is_senders l.local) (not host) && is_number_given x link) s.link
    ∙ ap (λ (x : Bool). l.at == at && l.peer == peer && x && is_number_given l.link link) (turned_is (is_senders l.local) host)

pub left_is : (l : ConnState) (m : FollowedConn) (sent : Bool) → SameConn l m → has_left m sent ≡ has_sent_cls l sent
left_is l m true s = s.host_left
left_is l m false s = s.peer_left

pub requested_is : (l : ConnState) (m : FollowedConn) (request : Request) → SameConn l m → has_chosen m request ≡ has_sent_request l request
requested_is l m (Link link) s = ap (λ (x : Option ℕ). is_some x) s.link
requested_is l m (Size size) s = ap (λ (x : Option ℕ). is_some x) s.size

-- ---- what is done to it

pub new_same : (at peer local remote number : ℕ) → SameConn (record (unasked_conn at peer local remote) { since = number }) (new_track at peer local remote)
new_same at peer local remote number = record { at = refl; peer = refl; local = refl; remote = refl; link = refl; size = refl; host_left = refl; peer_left = refl; awake = refl }

pub request_same : (l : ConnState) (m : FollowedConn) (request : Request) → SameConn l m → SameConn (with_request_sent l request) (with_choice m request)
request_same l m (Link link) s = record { at = s.at; peer = s.peer; local = s.local; remote = s.remote; link = refl; size = s.size; host_left = s.host_left; peer_left = s.peer_left; awake = s.awake }
request_same l m (Size size) s = record { at = s.at; peer = s.peer; local = s.local; remote = s.remote; link = s.link; size = refl; host_left = s.host_left; peer_left = s.peer_left; awake = s.awake }

pub cls_same : (l : ConnState) (m : FollowedConn) (sent : Bool) → SameConn l m → SameConn (with_cls_sent l sent) (with_left m sent)
cls_same l m true s = record { at = s.at; peer = s.peer; local = s.local; remote = s.remote; link = s.link; size = s.size; host_left = refl; peer_left = s.peer_left; awake = s.awake }
cls_same l m false s = record { at = s.at; peer = s.peer; local = s.local; remote = s.remote; link = s.link; size = s.size; host_left = s.host_left; peer_left = refl; awake = s.awake }

-- ---- its index

pub place_same : (at peer local remote : ℕ) (ls : List ConnState) (ms : List FollowedConn) → SameConns ls ms → pair_index at peer local remote ms ≡ index_with_sockets at peer local remote ls
place_same at peer local remote = besides_position SameConn (is_of_sockets at peer local remote) (is_pair at peer local remote) (pair_is at peer local remote)

pub link_same : (at peer : ℕ) (host : Bool) (link : ℕ) (ls : List ConnState) (ms : List FollowedConn) → SameConns ls ms → index_at_link at peer (not host) link ms ≡ index_with_link at peer host link ls
link_same at peer host link = besides_position SameConn (has_link at peer host link) (is_used at peer (not host) link) (used_is at peer host link)

-- ---- no link is suspended

abbrev pub Calm : ℕ → ℕ → SeenTables → Type 0
Calm at peer b = (host : Bool) (link : ℕ) → is_marked at peer (FactKind.LinkSuspended host link) b ≡ false

-- ---- an example: they are not the same where one has sent a CLS
example_left : (SameConn (record (unasked_conn 1 2 4 3) { host_left = true }) (new_track 1 2 4 3)) → ⊥
example_left s = cc s.host_left
