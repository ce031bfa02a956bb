-- Connections, and requests for them, as observed at a host's interface (NIC 8246, RTS, STR and CLS). The
-- receiver's socket is even, the sender's is odd. The receiver chooses the link, the sender the byte
-- size. A connection ends when both have sent a CLS.
use Rattle.std.specs.Prelude.{ℕ, ◌==◌, ◌%◌, not, ◌&&◌, nat_lt, Bool, true, false, List, [], ◌∷◌, ◌++◌, length, get_or, slice_set, Option, Some, None, is_some, if◌then◌else◌}
use Rattle.std.specs.List.{position, list_any, filter}
use Rattle.std.specs.Cmp.Lexicographic.{pointwise}
use Rattle.std.proofs.Math.Bool.{beq}
use Rattle.ncp_monitor.specs.declared.conn_state.ConnState.{ConnState}
use Rattle.ncp_interface.specs.declared.request.Request.{Request}
use Rattle.ncp_interface.specs.declared.request.Request.TheVariants.{Link, Size}
use Rattle.ncp_monitor.specs.declared.conn_state.FactKind.{FactKind}
use Rattle.ncp_monitor.specs.declared.conn_state.FactKind.TheVariants as fact_kind
use Rattle.ncp_monitor.specs.declared.conn_state.Fact.{Fact}
use Rattle.ncp_monitor.specs.declared.pending_reply.PendingReply.{PendingReply}
use Rattle.ncp_monitor.specs.declared.pending_reply.ExpectedReply.{ExpectedReply}
use Rattle.ncp_monitor.specs.declared.pending_reply.ExpectedReply.TheVariants as wanted
use Rattle.ncp_monitor.specs.declared.conn_tables.TheConstants.{MAX_TABLE_ROWS}
use Rattle.ncp_interface.specs.Sockets.{is_senders, is_number_given}

-- ---- one connection

-- neither side has asked
abbrev pub unasked_conn : ℕ → ℕ → ℕ → ℕ → ConnState
unasked_conn at peer local remote = record {
  at = at;
  peer = peer;
  local = local;
  remote = remote;
  link = None;
  size = None;
  host_left = false;
  peer_left = false;
  came = false;
  suspended = false;
  messages = 0;
  bits = 0;
  recall = false;
  since = 0;
}

abbrev pub is_of_sockets : ℕ → ℕ → ℕ → ℕ → ConnState → Bool
is_of_sockets at peer local remote conn = conn.at == at && conn.peer == peer && conn.local == local && conn.remote == remote

-- it has this link, and the host (or the peer) is its receiver
abbrev pub has_link : ℕ → ℕ → Bool → ℕ → ConnState → Bool
has_link at peer host link conn = conn.at == at && conn.peer == peer && not (beq (is_senders conn.local) host) && is_number_given conn.link link

abbrev pub has_sent_cls : ConnState → Bool → Bool
has_sent_cls conn sent = if sent then conn.host_left else conn.peer_left

abbrev pub with_cls_sent : ConnState → Bool → ConnState
with_cls_sent conn sent = if sent then record conn { host_left = true } else record conn { peer_left = true }

abbrev pub has_sent_request : ConnState → Request → Bool
has_sent_request conn (Link link) = is_some conn.link
has_sent_request conn (Size size) = is_some conn.size

abbrev pub with_request_sent : ConnState → Request → ConnState
with_request_sent conn (Link link) = record conn { link = Some link }
with_request_sent conn (Size size) = record conn { size = Some size }

abbrev pub same_bytes : List ℕ → List ℕ → Bool
same_bytes = pointwise (λ a b. a == b)

abbrev pub same_topic : FactKind → FactKind → Bool
same_topic (fact_kind.LinkSuspended host link) (fact_kind.LinkSuspended other on) = beq host other && link == on
same_topic (fact_kind.EchoesRest host) (fact_kind.EchoesRest other) = beq host other
same_topic (fact_kind.Asks host) (fact_kind.Asks other) = beq host other
same_topic (fact_kind.Admits host bytes) (fact_kind.Admits other shown) = beq host other && same_bytes bytes shown
same_topic one other = false

abbrev pub is_topic : ℕ → ℕ → FactKind → Fact → Bool
is_topic at peer what known_fact = known_fact.at == at && known_fact.peer == peer && same_topic known_fact.fact_kind what

-- ---- the tables of a capture

-- the connections, the facts about two hosts, and the replies owed or admitted; whether a row was dropped
-- because its table was full, after which nothing is judged by them; and the number of the current record
pub record SeenTables : Type 0 where
  pub conns : List ConnState
  pub known_facts : List Fact
  pub pending_replies : List PendingReply
  pub full : Bool
  pub number : ℕ

abbrev pub no_conn_tables : SeenTables
no_conn_tables = record { conns = []; known_facts = []; pending_replies = []; full = false; number = 0 }

abbrev pub conn_at_index : List ConnState → ℕ → ConnState
conn_at_index conns place = get_or conns place (unasked_conn 0 0 0 0)

abbrev pub conn_found : List ConnState → Option ℕ → Option ConnState
conn_found conns None = None
conn_found conns (Some place) = Some (conn_at_index conns place)

abbrev pub index_with_sockets : ℕ → ℕ → ℕ → ℕ → List ConnState → Option ℕ
index_with_sockets at peer local remote conns = position (is_of_sockets at peer local remote) conns

-- the connection of two sockets
abbrev pub conn_of : ℕ → ℕ → ℕ → ℕ → List ConnState → Option ConnState
conn_of at peer local remote conns = conn_found conns (index_with_sockets at peer local remote conns)

abbrev pub index_with_link : ℕ → ℕ → Bool → ℕ → List ConnState → Option ℕ
index_with_link at peer host link conns = position (has_link at peer host link) conns

-- the connection that has a link
abbrev pub user_of : ℕ → ℕ → Bool → ℕ → List ConnState → Option ConnState
user_of at peer host link conns = conn_found conns (index_with_link at peer host link conns)

abbrev pub is_marked : ℕ → ℕ → FactKind → SeenTables → Bool
is_marked at peer what conn_tables = list_any (is_topic at peer what) conn_tables.known_facts

-- ---- with one more row

abbrev pub with_conn : SeenTables → ConnState → SeenTables
with_conn conn_tables conn =
    if nat_lt (length conn_tables.conns) MAX_TABLE_ROWS then record conn_tables { conns = conn_tables.conns ++ conn ∷ [] } else record conn_tables { full = true }

-- at its index, or appended
abbrev pub put_conn : SeenTables → Option ℕ → ConnState → SeenTables
put_conn conn_tables None conn = with_conn conn_tables conn
put_conn conn_tables (Some place) conn = record conn_tables { conns = slice_set conn_tables.conns place conn }

abbrev pub with_fact : SeenTables → Fact → SeenTables
with_fact conn_tables one =
    if nat_lt (length conn_tables.known_facts) MAX_TABLE_ROWS then record conn_tables { known_facts = conn_tables.known_facts ++ one ∷ [] } else record conn_tables { full = true }

-- adds a fact, unless it is known
abbrev pub facts_now : ℕ → ℕ → FactKind → SeenTables → SeenTables
facts_now at peer what conn_tables =
    if is_marked at peer what conn_tables then conn_tables else with_fact conn_tables (record { at = at; peer = peer; fact_kind = what })

-- removes a fact
abbrev pub facts_no_more : ℕ → ℕ → FactKind → SeenTables → SeenTables
facts_no_more at peer what conn_tables = record conn_tables { known_facts = filter (λ one. not (is_topic at peer what one)) conn_tables.known_facts }

abbrev pub with_due : SeenTables → PendingReply → SeenTables
with_due conn_tables due =
    if nat_lt (length conn_tables.pending_replies) MAX_TABLE_ROWS then record conn_tables { pending_replies = conn_tables.pending_replies ++ due ∷ [] } else record conn_tables { full = true }

-- a pending RET for a link

abbrev pub is_return_on : ℕ → ExpectedReply → Bool
is_return_on link (wanted.Return on messages bits) = on == link
is_return_on link what = false

-- of the host (or the peer)
abbrev pub is_return : ℕ → ℕ → Bool → ℕ → PendingReply → Bool
is_return at peer host link due = due.at == at && due.peer == peer && beq due.host host && is_return_on link due.wanted

-- drops those of the host (or the peer) for a link
abbrev pub returns_dropped : ℕ → ℕ → Bool → ℕ → SeenTables → SeenTables
returns_dropped at peer host link conn_tables = record conn_tables { pending_replies = filter (λ due. not (is_return at peer host link due)) conn_tables.pending_replies }

-- suspends a link on which the host (or the peer) receives, and drops the pending RETs of its sender
abbrev pub link_suspended_now : ℕ → ℕ → Bool → ℕ → SeenTables → SeenTables
link_suspended_now at peer host link conn_tables = returns_dropped at peer (not host) link (facts_now at peer (fact_kind.LinkSuspended host link) conn_tables)

-- suspends the link of a connection
abbrev pub suspended_link : ℕ → ℕ → ConnState → SeenTables → SeenTables
suspended_link at peer conn conn_tables = go conn.link
  where
    go : Option ℕ → SeenTables
    go None = conn_tables
    go (Some link) = link_suspended_now at peer (not (is_senders conn.local)) link conn_tables

-- suspends the connection of two sockets, also if it was not observed
abbrev pub suspended_pair : ℕ → ℕ → ℕ → ℕ → SeenTables → SeenTables
suspended_pair at peer local remote conn_tables =
    let place = index_with_sockets at peer local remote conn_tables.conns in rested place
  where
    rested : Option ℕ → SeenTables
    rested None = with_conn conn_tables (record (unasked_conn at peer local remote) { suspended = true })
    rested (Some p) = let conn = conn_at_index conn_tables.conns p in suspended_link at peer conn (put_conn conn_tables (Some p) (record conn { suspended = true }))

-- ---- cleared

abbrev pub is_conn_between : ℕ → ℕ → ConnState → Bool
is_conn_between at peer conn = conn.at == at && conn.peer == peer

abbrev pub is_fact_between : ℕ → ℕ → Fact → Bool
is_fact_between at peer known_fact = known_fact.at == at && known_fact.peer == peer

abbrev pub is_due_between : ℕ → ℕ → PendingReply → Bool
is_due_between at peer due = due.at == at && due.peer == peer

-- forgets everything observed between two hosts
abbrev pub tables_cleared : ℕ → ℕ → SeenTables → SeenTables
tables_cleared at peer conn_tables = record conn_tables {
  conns = filter (λ conn. not (is_conn_between at peer conn)) conn_tables.conns;
  known_facts = filter (λ one. not (is_fact_between at peer one)) conn_tables.known_facts;
  pending_replies = filter (λ due. not (is_due_between at peer due)) conn_tables.pending_replies;
}
