-- What is said between others leaves all that is known between two hosts.
use Rattle.std.proofs.Common.{◌≡◌, ℕ, ◌==◌, Bool, true, false, not, ◌&&◌, if◌then◌else◌, List, [], ◌∷◌, ◌++◌, length, Option, None, Some, is_some, refl, ap, ◌∙◌}
use Rattle.std.specs.Prelude.{◌-◌, nat_lt, slice_set, Result, Ok, Err}
use Rattle.std.specs.List.{filter, position, remove}
use Rattle.std.proofs.Math.Bool.{beq}
use Rattle.std.proofs.lemmas.Bool.{eqb-true, and_parts}
use Rattle.std.proofs.lemmas.List.Quantifiers.{position-Some}
use Rattle.ncp_wire.specs.declared.command.Command.{Command}
use Rattle.ncp_wire.specs.declared.command.Command.TheVariants.{Nop, Rts, Str, Cls, Gvb, Ret, Inr, Ins, Eco, Erp, Rst, Rrp}
use Rattle.ncp_wire.specs.declared.fault.CommandFault.{CommandFault}
use Rattle.ncp_leader.specs.declared.fault.MessageFault.{MessageFault}
use Rattle.ncp_leader.specs.Message.{Message, message_in}
use Rattle.ncp_monitor.specs.declared.conn_tables.TheConstants.{MAX_TABLE_ROWS}
use Rattle.ncp_monitor.specs.declared.pending_reply.PendingReply.{PendingReply}
use Rattle.ncp_monitor.specs.declared.pending_reply.ExpectedReply.{ExpectedReply}
use Rattle.ncp_interface.specs.declared.sent_message.SentMessage.{SentMessage}
use Rattle.ncp_monitor.specs.declared.link_target.ReceiveLink.{ReceiveLink}
use Rattle.ncp_monitor.specs.declared.link_target.LinkTarget.{LinkTarget}
use Rattle.ncp_monitor.specs.declared.conn_state.ConnState.{ConnState}
use Rattle.ncp_monitor.specs.declared.conn_state.Fact.{Fact}
use Rattle.ncp_interface.specs.declared.request.Request.{Request}
use Rattle.ncp_interface.specs.declared.request.Request.TheVariants.{Link, Size}
use Rattle.ncp_monitor.specs.declared.conn_state.FactKind.{FactKind}
use Rattle.ncp_monitor.specs.declared.observed_flow.ObservedFlow.{ObservedFlow}
use Rattle.ncp_monitor.specs.declared.observed_flow.Acceptance.{Acceptance}
use Rattle.ncp_monitor.specs.declared.observed_flow.Acceptance.TheVariants.{Right, Refused, Unclear}
use Rattle.ncp_monitor.specs.ConnStates.{SeenTables, unasked_conn, is_of_sockets, has_link, has_sent_cls, with_cls_sent, with_request_sent, same_topic, is_topic, conn_at_index, index_with_sockets, conn_of, is_marked, is_return, is_return_on, with_conn, put_conn, facts_now, facts_no_more, returns_dropped, link_suspended_now, with_due, suspended_pair, is_conn_between, is_fact_between, is_due_between, tables_cleared}
use Rattle.ncp_interface.specs.Sockets.{is_senders, is_number_given, is_of_sexes}
use Rattle.ncp_monitor.specs.Replies.{is_due_of, is_own, owes, error_wanted, fault_wanted, is_wanted, pending_left, after_reply}
use Rattle.ncp_interface.specs.Slots.{position_of, kept_at, is_slot_empty}
use Rattle.ncp_monitor.specs.Allocation.{kept_sum, target_on, from_receiver, from_sender, speaks_receiver, limit_rule, returned_rules, over_rule, is_any, owes_error, owes_error_if, other_code, with_grant, after_allocation, asked_back, recalled, owes_return, after_gvb, with_return, suspended_if, suspended_conn, after_wanted_ret, after_ret, after_open, demuxed_after, after_link, speaks_sender, ends_returns}
use Rattle.ncp_monitor.specs.Texts.{text_shown, speaker_of, admits_error, is_error_admitted, text_target, open_text_rules, used, after_text_came, conn_came_at, text_suspended, admits_error_if, demuxed_after_text, conn_tables_after_text, admits_out, message_out_at, text_left_out}
use Rattle.ncp_monitor.specs.Requests.{is_link_busy, suspended_asked, asks, tables_after_request, closes_side, after_cls}
use Rattle.ncp_monitor.specs.Speaking.{here_of, there_of, asking_acceptance, closing_acceptance, answers_echo, tables_after_command, after_right_cls, after_spoken, is_admission_of, is_admission, after_all_said}
use Rattle.ncp_monitor.proofs.Firsts.{Apart, set_found, drop_found}
use Rattle.ncp_proof_monitor_allocation.proofs.TidyBooks.{led_place, text_led_place, reply_conns, error_if_conns, Renumbered, granted_numbered, recalled_numbered, returned_numbered}
use Rattle.ncp_proof_monitor_allocation.proofs.Filtered.{filter_after, filter_set, filter_drop, filter_others, filter_left}

-- all between the two is as it was
pub record Alike (me n : ℕ) (b now : SeenTables) : Type 0 where
  pub conns : filter (is_conn_between me n) now.conns ≡ filter (is_conn_between me n) b.conns
  pub known_facts : filter (is_fact_between me n) now.known_facts ≡ filter (is_fact_between me n) b.known_facts
  pub pending_replies : filter (is_due_between me n) now.pending_replies ≡ filter (is_due_between me n) b.pending_replies

pub alike_same : (me n : ℕ) (b : SeenTables) → Alike me n b b
alike_same me n b = record { conns = refl; known_facts = refl; pending_replies = refl }

pub alike_both : (me n : ℕ) (a b c : SeenTables) → Alike me n a b → Alike me n b c → Alike me n a c
alike_both me n a b c k l = record { conns = l.conns ∙ k.conns; known_facts = l.known_facts ∙ k.known_facts; pending_replies = l.pending_replies ∙ k.pending_replies }

module _ (me n at peer : ℕ) (other : (at == me && peer == n) ≡ false) where
  -- what is between the others is not between these
  distinct_by : (a p : ℕ) → a ≡ at → p ≡ peer → (a == me && p == n) ≡ false
  distinct_by a p e f = ap (λ (i : ℕ). i == me && p == n) e ∙ ap (λ (i : ℕ). at == me && i == n) f ∙ other

  distinct_with : (a p : ℕ) → (a == at && p == peer) ≡ true → (a == me && p == n) ≡ false
  distinct_with a p e = let k = and_parts (a == at) (p == peer) e in distinct_by a p (eqb-true a at k.0) (eqb-true p peer k.1)

  distinct_conns : (local remote : ℕ) → Apart (is_of_sockets at peer local remote) (is_conn_between me n)
  distinct_conns local remote conn e =
      let a = and_parts (conn.at == at && conn.peer == peer && conn.local == local) (conn.remote == remote) e in
      let b = and_parts (conn.at == at && conn.peer == peer) (conn.local == local) a.0 in
      distinct_with conn.at conn.peer b.0

  distinct_users : (host : Bool) (link : ℕ) → Apart (has_link at peer host link) (is_conn_between me n)
  distinct_users host link conn e =
      let a = and_parts (conn.at == at && conn.peer == peer && not (beq (is_senders conn.local) host)) (is_number_given conn.link link) e in
      let b = and_parts (conn.at == at && conn.peer == peer) (not (beq (is_senders conn.local) host)) a.0 in
      distinct_with conn.at conn.peer b.0

  distinct_topics : (what : FactKind) → Apart (is_topic at peer what) (is_fact_between me n)
  distinct_topics what known_fact e = distinct_with known_fact.at known_fact.peer (and_parts (known_fact.at == at && known_fact.peer == peer) (same_topic known_fact.fact_kind what) e).0

  distinct_returns : (host : Bool) (link : ℕ) → Apart (is_return at peer host link) (is_due_between me n)
  distinct_returns host link due e =
      let a = and_parts (due.at == at && due.peer == peer && beq due.host host) (is_return_on link due.wanted) e in
      distinct_with due.at due.peer (and_parts (due.at == at && due.peer == peer) (beq due.host host) a.0).0

  distinct_pending : (host : Bool) → Apart (is_due_of at peer host) (is_due_between me n)
  distinct_pending host due e = distinct_with due.at due.peer (and_parts (due.at == at && due.peer == peer) (beq due.host host) e).0

  -- ---- one more, or another in its place

  conn_more : (b : SeenTables) (conn : ConnState) → is_conn_between me n conn ≡ false → Alike me n b (with_conn b conn)
  conn_more b conn k = go (nat_lt (length b.conns) MAX_TABLE_ROWS)
    where
      go : (x : Bool) → Alike me n b (if x then record b { conns = b.conns ++ conn ∷ [] } else record b { full = true })
      go true = record { conns = filter_after (is_conn_between me n) b.conns conn k; known_facts = refl; pending_replies = refl }
      go false = record { conns = refl; known_facts = refl; pending_replies = refl }

  conn_put : (t : ConnState → Bool) (b : SeenTables) (i : ℕ) (conn : ConnState) → Apart t (is_conn_between me n) → position t b.conns ≡ Some i → is_conn_between me n conn ≡ false → Alike me n b (record b { conns = slice_set b.conns i conn })
  conn_put t b i conn a e k = record {
    conns = ap (filter (is_conn_between me n)) (set_found t conn b.conns i (unasked_conn 0 0 0 0) e) ∙ filter_set (is_conn_between me n) t b.conns conn a k;
    known_facts = refl;
    pending_replies = refl;
  }

  conn_gone : (t : ConnState → Bool) (b : SeenTables) (i : ℕ) → Apart t (is_conn_between me n) → position t b.conns ≡ Some i → Alike me n b (record b { conns = remove b.conns i })
  conn_gone t b i a e = record {
    conns = ap (filter (is_conn_between me n)) (drop_found t b.conns i (unasked_conn 0 0 0 0) e) ∙ filter_drop (is_conn_between me n) t b.conns a;
    known_facts = refl;
    pending_replies = refl;
  }

  -- that in the place is of the others
  there : (t : ConnState → Bool) (b : SeenTables) (i : ℕ) → Apart t (is_conn_between me n) → position t b.conns ≡ Some i → is_conn_between me n (conn_at_index b.conns i) ≡ false
  there t b i a e = a (conn_at_index b.conns i) (position-Some t b.conns i (unasked_conn 0 0 0 0) e).1

  mark_more : (what : FactKind) (b : SeenTables) → Alike me n b (facts_now at peer what b)
  mark_more what b = go (is_marked at peer what b) (nat_lt (length b.known_facts) MAX_TABLE_ROWS)
    where
      one : Fact
      one = record { at = at; peer = peer; fact_kind = what }

      go : (x r : Bool) → Alike me n b (if x then b else if r then record b { known_facts = b.known_facts ++ one ∷ [] } else record b { full = true })
      go true r = record { conns = refl; known_facts = refl; pending_replies = refl }
      go false true = record { conns = refl; known_facts = filter_after (is_fact_between me n) b.known_facts one other; pending_replies = refl }
      go false false = record { conns = refl; known_facts = refl; pending_replies = refl }

  mark_less : (what : FactKind) (b : SeenTables) → Alike me n b (facts_no_more at peer what b)
  mark_less what b = record { conns = refl; known_facts = filter_others (is_fact_between me n) (is_topic at peer what) b.known_facts (distinct_topics what); pending_replies = refl }

  -- a link is suspended
  link_more : (host : Bool) (link : ℕ) (b : SeenTables) → Alike me n b (link_suspended_now at peer host link b)
  link_more host link b =
      let mid = facts_now at peer (FactKind.LinkSuspended host link) b in
      alike_both me n b mid (link_suspended_now at peer host link b) (mark_more (FactKind.LinkSuspended host link) b)
      (record { conns = refl; known_facts = refl; pending_replies = filter_others (is_due_between me n) (is_return at peer (not host) link) mid.pending_replies (distinct_returns (not host) link) })

  due_more : (b : SeenTables) (due : PendingReply) → is_due_between me n due ≡ false → Alike me n b (with_due b due)
  due_more b due k = go (nat_lt (length b.pending_replies) MAX_TABLE_ROWS)
    where
      go : (x : Bool) → Alike me n b (if x then record b { pending_replies = b.pending_replies ++ due ∷ [] } else record b { full = true })
      go true = record { conns = refl; known_facts = refl; pending_replies = filter_after (is_due_between me n) b.pending_replies due k }
      go false = record { conns = refl; known_facts = refl; pending_replies = refl }

  module _ (sent : Bool) where
    abbrev of_others : ObservedFlow
    of_others = record { at = at; peer = peer; sent = sent }

    owed : (wanted : ExpectedReply) (mandatory : Bool) (b : SeenTables) → Alike me n b (owes of_others wanted mandatory b)
    owed wanted mandatory b = due_more b (record { at = at; peer = peer; host = not sent; wanted = wanted; mandatory = mandatory }) other

    -- ---- suspensions

    rested : (local remote : ℕ) (b : SeenTables) → Alike me n b (suspended_pair at peer local remote b)
    rested local remote b = go (position its b.conns) refl
      where
        its : ConnState → Bool
        its = is_of_sockets at peer local remote

        put_there : ℕ → SeenTables
        put_there i = record b { conns = slice_set b.conns i (record (conn_at_index b.conns i) { suspended = true }) }

        link_rested : ℕ → Option ℕ → SeenTables
        link_rested i None = put_there i
        link_rested i (Some link) = link_suspended_now at peer (not (is_senders (conn_at_index b.conns i).local)) link (put_there i)

        now : Option ℕ → SeenTables
        now None = with_conn b (record (unasked_conn at peer local remote) { suspended = true })
        now (Some i) = link_rested i (conn_at_index b.conns i).link

        put_alike : (i : ℕ) → position its b.conns ≡ Some i → Alike me n b (put_there i)
        put_alike i e = conn_put its b i (record (conn_at_index b.conns i) { suspended = true }) (distinct_conns local remote) e (there its b i (distinct_conns local remote) e)

        by_link : (i : ℕ) (o : Option ℕ) → position its b.conns ≡ Some i → Alike me n b (link_rested i o)
        by_link i None e = put_alike i e
        by_link i (Some link) e =
            let host = not (is_senders (conn_at_index b.conns i).local) in
            alike_both me n b (put_there i) (link_suspended_now at peer host link (put_there i)) (put_alike i e) (link_more host link (put_there i))

        go : (o : Option ℕ) → position its b.conns ≡ o → Alike me n b (now o)
        go None e = conn_more b (record (unasked_conn at peer local remote) { suspended = true }) other
        go (Some i) e = by_link i (conn_at_index b.conns i).link e

    asked_rested : (request : Request) (b : SeenTables) → Alike me n b (suspended_asked of_others request b)
    asked_rested (Link link) b = link_more sent link b
    asked_rested (Size size) b = alike_same me n b

    -- ---- a request

    begun_distinct : (local remote number : ℕ) (request : Request) → is_conn_between me n (with_request_sent (record (unasked_conn at peer local remote) { since = number }) request) ≡ false
    begun_distinct local remote number (Link link) = other
    begun_distinct local remote number (Size size) = other

    asked_distinct : (conn : ConnState) (request : Request) → is_conn_between me n conn ≡ false → is_conn_between me n (with_request_sent conn request) ≡ false
    asked_distinct conn (Link link) k = k
    asked_distinct conn (Size size) k = k

    asked : (local remote : ℕ) (request : Request) (b : SeenTables) (o : Option ℕ) → position (is_of_sockets at peer local remote) b.conns ≡ o → Alike me n b (asks of_others local remote request b o)
    asked local remote request b None e = conn_more b (with_request_sent (record (unasked_conn at peer local remote) { since = b.number }) request) (begun_distinct local remote b.number request)
    asked local remote request b (Some i) e =
        let its = is_of_sockets at peer local remote in
        conn_put its b i (with_request_sent (conn_at_index b.conns i) request) (distinct_conns local remote) e (asked_distinct (conn_at_index b.conns i) request (there its b i (distinct_conns local remote) e))

    requested : (c : Command) (local remote : ℕ) (request : Request) (v : Acceptance) (b : SeenTables) → Alike me n b (tables_after_request of_others c local remote request v b)
    requested c local remote request Right b = asked local remote request b (index_with_sockets at peer local remote b.conns) refl
    requested c local remote request (Refused wrong) b = owed (error_wanted 3 3 c) true b
    requested c local remote request (Unclear wrong) b =
        let pair = suspended_pair at peer local remote b in
        let mid = suspended_asked of_others request pair in
        alike_both me n b mid (owes of_others (error_wanted 3 3 c) false mid) (alike_both me n b pair mid (rested local remote b) (asked_rested request pair)) (owed (error_wanted 3 3 c) false mid)

    -- ---- a CLS

    closed_distinct : (conn : ConnState) (by : Bool) → is_conn_between me n conn ≡ false → is_conn_between me n (with_cls_sent conn by) ≡ false
    closed_distinct conn true k = k
    closed_distinct conn false k = k

    closed : (local remote : ℕ) (b : SeenTables) (o : Option ℕ) → position (is_of_sockets at peer local remote) b.conns ≡ o → Alike me n b (closes_side of_others b o)
    closed local remote b None e = alike_same me n b
    closed local remote b (Some i) e = go ((with_cls_sent (conn_at_index b.conns i) sent).host_left && (with_cls_sent (conn_at_index b.conns i) sent).peer_left)
      where
        its : ConnState → Bool
        its = is_of_sockets at peer local remote

        go : (x : Bool) → Alike me n b (if x then record b { conns = remove b.conns i } else record b { conns = slice_set b.conns i (with_cls_sent (conn_at_index b.conns i) sent) })
        go true = conn_gone its b i (distinct_conns local remote) e
        go false = conn_put its b i (with_cls_sent (conn_at_index b.conns i) sent) (distinct_conns local remote) e (closed_distinct (conn_at_index b.conns i) sent (there its b i (distinct_conns local remote) e))

    cls_said : (c : Command) (local remote : ℕ) (v : Acceptance) (b : SeenTables) → Alike me n b (after_cls of_others c local remote v b)
    cls_said c local remote Right b = closed local remote b (index_with_sockets at peer local remote b.conns) refl
    cls_said c local remote (Refused wrong) b = owed (error_wanted 3 3 c) true b
    cls_said c local remote (Unclear wrong) b =
        let mid = suspended_pair at peer local remote b in
        alike_both me n b mid (owes of_others (error_wanted 4 3 c) false mid) (rested local remote b) (owed (error_wanted 4 3 c) false mid)

    -- ---- replies

    replied : (c : Command) (b : SeenTables) → Alike me n b (after_reply of_others c b)
    replied c b = go (is_wanted (is_due_of at peer sent) c b.pending_replies)
      where
        go : (x : Bool) → Alike me n b (if x then record b { pending_replies = pending_left (is_due_of at peer sent) c b.pending_replies } else b)
        go true = record { conns = refl; known_facts = refl; pending_replies = filter_left (is_due_between me n) (is_due_of at peer sent) c b.pending_replies (distinct_pending sent) (λ due. refl) }
        go false = alike_same me n b

    echoed : (b : SeenTables) → Alike me n b (answers_echo of_others b)
    echoed b = go (is_marked at peer (FactKind.Asks (not sent)) b)
      where
        go : (x : Bool) → Alike me n b (if x then facts_no_more at peer (FactKind.Asks (not sent)) b else facts_now at peer (FactKind.EchoesRest (not sent)) b)
        go true = mark_less (FactKind.Asks (not sent)) b
        go false = mark_more (FactKind.EchoesRest (not sent)) b

    -- ---- besides a CLS

    out_alike : (kept : List SentMessage) (o : Option ℕ) (b : SeenTables) → Alike me n b (message_out_at of_others kept o b)
    out_alike kept None b = alike_same me n b
    out_alike kept (Some place) b = go (is_slot_empty (kept_at kept place).slot) (message_in (kept_at kept place).message)
      where
        go : (x : Bool) (r : Result Message MessageFault) → Alike me n b (if x then b else admits_out of_others r b)
        go true r = alike_same me n b
        go false (Ok message) = mark_more (FactKind.Admits (not sent) (text_shown (speaker_of of_others) message)) b
        go false (Err fault) = alike_same me n b

    text_out : (kept : List SentMessage) (o : Option ConnState) (b : SeenTables) → Alike me n b (text_left_out of_others kept o b)
    text_out kept None b = alike_same me n b
    text_out kept (Some conn) b = go (sent && is_senders conn.local) conn.link
      where
        on : Option ℕ → SeenTables
        on None = b
        on (Some link) = message_out_at of_others kept (position_of at peer link kept) b

        go : (x : Bool) (o : Option ℕ) → Alike me n b (if x then on o else b)
        go false o = alike_same me n b
        go true None = alike_same me n b
        go true (Some link) = out_alike kept (position_of at peer link kept) b

    returns_ended : (o : Option ConnState) (b : SeenTables) → Alike me n b (ends_returns of_others o b)
    returns_ended None b = alike_same me n b
    returns_ended (Some conn) b = go (speaks_sender of_others conn) conn.link
      where
        drop_on : Option ℕ → SeenTables
        drop_on None = b
        drop_on (Some link) = returns_dropped at peer sent link b

        go : (x : Bool) (o : Option ℕ) → Alike me n b (if x then drop_on o else b)
        go false o = alike_same me n b
        go true None = alike_same me n b
        go true (Some link) = record { conns = refl; known_facts = refl; pending_replies = filter_others (is_due_between me n) (is_return at peer sent link) b.pending_replies (distinct_returns sent link) }

    right_closed : (kept : List SentMessage) (o : Option ConnState) (v : Acceptance) (b : SeenTables) → Alike me n b (after_right_cls of_others kept o v b)
    right_closed kept o Right b =
        let mid = text_left_out of_others kept o b in alike_both me n b mid (ends_returns of_others o mid) (text_out kept o b) (returns_ended o mid)
    right_closed kept o (Refused wrong) b = alike_same me n b
    right_closed kept o (Unclear wrong) b = alike_same me n b

    -- ---- what names a link

    error_if : (wrong : Bool) (c : Command) (b : SeenTables) → Alike me n b (owes_error_if wrong of_others c b)
    error_if true c b = owed (error_wanted 5 (other_code c) c) false b
    error_if false c b = alike_same me n b

    suspended_by : (over : Bool) (receive_link : ReceiveLink) (b : SeenTables) → Alike me n b (suspended_if over of_others receive_link b)
    suspended_by true receive_link b = link_more receive_link.host receive_link.link b
    suspended_by false receive_link b = alike_same me n b

    -- other numbers in its place
    put_more : (host : Bool) (link : ℕ) (b mid : SeenTables) (place : ℕ) (conn : ConnState) → mid.conns ≡ b.conns → Alike me n b mid → position (has_link at peer host link) b.conns ≡ Some place → Renumbered (conn_at_index b.conns place) conn
        → Alike me n b (put_conn mid (Some place) conn)
    put_more host link b mid place conn l alike e r =
        alike_both me n b mid (put_conn mid (Some place) conn) alike
        (conn_put (has_link at peer host link) mid place conn (distinct_users host link) (ap (position (has_link at peer host link)) l ∙ e)
        (ap (is_conn_between me n) r.is ∙ there (has_link at peer host link) b place (distinct_users host link) e))

    module _ (kept : List SentMessage) (receive_link : ReceiveLink) (b : SeenTables) (place : ℕ) (found : position (has_link at peer receive_link.host receive_link.link) b.conns ≡ Some place) where
      abbrev conn : ConnState
      conn = conn_at_index b.conns place

      grant_said : (c : Command) (messages bits : ℕ) → Alike me n b (after_allocation of_others c messages bits place b)
      grant_said c messages bits =
          let put = put_conn b (Some place) (with_grant of_others messages bits conn) in
          alike_both me n b put (owes_error_if (is_some (limit_rule c (kept_sum conn.messages messages) (kept_sum conn.bits bits))) of_others c put)
          (put_more receive_link.host receive_link.link b b place (with_grant of_others messages bits conn) refl (alike_same me n b) found (granted_numbered of_others messages bits conn))
          (error_if (is_some (limit_rule c (kept_sum conn.messages messages) (kept_sum conn.bits bits))) c put)

      recall_said : (c : Command) (link fm fb : ℕ) → Alike me n b (after_gvb of_others kept c link fm fb place b)
      recall_said c link fm fb = alike_both me n b mid (owes_return of_others kept link fm fb conn mid) mid_alike (go (has_sent_cls conn (not sent)))
        where
          mid : SeenTables
          mid = put_conn (owes_error_if conn.recall of_others c b) (Some place) (recalled of_others fm fb conn)

          mid_alike : Alike me n b mid
          mid_alike =
              put_more receive_link.host receive_link.link b (owes_error_if conn.recall of_others c b) place (recalled of_others fm fb conn) (error_if_conns conn.recall of_others c b) (error_if conn.recall c b) found (recalled_numbered of_others fm fb conn)

          go : (x : Bool) → Alike me n mid (if x then mid else owes of_others (asked_back link fm fb conn) (not sent && not (is_link_busy at peer (Some link) kept)) mid)
          go true = alike_same me n mid
          go false = owed (asked_back link fm fb conn) (not sent && not (is_link_busy at peer (Some link) kept)) mid

      return_said : (c : Command) (messages bits : ℕ) → Alike me n b (after_ret of_others c receive_link messages bits place b)
      return_said c messages bits = go (is_wanted (is_own of_others) c b.pending_replies)
        where
          put : SeenTables
          put = put_conn (after_reply of_others c b) (Some place) (with_return of_others messages bits conn)

          over : Bool
          over = is_some (over_rule of_others c messages bits conn)

          go : (x : Bool) → Alike me n b (if x then after_wanted_ret of_others c receive_link messages bits place b else owes_error of_others c false (suspended_conn of_others place b))
          go true =
              alike_both me n b (suspended_if over of_others receive_link put) (after_wanted_ret of_others c receive_link messages bits place b)
              (alike_both me n b put (suspended_if over of_others receive_link put)
              (put_more receive_link.host receive_link.link b (after_reply of_others c b) place (with_return of_others messages bits conn) (reply_conns of_others c b) (replied c b) found (returned_numbered of_others messages bits conn))
              (suspended_by over receive_link put))
              (error_if (is_any (returned_rules of_others c messages bits conn b.pending_replies)) c (suspended_if over of_others receive_link put))
          go false =
              let mid = suspended_conn of_others place b in
              alike_both me n b mid (owes_error of_others c false mid) (rested conn.local conn.remote b) (owed (error_wanted 5 (other_code c) c) false mid)

      open_said : (c : Command) → Alike me n b (after_open of_others kept c receive_link place b)
      open_said (Command.All link messages bits) = grant_said (Command.All link messages bits) messages bits
      open_said (Gvb link fm fb) = recall_said (Gvb link fm fb) link fm fb
      open_said (Ret link messages bits) = return_said (Ret link messages bits) messages bits
      open_said Nop = alike_same me n b
      open_said (Rts receive send link) = alike_same me n b
      open_said (Str send receive size) = alike_same me n b
      open_said (Cls my your) = alike_same me n b
      open_said (Inr link) = alike_same me n b
      open_said (Ins link) = alike_same me n b
      open_said (Eco byte) = alike_same me n b
      open_said (Erp byte) = alike_same me n b
      open_said (Command.Err code shown) = alike_same me n b
      open_said Rst = alike_same me n b
      open_said Rrp = alike_same me n b

    link_said : (kept : List SentMessage) (c : Command) (receive_link : ReceiveLink) (b : SeenTables) → Alike me n b (after_link of_others kept c receive_link b)
    link_said kept c receive_link b = go (target_on of_others receive_link b) refl
      where
        code : ℕ
        code = other_code c

        then_owed : (mid : SeenTables) → Alike me n b mid → Alike me n b (owes_error of_others c false mid)
        then_owed mid k = alike_both me n b mid (owes_error of_others c false mid) k (owed (error_wanted 5 (other_code c) c) false mid)

        nobody : (x : Bool) → Alike me n b (if x then owes of_others (error_wanted 5 5 c) true b else owes_error of_others c false (link_suspended_now at peer receive_link.host receive_link.link b))
        nobody true = owed (error_wanted 5 5 c) true b
        nobody false = then_owed (link_suspended_now at peer receive_link.host receive_link.link b) (link_more receive_link.host receive_link.link b)

        unasked : (place : ℕ) (x : Bool) → Alike me n b (owes_error of_others c false (if x then suspended_conn of_others place b else b))
        unasked place true = let conn = conn_at_index b.conns place in then_owed (suspended_conn of_others place b) (rested conn.local conn.remote b)
        unasked place false = then_owed b (alike_same me n b)

        go : (l : LinkTarget) → target_on of_others receive_link b ≡ l → Alike me n b (demuxed_after of_others kept c receive_link b l)
        go LinkTarget.Rests e = then_owed b (alike_same me n b)
        go LinkTarget.Nobody e = nobody (speaks_receiver of_others receive_link)
        go LinkTarget.Closed e = then_owed (suspended_if (not (speaks_receiver of_others receive_link)) of_others receive_link b) (suspended_by (not (speaks_receiver of_others receive_link)) receive_link b)
        go (LinkTarget.Unasked place) e = unasked place (speaks_receiver of_others receive_link)
        go (LinkTarget.Open place) e = open_said kept receive_link b place (led_place of_others receive_link b place e) c

    -- ---- each command, and each item

    command_said : (kept : List SentMessage) (c : Command) (b : SeenTables) → Alike me n b (tables_after_command of_others kept c b)
    command_said kept (Rts receive send link) b =
        requested (Rts receive send link) (here_of of_others receive send) (there_of of_others receive send) (Link link) (asking_acceptance of_others (Rts receive send link) receive send (is_of_sexes receive send) (Link link) b) b
    command_said kept (Str send receive size) b =
        requested (Str send receive size) (here_of of_others send receive) (there_of of_others send receive) (Size size) (asking_acceptance of_others (Str send receive size) send receive (is_of_sexes receive send) (Size size) b) b
    command_said kept (Cls my your) b =
        let acceptance = closing_acceptance of_others (Cls my your) my your b in
        let conn = conn_of at peer (here_of of_others my your) (there_of of_others my your) b.conns in
        let mid = after_cls of_others (Cls my your) (here_of of_others my your) (there_of of_others my your) acceptance b in
        alike_both me n b mid (after_right_cls of_others kept conn acceptance mid) (cls_said (Cls my your) (here_of of_others my your) (there_of of_others my your) acceptance b) (right_closed kept conn acceptance mid)
    command_said kept (Eco byte) b =
        let mid = facts_now at peer (FactKind.Asks sent) b in alike_both me n b mid (owes of_others (ExpectedReply.Echo byte) true mid) (mark_more (FactKind.Asks sent) b) (owed (ExpectedReply.Echo byte) true mid)
    command_said kept (Erp byte) b = let mid = after_reply of_others (Erp byte) b in alike_both me n b mid (answers_echo of_others mid) (replied (Erp byte) b) (echoed mid)
    command_said kept (Command.Err code shown) b = go (is_error_admitted of_others code shown b)
      where
        go : (x : Bool) → Alike me n b (if x then b else after_reply of_others (Command.Err code shown) b)
        go true = alike_same me n b
        go false = replied (Command.Err code shown) b
    command_said kept Nop b = alike_same me n b
    command_said kept (Command.All link messages bits) b = link_said kept (Command.All link messages bits) (from_receiver of_others link) b
    command_said kept (Gvb link fm fb) b = link_said kept (Gvb link fm fb) (from_receiver of_others link) b
    command_said kept (Ret link messages bits) b = link_said kept (Ret link messages bits) (from_sender of_others link) b
    command_said kept (Inr link) b = link_said kept (Inr link) (from_receiver of_others link) b
    command_said kept (Ins link) b = link_said kept (Ins link) (from_sender of_others link) b
    command_said kept Rst b = alike_same me n b
    command_said kept Rrp b = alike_same me n b

    pub item_alike : (kept : List SentMessage) (item : Result Command CommandFault) (b : SeenTables) → Alike me n b (after_spoken of_others kept item b)
    item_alike kept (Ok c) b = command_said kept c b
    item_alike kept (Err fault) b = owed (fault_wanted fault) true b

    -- ---- a text

    admits : (message : Message) (b : SeenTables) → Alike me n b (admits_error of_others message b)
    admits message b = mark_more (FactKind.Admits (not sent) (text_shown (speaker_of of_others) message)) b

    text_came : (link : ℕ) (b : SeenTables) → Alike me n b (after_text_came of_others link b)
    text_came link b = go sent (position (has_link at peer (not sent) link) b.conns) refl
      where
        go : (s : Bool) (o : Option ℕ) → position (has_link at peer (not sent) link) b.conns ≡ o → Alike me n b (if s then b else conn_came_at b o)
        go true o e = alike_same me n b
        go false None e = alike_same me n b
        go false (Some i) e = by (conn_at_index b.conns i).peer_left
          where
            by : (x : Bool) → Alike me n b (if x then b else record b { conns = slice_set b.conns i (record (conn_at_index b.conns i) { came = true }) })
            by true = alike_same me n b
            by false =
                conn_put (has_link at peer (not sent) link) b i (record (conn_at_index b.conns i) { came = true }) (distinct_users (not sent) link) e (there (has_link at peer (not sent) link) b i (distinct_users (not sent) link) e)

    pub text_alike : (link : ℕ) (message : Message) (b : SeenTables) → Alike me n b (conn_tables_after_text of_others link message b)
    text_alike link message b = go (text_target of_others link b) refl
      where
        then_admits : (mid : SeenTables) → Alike me n b mid → Alike me n b (admits_error of_others message mid)
        then_admits mid k = alike_both me n b mid (admits_error of_others message mid) k (admits message mid)

        wrong : (x y : Bool) (mid : SeenTables) → Alike me n b mid → Alike me n b (admits_error_if x of_others message (if y then text_suspended of_others link mid else mid))
        wrong true true mid k = then_admits (text_suspended of_others link mid) (alike_both me n b mid (text_suspended of_others link mid) k (link_more (not sent) link mid))
        wrong true false mid k = then_admits mid k
        wrong false true mid k = alike_both me n b mid (text_suspended of_others link mid) k (link_more (not sent) link mid)
        wrong false false mid k = k

        go : (l : LinkTarget) → text_target of_others link b ≡ l → Alike me n b (demuxed_after_text of_others link message b l)
        go LinkTarget.Rests e = then_admits (after_text_came of_others link b) (text_came link b)
        go LinkTarget.Nobody e = then_admits (text_suspended of_others link b) (link_more (not sent) link b)
        go LinkTarget.Closed e = then_admits (text_suspended of_others link b) (link_more (not sent) link b)
        go (LinkTarget.Unasked place) e = then_admits (after_text_came of_others link b) (text_came link b)
        go (LinkTarget.Open place) e =
            let conn = conn_at_index b.conns place in
            let is = is_any (open_text_rules link message conn) in
            let now = used (length message.text) conn in
            let put = put_conn b (Some place) now in
            wrong is (is && not sent) (after_text_came of_others link put)
            (alike_both me n b put (after_text_came of_others link put)
            (put_more (not sent) link b b place now refl (alike_same me n b) (text_led_place of_others link b place e)
            (record { messages = conn.messages - 1; bits = conn.bits - length message.text; recall = conn.recall; came = conn.came; is = refl }))
            (text_came link put))

  -- ---- what is forgotten, and what is said

  pub cleared_alike : (b : SeenTables) → Alike me n b (tables_cleared at peer b)
  cleared_alike b = record {
    conns = filter_others (is_conn_between me n) (is_conn_between at peer) b.conns (λ conn e. distinct_with conn.at conn.peer e);
    known_facts = filter_others (is_fact_between me n) (is_fact_between at peer) b.known_facts (λ known_fact e. distinct_with known_fact.at known_fact.peer e);
    pending_replies = filter_others (is_due_between me n) (is_due_between at peer) b.pending_replies (λ due e. distinct_with due.at due.peer e);
  }

  distinct_admissions : Apart (is_admission at peer) (is_fact_between me n)
  distinct_admissions known_fact e = distinct_with known_fact.at known_fact.peer (and_parts (known_fact.at == at && known_fact.peer == peer) (is_admission_of known_fact.fact_kind) e).0

  pub said_alike : (b : SeenTables) → Alike me n b (after_all_said at peer b)
  said_alike b = record {
    conns = refl;
    known_facts = filter_others (is_fact_between me n) (is_admission at peer) b.known_facts distinct_admissions;
    pending_replies = filter_others (is_due_between me n) (is_due_of at peer true) b.pending_replies (distinct_pending true);
  }
