-- What the host says leaves the marks of its own echoes, but for an ECO.
use Rattle.std.proofs.Common.{◌≡◌, ◌≤◌, ℕ, ◌+◌, ◌==◌, Bool, true, false, not, ◌&&◌, if◌then◌else◌, List, [], ◌∷◌, ◌++◌, length, Option, None, Some, is_some, refl, sym, ◌∙◌, subst, arith}
use Rattle.std.specs.Prelude.{nat_lt, slice_set, Result, Ok}
use Rattle.std.specs.List.{remove}
use Rattle.std.proofs.lemmas.Bool.{and_parts}
use Rattle.ncp_leader.specs.declared.fault.MessageFault.{MessageFault}
use Rattle.ncp_leader.specs.Message.{Message, message_in}
use Rattle.ncp_wire.specs.declared.command.Command.{Command}
use Rattle.ncp_wire.specs.declared.command.Command.TheVariants.{Nop, Rts, Str, Cls, Gvb, Ret, Inr, Ins, Eco, Erp, Err, Rst, Rrp}
use Rattle.ncp_model.proofs.ResetLists.{bit}
use Rattle.ncp_monitor.specs.declared.conn_tables.TheConstants.{MAX_TABLE_ROWS}
use Rattle.ncp_monitor.specs.declared.pending_reply.PendingReply.{PendingReply}
use Rattle.ncp_interface.specs.declared.sent_message.SentMessage.{SentMessage}
use Rattle.ncp_monitor.specs.declared.link_target.ReceiveLink.{ReceiveLink}
use Rattle.ncp_monitor.specs.declared.link_target.LinkTarget.{LinkTarget}
use Rattle.ncp_monitor.specs.declared.conn_state.ConnState.{ConnState}
use Rattle.ncp_monitor.specs.declared.conn_state.Fact.{Fact}
use Rattle.ncp_interface.specs.declared.request.Request.{Request}
use Rattle.ncp_interface.specs.declared.request.Request.TheVariants.{Link, Size}
use Rattle.ncp_monitor.specs.declared.conn_state.FactKind.{FactKind}
use Rattle.ncp_monitor.specs.declared.observed_flow.ObservedFlow.{ObservedFlow}
use Rattle.ncp_monitor.specs.declared.observed_flow.Acceptance.{Acceptance}
use Rattle.ncp_monitor.specs.declared.observed_flow.Acceptance.TheVariants.{Right, Refused, Unclear}
use Rattle.ncp_monitor.specs.ConnStates.{SeenTables, unasked_conn, has_sent_cls, with_cls_sent, with_request_sent, conn_at_index, index_with_sockets, conn_of, same_topic, is_topic, is_marked, with_conn, put_conn, with_due, facts_now, facts_no_more, returns_dropped, link_suspended_now, suspended_link, suspended_pair}
use Rattle.ncp_interface.specs.Sockets.{is_senders, is_of_sexes}
use Rattle.ncp_monitor.specs.Replies.{is_due_of, is_own, is_wanted, owes, pending_left, error_wanted, after_reply}
use Rattle.ncp_monitor.specs.Requests.{suspended_asked, asks, closes_side, tables_after_request, after_cls}
use Rattle.ncp_interface.specs.Slots.{position_of, kept_at, is_slot_empty}
use Rattle.ncp_monitor.specs.Allocation.{kept_sum, target_on, from_receiver, from_sender, speaks_receiver, limit_rule, returned_rules, over_rule, is_any, owes_error, owes_error_if, other_code, with_grant, asked_back, recalled, after_gvb, with_return, suspended_if, suspended_conn, after_wanted_ret, after_ret, after_open, demuxed_after, after_link, speaks_sender, ends_returns}
use Rattle.ncp_monitor.specs.Texts.{text_shown, is_error_admitted, admits_out, message_out_at, text_left_out}
use Rattle.ncp_monitor.specs.Speaking.{asking_acceptance, closing_acceptance, answers_echo, tables_after_command, after_right_cls}
use Rattle.ncp_proof_monitor_allocation.proofs.Replying.{any_fewer}
use Rattle.ncp_proof_monitor_allocation.proofs.Echoing.{Echoing, is_eco, ecos, fact_other}

-- not about a link, nor about the echoes of the other
pub record OfOwnEchoes (what : FactKind) : Type 0 where
  pub link : (on : Bool) (link : ℕ) → same_topic (FactKind.LinkSuspended on link) what ≡ false
  pub rest : same_topic (FactKind.EchoesRest false) what ≡ false
  pub asks : (x : FactKind) → same_topic x (FactKind.Asks false) ≡ true → same_topic x what ≡ false
  pub admits : (on : Bool) (bytes : List ℕ) → same_topic (FactKind.Admits on bytes) what ≡ false

own_rest : OfOwnEchoes (FactKind.EchoesRest true)
own_rest = record { link = λ on link. refl; rest = refl; asks = others; admits = λ on bytes. refl }
  where
    others : (x : FactKind) → same_topic x (FactKind.Asks false) ≡ true → same_topic x (FactKind.EchoesRest true) ≡ false
    others (FactKind.LinkSuspended a l) e = refl
    others (FactKind.EchoesRest a) e = absurd (cc e)
    others (FactKind.Asks a) e = refl
    others (FactKind.Admits a bytes) e = refl

own_asks : OfOwnEchoes (FactKind.Asks true)
own_asks = record { link = λ on link. refl; rest = refl; asks = others; admits = λ on bytes. refl }
  where
    others : (x : FactKind) → same_topic x (FactKind.Asks false) ≡ true → same_topic x (FactKind.Asks true) ≡ false
    others (FactKind.LinkSuspended a l) e = refl
    others (FactKind.EchoesRest a) e = refl
    others (FactKind.Asks true) e = absurd (cc e)
    others (FactKind.Asks false) e = refl
    others (FactKind.Admits a bytes) e = refl

module _ (me n : ℕ) (what : FactKind) (own : OfOwnEchoes what) where
  abbrev marked : SeenTables → Bool
  marked b = is_marked me n what b

  conn_facts : (b : SeenTables) (conn : ConnState) → marked (with_conn b conn) ≡ marked b
  conn_facts b conn = go (nat_lt (length b.conns) MAX_TABLE_ROWS)
    where
      go : (x : Bool) → marked (if x then record b { conns = b.conns ++ conn ∷ [] } else record b { full = true }) ≡ marked b
      go true = refl
      go false = refl

  due_marks : (b : SeenTables) (due : PendingReply) → marked (with_due b due) ≡ marked b
  due_marks b due = go (nat_lt (length b.pending_replies) MAX_TABLE_ROWS)
    where
      go : (x : Bool) → marked (if x then record b { pending_replies = b.pending_replies ++ due ∷ [] } else record b { full = true }) ≡ marked b
      go true = refl
      go false = refl

  rested_facts : (side : Bool) (link : ℕ) (b : SeenTables) → marked (link_suspended_now me n side link b) ≡ marked b
  rested_facts side link b = fact_other me n (FactKind.LinkSuspended side link) what b (own.link side link)

  link_facts : (b : SeenTables) (conn : ConnState) → marked (suspended_link me n conn b) ≡ marked b
  link_facts b conn = go conn.link
    where
      link_rested : Option ℕ → SeenTables
      link_rested None = b
      link_rested (Some link) = link_suspended_now me n (not (is_senders conn.local)) link b

      go : (o : Option ℕ) → marked (link_rested o) ≡ marked b
      go None = refl
      go (Some link) = rested_facts (not (is_senders conn.local)) link b

  pair_facts : (local remote : ℕ) (b : SeenTables) → marked (suspended_pair me n local remote b) ≡ marked b
  pair_facts local remote b = go (index_with_sockets me n local remote b.conns)
    where
      put_there : ℕ → SeenTables
      put_there i = record b { conns = slice_set b.conns i (record (conn_at_index b.conns i) { suspended = true }) }

      rested : Option ℕ → SeenTables
      rested None = with_conn b (record (unasked_conn me n local remote) { suspended = true })
      rested (Some i) = suspended_link me n (conn_at_index b.conns i) (put_there i)

      go : (o : Option ℕ) → marked (rested o) ≡ marked b
      go None = conn_facts b (record (unasked_conn me n local remote) { suspended = true })
      go (Some i) = link_facts (put_there i) (conn_at_index b.conns i)

  asked_facts : (sent : Bool) (request : Request) (b : SeenTables) → marked (suspended_asked (record { at = me; peer = n; sent = sent }) request b) ≡ marked b
  asked_facts sent (Link link) b = rested_facts sent link b
  asked_facts sent (Size size) b = refl

  asks_facts : (flow : ObservedFlow) (local remote : ℕ) (request : Request) (b : SeenTables) (o : Option ℕ) → marked (asks flow local remote request b o) ≡ marked b
  asks_facts flow local remote request b None = conn_facts b (with_request_sent (record (unasked_conn flow.at flow.peer local remote) { since = b.number }) request)
  asks_facts flow local remote request b (Some i) = refl

  closes_facts : (flow : ObservedFlow) (b : SeenTables) (o : Option ℕ) → marked (closes_side flow b o) ≡ marked b
  closes_facts flow b None = refl
  closes_facts flow b (Some i) = go ((with_cls_sent (conn_at_index b.conns i) flow.sent).host_left && (with_cls_sent (conn_at_index b.conns i) flow.sent).peer_left)
    where
      go : (x : Bool) → marked (if x then record b { conns = remove b.conns i } else record b { conns = slice_set b.conns i (with_cls_sent (conn_at_index b.conns i) flow.sent) }) ≡ marked b
      go true = refl
      go false = refl

  reply_marks : (flow : ObservedFlow) (c : Command) (b : SeenTables) → marked (after_reply flow c b) ≡ marked b
  reply_marks flow c b = go (is_wanted (is_due_of flow.at flow.peer flow.sent) c b.pending_replies)
    where
      go : (x : Bool) → marked (if x then record b { pending_replies = pending_left (is_due_of flow.at flow.peer flow.sent) c b.pending_replies } else b) ≡ marked b
      go true = refl
      go false = refl

  -- an ERP of the host answers the echoes of the other
  echo_facts : (b : SeenTables) → marked (answers_echo (record { at = me; peer = n; sent = true }) b) ≡ marked b
  echo_facts b = go (is_marked me n (FactKind.Asks false) b)
    where
      apart : (x : Fact) → is_topic me n (FactKind.Asks false) x ≡ true → is_topic me n what x ≡ false
      apart x e = by (x.at == me && x.peer == n) (own.asks x.fact_kind (and_parts (x.at == me && x.peer == n) (same_topic x.fact_kind (FactKind.Asks false)) e).1)
        where
          by : (y : Bool) → same_topic x.fact_kind what ≡ false → (y && same_topic x.fact_kind what) ≡ false
          by true f = f
          by false f = refl

      go : (x : Bool) → marked (if x then facts_no_more me n (FactKind.Asks false) b else facts_now me n (FactKind.EchoesRest false) b) ≡ marked b
      go true = any_fewer (is_topic me n what) (is_topic me n (FactKind.Asks false)) b.known_facts apart
      go false = fact_other me n (FactKind.EchoesRest false) what b own.rest

  abbrev host : ObservedFlow
  host = record { at = me; peer = n; sent = true }

  request_facts : (c : Command) (local remote : ℕ) (request : Request) (v : Acceptance) (b : SeenTables) → marked (tables_after_request host c local remote request v b) ≡ marked b
  request_facts c local remote request Right b = asks_facts host local remote request b (index_with_sockets me n local remote b.conns)
  request_facts c local remote request (Refused wrong) b = due_marks b (record { at = me; peer = n; host = false; wanted = error_wanted 3 3 c; mandatory = true })
  request_facts c local remote request (Unclear wrong) b =
      due_marks (suspended_asked host request (suspended_pair me n local remote b)) (record { at = me; peer = n; host = false; wanted = error_wanted 3 3 c; mandatory = false })
      ∙ asked_facts true request (suspended_pair me n local remote b)
      ∙ pair_facts local remote b

  cls_facts : (c : Command) (local remote : ℕ) (v : Acceptance) (b : SeenTables) → marked (after_cls host c local remote v b) ≡ marked b
  cls_facts c local remote Right b = closes_facts host b (index_with_sockets me n local remote b.conns)
  cls_facts c local remote (Refused wrong) b = due_marks b (record { at = me; peer = n; host = false; wanted = error_wanted 3 3 c; mandatory = true })
  cls_facts c local remote (Unclear wrong) b = due_marks (suspended_pair me n local remote b) (record { at = me; peer = n; host = false; wanted = error_wanted 4 3 c; mandatory = false }) ∙ pair_facts local remote b

  -- ---- besides a CLS: an unacknowledged text, and RETs that are no longer pending

  out_facts : (kept : List SentMessage) (o : Option ℕ) (b : SeenTables) → marked (message_out_at host kept o b) ≡ marked b
  out_facts kept None b = refl
  out_facts kept (Some place) b = go (is_slot_empty (kept_at kept place).slot) (message_in (kept_at kept place).message)
    where
      go : (x : Bool) (r : Result Message MessageFault) → marked (if x then b else admits_out host r b) ≡ marked b
      go true r = refl
      go false (Ok message) = fact_other me n (FactKind.Admits false (text_shown me message)) what b (own.admits false (text_shown me message))
      go false (Result.Err fault) = refl

  text_out_facts : (kept : List SentMessage) (o : Option ConnState) (b : SeenTables) → marked (text_left_out host kept o b) ≡ marked b
  text_out_facts kept None b = refl
  text_out_facts kept (Some conn) b = go (is_senders conn.local) conn.link
    where
      on : Option ℕ → SeenTables
      on None = b
      on (Some link) = message_out_at host kept (position_of me n link kept) b

      go : (x : Bool) (o : Option ℕ) → marked (if x then on o else b) ≡ marked b
      go false o = refl
      go true None = refl
      go true (Some link) = out_facts kept (position_of me n link kept) b

  returns_facts : (o : Option ConnState) (b : SeenTables) → marked (ends_returns host o b) ≡ marked b
  returns_facts None b = refl
  returns_facts (Some conn) b = go (speaks_sender host conn) conn.link
    where
      drop_on : Option ℕ → SeenTables
      drop_on None = b
      drop_on (Some link) = returns_dropped me n true link b

      go : (x : Bool) (o : Option ℕ) → marked (if x then drop_on o else b) ≡ marked b
      go false o = refl
      go true None = refl
      go true (Some link) = refl

  right_cls_facts : (kept : List SentMessage) (o : Option ConnState) (v : Acceptance) (b : SeenTables) → marked (after_right_cls host kept o v b) ≡ marked b
  right_cls_facts kept o Right b = returns_facts o (text_left_out host kept o b) ∙ text_out_facts kept o b
  right_cls_facts kept o (Refused wrong) b = refl
  right_cls_facts kept o (Unclear wrong) b = refl

  -- ---- what names a link

  error_facts : (c : Command) (mandatory : Bool) (b : SeenTables) → marked (owes_error host c mandatory b) ≡ marked b
  error_facts c mandatory b = due_marks b (record { at = me; peer = n; host = false; wanted = error_wanted 5 (other_code c) c; mandatory = mandatory })

  error_if_facts : (wrong : Bool) (c : Command) (b : SeenTables) → marked (owes_error_if wrong host c b) ≡ marked b
  error_if_facts true c b = error_facts c false b
  error_if_facts false c b = refl

  suspended_if_facts : (over : Bool) (receive_link : ReceiveLink) (b : SeenTables) → marked (suspended_if over host receive_link b) ≡ marked b
  suspended_if_facts true receive_link b = rested_facts receive_link.host receive_link.link b
  suspended_if_facts false receive_link b = refl

  recall_facts : (kept : List SentMessage) (c : Command) (link fm fb place : ℕ) (b : SeenTables) → marked (after_gvb host kept c link fm fb place b) ≡ marked b
  recall_facts kept c link fm fb place b = go (has_sent_cls conn false) ∙ error_if_facts conn.recall c b
    where
      conn : ConnState
      conn = conn_at_index b.conns place

      mid : SeenTables
      mid = put_conn (owes_error_if conn.recall host c b) (Some place) (recalled host fm fb conn)

      go : (x : Bool) → marked (if x then mid else owes host (asked_back link fm fb conn) false mid) ≡ marked (owes_error_if conn.recall host c b)
      go true = refl
      go false = due_marks mid (record { at = me; peer = n; host = false; wanted = asked_back link fm fb conn; mandatory = false })

  return_facts : (c : Command) (receive_link : ReceiveLink) (messages bits place : ℕ) (b : SeenTables) → marked (after_ret host c receive_link messages bits place b) ≡ marked b
  return_facts c receive_link messages bits place b = go (is_wanted (is_own host) c b.pending_replies)
    where
      conn : ConnState
      conn = conn_at_index b.conns place

      put : SeenTables
      put = put_conn (after_reply host c b) (Some place) (with_return host messages bits conn)

      go : (x : Bool) → marked (if x then after_wanted_ret host c receive_link messages bits place b else owes_error host c false (suspended_conn host place b)) ≡ marked b
      go true =
          error_if_facts (is_any (returned_rules host c messages bits conn b.pending_replies)) c (suspended_if (is_some (over_rule host c messages bits conn)) host receive_link put)
          ∙ suspended_if_facts (is_some (over_rule host c messages bits conn)) receive_link put
          ∙ reply_marks host c b
      go false = error_facts c false (suspended_conn host place b) ∙ pair_facts conn.local conn.remote b

  open_facts : (kept : List SentMessage) (c : Command) (receive_link : ReceiveLink) (place : ℕ) (b : SeenTables) → marked (after_open host kept c receive_link place b) ≡ marked b
  open_facts kept (Command.All link messages bits) receive_link place b =
      let conn = conn_at_index b.conns place in
      error_if_facts (is_some (limit_rule (Command.All link messages bits) (kept_sum conn.messages messages) (kept_sum conn.bits bits))) (Command.All link messages bits) (put_conn b (Some place) (with_grant host messages bits conn))
  open_facts kept (Gvb link fm fb) receive_link place b = recall_facts kept (Gvb link fm fb) link fm fb place b
  open_facts kept (Ret link messages bits) receive_link place b = return_facts (Ret link messages bits) receive_link messages bits place b
  open_facts kept Nop receive_link place b = refl
  open_facts kept (Rts receive send link) receive_link place b = refl
  open_facts kept (Str send receive size) receive_link place b = refl
  open_facts kept (Cls my your) receive_link place b = refl
  open_facts kept (Inr link) receive_link place b = refl
  open_facts kept (Ins link) receive_link place b = refl
  open_facts kept (Eco byte) receive_link place b = refl
  open_facts kept (Erp byte) receive_link place b = refl
  open_facts kept (Err code shown) receive_link place b = refl
  open_facts kept Rst receive_link place b = refl
  open_facts kept Rrp receive_link place b = refl

  named_facts : (kept : List SentMessage) (c : Command) (receive_link : ReceiveLink) (b : SeenTables) → marked (after_link host kept c receive_link b) ≡ marked b
  named_facts kept c receive_link b = go (target_on host receive_link b)
    where
      nobody : (x : Bool) → marked (if x then owes host (error_wanted 5 5 c) true b else owes_error host c false (link_suspended_now me n receive_link.host receive_link.link b)) ≡ marked b
      nobody true = due_marks b (record { at = me; peer = n; host = false; wanted = error_wanted 5 5 c; mandatory = true })
      nobody false = error_facts c false (link_suspended_now me n receive_link.host receive_link.link b) ∙ rested_facts receive_link.host receive_link.link b

      unasked : (place : ℕ) (x : Bool) → marked (owes_error host c false (if x then suspended_conn host place b else b)) ≡ marked b
      unasked place true = let conn = conn_at_index b.conns place in error_facts c false (suspended_conn host place b) ∙ pair_facts conn.local conn.remote b
      unasked place false = error_facts c false b

      go : (l : LinkTarget) → marked (demuxed_after host kept c receive_link b l) ≡ marked b
      go LinkTarget.Rests = error_facts c false b
      go LinkTarget.Nobody = nobody (speaks_receiver host receive_link)
      go LinkTarget.Closed = error_facts c false (suspended_if (not (speaks_receiver host receive_link)) host receive_link b) ∙ suspended_if_facts (not (speaks_receiver host receive_link)) receive_link b
      go (LinkTarget.Unasked place) = unasked place (speaks_receiver host receive_link)
      go (LinkTarget.Open place) = open_facts kept c receive_link place b

  -- ---- each command

  own_facts : (kept : List SentMessage) (c : Command) (b : SeenTables) → is_eco c ≡ false → marked (tables_after_command host kept c b) ≡ marked b
  own_facts kept (Eco byte) b e = absurd (cc e)
  own_facts kept (Rts receive send link) b e = request_facts (Rts receive send link) receive send (Link link) (asking_acceptance host (Rts receive send link) receive send (is_of_sexes receive send) (Link link) b) b
  own_facts kept (Str send receive size) b e = request_facts (Str send receive size) send receive (Size size) (asking_acceptance host (Str send receive size) send receive (is_of_sexes receive send) (Size size) b) b
  own_facts kept (Cls my your) b e =
      let acceptance = closing_acceptance host (Cls my your) my your b in
      right_cls_facts kept (conn_of me n my your b.conns) acceptance (after_cls host (Cls my your) my your acceptance b) ∙ cls_facts (Cls my your) my your acceptance b
  own_facts kept (Erp byte) b e = echo_facts (after_reply host (Erp byte) b) ∙ reply_marks host (Erp byte) b
  own_facts kept (Err code shown) b e = go (is_error_admitted host code shown b)
    where
      go : (x : Bool) → marked (if x then b else after_reply host (Err code shown) b) ≡ marked b
      go true = refl
      go false = reply_marks host (Err code shown) b
  own_facts kept Nop b e = refl
  own_facts kept (Command.All link messages bits) b e = named_facts kept (Command.All link messages bits) (from_receiver host link) b
  own_facts kept (Gvb link fm fb) b e = named_facts kept (Gvb link fm fb) (from_receiver host link) b
  own_facts kept (Ret link messages bits) b e = named_facts kept (Ret link messages bits) (from_sender host link) b
  own_facts kept (Inr link) b e = named_facts kept (Inr link) (from_receiver host link) b
  own_facts kept (Ins link) b e = named_facts kept (Ins link) (from_sender host link) b
  own_facts kept Rst b e = refl
  own_facts kept Rrp b e = refl

-- so the echoes stay as they are
pub others_echo : (me n : ℕ) (awaited : Bool) (kept : List SentMessage) (c : Command) (w : List Command) (b : SeenTables) → is_eco c ≡ false → Echoing me n awaited (c ∷ w) b → Echoing me n awaited w (tables_after_command (record { at = me; peer = n; sent = true }) kept c b)
others_echo me n awaited kept c w b e h r =
    let rest : is_marked me n (FactKind.EchoesRest true) b ≡ false = sym (own_facts me n (FactKind.EchoesRest true) own_rest kept c b e) ∙ r in
    let same = own_facts me n (FactKind.Asks true) own_asks kept c b e in
    let k : bit false + ecos w + bit (is_marked me n (FactKind.Asks true) b) ≤ bit awaited = subst (λ (x : Bool). bit x + ecos w + bit (is_marked me n (FactKind.Asks true) b) ≤ bit awaited) e (h rest) in
    subst (λ (x : Bool). ecos w + bit x ≤ bit awaited) (sym same) (omega (arith, k))
