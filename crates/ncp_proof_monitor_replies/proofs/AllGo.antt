-- Where the books have room after a command, they had room before it. And where nothing waits of a host, it has left out no
-- reply.
use Rattle.std.proofs.Common.{◌≡◌, ◌<◌, ℕ, ◌==◌, zero, suc, Bool, true, false, not, ◌&&◌, ◌||◌, if◌then◌else◌, List, [], ◌∷◌, ◌++◌, length, get_or, Option, None, Some, is_some, refl, sym, ap, ◌∙◌, arith}
use Rattle.std.specs.Prelude.{nat_lt, slice_set}
use Rattle.std.specs.List.{list_any, position, remove}
use Rattle.std.proofs.lemmas.Bool.{and_parts}
use Rattle.std.proofs.lemmas.List.Quantifiers.{position-Some}
use Rattle.ncp_wire.specs.declared.command.Command.{Command}
use Rattle.ncp_wire.specs.declared.command.Command.TheVariants.{Nop, Rts, Str, Cls, Gvb, Ret, Inr, Ins, Eco, Erp, Err, Rst, Rrp}
use Rattle.ncp_model.specs.Ends.{Ends}
use Rattle.ncp_monitor.specs.declared.conn_tables.TheConstants.{MAX_TABLE_ROWS}
use Rattle.ncp_monitor.specs.declared.pending_reply.ExpectedReply.{ExpectedReply}
use Rattle.ncp_interface.specs.declared.sent_message.SentMessage.{SentMessage}
use Rattle.ncp_monitor.specs.declared.link_target.ReceiveLink.{ReceiveLink}
use Rattle.ncp_monitor.specs.declared.link_target.LinkTarget.{LinkTarget}
use Rattle.ncp_monitor.specs.declared.conn_state.Fact.{Fact}
use Rattle.ncp_monitor.specs.declared.conn_state.ConnState.{ConnState}
use Rattle.ncp_interface.specs.declared.request.Request.{Request}
use Rattle.ncp_interface.specs.declared.request.Request.TheVariants.{Link, Size}
use Rattle.ncp_monitor.specs.declared.conn_state.FactKind.{FactKind}
use Rattle.ncp_monitor.specs.declared.observed_flow.ObservedFlow.{ObservedFlow}
use Rattle.ncp_monitor.specs.declared.observed_flow.Acceptance.{Acceptance}
use Rattle.ncp_monitor.specs.declared.observed_flow.Acceptance.TheVariants.{Right, Refused, Unclear}
use Rattle.ncp_monitor.specs.ConnStates.{SeenTables, unasked_conn, has_sent_cls, with_cls_sent, with_request_sent, same_topic, is_topic, conn_at_index, index_with_sockets, conn_of, is_marked, with_conn, put_conn, facts_now, facts_no_more, link_suspended_now, suspended_pair}
use Rattle.ncp_monitor.specs.Replies.{is_due_of, is_own, is_wanted, pending_left, owes, error_wanted, due_at}
use Rattle.ncp_monitor.specs.Requests.{is_link_busy, suspended_asked, asks, closes_side, tables_after_request, after_cls}
use Rattle.ncp_interface.specs.Sockets.{is_of_sexes}
use Rattle.ncp_monitor.specs.Allocation.{from_receiver, from_sender, speaks_receiver, target_on, kept_sum, limit_rule, over_rule, returned_rules, other_code, owes_error, owes_error_if, with_grant, after_allocation, asked_back, recalled, after_gvb, with_return, suspended_if, is_any, after_wanted_ret, suspended_conn, after_ret, after_open, demuxed_after, after_link}
use Rattle.ncp_monitor.specs.Texts.{is_error_admitted}
use Rattle.ncp_monitor.specs.Speaking.{asking_acceptance, closing_acceptance, here_of, there_of, answers_echo, after_reply, tables_after_command, is_owed, reply_at, reply_left_out, is_admission_of, is_admission, after_all_said}
use Rattle.ncp_proof_monitor_allocation.proofs.Resting.{fact_room, pair_suspended, due_room}
use Rattle.ncp_proof_monitor_allocation.proofs.Meets.{Meets, same_conns}
use Rattle.ncp_proof_monitor_allocation.proofs.Replying.{any_fewer}
use Rattle.ncp_proof_monitor_allocation.proofs.TidyBooks.{owed_room, right_cls_room}
use Rattle.ncp_proof_monitor_replies.proofs.Owed.{none_owed}
use Rattle.ncp_proof_monitor_replies.proofs.OwedItems.{gone_of, OwedBy}

-- ---- if there is room after a command, there was room before it

conn_room : (b : SeenTables) (conn : ConnState) → (with_conn b conn).full ≡ false → b.full ≡ false
conn_room b conn = go (nat_lt (length b.conns) MAX_TABLE_ROWS)
  where
    go : (x : Bool) → (if x then record b { conns = b.conns ++ conn ∷ [] } else record b { full = true }).full ≡ false → b.full ≡ false
    go true f = f
    go false f = absurd (cc f)

asks_room : (flow : ObservedFlow) (local remote : ℕ) (request : Request) (b : SeenTables) (o : Option ℕ) → (asks flow local remote request b o).full ≡ false → b.full ≡ false
asks_room flow local remote request b None f = conn_room b (with_request_sent (record (unasked_conn flow.at flow.peer local remote) { since = b.number }) request) f
asks_room flow local remote request b (Some i) f = f

leaves_room : (flow : ObservedFlow) (b : SeenTables) (o : Option ℕ) → (closes_side flow b o).full ≡ false → b.full ≡ false
leaves_room flow b None f = f
leaves_room flow b (Some i) f = go ((with_cls_sent (conn_at_index b.conns i) flow.sent).host_left && (with_cls_sent (conn_at_index b.conns i) flow.sent).peer_left) f
  where
    go : (x : Bool) → (if x then record b { conns = remove b.conns i } else record b { conns = slice_set b.conns i (with_cls_sent (conn_at_index b.conns i) flow.sent) }).full ≡ false → b.full ≡ false
    go true f = f
    go false f = f

module _ (me n : ℕ) (sent : Bool) (b : SeenTables) where
  abbrev one_talks : ObservedFlow
  one_talks = record { at = me; peer = n; sent = sent }

  asked_room : (request : Request) (local remote : ℕ) → (suspended_asked one_talks request (suspended_pair me n local remote b)).full ≡ false → b.full ≡ false
  asked_room (Link link) local remote f = (pair_suspended me n (local, remote) b (fact_room me n (FactKind.LinkSuspended sent link) (suspended_pair me n local remote b) f)).room
  asked_room (Size size) local remote f = (pair_suspended me n (local, remote) b f).room

  request_room : (c : Command) (local remote : ℕ) (request : Request) (v : Acceptance) → (tables_after_request one_talks c local remote request v b).full ≡ false → b.full ≡ false
  request_room c local remote request Right f = asks_room one_talks local remote request b (index_with_sockets me n local remote b.conns) f
  request_room c local remote request (Refused wrong) f = due_room b (record { at = me; peer = n; host = not sent; wanted = error_wanted 3 3 c; mandatory = true }) f
  request_room c local remote request (Unclear wrong) f =
      asked_room request local remote (due_room (suspended_asked one_talks request (suspended_pair me n local remote b)) (record { at = me; peer = n; host = not sent; wanted = error_wanted 3 3 c; mandatory = false }) f)

  cls_room : (c : Command) (local remote : ℕ) (v : Acceptance) → (after_cls one_talks c local remote v b).full ≡ false → b.full ≡ false
  cls_room c local remote Right f = leaves_room one_talks b (index_with_sockets me n local remote b.conns) f
  cls_room c local remote (Refused wrong) f = due_room b (record { at = me; peer = n; host = not sent; wanted = error_wanted 3 3 c; mandatory = true }) f
  cls_room c local remote (Unclear wrong) f =
      (pair_suspended me n (local, remote) b (due_room (suspended_pair me n local remote b) (record { at = me; peer = n; host = not sent; wanted = error_wanted 4 3 c; mandatory = false }) f)).room

reply_room : (flow : ObservedFlow) (c : Command) (b : SeenTables) → (after_reply flow c b).full ≡ b.full
reply_room flow c b = go (is_wanted (is_due_of flow.at flow.peer flow.sent) c b.pending_replies)
  where
    go : (x : Bool) → (if x then record b { pending_replies = pending_left (is_due_of flow.at flow.peer flow.sent) c b.pending_replies } else b).full ≡ b.full
    go true = refl
    go false = refl

echo_room : (me n : ℕ) (sent : Bool) (b : SeenTables) → (answers_echo (record { at = me; peer = n; sent = sent }) b).full ≡ false → b.full ≡ false
echo_room me n sent b = go (is_marked me n (FactKind.Asks (not sent)) b)
  where
    go : (x : Bool) → (if x then facts_no_more me n (FactKind.Asks (not sent)) b else facts_now me n (FactKind.EchoesRest (not sent)) b).full ≡ false → b.full ≡ false
    go true f = f
    go false f = fact_room me n (FactKind.EchoesRest (not sent)) b f

-- ---- what names a link

error_room : (wrong : Bool) (flow : ObservedFlow) (c : Command) (b : SeenTables) → (owes_error_if wrong flow c b).full ≡ false → b.full ≡ false
error_room true flow c b f = owed_room flow (error_wanted 5 (other_code c) c) false b f
error_room false flow c b f = f

suspended_room : (over : Bool) (flow : ObservedFlow) (receive_link : ReceiveLink) (b : SeenTables) → (suspended_if over flow receive_link b).full ≡ false → b.full ≡ false
suspended_room true flow receive_link b f = fact_room flow.at flow.peer (FactKind.LinkSuspended receive_link.host receive_link.link) b f
suspended_room false flow receive_link b f = f

module _ (flow : ObservedFlow) (kept : List SentMessage) (receive_link : ReceiveLink) (b : SeenTables) where
  conn_suspended_room : (c : Command) (place : ℕ) → (owes_error flow c false (suspended_conn flow place b)).full ≡ false → b.full ≡ false
  conn_suspended_room c place f =
      let conn = conn_at_index b.conns place in
      (pair_suspended flow.at flow.peer (conn.local, conn.remote) b (owed_room flow (error_wanted 5 (other_code c) c) false (suspended_conn flow place b) f)).room

  grant_room : (c : Command) (messages bits place : ℕ) → (after_allocation flow c messages bits place b).full ≡ false → b.full ≡ false
  grant_room c messages bits place f =
      let conn = conn_at_index b.conns place in
      error_room (is_some (limit_rule c (kept_sum conn.messages messages) (kept_sum conn.bits bits))) flow c (put_conn b (Some place) (with_grant flow messages bits conn)) f

  recall_room : (c : Command) (link fm fb place : ℕ) → (after_gvb flow kept c link fm fb place b).full ≡ false → b.full ≡ false
  recall_room c link fm fb place f = go (has_sent_cls (conn_at_index b.conns place) (not flow.sent)) f
    where
      mid : SeenTables
      mid = put_conn (owes_error_if (conn_at_index b.conns place).recall flow c b) (Some place) (recalled flow fm fb (conn_at_index b.conns place))

      go : (x : Bool) → (if x then mid else owes flow (asked_back link fm fb (conn_at_index b.conns place)) (not flow.sent && not (is_link_busy flow.at flow.peer (Some link) kept)) mid).full ≡ false → b.full ≡ false
      go true f = error_room (conn_at_index b.conns place).recall flow c b f
      go false f =
          error_room (conn_at_index b.conns place).recall flow c b
          (owed_room flow (asked_back link fm fb (conn_at_index b.conns place)) (not flow.sent && not (is_link_busy flow.at flow.peer (Some link) kept)) mid f)

  return_room : (c : Command) (messages bits place : ℕ) → (after_ret flow c receive_link messages bits place b).full ≡ false → b.full ≡ false
  return_room c messages bits place f = go (is_wanted (is_own flow) c b.pending_replies) f
    where
      go : (x : Bool) → (if x then after_wanted_ret flow c receive_link messages bits place b else owes_error flow c false (suspended_conn flow place b)).full ≡ false → b.full ≡ false
      go true f =
          let conn = conn_at_index b.conns place in
          let mid = put_conn (after_reply flow c b) (Some place) (with_return flow messages bits conn) in
          sym (reply_room flow c b)
          ∙ suspended_room (is_some (over_rule flow c messages bits conn)) flow receive_link mid
          (error_room (is_any (returned_rules flow c messages bits conn b.pending_replies)) flow c (suspended_if (is_some (over_rule flow c messages bits conn)) flow receive_link mid) f)
      go false f = conn_suspended_room c place f

  open_room : (c : Command) (place : ℕ) → (after_open flow kept c receive_link place b).full ≡ false → b.full ≡ false
  open_room (Command.All link messages bits) place f = grant_room (Command.All link messages bits) messages bits place f
  open_room (Gvb link fm fb) place f = recall_room (Gvb link fm fb) link fm fb place f
  open_room (Ret link messages bits) place f = return_room (Ret link messages bits) messages bits place f
  open_room Nop place f = f
  open_room (Rts receive send link) place f = f
  open_room (Str send receive size) place f = f
  open_room (Cls my your) place f = f
  open_room (Inr link) place f = f
  open_room (Ins link) place f = f
  open_room (Eco byte) place f = f
  open_room (Erp byte) place f = f
  open_room (Err code shown) place f = f
  open_room Rst place f = f
  open_room Rrp place f = f

  led_room : (c : Command) (led : LinkTarget) → (demuxed_after flow kept c receive_link b led).full ≡ false → b.full ≡ false
  led_room c LinkTarget.Rests f = owed_room flow (error_wanted 5 (other_code c) c) false b f
  led_room c LinkTarget.Nobody f = go (speaks_receiver flow receive_link) f
    where
      rested : SeenTables
      rested = link_suspended_now flow.at flow.peer receive_link.host receive_link.link b

      go : (x : Bool) → (if x then owes flow (error_wanted 5 5 c) true b else owes_error flow c false rested).full ≡ false → b.full ≡ false
      go true f = owed_room flow (error_wanted 5 5 c) true b f
      go false f = fact_room flow.at flow.peer (FactKind.LinkSuspended receive_link.host receive_link.link) b (owed_room flow (error_wanted 5 (other_code c) c) false rested f)
  led_room c LinkTarget.Closed f =
      let suspended = not (speaks_receiver flow receive_link) in
      suspended_room suspended flow receive_link b (owed_room flow (error_wanted 5 (other_code c) c) false (suspended_if suspended flow receive_link b) f)
  led_room c (LinkTarget.Unasked place) f = go (speaks_receiver flow receive_link) f
    where
      go : (x : Bool) → (owes_error flow c false (if x then suspended_conn flow place b else b)).full ≡ false → b.full ≡ false
      go true f = conn_suspended_room c place f
      go false f = owed_room flow (error_wanted 5 (other_code c) c) false b f
  led_room c (LinkTarget.Open place) f = open_room c place f

link_room : (flow : ObservedFlow) (kept : List SentMessage) (c : Command) (receive_link : ReceiveLink) (b : SeenTables) → (after_link flow kept c receive_link b).full ≡ false → b.full ≡ false
link_room flow kept c receive_link b f = led_room flow kept receive_link b c (target_on flow receive_link b) f

pub room_before : (me n : ℕ) (sent : Bool) (kept : List SentMessage) (c : Command) (b : SeenTables) → (tables_after_command (record { at = me; peer = n; sent = sent }) kept c b).full ≡ false → b.full ≡ false
room_before me n sent kept (Rts receive send link) b f =
    let flow : ObservedFlow = record { at = me; peer = n; sent = sent } in
    request_room me n sent b (Rts receive send link) (here_of flow receive send) (there_of flow receive send) (Link link) (asking_acceptance flow (Rts receive send link) receive send (is_of_sexes receive send) (Link link) b) f
room_before me n sent kept (Str send receive size) b f =
    let flow : ObservedFlow = record { at = me; peer = n; sent = sent } in
    request_room me n sent b (Str send receive size) (here_of flow send receive) (there_of flow send receive) (Size size) (asking_acceptance flow (Str send receive size) send receive (is_of_sexes receive send) (Size size) b) f
room_before me n sent kept (Cls my your) b f =
    let flow : ObservedFlow = record { at = me; peer = n; sent = sent } in
    let acceptance = closing_acceptance flow (Cls my your) my your b in
    cls_room me n sent b (Cls my your) (here_of flow my your) (there_of flow my your) acceptance
    (right_cls_room flow kept (conn_of me n (here_of flow my your) (there_of flow my your) b.conns) acceptance (after_cls flow (Cls my your) (here_of flow my your) (there_of flow my your) acceptance b) f)
room_before me n sent kept (Eco byte) b f =
    fact_room me n (FactKind.Asks sent) b (due_room (facts_now me n (FactKind.Asks sent) b) (record { at = me; peer = n; host = not sent; wanted = ExpectedReply.Echo byte; mandatory = true }) f)
room_before me n sent kept (Erp byte) b f =
    sym (reply_room (record { at = me; peer = n; sent = sent }) (Erp byte) b) ∙ echo_room me n sent (after_reply (record { at = me; peer = n; sent = sent }) (Erp byte) b) f
room_before me n sent kept (Err code shown) b f = go (is_error_admitted (record { at = me; peer = n; sent = sent }) code shown b) f
  where
    flow : ObservedFlow
    flow = record { at = me; peer = n; sent = sent }

    go : (x : Bool) → (if x then b else after_reply flow (Err code shown) b).full ≡ false → b.full ≡ false
    go true f = f
    go false f = sym (reply_room flow (Err code shown) b) ∙ f
room_before me n sent kept (Command.All link messages bits) b f =
    let flow : ObservedFlow = record { at = me; peer = n; sent = sent } in link_room flow kept (Command.All link messages bits) (from_receiver flow link) b f
room_before me n sent kept (Gvb link fm fb) b f = let flow : ObservedFlow = record { at = me; peer = n; sent = sent } in link_room flow kept (Gvb link fm fb) (from_receiver flow link) b f
room_before me n sent kept (Ret link messages bits) b f = let flow : ObservedFlow = record { at = me; peer = n; sent = sent } in link_room flow kept (Ret link messages bits) (from_sender flow link) b f
room_before me n sent kept (Inr link) b f = let flow : ObservedFlow = record { at = me; peer = n; sent = sent } in link_room flow kept (Inr link) (from_receiver flow link) b f
room_before me n sent kept (Ins link) b f = let flow : ObservedFlow = record { at = me; peer = n; sent = sent } in link_room flow kept (Ins link) (from_sender flow link) b f
room_before me n sent kept Nop b f = f
room_before me n sent kept Rst b f = f
room_before me n sent kept Rrp b f = f

-- ---- nothing waits: no reply is left out

any_at : {A : Type 0} (t : A → Bool) (xs : List A) (i : ℕ) (d : A) → i < length xs → t (get_or xs i d) ≡ true → list_any t xs ≡ true
any_at t [] i d inside k = absurd (omega arith)
any_at t (x ∷ xs) zero d inside k = ap (λ (b : Bool). b || list_any t xs) k
any_at t (x ∷ xs) (suc i) d inside k = ap (λ (b : Bool). t x || b) (any_at t xs i d (omega arith) k) ∙ or_true (t x)
  where
    or_true : (b : Bool) → (b || true) ≡ true
    or_true true = refl
    or_true false = refl

pub none_left_out : (me n : ℕ) (m : Ends) (b : SeenTables) → OwedBy me n m [] b → reply_left_out me n b ≡ None
none_left_out me n m b owed = go (position (is_owed me n) b.pending_replies) refl
  where
    unowed : list_any (is_owed me n) b.pending_replies ≡ false
    unowed = none_owed (is_due_of me n true) (gone_of m) b.pending_replies owed

    go : (o : Option ℕ) → position (is_owed me n) b.pending_replies ≡ o → reply_at b.pending_replies o ≡ None
    go None e = refl
    go (Some i) e =
        let at = position-Some (is_owed me n) b.pending_replies i (due_at b.pending_replies i) e in
        let nay : true ≡ false = sym (any_at (is_owed me n) b.pending_replies i (due_at b.pending_replies i) at.0 at.1) ∙ unowed in absurd (cc nay)

pub all_said_meets : (me n : ℕ) (m : Ends) (b : SeenTables) → Meets me n m [] b → Meets me n m [] (after_all_said me n b)
all_said_meets me n m b meets = same_conns me n m [] [] b (after_all_said me n b) refl (λ on link k. unadmitted on link ∙ k) refl meets
  where
    -- a link is no admission
    unadmitted : (on : Bool) (link : ℕ) → is_marked me n (FactKind.LinkSuspended on link) (after_all_said me n b) ≡ is_marked me n (FactKind.LinkSuspended on link) b
    unadmitted on link = any_fewer (is_topic me n (FactKind.LinkSuspended on link)) (is_admission me n) b.known_facts apart
      where
        no_link : (x : FactKind) → is_admission_of x ≡ true → same_topic x (FactKind.LinkSuspended on link) ≡ false
        no_link (FactKind.LinkSuspended host l) e = absurd (cc e)
        no_link (FactKind.EchoesRest host) e = absurd (cc e)
        no_link (FactKind.Asks host) e = absurd (cc e)
        no_link (FactKind.Admits host bytes) e = refl

        apart : (x : Fact) → is_admission me n x ≡ true → is_topic me n (FactKind.LinkSuspended on link) x ≡ false
        apart x e = go (x.at == me && x.peer == n) (no_link x.fact_kind (and_parts (x.at == me && x.peer == n) (is_admission_of x.fact_kind) e).1)
          where
            go : (y : Bool) → same_topic x.fact_kind (FactKind.LinkSuspended on link) ≡ false → (y && same_topic x.fact_kind (FactKind.LinkSuspended on link)) ≡ false
            go true f = f
            go false f = refl
