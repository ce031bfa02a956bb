-- Each command that is not found to be wrong does the same to the connections that are judged and to those that are followed.
use Rattle.std.proofs.Common.{◌≡◌, ◌⊎◌, inl, inr, ℕ, zero, suc, Bool, true, false, not, ◌&&◌, nat_le, if◌then◌else◌, List, [], ◌∷◌, ◌++◌, length, Option, None, Some, refl, sym, ap, ◌∙◌, subst, arith}
use Rattle.std.specs.Prelude.{nat_lt, slice_set}
use Rattle.std.specs.List.{list_any, remove}
use Rattle.std.proofs.lemmas.Bool.Decides.{nat_tests}
use Rattle.std.proofs.lemmas.List.Quantifiers.{position-Some}
use Rattle.ncp_wire.specs.declared.command.Command.{Command}
use Rattle.ncp_wire.specs.declared.command.Command.TheVariants.{Nop, Rts, Str, Cls, Gvb, Ret, Inr, Ins, Eco, Erp, Err, Rst, Rrp}
use Rattle.ncp_monitor.specs.declared.conn_tables.TheConstants.{MAX_TABLE_ROWS}
use Rattle.ncp_monitor.specs.declared.finding.Rule.{Rule}
use Rattle.ncp_interface.specs.declared.sent_message.SentMessage.{SentMessage}
use Rattle.ncp_monitor.specs.declared.link_target.ReceiveLink.{ReceiveLink}
use Rattle.ncp_monitor.specs.declared.link_target.LinkTarget.{LinkTarget}
use Rattle.ncp_monitor.specs.declared.conn_state.ConnState.{ConnState}
use Rattle.ncp_interface.specs.declared.request.Request.{Request}
use Rattle.ncp_interface.specs.declared.request.Request.TheVariants.{Link, Size}
use Rattle.ncp_monitor.specs.declared.conn_state.Fact.{Fact}
use Rattle.ncp_monitor.specs.declared.observed_flow.ObservedFlow.{ObservedFlow}
use Rattle.ncp_monitor.specs.declared.observed_flow.Acceptance.{Acceptance}
use Rattle.ncp_monitor.specs.declared.observed_flow.Acceptance.TheVariants.{Right, Refused, Unclear}
use Rattle.ncp_monitor.specs.ConnStates.{SeenTables, with_cls_sent, with_request_sent, unasked_conn, is_of_sockets, has_link, conn_at_index, conn_found, conn_of, index_with_sockets}
use Rattle.ncp_interface.specs.Sockets.{is_senders, is_of_sexes}
use Rattle.ncp_monitor.specs.Requests.{broken, range_rule, request_acceptance, asks, tables_after_request, cls_acceptance, cls_rule, closes_side, after_cls}
use Rattle.ncp_monitor.specs.Allocation.{from_receiver, from_sender, index_on_receive_link, target_on, with_grant, recalled, with_return, demuxed_rule, led_numbers, number_rules, returned_rules, demuxed_after, after_open, after_link}
use Rattle.ncp_monitor.specs.Speaking.{after_right_cls, command_rule, tables_after_command}
use Rattle.ncp_follow.specs.declared.followed_conn.FollowedConn.{FollowedConn}
use Rattle.ncp_follow.specs.declared.tracks.TheConstants.{MAX_TRACKS}
use Rattle.ncp_follow.specs.declared.tables.Tables.{Tables}
use Rattle.ncp_follow.specs.declared.observation.Observation.{Observation}
use Rattle.ncp_follow.specs.Amounts.{with_more, with_less}
use Rattle.ncp_follow.specs.Tracks.{new_track, has_left, track_at}
use Rattle.ncp_follow.specs.Tables.{index_at_link, after_request, is_right, closed_at, pair_index, granted_of, granted_at, returned_of, returned_at}
use Rattle.ncp_follow.specs.Followed.{after_command}
use Rattle.ncp_proof_follow_tables.proofs.Besides.{besides_at, besides_set, besides_here}
use Rattle.ncp_proof_follow_tables.proofs.SameConns.{SameConn, SameConns, link_same, Calm}
use Rattle.ncp_proof_follow_tables.proofs.SameAsked.{IsAwake, IsAsker, AskedRight, asked_right, asks_same, ClosedRight, closed_right, closes_same}
use Rattle.ncp_proof_follow_tables.proofs.SameLinks.{OtherNumbers, numbers_same, OneSet, Led, led, RetRight, all_set, gvb_set, ret_right, ret_set, with_grant_numbers, recalled_numbers, with_return_numbers}
use Rattle.ncp_proof_follow_tables.proofs.Calmly.{is_link_mark, NoLinkSuspended, none_suspended, Calmly, eco_calmly, erp_calmly, err_calmly, right_cls_calmly}

-- the same connections, in the same order; and no link is suspended
pub record Same (b : SeenTables) (t : Tables) : Type 0 where
  pub conns : SameConns b.conns t.tracks
  pub calm : NoLinkSuspended b

pub calmly_same : (b now : SeenTables) (t : Tables) → Calmly b now → Same b t → Same now t
calmly_same b now t k s = record { conns = subst (λ (ls : List ConnState). SameConns ls t.tracks) (sym k.conns) s.conns; calm = k.calm s.calm }

module _ (number at peer : ℕ) (sent : Bool) (kept : List SentMessage) (roomy : (n : ℕ) → nat_lt n MAX_TABLE_ROWS ≡ true → nat_lt n MAX_TRACKS ≡ true) where
  abbrev pub flow : ObservedFlow
  flow = record { at = at; peer = peer; sent = sent }

  abbrev pub observation : Observation
  observation = record { number = number; at = at; peer = peer; sent = sent }

  pub awake : (local remote : ℕ) (b : SeenTables) (t : Tables) → Same b t → IsAwake number at peer sent (conn_of at peer local remote b.conns)
  awake local remote b t s = go (index_with_sockets at peer local remote b.conns) refl
    where
      go : (o : Option ℕ) → index_with_sockets at peer local remote b.conns ≡ o → (conn : ConnState) → conn_found b.conns o ≡ Some conn → conn.suspended ≡ false
      go None e conn f = absurd (cc f)
      go (Some p) e conn f =
          let one : SameConn (conn_at_index b.conns p) (track_at t.tracks p) =
          besides_at SameConn b.conns t.tracks p (unasked_conn 0 0 0 0) (new_track 0 0 0 0) (position-Some (is_of_sockets at peer local remote) b.conns p (unasked_conn 0 0 0 0) e).0 s.conns in
          let is : conn_at_index b.conns p ≡ conn = cc f in ap (λ (x : ConnState). x.suspended) (sym is) ∙ one.awake

  quiet : (b : SeenTables) → NoLinkSuspended b → Calm at peer b
  quiet b c host link = none_suspended at peer host link b c

  -- ---- requests

  ask_conns : (local remote : ℕ) (request : Request) (b : SeenTables) (o : Option ℕ) → (asks flow local remote request b o).full ≡ false → NoLinkSuspended b → NoLinkSuspended (asks flow local remote request b o)
  ask_conns local remote request b None f c = go (nat_lt (length b.conns) MAX_TABLE_ROWS)
    where
      new : ConnState
      new = with_request_sent (record (unasked_conn at peer local remote) { since = b.number }) request

      go : (x : Bool) → NoLinkSuspended (if x then record b { conns = b.conns ++ new ∷ [] } else record b { full = true })
      go true = c
      go false = c
  ask_conns local remote request b (Some p) f c = c

  request_same : (c : Command) (local remote : ℕ) (right : Bool) (request : Request) (b : SeenTables) (t now : Tables) → Same b t → (right ≡ true → IsAsker number at peer sent request local)
      → broken (request_acceptance flow c local remote right request b) ≡ None → (tables_after_request flow c local remote request (request_acceptance flow c local remote right request b) b).full ≡ false
      → (AskedRight number at peer sent c local remote right request b → now ≡ after_request observation local remote request t)
      → Same (tables_after_request flow c local remote request (request_acceptance flow c local remote right request b) b) now
  request_same c local remote right request b t now s sex e full is =
      subst (λ (v : Acceptance). Same (tables_after_request flow c local remote request v b) now) (sym k.acceptance)
      (subst (λ (x : Tables). Same (asks flow local remote request b place) x) (sym (is k))
      (record { conns = asks_same number at peer sent roomy c local remote right request b t s.conns k (sex k.sexes) room; calm = ask_conns local remote request b place room s.calm }))
    where
      k : AskedRight number at peer sent c local remote right request b
      k = asked_right number at peer sent c local remote b right request (quiet b s.calm) (awake local remote b t s) e

      place : Option ℕ
      place = index_with_sockets at peer local remote b.conns

      room : (asks flow local remote request b place).full ≡ false
      room = subst (λ (v : Acceptance). (tables_after_request flow c local remote request v b).full ≡ false) k.acceptance full

  -- ---- a CLS

  pub cls_unbroken : (c : Command) (local remote : ℕ) (b : SeenTables) (v : Acceptance) → cls_rule flow c local remote kept b v ≡ None → broken v ≡ None
  cls_unbroken c local remote b Right e = refl
  cls_unbroken c local remote b (Refused wrong) e = e
  cls_unbroken c local remote b (Unclear wrong) e = e

  cls_calm : (b : SeenTables) (o : Option ℕ) → NoLinkSuspended b → NoLinkSuspended (closes_side flow b o)
  cls_calm b None c = c
  cls_calm b (Some p) c = go (conn.host_left && conn.peer_left)
    where
      conn : ConnState
      conn = with_cls_sent (conn_at_index b.conns p) sent

      go : (x : Bool) → NoLinkSuspended (if x then record b { conns = remove b.conns p } else record b { conns = slice_set b.conns p conn })
      go true = c
      go false = c

  cls_same : (c : Command) (local remote : ℕ) (b : SeenTables) (t : Tables) → Same b t → cls_rule flow c local remote kept b (cls_acceptance flow c local remote b) ≡ None
      → Same (after_right_cls flow kept (conn_of at peer local remote b.conns) (cls_acceptance flow c local remote b) (after_cls flow c local remote (cls_acceptance flow c local remote b) b)) (closed_at observation t (pair_index at peer local remote t.tracks))
  cls_same c local remote b t s e =
      subst (λ (v : Acceptance). Same (after_right_cls flow kept o v (after_cls flow c local remote v b)) (closed_at observation t (pair_index at peer local remote t.tracks))) (sym k.acceptance)
      (calmly_same closed (after_right_cls flow kept o Right closed) (closed_at observation t (pair_index at peer local remote t.tracks)) (right_cls_calmly flow kept o closed)
      (record { conns = closes_same number at peer sent c local remote b t s.conns k; calm = cls_calm b (index_with_sockets at peer local remote b.conns) s.calm }))
    where
      o : Option ConnState
      o = conn_of at peer local remote b.conns

      k : ClosedRight number at peer sent c local remote b
      k = closed_right number at peer sent c local remote b (awake local remote b t s) (cls_unbroken c local remote b (cls_acceptance flow c local remote b) e)

      closed : SeenTables
      closed = closes_side flow b (index_with_sockets at peer local remote b.conns)

  -- ---- what names a link

  -- those at the place of a link
  linked_there : (receive_link : ReceiveLink) (b : SeenTables) (t : Tables) (p : ℕ) → Same b t → index_on_receive_link flow receive_link b.conns ≡ Some p → SameConn (conn_at_index b.conns p) (track_at t.tracks p)
  linked_there receive_link b t p s e =
      besides_at SameConn b.conns t.tracks p (unasked_conn 0 0 0 0) (new_track 0 0 0 0) (position-Some (has_link at peer receive_link.host receive_link.link) b.conns p (unasked_conn 0 0 0 0) e).0 s.conns

  -- with other numbers here, and the same, or other numbers, there
  numbers_set : (b now : SeenTables) (t after : Tables) (p : ℕ) (l : ConnState) → Same b t → OneSet b now p l → OtherNumbers (conn_at_index b.conns p) l → SameConn (conn_at_index b.conns p) (track_at t.tracks p)
      → (after.tracks ≡ t.tracks) ⊎ ((m : FollowedConn) × (SameConn (conn_at_index b.conns p) m) × (after.tracks ≡ slice_set t.tracks p m)) → Same now after
  numbers_set b now t after p l s o n one how = record {
    conns = subst (λ (ls : List ConnState). SameConns ls after.tracks) (sym o.conns) (go how);
    calm = subst (λ (ms : List Fact). list_any is_link_mark ms ≡ false) (sym o.known_facts) s.calm;
  }
    where
      go : (after.tracks ≡ t.tracks) ⊎ ((m : FollowedConn) × (SameConn (conn_at_index b.conns p) m) × (after.tracks ≡ slice_set t.tracks p m)) → SameConns (slice_set b.conns p l) after.tracks
      go (inl e) = subst (λ (ms : List FollowedConn). SameConns (slice_set b.conns p l) ms) (sym e) (besides_here SameConn b.conns t.tracks p l (new_track 0 0 0 0) (numbers_same (conn_at_index b.conns p) l (track_at t.tracks p) n one) s.conns)
      go (inr (m, same, e)) = subst (λ (ms : List FollowedConn). SameConns (slice_set b.conns p l) ms) (sym e) (besides_set SameConn b.conns t.tracks p l m (numbers_same (conn_at_index b.conns p) l m n same) s.conns)

  -- what is followed of it
  granted_how : (messages bits p : ℕ) (l : ConnState) (t : Tables) → SameConn l (track_at t.tracks p) → (o : Option ℕ)
      → ((if has_left (track_at t.tracks p) sent then t else granted_of p messages bits (track_at t.tracks p) t o).tracks ≡ t.tracks)
      ⊎ ((m : FollowedConn) × (SameConn l m) × ((if has_left (track_at t.tracks p) sent then t else granted_of p messages bits (track_at t.tracks p) t o).tracks ≡ slice_set t.tracks p m))
  granted_how messages bits p l t one o = go (has_left (track_at t.tracks p) sent) o
    where
      m : FollowedConn
      m = track_at t.tracks p

      go : (x : Bool) (o : Option ℕ) → ((if x then t else granted_of p messages bits m t o).tracks ≡ t.tracks) ⊎ ((n : FollowedConn) × (SameConn l n) × ((if x then t else granted_of p messages bits m t o).tracks ≡ slice_set t.tracks p n))
      go true o = inl refl
      go false None = inl refl
      go false (Some q) = inr (record m { left = with_more m.left messages bits }, record { at = one.at; peer = one.peer; local = one.local; remote = one.remote; link = one.link; size = one.size; host_left = one.host_left; peer_left = one.peer_left; awake = one.awake }, refl)

  returned_how : (messages bits p : ℕ) (l : ConnState) (t : Tables) → SameConn l (track_at t.tracks p) → (o : Option ℕ)
      → ((if has_left (track_at t.tracks p) sent then t else returned_of p messages bits (track_at t.tracks p) t o).tracks ≡ t.tracks)
      ⊎ ((m : FollowedConn) × (SameConn l m) × ((if has_left (track_at t.tracks p) sent then t else returned_of p messages bits (track_at t.tracks p) t o).tracks ≡ slice_set t.tracks p m))
  returned_how messages bits p l t one o = go (has_left (track_at t.tracks p) sent) o
    where
      m : FollowedConn
      m = track_at t.tracks p

      go : (x : Bool) (o : Option ℕ) → ((if x then t else returned_of p messages bits m t o).tracks ≡ t.tracks) ⊎ ((n : FollowedConn) × (SameConn l n) × ((if x then t else returned_of p messages bits m t o).tracks ≡ slice_set t.tracks p n))
      go true o = inl refl
      go false None = inl refl
      go false (Some q) = inr (record m { left = with_less m.left messages bits }, record { at = one.at; peer = one.peer; local = one.local; remote = one.remote; link = one.link; size = one.size; host_left = one.host_left; peer_left = one.peer_left; awake = one.awake }, refl)

  led_by : (c : Command) (receive_link : ReceiveLink) (b : SeenTables) (t : Tables) → Same b t → demuxed_rule flow c b (target_on flow receive_link b) ≡ None → Led flow receive_link b
  led_by c receive_link b t s e = led flow c receive_link b (quiet b s.calm) e

  all_same : (link messages bits : ℕ) (b : SeenTables) (t : Tables) → Same b t → command_rule flow kept (Command.All link messages bits) b ≡ None
      → Same (tables_after_command flow kept (Command.All link messages bits) b) (after_command observation (Command.All link messages bits) t)
  all_same link messages bits b t s e =
      subst (λ (x : LinkTarget). Same (demuxed_after flow kept c receive_link b x) (after_command observation c t)) (sym k.target)
      (subst (λ (o : Option ℕ). Same (after_open flow kept c receive_link k.place b) (granted_at observation messages bits t o)) (sym (link_same at peer sent link b.conns t.tracks s.conns ∙ k.found))
      (numbers_set b (after_open flow kept c receive_link k.place b) t (granted_at observation messages bits t (Some k.place)) k.place (with_grant flow messages bits l) s (all_set flow kept b link messages bits k.place) (with_grant_numbers flow messages bits l) one
      (granted_how messages bits k.place l t one (track_at t.tracks k.place).place)))
    where
      c : Command
      c = Command.All link messages bits

      receive_link : ReceiveLink
      receive_link = from_receiver flow link

      k : Led flow receive_link b
      k = led_by c receive_link b t s e

      l : ConnState
      l = conn_at_index b.conns k.place

      one : SameConn l (track_at t.tracks k.place)
      one = linked_there receive_link b t k.place s k.found

  gvb_same : (link messages bits : ℕ) (b : SeenTables) (t : Tables) → Same b t → command_rule flow kept (Gvb link messages bits) b ≡ None → Same (tables_after_command flow kept (Gvb link messages bits) b) t
  gvb_same link messages bits b t s e =
      subst (λ (x : LinkTarget). Same (demuxed_after flow kept (Gvb link messages bits) (from_receiver flow link) b x) t) (sym k.target)
      (numbers_set b (after_open flow kept (Gvb link messages bits) (from_receiver flow link) k.place b) t t k.place (recalled flow messages bits l) s (gvb_set flow kept b link messages bits k.place) (recalled_numbers flow messages bits l)
      (linked_there (from_receiver flow link) b t k.place s k.found) (inl refl))
    where
      k : Led flow (from_receiver flow link) b
      k = led_by (Gvb link messages bits) (from_receiver flow link) b t s e

      l : ConnState
      l = conn_at_index b.conns k.place

  ret_same : (link messages bits : ℕ) (b : SeenTables) (t : Tables) → Same b t → command_rule flow kept (Ret link messages bits) b ≡ None → number_rules flow (Ret link messages bits) b ≡ []
      → Same (tables_after_command flow kept (Ret link messages bits) b) (after_command observation (Ret link messages bits) t)
  ret_same link messages bits b t s e f =
      subst (λ (x : LinkTarget). Same (demuxed_after flow kept c receive_link b x) (after_command observation c t)) (sym k.target)
      (subst (λ (o : Option ℕ). Same (after_open flow kept c receive_link k.place b) (returned_at observation messages bits t o)) (sym place)
      (numbers_set b (after_open flow kept c receive_link k.place b) t (returned_at observation messages bits t (Some k.place)) k.place (with_return flow messages bits l) s (ret_set flow kept b link messages bits k.place right none) (with_return_numbers flow messages bits l) one
      (returned_how messages bits k.place l t one (track_at t.tracks k.place).place)))
    where
      c : Command
      c = Ret link messages bits

      receive_link : ReceiveLink
      receive_link = from_sender flow link

      k : Led flow receive_link b
      k = led_by c receive_link b t s e

      l : ConnState
      l = conn_at_index b.conns k.place

      one : SameConn l (track_at t.tracks k.place)
      one = linked_there receive_link b t k.place s k.found

      none : returned_rules flow c messages bits l b.pending_replies ≡ []
      none = subst (λ (x : LinkTarget). led_numbers flow c messages bits b x ≡ []) k.target f

      right : RetRight flow kept b link messages bits k.place
      right = ret_right flow kept b link messages bits k.place (subst (λ (x : LinkTarget). demuxed_rule flow c b x ≡ None) k.target e) none

      twice : (x : Bool) → not (not x) ≡ x
      twice true = refl
      twice false = refl

      place : index_at_link at peer sent link t.tracks ≡ Some k.place
      place = ap (λ (x : Bool). index_at_link at peer x link t.tracks) (sym (twice sent)) ∙ link_same at peer (not sent) link b.conns t.tracks s.conns ∙ k.found

  -- an INR, or an INS, is only judged
  hint_same : (c : Command) (receive_link : ReceiveLink) (b : SeenTables) (t : Tables) → Same b t → demuxed_rule flow c b (target_on flow receive_link b) ≡ None → ((p : ℕ) → after_open flow kept c receive_link p b ≡ b) → Same (after_link flow kept c receive_link b) t
  hint_same c receive_link b t s e still =
      let k = led_by c receive_link b t s e in
      subst (λ (x : LinkTarget). Same (demuxed_after flow kept c receive_link b x) t) (sym k.target) (subst (λ (x : SeenTables). Same x t) (sym (still k.place)) s)

-- ---- requests and CLS, by who speaks

pub sexes : (receive send : ℕ) → is_of_sexes receive send ≡ true → (is_senders receive ≡ false) × (is_senders send ≡ true)
sexes receive send e = go (is_senders receive) (is_senders send) e
  where
    go : (r s : Bool) → (not r && s) ≡ true → (r ≡ false) × (s ≡ true)
    go false true e = (refl, refl)
    go false false e = absurd (cc e)
    go true s e = absurd (cc e)

in_range : (c : Command) (link : ℕ) → range_rule c (Link link) ≡ None → (nat_le 2 link ≡ true) × (nat_le link 71 ≡ true)
in_range c link e = go (nat_le 2 link) (nat_le link 71) e
  where
    go : (x y : Bool) → (if x && y then None else Some (Rule.LinkRange c)) ≡ None → (x ≡ true) × (y ≡ true)
    go true true e = (refl, refl)
    go true false e = absurd (cc e)
    go false y e = absurd (cc e)

has_size : (c : Command) (size : ℕ) → range_rule c (Size size) ≡ None → nat_lt 0 size ≡ true
has_size c zero e = absurd (cc e)
has_size c (suc size) e = grind (arith, nat_tests)

module _ (number at peer : ℕ) (kept : List SentMessage) (roomy : (n : ℕ) → nat_lt n MAX_TABLE_ROWS ≡ true → nat_lt n MAX_TRACKS ≡ true) where
  pub link_is_right : (c : Command) (receive send link : ℕ) → is_of_sexes receive send ≡ true → range_rule c (Link link) ≡ None → is_right receive send (Request.Link link) ≡ true
  link_is_right c receive send link e f =
      let r = in_range c link f in
      ap (λ (x : Bool). x && nat_le 2 link && nat_le link 71) e ∙ ap (λ (x : Bool). x && nat_le link 71) r.0 ∙ r.1

  pub size_is_right : (c : Command) (receive send size : ℕ) → is_of_sexes receive send ≡ true → range_rule c (Size size) ≡ None → is_right receive send (Request.Size size) ≡ true
  size_is_right c receive send size e f = ap (λ (x : Bool). x && nat_lt 0 size) e ∙ has_size c size f

  pub rts_same : (sent : Bool) (receive send link : ℕ) (b : SeenTables) (t : Tables) → Same b t → command_rule (flow number at peer sent kept roomy) kept (Rts receive send link) b ≡ None
      → (tables_after_command (flow number at peer sent kept roomy) kept (Rts receive send link) b).full ≡ false
      → Same (tables_after_command (flow number at peer sent kept roomy) kept (Rts receive send link) b) (after_command (observation number at peer sent kept roomy) (Rts receive send link) t)
  rts_same true receive send link b t s e f =
      request_same number at peer true kept roomy (Rts receive send link) receive send (is_of_sexes receive send) (Link link) b t (after_command (observation number at peer true kept roomy) (Rts receive send link) t) s
      (λ x. (sexes receive send x).0) e f
      (λ k. ap (λ (x : Bool). if not x then t else after_request (observation number at peer true kept roomy) receive send (Request.Link link) t) (link_is_right (Rts receive send link) receive send link k.sexes k.range))
  rts_same false receive send link b t s e f =
      request_same number at peer false kept roomy (Rts receive send link) send receive (is_of_sexes receive send) (Link link) b t (after_command (observation number at peer false kept roomy) (Rts receive send link) t) s
      (λ x. (sexes receive send x).1) e f
      (λ k. ap (λ (x : Bool). if not x then t else after_request (observation number at peer false kept roomy) send receive (Request.Link link) t) (link_is_right (Rts receive send link) receive send link k.sexes k.range))

  pub str_same : (sent : Bool) (send receive size : ℕ) (b : SeenTables) (t : Tables) → Same b t → command_rule (flow number at peer sent kept roomy) kept (Str send receive size) b ≡ None
      → (tables_after_command (flow number at peer sent kept roomy) kept (Str send receive size) b).full ≡ false
      → Same (tables_after_command (flow number at peer sent kept roomy) kept (Str send receive size) b) (after_command (observation number at peer sent kept roomy) (Str send receive size) t)
  str_same true send receive size b t s e f =
      request_same number at peer true kept roomy (Str send receive size) send receive (is_of_sexes receive send) (Size size) b t (after_command (observation number at peer true kept roomy) (Str send receive size) t) s
      (λ x. tt) e f
      (λ k. ap (λ (x : Bool). if not x then t else after_request (observation number at peer true kept roomy) send receive (Request.Size size) t) (size_is_right (Str send receive size) receive send size k.sexes k.range))
  str_same false send receive size b t s e f =
      request_same number at peer false kept roomy (Str send receive size) receive send (is_of_sexes receive send) (Size size) b t (after_command (observation number at peer false kept roomy) (Str send receive size) t) s
      (λ x. tt) e f
      (λ k. ap (λ (x : Bool). if not x then t else after_request (observation number at peer false kept roomy) receive send (Request.Size size) t) (size_is_right (Str send receive size) receive send size k.sexes k.range))

  pub closing_same : (sent : Bool) (my your : ℕ) (b : SeenTables) (t : Tables) → Same b t → command_rule (flow number at peer sent kept roomy) kept (Cls my your) b ≡ None
      → Same (tables_after_command (flow number at peer sent kept roomy) kept (Cls my your) b) (after_command (observation number at peer sent kept roomy) (Cls my your) t)
  closing_same true my your b t s e = cls_same number at peer true kept roomy (Cls my your) my your b t s e
  closing_same false my your b t s e = cls_same number at peer false kept roomy (Cls my your) your my b t s e

  -- ---- all commands

  pub command_same : (sent : Bool) (c : Command) (b : SeenTables) (t : Tables) → Same b t → command_rule (flow number at peer sent kept roomy) kept c b ≡ None → number_rules (flow number at peer sent kept roomy) c b ≡ []
      → (tables_after_command (flow number at peer sent kept roomy) kept c b).full ≡ false → Same (tables_after_command (flow number at peer sent kept roomy) kept c b) (after_command (observation number at peer sent kept roomy) c t)
  command_same sent Nop b t s e n f = s
  command_same sent (Rts receive send link) b t s e n f = rts_same sent receive send link b t s e f
  command_same sent (Str send receive size) b t s e n f = str_same sent send receive size b t s e f
  command_same sent (Cls my your) b t s e n f = closing_same sent my your b t s e
  command_same sent (Command.All link messages bits) b t s e n f = all_same number at peer sent kept roomy link messages bits b t s e
  command_same sent (Gvb link fm fb) b t s e n f = gvb_same number at peer sent kept roomy link fm fb b t s e
  command_same sent (Ret link messages bits) b t s e n f = ret_same number at peer sent kept roomy link messages bits b t s e n
  command_same sent (Inr link) b t s e n f = hint_same number at peer sent kept roomy (Inr link) (from_receiver (flow number at peer sent kept roomy) link) b t s e (λ p. refl)
  command_same sent (Ins link) b t s e n f = hint_same number at peer sent kept roomy (Ins link) (from_sender (flow number at peer sent kept roomy) link) b t s e (λ p. refl)
  command_same sent (Eco byte) b t s e n f = calmly_same b (tables_after_command (flow number at peer sent kept roomy) kept (Eco byte) b) t (eco_calmly (flow number at peer sent kept roomy) byte b) s
  command_same sent (Erp byte) b t s e n f = calmly_same b (tables_after_command (flow number at peer sent kept roomy) kept (Erp byte) b) t (erp_calmly (flow number at peer sent kept roomy) (Erp byte) b) s
  command_same sent (Err code bytes) b t s e n f = calmly_same b (tables_after_command (flow number at peer sent kept roomy) kept (Err code bytes) b) t (err_calmly (flow number at peer sent kept roomy) code bytes b) s
  command_same sent Rst b t s e n f = s
  command_same sent Rrp b t s e n f = s
