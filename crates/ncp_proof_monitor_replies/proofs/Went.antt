-- A command of the host that names no link is sent: it breaks no rule, and after it the observed state
-- matches the host's, and the pending replies are the queued ones.
use Rattle.std.proofs.Common.{◌≡◌, ℕ, Bool, true, false, not, ◌||◌, if◌then◌else◌, List, [], ◌∷◌, ◌++◌, Option, None, Some, ◌⊎◌, inl, inr, refl, sym, ap, ◌∙◌, subst}
use Rattle.std.proofs.lemmas.Bool.{and_parts}
use Rattle.ncp_wire.specs.declared.command.Command.{Command}
use Rattle.ncp_wire.specs.declared.command.Command.TheVariants.{Nop, Rts, Str, Cls, Gvb, Ret, Inr, Ins, Eco, Erp, Err, Rst, Rrp}
use Rattle.ncp_model.specs.Ends.{Ends, link_of}
use Rattle.ncp_monitor.specs.declared.pending_reply.ExpectedReply.{ExpectedReply}
use Rattle.ncp_monitor.specs.declared.finding.Rule.{Rule}
use Rattle.ncp_interface.specs.declared.sent_message.SentMessage.{SentMessage}
use Rattle.ncp_monitor.specs.declared.conn_state.ConnState.{ConnState}
use Rattle.ncp_interface.specs.declared.request.Request.{Request}
use Rattle.ncp_interface.specs.declared.request.Request.TheVariants.{Link, Size}
use Rattle.ncp_monitor.specs.declared.conn_state.FactKind.{FactKind}
use Rattle.ncp_monitor.specs.declared.observed_flow.ObservedFlow.{ObservedFlow}
use Rattle.ncp_monitor.specs.declared.observed_flow.Acceptance.{Acceptance}
use Rattle.ncp_monitor.specs.declared.observed_flow.Acceptance.TheVariants.{Right, Refused, Unclear}
use Rattle.ncp_monitor.specs.ConnStates.{SeenTables, has_sent_cls, conn_of, index_with_sockets, is_marked, facts_now, facts_no_more}
use Rattle.ncp_interface.specs.Sockets.{is_senders, is_of_sexes}
use Rattle.ncp_monitor.specs.Texts.{is_error_admitted}
use Rattle.ncp_monitor.specs.Requests.{broken, range_rule, link_suspended, left_acceptance, request_acceptance, tables_after_request, text_out_rule, cls_rule, closes_side, after_cls}
use Rattle.ncp_monitor.specs.Speaking.{eco_rule, answers_echo, after_right_cls, after_reply, command_rule, tables_after_command}
use Rattle.ncp_monitor.proofs.Shapes.{Say, Ask, Leave}
use Rattle.ncp_monitor.proofs.LinkOrder.{Sockets}
use Rattle.ncp_monitor.proofs.BooksAt.{conn_first}
use Rattle.ncp_monitor.proofs.Seeing.{is_of, number_in}
use Rattle.ncp_proof_monitor_allocation.proofs.OwnMoves.{says_of, all_says}
use Rattle.ncp_proof_monitor_allocation.proofs.SeenTables.{conn_seen, is_suspended, suspended_of}
use Rattle.ncp_proof_monitor_allocation.proofs.Meets.{Meets, same_conns, owed_meets, marked_meets, hidden_verdict, hidden_ask, hidden_leave, ask_right, right_ask, right_leave}
use Rattle.ncp_proof_monitor_allocation.proofs.Replying.{links_stay, reply_meets}
use Rattle.ncp_proof_monitor_allocation.proofs.Plain.{Plain}
use Rattle.ncp_proof_monitor_allocation.proofs.TextErrors.{is_text_error}
use Rattle.ncp_proof_monitor_replies.proofs.OwedItems.{item_of, sent_suspended, links_sent, OwedBy}
use Rattle.ncp_proof_monitor_replies.proofs.OwedSteps.{owed_said, own_reply_right}
use Rattle.ncp_proof_monitor_replies.proofs.OwedGoes.{owed_ask_unclear, owed_ask_right, owed_leave_unclear, owed_leave_right, owed_eco, owed_erp, owed_error}
use Rattle.ncp_proof_monitor_replies.proofs.AfterCls.{right_cls_is, cls_meets_so}

module _ (me n : ℕ) (m : Ends) where
  abbrev by_us : ObservedFlow
  by_us = record { at = me; peer = n; sent = true }

  -- a command about no connection is sent
  pub silent_goes : (c : Command) (ws : List Command) (b : SeenTables) → says_of c ≡ [] → Meets me n m (c ∷ ws) b → Meets me n m ws b
  silent_goes c ws b s meets = same_conns me n m (c ∷ ws) ws b b refl (λ on link k. k) (sym (ap (λ (x : List (Sockets × Say)). x ++ all_says ws) s)) meets

  -- ---- a request: its connection or its link is suspended, or it is right

  pub data AskOut (c : Command) (p : Sockets) (request : Request) (b : SeenTables) : Type 0 where
    AskHidden : (suspended_of me n b p ≡ true) ⊎ (link_suspended by_us request b ≡ true) → request_acceptance by_us c p.0 p.1 true request b ≡ Unclear None → AskOut c p request b
    AskRight : suspended_of me n b p ≡ false → link_suspended by_us request b ≡ false → request_acceptance by_us c p.0 p.1 true request b ≡ Right → AskOut c p request b

  pub ask_out : (c : Command) (ws : List Command) (p : Sockets) (request : Request) (b : SeenTables) → says_of c ≡ (p, Ask (number_in request)) ∷ [] → is_of (is_senders p.0) true request ≡ true → range_rule c request ≡ None
      → Meets me n m (c ∷ ws) b → AskOut c p request b
  ask_out c ws p request b said sex range meets = go (suspended_of me n b p) (link_suspended by_us request b) refl refl
    where
      go : (r k : Bool) → suspended_of me n b p ≡ r → link_suspended by_us request b ≡ k → AskOut c p request b
      go true k x y = AskHidden (inl x) (hidden_verdict me n m c ws p request b said range (inl x))
      go false true x y = AskHidden (inr y) (hidden_verdict me n m c ws p request b said range (inr y))
      go false false x y = AskRight x y (ask_right me n m c ws p request b said sex range x y meets)

  pub record AskWent (c : Command) (ws : List Command) (p : Sockets) (request : Request) (right : Bool) (b : SeenTables) : Type 0 where
    pub none : broken (request_acceptance by_us c p.0 p.1 right request b) ≡ None
    pub meets : Meets me n m ws (tables_after_request by_us c p.0 p.1 request (request_acceptance by_us c p.0 p.1 right request b) b)
    pub owed : OwedBy me n m ws (tables_after_request by_us c p.0 p.1 request (request_acceptance by_us c p.0 p.1 right request b) b)

  ask_went : (c : Command) (ws : List Command) (p : Sockets) (request : Request) (b : SeenTables) → says_of c ≡ (p, Ask (number_in request)) ∷ [] → item_of (sent_suspended me n b) (links_sent me n b) c ≡ [] → is_of (is_senders p.0) true request ≡ true
      → range_rule c request ≡ None → (tables_after_request by_us c p.0 p.1 request (request_acceptance by_us c p.0 p.1 true request b) b).full ≡ false → Meets me n m (c ∷ ws) b → OwedBy me n m (c ∷ ws) b → AskWent c ws p request true b
  ask_went c ws p request b said item sex range room meets owed = go (ask_out c ws p request b said sex range meets)
    where
      with_acceptance : (v : Acceptance) → request_acceptance by_us c p.0 p.1 true request b ≡ v → broken v ≡ None
          → ((tables_after_request by_us c p.0 p.1 request v b).full ≡ false → Meets me n m ws (tables_after_request by_us c p.0 p.1 request v b) × OwedBy me n m ws (tables_after_request by_us c p.0 p.1 request v b)) → AskWent c ws p request true b
      with_acceptance v is none k =
          let both = k (subst (λ (x : Acceptance). (tables_after_request by_us c p.0 p.1 request x b).full ≡ false) is room) in
          record {
            none = ap broken is ∙ none;
            meets = subst (λ (x : Acceptance). Meets me n m ws (tables_after_request by_us c p.0 p.1 request x b)) (sym is) both.0;
            owed = subst (λ (x : Acceptance). OwedBy me n m ws (tables_after_request by_us c p.0 p.1 request x b)) (sym is) both.1;
          }

      go : AskOut c p request b → AskWent c ws p request true b
      go (AskHidden h is) = with_acceptance (Unclear None) is refl (λ f. (hidden_ask me n m c ws p request b said sex f meets, owed_ask_unclear me n m c ws p request b item f owed))
      go (AskRight x y is) = with_acceptance Right is refl (λ f. (right_ask me n m c ws p request b said sex x y f meets, owed_ask_right me n m c ws p request b item sex f owed))

  -- the same for any `right` that is true
  of_sexes : (c : Command) (ws : List Command) (p : Sockets) (request : Request) (right : Bool) (b : SeenTables) → right ≡ true → says_of c ≡ (p, Ask (number_in request)) ∷ [] → item_of (sent_suspended me n b) (links_sent me n b) c ≡ [] → is_of (is_senders p.0) true request ≡ true
      → range_rule c request ≡ None → (tables_after_request by_us c p.0 p.1 request (request_acceptance by_us c p.0 p.1 right request b) b).full ≡ false → Meets me n m (c ∷ ws) b → OwedBy me n m (c ∷ ws) b → AskWent c ws p request right b
  of_sexes c ws p request true b e said item sex range room meets owed = ask_went c ws p request b said item sex range room meets owed
  of_sexes c ws p request false b e said item sex range room meets owed = absurd (cc e)

  -- ---- a CLS: its connection is suspended, or it is right

  pub data LeaveOut (c : Command) (p : Sockets) (b : SeenTables) : Type 0 where
    LeaveHidden : suspended_of me n b p ≡ true → left_acceptance by_us c (conn_of me n p.0 p.1 b.conns) ≡ Unclear None → LeaveOut c p b
    LeaveRight : suspended_of me n b p ≡ false → left_acceptance by_us c (conn_of me n p.0 p.1 b.conns) ≡ Right → LeaveOut c p b

  pub leave_out : (c : Command) (ws : List Command) (p : Sockets) (b : SeenTables) → says_of c ≡ (p, Leave) ∷ [] → Meets me n m (c ∷ ws) b → LeaveOut c p b
  leave_out c ws p b said meets = go (suspended_of me n b p) refl
    where
      hidden : (o : Option ConnState) → is_suspended o ≡ true → left_acceptance by_us c o ≡ Unclear None
      hidden None r = absurd (cc r)
      hidden (Some conn) r = ap (λ (x : Bool). if x then Unclear None else if has_sent_cls conn true then Unclear (Some (Rule.ClsAgain c conn.since)) else Right) r

      go : (r : Bool) → suspended_of me n b p ≡ r → LeaveOut c p b
      go true r = LeaveHidden r (ap (left_acceptance by_us c) (conn_first me n p.0 p.1 b.conns) ∙ hidden (conn_seen me n b p) r)
      go false r = LeaveRight r (right_leave me n m c ws p b said r meets).right

  pub record LeaveWent (my your : ℕ) (ws : List Command) (kept : List SentMessage) (v : Acceptance) (b : SeenTables) : Type 0 where
    pub none : cls_rule by_us (Cls my your) my your kept b v ≡ None
    pub meets : Meets me n m ws (after_right_cls by_us kept (conn_of me n my your b.conns) v (after_cls by_us (Cls my your) my your v b))
    pub owed : OwedBy me n m ws (after_right_cls by_us kept (conn_of me n my your b.conns) v (after_cls by_us (Cls my your) my your v b))

  leave_went : (my your : ℕ) (ws : List Command) (kept : List SentMessage) (b : SeenTables) → text_out_rule by_us (Cls my your) kept b (conn_of me n my your b.conns) ≡ None → Plain me n b
      → (after_right_cls by_us kept (conn_of me n my your b.conns) (left_acceptance by_us (Cls my your) (conn_of me n my your b.conns)) (after_cls by_us (Cls my your) my your (left_acceptance by_us (Cls my your) (conn_of me n my your b.conns)) b)).full ≡ false
      → Meets me n m (Cls my your ∷ ws) b → OwedBy me n m (Cls my your ∷ ws) b → LeaveWent my your ws kept (left_acceptance by_us (Cls my your) (conn_of me n my your b.conns)) b
  leave_went my your ws kept b out plain room meets owed = go (leave_out (Cls my your) ws (my, your) b refl meets)
    where
      conn : Option ConnState
      conn = conn_of me n my your b.conns

      printed_as : (v : Acceptance) → left_acceptance by_us (Cls my your) (conn_of me n my your b.conns) ≡ v → ((after_right_cls by_us kept conn v (after_cls by_us (Cls my your) my your v b)).full ≡ false → LeaveWent my your ws kept v b)
          → LeaveWent my your ws kept (left_acceptance by_us (Cls my your) (conn_of me n my your b.conns)) b
      printed_as v e k = subst (λ (x : Acceptance). LeaveWent my your ws kept x b) (sym e) (k (subst (λ (x : Acceptance). (after_right_cls by_us kept conn x (after_cls by_us (Cls my your) my your x b)).full ≡ false) e room))

      go : LeaveOut (Cls my your) (my, your) b → LeaveWent my your ws kept (left_acceptance by_us (Cls my your) (conn_of me n my your b.conns)) b
      go (LeaveHidden r is) =
          printed_as (Unclear None) is (λ f. record {
            none = refl;
            meets = hidden_leave me n m (Cls my your) ws (my, your) b refl f meets;
            owed = owed_leave_unclear me n m my your ws b plain meets.linked r f owed;
          })
      go (LeaveRight r is) =
          printed_as Right is (λ f. record {
            none = out;
            meets = cls_meets_so me n m ws true conn (closes_side by_us b (index_with_sockets me n my your b.conns)) (after_right_cls by_us kept conn Right (closes_side by_us b (index_with_sockets me n my your b.conns)))
                (right_cls_is me n kept true conn (closes_side by_us b (index_with_sockets me n my your b.conns))) (right_leave me n m (Cls my your) ws (my, your) b refl r meets).meets;
            owed = owed_leave_right me n m kept my your ws b (meets.unique (my, your)) owed;
          })

  -- ---- an ERP answers the ECO of the other

  answers_meets : (ws : List Command) (b : SeenTables) → Meets me n m ws b → Meets me n m ws (answers_echo by_us b)
  answers_meets ws b meets = go (is_marked me n (FactKind.Asks false) b)
    where
      go : (x : Bool) → Meets me n m ws (if x then facts_no_more me n (FactKind.Asks false) b else facts_now me n (FactKind.EchoesRest false) b)
      go true = same_conns me n m ws ws b (facts_no_more me n (FactKind.Asks false) b) refl (λ on link k. links_stay me n false on link b ∙ k) refl meets
      go false = marked_meets me n m ws b (FactKind.EchoesRest false) meets

  -- ---- each command that names no link

  pub record Went (c : Command) (ws : List Command) (kept : List SentMessage) (b : SeenTables) : Type 0 where
    pub none : command_rule by_us kept c b ≡ None
    pub meets : Meets me n m ws (tables_after_command by_us kept c b)
    pub owed : OwedBy me n m ws (tables_after_command by_us kept c b)

  -- further facts about each command: an ERR is admitted if it is about a text, and only then
  abbrev pub MayGo : List SentMessage → SeenTables → Command → Type 0
  MayGo kept b (Rts receive send link) = (is_of_sexes receive send ≡ true) × (range_rule (Rts receive send link) (Link link) ≡ None)
  MayGo kept b (Str send receive size) = (is_of_sexes receive send ≡ true) × (range_rule (Str send receive size) (Size size) ≡ None)
  MayGo kept b (Cls my your) = ((is_of_sexes my your || is_of_sexes your my) ≡ true) × (text_out_rule by_us (Cls my your) kept b (conn_of me n my your b.conns) ≡ None)
  MayGo kept b (Eco byte) = eco_rule by_us byte b ≡ None
  MayGo kept b (Err code shown) = is_error_admitted by_us code shown b ≡ is_text_error (Err code shown)
  MayGo kept b c = Unit {0}

  pub goes : (c : Command) (ws : List Command) (kept : List SentMessage) (b : SeenTables) → link_of c ≡ None → MayGo kept b c → Plain me n b → (tables_after_command by_us kept c b).full ≡ false → Meets me n m (c ∷ ws) b → OwedBy me n m (c ∷ ws) b → Went c ws kept b
  goes (Rts receive send link) ws kept b l may plain room meets owed =
      let k = of_sexes (Rts receive send link) ws (receive, send) (Link link) (is_of_sexes receive send) b may.0 refl refl (and_parts (not (is_senders receive)) (is_senders send) may.0).0 may.1 room meets owed in
      record { none = k.none; meets = k.meets; owed = k.owed }
  goes (Str send receive size) ws kept b l may plain room meets owed =
      let k = of_sexes (Str send receive size) ws (send, receive) (Size size) (is_of_sexes receive send) b may.0 refl refl (and_parts (not (is_senders receive)) (is_senders send) may.0).1 may.1 room meets owed in
      record { none = k.none; meets = k.meets; owed = k.owed }
  goes (Cls my your) ws kept b l may plain room meets owed = let k = by (is_of_sexes my your || is_of_sexes your my) may.0 room in record { none = k.none; meets = k.meets; owed = k.owed }
    where
      acceptance : Bool → Acceptance
      acceptance x = if x then left_acceptance by_us (Cls my your) (conn_of me n my your b.conns) else Refused (Rule.Sex (Cls my your))

      by : (x : Bool) → x ≡ true → (after_right_cls by_us kept (conn_of me n my your b.conns) (acceptance x) (after_cls by_us (Cls my your) my your (acceptance x) b)).full ≡ false → LeaveWent my your ws kept (acceptance x) b
      by true e f = leave_went my your ws kept b may.1 plain f meets owed
      by false e f = absurd (cc e)
  goes (Eco byte) ws kept b l may plain room meets owed = record {
    none = may;
    meets = owed_meets me n m ws (facts_now me n (FactKind.Asks true) b) by_us (ExpectedReply.Echo byte) true room (marked_meets me n m ws b (FactKind.Asks true) (silent_goes (Eco byte) ws b refl meets));
    owed = owed_eco me n m byte ws b room owed;
  }
  goes (Erp byte) ws kept b l may plain room meets owed = record {
    none = own_reply_right me n m (Erp byte) ws b (Rule.ErpUnasked byte) refl owed;
    meets = answers_meets ws (after_reply by_us (Erp byte) b) (reply_meets me n m by_us (Erp byte) ws b (silent_goes (Erp byte) ws b refl meets));
    owed = owed_erp me n m byte ws b owed;
  }
  goes (Err code shown) ws kept b l may plain room meets owed =
      let k = owed_error me n m code shown ws b may owed in record { none = k.none; meets = by (is_error_admitted by_us code shown b); owed = k.owed }
    where
      by : (x : Bool) → Meets me n m ws (if x then b else after_reply by_us (Err code shown) b)
      by true = silent_goes (Err code shown) ws b refl meets
      by false = reply_meets me n m by_us (Err code shown) ws b (silent_goes (Err code shown) ws b refl meets)
  goes Nop ws kept b l may plain room meets owed = record { none = refl; meets = silent_goes Nop ws b refl meets; owed = owed_said me n m Nop ws b refl owed }
  goes Rst ws kept b l may plain room meets owed = record { none = refl; meets = silent_goes Rst ws b refl meets; owed = owed_said me n m Rst ws b refl owed }
  goes Rrp ws kept b l may plain room meets owed = record { none = refl; meets = silent_goes Rrp ws b refl meets; owed = owed_said me n m Rrp ws b refl owed }
  goes (Command.All link messages bits) ws kept b l may plain room meets owed = absurd (cc l)
  goes (Gvb link fm fb) ws kept b l may plain room meets owed = absurd (cc l)
  goes (Ret link messages bits) ws kept b l may plain room meets owed = absurd (cc l)
  goes (Inr link) ws kept b l may plain room meets owed = absurd (cc l)
  goes (Ins link) ws kept b l may plain room meets owed = absurd (cc l)
