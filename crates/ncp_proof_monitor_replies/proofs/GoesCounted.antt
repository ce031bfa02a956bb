-- The counts of each connection, through each command that the host sends and that names no link.
use Rattle.std.proofs.Common.{◌≡◌, ℕ, Bool, true, false, not, ◌||◌, if◌then◌else◌, List, [], ◌∷◌, Option, None, is_some, refl, sym, subst}
use Rattle.std.specs.FinMap.{get}
use Rattle.std.proofs.lemmas.Bool.{and_parts}
use Rattle.ncp_wire.specs.declared.command.Command.{Command}
use Rattle.ncp_wire.specs.declared.command.Command.TheVariants.{Nop, Rts, Str, Cls, Gvb, Ret, Inr, Ins, Eco, Erp, Err, Rst, Rrp}
use Rattle.ncp_model.specs.Pairs.{sends}
use Rattle.ncp_model.specs.Ends.{Ends, link_of}
use Rattle.ncp_monitor.specs.declared.pending_reply.ExpectedReply.{ExpectedReply}
use Rattle.ncp_monitor.specs.declared.finding.Rule.{Rule}
use Rattle.ncp_interface.specs.declared.sent_message.SentMessage.{SentMessage}
use Rattle.ncp_monitor.specs.declared.conn_state.ConnState.{ConnState}
use Rattle.ncp_interface.specs.declared.request.Request.{Request}
use Rattle.ncp_interface.specs.declared.request.Request.TheVariants.{Link, Size}
use Rattle.ncp_monitor.specs.declared.conn_state.FactKind.{FactKind}
use Rattle.ncp_monitor.specs.declared.observed_flow.ObservedFlow.{ObservedFlow}
use Rattle.ncp_monitor.specs.declared.observed_flow.Acceptance.{Acceptance}
use Rattle.ncp_monitor.specs.declared.observed_flow.Acceptance.TheVariants.{Right, Refused, Unclear}
use Rattle.ncp_monitor.specs.ConnStates.{SeenTables, conn_of, index_with_sockets, facts_now, suspended_pair, link_suspended_now}
use Rattle.ncp_interface.specs.Sockets.{is_senders, is_of_sexes}
use Rattle.ncp_monitor.specs.Replies.{error_wanted}
use Rattle.ncp_monitor.specs.Requests.{range_rule, left_acceptance, request_acceptance, tables_after_request, closes_side, after_cls}
use Rattle.ncp_monitor.specs.Allocation.{ends_returns}
use Rattle.ncp_monitor.specs.Texts.{is_error_admitted, text_left_out}
use Rattle.ncp_monitor.specs.Speaking.{after_right_cls, after_reply, tables_after_command}
use Rattle.ncp_monitor.proofs.Shapes.{Ask}
use Rattle.ncp_monitor.proofs.LinkOrder.{Sockets}
use Rattle.ncp_monitor.proofs.BooksAt.{conn_first}
use Rattle.ncp_monitor.proofs.Seeing.{is_of, number_in}
use Rattle.ncp_proof_monitor_allocation.proofs.OwnMoves.{says_of}
use Rattle.ncp_proof_monitor_allocation.proofs.Changed.{pair_at}
use Rattle.ncp_proof_monitor_allocation.proofs.SeenTables.{asked_seen}
use Rattle.ncp_proof_monitor_allocation.proofs.Resting.{fact_room, pair_suspended}
use Rattle.ncp_proof_monitor_allocation.proofs.Meets.{Meets}
use Rattle.ncp_proof_monitor_allocation.proofs.Plain.{Plain, plain_owed, plain_reply, plain_fact}
use Rattle.ncp_proof_monitor_allocation.proofs.PlainSteps.{plain_link_suspended, plain_suspended, plain_asked, plain_left, plain_echo, asked_counts}
use Rattle.ncp_proof_monitor_allocation.proofs.Counted.{Counted, counted_gone}
use Rattle.ncp_proof_monitor_allocation.proofs.SaidCounted.{said_legal, counted_own_request}
use Rattle.ncp_proof_monitor_allocation.proofs.WentCounted.{owed_room, ask_hides, leave_hides, leave_counted, eco_counted, reply_counted, answers_counted}
use Rattle.ncp_proof_monitor_replies.proofs.Went.{AskOut, AskHidden, AskRight, ask_out, LeaveOut, LeaveHidden, LeaveRight, leave_out, MayGo}

module _ (me n : ℕ) (m : Ends) (proper : (u : Sockets) → is_some (get m (pair_at u)) ≡ true → sends (pair_at u) ≡ is_senders u.0) where
  abbrev we_say : ObservedFlow
  we_say = record { at = me; peer = n; sent = true }

  -- a pair comes to rest, and the link that is asked for
  suspended_plain : (p : Sockets) (b : SeenTables) → (suspended_pair me n p.0 p.1 b).full ≡ false → Plain me n b → Plain me n (suspended_pair me n p.0 p.1 b)
  suspended_plain p b room plain = plain_suspended me n p b (pair_suspended me n p b room).room room plain

  hidden_plain : (c : Command) (p : Sockets) (request : Request) (b : SeenTables) → (tables_after_request we_say c p.0 p.1 request (Unclear None) b).full ≡ false → Plain me n b → Plain me n (tables_after_request we_say c p.0 p.1 request (Unclear None) b)
  hidden_plain c p (Link link) b room plain =
      let pair = suspended_pair me n p.0 p.1 b in
      let mid = link_suspended_now me n true link pair in
      plain_owed me n we_say (error_wanted 3 3 c) false mid refl
      (plain_link_suspended me n true link pair (suspended_plain p b (fact_room me n (FactKind.LinkSuspended true link) pair (owed_room we_say (error_wanted 3 3 c) false mid room)) plain))
  hidden_plain c p (Size size) b room plain =
      let pair = suspended_pair me n p.0 p.1 b in
      plain_owed me n we_say (error_wanted 3 3 c) false pair refl (suspended_plain p b (owed_room we_say (error_wanted 3 3 c) false pair room) plain)

  -- ---- a request

  ask_goes : (c : Command) (w : List Command) (p : Sockets) (request : Request) (b : SeenTables) → says_of c ≡ (p, Ask (number_in request)) ∷ [] → is_of (is_senders p.0) true request ≡ true → range_rule c request ≡ None
      → (tables_after_request we_say c p.0 p.1 request (request_acceptance we_say c p.0 p.1 true request b) b).full ≡ false → Meets me n m (c ∷ w) b → Counted me n m (c ∷ w) b
      → Counted me n m w (tables_after_request we_say c p.0 p.1 request (request_acceptance we_say c p.0 p.1 true request b) b)
  ask_goes c w p request b said sex range room meets k = go (ask_out me n m c w p request b said sex range meets)
    where
      printed_as : (v : Acceptance) → request_acceptance we_say c p.0 p.1 true request b ≡ v → ((tables_after_request we_say c p.0 p.1 request v b).full ≡ false → Counted me n m w (tables_after_request we_say c p.0 p.1 request v b))
          → Counted me n m w (tables_after_request we_say c p.0 p.1 request (request_acceptance we_say c p.0 p.1 true request b) b)
      printed_as v is f =
          subst (λ (x : Acceptance). Counted me n m w (tables_after_request we_say c p.0 p.1 request x b)) (sym is)
          (f (subst (λ (x : Acceptance). (tables_after_request we_say c p.0 p.1 request x b).full ≡ false) is room))

      go : AskOut me n m c p request b → Counted me n m w (tables_after_request we_say c p.0 p.1 request (request_acceptance we_say c p.0 p.1 true request b) b)
      go (AskHidden h is) = printed_as (Unclear None) is (λ f. ask_hides me n m w b c p request said sex (proper p) f (hidden_plain c p request b f k.plain) meets.tally.pairs k)
      go (AskRight r y is) =
          printed_as Right is (λ f. counted_own_request me n m c w b p request said sex f r
          (plain_asked me n true (number_in request) b (tables_after_request we_say c p.0 p.1 request Right b) p (asked_seen me n true p b request sex f) (asked_counts me n true p request b f)
          (said_legal me n m c w b b p (Ask (number_in request)) said k k.plain r) k.plain) k)

  pub asks_go : (c : Command) (w : List Command) (p : Sockets) (request : Request) (right : Bool) (b : SeenTables) → right ≡ true → says_of c ≡ (p, Ask (number_in request)) ∷ [] → is_of (is_senders p.0) true request ≡ true
      → range_rule c request ≡ None → (tables_after_request we_say c p.0 p.1 request (request_acceptance we_say c p.0 p.1 right request b) b).full ≡ false → Meets me n m (c ∷ w) b → Counted me n m (c ∷ w) b
      → Counted me n m w (tables_after_request we_say c p.0 p.1 request (request_acceptance we_say c p.0 p.1 right request b) b)
  asks_go c w p request true b e said sex range room meets k = ask_goes c w p request b said sex range room meets k
  asks_go c w p request false b e said sex range room meets k = absurd (cc e)

  -- ---- a CLS

  pub leaves_go : (my your : ℕ) (w : List Command) (kept : List SentMessage) (b : SeenTables)
      → (after_right_cls we_say kept (conn_of me n my your b.conns) (left_acceptance we_say (Cls my your) (conn_of me n my your b.conns)) (after_cls we_say (Cls my your) my your (left_acceptance we_say (Cls my your) (conn_of me n my your b.conns)) b)).full ≡ false
      → Meets me n m (Cls my your ∷ w) b → Counted me n m (Cls my your ∷ w) b
      → Counted me n m w (after_right_cls we_say kept (conn_of me n my your b.conns) (left_acceptance we_say (Cls my your) (conn_of me n my your b.conns)) (after_cls we_say (Cls my your) my your (left_acceptance we_say (Cls my your) (conn_of me n my your b.conns)) b))
  leaves_go my your w kept b room meets k = go (leave_out me n m c w p b refl meets)
    where
      c : Command
      c = Cls my your

      p : Sockets
      p = (my, your)

      conn : Option ConnState
      conn = conn_of me n my your b.conns

      conn_tables : Acceptance → SeenTables
      conn_tables v = after_right_cls we_say kept conn v (after_cls we_say c my your v b)

      printed_as : (v : Acceptance) → left_acceptance we_say c conn ≡ v → ((conn_tables v).full ≡ false → Counted me n m w (conn_tables v)) → Counted me n m w (conn_tables (left_acceptance we_say c conn))
      printed_as v is f = subst (λ (x : Acceptance). Counted me n m w (conn_tables x)) (sym is) (f (subst (λ (x : Acceptance). (conn_tables x).full ≡ false) is room))

      right_plain : Plain me n (conn_tables Right)
      right_plain =
          subst (λ (o : Option ConnState). Plain me n (ends_returns we_say o (text_left_out we_say kept o (closes_side we_say b (index_with_sockets me n my your b.conns))))) (sym (conn_first me n my your b.conns))
          (plain_left me n true kept p b (meets.unique p) k.plain)

      right_is : (o : Option ConnState) (closed : SeenTables) → after_right_cls we_say kept o Right closed ≡ ends_returns we_say o (text_left_out we_say kept o closed)
      right_is o closed = refl

      go : LeaveOut me n m c p b → Counted me n m w (conn_tables (left_acceptance we_say c conn))
      go (LeaveHidden r is) =
          printed_as (Unclear None) is (λ f. leave_hides me n m w b c p refl (proper p) f
          (plain_owed me n we_say (error_wanted 4 3 c) false (suspended_pair me n my your b) refl (suspended_plain p b (owed_room we_say (error_wanted 4 3 c) false (suspended_pair me n my your b) f) k.plain)) meets.tally.pairs k)
      go (LeaveRight r is) = printed_as Right is (λ f. leave_counted me n m w b c p kept conn refl (meets.unique p) r right_plain k)

  -- ---- each of them

  pub goes_counted : (c : Command) (w : List Command) (kept : List SentMessage) (b : SeenTables) → link_of c ≡ None → MayGo me n m kept b c → (tables_after_command we_say kept c b).full ≡ false → Meets me n m (c ∷ w) b → Counted me n m (c ∷ w) b
      → Counted me n m w (tables_after_command we_say kept c b)
  goes_counted (Rts receive send link) w kept b l may room meets k =
      asks_go (Rts receive send link) w (receive, send) (Link link) (is_of_sexes receive send) b may.0 refl (and_parts (not (is_senders receive)) (is_senders send) may.0).0 may.1 room meets k
  goes_counted (Str send receive size) w kept b l may room meets k =
      asks_go (Str send receive size) w (send, receive) (Size size) (is_of_sexes receive send) b may.0 refl (and_parts (not (is_senders receive)) (is_senders send) may.0).1 may.1 room meets k
  goes_counted (Cls my your) w kept b l may room meets k = by (is_of_sexes my your || is_of_sexes your my) may.0 room
    where
      acceptance : Bool → Acceptance
      acceptance x = if x then left_acceptance we_say (Cls my your) (conn_of me n my your b.conns) else Refused (Rule.Sex (Cls my your))

      by : (x : Bool) → x ≡ true → (after_right_cls we_say kept (conn_of me n my your b.conns) (acceptance x) (after_cls we_say (Cls my your) my your (acceptance x) b)).full ≡ false
          → Counted me n m w (after_right_cls we_say kept (conn_of me n my your b.conns) (acceptance x) (after_cls we_say (Cls my your) my your (acceptance x) b))
      by true e f = leaves_go my your w kept b f meets k
      by false e f = absurd (cc e)
  goes_counted (Eco byte) w kept b l may room meets k =
      eco_counted me n m w b byte room (plain_owed me n we_say (ExpectedReply.Echo byte) true (facts_now me n (FactKind.Asks true) b) refl (plain_fact me n (FactKind.Asks true) b refl k.plain)) k
  goes_counted (Erp byte) w kept b l may room meets k =
      let struck : Plain me n (after_reply we_say (Erp byte) b) = plain_reply me n we_say (Erp byte) b k.plain in
      answers_counted me n m w b we_say w (after_reply we_say (Erp byte) b) refl refl (plain_echo me n true (after_reply we_say (Erp byte) b) struck)
      (reply_counted me n m w b we_say (Erp byte) w b struck (counted_gone me n m (Erp byte) w b refl k))
  goes_counted (Err code shown) w kept b l may room meets k = by (is_error_admitted we_say code shown b)
    where
      gone : Counted me n m w b
      gone = counted_gone me n m (Err code shown) w b refl k

      by : (x : Bool) → Counted me n m w (if x then b else after_reply we_say (Err code shown) b)
      by true = gone
      by false = reply_counted me n m w b we_say (Err code shown) w b (plain_reply me n we_say (Err code shown) b k.plain) gone
  goes_counted Nop w kept b l may room meets k = counted_gone me n m Nop w b refl k
  goes_counted Rst w kept b l may room meets k = counted_gone me n m Rst w b refl k
  goes_counted Rrp w kept b l may room meets k = counted_gone me n m Rrp w b refl k
  goes_counted (Command.All link messages bits) w kept b l may room meets k = absurd (cc l)
  goes_counted (Gvb link fm fb) w kept b l may room meets k = absurd (cc l)
  goes_counted (Ret link messages bits) w kept b l may room meets k = absurd (cc l)
  goes_counted (Inr link) w kept b l may room meets k = absurd (cc l)
  goes_counted (Ins link) w kept b l may room meets k = absurd (cc l)
