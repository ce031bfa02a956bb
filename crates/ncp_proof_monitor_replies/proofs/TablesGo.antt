-- The effect on the connection tables when the host sends a command that names no link: no connection
-- changes; or its connection is suspended; or its connection changes by the command.
use Rattle.std.proofs.Common.{◌≡◌, ℕ, Bool, true, false, not, ◌||◌, if◌then◌else◌, List, [], ◌∷◌, ◌++◌, Option, None, Some, ◌⊎◌, inl, inr, refl, sym, ap, ◌∙◌, subst}
use Rattle.std.specs.FinMap.{get}
use Rattle.std.specs.List.{list_any}
use Rattle.std.proofs.lemmas.Bool.{and_parts}
use Rattle.ncp_wire.specs.declared.command.Command.{Command}
use Rattle.ncp_wire.specs.declared.command.Command.TheVariants.{Nop, Rts, Str, Cls, Gvb, Ret, Inr, Ins, Eco, Erp, Err, Rst, Rrp}
use Rattle.ncp_model.specs.declared.pair.Pair.{Pair}
use Rattle.ncp_model.specs.Pairs.{sends}
use Rattle.ncp_model.specs.Endpoint.{Endpoint}
use Rattle.ncp_model.specs.Ends.{Ends, link_of}
use Rattle.ncp_proof_endpoint.specs.Sound.{SoundAt}
use Rattle.ncp_monitor.specs.declared.pending_reply.ExpectedReply.{ExpectedReply}
use Rattle.ncp_interface.specs.declared.sent_message.SentMessage.{SentMessage}
use Rattle.ncp_monitor.specs.declared.finding.Rule.{Rule}
use Rattle.ncp_monitor.specs.declared.conn_state.ConnState.{ConnState}
use Rattle.ncp_interface.specs.declared.request.Request.{Request}
use Rattle.ncp_interface.specs.declared.request.Request.TheVariants.{Link, Size}
use Rattle.ncp_monitor.specs.declared.conn_state.FactKind.{FactKind}
use Rattle.ncp_monitor.specs.declared.observed_flow.ObservedFlow.{ObservedFlow}
use Rattle.ncp_monitor.specs.declared.observed_flow.Acceptance.{Acceptance}
use Rattle.ncp_monitor.specs.declared.observed_flow.Acceptance.TheVariants.{Right, Refused, Unclear}
use Rattle.ncp_monitor.specs.ConnStates.{SeenTables, conn_of, index_with_sockets, is_marked, is_topic, facts_now, facts_no_more, suspended_pair}
use Rattle.ncp_interface.specs.Sockets.{is_senders, is_of_sexes}
use Rattle.ncp_monitor.specs.Replies.{is_due_of, is_wanted, pending_left, owes, error_wanted}
use Rattle.ncp_monitor.specs.Texts.{is_error_admitted}
use Rattle.ncp_monitor.specs.Requests.{range_rule, link_suspended, left_acceptance, request_acceptance, suspended_asked, tables_after_request, closes_side, after_cls}
use Rattle.ncp_monitor.specs.Speaking.{after_right_cls, answers_echo, after_reply, tables_after_command}
use Rattle.ncp_monitor.proofs.Shapes.{Say, Ask, Leave, Agrees}
use Rattle.ncp_monitor.proofs.LinkOrder.{Sockets, same, same_is, about}
use Rattle.ncp_monitor.proofs.Seeing.{is_of, number_in}
use Rattle.ncp_monitor.proofs.Firsts.{first}
use Rattle.ncp_monitor.specs.ConnStates.{is_of_sockets}
use Rattle.ncp_proof_monitor_allocation.proofs.KeptEnds.{of_end}
use Rattle.ncp_proof_monitor_allocation.proofs.OwnMoves.{says_of, all_says}
use Rattle.ncp_proof_monitor_allocation.proofs.Changed.{pair_at, kept_of}
use Rattle.ncp_proof_monitor_allocation.proofs.SeenTables.{conn_seen, seen_of, is_suspended, suspended_of, links_of, receives_at, asked_seen, closed_seen}
use Rattle.ncp_proof_monitor_allocation.proofs.Resting.{OneSuspended, pair_suspended, link_suspended_too, fact_conns, fact_room, fact_keeps, due_with, due_room}
use Rattle.ncp_proof_monitor_allocation.proofs.Replying.{links_stay}
use Rattle.ncp_proof_monitor_allocation.proofs.Meets.{Meets, hidden_verdict, ask_right}
use Rattle.ncp_proof_monitor_replies.proofs.Went.{LeaveOut, LeaveHidden, LeaveRight, leave_out}
use Rattle.ncp_proof_monitor_replies.proofs.AfterCls.{right_cls_is}
use Rattle.ncp_proof_monitor_allocation.proofs.Untaken.{Held}
use Rattle.ncp_proof_monitor_allocation.proofs.Proper.{has_right_parts, rts_range, str_range}
use Rattle.ncp_proof_monitor_allocation.proofs.Came.{asks_in, has_come, Came, unleft_asks, last_asked, holds_unleft, one_sex, receiving_socket, kept_there}

-- links that rest go on resting
abbrev pub LinksRestOn : ℕ → ℕ → SeenTables → SeenTables → Type 0
LinksRestOn me n b after = (on : Bool) (link : ℕ) → is_marked me n (FactKind.LinkSuspended on link) b ≡ true → is_marked me n (FactKind.LinkSuspended on link) after ≡ true

abbrev pub OthersSeen : ℕ → ℕ → Sockets → SeenTables → SeenTables → Type 0
OthersSeen me n p b after = (u : Sockets) → same u p ≡ false → conn_seen me n after u ≡ conn_seen me n b u

pub data TablesGo (me n : ℕ) (c : Command) (b after : SeenTables) : Type 0 where
  Silently : says_of c ≡ [] → after.conns ≡ b.conns → LinksRestOn me n b after → TablesGo me n c b after
  AtRest : (p : Sockets) (say : Say) → says_of c ≡ (p, say) ∷ [] → (suspended_of me n b p ≡ true) ⊎ (receives_at p ≡ true) → suspended_of me n after p ≡ true → OthersSeen me n p b after → LinksRestOn me n b after → TablesGo me n c b after
  InSight : (p : Sockets) (say : Say) → says_of c ≡ (p, say) ∷ [] → suspended_of me n b p ≡ false → ((k : ℕ) → say ≡ Ask k → receives_at p ≡ true → links_of me n b k ≡ false) → suspended_of me n after p ≡ false
      → OthersSeen me n p b after → LinksRestOn me n b after → TablesGo me n c b after

module _ (me n : ℕ) (m : Ends) where
  abbrev us : ObservedFlow
  us = record { at = me; peer = n; sent = true }

  -- ---- it comes to rest

  rested : (c : Command) (p : Sockets) (say : Say) (b mid : SeenTables) (wanted : ExpectedReply) → says_of c ≡ (p, say) ∷ [] → (suspended_of me n b p ≡ true) ⊎ (receives_at p ≡ true) → OneSuspended me n b mid p → (owes us wanted false mid).full ≡ false
      → TablesGo me n c b (owes us wanted false mid)
  rested c p say b mid wanted said h one f =
      let is = due_with mid (record { at = me; peer = n; host = false; wanted = wanted; mandatory = false }) f in
      AtRest p say said h
      (ap (λ xs. is_suspended (first (is_of_sockets me n p.0 p.1) xs)) is.1.0 ∙ one.suspended)
      (λ u d. ap (λ xs. first (is_of_sockets me n u.0 u.1) xs) is.1.0 ∙ one.seen u d)
      (λ on link k. ap (list_any (is_topic me n (FactKind.LinkSuspended on link))) is.1.1 ∙ one.known_facts (FactKind.LinkSuspended on link) k)

  asked_rest : (p : Sockets) (request : Request) (b : SeenTables) → (suspended_asked us request (suspended_pair me n p.0 p.1 b)).full ≡ false → OneSuspended me n b (suspended_asked us request (suspended_pair me n p.0 p.1 b)) p
  asked_rest p (Link link) b f = link_suspended_too me n true link b (suspended_pair me n p.0 p.1 b) p (pair_suspended me n p b (fact_room me n (FactKind.LinkSuspended true link) (suspended_pair me n p.0 p.1 b) f))
  asked_rest p (Size size) b f = pair_suspended me n p b f

  ask_at_rest : (c : Command) (p : Sockets) (request : Request) (b : SeenTables) → says_of c ≡ (p, Ask (number_in request)) ∷ [] → is_of (is_senders p.0) true request ≡ true → (suspended_of me n b p ≡ true) ⊎ (link_suspended us request b ≡ true)
      → (tables_after_request us c p.0 p.1 request (Unclear None) b).full ≡ false → TablesGo me n c b (tables_after_request us c p.0 p.1 request (Unclear None) b)
  ask_at_rest c p request b said sex h f =
      let mid = suspended_asked us request (suspended_pair me n p.0 p.1 b) in
      rested c p (Ask (number_in request)) b mid (error_wanted 3 3 c) said (receiver request sex h)
      (asked_rest p request b (due_room mid (record { at = me; peer = n; host = false; wanted = error_wanted 3 3 c; mandatory = false }) f)) f
    where
      receiver : (q : Request) → is_of (is_senders p.0) true q ≡ true → (suspended_of me n b p ≡ true) ⊎ (link_suspended us q b ≡ true) → (suspended_of me n b p ≡ true) ⊎ (receives_at p ≡ true)
      receiver q s (inl r) = inl r
      receiver (Link link) s (inr r) = inr s
      receiver (Size size) s (inr r) = absurd (cc r)

  -- ---- a request

  ask_in_sight : (c : Command) (p : Sockets) (request : Request) (b : SeenTables) → says_of c ≡ (p, Ask (number_in request)) ∷ [] → is_of (is_senders p.0) true request ≡ true → suspended_of me n b p ≡ false → link_suspended us request b ≡ false
      → (tables_after_request us c p.0 p.1 request Right b).full ≡ false → TablesGo me n c b (tables_after_request us c p.0 p.1 request Right b)
  ask_in_sight c p request b said sex r h f =
      let one = asked_seen me n true p b request sex f in
      InSight p (Ask (number_in request)) said r (λ k e g. free request sex h k e g) (one.calm r) one.others (λ on link k. ap (list_any (is_topic me n (FactKind.LinkSuspended on link))) one.known_facts ∙ k)
    where
      free : (q : Request) → is_of (is_senders p.0) true q ≡ true → link_suspended us q b ≡ false → (k : ℕ) → Ask (number_in q) ≡ Ask k → receives_at p ≡ true → links_of me n b k ≡ false
      free (Link link) s h k e g = let is : link ≡ k = cc e in ap (links_of me n b) (sym is) ∙ h
      free (Size size) s h k e g = let nay : not true ≡ true = ap not (sym s) ∙ g in absurd (cc nay)

  ask_tables : (c : Command) (ws : List Command) (p : Sockets) (request : Request) (right : Bool) (b : SeenTables) → right ≡ true → says_of c ≡ (p, Ask (number_in request)) ∷ [] → is_of (is_senders p.0) true request ≡ true
      → range_rule c request ≡ None → (tables_after_request us c p.0 p.1 request (request_acceptance us c p.0 p.1 right request b) b).full ≡ false → Meets me n m (c ∷ ws) b
      → TablesGo me n c b (tables_after_request us c p.0 p.1 request (request_acceptance us c p.0 p.1 right request b) b)
  ask_tables c ws p request false b e said sex range f meets = absurd (cc e)
  ask_tables c ws p request true b e said sex range f meets = go (suspended_of me n b p) (link_suspended us request b) refl refl
    where
      printed_as : (v : Acceptance) → request_acceptance us c p.0 p.1 true request b ≡ v → ((tables_after_request us c p.0 p.1 request v b).full ≡ false → TablesGo me n c b (tables_after_request us c p.0 p.1 request v b))
          → TablesGo me n c b (tables_after_request us c p.0 p.1 request (request_acceptance us c p.0 p.1 true request b) b)
      printed_as v is k =
          subst (λ (x : Acceptance). TablesGo me n c b (tables_after_request us c p.0 p.1 request x b)) (sym is)
          (k (subst (λ (x : Acceptance). (tables_after_request us c p.0 p.1 request x b).full ≡ false) is f))

      go : (r k : Bool) → suspended_of me n b p ≡ r → link_suspended us request b ≡ k → TablesGo me n c b (tables_after_request us c p.0 p.1 request (request_acceptance us c p.0 p.1 true request b) b)
      go true k x y = printed_as (Unclear None) (hidden_verdict me n m c ws p request b said range (inl x)) (λ room. ask_at_rest c p request b said sex (inl x) room)
      go false true x y = printed_as (Unclear None) (hidden_verdict me n m c ws p request b said range (inr y)) (λ room. ask_at_rest c p request b said sex (inr y) room)
      go false false x y = printed_as Right (ask_right me n m c ws p request b said sex range x y meets) (λ room. ask_in_sight c p request b said sex x y room)

  -- ---- a CLS

  cls_books : (my your : ℕ) (kept : List SentMessage) (ws : List Command) (b : SeenTables)
      → (after_right_cls us kept (conn_of me n my your b.conns) (left_acceptance us (Cls my your) (conn_of me n my your b.conns)) (after_cls us (Cls my your) my your (left_acceptance us (Cls my your) (conn_of me n my your b.conns)) b)).full ≡ false
      → Meets me n m (Cls my your ∷ ws) b
      → TablesGo me n (Cls my your) b (after_right_cls us kept (conn_of me n my your b.conns) (left_acceptance us (Cls my your) (conn_of me n my your b.conns)) (after_cls us (Cls my your) my your (left_acceptance us (Cls my your) (conn_of me n my your b.conns)) b))
  cls_books my your kept ws b f meets = go (leave_out me n m (Cls my your) ws (my, your) b refl meets)
    where
      conn : Option ConnState
      conn = conn_of me n my your b.conns

      printed_as : (v : Acceptance) → left_acceptance us (Cls my your) (conn_of me n my your b.conns) ≡ v
          → ((after_right_cls us kept conn v (after_cls us (Cls my your) my your v b)).full ≡ false → TablesGo me n (Cls my your) b (after_right_cls us kept conn v (after_cls us (Cls my your) my your v b)))
          → TablesGo me n (Cls my your) b (after_right_cls us kept conn (left_acceptance us (Cls my your) (conn_of me n my your b.conns)) (after_cls us (Cls my your) my your (left_acceptance us (Cls my your) (conn_of me n my your b.conns)) b))
      printed_as v is k =
          subst (λ (x : Acceptance). TablesGo me n (Cls my your) b (after_right_cls us kept conn x (after_cls us (Cls my your) my your x b))) (sym is)
          (k (subst (λ (x : Acceptance). (after_right_cls us kept conn x (after_cls us (Cls my your) my your x b)).full ≡ false) is f))

      at_rest : suspended_of me n b (my, your) ≡ true → (after_cls us (Cls my your) my your (Unclear None) b).full ≡ false → TablesGo me n (Cls my your) b (after_cls us (Cls my your) my your (Unclear None) b)
      at_rest r room =
          let mid = suspended_pair me n my your b in
          rested (Cls my your) (my, your) Leave b mid (error_wanted 4 3 (Cls my your)) refl (inl r)
          (pair_suspended me n (my, your) b (due_room mid (record { at = me; peer = n; host = false; wanted = error_wanted 4 3 (Cls my your); mandatory = false }) room)) room

      in_sight : suspended_of me n b (my, your) ≡ false → TablesGo me n (Cls my your) b (after_right_cls us kept conn Right (closes_side us b (index_with_sockets me n my your b.conns)))
      in_sight r =
          let closed = closes_side us b (index_with_sockets me n my your b.conns) in
          let one = closed_seen me n true (my, your) b (meets.unique (my, your)) in
          let is = right_cls_is me n kept true conn closed in
          InSight (my, your) Leave refl r (λ k e g. absurd (cc e)) (ap (λ xs. is_suspended (first (is_of_sockets me n my your) xs)) is.conns ∙ one.calm r) (λ u d. ap (λ xs. first (is_of_sockets me n u.0 u.1) xs) is.conns ∙ one.others u d)
          (λ on link k. is.known_facts on link ∙ ap (list_any (is_topic me n (FactKind.LinkSuspended on link))) one.known_facts ∙ k)

      go : LeaveOut me n m (Cls my your) (my, your) b → TablesGo me n (Cls my your) b (after_right_cls us kept conn (left_acceptance us (Cls my your) (conn_of me n my your b.conns)) (after_cls us (Cls my your) my your (left_acceptance us (Cls my your) (conn_of me n my your b.conns)) b))
      go (LeaveHidden r is) = printed_as (Unclear None) is (at_rest r)
      go (LeaveRight r is) = printed_as Right is (λ room. in_sight r)

  -- ---- replies and echoes

  reply_same : (c : Command) (b : SeenTables) → ((after_reply us c b).conns ≡ b.conns) × ((after_reply us c b).known_facts ≡ b.known_facts)
  reply_same c b = go (is_wanted (is_due_of me n true) c b.pending_replies)
    where
      go : (x : Bool) → ((if x then record b { pending_replies = pending_left (is_due_of me n true) c b.pending_replies } else b).conns ≡ b.conns) × ((if x then record b { pending_replies = pending_left (is_due_of me n true) c b.pending_replies } else b).known_facts ≡ b.known_facts)
      go true = (refl, refl)
      go false = (refl, refl)

  reply_tables : (c : Command) (b : SeenTables) → says_of c ≡ [] → TablesGo me n c b (after_reply us c b)
  reply_tables c b s = let k = reply_same c b in Silently s k.0 (λ on link x. ap (list_any (is_topic me n (FactKind.LinkSuspended on link))) k.1 ∙ x)

  echo_tables : (c : Command) (b mid : SeenTables) → says_of c ≡ [] → (mid.conns ≡ b.conns) × (mid.known_facts ≡ b.known_facts) → TablesGo me n c b (answers_echo us mid)
  echo_tables c b mid s k = go (is_marked me n (FactKind.Asks false) mid)
    where
      was : (on : Bool) (link : ℕ) → is_marked me n (FactKind.LinkSuspended on link) b ≡ true → is_marked me n (FactKind.LinkSuspended on link) mid ≡ true
      was on link x = ap (list_any (is_topic me n (FactKind.LinkSuspended on link))) k.1 ∙ x

      go : (x : Bool) → TablesGo me n c b (if x then facts_no_more me n (FactKind.Asks false) mid else facts_now me n (FactKind.EchoesRest false) mid)
      go true = Silently s k.0 (λ on link x. links_stay me n false on link mid ∙ was on link x)
      go false = Silently s (fact_conns me n (FactKind.EchoesRest false) mid ∙ k.0) (λ on link x. fact_keeps me n (FactKind.EchoesRest false) mid (FactKind.LinkSuspended on link) (was on link x))

  eco_tables : (byte : ℕ) (b : SeenTables) → (owes us (ExpectedReply.Echo byte) true (facts_now me n (FactKind.Asks true) b)).full ≡ false → TablesGo me n (Eco byte) b (owes us (ExpectedReply.Echo byte) true (facts_now me n (FactKind.Asks true) b))
  eco_tables byte b f =
      let mid = facts_now me n (FactKind.Asks true) b in
      let is = due_with mid (record { at = me; peer = n; host = false; wanted = ExpectedReply.Echo byte; mandatory = true }) f in
      Silently refl (is.1.0 ∙ fact_conns me n (FactKind.Asks true) b)
      (λ on link x. ap (list_any (is_topic me n (FactKind.LinkSuspended on link))) is.1.1 ∙ fact_keeps me n (FactKind.Asks true) b (FactKind.LinkSuspended on link) x)

  -- ---- each command

  nothing : (c : Command) (b : SeenTables) → says_of c ≡ [] → TablesGo me n c b b
  nothing c b s = Silently s refl (λ on link x. x)

  pub tables_go : (c : Command) (ws : List Command) (kept : List SentMessage) (b : SeenTables) → link_of c ≡ None → has_right_parts c ≡ true → (tables_after_command us kept c b).full ≡ false → Meets me n m (c ∷ ws) b → TablesGo me n c b (tables_after_command us kept c b)
  tables_go (Rts receive send link) ws kept b l may room meets =
      let k = rts_range receive send link may in
      ask_tables (Rts receive send link) ws (receive, send) (Link link) (is_of_sexes receive send) b k.0 refl (and_parts (not (is_senders receive)) (is_senders send) k.0).0 k.1 room meets
  tables_go (Str send receive size) ws kept b l may room meets =
      let k = str_range send receive size may in
      ask_tables (Str send receive size) ws (send, receive) (Size size) (is_of_sexes receive send) b k.0 refl (and_parts (not (is_senders receive)) (is_senders send) k.0).1 k.1 room meets
  tables_go (Cls my your) ws kept b l may room meets = by (is_of_sexes my your || is_of_sexes your my) may room
    where
      acceptance : Bool → Acceptance
      acceptance x = if x then left_acceptance us (Cls my your) (conn_of me n my your b.conns) else Refused (Rule.Sex (Cls my your))

      over : Bool → SeenTables
      over x = after_right_cls us kept (conn_of me n my your b.conns) (acceptance x) (after_cls us (Cls my your) my your (acceptance x) b)

      by : (x : Bool) → x ≡ true → (over x).full ≡ false → TablesGo me n (Cls my your) b (over x)
      by true e f = cls_books my your kept ws b f meets
      by false e f = absurd (cc e)
  tables_go (Eco byte) ws kept b l may room meets = eco_tables byte b room
  tables_go (Erp byte) ws kept b l may room meets = echo_tables (Erp byte) b (after_reply us (Erp byte) b) refl (reply_same (Erp byte) b)
  tables_go (Err code shown) ws kept b l may room meets = by (is_error_admitted us code shown b)
    where
      by : (x : Bool) → TablesGo me n (Err code shown) b (if x then b else after_reply us (Err code shown) b)
      by true = nothing (Err code shown) b refl
      by false = reply_tables (Err code shown) b refl
  tables_go Nop ws kept b l may room meets = nothing Nop b refl
  tables_go Rst ws kept b l may room meets = nothing Rst b refl
  tables_go Rrp ws kept b l may room meets = nothing Rrp b refl
  tables_go (Command.All link messages bits) ws kept b l may room meets = absurd (cc l)
  tables_go (Gvb link fm fb) ws kept b l may room meets = absurd (cc l)
  tables_go (Ret link messages bits) ws kept b l may room meets = absurd (cc l)
  tables_go (Inr link) ws kept b l may room meets = absurd (cc l)
  tables_go (Ins link) ws kept b l may room meets = absurd (cc l)

  -- ---- what is held of links stays

  suspended_as : (b after : SeenTables) → after.conns ≡ b.conns → (u : Sockets) → conn_seen me n after u ≡ conn_seen me n b u
  suspended_as b after l u = ap (λ xs. first (is_of_sockets me n u.0 u.1) xs) l

  pub goes_held : (c : Command) (b after : SeenTables) → TablesGo me n c b after → Held me n m b → Held me n m after
  goes_held c b after (Silently s l k) held u e g r x h = k false e.link (held u e g (sym (ap is_suspended (suspended_as b after l u)) ∙ r) x h)
  goes_held c b after (AtRest p say s was r others k) held u e g z x h = go (same u p) refl was
    where
      receiver : (pair : Pair) → sends pair ≡ true → is_senders pair.local ≡ true
      receiver pair x = (and_parts (is_senders pair.local) _ x).0

      go : (y : Bool) → same u p ≡ y → (suspended_of me n b p ≡ true) ⊎ (receives_at p ≡ true) → is_marked me n (FactKind.LinkSuspended false e.link) after ≡ true
      go false d w = k false e.link (held u e g (sym (ap is_suspended (others u d)) ∙ z) x h)
      go true d (inl w) = k false e.link (held u e g (ap (suspended_of me n b) (same_is u p d) ∙ w) x h)
      go true d (inr w) = let nay : not true ≡ true = ap not (sym (receiver (pair_at u) x)) ∙ ap receives_at (same_is u p d) ∙ w in absurd (cc nay)
  goes_held c b after (InSight p say s was free r others k) held u e g z x h = go (same u p) refl
    where
      go : (y : Bool) → same u p ≡ y → is_marked me n (FactKind.LinkSuspended false e.link) after ≡ true
      go false d = k false e.link (held u e g (sym (ap is_suspended (others u d)) ∙ z) x h)
      go true d = let nay : true ≡ false = sym z ∙ ap (suspended_of me n after) (same_is u p d) ∙ r in absurd (cc nay)

  -- ---- what came stays

  -- for a connection that does not change
  came_as : (c : Command) (ws : List Command) (b after : SeenTables) (u : Sockets) (e : Endpoint) → about u (all_says (c ∷ ws)) ≡ about u (all_says ws) → conn_seen me n after u ≡ conn_seen me n b u → LinksRestOn me n b after
      → (suspended_of me n b u ≡ true) ⊎ ((if asks_in (about u (all_says (c ∷ ws))) then is_marked me n (FactKind.LinkSuspended true e.link) b else has_come (conn_seen me n b u)) ≡ true)
      → (suspended_of me n after u ≡ true) ⊎ ((if asks_in (about u (all_says ws)) then is_marked me n (FactKind.LinkSuspended true e.link) after else has_come (conn_seen me n after u)) ≡ true)
  came_as c ws b after u e a s k (inl r) = inl (ap is_suspended s ∙ r)
  came_as c ws b after u e a s k (inr h) = inr (go (asks_in (about u (all_says ws))) (subst (λ (q : List Say). (if asks_in q then is_marked me n (FactKind.LinkSuspended true e.link) b else has_come (conn_seen me n b u)) ≡ true) a h))
    where
      go : (x : Bool) → (if x then is_marked me n (FactKind.LinkSuspended true e.link) b else has_come (conn_seen me n b u)) ≡ true → (if x then is_marked me n (FactKind.LinkSuspended true e.link) after else has_come (conn_seen me n after u)) ≡ true
      go true h = k true e.link h
      go false h = ap has_come s ∙ h

  pub goes_came : (c : Command) (ws : List Command) (b after : SeenTables) → ((pair : Pair) → SoundAt pair (get m pair)) → TablesGo me n c b after → Meets me n m (c ∷ ws) b → Came me n m (c ∷ ws) b → Came me n m ws after
  goes_came c ws b after sound (Silently s l k) meets came u e g x h =
      came_as c ws b after u e (ap (λ ys. about u (ys ++ all_says ws)) s) (suspended_as b after l u) k (came u e g x h)
  goes_came c ws b after sound (AtRest p say s was r others k) meets came u e g x h = go (same u p) refl
    where
      go : (y : Bool) → same u p ≡ y → (suspended_of me n after u ≡ true) ⊎ ((if asks_in (about u (all_says ws)) then is_marked me n (FactKind.LinkSuspended true e.link) after else has_come (conn_seen me n after u)) ≡ true)
      go true d = inl (ap (suspended_of me n after) (same_is u p d) ∙ r)
      go false d = came_as c ws b after u e (ap (λ ys. about u (ys ++ all_says ws)) s ∙ ap (λ (y : Bool). if y then say ∷ about u (all_says ws) else about u (all_says ws)) d) (others u d) k (came u e g x h)
  goes_came c ws b after sound (InSight p say s was free r others k) meets came u e g x h = go (same u p) refl
    where
      unleft : e.left ≡ false
      unleft = holds_unleft (pair_at u) e (subst (SoundAt (pair_at u)) g (sound (pair_at u))) h

      here : kept_of m u ≡ Some (of_end false e)
      here = kept_there m u e false g (one_sex (pair_at u) x)

      first_about : same u p ≡ true → about u (all_says (c ∷ ws)) ≡ say ∷ about u (all_says ws)
      first_about d = ap (λ ys. about u (ys ++ all_says ws)) s ∙ ap (λ (y : Bool). if y then say ∷ about u (all_says ws) else about u (all_says ws)) d

      agrees : same u p ≡ true → Agrees (say ∷ about u (all_says ws)) (Some (of_end false e)) (seen_of me n b u)
      agrees d =
          subst (λ (q : List Say). Agrees q (Some (of_end false e)) (seen_of me n b u)) (first_about d)
          (subst (λ y. Agrees (about u (all_says (c ∷ ws))) y (seen_of me n b u)) here (meets.tally.pairs u (ap (suspended_of me n b) (same_is u p d) ∙ was)))

      calm : same u p ≡ true → suspended_of me n b u ≡ true → ⊥
      calm d z = let nay : true ≡ false = sym z ∙ ap (suspended_of me n b) (same_is u p d) ∙ was in cc nay

      -- a CLS is sent, and a request is queued; or this is its request, whose link is not suspended
      by : (say : Say) → ((j : ℕ) → say ≡ Ask j → receives_at p ≡ true → links_of me n b j ≡ false) → same u p ≡ true → Agrees (say ∷ about u (all_says ws)) (Some (of_end false e)) (seen_of me n b u)
          → (if asks_in (say ∷ about u (all_says ws)) then is_marked me n (FactKind.LinkSuspended true e.link) b else has_come (conn_seen me n b u)) ≡ true
          → (if asks_in (about u (all_says ws)) then is_marked me n (FactKind.LinkSuspended true e.link) after else has_come (conn_seen me n after u)) ≡ true
      by Leave f d a z =
          let asks = unleft_asks (about u (all_says ws)) (of_end false e) (seen_of me n b u) unleft a in
          let marked : is_marked me n (FactKind.LinkSuspended true e.link) b ≡ true = sym (ap (λ (y : Bool). if y then is_marked me n (FactKind.LinkSuspended true e.link) b else has_come (conn_seen me n b u)) asks) ∙ z in
          ap (λ (y : Bool). if y then is_marked me n (FactKind.LinkSuspended true e.link) after else has_come (conn_seen me n after u)) asks ∙ k true e.link marked
      by (Ask j) f d a z = more (asks_in (about u (all_says ws))) refl
        where
          own_link : (o : Bool) → (if o then Some e.link else None) ≡ Some j → e.link ≡ j
          own_link true y = cc y
          own_link false y = absurd (cc y)

          more : (y : Bool) → asks_in (about u (all_says ws)) ≡ y → (if asks_in (about u (all_says ws)) then is_marked me n (FactKind.LinkSuspended true e.link) after else has_come (conn_seen me n after u)) ≡ true
          more true y = ap (λ (y : Bool). if y then is_marked me n (FactKind.LinkSuspended true e.link) after else has_come (conn_seen me n after u)) y ∙ k true e.link z
          more false y =
              let is : e.link ≡ j = own_link e.asked (last_asked j (about u (all_says ws)) (of_end false e) (seen_of me n b u) unleft y a) in
              let unmarked : links_of me n b j ≡ false = f j refl (sym (ap receives_at (same_is u p d)) ∙ receiving_socket (pair_at u) x) in
              let nay : true ≡ false = sym z ∙ ap (links_of me n b) is ∙ unmarked in absurd (cc nay)

      go : (y : Bool) → same u p ≡ y → (suspended_of me n after u ≡ true) ⊎ ((if asks_in (about u (all_says ws)) then is_marked me n (FactKind.LinkSuspended true e.link) after else has_come (conn_seen me n after u)) ≡ true)
      go false d = came_as c ws b after u e (ap (λ ys. about u (ys ++ all_says ws)) s ∙ ap (λ (y : Bool). if y then say ∷ about u (all_says ws) else about u (all_says ws)) d) (others u d) k (came u e g x h)
      go true d = at (came u e g x h)
        where
          at : (suspended_of me n b u ≡ true) ⊎ ((if asks_in (about u (all_says (c ∷ ws))) then is_marked me n (FactKind.LinkSuspended true e.link) b else has_come (conn_seen me n b u)) ≡ true)
              → (suspended_of me n after u ≡ true) ⊎ ((if asks_in (about u (all_says ws)) then is_marked me n (FactKind.LinkSuspended true e.link) after else has_come (conn_seen me n after u)) ≡ true)
          at (inl z) = absurd (calm d z)
          at (inr z) = inr (by say free d (agrees d) (subst (λ (q : List Say). (if asks_in q then is_marked me n (FactKind.LinkSuspended true e.link) b else has_come (conn_seen me n b u)) ≡ true) (first_about d) z))
