-- The counts of each connection when the host sends a command that names no link.
use Rattle.std.proofs.Common.{◌≡◌, ℕ, ◌==◌, Bool, true, false, not, ◌&&◌, ◌||◌, if◌then◌else◌, List, [], ◌∷◌, Option, None, Some, is_some, refl, sym, ap, ◌∙◌, subst}
use Rattle.std.specs.Prelude.{Result, Ok}
use Rattle.std.specs.FinMap.{get}
use Rattle.std.specs.List.{list_any, filter}
use Rattle.std.proofs.lemmas.Bool.{and_parts}
use Rattle.ncp_leader.specs.declared.fault.MessageFault.{MessageFault}
use Rattle.ncp_leader.specs.Message.{Message, message_in}
use Rattle.ncp_wire.specs.declared.command.Command.{Command}
use Rattle.ncp_wire.specs.declared.command.Command.TheVariants.{Eco}
use Rattle.ncp_model.specs.Pairs.{sends}
use Rattle.ncp_model.specs.Ends.{Ends}
use Rattle.ncp_monitor.specs.declared.pending_reply.ExpectedReply.{ExpectedReply}
use Rattle.ncp_interface.specs.declared.sent_message.SentMessage.{SentMessage}
use Rattle.ncp_monitor.specs.declared.conn_state.ConnState.{ConnState}
use Rattle.ncp_monitor.specs.declared.conn_state.Fact.{Fact}
use Rattle.ncp_interface.specs.declared.request.Request.{Request}
use Rattle.ncp_interface.specs.declared.request.Request.TheVariants.{Link, Size}
use Rattle.ncp_monitor.specs.declared.conn_state.FactKind.{FactKind}
use Rattle.ncp_monitor.specs.declared.observed_flow.ObservedFlow.{ObservedFlow}
use Rattle.ncp_monitor.specs.declared.observed_flow.Acceptance.TheVariants.{Right, Unclear}
use Rattle.ncp_interface.specs.Slots.{position_of, kept_at, is_slot_empty}
use Rattle.ncp_monitor.specs.ConnStates.{SeenTables, is_of_sockets, is_topic, same_topic, is_marked, facts_now, facts_no_more, link_suspended_now, suspended_pair, returns_dropped}
use Rattle.ncp_interface.specs.Sockets.{is_senders}
use Rattle.ncp_monitor.specs.Replies.{is_own, is_wanted, pending_left, owes, error_wanted}
use Rattle.ncp_monitor.specs.Requests.{tables_after_request, after_cls}
use Rattle.ncp_monitor.specs.Allocation.{speaks_sender}
use Rattle.ncp_monitor.specs.Texts.{text_shown, speaker_of, admits_out, message_out_at, text_left_out}
use Rattle.ncp_monitor.specs.Speaking.{answers_echo, after_right_cls, after_reply}
use Rattle.ncp_monitor.proofs.Shapes.{Ask, Leave}
use Rattle.ncp_monitor.proofs.LinkOrder.{Sockets}
use Rattle.ncp_monitor.proofs.Firsts.{first, Unique}
use Rattle.ncp_monitor.proofs.Seeing.{is_of, number_in}
use Rattle.ncp_proof_monitor_allocation.proofs.OwnMoves.{says_of}
use Rattle.ncp_proof_monitor_allocation.proofs.Changed.{pair_at}
use Rattle.ncp_proof_monitor_allocation.proofs.SeenTables.{conn_seen, is_suspended, suspended_of, receives_at}
use Rattle.ncp_proof_monitor_allocation.proofs.Resting.{OneSuspended, due_with, due_room, fact_conns, fact_room, fact_keeps, fact_made, pair_suspended, link_suspended_too}
use Rattle.ncp_proof_monitor_allocation.proofs.Plain.{Plain}
use Rattle.ncp_proof_monitor_allocation.proofs.Counted.{Counted, PairsAgree, FactsStay, all_stay, counted_kept, counted_gone}
use Rattle.ncp_proof_monitor_allocation.proofs.CountedSteps.{pair_marked}
use Rattle.ncp_proof_monitor_allocation.proofs.SaidCounted.{said_suspended, counted_own_closing}

-- ---- a suspended one stays suspended, with other pending replies

pub suspended_kept : (me n : ℕ) (b mid after : SeenTables) (p : Sockets) → after.conns ≡ mid.conns → ((what : FactKind) → is_marked me n what mid ≡ true → is_marked me n what after ≡ true) → OneSuspended me n b mid p → OneSuspended me n b after p
suspended_kept me n b mid after p conns known_facts k = record {
  room = k.room;
  seen = λ u d. there u ∙ k.seen u d;
  suspended = ap is_suspended (there p) ∙ k.suspended;
  known_facts = λ what z. known_facts what (k.known_facts what z);
  unique = λ u z. subst (Unique (is_of_sockets me n u.0 u.1)) (sym conns) (k.unique u z);
}
  where
    there : (u : Sockets) → conn_seen me n after u ≡ conn_seen me n mid u
    there u = ap (λ (xs : List ConnState). first (is_of_sockets me n u.0 u.1) xs) conns

-- one reply more is due

pub owed_conns : (flow : ObservedFlow) (wanted : ExpectedReply) (mandatory : Bool) (b : SeenTables) → (owes flow wanted mandatory b).full ≡ false → (owes flow wanted mandatory b).conns ≡ b.conns
owed_conns flow wanted mandatory b f = (due_with b (record { at = flow.at; peer = flow.peer; host = not flow.sent; wanted = wanted; mandatory = mandatory }) f).1.0

pub owed_facts : (me n : ℕ) (flow : ObservedFlow) (wanted : ExpectedReply) (mandatory : Bool) (b : SeenTables) → (owes flow wanted mandatory b).full ≡ false → (what : FactKind) → is_marked me n what b ≡ true → is_marked me n what (owes flow wanted mandatory b) ≡ true
owed_facts me n flow wanted mandatory b f what k = ap (list_any (is_topic me n what)) (due_with b (record { at = flow.at; peer = flow.peer; host = not flow.sent; wanted = wanted; mandatory = mandatory }) f).1.1 ∙ k

pub owed_room : (flow : ObservedFlow) (wanted : ExpectedReply) (mandatory : Bool) (b : SeenTables) → (owes flow wanted mandatory b).full ≡ false → b.full ≡ false
owed_room flow wanted mandatory b f = due_room b (record { at = flow.at; peer = flow.peer; host = not flow.sent; wanted = wanted; mandatory = mandatory }) f

-- ---- a CLS that is right leaves the connections, and what was marked

pub right_cls_conns : (flow : ObservedFlow) (kept : List SentMessage) (conn : Option ConnState) (closed : SeenTables) → (after_right_cls flow kept conn Right closed).conns ≡ closed.conns
right_cls_conns flow kept None closed = refl
right_cls_conns flow kept (Some conn) closed = dropped (speaks_sender flow conn) conn.link ∙ left (flow.sent && is_senders conn.local) conn.link
  where
    out : Option ℕ → SeenTables
    out None = closed
    out (Some link) = message_out_at flow kept (position_of flow.at flow.peer link kept) closed

    conn_tables : SeenTables
    conn_tables = text_left_out flow kept (Some conn) closed

    drop_on : Option ℕ → SeenTables
    drop_on None = conn_tables
    drop_on (Some link) = returns_dropped flow.at flow.peer flow.sent link conn_tables

    dropped : (x : Bool) (o : Option ℕ) → (if x then drop_on o else conn_tables).conns ≡ conn_tables.conns
    dropped true None = refl
    dropped true (Some link) = refl
    dropped false o = refl

    out_lives : (o : Option ℕ) → (message_out_at flow kept o closed).conns ≡ closed.conns
    out_lives None = refl
    out_lives (Some place) = go (is_slot_empty (kept_at kept place).slot) (message_in (kept_at kept place).message)
      where
        go : (x : Bool) (r : Result Message MessageFault) → (if x then closed else admits_out flow r closed).conns ≡ closed.conns
        go true r = refl
        go false (Ok message) = fact_conns flow.at flow.peer (FactKind.Admits (not flow.sent) (text_shown (speaker_of flow) message)) closed
        go false (Result.Err fault) = refl

    left : (x : Bool) (o : Option ℕ) → (if x then out o else closed).conns ≡ closed.conns
    left true None = refl
    left true (Some link) = out_lives (position_of flow.at flow.peer link kept)
    left false o = refl

pub right_cls_facts : (flow : ObservedFlow) (kept : List SentMessage) (conn : Option ConnState) (closed : SeenTables) (what : FactKind) → is_marked flow.at flow.peer what closed ≡ true → is_marked flow.at flow.peer what (after_right_cls flow kept conn Right closed) ≡ true
right_cls_facts flow kept None closed what k = k
right_cls_facts flow kept (Some conn) closed what k = dropped (speaks_sender flow conn) conn.link (left (flow.sent && is_senders conn.local) conn.link)
  where
    out : Option ℕ → SeenTables
    out None = closed
    out (Some link) = message_out_at flow kept (position_of flow.at flow.peer link kept) closed

    conn_tables : SeenTables
    conn_tables = text_left_out flow kept (Some conn) closed

    drop_on : Option ℕ → SeenTables
    drop_on None = conn_tables
    drop_on (Some link) = returns_dropped flow.at flow.peer flow.sent link conn_tables

    dropped : (x : Bool) (o : Option ℕ) → is_marked flow.at flow.peer what conn_tables ≡ true → is_marked flow.at flow.peer what (if x then drop_on o else conn_tables) ≡ true
    dropped true None z = z
    dropped true (Some link) z = z
    dropped false o z = z

    out_facts : (o : Option ℕ) → is_marked flow.at flow.peer what (message_out_at flow kept o closed) ≡ true
    out_facts None = k
    out_facts (Some place) = go (is_slot_empty (kept_at kept place).slot) (message_in (kept_at kept place).message)
      where
        go : (x : Bool) (r : Result Message MessageFault) → is_marked flow.at flow.peer what (if x then closed else admits_out flow r closed) ≡ true
        go true r = k
        go false (Ok message) = fact_keeps flow.at flow.peer (FactKind.Admits (not flow.sent) (text_shown (speaker_of flow) message)) closed what k
        go false (Result.Err fault) = k

    left : (x : Bool) (o : Option ℕ) → is_marked flow.at flow.peer what (if x then out o else closed) ≡ true
    left true None = k
    left true (Some link) = out_facts (position_of flow.at flow.peer link kept)
    left false o = k

-- ---- a known fact that is dropped is not about a link, or an ERR

kept_without : {A : Type 0} (p t : A → Bool) (xs : List A) → ((x : A) → t x ≡ true → p x ≡ false) → list_any p xs ≡ true → list_any p (filter (λ x. not (t x)) xs) ≡ true
kept_without p t [] apart e = e
kept_without p t (x ∷ xs) apart e = go (t x) refl (kept_without p t xs apart) e
  where
    go : (b : Bool) → t x ≡ b → (list_any p xs ≡ true → list_any p (filter (λ x. not (t x)) xs) ≡ true) → (p x || list_any p xs) ≡ true
        → list_any p (if not b then x ∷ filter (λ x. not (t x)) xs else filter (λ x. not (t x)) xs) ≡ true
    go true k rest e = rest (sym (ap (λ (y : Bool). y || list_any p xs) (apart x k)) ∙ e)
    go false k rest e = by (p x) e
      where
        by : (y : Bool) → (y || list_any p xs) ≡ true → (y || list_any p (filter (λ x. not (t x)) xs)) ≡ true
        by true e = refl
        by false e = rest e

asks_alone : (host : Bool) (what other : FactKind) → same_topic what (FactKind.Asks host) ≡ true → ((h : Bool) → same_topic (FactKind.Asks h) other ≡ false) → same_topic what other ≡ false
asks_alone host (FactKind.Asks h) other e f = f h
asks_alone host (FactKind.LinkSuspended on link) other e f = absurd (cc e)
asks_alone host (FactKind.EchoesRest h) other e f = absurd (cc e)
asks_alone host (FactKind.Admits h bytes) other e f = absurd (cc e)

asked_stays : (me n : ℕ) (host : Bool) (other : FactKind) (b : SeenTables) → ((h : Bool) → same_topic (FactKind.Asks h) other ≡ false) → is_marked me n other b ≡ true → is_marked me n other (facts_no_more me n (FactKind.Asks host) b) ≡ true
asked_stays me n host other b f k = kept_without (is_topic me n other) (is_topic me n (FactKind.Asks host)) b.known_facts apart k
  where
    apart : (x : Fact) → is_topic me n (FactKind.Asks host) x ≡ true → is_topic me n other x ≡ false
    apart x e = go (x.at == me && x.peer == n) (asks_alone host x.fact_kind other (and_parts (x.at == me && x.peer == n) (same_topic x.fact_kind (FactKind.Asks host)) e).1 f)
      where
        go : (y : Bool) → same_topic x.fact_kind other ≡ false → (y && same_topic x.fact_kind other) ≡ false
        go true z = z
        go false z = refl

module _ (me n : ℕ) (m : Ends) (w : List Command) (b : SeenTables) where
  abbrev by_us : ObservedFlow
  by_us = record { at = me; peer = n; sent = true }

  -- a local request whose connection or link is suspended
  pub ask_hides : (c : Command) (p : Sockets) (request : Request) → says_of c ≡ (p, Ask (number_in request)) ∷ [] → is_of (is_senders p.0) true request ≡ true → (is_some (get m (pair_at p)) ≡ true → sends (pair_at p) ≡ is_senders p.0)
      → (tables_after_request by_us c p.0 p.1 request (Unclear None) b).full ≡ false → Plain me n (tables_after_request by_us c p.0 p.1 request (Unclear None) b) → PairsAgree me n m (c ∷ w) b → Counted me n m (c ∷ w) b
      → Counted me n m w (tables_after_request by_us c p.0 p.1 request (Unclear None) b)
  ask_hides c p request said sex proper room plain pairs k = by request said sex room plain
    where
      by : (request : Request) → says_of c ≡ (p, Ask (number_in request)) ∷ [] → is_of (is_senders p.0) true request ≡ true → (tables_after_request by_us c p.0 p.1 request (Unclear None) b).full ≡ false
          → Plain me n (tables_after_request by_us c p.0 p.1 request (Unclear None) b) → Counted me n m w (tables_after_request by_us c p.0 p.1 request (Unclear None) b)
      by (Link link) said sex room plain =
          said_suspended me n m c w b after p (Ask link) said k plain
          (suspended_kept me n b mid after p (owed_conns by_us (error_wanted 3 3 c) false mid room) (owed_facts me n by_us (error_wanted 3 3 c) false mid room) (link_suspended_too me n true link b pair p (pair_suspended me n p b pair_room)))
          (λ z. owed_facts me n by_us (error_wanted 3 3 c) false mid room (FactKind.LinkSuspended (receives_at p) link) (ap (λ (x : Bool). is_marked me n (FactKind.LinkSuspended (not x) link) mid) z ∙ fact_made me n (FactKind.LinkSuspended true link) pair mid_room))
          proper
          (λ z l g. owed_facts me n by_us (error_wanted 3 3 c) false mid room (FactKind.LinkSuspended (receives_at p) l) (fact_keeps me n (FactKind.LinkSuspended true link) pair (FactKind.LinkSuspended (receives_at p) l) (pair_marked me n p b pair_room l g)))
          pairs
        where
          pair : SeenTables
          pair = suspended_pair me n p.0 p.1 b

          mid : SeenTables
          mid = link_suspended_now me n true link pair

          after : SeenTables
          after = owes by_us (error_wanted 3 3 c) false mid

          mid_room : mid.full ≡ false
          mid_room = owed_room by_us (error_wanted 3 3 c) false mid room

          pair_room : pair.full ≡ false
          pair_room = fact_room me n (FactKind.LinkSuspended true link) pair mid_room
      by (Size size) said sex room plain =
          said_suspended me n m c w b after p (Ask size) said k plain
          (suspended_kept me n b pair after p (owed_conns by_us (error_wanted 3 3 c) false pair room) (owed_facts me n by_us (error_wanted 3 3 c) false pair room) (pair_suspended me n p b pair_room))
          (λ z. let nay : true ≡ false = sym sex ∙ z in absurd (cc nay))
          proper
          (λ z l g. owed_facts me n by_us (error_wanted 3 3 c) false pair room (FactKind.LinkSuspended (receives_at p) l) (pair_marked me n p b pair_room l g))
          pairs
        where
          pair : SeenTables
          pair = suspended_pair me n p.0 p.1 b

          after : SeenTables
          after = owes by_us (error_wanted 3 3 c) false pair

          pair_room : pair.full ≡ false
          pair_room = owed_room by_us (error_wanted 3 3 c) false pair room

  -- a CLS whose connection is suspended
  pub leave_hides : (c : Command) (p : Sockets) → says_of c ≡ (p, Leave) ∷ [] → (is_some (get m (pair_at p)) ≡ true → sends (pair_at p) ≡ is_senders p.0) → (after_cls by_us c p.0 p.1 (Unclear None) b).full ≡ false
      → Plain me n (after_cls by_us c p.0 p.1 (Unclear None) b) → PairsAgree me n m (c ∷ w) b → Counted me n m (c ∷ w) b → Counted me n m w (after_cls by_us c p.0 p.1 (Unclear None) b)
  leave_hides c p said proper room plain pairs k =
      said_suspended me n m c w b (owes by_us (error_wanted 4 3 c) false pair) p Leave said k plain
      (suspended_kept me n b pair (owes by_us (error_wanted 4 3 c) false pair) p (owed_conns by_us (error_wanted 4 3 c) false pair room) (owed_facts me n by_us (error_wanted 4 3 c) false pair room) (pair_suspended me n p b pair_room))
      tt proper
      (λ z l g. owed_facts me n by_us (error_wanted 4 3 c) false pair room (FactKind.LinkSuspended (receives_at p) l) (pair_marked me n p b pair_room l g))
      pairs
    where
      pair : SeenTables
      pair = suspended_pair me n p.0 p.1 b

      pair_room : pair.full ≡ false
      pair_room = owed_room by_us (error_wanted 4 3 c) false pair room

  -- a CLS that is right
  pub leave_counted : (c : Command) (p : Sockets) (kept : List SentMessage) (conn : Option ConnState) → says_of c ≡ (p, Leave) ∷ [] → Unique (is_of_sockets me n p.0 p.1) b.conns → suspended_of me n b p ≡ false
      → Plain me n (after_right_cls by_us kept conn Right (after_cls by_us c p.0 p.1 Right b)) → Counted me n m (c ∷ w) b → Counted me n m w (after_right_cls by_us kept conn Right (after_cls by_us c p.0 p.1 Right b))
  leave_counted c p kept conn said unique r plain k =
      counted_own_closing me n m c w b (after_right_cls by_us kept conn Right (after_cls by_us c p.0 p.1 Right b)) p said unique r
      (right_cls_conns by_us kept conn (after_cls by_us c p.0 p.1 Right b)) (right_cls_facts by_us kept conn (after_cls by_us c p.0 p.1 Right b)) plain k

  -- ---- ECO, ERP, ERR

  pub eco_counted : (byte : ℕ) → (owes by_us (ExpectedReply.Echo byte) true (facts_now me n (FactKind.Asks true) b)).full ≡ false → Plain me n (owes by_us (ExpectedReply.Echo byte) true (facts_now me n (FactKind.Asks true) b)) → Counted me n m (Eco byte ∷ w) b
      → Counted me n m w (owes by_us (ExpectedReply.Echo byte) true (facts_now me n (FactKind.Asks true) b))
  eco_counted byte room plain k =
      counted_kept me n m w b (owes by_us (ExpectedReply.Echo byte) true mid) (owed_conns by_us (ExpectedReply.Echo byte) true mid room ∙ fact_conns me n (FactKind.Asks true) b)
      (all_stay me n b (owes by_us (ExpectedReply.Echo byte) true mid) (λ what z. owed_facts me n by_us (ExpectedReply.Echo byte) true mid room what (fact_keeps me n (FactKind.Asks true) b what z))) plain (counted_gone me n m (Eco byte) w b refl k)
    where
      mid : SeenTables
      mid = facts_now me n (FactKind.Asks true) b

  -- a reply strikes dues alone
  reply_same : (flow : ObservedFlow) (c : Command) (conn_tables : SeenTables) → ((after_reply flow c conn_tables).conns ≡ conn_tables.conns) × ((after_reply flow c conn_tables).known_facts ≡ conn_tables.known_facts)
  reply_same flow c conn_tables = go (is_wanted (is_own flow) c conn_tables.pending_replies)
    where
      go : (x : Bool) → ((if x then record conn_tables { pending_replies = pending_left (is_own flow) c conn_tables.pending_replies } else conn_tables).conns ≡ conn_tables.conns) × ((if x then record conn_tables { pending_replies = pending_left (is_own flow) c conn_tables.pending_replies } else conn_tables).known_facts ≡ conn_tables.known_facts)
      go true = (refl, refl)
      go false = (refl, refl)

  pub reply_counted : (flow : ObservedFlow) (c : Command) (v : List Command) (conn_tables : SeenTables) → Plain me n (after_reply flow c conn_tables) → Counted me n m v conn_tables → Counted me n m v (after_reply flow c conn_tables)
  reply_counted flow c v conn_tables plain k =
      counted_kept me n m v conn_tables (after_reply flow c conn_tables) (reply_same flow c conn_tables).0
      (all_stay me n conn_tables (after_reply flow c conn_tables) (λ what z. ap (list_any (is_topic me n what)) (reply_same flow c conn_tables).1 ∙ z)) plain k

  pub answers_counted : (flow : ObservedFlow) (v : List Command) (conn_tables : SeenTables) → flow.at ≡ me → flow.peer ≡ n → Plain me n (answers_echo flow conn_tables) → Counted me n m v conn_tables → Counted me n m v (answers_echo flow conn_tables)
  answers_counted flow v conn_tables at peer plain k = counted_kept me n m v conn_tables (answers_echo flow conn_tables) (same_conns (is_marked flow.at flow.peer (FactKind.Asks (not flow.sent)) conn_tables)) stay plain k
    where
      echoed : Bool → SeenTables
      echoed x = if x then facts_no_more flow.at flow.peer (FactKind.Asks (not flow.sent)) conn_tables else facts_now flow.at flow.peer (FactKind.EchoesRest (not flow.sent)) conn_tables

      same_conns : (x : Bool) → (echoed x).conns ≡ conn_tables.conns
      same_conns true = refl
      same_conns false = fact_conns flow.at flow.peer (FactKind.EchoesRest (not flow.sent)) conn_tables

      stays : (what : FactKind) → ((h : Bool) → same_topic (FactKind.Asks h) what ≡ false) → is_marked me n what conn_tables ≡ true → is_marked me n what (answers_echo flow conn_tables) ≡ true
      stays what f z =
          subst (λ (a : ℕ). is_marked a n what conn_tables ≡ true → is_marked a n what (answers_echo flow conn_tables) ≡ true) at
          (subst (λ (q : ℕ). is_marked flow.at q what conn_tables ≡ true → is_marked flow.at q what (answers_echo flow conn_tables) ≡ true) peer (by (is_marked flow.at flow.peer (FactKind.Asks (not flow.sent)) conn_tables))) z
        where
          by : (x : Bool) → is_marked flow.at flow.peer what conn_tables ≡ true → is_marked flow.at flow.peer what (echoed x) ≡ true
          by true y = asked_stays flow.at flow.peer (not flow.sent) what conn_tables f y
          by false y = fact_keeps flow.at flow.peer (FactKind.EchoesRest (not flow.sent)) conn_tables what y

      stay : FactsStay me n conn_tables (answers_echo flow conn_tables)
      stay = record { links = λ host link z. stays (FactKind.LinkSuspended host link) (λ h. refl) z; admits = λ bytes z. stays (FactKind.Admits true bytes) (λ h. refl) z }
