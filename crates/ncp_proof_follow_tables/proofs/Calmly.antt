-- What leaves the connections as they were, and lets no link rest.
use Rattle.std.proofs.Common.{◌≡◌, ℕ, ◌==◌, Bool, true, false, not, ◌&&◌, ◌||◌, if◌then◌else◌, List, [], ◌∷◌, ◌++◌, length, Option, None, Some, Result, Ok, refl, ap, ◌∙◌}
use Rattle.std.specs.Prelude.{nat_lt}
use Rattle.std.specs.List.{list_any, filter}
use Rattle.std.proofs.Math.Bool.{beq}
use Rattle.ncp_leader.specs.declared.fault.MessageFault.{MessageFault}
use Rattle.ncp_leader.specs.Message.{Message, message_in}
use Rattle.ncp_wire.specs.declared.command.Command.{Command}
use Rattle.ncp_monitor.specs.declared.conn_tables.TheConstants.{MAX_TABLE_ROWS}
use Rattle.ncp_monitor.specs.declared.pending_reply.PendingReply.{PendingReply}
use Rattle.ncp_monitor.specs.declared.pending_reply.ExpectedReply.{ExpectedReply}
use Rattle.ncp_interface.specs.declared.sent_message.SentMessage.{SentMessage}
use Rattle.ncp_monitor.specs.declared.conn_state.ConnState.{ConnState}
use Rattle.ncp_monitor.specs.declared.conn_state.Fact.{Fact}
use Rattle.ncp_monitor.specs.declared.conn_state.FactKind.{FactKind}
use Rattle.ncp_monitor.specs.declared.observed_flow.ObservedFlow.{ObservedFlow}
use Rattle.ncp_monitor.specs.declared.observed_flow.Acceptance.TheVariants.{Right}
use Rattle.ncp_interface.specs.Slots.{position_of, kept_at, is_slot_empty}
use Rattle.ncp_monitor.specs.ConnStates.{SeenTables, same_topic, is_topic, is_marked, facts_now, facts_no_more, returns_dropped}
use Rattle.ncp_interface.specs.Sockets.{is_senders}
use Rattle.ncp_monitor.specs.Replies.{owes, is_own, is_wanted, pending_left, after_reply}
use Rattle.ncp_monitor.specs.Texts.{text_shown, speaker_of, admits_out, message_out_at, is_error_admitted}
use Rattle.ncp_monitor.specs.Speaking.{after_eco, answers_echo, after_error, after_right_cls}

abbrev pub is_rest : FactKind → Bool
is_rest (FactKind.LinkSuspended host link) = true
is_rest (FactKind.EchoesRest host) = false
is_rest (FactKind.Asks host) = false
is_rest (FactKind.Admits host bytes) = false

abbrev pub is_link_mark : Fact → Bool
is_link_mark one = is_rest one.fact_kind

-- no link is suspended
abbrev pub NoLinkSuspended : SeenTables → Type 0
NoLinkSuspended b = list_any is_link_mark b.known_facts ≡ false

-- so none is marked, between any two hosts

rest_is : (fact_kind : FactKind) (host : Bool) (link : ℕ) → is_rest fact_kind ≡ false → same_topic fact_kind (FactKind.LinkSuspended host link) ≡ false
rest_is (FactKind.LinkSuspended other on) host link e = absurd (cc e)
rest_is (FactKind.EchoesRest other) host link e = refl
rest_is (FactKind.Asks other) host link e = refl
rest_is (FactKind.Admits other bytes) host link e = refl

and_off : (a b c : Bool) → c ≡ false → (a && b && c) ≡ false
and_off true true c e = e
and_off true false c e = refl
and_off false b c e = refl

or_off : (a b : Bool) → (a || b) ≡ false → (a ≡ false) × (b ≡ false)
or_off true b e = absurd (cc e)
or_off false b e = (refl, e)

either_off : (a b : Bool) → a ≡ false → b ≡ false → (a || b) ≡ false
either_off a b e f = ap (λ (x : Bool). x || b) e ∙ f

pub none_suspended : (at peer : ℕ) (host : Bool) (link : ℕ) (b : SeenTables) → NoLinkSuspended b → is_marked at peer (FactKind.LinkSuspended host link) b ≡ false
none_suspended at peer host link b e = go b.known_facts e
  where
    go : (known_facts : List Fact) → list_any is_link_mark known_facts ≡ false → list_any (is_topic at peer (FactKind.LinkSuspended host link)) known_facts ≡ false
    go [] e = refl
    go (one ∷ known_facts) e =
        let parts = or_off (is_link_mark one) (list_any is_link_mark known_facts) e in
        either_off (is_topic at peer (FactKind.LinkSuspended host link) one) (list_any (is_topic at peer (FactKind.LinkSuspended host link)) known_facts)
        (and_off (one.at == at) (one.peer == peer) (same_topic one.fact_kind (FactKind.LinkSuspended host link)) (rest_is one.fact_kind host link parts.0)) (go known_facts parts.1)

-- ---- the same connections, and no newly suspended link

pub record Calmly (b now : SeenTables) : Type 0 where
  pub conns : now.conns ≡ b.conns
  pub calm : NoLinkSuspended b → NoLinkSuspended now

pub calmly : (b : SeenTables) → Calmly b b
calmly b = record { conns = refl; calm = λ e. e }

pub calmly_then : (a b c : SeenTables) → Calmly a b → Calmly b c → Calmly a c
calmly_then a b c k l = record { conns = l.conns ∙ k.conns; calm = λ e. l.calm (k.calm e) }

pub owes_calmly : (flow : ObservedFlow) (wanted : ExpectedReply) (mandatory : Bool) (b : SeenTables) → Calmly b (owes flow wanted mandatory b)
owes_calmly flow wanted mandatory b = go (nat_lt (length b.pending_replies) MAX_TABLE_ROWS)
  where
    due : PendingReply
    due = record { at = flow.at; peer = flow.peer; host = not flow.sent; wanted = wanted; mandatory = mandatory }

    go : (x : Bool) → Calmly b (if x then record b { pending_replies = b.pending_replies ++ due ∷ [] } else record b { full = true })
    go true = record { conns = refl; calm = λ e. e }
    go false = record { conns = refl; calm = λ e. e }

any_after : (known_facts : List Fact) (one : Fact) → is_link_mark one ≡ false → list_any is_link_mark known_facts ≡ false → list_any is_link_mark (known_facts ++ one ∷ []) ≡ false
any_after [] one e f = either_off (is_link_mark one) false e refl
any_after (x ∷ known_facts) one e f = let parts = or_off (is_link_mark x) (list_any is_link_mark known_facts) f in either_off (is_link_mark x) (list_any is_link_mark (known_facts ++ one ∷ [])) parts.0 (any_after known_facts one e parts.1)

pub any_fewer : (p : Fact → Bool) (known_facts : List Fact) → list_any is_link_mark known_facts ≡ false → list_any is_link_mark (filter p known_facts) ≡ false
any_fewer p [] f = refl
any_fewer p (x ∷ known_facts) f = let parts = or_off (is_link_mark x) (list_any is_link_mark known_facts) f in go (p x) parts.0 (any_fewer p known_facts parts.1)
  where
    go : (b : Bool) → is_link_mark x ≡ false → list_any is_link_mark (filter p known_facts) ≡ false → list_any is_link_mark (if b then x ∷ filter p known_facts else filter p known_facts) ≡ false
    go true e rest = either_off (is_link_mark x) (list_any is_link_mark (filter p known_facts)) e rest
    go false e rest = rest

pub marks_calmly : (at peer : ℕ) (what : FactKind) (b : SeenTables) → is_rest what ≡ false → Calmly b (facts_now at peer what b)
marks_calmly at peer what b e = go (is_marked at peer what b) (nat_lt (length b.known_facts) MAX_TABLE_ROWS)
  where
    one : Fact
    one = record { at = at; peer = peer; fact_kind = what }

    go : (x y : Bool) → Calmly b (if x then b else if y then record b { known_facts = b.known_facts ++ one ∷ [] } else record b { full = true })
    go true y = calmly b
    go false true = record { conns = refl; calm = λ f. any_after b.known_facts one e f }
    go false false = record { conns = refl; calm = λ f. f }

no_more_calmly : (at peer : ℕ) (what : FactKind) (b : SeenTables) → Calmly b (facts_no_more at peer what b)
no_more_calmly at peer what b = record { conns = refl; calm = λ f. any_fewer (λ one. not (is_topic at peer what one)) b.known_facts f }

pub reply_calmly : (flow : ObservedFlow) (c : Command) (b : SeenTables) → Calmly b (after_reply flow c b)
reply_calmly flow c b = go (is_wanted (is_own flow) c b.pending_replies)
  where
    go : (x : Bool) → Calmly b (if x then record b { pending_replies = pending_left (is_own flow) c b.pending_replies } else b)
    go true = record { conns = refl; calm = λ e. e }
    go false = calmly b

-- ---- ECO, ERP and ERR

pub eco_calmly : (flow : ObservedFlow) (byte : ℕ) (b : SeenTables) → Calmly b (after_eco flow byte b)
eco_calmly flow byte b =
    calmly_then b (facts_now flow.at flow.peer (FactKind.Asks flow.sent) b) (after_eco flow byte b) (marks_calmly flow.at flow.peer (FactKind.Asks flow.sent) b refl)
    (owes_calmly flow (ExpectedReply.Echo byte) true (facts_now flow.at flow.peer (FactKind.Asks flow.sent) b))

pub erp_calmly : (flow : ObservedFlow) (c : Command) (b : SeenTables) → Calmly b (answers_echo flow (after_reply flow c b))
erp_calmly flow c b = calmly_then b mid (answers_echo flow mid) (reply_calmly flow c b) (go (is_marked flow.at flow.peer (FactKind.Asks (not flow.sent)) mid))
  where
    mid : SeenTables
    mid = after_reply flow c b

    go : (x : Bool) → Calmly mid (if x then facts_no_more flow.at flow.peer (FactKind.Asks (not flow.sent)) mid else facts_now flow.at flow.peer (FactKind.EchoesRest (not flow.sent)) mid)
    go true = no_more_calmly flow.at flow.peer (FactKind.Asks (not flow.sent)) mid
    go false = marks_calmly flow.at flow.peer (FactKind.EchoesRest (not flow.sent)) mid refl

pub err_calmly : (flow : ObservedFlow) (code : ℕ) (bytes : List ℕ) (b : SeenTables) → Calmly b (after_error flow code bytes b)
err_calmly flow code bytes b = go (is_error_admitted flow code bytes b)
  where
    go : (x : Bool) → Calmly b (if x then b else after_reply flow (Command.Err code bytes) b)
    go true = calmly b
    go false = reply_calmly flow (Command.Err code bytes) b

-- ---- besides the effect of a CLS on its connection

pub right_cls_calmly : (flow : ObservedFlow) (kept : List SentMessage) (o : Option ConnState) (b : SeenTables) → Calmly b (after_right_cls flow kept o Right b)
right_cls_calmly flow kept None b = calmly b
right_cls_calmly flow kept (Some conn) b = ended (beq (is_senders conn.local) flow.sent) conn.link (left_out (flow.sent && is_senders conn.local) conn.link)
  where
    out : Option ℕ → SeenTables
    out None = b
    out (Some link) = message_out_at flow kept (position_of flow.at flow.peer link kept) b

    drop_on : SeenTables → Option ℕ → SeenTables
    drop_on conn_tables None = conn_tables
    drop_on conn_tables (Some link) = returns_dropped flow.at flow.peer flow.sent link conn_tables

    shown : (o : Option ℕ) → Calmly b (message_out_at flow kept o b)
    shown None = calmly b
    shown (Some place) = go (is_slot_empty (kept_at kept place).slot) (message_in (kept_at kept place).message)
      where
        go : (x : Bool) (r : Result Message MessageFault) → Calmly b (if x then b else admits_out flow r b)
        go true r = calmly b
        go false (Ok message) = marks_calmly flow.at flow.peer (FactKind.Admits (not flow.sent) (text_shown (speaker_of flow) message)) b refl
        go false (Result.Err fault) = calmly b

    left_out : (x : Bool) (l : Option ℕ) → Calmly b (if x then out l else b)
    left_out true None = calmly b
    left_out true (Some link) = shown (position_of flow.at flow.peer link kept)
    left_out false l = calmly b

    mid : SeenTables
    mid = if flow.sent && is_senders conn.local then out conn.link else b

    ended : (x : Bool) (l : Option ℕ) → Calmly b mid → Calmly b (if x then drop_on mid l else mid)
    ended true None k = k
    ended true (Some link) k = record { conns = k.conns; calm = k.calm }
    ended false l k = k
