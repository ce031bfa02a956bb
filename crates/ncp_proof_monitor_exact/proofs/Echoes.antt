-- While no rule is broken, each ERP that is pending has its ECO, and each side owes at most one. So none
-- comes unasked, and no echoes are suspended.
use Rattle.std.proofs.Common.{◌≡◌, ◌⊎◌, inl, inr, ℕ, ◌+◌, ◌≤◌, ◌==◌, Bool, true, false, not, ◌&&◌, ◌||◌, if◌then◌else◌, List, [], ◌∷◌, ◌++◌, map, length, Option, None, Some, is_some, option_map, Result, Ok, refl, sym, ap, ◌∙◌, subst, arith}
use Rattle.std.specs.Prelude.{nat_lt, slice_set}
use Rattle.std.specs.List.{list_any, filter, remove}
use Rattle.std.proofs.Math.Bool.{beq}
use Rattle.std.proofs.lemmas.Bool.{and_parts, eqb-true}
use Rattle.ncp_leader.specs.declared.fault.MessageFault.{MessageFault}
use Rattle.ncp_leader.specs.Message.{Message, message_in}
use Rattle.ncp_wire.specs.declared.command.Command.{Command}
use Rattle.ncp_wire.specs.declared.command.Command.TheVariants.{Nop, Rts, Str, Cls, Gvb, Ret, Inr, Ins, Eco, Erp, Err, Rst, Rrp}
use Rattle.ncp_monitor.specs.declared.conn_tables.TheConstants.{MAX_TABLE_ROWS}
use Rattle.ncp_monitor.specs.declared.pending_reply.PendingReply.{PendingReply}
use Rattle.ncp_monitor.specs.declared.pending_reply.ExpectedReply.{ExpectedReply}
use Rattle.ncp_monitor.specs.declared.finding.Rule.{Rule}
use Rattle.ncp_interface.specs.declared.sent_message.SentMessage.{SentMessage}
use Rattle.ncp_monitor.specs.declared.link_target.ReceiveLink.{ReceiveLink}
use Rattle.ncp_monitor.specs.declared.link_target.LinkTarget.{LinkTarget}
use Rattle.ncp_monitor.specs.declared.conn_state.ConnState.{ConnState}
use Rattle.ncp_monitor.specs.declared.conn_state.Fact.{Fact}
use Rattle.ncp_monitor.specs.declared.conn_state.FactKind.{FactKind}
use Rattle.ncp_interface.specs.declared.request.Request.{Request}
use Rattle.ncp_interface.specs.declared.request.Request.TheVariants.{Link, Size}
use Rattle.ncp_monitor.specs.declared.observed_flow.ObservedFlow.{ObservedFlow}
use Rattle.ncp_monitor.specs.declared.observed_flow.Acceptance.{Acceptance}
use Rattle.ncp_monitor.specs.declared.observed_flow.Acceptance.TheVariants.{Right, Refused, Unclear}
use Rattle.ncp_monitor.specs.ConnStates.{SeenTables, no_conn_tables, unasked_conn, has_sent_cls, with_cls_sent, with_request_sent, conn_at_index, index_with_sockets, conn_of, same_topic, is_topic, is_marked, with_conn, put_conn, facts_now, facts_no_more, is_return, returns_dropped, link_suspended_now, suspended_link, suspended_pair, is_conn_between, is_fact_between, is_due_between, tables_cleared}
use Rattle.ncp_interface.specs.Sockets.{is_senders, is_of_sexes}
use Rattle.ncp_monitor.specs.Replies.{is_due_of, is_own, is_wanted, answers, says_wanted, optional, fits_sure, skipped, pending_struck, pending_left, owes, error_wanted, reply_rule, after_reply}
use Rattle.ncp_monitor.specs.Requests.{is_link_busy, suspended_asked, asks, closes_side, tables_after_request, after_cls}
use Rattle.ncp_interface.specs.Slots.{position_of, kept_at, is_slot_empty}
use Rattle.ncp_monitor.specs.Allocation.{kept_sum, target_on, from_receiver, from_sender, index_on_receive_link, speaks_receiver, limit_rule, returned_rules, over_rule, is_any, owes_error, owes_error_if, other_code, with_grant, asked_back, recalled, after_gvb, with_return, suspended_if, suspended_conn, after_wanted_ret, after_ret, after_open, demuxed_after, after_link, speaks_sender, ends_returns}
use Rattle.ncp_monitor.specs.Texts.{text_shown, speaker_of, is_error_admitted, admits_error, admits_out, message_out_at, text_left_out, text_target, conn_came_at, after_text_came, used, text_suspended, admits_error_if, over_suspended, open_text_rules, demuxed_after_text, conn_tables_after_text}
use Rattle.ncp_monitor.specs.Speaking.{here_of, there_of, asking_acceptance, closing_acceptance, eco_rule, after_eco, answers_echo, after_error, command_rule, tables_after_command, after_right_cls, is_admission_of, is_admission, after_all_said}
use Rattle.ncp_proof_monitor_allocation.proofs.Resting.{any_after, fact_made}
use Rattle.ncp_proof_monitor_allocation.proofs.Replying.{any_fewer, none_fewer}

-- ---- truth values

abbrev pub bit : Bool → ℕ
bit true = 1
bit false = 0

or_off : (a b : Bool) → (a || b) ≡ false → (a ≡ false) × (b ≡ false)
or_off true b e = absurd (cc e)
or_off false b e = (refl, e)

either_off : (a b : Bool) → a ≡ false → b ≡ false → (a || b) ≡ false
either_off a b e f = ap (λ (x : Bool). x || b) e ∙ f

and_off : (a b c : Bool) → c ≡ false → (a && b && c) ≡ false
and_off true true c e = e
and_off true false c e = refl
and_off false b c e = refl

or_none : (b : Bool) → (b || false) ≡ b
or_none true = refl
or_none false = refl

second_off : (a b : Bool) → b ≡ false → (a && b) ≡ false
second_off true b e = e
second_off false b e = refl

any_none : {A : Type 0} (s p : A → Bool) (xs : List A) → list_any s xs ≡ false → list_any s (filter p xs) ≡ false
any_none s p [] e = refl
any_none s p (x ∷ xs) e = let both = or_off (s x) (list_any s xs) e in go (p x) both.0 (any_none s p xs both.1)
  where
    go : (b : Bool) → s x ≡ false → list_any s (filter p xs) ≡ false → list_any s (if b then x ∷ filter p xs else filter p xs) ≡ false
    go true f rest = either_off (s x) (list_any s (filter p xs)) f rest
    go false f rest = rest

-- ---- the ERPs that are pending

abbrev pub is_echo : ExpectedReply → Bool
is_echo (ExpectedReply.Echo byte) = true
is_echo (ExpectedReply.Error code or bytes) = false
is_echo (ExpectedReply.Return link messages bits) = false

-- of the host (or the peer)
abbrev pub is_erp_of : ℕ → ℕ → Bool → PendingReply → Bool
is_erp_of at peer host due = is_due_of at peer host due && is_echo due.wanted

abbrev pub count : (PendingReply → Bool) → List PendingReply → ℕ
count its [] = 0
count its (due ∷ dues) = bit (its due) + count its dues

count_after : (its : PendingReply → Bool) (dues : List PendingReply) (due : PendingReply) → count its (dues ++ due ∷ []) ≡ count its dues + bit (its due)
count_after its [] due = omega arith
count_after its (one ∷ dues) due = let k = count_after its dues due in omega (arith, k)

count_filter : (its p : PendingReply → Bool) (dues : List PendingReply) → count its (filter p dues) ≤ count its dues
count_filter its p [] = omega arith
count_filter its p (due ∷ dues) = go (p due) (count_filter its p dues)
  where
    go : (b : Bool) → count its (filter p dues) ≤ count its dues → count its (if b then due ∷ filter p dues else filter p dues) ≤ bit (its due) + count its dues
    go true k = omega (arith, k)
    go false k = omega (arith, k)

count_none : (its p : PendingReply → Bool) (dues : List PendingReply) → ((due : PendingReply) → its due ≡ true → p due ≡ false) → count its (filter p dues) ≡ 0
count_none its p [] k = refl
count_none its p (due ∷ dues) k = go (p due) (its due) refl refl (count_none its p dues k)
  where
    go : (x y : Bool) → p due ≡ x → its due ≡ y → count its (filter p dues) ≡ 0 → count its (if x then due ∷ filter p dues else filter p dues) ≡ 0
    go true true e f rest = let nay : true ≡ false = sym e ∙ k due f in absurd (cc nay)
    go true false e f rest = let z : bit (its due) ≡ 0 = ap bit f in omega (arith, z, rest)
    go false y e f rest = rest

count_struck : (its own : PendingReply → Bool) (c : Command) (dues : List PendingReply) → count its (pending_struck own c dues) ≤ count its dues
count_struck its own c [] = omega arith
count_struck its own c (due ∷ dues) = go (own due) (says_wanted due.wanted c) (count_struck its own c dues)
  where
    go : (x y : Bool) → count its (pending_struck own c dues) ≤ count its dues → count its (if x then if y then dues else pending_struck own c dues else due ∷ pending_struck own c dues) ≤ bit (its due) + count its dues
    go true true k = omega arith
    go true false k = omega (arith, k)
    go false y k = omega (arith, k)

-- a reply that is wanted strikes one
struck_one : (its own : PendingReply → Bool) (c : Command) (dues : List PendingReply) → ((due : PendingReply) → own due ≡ true → says_wanted due.wanted c ≡ true → its due ≡ true) → is_wanted own c dues ≡ true
    → count its (pending_struck own c dues) + 1 ≤ count its dues
struck_one its own c [] k e = absurd (cc e)
struck_one its own c (due ∷ dues) k e = go (own due) (says_wanted due.wanted c) refl refl e (struck_one its own c dues k)
  where
    go : (x y : Bool) → own due ≡ x → says_wanted due.wanted c ≡ y → ((x && y) || is_wanted own c dues) ≡ true → (is_wanted own c dues ≡ true → count its (pending_struck own c dues) + 1 ≤ count its dues)
        → count its (if x then if y then dues else pending_struck own c dues else due ∷ pending_struck own c dues) + 1 ≤ bit (its due) + count its dues
    go true true f g e rest = let z : bit (its due) ≡ 1 = ap bit (k due f g) in omega (arith, z)
    go true false f g e rest = let m = rest e in omega (arith, m)
    go false y f g e rest = let m = rest e in omega (arith, m)

module _ (a p : ℕ) (h : Bool) (at peer : ℕ) (sent : Bool) (c : Command) where
  abbrev its : PendingReply → Bool
  its = is_erp_of a p h

  abbrev own : PendingReply → Bool
  own = is_due_of at peer sent

  count_optional : (dues : List PendingReply) → count its (map (optional own c) dues) ≡ count its dues
  count_optional [] = refl
  count_optional (due ∷ dues) = let k = count_optional dues in let e : bit (its (optional own c due)) ≡ bit (its due) = ap bit (go (answers own c due)) in omega (arith, k, e)
    where
      go : (b : Bool) → its (if b then record due { mandatory = false } else due) ≡ its due
      go true = refl
      go false = refl

  wanted_optional : (dues : List PendingReply) → is_wanted own c (map (optional own c) dues) ≡ is_wanted own c dues
  wanted_optional [] = refl
  wanted_optional (due ∷ dues) = ap (λ (b : Bool). b || is_wanted own c (map (optional own c) dues)) (go (answers own c due)) ∙ ap (λ (b : Bool). answers own c due || b) (wanted_optional dues)
    where
      go : (b : Bool) → answers own c (if b then record due { mandatory = false } else due) ≡ answers own c due
      go true = refl
      go false = refl

  count_left : (dues : List PendingReply) → count its (pending_left own c dues) ≤ count its dues
  count_left dues = go (fits_sure own c dues)
    where
      go : (b : Bool) → count its (if b then pending_struck own c dues else pending_struck own c (map (optional own c) dues)) ≤ count its dues
      go true = count_struck its own c dues
      go false = let k = count_struck its own c (map (optional own c) dues) in let e = count_optional dues in omega (arith, k, e)

  left_one : (dues : List PendingReply) → ((due : PendingReply) → own due ≡ true → says_wanted due.wanted c ≡ true → its due ≡ true) → is_wanted own c dues ≡ true → count its (pending_left own c dues) + 1 ≤ count its dues
  left_one dues k w = go (fits_sure own c dues)
    where
      go : (b : Bool) → count its (if b then pending_struck own c dues else pending_struck own c (map (optional own c) dues)) + 1 ≤ count its dues
      go true = struck_one its own c dues k w
      go false = let m = struck_one its own c (map (optional own c) dues) k (wanted_optional dues ∙ w) in let e = count_optional dues in omega (arith, m, e)

-- ---- the invariant

abbrev pub is_echo_rest : FactKind → Bool
is_echo_rest (FactKind.EchoesRest host) = true
is_echo_rest (FactKind.LinkSuspended host link) = false
is_echo_rest (FactKind.Asks host) = false
is_echo_rest (FactKind.Admits host bytes) = false

abbrev pub is_echo_fact : Fact → Bool
is_echo_fact one = is_echo_rest one.fact_kind

-- each pending ERP has its ECO, which has no other; and no echoes are suspended
pub record EchoesAsked (b : SeenTables) : Type 0 where
  pub asked : (a p : ℕ) (h : Bool) → count (is_erp_of a p h) b.pending_replies ≤ bit (is_marked a p (FactKind.Asks (not h)) b)
  pub rest : list_any is_echo_fact b.known_facts ≡ false

pub none_asked : EchoesAsked no_conn_tables
none_asked = record { asked = λ a p h. omega arith; rest = refl }

-- ---- what leaves it

pub record EchoesStay (b now : SeenTables) : Type 0 where
  pub fewer : (a p : ℕ) (h : Bool) → count (is_erp_of a p h) now.pending_replies ≤ count (is_erp_of a p h) b.pending_replies
  pub marks : (a p : ℕ) (h : Bool) → is_marked a p (FactKind.Asks h) now ≡ is_marked a p (FactKind.Asks h) b
  pub rest : list_any is_echo_fact b.known_facts ≡ false → list_any is_echo_fact now.known_facts ≡ false

pub stay_asked : (b now : SeenTables) → EchoesStay b now → EchoesAsked b → EchoesAsked now
stay_asked b now s k = record {
  asked = λ a p h.
      let f = s.fewer a p h in
      let m : count (is_erp_of a p h) b.pending_replies ≤ bit (is_marked a p (FactKind.Asks (not h)) now) = subst (λ (x : Bool). count (is_erp_of a p h) b.pending_replies ≤ bit x) (sym (s.marks a p (not h))) (k.asked a p h) in
      omega (arith, f, m);
  rest = s.rest k.rest;
}

pub stay_lists : (b now : SeenTables) → now.pending_replies ≡ b.pending_replies → now.known_facts ≡ b.known_facts → EchoesStay b now
stay_lists b now e f = record {
  fewer = λ a p h. let k = ap (count (is_erp_of a p h)) e in omega (arith, k);
  marks = λ a p h. ap (list_any (is_topic a p (FactKind.Asks h))) f;
  rest = λ z. ap (list_any is_echo_fact) f ∙ z;
}

pub stay_same : (b : SeenTables) → EchoesStay b b
stay_same b = stay_lists b b refl refl

pub stay_then : (b mid now : SeenTables) → EchoesStay b mid → EchoesStay mid now → EchoesStay b now
stay_then b mid now k l = record {
  fewer = λ a p h. let x = k.fewer a p h in let y = l.fewer a p h in omega (arith, x, y);
  marks = λ a p h. l.marks a p h ∙ k.marks a p h;
  rest = λ z. l.rest (k.rest z);
}

stay_dues : (b : SeenTables) (dues : List PendingReply) → ((a p : ℕ) (h : Bool) → count (is_erp_of a p h) dues ≤ count (is_erp_of a p h) b.pending_replies) → EchoesStay b (record b { pending_replies = dues })
stay_dues b dues k = record { fewer = k; marks = λ a p h. refl; rest = λ z. z }

stay_conn : (b : SeenTables) (conn : ConnState) → EchoesStay b (with_conn b conn)
stay_conn b conn = go (nat_lt (length b.conns) MAX_TABLE_ROWS)
  where
    go : (x : Bool) → EchoesStay b (if x then record b { conns = b.conns ++ conn ∷ [] } else record b { full = true })
    go true = stay_lists b (record b { conns = b.conns ++ conn ∷ [] }) refl refl
    go false = stay_lists b (record b { full = true }) refl refl

stay_put : (b : SeenTables) (conns : List ConnState) → EchoesStay b (record b { conns = conns })
stay_put b conns = stay_lists b (record b { conns = conns }) refl refl

stay_owes : (flow : ObservedFlow) (wanted : ExpectedReply) (mandatory : Bool) (b : SeenTables) → is_echo wanted ≡ false → EchoesStay b (owes flow wanted mandatory b)
stay_owes flow wanted mandatory b e = go (nat_lt (length b.pending_replies) MAX_TABLE_ROWS)
  where
    due : PendingReply
    due = record { at = flow.at; peer = flow.peer; host = not flow.sent; wanted = wanted; mandatory = mandatory }

    go : (x : Bool) → EchoesStay b (if x then record b { pending_replies = b.pending_replies ++ due ∷ [] } else record b { full = true })
    go true =
        stay_dues b (b.pending_replies ++ due ∷ [])
        (λ a p h.
        let k = count_after (is_erp_of a p h) b.pending_replies due in
        let z : bit (is_erp_of a p h due) ≡ 0 = ap bit (second_off (is_due_of a p h due) (is_echo wanted) e) in
        omega (arith, k, z))
    go false = stay_lists b (record b { full = true }) refl refl

-- neither an ECO nor the echoes
record IsAside (what : FactKind) : Type 0 where
  asks : (h : Bool) → same_topic what (FactKind.Asks h) ≡ false
  rest : is_echo_rest what ≡ false

stay_fact : (at peer : ℕ) (what : FactKind) (b : SeenTables) → IsAside what → EchoesStay b (facts_now at peer what b)
stay_fact at peer what b k = go (is_marked at peer what b) (nat_lt (length b.known_facts) MAX_TABLE_ROWS)
  where
    one : Fact
    one = record { at = at; peer = peer; fact_kind = what }

    go : (x y : Bool) → EchoesStay b (if x then b else if y then record b { known_facts = b.known_facts ++ one ∷ [] } else record b { full = true })
    go true y = stay_same b
    go false true = record {
      fewer = λ a p h. omega arith;
      marks = λ a p h.
          any_after (is_topic a p (FactKind.Asks h)) b.known_facts one
          ∙ ap (λ (x : Bool). list_any (is_topic a p (FactKind.Asks h)) b.known_facts || x) (and_off (at == a) (peer == p) (same_topic what (FactKind.Asks h)) (k.asks h))
          ∙ or_none (list_any (is_topic a p (FactKind.Asks h)) b.known_facts);
      rest = λ z. any_after is_echo_fact b.known_facts one ∙ either_off (list_any is_echo_fact b.known_facts) (is_echo_rest what) z k.rest;
    }
    go false false = stay_lists b (record b { full = true }) refl refl

stay_dropped : (at peer : ℕ) (host : Bool) (link : ℕ) (b : SeenTables) → EchoesStay b (returns_dropped at peer host link b)
stay_dropped at peer host link b = stay_dues b (filter (λ due. not (is_return at peer host link due)) b.pending_replies) (λ a p h. count_filter (is_erp_of a p h) (λ due. not (is_return at peer host link due)) b.pending_replies)

stay_link : (at peer : ℕ) (host : Bool) (link : ℕ) (b : SeenTables) → EchoesStay b (link_suspended_now at peer host link b)
stay_link at peer host link b =
    let mid = facts_now at peer (FactKind.LinkSuspended host link) b in
    stay_then b mid (link_suspended_now at peer host link b) (stay_fact at peer (FactKind.LinkSuspended host link) b (record { asks = λ h. refl; rest = refl })) (stay_dropped at peer (not host) link mid)

stay_admits : (at peer : ℕ) (host : Bool) (bytes : List ℕ) (b : SeenTables) → EchoesStay b (facts_now at peer (FactKind.Admits host bytes) b)
stay_admits at peer host bytes b = stay_fact at peer (FactKind.Admits host bytes) b (record { asks = λ h. refl; rest = refl })

stay_suspended : (at peer : ℕ) (conn : ConnState) (b : SeenTables) → EchoesStay b (suspended_link at peer conn b)
stay_suspended at peer conn b = go conn.link
  where
    link_rested : Option ℕ → SeenTables
    link_rested None = b
    link_rested (Some link) = link_suspended_now at peer (not (is_senders conn.local)) link b

    go : (o : Option ℕ) → EchoesStay b (link_rested o)
    go None = stay_same b
    go (Some link) = stay_link at peer (not (is_senders conn.local)) link b

stay_pair : (at peer local remote : ℕ) (b : SeenTables) → EchoesStay b (suspended_pair at peer local remote b)
stay_pair at peer local remote b = go (index_with_sockets at peer local remote b.conns)
  where
    put_there : ℕ → SeenTables
    put_there i = record b { conns = slice_set b.conns i (record (conn_at_index b.conns i) { suspended = true }) }

    rested : Option ℕ → SeenTables
    rested None = with_conn b (record (unasked_conn at peer local remote) { suspended = true })
    rested (Some i) = suspended_link at peer (conn_at_index b.conns i) (put_there i)

    go : (o : Option ℕ) → EchoesStay b (rested o)
    go None = stay_conn b (record (unasked_conn at peer local remote) { suspended = true })
    go (Some i) =
        stay_then b (put_there i) (suspended_link at peer (conn_at_index b.conns i) (put_there i)) (stay_put b (slice_set b.conns i (record (conn_at_index b.conns i) { suspended = true }))) (stay_suspended at peer (conn_at_index b.conns i) (put_there i))

stay_reply : (flow : ObservedFlow) (c : Command) (b : SeenTables) → EchoesStay b (after_reply flow c b)
stay_reply flow c b = go (is_wanted (is_due_of flow.at flow.peer flow.sent) c b.pending_replies)
  where
    dues : List PendingReply
    dues = pending_left (is_due_of flow.at flow.peer flow.sent) c b.pending_replies

    go : (x : Bool) → EchoesStay b (if x then record b { pending_replies = dues } else b)
    go true = stay_dues b dues (λ a p h. count_left a p h flow.at flow.peer flow.sent c b.pending_replies)
    go false = stay_same b

-- ---- requests and CLS

module _ (flow : ObservedFlow) where
  stay_asks : (local remote : ℕ) (request : Request) (b : SeenTables) (o : Option ℕ) → EchoesStay b (asks flow local remote request b o)
  stay_asks local remote request b None = stay_conn b (with_request_sent (record (unasked_conn flow.at flow.peer local remote) { since = b.number }) request)
  stay_asks local remote request b (Some i) = stay_put b (slice_set b.conns i (with_request_sent (conn_at_index b.conns i) request))

  stay_asked_link : (request : Request) (b : SeenTables) → EchoesStay b (suspended_asked flow request b)
  stay_asked_link (Link link) b = stay_link flow.at flow.peer flow.sent link b
  stay_asked_link (Size size) b = stay_same b

  stay_request : (c : Command) (local remote : ℕ) (request : Request) (v : Acceptance) (b : SeenTables) → EchoesStay b (tables_after_request flow c local remote request v b)
  stay_request c local remote request Right b = stay_asks local remote request b (index_with_sockets flow.at flow.peer local remote b.conns)
  stay_request c local remote request (Refused wrong) b = stay_owes flow (error_wanted 3 3 c) true b refl
  stay_request c local remote request (Unclear wrong) b =
      let mid = suspended_pair flow.at flow.peer local remote b in
      let now = suspended_asked flow request mid in
      stay_then b now (owes flow (error_wanted 3 3 c) false now) (stay_then b mid now (stay_pair flow.at flow.peer local remote b) (stay_asked_link request mid)) (stay_owes flow (error_wanted 3 3 c) false now refl)

  stay_closes : (b : SeenTables) (o : Option ℕ) → EchoesStay b (closes_side flow b o)
  stay_closes b None = stay_same b
  stay_closes b (Some i) = go ((with_cls_sent (conn_at_index b.conns i) flow.sent).host_left && (with_cls_sent (conn_at_index b.conns i) flow.sent).peer_left)
    where
      go : (x : Bool) → EchoesStay b (if x then record b { conns = remove b.conns i } else record b { conns = slice_set b.conns i (with_cls_sent (conn_at_index b.conns i) flow.sent) })
      go true = stay_put b (remove b.conns i)
      go false = stay_put b (slice_set b.conns i (with_cls_sent (conn_at_index b.conns i) flow.sent))

  stay_cls : (c : Command) (local remote : ℕ) (v : Acceptance) (b : SeenTables) → EchoesStay b (after_cls flow c local remote v b)
  stay_cls c local remote Right b = stay_closes b (index_with_sockets flow.at flow.peer local remote b.conns)
  stay_cls c local remote (Refused wrong) b = stay_owes flow (error_wanted 3 3 c) true b refl
  stay_cls c local remote (Unclear wrong) b =
      let mid = suspended_pair flow.at flow.peer local remote b in
      stay_then b mid (owes flow (error_wanted 4 3 c) false mid) (stay_pair flow.at flow.peer local remote b) (stay_owes flow (error_wanted 4 3 c) false mid refl)

  stay_out : (kept : List SentMessage) (o : Option ℕ) (b : SeenTables) → EchoesStay b (message_out_at flow kept o b)
  stay_out kept None b = stay_same b
  stay_out kept (Some place) b = go (is_slot_empty (kept_at kept place).slot) (message_in (kept_at kept place).message)
    where
      go : (x : Bool) (r : Result Message MessageFault) → EchoesStay b (if x then b else admits_out flow r b)
      go true r = stay_same b
      go false (Ok message) = stay_admits flow.at flow.peer (not flow.sent) (text_shown (speaker_of flow) message) b
      go false (Result.Err fault) = stay_same b

  stay_text_out : (kept : List SentMessage) (o : Option ConnState) (b : SeenTables) → EchoesStay b (text_left_out flow kept o b)
  stay_text_out kept None b = stay_same b
  stay_text_out kept (Some conn) b = go (flow.sent && is_senders conn.local) conn.link
    where
      on : Option ℕ → SeenTables
      on None = b
      on (Some link) = message_out_at flow kept (position_of flow.at flow.peer link kept) b

      go : (x : Bool) (o : Option ℕ) → EchoesStay b (if x then on o else b)
      go false o = stay_same b
      go true None = stay_same b
      go true (Some link) = stay_out kept (position_of flow.at flow.peer link kept) b

  stay_returns : (o : Option ConnState) (b : SeenTables) → EchoesStay b (ends_returns flow o b)
  stay_returns None b = stay_same b
  stay_returns (Some conn) b = go (speaks_sender flow conn) conn.link
    where
      drop_on : Option ℕ → SeenTables
      drop_on None = b
      drop_on (Some link) = returns_dropped flow.at flow.peer flow.sent link b

      go : (x : Bool) (o : Option ℕ) → EchoesStay b (if x then drop_on o else b)
      go false o = stay_same b
      go true None = stay_same b
      go true (Some link) = stay_dropped flow.at flow.peer flow.sent link b

  stay_right_cls : (kept : List SentMessage) (o : Option ConnState) (v : Acceptance) (b : SeenTables) → EchoesStay b (after_right_cls flow kept o v b)
  stay_right_cls kept o Right b = let mid = text_left_out flow kept o b in stay_then b mid (ends_returns flow o mid) (stay_text_out kept o b) (stay_returns o mid)
  stay_right_cls kept o (Refused wrong) b = stay_same b
  stay_right_cls kept o (Unclear wrong) b = stay_same b

  -- ---- what names a link

  stay_error : (c : Command) (mandatory : Bool) (b : SeenTables) → EchoesStay b (owes_error flow c mandatory b)
  stay_error c mandatory b = stay_owes flow (error_wanted 5 (other_code c) c) mandatory b refl

  stay_error_if : (wrong : Bool) (c : Command) (b : SeenTables) → EchoesStay b (owes_error_if wrong flow c b)
  stay_error_if true c b = stay_error c false b
  stay_error_if false c b = stay_same b

  stay_suspended_if : (over : Bool) (receive_link : ReceiveLink) (b : SeenTables) → EchoesStay b (suspended_if over flow receive_link b)
  stay_suspended_if true receive_link b = stay_link flow.at flow.peer receive_link.host receive_link.link b
  stay_suspended_if false receive_link b = stay_same b

  stay_conn_suspended : (c : Command) (place : ℕ) (b : SeenTables) → EchoesStay b (owes_error flow c false (suspended_conn flow place b))
  stay_conn_suspended c place b =
      let conn = conn_at_index b.conns place in
      let mid = suspended_conn flow place b in
      stay_then b mid (owes_error flow c false mid) (stay_pair flow.at flow.peer conn.local conn.remote b) (stay_error c false mid)

  stay_gvb : (kept : List SentMessage) (c : Command) (link messages bits place : ℕ) (b : SeenTables) → EchoesStay b (after_gvb flow kept c link messages bits place b)
  stay_gvb kept c link messages bits place b = stay_then b mid (if has_sent_cls conn (not flow.sent) then mid else owed) (stay_then b wrong mid (stay_error_if conn.recall c b) (stay_put wrong (slice_set wrong.conns place (recalled flow messages bits conn)))) (go (has_sent_cls conn (not flow.sent)))
    where
      conn : ConnState
      conn = conn_at_index b.conns place

      wrong : SeenTables
      wrong = owes_error_if conn.recall flow c b

      mid : SeenTables
      mid = put_conn wrong (Some place) (recalled flow messages bits conn)

      sure : Bool
      sure = not flow.sent && not (is_link_busy flow.at flow.peer (Some link) kept)

      owed : SeenTables
      owed = owes flow (asked_back link messages bits conn) sure mid

      go : (x : Bool) → EchoesStay mid (if x then mid else owed)
      go true = stay_same mid
      go false = stay_owes flow (asked_back link messages bits conn) sure mid refl

  stay_ret : (c : Command) (receive_link : ReceiveLink) (messages bits place : ℕ) (b : SeenTables) → EchoesStay b (after_ret flow c receive_link messages bits place b)
  stay_ret c receive_link messages bits place b = go (is_wanted (is_own flow) c b.pending_replies)
    where
      conn : ConnState
      conn = conn_at_index b.conns place

      replied : SeenTables
      replied = after_reply flow c b

      put : SeenTables
      put = put_conn replied (Some place) (with_return flow messages bits conn)

      over : Bool
      over = is_some (over_rule flow c messages bits conn)

      rested : SeenTables
      rested = suspended_if over flow receive_link put

      wrong : Bool
      wrong = is_any (returned_rules flow c messages bits conn b.pending_replies)

      go : (x : Bool) → EchoesStay b (if x then after_wanted_ret flow c receive_link messages bits place b else owes_error flow c false (suspended_conn flow place b))
      go true =
          stay_then b rested (owes_error_if wrong flow c rested)
          (stay_then b put rested (stay_then b replied put (stay_reply flow c b) (stay_put replied (slice_set replied.conns place (with_return flow messages bits conn)))) (stay_suspended_if over receive_link put)) (stay_error_if wrong c rested)
      go false = stay_conn_suspended c place b

  stay_open : (kept : List SentMessage) (c : Command) (receive_link : ReceiveLink) (place : ℕ) (b : SeenTables) → EchoesStay b (after_open flow kept c receive_link place b)
  stay_open kept (Command.All link messages bits) receive_link place b =
      let conn = conn_at_index b.conns place in
      let put = put_conn b (Some place) (with_grant flow messages bits conn) in
      let c = Command.All link messages bits in
      let wrong = is_some (limit_rule c (kept_sum conn.messages messages) (kept_sum conn.bits bits)) in
      stay_then b put (owes_error_if wrong flow c put) (stay_put b (slice_set b.conns place (with_grant flow messages bits conn))) (stay_error_if wrong c put)
  stay_open kept (Gvb link messages bits) receive_link place b = stay_gvb kept (Gvb link messages bits) link messages bits place b
  stay_open kept (Ret link messages bits) receive_link place b = stay_ret (Ret link messages bits) receive_link messages bits place b
  stay_open kept Nop receive_link place b = stay_same b
  stay_open kept (Rts receive send link) receive_link place b = stay_same b
  stay_open kept (Str send receive size) receive_link place b = stay_same b
  stay_open kept (Cls my your) receive_link place b = stay_same b
  stay_open kept (Inr link) receive_link place b = stay_same b
  stay_open kept (Ins link) receive_link place b = stay_same b
  stay_open kept (Eco byte) receive_link place b = stay_same b
  stay_open kept (Erp byte) receive_link place b = stay_same b
  stay_open kept (Err code bytes) receive_link place b = stay_same b
  stay_open kept Rst receive_link place b = stay_same b
  stay_open kept Rrp receive_link place b = stay_same b

  stay_named : (kept : List SentMessage) (c : Command) (receive_link : ReceiveLink) (b : SeenTables) → EchoesStay b (after_link flow kept c receive_link b)
  stay_named kept c receive_link b = go (target_on flow receive_link b)
    where
      rested : SeenTables
      rested = link_suspended_now flow.at flow.peer receive_link.host receive_link.link b

      nobody : (x : Bool) → EchoesStay b (if x then owes flow (error_wanted 5 5 c) true b else owes_error flow c false rested)
      nobody true = stay_owes flow (error_wanted 5 5 c) true b refl
      nobody false = stay_then b rested (owes_error flow c false rested) (stay_link flow.at flow.peer receive_link.host receive_link.link b) (stay_error c false rested)

      unasked : (place : ℕ) (x : Bool) → EchoesStay b (owes_error flow c false (if x then suspended_conn flow place b else b))
      unasked place true = stay_conn_suspended c place b
      unasked place false = stay_error c false b

      go : (l : LinkTarget) → EchoesStay b (demuxed_after flow kept c receive_link b l)
      go LinkTarget.Rests = stay_error c false b
      go LinkTarget.Nobody = nobody (speaks_receiver flow receive_link)
      go LinkTarget.Closed =
          let over = not (speaks_receiver flow receive_link) in
          let mid = suspended_if over flow receive_link b in
          stay_then b mid (owes_error flow c false mid) (stay_suspended_if over receive_link b) (stay_error c false mid)
      go (LinkTarget.Unasked place) = unasked place (speaks_receiver flow receive_link)
      go (LinkTarget.Open place) = stay_open kept c receive_link place b

  -- ---- texts

  stay_came : (link : ℕ) (b : SeenTables) → EchoesStay b (after_text_came flow link b)
  stay_came link b = go flow.sent (index_on_receive_link flow (from_sender flow link) b.conns)
    where
      by : (i : ℕ) (x : Bool) → EchoesStay b (if x then b else put_conn b (Some i) (record (conn_at_index b.conns i) { came = true }))
      by i true = stay_same b
      by i false = stay_put b (slice_set b.conns i (record (conn_at_index b.conns i) { came = true }))

      go : (s : Bool) (o : Option ℕ) → EchoesStay b (if s then b else conn_came_at b o)
      go true o = stay_same b
      go false None = stay_same b
      go false (Some i) = by i (conn_at_index b.conns i).peer_left

  pub stay_text : (link : ℕ) (message : Message) (b : SeenTables) → EchoesStay b (conn_tables_after_text flow link message b)
  stay_text link message b = go (text_target flow link b)
    where
      admitted : (mid : SeenTables) → EchoesStay b mid → EchoesStay b (admits_error flow message mid)
      admitted mid k = stay_then b mid (admits_error flow message mid) k (stay_admits flow.at flow.peer (not flow.sent) (text_shown (speaker_of flow) message) mid)

      admitted_if : (x : Bool) (mid : SeenTables) → EchoesStay b mid → EchoesStay b (admits_error_if x flow message mid)
      admitted_if true mid k = admitted mid k
      admitted_if false mid k = k

      over : (x : Bool) (mid : SeenTables) → EchoesStay b mid → EchoesStay b (if x then text_suspended flow link mid else mid)
      over true mid k = stay_then b mid (text_suspended flow link mid) k (stay_link flow.at flow.peer (not flow.sent) link mid)
      over false mid k = k

      go : (l : LinkTarget) → EchoesStay b (demuxed_after_text flow link message b l)
      go LinkTarget.Rests = admitted (after_text_came flow link b) (stay_came link b)
      go LinkTarget.Nobody = admitted (text_suspended flow link b) (stay_link flow.at flow.peer (not flow.sent) link b)
      go LinkTarget.Closed = admitted (text_suspended flow link b) (stay_link flow.at flow.peer (not flow.sent) link b)
      go (LinkTarget.Unasked place) = admitted (after_text_came flow link b) (stay_came link b)
      go (LinkTarget.Open place) =
          let conn = conn_at_index b.conns place in
          let put = put_conn b (Some place) (used (length message.text) conn) in
          let came = after_text_came flow link put in
          let wrong = is_any (open_text_rules link message conn) in
          admitted_if wrong (over_suspended wrong flow link came) (over (wrong && not flow.sent) came (stay_then b put came (stay_put b (slice_set b.conns place (used (length message.text) conn))) (stay_came link put)))

-- ---- nothing of the host is queued any more

pub stay_said : (at peer : ℕ) (b : SeenTables) → EchoesStay b (after_all_said at peer b)
stay_said at peer b = record {
  fewer = λ a p h. count_filter (is_erp_of a p h) (λ due. not (is_due_of at peer true due)) b.pending_replies;
  marks = λ a p h. any_fewer (is_topic a p (FactKind.Asks h)) (is_admission at peer) b.known_facts (apart a p h);
  rest = λ z. any_none is_echo_fact (λ one. not (is_admission at peer one)) b.known_facts z;
}
  where
    no_ask : (h : Bool) (x : FactKind) → is_admission_of x ≡ true → same_topic x (FactKind.Asks h) ≡ false
    no_ask h (FactKind.LinkSuspended host link) e = absurd (cc e)
    no_ask h (FactKind.EchoesRest host) e = absurd (cc e)
    no_ask h (FactKind.Asks host) e = absurd (cc e)
    no_ask h (FactKind.Admits host bytes) e = refl

    apart : (a p : ℕ) (h : Bool) (x : Fact) → is_admission at peer x ≡ true → is_topic a p (FactKind.Asks h) x ≡ false
    apart a p h x e = and_off (x.at == a) (x.peer == p) (same_topic x.fact_kind (FactKind.Asks h)) (no_ask h x.fact_kind (last (x.at == at) (x.peer == peer) (is_admission_of x.fact_kind) e))
      where
        last : (u v w : Bool) → (u && v && w) ≡ true → w ≡ true
        last true true w f = f
        last true false w f = absurd (cc f)
        last false v w f = absurd (cc f)

-- ---- an ECO

beq_same : (x y : Bool) → beq x y ≡ true → x ≡ y
beq_same true true e = refl
beq_same false false e = refl
beq_same true false e = absurd (cc e)
beq_same false true e = absurd (cc e)

other_side : (sent h : Bool) → beq (not sent) h ≡ beq sent (not h)
other_side true true = refl
other_side true false = refl
other_side false true = refl
other_side false false = refl

and_true : (b : Bool) → (b && true) ≡ b
and_true true = refl
and_true false = refl

-- one more ERP for one more ECO
one_more : (m t d : Bool) (n : ℕ) → n ≤ bit m → d ≡ t → (t ≡ true → m ≡ false) → n + bit d ≤ bit (m || t)
one_more true true d n k e f = let nay : true ≡ false = f refl in absurd (cc nay)
one_more true false d n k e f = let z : bit d ≡ 0 = ap bit e in omega (arith, k, z)
one_more false true d n k e f = let z : bit d ≡ 1 = ap bit e in omega (arith, k, z)
one_more false false d n k e f = let z : bit d ≡ 0 = ap bit e in omega (arith, k, z)

unmarked_rest : (at peer : ℕ) (host : Bool) (facts : List Fact) → list_any is_echo_fact facts ≡ false → list_any (is_topic at peer (FactKind.EchoesRest host)) facts ≡ false
unmarked_rest at peer host [] e = refl
unmarked_rest at peer host (one ∷ facts) e =
    let both = or_off (is_echo_fact one) (list_any is_echo_fact facts) e in
    either_off (is_topic at peer (FactKind.EchoesRest host) one) (list_any (is_topic at peer (FactKind.EchoesRest host)) facts)
    (and_off (one.at == at) (one.peer == peer) (same_topic one.fact_kind (FactKind.EchoesRest host)) (other one.fact_kind both.0)) (unmarked_rest at peer host facts both.1)
  where
    other : (x : FactKind) → is_echo_rest x ≡ false → same_topic x (FactKind.EchoesRest host) ≡ false
    other (FactKind.EchoesRest side) f = absurd (cc f)
    other (FactKind.LinkSuspended side link) f = refl
    other (FactKind.Asks side) f = refl
    other (FactKind.Admits side bytes) f = refl

module _ (at peer : ℕ) (sent : Bool) (byte : ℕ) (b : SeenTables) (k : EchoesAsked b) where
  abbrev flow : ObservedFlow
  flow = record { at = at; peer = peer; sent = sent }

  pub eco_asked : (after_eco flow byte b).full ≡ false → eco_rule flow byte b ≡ None → EchoesAsked (after_eco flow byte b)
  eco_asked full right = go (is_marked at peer (FactKind.Asks sent) b) (nat_lt (length b.known_facts) MAX_TABLE_ROWS) (nat_lt (length mid.pending_replies) MAX_TABLE_ROWS) unasked full
    where
      one : Fact
      one = record { at = at; peer = peer; fact_kind = FactKind.Asks sent }

      due : PendingReply
      due = record { at = at; peer = peer; host = not sent; wanted = ExpectedReply.Echo byte; mandatory = true }

      mid : SeenTables
      mid = facts_now at peer (FactKind.Asks sent) b

      unasked : is_marked at peer (FactKind.Asks sent) b ≡ false
      unasked = by (is_marked at peer (FactKind.Asks sent) b) (is_marked at peer (FactKind.EchoesRest sent) b) (unmarked_rest at peer sent b.known_facts k.rest) right
        where
          by : (x y : Bool) → y ≡ false → (if x && not y then Some (Rule.EcoAgain byte) else None) ≡ None → x ≡ false
          by true true e f = absurd (cc e)
          by true false e f = absurd (cc f)
          by false y e f = refl

      asked_so : Bool → Bool → SeenTables
      asked_so x y = if x then b else if y then record b { known_facts = b.known_facts ++ one ∷ [] } else record b { full = true }

      owed_so : Bool → SeenTables → SeenTables
      owed_so x tables = if x then record tables { pending_replies = tables.pending_replies ++ due ∷ [] } else record tables { full = true }

      -- the one ECO of this side
      unmarked : (a p : ℕ) (h : Bool) → is_topic a p (FactKind.Asks (not h)) one ≡ true → is_marked a p (FactKind.Asks (not h)) b ≡ false
      unmarked a p h e =
          let first = and_parts (at == a && peer == p) (beq sent (not h)) e in
          let second = and_parts (at == a) (peer == p) first.0 in
          subst (λ (x : ℕ). is_marked x p (FactKind.Asks (not h)) b ≡ false) (eqb-true at a second.0)
          (subst (λ (x : ℕ). is_marked at x (FactKind.Asks (not h)) b ≡ false) (eqb-true peer p second.1)
          (subst (λ (x : Bool). is_marked at peer (FactKind.Asks x) b ≡ false) (beq_same sent (not h) first.1) unasked))

      asked : (a p : ℕ) (h : Bool) → count (is_erp_of a p h) (b.pending_replies ++ due ∷ []) ≤ bit (list_any (is_topic a p (FactKind.Asks (not h))) (b.known_facts ++ one ∷ []))
      asked a p h =
          let its = is_erp_of a p h in
          let topic = is_topic a p (FactKind.Asks (not h)) in
          let same : its due ≡ topic one = and_true (at == a && peer == p && beq (not sent) h) ∙ ap (λ (x : Bool). at == a && peer == p && x) (other_side sent h) in
          let most = one_more (list_any topic b.known_facts) (topic one) (its due) (count its b.pending_replies) (k.asked a p h) same (unmarked a p h) in
          let n = count_after its b.pending_replies due in
          subst (λ (x : Bool). count its (b.pending_replies ++ due ∷ []) ≤ bit x) (sym (any_after topic b.known_facts one)) (omega (arith, most, n))

      go : (x y z : Bool) → x ≡ false → (owed_so z (asked_so x y)).full ≡ false → EchoesAsked (owed_so z (asked_so x y))
      go true y z e f = absurd (cc e)
      go false true true e f = record { asked = asked; rest = any_after is_echo_fact b.known_facts one ∙ either_off (list_any is_echo_fact b.known_facts) false k.rest refl }
      go false true false e f = absurd (cc f)
      go false false true e f = absurd (cc f)
      go false false false e f = absurd (cc f)

  -- ---- an ERP

  pub erp_asked : reply_rule flow (Erp byte) (Rule.ErpUnasked byte) b ≡ None → EchoesAsked (answers_echo flow (after_reply flow (Erp byte) b))
  erp_asked right =
      subst (λ (x : SeenTables). EchoesAsked (answers_echo flow x)) (sym (ap (λ (x : Bool). if x then struck else b) wanted))
      (subst (λ (x : Bool). EchoesAsked (if x then facts_no_more at peer (FactKind.Asks (not sent)) struck else facts_now at peer (FactKind.EchoesRest (not sent)) struck)) (sym marked) answered)
    where
      own : PendingReply → Bool
      own = is_due_of at peer sent

      dues : List PendingReply
      dues = pending_left (is_due_of at peer sent) (Erp byte) b.pending_replies

      struck : SeenTables
      struck = record b { pending_replies = dues }

      wanted : is_wanted (is_due_of at peer sent) (Erp byte) b.pending_replies ≡ true
      wanted = by (is_wanted (is_due_of at peer sent) (Erp byte) b.pending_replies) right
        where
          by : (x : Bool) → (if x then option_map (λ d. Rule.Skipped d) (skipped (is_due_of at peer sent) (Erp byte) b.pending_replies) else Some (Rule.ErpUnasked byte)) ≡ None → x ≡ true
          by true e = refl
          by false e = absurd (cc e)

      is_its : (due : PendingReply) → is_due_of at peer sent due ≡ true → says_wanted due.wanted (Erp byte) ≡ true → is_erp_of at peer sent due ≡ true
      is_its due e f = ap (λ (x : Bool). x && is_echo due.wanted) e ∙ echoes due.wanted f
        where
          echoes : (what : ExpectedReply) → says_wanted what (Erp byte) ≡ true → is_echo what ≡ true
          echoes (ExpectedReply.Echo other) g = refl
          echoes (ExpectedReply.Error code or bytes) g = absurd (cc g)
          echoes (ExpectedReply.Return link messages bits) g = absurd (cc g)

      one_less : count (is_erp_of at peer sent) dues + 1 ≤ count (is_erp_of at peer sent) b.pending_replies
      one_less = left_one at peer sent at peer sent (Erp byte) b.pending_replies is_its wanted

      marked : is_marked at peer (FactKind.Asks (not sent)) b ≡ true
      marked = by (is_marked at peer (FactKind.Asks (not sent)) b) (k.asked at peer sent)
        where
          by : (x : Bool) → count (is_erp_of at peer sent) b.pending_replies ≤ bit x → x ≡ true
          by true m = refl
          by false m = absurd (omega (arith, m, one_less))

      -- this side owes no other
      none_left : count (is_erp_of at peer sent) dues ≡ 0
      none_left = by (is_marked at peer (FactKind.Asks (not sent)) b) (k.asked at peer sent)
        where
          by : (x : Bool) → count (is_erp_of at peer sent) b.pending_replies ≤ bit x → count (is_erp_of at peer sent) dues ≡ 0
          by true m = omega (arith, m, one_less)
          by false m = absurd (omega (arith, m, one_less))

      topic_as : (x : FactKind) (s h : Bool) → same_topic x (FactKind.Asks (not s)) ≡ true → same_topic x (FactKind.Asks (not h)) ≡ beq s h
      topic_as (FactKind.LinkSuspended side link) s h e = absurd (cc e)
      topic_as (FactKind.EchoesRest side) s h e = absurd (cc e)
      topic_as (FactKind.Admits side bytes) s h e = absurd (cc e)
      topic_as (FactKind.Asks true) true h e = absurd (cc e)
      topic_as (FactKind.Asks true) false true e = refl
      topic_as (FactKind.Asks true) false false e = refl
      topic_as (FactKind.Asks false) true true e = refl
      topic_as (FactKind.Asks false) true false e = refl
      topic_as (FactKind.Asks false) false h e = absurd (cc e)

      apart : (a p : ℕ) (h : Bool) → (at == a && peer == p && beq sent h) ≡ false → (x : Fact) → is_topic at peer (FactKind.Asks (not sent)) x ≡ true → is_topic a p (FactKind.Asks (not h)) x ≡ false
      apart a p h d x e =
          let first = and_parts (x.at == at && x.peer == peer) (same_topic x.fact_kind (FactKind.Asks (not sent))) e in
          let second = and_parts (x.at == at) (x.peer == peer) first.0 in
          ap (λ (n : ℕ). n == a && x.peer == p && same_topic x.fact_kind (FactKind.Asks (not h))) (eqb-true x.at at second.0)
          ∙ ap (λ (n : ℕ). at == a && n == p && same_topic x.fact_kind (FactKind.Asks (not h))) (eqb-true x.peer peer second.1)
          ∙ ap (λ (z : Bool). at == a && peer == p && z) (topic_as x.fact_kind sent h first.1)
          ∙ d

      asked : (a p : ℕ) (h : Bool) → count (is_erp_of a p h) dues ≤ bit (is_marked a p (FactKind.Asks (not h)) (facts_no_more at peer (FactKind.Asks (not sent)) b))
      asked a p h = by (at == a && peer == p && beq sent h) refl
        where
          by : (x : Bool) → (at == a && peer == p && beq sent h) ≡ x → count (is_erp_of a p h) dues ≤ bit (is_marked a p (FactKind.Asks (not h)) (facts_no_more at peer (FactKind.Asks (not sent)) b))
          by true e =
              let first = and_parts (at == a && peer == p) (beq sent h) e in
              let second = and_parts (at == a) (peer == p) first.0 in
              let none : count (is_erp_of a p h) dues ≡ 0 =
              subst (λ (n : ℕ). count (is_erp_of n p h) dues ≡ 0) (eqb-true at a second.0)
              (subst (λ (n : ℕ). count (is_erp_of at n h) dues ≡ 0) (eqb-true peer p second.1) (subst (λ (s : Bool). count (is_erp_of at peer s) dues ≡ 0) (beq_same sent h first.1) none_left)) in
              omega (arith, none)
          by false e =
              let same = any_fewer (is_topic a p (FactKind.Asks (not h))) (is_topic at peer (FactKind.Asks (not sent))) b.known_facts (apart a p h e) in
              let less = count_left a p h at peer sent (Erp byte) b.pending_replies in
              let most = k.asked a p h in
              subst (λ (x : Bool). count (is_erp_of a p h) dues ≤ bit x) (sym same) (omega (arith, less, most))

      answered : EchoesAsked (facts_no_more at peer (FactKind.Asks (not sent)) struck)
      answered = record { asked = asked; rest = any_none is_echo_fact (λ one. not (is_topic at peer (FactKind.Asks (not sent)) one)) b.known_facts k.rest }

-- ---- an RST: all between the two is forgotten

pub cleared_asked : (at peer : ℕ) (b : SeenTables) → EchoesAsked b → EchoesAsked (tables_cleared at peer b)
cleared_asked at peer b k = record { asked = λ a p h. by a p h (at == a && peer == p) refl; rest = any_none is_echo_fact (λ one. not (is_fact_between at peer one)) b.known_facts k.rest }
  where
    dues : List PendingReply
    dues = filter (λ due. not (is_due_between at peer due)) b.pending_replies

    facts : List Fact
    facts = filter (λ one. not (is_fact_between at peer one)) b.known_facts

    front_off : (u v w : Bool) → (u && v) ≡ false → (u && v && w) ≡ false
    front_off true true w e = absurd (cc e)
    front_off true false w e = refl
    front_off false v w e = refl

    apart : (a p : ℕ) (h : Bool) → (at == a && peer == p) ≡ false → (x : Fact) → is_fact_between at peer x ≡ true → is_topic a p (FactKind.Asks (not h)) x ≡ false
    apart a p h d x e =
        let both = and_parts (x.at == at) (x.peer == peer) e in
        ap (λ (n : ℕ). n == a && x.peer == p && same_topic x.fact_kind (FactKind.Asks (not h))) (eqb-true x.at at both.0)
        ∙ ap (λ (n : ℕ). at == a && n == p && same_topic x.fact_kind (FactKind.Asks (not h))) (eqb-true x.peer peer both.1)
        ∙ front_off (at == a) (peer == p) (same_topic x.fact_kind (FactKind.Asks (not h))) d

    between : (h : Bool) (due : PendingReply) → is_erp_of at peer h due ≡ true → not (is_due_between at peer due) ≡ false
    between h due e =
        let first = and_parts (due.at == at && due.peer == peer && beq due.host h) (is_echo due.wanted) e in
        ap not (and_parts (due.at == at && due.peer == peer) (beq due.host h) first.0).0

    by : (a p : ℕ) (h : Bool) (x : Bool) → (at == a && peer == p) ≡ x → count (is_erp_of a p h) dues ≤ bit (list_any (is_topic a p (FactKind.Asks (not h))) facts)
    by a p h true e =
        let both = and_parts (at == a) (peer == p) e in
        let none : count (is_erp_of a p h) dues ≡ 0 =
        subst (λ (n : ℕ). count (is_erp_of n p h) dues ≡ 0) (eqb-true at a both.0)
        (subst (λ (n : ℕ). count (is_erp_of at n h) dues ≡ 0) (eqb-true peer p both.1) (count_none (is_erp_of at peer h) (λ due. not (is_due_between at peer due)) b.pending_replies (between h))) in
        omega (arith, none)
    by a p h false e =
        let same = any_fewer (is_topic a p (FactKind.Asks (not h))) (is_fact_between at peer) b.known_facts (apart a p h e) in
        let less = count_filter (is_erp_of a p h) (λ due. not (is_due_between at peer due)) b.pending_replies in
        let most = k.asked a p h in
        subst (λ (x : Bool). count (is_erp_of a p h) dues ≤ bit x) (sym same) (omega (arith, less, most))

-- ---- each command that breaks no rule

module _ (at peer : ℕ) (sent : Bool) (kept : List SentMessage) where
  abbrev saying : ObservedFlow
  saying = record { at = at; peer = peer; sent = sent }

  pub command_asked : (c : Command) (b : SeenTables) → (tables_after_command saying kept c b).full ≡ false → command_rule saying kept c b ≡ None → EchoesAsked b → EchoesAsked (tables_after_command saying kept c b)
  command_asked (Rts receive send link) b full right k =
      stay_asked b (tables_after_command saying kept (Rts receive send link) b)
      (stay_request saying (Rts receive send link) (here_of saying receive send) (there_of saying receive send) (Link link) (asking_acceptance saying (Rts receive send link) receive send (is_of_sexes receive send) (Link link) b) b) k
  command_asked (Str send receive size) b full right k =
      stay_asked b (tables_after_command saying kept (Str send receive size) b)
      (stay_request saying (Str send receive size) (here_of saying send receive) (there_of saying send receive) (Size size) (asking_acceptance saying (Str send receive size) send receive (is_of_sexes receive send) (Size size) b) b) k
  command_asked (Cls my your) b full right k =
      let c = Cls my your in
      let here = here_of saying my your in
      let there = there_of saying my your in
      let acceptance = closing_acceptance saying c my your b in
      let mid = after_cls saying c here there acceptance b in
      stay_asked b (tables_after_command saying kept c b) (stay_then b mid (tables_after_command saying kept c b) (stay_cls saying c here there acceptance b) (stay_right_cls saying kept (conn_of at peer here there b.conns) acceptance mid)) k
  command_asked (Eco byte) b full right k = eco_asked at peer sent byte b k full right
  command_asked (Erp byte) b full right k = erp_asked at peer sent byte b k right
  command_asked (Err code bytes) b full right k = go (is_error_admitted saying code bytes b)
    where
      go : (x : Bool) → EchoesAsked (if x then b else after_reply saying (Err code bytes) b)
      go true = k
      go false = stay_asked b (after_reply saying (Err code bytes) b) (stay_reply saying (Err code bytes) b) k
  command_asked (Command.All link messages bits) b full right k =
      let c = Command.All link messages bits in stay_asked b (tables_after_command saying kept c b) (stay_named saying kept c (from_receiver saying link) b) k
  command_asked (Gvb link messages bits) b full right k = let c = Gvb link messages bits in stay_asked b (tables_after_command saying kept c b) (stay_named saying kept c (from_receiver saying link) b) k
  command_asked (Ret link messages bits) b full right k = let c = Ret link messages bits in stay_asked b (tables_after_command saying kept c b) (stay_named saying kept c (from_sender saying link) b) k
  command_asked (Inr link) b full right k = stay_asked b (tables_after_command saying kept (Inr link) b) (stay_named saying kept (Inr link) (from_receiver saying link) b) k
  command_asked (Ins link) b full right k = stay_asked b (tables_after_command saying kept (Ins link) b) (stay_named saying kept (Ins link) (from_sender saying link) b) k
  command_asked Nop b full right k = k
  command_asked Rst b full right k = k
  command_asked Rrp b full right k = k
