-- Of all books, whoever spoke: a link has one user at most, and no connection has link 0.
use Rattle.std.proofs.Common.{◌≡◌, ℕ, ◌+◌, ◌==◌, Bool, true, false, not, ◌&&◌, ◌||◌, if◌then◌else◌, List, [], ◌∷◌, ◌++◌, length, Option, None, Some, is_some, ◌⊎◌, inl, inr, refl, sym, ap, ◌∙◌, subst, arith}
use Rattle.std.specs.Prelude.{◌-◌, ◌^◌, nat_lt, nat_le, slice_set, Result, Ok}
use Rattle.std.specs.List.{filter, position, remove}
use Rattle.std.proofs.Math.Bool.{beq}
use Rattle.std.proofs.lemmas.Bool.{eqb-true, and_parts}
use Rattle.std.proofs.lemmas.List.Quantifiers.{position-Some}
use Rattle.ncp_wire.specs.declared.command.Command.{Command}
use Rattle.ncp_wire.specs.declared.command.Command.TheVariants.{Nop, Rts, Str, Cls, Gvb, Ret, Inr, Ins, Eco, Erp, Err, Rst, Rrp}
use Rattle.ncp_wire.specs.declared.fault.CommandFault.{CommandFault}
use Rattle.ncp_leader.specs.declared.fault.MessageFault.{MessageFault}
use Rattle.ncp_leader.specs.Message.{Message, message_in}
use Rattle.ncp_monitor.specs.declared.conn_tables.TheConstants.{MAX_TABLE_ROWS}
use Rattle.ncp_monitor.specs.declared.pending_reply.PendingReply.{PendingReply}
use Rattle.ncp_monitor.specs.declared.pending_reply.ExpectedReply.{ExpectedReply}
use Rattle.ncp_monitor.specs.declared.finding.Rule.{Rule}
use Rattle.ncp_interface.specs.declared.sent_message.SentMessage.{SentMessage}
use Rattle.ncp_monitor.specs.declared.link_target.ReceiveLink.{ReceiveLink}
use Rattle.ncp_monitor.specs.declared.link_target.LinkTarget.{LinkTarget}
use Rattle.ncp_monitor.specs.declared.conn_state.ConnState.{ConnState}
use Rattle.ncp_interface.specs.declared.request.Request.{Request}
use Rattle.ncp_interface.specs.declared.request.Request.TheVariants.{Link, Size}
use Rattle.ncp_monitor.specs.declared.conn_state.FactKind.{FactKind}
use Rattle.ncp_monitor.specs.declared.observed_flow.ObservedFlow.{ObservedFlow}
use Rattle.ncp_monitor.specs.declared.observed_flow.Acceptance.{Acceptance}
use Rattle.ncp_monitor.specs.declared.observed_flow.Acceptance.TheVariants.{Right, Refused, Unclear}
use Rattle.ncp_monitor.specs.ConnStates.{SeenTables, no_conn_tables, unasked_conn, is_of_sockets, has_link, has_sent_cls, with_cls_sent, has_sent_request, with_request_sent, conn_at_index, index_with_sockets, conn_of, user_of, is_marked, is_conn_between, with_conn, put_conn, facts_now, facts_no_more, returns_dropped, link_suspended_now, suspended_pair, with_due, tables_cleared}
use Rattle.ncp_interface.specs.Sockets.{is_senders, is_number_given, is_of_sexes}
use Rattle.ncp_monitor.specs.Replies.{owes, error_wanted, fault_wanted, is_own, is_wanted, pending_left, after_reply}
use Rattle.ncp_interface.specs.Slots.{position_of, kept_at, is_slot_empty}
use Rattle.ncp_monitor.specs.Allocation.{part_returned, kept_sum, target_at, target_on, is_receive_link_at_rest, index_on_receive_link, from_receiver, from_sender, speaks_receiver, limit_rule, returned_rules, over_rule, is_any, owes_error, owes_error_if, other_code, granted_there, with_grant, after_allocation, asked_back, recalled, after_gvb, with_return, suspended_if, suspended_conn, after_wanted_ret, after_ret, after_open, demuxed_after, after_link, speaks_sender, ends_returns}
use Rattle.ncp_monitor.specs.Texts.{text_shown, speaker_of, admits_error, is_error_admitted, is_closed_for, text_target_at, text_target, open_text_rules, used, after_text_came, conn_came_at, text_suspended, admits_error_if, demuxed_after_text, conn_tables_after_text, admits_out, message_out_at, text_left_out}
use Rattle.ncp_monitor.specs.Requests.{is_link_busy, range_rule, link_suspended, used_acceptance, link_acceptance, conn_acceptance, ranged_acceptance, request_acceptance, suspended_asked, asks, tables_after_request, closes_side, after_cls}
use Rattle.ncp_monitor.specs.Speaking.{here_of, there_of, asking_acceptance, closing_acceptance, answers_echo, tables_after_command, after_right_cls, after_spoken}
use Rattle.ncp_monitor.proofs.Firsts.{first, set_first, drop_first, found_first, set_found, drop_found, Unique, unique_following, unique_drop, unique_filter}
use Rattle.ncp_monitor.proofs.BooksAt.{has_sockets}
use Rattle.ncp_proof_monitor_allocation.proofs.Users.{found_at_first}
use Rattle.ncp_proof_monitor_allocation.proofs.Resting.{fact_conns, fact_room, due_room}

-- ---- each of a list

abbrev pub Each : {A : Type 0} → (A → Type 0) → List A → Type 0
Each P [] = Unit {0}
Each P (x ∷ xs) = P x × Each P xs

pub each_first : {A : Type 0} (P : A → Type 0) (t : A → Bool) (xs : List A) (z : A) → Each P xs → first t xs ≡ Some z → P z
each_first P t [] z e f = absurd (cc f)
each_first P t (x ∷ xs) z (h, e) f = go (t x) (each_first P t xs z e) f
  where
    go : (b : Bool) → (first t xs ≡ Some z → P z) → (if b then Some x else first t xs) ≡ Some z → P z
    go true rest f = let is : x ≡ z = cc f in subst P is h
    go false rest f = rest f

each_after : {A : Type 0} (P : A → Type 0) (xs : List A) (y : A) → P y → Each P xs → Each P (xs ++ y ∷ [])
each_after P [] y h e = (h, tt)
each_after P (x ∷ xs) y h (k, e) = (k, each_after P xs y h e)

each_set : {A : Type 0} (P : A → Type 0) (t : A → Bool) (xs : List A) (y : A) → P y → Each P xs → Each P (set_first t y xs)
each_set P t [] y h e = tt
each_set P t (x ∷ xs) y h (k, e) = go (t x) (each_set P t xs y h e)
  where
    go : (b : Bool) → Each P (set_first t y xs) → Each P (if b then y ∷ xs else x ∷ set_first t y xs)
    go true rest = (h, e)
    go false rest = (k, rest)

each_drop : {A : Type 0} (P : A → Type 0) (t : A → Bool) (xs : List A) → Each P xs → Each P (drop_first t xs)
each_drop P t [] e = tt
each_drop P t (x ∷ xs) (k, e) = go (t x) (each_drop P t xs e)
  where
    go : (b : Bool) → Each P (drop_first t xs) → Each P (if b then xs else x ∷ drop_first t xs)
    go true rest = e
    go false rest = (k, rest)

each_filter : {A : Type 0} (P : A → Type 0) (t : A → Bool) (xs : List A) → Each P xs → Each P (filter t xs)
each_filter P t [] e = tt
each_filter P t (x ∷ xs) (k, e) = go (t x) (each_filter P t xs e)
  where
    go : (b : Bool) → Each P (filter t xs) → Each P (if b then x ∷ filter t xs else filter t xs)
    go true rest = (k, rest)
    go false rest = rest

-- ---- another in the place of the first that passes

-- of what passes a test, none passes one that none passes
pub passed_over : {A : Type 0} (t s : A → Bool) (xs : List A) (z : A) → first t xs ≡ None → first s xs ≡ Some z → t z ≡ false
passed_over t s [] z e f = absurd (cc f)
passed_over t s (x ∷ xs) z e f = go (t x) refl (s x) (passed_over t s xs z) e f
  where
    go : (a : Bool) → t x ≡ a → (b : Bool) → (first t xs ≡ None → first s xs ≡ Some z → t z ≡ false) → (if a then Some x else first t xs) ≡ None → (if b then Some x else first s xs) ≡ Some z → t z ≡ false
    go true k b rest e f = absurd (cc e)
    go false k true rest e f = let is : x ≡ z = cc f in ap t (sym is) ∙ k
    go false k false rest e f = rest e f

none_put : {A : Type 0} (s t : A → Bool) (xs : List A) (z : A) → s z ≡ false → first s xs ≡ None → first s (set_first t z xs) ≡ None
none_put s t [] z k e = refl
none_put s t (x ∷ xs) z k e = go (t x) (s x) refl (none_put s t xs z k) e
  where
    go : (a b : Bool) → s x ≡ b → (first s xs ≡ None → first s (set_first t z xs) ≡ None) → (if b then Some x else first s xs) ≡ None → first s (if a then z ∷ xs else x ∷ set_first t z xs) ≡ None
    go a true j rest e = absurd (cc e)
    go true false j rest e = ap (λ (c : Bool). if c then Some z else first s xs) k ∙ e
    go false false j rest e = ap (λ (c : Bool). if c then Some x else first s (set_first t z xs)) j ∙ rest e

later : {A : Type 0} (s : A → Bool) (x : A) (xs : List A) → first s (x ∷ xs) ≡ None → first s xs ≡ None
later s x xs e = go (s x) e
  where
    go : (b : Bool) → (if b then Some x else first s xs) ≡ None → first s xs ≡ None
    go true e = absurd (cc e)
    go false e = e

-- it passes where that passed, or where none did
pub unique_put : {A : Type 0} (s t : A → Bool) (xs : List A) (z old : A) → first t xs ≡ Some old → (s z ≡ true → (s old ≡ true) ⊎ (first s xs ≡ None)) → Unique s xs → Unique s (set_first t z xs)
unique_put s t [] z old f w u = tt
unique_put {A} s t (x ∷ xs) z old f w (h, u) = go (t x) f (λ g. unique_put s t xs z old g (λ k. fewer (w k)) u)
  where
    fewer : (s old ≡ true) ⊎ (first s (x ∷ xs) ≡ None) → (s old ≡ true) ⊎ (first s xs ≡ None)
    fewer (inl o) = inl o
    fewer (inr e) = inr (later s x xs e)

    here : (y : A) → x ≡ y → (s y ≡ true) ⊎ (first s (x ∷ xs) ≡ None) → first s xs ≡ None
    here y is (inl o) = h (ap s is ∙ o)
    here y is (inr e) = later s x xs e

    unpassed : s x ≡ true → first t xs ≡ Some old → (b : Bool) → s z ≡ b → s z ≡ false
    unpassed k g false e = e
    unpassed k g true e = by (w e)
      where
        by : (s old ≡ true) ⊎ (first s (x ∷ xs) ≡ None) → s z ≡ false
        by (inl o) = let nay : true ≡ false = sym o ∙ passed_over s t xs old (h k) g in absurd (cc nay)
        by (inr n) = let nay : Some x ≡ None = sym (ap (λ (b : Bool). if b then Some x else first s xs) k) ∙ n in absurd (cc nay)

    go : (b : Bool) → (if b then Some x else first t xs) ≡ Some old → (first t xs ≡ Some old → Unique s (set_first t z xs)) → Unique s (if b then z ∷ xs else x ∷ set_first t z xs)
    go true g rest = let is : x ≡ old = cc g in ((λ k. here old is (w k)), u)
    go false g rest = ((λ k. none_put s t xs z (unpassed k g (s z) refl) (h k)), rest g)

-- ---- the connections of all hosts

-- its link is no control link
abbrev pub OnDataLink : ConnState → Type 0
OnDataLink conn = (link : ℕ) → conn.link ≡ Some link → (link == 0) ≡ false

pub record TidyConns (conns : List ConnState) : Type 0 where
  pub alone : (at peer : ℕ) (host : Bool) (link : ℕ) → Unique (has_link at peer host link) conns
  pub ranged : Each OnDataLink conns

abbrev pub Tidy : SeenTables → Type 0
Tidy b = TidyConns b.conns

pub tidy_none : TidyConns []
tidy_none = record { alone = λ at peer host link. tt; ranged = tt }

after_tidy : (conns : List ConnState) (conn : ConnState) → ((at peer : ℕ) (host : Bool) (link : ℕ) → has_link at peer host link conn ≡ true → first (has_link at peer host link) conns ≡ None) → OnDataLink conn → TidyConns conns → TidyConns (conns ++ conn ∷ [])
after_tidy conns conn none s t = record {
  alone = λ at peer host link. unique_following (has_link at peer host link) conns conn (none at peer host link) (t.alone at peer host link);
  ranged = each_after OnDataLink conns conn s t.ranged;
}

-- another in the place of the first that passes
pub put_tidy : (test : ConnState → Bool) (conns : List ConnState) (place : ℕ) (conn : ConnState) → position test conns ≡ Some place
    → ((at peer : ℕ) (host : Bool) (link : ℕ) → has_link at peer host link conn ≡ true → (has_link at peer host link (conn_at_index conns place) ≡ true) ⊎ (first (has_link at peer host link) conns ≡ None))
    → OnDataLink conn → TidyConns conns → TidyConns (slice_set conns place conn)
put_tidy test conns place conn e has s t = subst TidyConns (sym (set_found test conn conns place (unasked_conn 0 0 0 0) e)) (record {
  alone = λ at peer host link. unique_put (has_link at peer host link) test conns conn (conn_at_index conns place) (found_first test conns place (unasked_conn 0 0 0 0) e) (has at peer host link) (t.alone at peer host link);
  ranged = each_set OnDataLink test conns conn s t.ranged;
})

drop_tidy : (test : ConnState → Bool) (conns : List ConnState) (place : ℕ) → position test conns ≡ Some place → TidyConns conns → TidyConns (remove conns place)
drop_tidy test conns place e t = subst TidyConns (sym (drop_found test conns place (unasked_conn 0 0 0 0) e)) (record {
  alone = λ at peer host link. unique_drop (has_link at peer host link) test conns (t.alone at peer host link);
  ranged = each_drop OnDataLink test conns t.ranged;
})

pub filter_tidy : (test : ConnState → Bool) (conns : List ConnState) → TidyConns conns → TidyConns (filter test conns)
filter_tidy test conns t = record {
  alone = λ at peer host link. unique_filter (has_link at peer host link) test conns (t.alone at peer host link);
  ranged = each_filter OnDataLink test conns t.ranged;
}

pub range_there : (test : ConnState → Bool) (conns : List ConnState) (place : ℕ) → position test conns ≡ Some place → TidyConns conns → OnDataLink (conn_at_index conns place)
range_there test conns place e t = each_first OnDataLink test conns (conn_at_index conns place) t.ranged (found_first test conns place (unasked_conn 0 0 0 0) e)

-- ---- one connection more, where there is room for it

room_tidy : (b : SeenTables) (conn : ConnState) → (with_conn b conn).full ≡ false → TidyConns (b.conns ++ conn ∷ []) → Tidy (with_conn b conn)
room_tidy b conn f t = go (nat_lt (length b.conns) MAX_TABLE_ROWS) f
  where
    go : (x : Bool) → (if x then record b { conns = b.conns ++ conn ∷ [] } else record b { full = true }).full ≡ false → TidyConns (if x then record b { conns = b.conns ++ conn ∷ [] } else record b { full = true }).conns
    go true f = t
    go false f = absurd (cc f)

due_conns : (b : SeenTables) (due : PendingReply) → (with_due b due).conns ≡ b.conns
due_conns b due = go (nat_lt (length b.pending_replies) MAX_TABLE_ROWS)
  where
    go : (x : Bool) → (if x then record b { pending_replies = b.pending_replies ++ due ∷ [] } else record b { full = true }).conns ≡ b.conns
    go true = refl
    go false = refl

pub tidy_owed : (flow : ObservedFlow) (wanted : ExpectedReply) (mandatory : Bool) (b : SeenTables) → Tidy b → Tidy (owes flow wanted mandatory b)
tidy_owed flow wanted mandatory b t = subst TidyConns (sym (due_conns b (record { at = flow.at; peer = flow.peer; host = not flow.sent; wanted = wanted; mandatory = mandatory }))) t

-- ---- a request that is right

unhad : (link : ℕ) (x : Bool) → (x && is_number_given None link) ≡ true → ⊥
unhad link true e = cc e
unhad link false e = cc e

both_same : (x y : Bool) → not (beq (not x) y) ≡ true → y ≡ x
both_same true true e = refl
both_same true false e = absurd (cc e)
both_same false true e = absurd (cc e)
both_same false false e = refl

-- it has the link that was asked for, and no other
pub has_its_link : (at peer : ℕ) (sent : Bool) (asked : ℕ) (conn : ConnState) → conn.at ≡ at → conn.peer ≡ peer → is_senders conn.local ≡ not sent → conn.link ≡ Some asked → (a p : ℕ) (host : Bool) (link : ℕ)
    → has_link a p host link conn ≡ true → (P : (ℕ → ℕ → Bool → ℕ → Type 0)) → P at peer sent asked → P a p host link
has_its_link at peer sent asked conn ia ip is il a p host link e P k =
    let x = and_parts (conn.at == a && conn.peer == p && not (beq (is_senders conn.local) host)) (is_number_given conn.link link) e in
    let y = and_parts (conn.at == a && conn.peer == p) (not (beq (is_senders conn.local) host)) x.0 in
    let z = and_parts (conn.at == a) (conn.peer == p) y.0 in
    let same_at : at ≡ a = sym ia ∙ eqb-true conn.at a z.0 in
    let same_peer : peer ≡ p = sym ip ∙ eqb-true conn.peer p z.1 in
    let given : is_number_given (Some asked) link ≡ true = sym (ap (λ (o : Option ℕ). is_number_given o link) il) ∙ x.1 in
    let same_link : asked ≡ link = eqb-true asked link given in
    let same_host : host ≡ sent = both_same sent host (sym (ap (λ (b : Bool). not (beq b host)) is) ∙ y.1) in
    subst (λ (i : ℕ). P i p host link) same_at
    (subst (λ (i : ℕ). P at i host link) same_peer
    (subst (λ (i : Bool). P at peer i link) (sym same_host)
    (subst (λ (i : ℕ). P at peer sent i) same_link k)))

-- who asks with a link is its receiver
abbrev pub AsksRightly : Bool → ℕ → Request → Type 0
AsksRightly sent local (Link link) = is_senders local ≡ not sent
AsksRightly sent local (Size size) = Unit {0}

-- no connection has that link, which is none of link 0
abbrev Unlinked : ObservedFlow → Request → List ConnState → Type 0
Unlinked flow (Link link) conns = (first (has_link flow.at flow.peer flow.sent link) conns ≡ None) × ((link == 0) ≡ false)
Unlinked flow (Size size) conns = Unit {0}

given_range : (given : ℕ) → (given == 0) ≡ false → (link : ℕ) → Some given ≡ Some link → (link == 0) ≡ false
given_range given z link e = let is : given ≡ link = cc e in ap (λ (x : ℕ). x == 0) (sym is) ∙ z

range_is : (c : Command) (link : ℕ) → range_rule c (Link link) ≡ None → (link == 0) ≡ false
range_is c link e = go (nat_le 2 link) (nat_le link 71) refl e
  where
    nonzero : (x : ℕ) → nat_le 2 x ≡ true → (x == 0) ≡ false
    nonzero x k = grind arith

    go : (x y : Bool) → nat_le 2 link ≡ x → (if x && y then None else Some (Rule.LinkRange c)) ≡ None → (link == 0) ≡ false
    go true y k e = nonzero link k
    go false y k e = absurd (cc e)

module _ (flow : ObservedFlow) (local remote : ℕ) (b : SeenTables) where
  abbrev its : ConnState → Bool
  its = is_of_sockets flow.at flow.peer local remote

  abbrev begun : ConnState
  begun = record (unasked_conn flow.at flow.peer local remote) { since = b.number }

  new_has : (request : Request) → AsksRightly flow.sent local request → Unlinked flow request b.conns → (at peer : ℕ) (host : Bool) (link : ℕ)
      → has_link at peer host link (with_request_sent begun request) ≡ true → first (has_link at peer host link) b.conns ≡ None
  new_has (Link given) r u at peer host link h =
      has_its_link flow.at flow.peer flow.sent given (with_request_sent begun (Link given)) refl refl r refl at peer host link h (λ a p o l. first (has_link a p o l) b.conns ≡ None) u.0
  new_has (Size size) r u at peer host link h = absurd (unhad link (flow.at == at && flow.peer == peer && not (beq (is_senders local) host)) h)

  asked_has : (request : Request) (i : ℕ) → position its b.conns ≡ Some i → (conn_at_index b.conns i).at ≡ flow.at → (conn_at_index b.conns i).peer ≡ flow.peer → (conn_at_index b.conns i).local ≡ local → AsksRightly flow.sent local request → Unlinked flow request b.conns
      → (at peer : ℕ) (host : Bool) (link : ℕ) → has_link at peer host link (with_request_sent (conn_at_index b.conns i) request) ≡ true
      → (has_link at peer host link (conn_at_index b.conns i) ≡ true) ⊎ (first (has_link at peer host link) b.conns ≡ None)
  asked_has (Link given) i e ia ip il r u at peer host link h =
      inr (has_its_link flow.at flow.peer flow.sent given (with_request_sent (conn_at_index b.conns i) (Link given)) ia ip (ap is_senders il ∙ r) refl at peer host link h (λ a p o l. first (has_link a p o l) b.conns ≡ None) u.0)
  asked_has (Size size) i e ia ip il r u at peer host link h = inl h

  asked_range : (conn : ConnState) (request : Request) → Unlinked flow request b.conns → OnDataLink conn → OnDataLink (with_request_sent conn request)
  asked_range conn (Link link) u k = given_range link u.1
  asked_range conn (Size size) u k = k

  asks_tidy : (request : Request) (o : Option ℕ) → position its b.conns ≡ o → AsksRightly flow.sent local request → Unlinked flow request b.conns → (asks flow local remote request b o).full ≡ false → Tidy b
      → Tidy (asks flow local remote request b o)
  asks_tidy request None e r u f t =
      let conn = with_request_sent begun request in
      room_tidy b conn f (after_tidy b.conns conn (new_has request r u) (asked_range begun request u (λ link z. absurd (cc z))) t)
  asks_tidy request (Some i) e r u f t =
      let is = there i e in
      put_tidy its b.conns i (with_request_sent (conn_at_index b.conns i) request) e (asked_has request i e is.0 is.1.0 is.1.1 r u) (asked_range (conn_at_index b.conns i) request u (range_there its b.conns i e t)) t
    where
      there : (i : ℕ) → position its b.conns ≡ Some i → ((conn_at_index b.conns i).at ≡ flow.at) × (((conn_at_index b.conns i).peer ≡ flow.peer) × ((conn_at_index b.conns i).local ≡ local))
      there i e = let k = has_sockets flow.at flow.peer local remote (conn_at_index b.conns i) (position-Some its b.conns i (unasked_conn 0 0 0 0) e).1 in (k.at, (k.peer, k.local))

  -- ---- a connection comes to rest

  abbrev put_rest : ℕ → SeenTables
  put_rest i = record b { conns = slice_set b.conns i (record (conn_at_index b.conns i) { suspended = true }) }

  rest_tidy : (i : ℕ) → position its b.conns ≡ Some i → Tidy b → Tidy (put_rest i)
  rest_tidy i e t = put_tidy its b.conns i (record (conn_at_index b.conns i) { suspended = true }) e (λ at peer host link h. inl h) (range_there its b.conns i e t) t

  pub suspended_tidy : (suspended_pair flow.at flow.peer local remote b).full ≡ false → Tidy b → Tidy (suspended_pair flow.at flow.peer local remote b)
  suspended_tidy f t = go (position its b.conns) refl f
    where
      link_rested : ℕ → Option ℕ → SeenTables
      link_rested i None = put_rest i
      link_rested i (Some link) = link_suspended_now flow.at flow.peer (not (is_senders (conn_at_index b.conns i).local)) link (put_rest i)

      rested : Option ℕ → SeenTables
      rested None = with_conn b (record (unasked_conn flow.at flow.peer local remote) { suspended = true })
      rested (Some i) = link_rested i (conn_at_index b.conns i).link

      by : (i : ℕ) (o : Option ℕ) → Tidy (put_rest i) → Tidy (link_rested i o)
      by i None k = k
      by i (Some link) k = subst TidyConns (sym (fact_conns flow.at flow.peer (FactKind.LinkSuspended (not (is_senders (conn_at_index b.conns i).local)) link) (put_rest i))) k

      go : (o : Option ℕ) → position its b.conns ≡ o → (rested o).full ≡ false → Tidy (rested o)
      go None e f =
          room_tidy b (record (unasked_conn flow.at flow.peer local remote) { suspended = true }) f
          (after_tidy b.conns (record (unasked_conn flow.at flow.peer local remote) { suspended = true })
          (λ at peer host link h. absurd (unhad link (flow.at == at && flow.peer == peer && not (beq (is_senders local) host)) h)) (λ link z. absurd (cc z)) t)
      go (Some i) e f = by i (conn_at_index b.conns i).link (rest_tidy i e t)

  asked_suspended_tidy : (request : Request) → (suspended_asked flow request (suspended_pair flow.at flow.peer local remote b)).full ≡ false → Tidy b → Tidy (suspended_asked flow request (suspended_pair flow.at flow.peer local remote b))
  asked_suspended_tidy (Link link) f t =
      let mid = suspended_pair flow.at flow.peer local remote b in
      subst TidyConns (sym (fact_conns flow.at flow.peer (FactKind.LinkSuspended flow.sent link) mid)) (suspended_tidy (fact_room flow.at flow.peer (FactKind.LinkSuspended flow.sent link) mid f) t)
  asked_suspended_tidy (Size size) f t = suspended_tidy f t

  -- ---- requests

  no_user : (c : Command) (link : ℕ) → used_acceptance flow c (user_of flow.at flow.peer flow.sent link b.conns) ≡ Right → first (has_link flow.at flow.peer flow.sent link) b.conns ≡ None
  no_user c link v = sym (found_at_first (has_link flow.at flow.peer flow.sent link) b.conns) ∙ go (user_of flow.at flow.peer flow.sent link b.conns) v
    where
      go : (o : Option ConnState) → used_acceptance flow c o ≡ Right → o ≡ None
      go None v = refl
      go (Some conn) v = by (has_sent_cls conn flow.sent) v
        where
          by : (x : Bool) → (if x then Unclear (Some (Rule.LinkUsed c conn.local conn.remote)) else Refused (Rule.LinkUsed c conn.local conn.remote)) ≡ Right → Some conn ≡ None
          by true v = absurd (cc v)
          by false v = absurd (cc v)

  linked_right : (c : Command) (request : Request) → range_rule c request ≡ None → link_acceptance flow c request b ≡ Right → Unlinked flow request b.conns
  linked_right c (Link link) r v = (no_user c link v, range_is c link r)
  linked_right c (Size size) r v = tt

  right_is : (c : Command) (right : Bool) (request : Request) → request_acceptance flow c local remote right request b ≡ Right → (right ≡ true) × Unlinked flow request b.conns
  right_is c right request v = by_sex right refl v
    where
      by_conn : (o : Option ConnState) → conn_acceptance flow c request b o ≡ Right → link_acceptance flow c request b ≡ Right
      by_conn None v = v
      by_conn (Some conn) v = go conn.since conn.suspended (has_sent_cls conn flow.sent) (has_sent_request conn request) v
        where
          go : (since : ℕ) (r l a : Bool) → (if r then Unclear None else if l then Unclear (Some (Rule.Unended c since)) else if a then Refused (Rule.AskedAgain c since) else link_acceptance flow c request b) ≡ Right → link_acceptance flow c request b ≡ Right
          go since true l a v = absurd (cc v)
          go since false true a v = absurd (cc v)
          go since false false true v = absurd (cc v)
          go since false false false v = v

      by_link : (k : Bool) → (if k then Unclear None else conn_acceptance flow c request b (conn_of flow.at flow.peer local remote b.conns)) ≡ Right → link_acceptance flow c request b ≡ Right
      by_link true v = absurd (cc v)
      by_link false v = by_conn (conn_of flow.at flow.peer local remote b.conns) v

      by_range : (o : Option Rule) → range_rule c request ≡ o → ranged_acceptance flow c local remote request b o ≡ Right → Unlinked flow request b.conns
      by_range (Some wrong) r v = absurd (cc v)
      by_range None r v = linked_right c request r (by_link (link_suspended flow request b) v)

      by_sex : (x : Bool) → right ≡ x → (if not x then Refused (Rule.Sex c) else ranged_acceptance flow c local remote request b (range_rule c request)) ≡ Right → (right ≡ true) × Unlinked flow request b.conns
      by_sex false z v = absurd (cc v)
      by_sex true z v = (z, by_range (range_rule c request) refl v)

  request_tidy : (c : Command) (right : Bool) (request : Request) → (right ≡ true → AsksRightly flow.sent local request) → (v : Acceptance) → request_acceptance flow c local remote right request b ≡ v
      → (tables_after_request flow c local remote request v b).full ≡ false → Tidy b → Tidy (tables_after_request flow c local remote request v b)
  request_tidy c right request r Right e f t = let is = right_is c right request e in asks_tidy request (index_with_sockets flow.at flow.peer local remote b.conns) refl (r is.0) is.1 f t
  request_tidy c right request r (Refused wrong) e f t = tidy_owed flow (error_wanted 3 3 c) true b t
  request_tidy c right request r (Unclear wrong) e f t =
      let mid = suspended_asked flow request (suspended_pair flow.at flow.peer local remote b) in
      tidy_owed flow (error_wanted 3 3 c) false mid
      (asked_suspended_tidy request (due_room mid (record { at = flow.at; peer = flow.peer; host = not flow.sent; wanted = error_wanted 3 3 c; mandatory = false }) f) t)

  -- ---- a CLS

  closed_tidy : (o : Option ℕ) → position its b.conns ≡ o → Tidy b → Tidy (closes_side flow b o)
  closed_tidy None e t = t
  closed_tidy (Some i) e t = go ((with_cls_sent (conn_at_index b.conns i) flow.sent).host_left && (with_cls_sent (conn_at_index b.conns i) flow.sent).peer_left)
    where
      still : (sent : Bool) → (at peer : ℕ) (host : Bool) (link : ℕ) → has_link at peer host link (with_cls_sent (conn_at_index b.conns i) sent) ≡ true → has_link at peer host link (conn_at_index b.conns i) ≡ true
      still true at peer host link h = h
      still false at peer host link h = h

      range : (sent : Bool) → OnDataLink (conn_at_index b.conns i) → OnDataLink (with_cls_sent (conn_at_index b.conns i) sent)
      range true k = k
      range false k = k

      go : (x : Bool) → TidyConns (if x then record b { conns = remove b.conns i } else record b { conns = slice_set b.conns i (with_cls_sent (conn_at_index b.conns i) flow.sent) }).conns
      go true = drop_tidy its b.conns i e t
      go false =
          put_tidy its b.conns i (with_cls_sent (conn_at_index b.conns i) flow.sent) e (λ at peer host link h. inl (still flow.sent at peer host link h))
          (range flow.sent (range_there its b.conns i e t)) t

  cls_tidy : (c : Command) (v : Acceptance) → (after_cls flow c local remote v b).full ≡ false → Tidy b → Tidy (after_cls flow c local remote v b)
  cls_tidy c Right f t = closed_tidy (index_with_sockets flow.at flow.peer local remote b.conns) refl t
  cls_tidy c (Refused wrong) f t = tidy_owed flow (error_wanted 3 3 c) true b t
  cls_tidy c (Unclear wrong) f t =
      let mid = suspended_pair flow.at flow.peer local remote b in
      tidy_owed flow (error_wanted 4 3 c) false mid (suspended_tidy (due_room mid (record { at = flow.at; peer = flow.peer; host = not flow.sent; wanted = error_wanted 4 3 c; mandatory = false }) f) t)

-- ---- the RETs that are due, and links at rest, are no connections

link_rested_tidy : (me n : ℕ) (host : Bool) (link : ℕ) (b : SeenTables) → Tidy b → Tidy (link_suspended_now me n host link b)
link_rested_tidy me n host link b t = subst TidyConns (sym (fact_conns me n (FactKind.LinkSuspended host link) b)) t

marked_tidy : (me n : ℕ) (what : FactKind) (b : SeenTables) → Tidy b → Tidy (facts_now me n what b)
marked_tidy me n what b t = subst TidyConns (sym (fact_conns me n what b)) t

-- where there is room after it there was before
pub owed_room : (flow : ObservedFlow) (wanted : ExpectedReply) (mandatory : Bool) (b : SeenTables) → (owes flow wanted mandatory b).full ≡ false → b.full ≡ false
owed_room flow wanted mandatory b f = due_room b (record { at = flow.at; peer = flow.peer; host = not flow.sent; wanted = wanted; mandatory = mandatory }) f

-- ---- each command

pub reply_conns : (flow : ObservedFlow) (c : Command) (b : SeenTables) → (after_reply flow c b).conns ≡ b.conns
reply_conns flow c b = go (is_wanted (is_own flow) c b.pending_replies)
  where
    go : (x : Bool) → (if x then record b { pending_replies = pending_left (is_own flow) c b.pending_replies } else b).conns ≡ b.conns
    go true = refl
    go false = refl

reply_tidy : (flow : ObservedFlow) (c : Command) (b : SeenTables) → Tidy b → Tidy (after_reply flow c b)
reply_tidy flow c b t = subst TidyConns (sym (reply_conns flow c b)) t

echo_tidy : (flow : ObservedFlow) (b : SeenTables) → Tidy b → Tidy (answers_echo flow b)
echo_tidy flow b t = go (is_marked flow.at flow.peer (FactKind.Asks (not flow.sent)) b)
  where
    go : (x : Bool) → TidyConns (if x then facts_no_more flow.at flow.peer (FactKind.Asks (not flow.sent)) b else facts_now flow.at flow.peer (FactKind.EchoesRest (not flow.sent)) b).conns
    go true = t
    go false = subst TidyConns (sym (fact_conns flow.at flow.peer (FactKind.EchoesRest (not flow.sent)) b)) t

-- the host's socket, and the other's
receivers_ask : (sent : Bool) (receive send : ℕ) → is_of_sexes receive send ≡ true → is_senders (if sent then receive else send) ≡ not sent
receivers_ask true receive send k = go (is_senders receive) (and_parts (not (is_senders receive)) (is_senders send) k).0
  where
    go : (x : Bool) → not x ≡ true → x ≡ false
    go true e = absurd (cc e)
    go false e = refl
receivers_ask false receive send k = (and_parts (not (is_senders receive)) (is_senders send) k).1

-- ---- CLS

out_tidy : (flow : ObservedFlow) (kept : List SentMessage) (o : Option ℕ) (b : SeenTables) → Tidy b → Tidy (message_out_at flow kept o b)
out_tidy flow kept None b t = t
out_tidy flow kept (Some place) b t = go (is_slot_empty (kept_at kept place).slot) (message_in (kept_at kept place).message)
  where
    go : (x : Bool) (r : Result Message MessageFault) → TidyConns (if x then b else admits_out flow r b).conns
    go true r = t
    go false (Ok message) = marked_tidy flow.at flow.peer (FactKind.Admits (not flow.sent) (text_shown (speaker_of flow) message)) b t
    go false (Result.Err fault) = t

text_out_tidy : (flow : ObservedFlow) (kept : List SentMessage) (o : Option ConnState) (b : SeenTables) → Tidy b → Tidy (text_left_out flow kept o b)
text_out_tidy flow kept None b t = t
text_out_tidy flow kept (Some conn) b t = go (flow.sent && is_senders conn.local) conn.link
  where
    on : Option ℕ → SeenTables
    on None = b
    on (Some link) = message_out_at flow kept (position_of flow.at flow.peer link kept) b

    go : (x : Bool) (o : Option ℕ) → TidyConns (if x then on o else b).conns
    go false o = t
    go true None = t
    go true (Some link) = out_tidy flow kept (position_of flow.at flow.peer link kept) b t

returns_tidy : (flow : ObservedFlow) (o : Option ConnState) (b : SeenTables) → Tidy b → Tidy (ends_returns flow o b)
returns_tidy flow None b t = t
returns_tidy flow (Some conn) b t = go (speaks_sender flow conn) conn.link
  where
    drop_on : Option ℕ → SeenTables
    drop_on None = b
    drop_on (Some link) = returns_dropped flow.at flow.peer flow.sent link b

    go : (x : Bool) (o : Option ℕ) → TidyConns (if x then drop_on o else b).conns
    go false o = t
    go true None = t
    go true (Some link) = t

right_cls_tidy : (flow : ObservedFlow) (kept : List SentMessage) (o : Option ConnState) (v : Acceptance) (b : SeenTables) → Tidy b → Tidy (after_right_cls flow kept o v b)
right_cls_tidy flow kept o Right b t = returns_tidy flow o (text_left_out flow kept o b) (text_out_tidy flow kept o b t)
right_cls_tidy flow kept o (Refused wrong) b t = t
right_cls_tidy flow kept o (Unclear wrong) b t = t

pub right_cls_room : (flow : ObservedFlow) (kept : List SentMessage) (o : Option ConnState) (v : Acceptance) (b : SeenTables) → (after_right_cls flow kept o v b).full ≡ false → b.full ≡ false
right_cls_room flow kept o (Refused wrong) b f = f
right_cls_room flow kept o (Unclear wrong) b f = f
right_cls_room flow kept None Right b f = f
right_cls_room flow kept (Some conn) Right b f = by_fact (flow.sent && is_senders conn.local) conn.link (by_returns (speaks_sender flow conn) conn.link f)
  where
    drop_on : Option ℕ → SeenTables
    drop_on None = text_left_out flow kept (Some conn) b
    drop_on (Some link) = returns_dropped flow.at flow.peer flow.sent link (text_left_out flow kept (Some conn) b)

    by_returns : (x : Bool) (o : Option ℕ) → (if x then drop_on o else text_left_out flow kept (Some conn) b).full ≡ false → (text_left_out flow kept (Some conn) b).full ≡ false
    by_returns false o f = f
    by_returns true None f = f
    by_returns true (Some link) f = f

    out_room : (o : Option ℕ) → (message_out_at flow kept o b).full ≡ false → b.full ≡ false
    out_room None f = f
    out_room (Some place) f = go (is_slot_empty (kept_at kept place).slot) (message_in (kept_at kept place).message) f
      where
        go : (x : Bool) (r : Result Message MessageFault) → (if x then b else admits_out flow r b).full ≡ false → b.full ≡ false
        go true r f = f
        go false (Ok message) f = fact_room flow.at flow.peer (FactKind.Admits (not flow.sent) (text_shown (speaker_of flow) message)) b f
        go false (Result.Err fault) f = f

    on : Option ℕ → SeenTables
    on None = b
    on (Some link) = message_out_at flow kept (position_of flow.at flow.peer link kept) b

    by_fact : (x : Bool) (o : Option ℕ) → (if x then on o else b).full ≡ false → b.full ≡ false
    by_fact false o f = f
    by_fact true None f = f
    by_fact true (Some link) f = out_room (position_of flow.at flow.peer link kept) f

-- ---- the same connection with other numbers

abbrev pub numbered : ℕ → ℕ → Bool → Bool → ConnState → ConnState
numbered messages bits recall came conn = record conn { messages = messages; bits = bits; recall = recall; came = came }

-- only its numbers are others
pub record Renumbered (conn now : ConnState) : Type 0 where
  pub messages : ℕ
  pub bits : ℕ
  pub recall : Bool
  pub came : Bool
  pub is : now ≡ numbered messages bits recall came conn

pub granted_numbered : (flow : ObservedFlow) (messages bits : ℕ) (conn : ConnState) → Renumbered conn (with_grant flow messages bits conn)
granted_numbered flow messages bits conn = go flow.sent (nat_lt 65535 (conn.messages + messages) || nat_lt (2 ^ 32 - 1) (conn.bits + bits))
  where
    go : (s x : Bool)
        → Renumbered conn (if s then granted_there messages bits conn else if x then conn else record conn { messages = conn.messages + messages; bits = conn.bits + bits })
    go true x = record { messages = kept_sum conn.messages messages; bits = kept_sum conn.bits bits; recall = conn.recall; came = conn.came; is = refl }
    go false true = record { messages = conn.messages; bits = conn.bits; recall = conn.recall; came = conn.came; is = refl }
    go false false = record { messages = conn.messages + messages; bits = conn.bits + bits; recall = conn.recall; came = conn.came; is = refl }

pub recalled_numbered : (flow : ObservedFlow) (fm fb : ℕ) (conn : ConnState) → Renumbered conn (recalled flow fm fb conn)
recalled_numbered flow fm fb conn = go flow.sent
  where
    go : (s : Bool) → Renumbered conn (if s then record conn { recall = true } else record conn { recall = true; messages = conn.messages - part_returned conn.messages fm; bits = conn.bits - part_returned conn.bits fb })
    go true = record { messages = conn.messages; bits = conn.bits; recall = true; came = conn.came; is = refl }
    go false = record { messages = conn.messages - part_returned conn.messages fm; bits = conn.bits - part_returned conn.bits fb; recall = true; came = conn.came; is = refl }

pub returned_numbered : (flow : ObservedFlow) (messages bits : ℕ) (conn : ConnState) → Renumbered conn (with_return flow messages bits conn)
returned_numbered flow messages bits conn = go flow.sent
  where
    go : (s : Bool) → Renumbered conn (if s then record conn { recall = false } else record conn { recall = false; messages = conn.messages - messages; bits = conn.bits - bits })
    go true = record { messages = conn.messages; bits = conn.bits; recall = false; came = conn.came; is = refl }
    go false = record { messages = conn.messages - messages; bits = conn.bits - bits; recall = false; came = conn.came; is = refl }

-- in the place of one that a test finds first
numbered_tidy : (test : ConnState → Bool) (b : SeenTables) (conns : List ConnState) (place : ℕ) (now : ConnState) → conns ≡ b.conns → position test b.conns ≡ Some place → Renumbered (conn_at_index conns place) now → Tidy b → TidyConns (slice_set conns place now)
numbered_tidy test b conns place now l e r t =
    subst (λ (xs : List ConnState). Renumbered (conn_at_index xs place) now → TidyConns (slice_set xs place now)) (sym l)
    (λ k. subst (λ (conn : ConnState). TidyConns (slice_set b.conns place conn)) (sym k.is)
    (put_tidy test b.conns place (numbered k.messages k.bits k.recall k.came (conn_at_index b.conns place)) e (λ at peer host link h. inl h) (range_there test b.conns place e t) t)) r

-- ---- what names a link

-- the place that it leads to is that of the first that has the link
pub led_place : (flow : ObservedFlow) (receive_link : ReceiveLink) (b : SeenTables) (place : ℕ) → target_on flow receive_link b ≡ LinkTarget.Open place → position (has_link flow.at flow.peer receive_link.host receive_link.link) b.conns ≡ Some place
led_place flow receive_link b place e = go (is_receive_link_at_rest flow receive_link b) (position (has_link flow.at flow.peer receive_link.host receive_link.link) b.conns) refl e
  where
    by : (x y : Bool) (i : ℕ) → (if x then LinkTarget.Closed else if y then LinkTarget.Open i else LinkTarget.Unasked i) ≡ LinkTarget.Open place → Some i ≡ Some place
    by true y i e = absurd (cc e)
    by false false i e = absurd (cc e)
    by false true i e = let is : i ≡ place = cc e in ap (λ (j : ℕ). Some j) is

    go : (m : Bool) (o : Option ℕ) → position (has_link flow.at flow.peer receive_link.host receive_link.link) b.conns ≡ o → (if m then LinkTarget.Rests else target_at flow b.conns o) ≡ LinkTarget.Open place → o ≡ Some place
    go true o p e = absurd (cc e)
    go false None p e = absurd (cc e)
    go false (Some i) p e = let conn = conn_at_index b.conns i in by (has_sent_cls conn flow.sent) (is_some conn.link && is_some conn.size) i e

pub text_led_place : (flow : ObservedFlow) (link : ℕ) (b : SeenTables) (place : ℕ) → text_target flow link b ≡ LinkTarget.Open place → position (has_link flow.at flow.peer (not flow.sent) link) b.conns ≡ Some place
text_led_place flow link b place e = go (is_receive_link_at_rest flow (from_sender flow link) b) (position (has_link flow.at flow.peer (not flow.sent) link) b.conns) e
  where
    by : (x y : Bool) (i : ℕ) → (if x then LinkTarget.Closed else if y then LinkTarget.Open i else LinkTarget.Unasked i) ≡ LinkTarget.Open place → Some i ≡ Some place
    by true y i e = absurd (cc e)
    by false false i e = absurd (cc e)
    by false true i e = let is : i ≡ place = cc e in ap (λ (j : ℕ). Some j) is

    go : (m : Bool) (o : Option ℕ) → (if m then LinkTarget.Rests else text_target_at flow b.conns o) ≡ LinkTarget.Open place → o ≡ Some place
    go true o e = absurd (cc e)
    go false None e = absurd (cc e)
    go false (Some i) e = let conn = conn_at_index b.conns i in by (is_closed_for flow conn) (is_some conn.link && is_some conn.size) i e

error_if_tidy : (wrong : Bool) (flow : ObservedFlow) (c : Command) (b : SeenTables) → Tidy b → Tidy (owes_error_if wrong flow c b)
error_if_tidy true flow c b t = tidy_owed flow (error_wanted 5 (other_code c) c) false b t
error_if_tidy false flow c b t = t

pub error_if_conns : (wrong : Bool) (flow : ObservedFlow) (c : Command) (b : SeenTables) → (owes_error_if wrong flow c b).conns ≡ b.conns
error_if_conns true flow c b = due_conns b (record { at = flow.at; peer = flow.peer; host = not flow.sent; wanted = error_wanted 5 (other_code c) c; mandatory = false })
error_if_conns false flow c b = refl

suspended_if_tidy : (over : Bool) (flow : ObservedFlow) (receive_link : ReceiveLink) (b : SeenTables) → Tidy b → Tidy (suspended_if over flow receive_link b)
suspended_if_tidy true flow receive_link b t = link_rested_tidy flow.at flow.peer receive_link.host receive_link.link b t
suspended_if_tidy false flow receive_link b t = t

module _ (flow : ObservedFlow) (kept : List SentMessage) (receive_link : ReceiveLink) (b : SeenTables) (place : ℕ) (found : position (has_link flow.at flow.peer receive_link.host receive_link.link) b.conns ≡ Some place) (t : Tidy b) where
  abbrev has : ConnState → Bool
  has = has_link flow.at flow.peer receive_link.host receive_link.link

  abbrev conn : ConnState
  conn = conn_at_index b.conns place

  tidy_grant : (c : Command) (messages bits : ℕ) → Tidy (after_allocation flow c messages bits place b)
  tidy_grant c messages bits =
      error_if_tidy (is_some (limit_rule c (kept_sum conn.messages messages) (kept_sum conn.bits bits))) flow c (put_conn b (Some place) (with_grant flow messages bits conn))
      (numbered_tidy has b b.conns place (with_grant flow messages bits conn) refl found (granted_numbered flow messages bits conn) t)

  tidy_recall : (c : Command) (link fm fb : ℕ) → Tidy (after_gvb flow kept c link fm fb place b)
  tidy_recall c link fm fb = go (has_sent_cls conn (not flow.sent))
    where
      mid : SeenTables
      mid = put_conn (owes_error_if conn.recall flow c b) (Some place) (recalled flow fm fb conn)

      mid_tidy : Tidy mid
      mid_tidy =
          let l = error_if_conns conn.recall flow c b in
          numbered_tidy has b (owes_error_if conn.recall flow c b).conns place (recalled flow fm fb conn) l found
          (subst (λ (xs : List ConnState). Renumbered (conn_at_index xs place) (recalled flow fm fb conn)) (sym l) (recalled_numbered flow fm fb conn)) t

      go : (x : Bool) → TidyConns (if x then mid else owes flow (asked_back link fm fb conn) (not flow.sent && not (is_link_busy flow.at flow.peer (Some link) kept)) mid).conns
      go true = mid_tidy
      go false = tidy_owed flow (asked_back link fm fb conn) (not flow.sent && not (is_link_busy flow.at flow.peer (Some link) kept)) mid mid_tidy

  tidy_return : (c : Command) (messages bits : ℕ) → (after_ret flow c receive_link messages bits place b).full ≡ false → Tidy (after_ret flow c receive_link messages bits place b)
  tidy_return c messages bits f = go (is_wanted (is_own flow) c b.pending_replies) f
    where
      mid : SeenTables
      mid = put_conn (after_reply flow c b) (Some place) (with_return flow messages bits conn)

      mid_tidy : Tidy mid
      mid_tidy =
          let l = reply_conns flow c b in
          numbered_tidy has b (after_reply flow c b).conns place (with_return flow messages bits conn) l found
          (subst (λ (xs : List ConnState). Renumbered (conn_at_index xs place) (with_return flow messages bits conn)) (sym l) (returned_numbered flow messages bits conn)) t

      go : (x : Bool) → (if x then after_wanted_ret flow c receive_link messages bits place b else owes_error flow c false (suspended_conn flow place b)).full ≡ false
          → TidyConns (if x then after_wanted_ret flow c receive_link messages bits place b else owes_error flow c false (suspended_conn flow place b)).conns
      go true f =
          error_if_tidy (is_any (returned_rules flow c messages bits conn b.pending_replies)) flow c (suspended_if (is_some (over_rule flow c messages bits conn)) flow receive_link mid)
          (suspended_if_tidy (is_some (over_rule flow c messages bits conn)) flow receive_link mid mid_tidy)
      go false f =
          tidy_owed flow (error_wanted 5 (other_code c) c) false (suspended_conn flow place b)
          (suspended_tidy flow conn.local conn.remote b (owed_room flow (error_wanted 5 (other_code c) c) false (suspended_conn flow place b) f) t)

  open_tidy : (c : Command) → (after_open flow kept c receive_link place b).full ≡ false → Tidy (after_open flow kept c receive_link place b)
  open_tidy (Command.All link messages bits) f = tidy_grant (Command.All link messages bits) messages bits
  open_tidy (Gvb link fm fb) f = tidy_recall (Gvb link fm fb) link fm fb
  open_tidy (Ret link messages bits) f = tidy_return (Ret link messages bits) messages bits f
  open_tidy Nop f = t
  open_tidy (Rts receive send link) f = t
  open_tidy (Str send receive size) f = t
  open_tidy (Cls my your) f = t
  open_tidy (Inr link) f = t
  open_tidy (Ins link) f = t
  open_tidy (Eco byte) f = t
  open_tidy (Erp byte) f = t
  open_tidy (Err code shown) f = t
  open_tidy Rst f = t
  open_tidy Rrp f = t

link_tidy : (flow : ObservedFlow) (kept : List SentMessage) (c : Command) (receive_link : ReceiveLink) (b : SeenTables) → (after_link flow kept c receive_link b).full ≡ false → Tidy b → Tidy (after_link flow kept c receive_link b)
link_tidy flow kept c receive_link b f t = go (target_on flow receive_link b) refl f
  where
    receiver_speaks : Bool
    receiver_speaks = speaks_receiver flow receive_link

    nobody : (x : Bool) → TidyConns (if x then owes flow (error_wanted 5 5 c) true b else owes_error flow c false (link_suspended_now flow.at flow.peer receive_link.host receive_link.link b)).conns
    nobody true = tidy_owed flow (error_wanted 5 5 c) true b t
    nobody false =
        tidy_owed flow (error_wanted 5 (other_code c) c) false (link_suspended_now flow.at flow.peer receive_link.host receive_link.link b)
        (link_rested_tidy flow.at flow.peer receive_link.host receive_link.link b t)

    unasked : (place : ℕ) (x : Bool) → (owes_error flow c false (if x then suspended_conn flow place b else b)).full ≡ false → TidyConns (owes_error flow c false (if x then suspended_conn flow place b else b)).conns
    unasked place true f =
        let conn = conn_at_index b.conns place in
        tidy_owed flow (error_wanted 5 (other_code c) c) false (suspended_conn flow place b)
        (suspended_tidy flow conn.local conn.remote b (owed_room flow (error_wanted 5 (other_code c) c) false (suspended_conn flow place b) f) t)
    unasked place false f = tidy_owed flow (error_wanted 5 (other_code c) c) false b t

    go : (l : LinkTarget) → target_on flow receive_link b ≡ l → (demuxed_after flow kept c receive_link b l).full ≡ false → Tidy (demuxed_after flow kept c receive_link b l)
    go LinkTarget.Rests e f = tidy_owed flow (error_wanted 5 (other_code c) c) false b t
    go LinkTarget.Nobody e f = nobody (speaks_receiver flow receive_link)
    go LinkTarget.Closed e f =
        tidy_owed flow (error_wanted 5 (other_code c) c) false (suspended_if (not (speaks_receiver flow receive_link)) flow receive_link b)
        (suspended_if_tidy (not (speaks_receiver flow receive_link)) flow receive_link b t)
    go (LinkTarget.Unasked place) e f = unasked place (speaks_receiver flow receive_link) f
    go (LinkTarget.Open place) e f = open_tidy flow kept receive_link b place (led_place flow receive_link b place e) t c f

pub tidy_command : (flow : ObservedFlow) (kept : List SentMessage) (c : Command) (b : SeenTables) → (tables_after_command flow kept c b).full ≡ false → Tidy b → Tidy (tables_after_command flow kept c b)
tidy_command flow kept (Rts receive send link) b f t =
    request_tidy flow (here_of flow receive send) (there_of flow receive send) b (Rts receive send link) (is_of_sexes receive send) (Link link) (receivers_ask flow.sent receive send)
    (asking_acceptance flow (Rts receive send link) receive send (is_of_sexes receive send) (Link link) b) refl f t
tidy_command flow kept (Str send receive size) b f t =
    request_tidy flow (here_of flow send receive) (there_of flow send receive) b (Str send receive size) (is_of_sexes receive send) (Size size) (λ k. tt)
    (asking_acceptance flow (Str send receive size) send receive (is_of_sexes receive send) (Size size) b) refl f t
tidy_command flow kept (Cls my your) b f t =
    let acceptance = closing_acceptance flow (Cls my your) my your b in
    let conn = conn_of flow.at flow.peer (here_of flow my your) (there_of flow my your) b.conns in
    let mid = after_cls flow (Cls my your) (here_of flow my your) (there_of flow my your) acceptance b in
    right_cls_tidy flow kept conn acceptance mid
    (cls_tidy flow (here_of flow my your) (there_of flow my your) b (Cls my your) acceptance (right_cls_room flow kept conn acceptance mid f) t)
tidy_command flow kept (Eco byte) b f t =
    tidy_owed flow (ExpectedReply.Echo byte) true (facts_now flow.at flow.peer (FactKind.Asks flow.sent) b) (marked_tidy flow.at flow.peer (FactKind.Asks flow.sent) b t)
tidy_command flow kept (Erp byte) b f t = echo_tidy flow (after_reply flow (Erp byte) b) (reply_tidy flow (Erp byte) b t)
tidy_command flow kept (Err code shown) b f t = go (is_error_admitted flow code shown b)
  where
    go : (x : Bool) → TidyConns (if x then b else after_reply flow (Err code shown) b).conns
    go true = t
    go false = reply_tidy flow (Err code shown) b t
tidy_command flow kept Nop b f t = t
tidy_command flow kept (Command.All link messages bits) b f t = link_tidy flow kept (Command.All link messages bits) (from_receiver flow link) b f t
tidy_command flow kept (Gvb link fm fb) b f t = link_tidy flow kept (Gvb link fm fb) (from_receiver flow link) b f t
tidy_command flow kept (Ret link messages bits) b f t = link_tidy flow kept (Ret link messages bits) (from_sender flow link) b f t
tidy_command flow kept (Inr link) b f t = link_tidy flow kept (Inr link) (from_receiver flow link) b f t
tidy_command flow kept (Ins link) b f t = link_tidy flow kept (Ins link) (from_sender flow link) b f t
tidy_command flow kept Rst b f t = t
tidy_command flow kept Rrp b f t = t

-- ---- and each other item of a control text, a text, and what is forgotten

pub tidy_spoken : (flow : ObservedFlow) (kept : List SentMessage) (item : Result Command CommandFault) (b : SeenTables) → (after_spoken flow kept item b).full ≡ false → Tidy b → Tidy (after_spoken flow kept item b)
tidy_spoken flow kept (Ok c) b f t = tidy_command flow kept c b f t
tidy_spoken flow kept (Result.Err fault) b f t = tidy_owed flow (fault_wanted fault) true b t

admits_tidy : (flow : ObservedFlow) (message : Message) (b : SeenTables) → Tidy b → Tidy (admits_error flow message b)
admits_tidy flow message b t = marked_tidy flow.at flow.peer (FactKind.Admits (not flow.sent) (text_shown (speaker_of flow) message)) b t

-- a text came on the link
came_tidy : (flow : ObservedFlow) (link : ℕ) (b : SeenTables) → Tidy b → Tidy (after_text_came flow link b)
came_tidy flow link b t = go flow.sent (index_on_receive_link flow (from_sender flow link) b.conns) refl
  where
    go : (s : Bool) (o : Option ℕ) → index_on_receive_link flow (from_sender flow link) b.conns ≡ o → TidyConns (if s then b else conn_came_at b o).conns
    go true o e = t
    go false None e = t
    go false (Some i) e = by (conn_at_index b.conns i).peer_left
      where
        by : (x : Bool) → TidyConns (if x then b else record b { conns = slice_set b.conns i (record (conn_at_index b.conns i) { came = true }) }).conns
        by true = t
        by false =
            put_tidy (has_link flow.at flow.peer (not flow.sent) link) b.conns i (record (conn_at_index b.conns i) { came = true }) e (λ a p host l h. inl h)
            (range_there (has_link flow.at flow.peer (not flow.sent) link) b.conns i e t) t

pub tidy_text : (flow : ObservedFlow) (link : ℕ) (message : Message) (b : SeenTables) → Tidy b → Tidy (conn_tables_after_text flow link message b)
tidy_text flow link message b t = go (text_target flow link b) refl
  where
    rested : (c : SeenTables) → Tidy c → Tidy (text_suspended flow link c)
    rested c k = link_rested_tidy flow.at flow.peer (not flow.sent) link c k

    wrong : (x y : Bool) (c : SeenTables) → Tidy c → TidyConns (admits_error_if x flow message (if y then text_suspended flow link c else c)).conns
    wrong true true c k = admits_tidy flow message (text_suspended flow link c) (rested c k)
    wrong true false c k = admits_tidy flow message c k
    wrong false true c k = rested c k
    wrong false false c k = k

    go : (l : LinkTarget) → text_target flow link b ≡ l → Tidy (demuxed_after_text flow link message b l)
    go LinkTarget.Rests e = admits_tidy flow message (after_text_came flow link b) (came_tidy flow link b t)
    go LinkTarget.Nobody e = admits_tidy flow message (text_suspended flow link b) (rested b t)
    go LinkTarget.Closed e = admits_tidy flow message (text_suspended flow link b) (rested b t)
    go (LinkTarget.Unasked place) e = admits_tidy flow message (after_text_came flow link b) (came_tidy flow link b t)
    go (LinkTarget.Open place) e =
        let conn = conn_at_index b.conns place in
        let is = is_any (open_text_rules link message conn) in
        let put = put_conn b (Some place) (used (length message.text) conn) in
        wrong is (is && not flow.sent) (after_text_came flow link put)
        (came_tidy flow link put
        (put_tidy (has_link flow.at flow.peer (not flow.sent) link) b.conns place (used (length message.text) conn) (text_led_place flow link b place e) (λ a p host l h. inl h)
        (range_there (has_link flow.at flow.peer (not flow.sent) link) b.conns place (text_led_place flow link b place e) t) t))

pub tidy_cleared : (at peer : ℕ) (b : SeenTables) → Tidy b → Tidy (tables_cleared at peer b)
tidy_cleared at peer b t = filter_tidy (λ conn. not (is_conn_between at peer conn)) b.conns t

pub tidy_begins : Tidy no_conn_tables
tidy_begins = tidy_none
