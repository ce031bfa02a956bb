-- The entries that any record adds to the tables: a bounded number to each list, and an ECO without an
-- ERP is recorded once. So if there is room before it, there is room after it.
use Rattle.std.proofs.Common.{◌≡◌, ℕ, ◌+◌, ◌≤◌, ◌==◌, Bool, true, false, not, ◌&&◌, ◌||◌, if◌then◌else◌, List, [], ◌∷◌, ◌++◌, length, Option, None, Some, is_some, refl, sym, ap, ◌∙◌, arith}
use Rattle.std.specs.Prelude.{zero, suc, map, nat_lt, slice_set, Result, Ok, Err}
use Rattle.std.specs.List.{filter, list_any, position, remove}
use Rattle.std.proofs.Math.Bool.{beq}
use Rattle.std.proofs.lemmas.Bool.{eqb-true, and_parts}
use Rattle.std.proofs.lemmas.Bool.Decides.{nat_tests}
use Rattle.ncp_wire.specs.declared.command.Command.{Command}
use Rattle.ncp_wire.specs.declared.command.Command.TheVariants.{Nop, Rts, Str, Cls, Gvb, Ret, Inr, Ins, Eco, Erp, Rst, Rrp}
use Rattle.ncp_wire.specs.declared.fault.CommandFault.{CommandFault}
use Rattle.ncp_leader.specs.declared.fault.MessageFault.{MessageFault}
use Rattle.ncp_leader.specs.Message.{Message, message_in}
use Rattle.ncp_monitor.specs.declared.conn_tables.TheConstants.{MAX_TABLE_ROWS}
use Rattle.ncp_monitor.specs.declared.pending_reply.PendingReply.{PendingReply}
use Rattle.ncp_monitor.specs.declared.pending_reply.ExpectedReply.{ExpectedReply}
use Rattle.ncp_interface.specs.declared.sent_message.SentMessage.{SentMessage}
use Rattle.ncp_monitor.specs.declared.link_target.ReceiveLink.{ReceiveLink}
use Rattle.ncp_monitor.specs.declared.link_target.LinkTarget.{LinkTarget}
use Rattle.ncp_monitor.specs.declared.conn_state.ConnState.{ConnState}
use Rattle.ncp_monitor.specs.declared.conn_state.Fact.{Fact}
use Rattle.ncp_interface.specs.declared.request.Request.{Request}
use Rattle.ncp_interface.specs.declared.request.Request.TheVariants.{Link, Size}
use Rattle.ncp_monitor.specs.declared.conn_state.FactKind.{FactKind}
use Rattle.ncp_monitor.specs.declared.observed_flow.ObservedFlow.{ObservedFlow}
use Rattle.ncp_monitor.specs.declared.observed_flow.Acceptance.{Acceptance}
use Rattle.ncp_monitor.specs.declared.observed_flow.Acceptance.TheVariants.{Right, Refused, Unclear}
use Rattle.ncp_monitor.specs.ConnStates.{SeenTables, unasked_conn, is_of_sockets, has_link, has_sent_cls, with_cls_sent, with_request_sent, same_topic, is_topic, conn_at_index, index_with_sockets, conn_of, is_marked, is_return, with_conn, put_conn, facts_now, facts_no_more, returns_dropped, link_suspended_now, with_due, suspended_pair, is_conn_between, is_fact_between, is_due_between, tables_cleared}
use Rattle.ncp_interface.specs.Sockets.{is_senders, is_of_sexes}
use Rattle.ncp_monitor.specs.Replies.{says_wanted, is_due_of, is_own, owes, error_wanted, fault_wanted, is_wanted, optional, fits_sure, pending_struck, pending_left, after_reply}
use Rattle.ncp_interface.specs.Slots.{position_of, kept_at, is_slot_empty}
use Rattle.ncp_monitor.specs.Allocation.{kept_sum, target_on, from_receiver, from_sender, speaks_receiver, limit_rule, returned_rules, over_rule, is_any, owes_error, owes_error_if, other_code, with_grant, after_allocation, asked_back, recalled, owes_return, after_gvb, with_return, suspended_if, suspended_conn, after_wanted_ret, after_ret, after_open, demuxed_after, after_link, speaks_sender, ends_returns}
use Rattle.ncp_monitor.specs.Texts.{text_shown, speaker_of, admits_error, is_error_admitted, text_target, open_text_rules, used, after_text_came, conn_came_at, text_suspended, admits_error_if, demuxed_after_text, conn_tables_after_text, admits_out, message_out_at, text_left_out}
use Rattle.ncp_monitor.specs.Requests.{is_link_busy, suspended_asked, asks, tables_after_request, closes_side, after_cls}
use Rattle.ncp_monitor.specs.Speaking.{here_of, there_of, asking_acceptance, closing_acceptance, answers_echo, tables_after_command, after_right_cls, after_spoken, is_admission, after_all_said}
use Rattle.ncp_monitor.proofs.Firsts.{first, Unique, unique_following, unique_filter}

-- ---- lengths

filter_length : {A : Type 0} (p : A → Bool) (xs : List A) → length (filter p xs) ≤ length xs
filter_length p [] = omega arith
filter_length p (x ∷ xs) = go (p x) (filter_length p xs)
  where
    go : (b : Bool) → length (filter p xs) ≤ length xs → length (if b then x ∷ filter p xs else filter p xs) ≤ suc (length xs)
    go true e = omega arith
    go false e = omega arith

set_length : {A : Type 0} (xs : List A) (i : ℕ) (y : A) → length (slice_set xs i y) ≤ length xs
set_length [] i y = omega arith
set_length (x ∷ xs) zero y = omega arith
set_length (x ∷ xs) (suc i) y = let e = set_length xs i y in omega (arith, e)

remove_length : {A : Type 0} (xs : List A) (i : ℕ) → length (remove xs i) ≤ length xs
remove_length [] zero = omega arith
remove_length [] (suc i) = omega arith
remove_length (x ∷ xs) zero = omega arith
remove_length (x ∷ xs) (suc i) = let e = remove_length xs i in omega (arith, e)

after_length : {A : Type 0} (xs : List A) (y : A) → length (xs ++ y ∷ []) ≤ length xs + 1
after_length [] y = omega arith
after_length (x ∷ xs) y = let e = after_length xs y in omega (arith, e)

-- ---- the most that is added

-- there is room for `k` entries in each list
pub record HasPlaces (k : ℕ) (b : SeenTables) : Type 0 where
  pub conns : length b.conns + k ≤ MAX_TABLE_ROWS
  pub known_facts : length b.known_facts + k ≤ MAX_TABLE_ROWS
  pub pending_replies : length b.pending_replies + k ≤ MAX_TABLE_ROWS
  pub unfilled : b.full ≡ false

-- each ECO that has had no ERP is marked once
abbrev pub AskedOnce : SeenTables → Type 0
AskedOnce b = (at peer : ℕ) (host : Bool) → Unique (is_topic at peer (FactKind.Asks host)) b.known_facts

pub record Grows (k : ℕ) (b now : SeenTables) : Type 0 where
  pub conns : length now.conns ≤ length b.conns + k
  pub known_facts : length now.known_facts ≤ length b.known_facts + k
  pub pending_replies : length now.pending_replies ≤ length b.pending_replies + k
  pub unfilled : HasPlaces k b → now.full ≡ false
  pub once : AskedOnce b → AskedOnce now

pub grows_none : (k : ℕ) (b : SeenTables) → Grows k b b
grows_none k b = record { conns = omega arith; known_facts = omega arith; pending_replies = omega arith; unfilled = λ h. h.unfilled; once = λ o. o }

pub grows_both : (i j k : ℕ) → i + j ≤ k → (a b c : SeenTables) → Grows i a b → Grows j b c → Grows k a c
grows_both i j k few a b c x y =
    let l = x.conns in let m = x.known_facts in let d = x.pending_replies in let l2 = y.conns in let m2 = y.known_facts in let d2 = y.pending_replies in
    record {
      conns = omega (arith, l, l2, few);
      known_facts = omega (arith, m, m2, few);
      pending_replies = omega (arith, d, d2, few);
      unfilled = λ h. y.unfilled (places h (x.unfilled (first_places h)));
      once = λ o. y.once (x.once o);
    }
  where
    first_places : HasPlaces k a → HasPlaces i a
    first_places h = let l = h.conns in let m = h.known_facts in let d = h.pending_replies in record { conns = omega (arith, l, few); known_facts = omega (arith, m, few); pending_replies = omega (arith, d, few); unfilled = h.unfilled }

    places : HasPlaces k a → b.full ≡ false → HasPlaces j b
    places h f =
        let l = h.conns in let m = h.known_facts in let d = h.pending_replies in let l2 = x.conns in let m2 = x.known_facts in let d2 = x.pending_replies in
        record { conns = omega (arith, l, l2, few); known_facts = omega (arith, m, m2, few); pending_replies = omega (arith, d, d2, few); unfilled = f }

pub grows_more : (i k : ℕ) → i ≤ k → (b now : SeenTables) → Grows i b now → Grows k b now
grows_more i k few b now x = grows_both i 0 k (omega (arith, few)) b now now x (grows_none 0 now)

-- there is room after it for what is left
pub places_after : (i j : ℕ) (b now : SeenTables) → Grows i b now → HasPlaces (i + j) b → HasPlaces j now
places_after i j b now x h =
    let l = h.conns in let m = h.known_facts in let d = h.pending_replies in let l2 = x.conns in let m2 = x.known_facts in let d2 = x.pending_replies in
    record { conns = omega (arith, l, l2); known_facts = omega (arith, m, m2); pending_replies = omega (arith, d, d2); unfilled = x.unfilled (record { conns = omega (arith, l); known_facts = omega (arith, m); pending_replies = omega (arith, d); unfilled = h.unfilled }) }

-- ---- one more, or another in its place, or one less

is_less : (x y : ℕ) → nat_lt x y ≡ false → x + 1 ≤ y → ⊥
is_less x y e f = grind (arith, nat_tests)

conn_more : (b : SeenTables) (conn : ConnState) → Grows 1 b (with_conn b conn)
conn_more b conn = go (nat_lt (length b.conns) MAX_TABLE_ROWS) refl
  where
    go : (x : Bool) → nat_lt (length b.conns) MAX_TABLE_ROWS ≡ x → Grows 1 b (if x then record b { conns = b.conns ++ conn ∷ [] } else record b { full = true })
    go true e = record { conns = after_length b.conns conn; known_facts = omega arith; pending_replies = omega arith; unfilled = λ h. h.unfilled; once = λ o. o }
    go false e = record { conns = omega arith; known_facts = omega arith; pending_replies = omega arith; unfilled = λ h. absurd (is_less (length b.conns) MAX_TABLE_ROWS e h.conns); once = λ o. o }

conn_put : (b : SeenTables) (i : ℕ) (conn : ConnState) → Grows 0 b (record b { conns = slice_set b.conns i conn })
conn_put b i conn = let e = set_length b.conns i conn in record { conns = omega (arith, e); known_facts = omega arith; pending_replies = omega arith; unfilled = λ h. h.unfilled; once = λ o. o }

conn_gone : (b : SeenTables) (i : ℕ) → Grows 0 b (record b { conns = remove b.conns i })
conn_gone b i = let e = remove_length b.conns i in record { conns = omega (arith, e); known_facts = omega arith; pending_replies = omega arith; unfilled = λ h. h.unfilled; once = λ o. o }

due_more : (b : SeenTables) (due : PendingReply) → Grows 1 b (with_due b due)
due_more b due = go (nat_lt (length b.pending_replies) MAX_TABLE_ROWS) refl
  where
    go : (x : Bool) → nat_lt (length b.pending_replies) MAX_TABLE_ROWS ≡ x → Grows 1 b (if x then record b { pending_replies = b.pending_replies ++ due ∷ [] } else record b { full = true })
    go true e = record { conns = omega arith; known_facts = omega arith; pending_replies = after_length b.pending_replies due; unfilled = λ h. h.unfilled; once = λ o. o }
    go false e = record { conns = omega arith; known_facts = omega arith; pending_replies = omega arith; unfilled = λ h. absurd (is_less (length b.pending_replies) MAX_TABLE_ROWS e h.pending_replies); once = λ o. o }

pending_fewer : (b : SeenTables) (pending_replies : List PendingReply) → length pending_replies ≤ length b.pending_replies → Grows 0 b (record b { pending_replies = pending_replies })
pending_fewer b pending_replies e = record { conns = omega arith; known_facts = omega arith; pending_replies = omega (arith, e); unfilled = λ h. h.unfilled; once = λ o. o }

marks_fewer : (p : Fact → Bool) (b : SeenTables) → Grows 0 b (record b { known_facts = filter p b.known_facts })
marks_fewer p b =
    let e = filter_length p b.known_facts in
    record { conns = omega arith; known_facts = omega (arith, e); pending_replies = omega arith; unfilled = λ h. h.unfilled; once = λ o a q host. unique_filter (is_topic a q (FactKind.Asks host)) p b.known_facts (o a q host) }

-- what is left of the dues after a reply
left_length : (own : PendingReply → Bool) (c : Command) (pending_replies : List PendingReply) → length (pending_left own c pending_replies) ≤ length pending_replies
left_length own c pending_replies = go (fits_sure own c pending_replies)
  where
    struck : (pending_replies : List PendingReply) → length (pending_struck own c pending_replies) ≤ length pending_replies
    struck [] = omega arith
    struck (due ∷ pending_replies) = by (own due) (says_wanted due.wanted c) (struck pending_replies)
      where
        by : (x y : Bool) → length (pending_struck own c pending_replies) ≤ length pending_replies → length (if x then if y then pending_replies else pending_struck own c pending_replies else due ∷ pending_struck own c pending_replies) ≤ suc (length pending_replies)
        by true true e = omega arith
        by true false e = omega arith
        by false y e = omega arith

    unsured : (pending_replies : List PendingReply) → length (map (optional own c) pending_replies) ≡ length pending_replies
    unsured [] = refl
    unsured (due ∷ pending_replies) = ap suc (unsured pending_replies)

    go : (x : Bool) → length (if x then pending_struck own c pending_replies else pending_struck own c (map (optional own c) pending_replies)) ≤ length pending_replies
    go true = struck pending_replies
    go false = let e = struck (map (optional own c) pending_replies) in let f = unsured pending_replies in omega (arith, e, f)

-- ---- marks

unmarked_first : (t : Fact → Bool) (known_facts : List Fact) → list_any t known_facts ≡ false → first t known_facts ≡ None
unmarked_first t [] e = refl
unmarked_first t (one ∷ known_facts) e = go (t one) e (unmarked_first t known_facts)
  where
    go : (x : Bool) → (x || list_any t known_facts) ≡ false → (list_any t known_facts ≡ false → first t known_facts ≡ None) → (if x then Some one else first t known_facts) ≡ None
    go true e rest = absurd (cc e)
    go false e rest = rest e

is_beq : (x y : Bool) → beq x y ≡ true → x ≡ y
is_beq true true e = refl
is_beq true false e = absurd (cc e)
is_beq false true e = absurd (cc e)
is_beq false false e = refl

module _ (at peer : ℕ) where
  mark_more : (what : FactKind) (b : SeenTables) → Grows 1 b (facts_now at peer what b)
  mark_more what b = go (is_marked at peer what b) refl (nat_lt (length b.known_facts) MAX_TABLE_ROWS) refl
    where
      one : Fact
      one = record { at = at; peer = peer; fact_kind = what }

      -- of the same, none was there
      none : is_marked at peer what b ≡ false → (a p : ℕ) (host : Bool) → is_topic a p (FactKind.Asks host) one ≡ true → first (is_topic a p (FactKind.Asks host)) b.known_facts ≡ None
      none e a p host k =
          let two = and_parts (at == a && peer == p) (same_topic what (FactKind.Asks host)) k in
          let three = and_parts (at == a) (peer == p) two.0 in
          unmarked_first (is_topic a p (FactKind.Asks host)) b.known_facts
          (ap (λ (i : ℕ). is_marked i p (FactKind.Asks host) b) (sym (eqb-true at a three.0)) ∙ ap (λ (i : ℕ). is_marked at i (FactKind.Asks host) b) (sym (eqb-true peer p three.1))
          ∙ ap (λ (t : FactKind). is_marked at peer t b) (sym (its what two.1)) ∙ e)
        where
          its : (t : FactKind) → same_topic t (FactKind.Asks host) ≡ true → t ≡ FactKind.Asks host
          its (FactKind.LinkSuspended other on) j = absurd (cc j)
          its (FactKind.EchoesRest other) j = absurd (cc j)
          its (FactKind.Asks other) j = ap (λ (h : Bool). FactKind.Asks h) (is_beq other host j)
          its (FactKind.Admits other bytes) j = absurd (cc j)

      go : (x : Bool) → is_marked at peer what b ≡ x → (r : Bool) → nat_lt (length b.known_facts) MAX_TABLE_ROWS ≡ r → Grows 1 b (if x then b else if r then record b { known_facts = b.known_facts ++ one ∷ [] } else record b { full = true })
      go true e r i = grows_none 1 b
      go false e true i = record {
        conns = omega arith;
        known_facts = after_length b.known_facts one;
        pending_replies = omega arith;
        unfilled = λ h. h.unfilled;
        once = λ o a p host. unique_following (is_topic a p (FactKind.Asks host)) b.known_facts one (none e a p host) (o a p host);
      }
      go false e false i = record { conns = omega arith; known_facts = omega arith; pending_replies = omega arith; unfilled = λ h. absurd (is_less (length b.known_facts) MAX_TABLE_ROWS i h.known_facts); once = λ o. o }

  mark_less : (what : FactKind) (b : SeenTables) → Grows 0 b (facts_no_more at peer what b)
  mark_less what b = marks_fewer (λ one. not (is_topic at peer what one)) b

  -- a link is suspended
  link_more : (host : Bool) (link : ℕ) (b : SeenTables) → Grows 1 b (link_suspended_now at peer host link b)
  link_more host link b =
      let mid = facts_now at peer (FactKind.LinkSuspended host link) b in
      grows_both 1 0 1 (omega arith) b mid (link_suspended_now at peer host link b) (mark_more (FactKind.LinkSuspended host link) b)
      (pending_fewer mid (filter (λ due. not (is_return at peer (not host) link due)) mid.pending_replies) (filter_length (λ due. not (is_return at peer (not host) link due)) mid.pending_replies))

  module _ (sent : Bool) where
    abbrev of_two : ObservedFlow
    of_two = record { at = at; peer = peer; sent = sent }

    owed : (wanted : ExpectedReply) (mandatory : Bool) (b : SeenTables) → Grows 1 b (owes of_two wanted mandatory b)
    owed wanted mandatory b = due_more b (record { at = at; peer = peer; host = not sent; wanted = wanted; mandatory = mandatory })

    -- ---- suspensions

    rested : (local remote : ℕ) (b : SeenTables) → Grows 1 b (suspended_pair at peer local remote b)
    rested local remote b = go (position (is_of_sockets at peer local remote) b.conns)
      where
        put_there : ℕ → SeenTables
        put_there i = record b { conns = slice_set b.conns i (record (conn_at_index b.conns i) { suspended = true }) }

        link_rested : ℕ → Option ℕ → SeenTables
        link_rested i None = put_there i
        link_rested i (Some link) = link_suspended_now at peer (not (is_senders (conn_at_index b.conns i).local)) link (put_there i)

        now : Option ℕ → SeenTables
        now None = with_conn b (record (unasked_conn at peer local remote) { suspended = true })
        now (Some i) = link_rested i (conn_at_index b.conns i).link

        put_grows : (i : ℕ) → Grows 0 b (put_there i)
        put_grows i = conn_put b i (record (conn_at_index b.conns i) { suspended = true })

        by_link : (i : ℕ) (o : Option ℕ) → Grows 1 b (link_rested i o)
        by_link i None = grows_more 0 1 (omega arith) b (put_there i) (put_grows i)
        by_link i (Some link) =
            let host = not (is_senders (conn_at_index b.conns i).local) in
            grows_both 0 1 1 (omega arith) b (put_there i) (link_suspended_now at peer host link (put_there i)) (put_grows i) (link_more host link (put_there i))

        go : (o : Option ℕ) → Grows 1 b (now o)
        go None = conn_more b (record (unasked_conn at peer local remote) { suspended = true })
        go (Some i) = by_link i (conn_at_index b.conns i).link

    asked_rested : (request : Request) (b : SeenTables) → Grows 1 b (suspended_asked of_two request b)
    asked_rested (Link link) b = link_more sent link b
    asked_rested (Size size) b = grows_none 1 b

    -- ---- a request

    asked : (local remote : ℕ) (request : Request) (b : SeenTables) (o : Option ℕ) → Grows 1 b (asks of_two local remote request b o)
    asked local remote request b None = conn_more b (with_request_sent (record (unasked_conn at peer local remote) { since = b.number }) request)
    asked local remote request b (Some i) =
        grows_more 0 1 (omega arith) b (asks of_two local remote request b (Some i)) (conn_put b i (with_request_sent (conn_at_index b.conns i) request))

    requested : (c : Command) (local remote : ℕ) (request : Request) (v : Acceptance) (b : SeenTables) → Grows 3 b (tables_after_request of_two c local remote request v b)
    requested c local remote request Right b =
        grows_more 1 3 (omega arith) b (tables_after_request of_two c local remote request Right b) (asked local remote request b (index_with_sockets at peer local remote b.conns))
    requested c local remote request (Refused wrong) b = grows_more 1 3 (omega arith) b (tables_after_request of_two c local remote request (Refused wrong) b) (owed (error_wanted 3 3 c) true b)
    requested c local remote request (Unclear wrong) b =
        let pair = suspended_pair at peer local remote b in
        let mid = suspended_asked of_two request pair in
        grows_both 2 1 3 (omega arith) b mid (owes of_two (error_wanted 3 3 c) false mid) (grows_both 1 1 2 (omega arith) b pair mid (rested local remote b) (asked_rested request pair)) (owed (error_wanted 3 3 c) false mid)

    -- ---- a CLS

    closed : (b : SeenTables) (o : Option ℕ) → Grows 0 b (closes_side of_two b o)
    closed b None = grows_none 0 b
    closed b (Some i) = go ((with_cls_sent (conn_at_index b.conns i) sent).host_left && (with_cls_sent (conn_at_index b.conns i) sent).peer_left)
      where
        go : (x : Bool) → Grows 0 b (if x then record b { conns = remove b.conns i } else record b { conns = slice_set b.conns i (with_cls_sent (conn_at_index b.conns i) sent) })
        go true = conn_gone b i
        go false = conn_put b i (with_cls_sent (conn_at_index b.conns i) sent)

    cls_said : (c : Command) (local remote : ℕ) (v : Acceptance) (b : SeenTables) → Grows 2 b (after_cls of_two c local remote v b)
    cls_said c local remote Right b = grows_more 0 2 (omega arith) b (after_cls of_two c local remote Right b) (closed b (index_with_sockets at peer local remote b.conns))
    cls_said c local remote (Refused wrong) b = grows_more 1 2 (omega arith) b (after_cls of_two c local remote (Refused wrong) b) (owed (error_wanted 3 3 c) true b)
    cls_said c local remote (Unclear wrong) b =
        let mid = suspended_pair at peer local remote b in
        grows_both 1 1 2 (omega arith) b mid (owes of_two (error_wanted 4 3 c) false mid) (rested local remote b) (owed (error_wanted 4 3 c) false mid)

    -- ---- replies

    replied : (c : Command) (b : SeenTables) → Grows 0 b (after_reply of_two c b)
    replied c b = go (is_wanted (is_due_of at peer sent) c b.pending_replies)
      where
        go : (x : Bool) → Grows 0 b (if x then record b { pending_replies = pending_left (is_due_of at peer sent) c b.pending_replies } else b)
        go true = pending_fewer b (pending_left (is_due_of at peer sent) c b.pending_replies) (left_length (is_due_of at peer sent) c b.pending_replies)
        go false = grows_none 0 b

    echoed : (b : SeenTables) → Grows 1 b (answers_echo of_two b)
    echoed b = go (is_marked at peer (FactKind.Asks (not sent)) b)
      where
        go : (x : Bool) → Grows 1 b (if x then facts_no_more at peer (FactKind.Asks (not sent)) b else facts_now at peer (FactKind.EchoesRest (not sent)) b)
        go true = grows_more 0 1 (omega arith) b (facts_no_more at peer (FactKind.Asks (not sent)) b) (mark_less (FactKind.Asks (not sent)) b)
        go false = mark_more (FactKind.EchoesRest (not sent)) b

    -- ---- besides a CLS

    out_grows : (kept : List SentMessage) (o : Option ℕ) (b : SeenTables) → Grows 1 b (message_out_at of_two kept o b)
    out_grows kept None b = grows_none 1 b
    out_grows kept (Some place) b = go (is_slot_empty (kept_at kept place).slot) (message_in (kept_at kept place).message)
      where
        go : (x : Bool) (r : Result Message MessageFault) → Grows 1 b (if x then b else admits_out of_two r b)
        go true r = grows_none 1 b
        go false (Ok message) = mark_more (FactKind.Admits (not sent) (text_shown (speaker_of of_two) message)) b
        go false (Err fault) = grows_none 1 b

    text_out : (kept : List SentMessage) (o : Option ConnState) (b : SeenTables) → Grows 1 b (text_left_out of_two kept o b)
    text_out kept None b = grows_none 1 b
    text_out kept (Some conn) b = go (sent && is_senders conn.local) conn.link
      where
        on : Option ℕ → SeenTables
        on None = b
        on (Some link) = message_out_at of_two kept (position_of at peer link kept) b

        go : (x : Bool) (o : Option ℕ) → Grows 1 b (if x then on o else b)
        go false o = grows_none 1 b
        go true None = grows_none 1 b
        go true (Some link) = out_grows kept (position_of at peer link kept) b

    returns_ended : (o : Option ConnState) (b : SeenTables) → Grows 0 b (ends_returns of_two o b)
    returns_ended None b = grows_none 0 b
    returns_ended (Some conn) b = go (speaks_sender of_two conn) conn.link
      where
        drop_on : Option ℕ → SeenTables
        drop_on None = b
        drop_on (Some link) = returns_dropped at peer sent link b

        go : (x : Bool) (o : Option ℕ) → Grows 0 b (if x then drop_on o else b)
        go false o = grows_none 0 b
        go true None = grows_none 0 b
        go true (Some link) = pending_fewer b (filter (λ due. not (is_return at peer sent link due)) b.pending_replies) (filter_length (λ due. not (is_return at peer sent link due)) b.pending_replies)

    right_closed : (kept : List SentMessage) (o : Option ConnState) (v : Acceptance) (b : SeenTables) → Grows 1 b (after_right_cls of_two kept o v b)
    right_closed kept o Right b =
        let mid = text_left_out of_two kept o b in grows_both 1 0 1 (omega arith) b mid (ends_returns of_two o mid) (text_out kept o b) (returns_ended o mid)
    right_closed kept o (Refused wrong) b = grows_none 1 b
    right_closed kept o (Unclear wrong) b = grows_none 1 b

    -- ---- what names a link

    error_if : (wrong : Bool) (c : Command) (b : SeenTables) → Grows 1 b (owes_error_if wrong of_two c b)
    error_if true c b = owed (error_wanted 5 (other_code c) c) false b
    error_if false c b = grows_none 1 b

    suspended_by : (over : Bool) (receive_link : ReceiveLink) (b : SeenTables) → Grows 1 b (suspended_if over of_two receive_link b)
    suspended_by true receive_link b = link_more receive_link.host receive_link.link b
    suspended_by false receive_link b = grows_none 1 b

    module _ (kept : List SentMessage) (receive_link : ReceiveLink) (b : SeenTables) (place : ℕ) where
      abbrev led_conn : ConnState
      led_conn = conn_at_index b.conns place

      grant_said : (c : Command) (messages bits : ℕ) → Grows 2 b (after_allocation of_two c messages bits place b)
      grant_said c messages bits =
          let put = put_conn b (Some place) (with_grant of_two messages bits led_conn) in
          grows_both 0 1 2 (omega arith) b put (owes_error_if (is_some (limit_rule c (kept_sum led_conn.messages messages) (kept_sum led_conn.bits bits))) of_two c put)
          (conn_put b place (with_grant of_two messages bits led_conn))
          (error_if (is_some (limit_rule c (kept_sum led_conn.messages messages) (kept_sum led_conn.bits bits))) c put)

      recall_said : (c : Command) (link fm fb : ℕ) → Grows 2 b (after_gvb of_two kept c link fm fb place b)
      recall_said c link fm fb = grows_both 1 1 2 (omega arith) b mid (owes_return of_two kept link fm fb led_conn mid) mid_grows (go (has_sent_cls led_conn (not sent)))
        where
          wronged : SeenTables
          wronged = owes_error_if led_conn.recall of_two c b

          mid : SeenTables
          mid = put_conn wronged (Some place) (recalled of_two fm fb led_conn)

          mid_grows : Grows 1 b mid
          mid_grows = grows_both 1 0 1 (omega arith) b wronged mid (error_if led_conn.recall c b) (conn_put wronged place (recalled of_two fm fb led_conn))

          go : (x : Bool) → Grows 1 mid (if x then mid else owes of_two (asked_back link fm fb led_conn) (not sent && not (is_link_busy at peer (Some link) kept)) mid)
          go true = grows_none 1 mid
          go false = owed (asked_back link fm fb led_conn) (not sent && not (is_link_busy at peer (Some link) kept)) mid

      return_said : (c : Command) (messages bits : ℕ) → Grows 2 b (after_ret of_two c receive_link messages bits place b)
      return_said c messages bits = go (is_wanted (is_own of_two) c b.pending_replies)
        where
          replied_to : SeenTables
          replied_to = after_reply of_two c b

          put : SeenTables
          put = put_conn replied_to (Some place) (with_return of_two messages bits led_conn)

          over : Bool
          over = is_some (over_rule of_two c messages bits led_conn)

          go : (x : Bool) → Grows 2 b (if x then after_wanted_ret of_two c receive_link messages bits place b else owes_error of_two c false (suspended_conn of_two place b))
          go true =
              grows_both 1 1 2 (omega arith) b (suspended_if over of_two receive_link put) (after_wanted_ret of_two c receive_link messages bits place b)
              (grows_both 0 1 1 (omega arith) b put (suspended_if over of_two receive_link put)
              (grows_both 0 0 0 (omega arith) b replied_to put (replied c b) (conn_put replied_to place (with_return of_two messages bits led_conn)))
              (suspended_by over receive_link put))
              (error_if (is_any (returned_rules of_two c messages bits led_conn b.pending_replies)) c (suspended_if over of_two receive_link put))
          go false =
              let mid = suspended_conn of_two place b in
              grows_both 1 1 2 (omega arith) b mid (owes_error of_two c false mid) (rested led_conn.local led_conn.remote b) (owed (error_wanted 5 (other_code c) c) false mid)

      open_said : (c : Command) → Grows 2 b (after_open of_two kept c receive_link place b)
      open_said (Command.All link messages bits) = grant_said (Command.All link messages bits) messages bits
      open_said (Gvb link fm fb) = recall_said (Gvb link fm fb) link fm fb
      open_said (Ret link messages bits) = return_said (Ret link messages bits) messages bits
      open_said Nop = grows_none 2 b
      open_said (Rts receive send link) = grows_none 2 b
      open_said (Str send receive size) = grows_none 2 b
      open_said (Cls my your) = grows_none 2 b
      open_said (Inr link) = grows_none 2 b
      open_said (Ins link) = grows_none 2 b
      open_said (Eco byte) = grows_none 2 b
      open_said (Erp byte) = grows_none 2 b
      open_said (Command.Err code shown) = grows_none 2 b
      open_said Rst = grows_none 2 b
      open_said Rrp = grows_none 2 b

    link_said : (kept : List SentMessage) (c : Command) (receive_link : ReceiveLink) (b : SeenTables) → Grows 2 b (after_link of_two kept c receive_link b)
    link_said kept c receive_link b = go (target_on of_two receive_link b)
      where
        then_owed : (mid : SeenTables) → Grows 1 b mid → Grows 2 b (owes_error of_two c false mid)
        then_owed mid k = grows_both 1 1 2 (omega arith) b mid (owes_error of_two c false mid) k (owed (error_wanted 5 (other_code c) c) false mid)

        nobody : (x : Bool) → Grows 2 b (if x then owes of_two (error_wanted 5 5 c) true b else owes_error of_two c false (link_suspended_now at peer receive_link.host receive_link.link b))
        nobody true = grows_more 1 2 (omega arith) b (owes of_two (error_wanted 5 5 c) true b) (owed (error_wanted 5 5 c) true b)
        nobody false = then_owed (link_suspended_now at peer receive_link.host receive_link.link b) (link_more receive_link.host receive_link.link b)

        unasked : (place : ℕ) (x : Bool) → Grows 2 b (owes_error of_two c false (if x then suspended_conn of_two place b else b))
        unasked place true = let conn = conn_at_index b.conns place in then_owed (suspended_conn of_two place b) (rested conn.local conn.remote b)
        unasked place false = then_owed b (grows_none 1 b)

        go : (l : LinkTarget) → Grows 2 b (demuxed_after of_two kept c receive_link b l)
        go LinkTarget.Rests = then_owed b (grows_none 1 b)
        go LinkTarget.Nobody = nobody (speaks_receiver of_two receive_link)
        go LinkTarget.Closed = then_owed (suspended_if (not (speaks_receiver of_two receive_link)) of_two receive_link b) (suspended_by (not (speaks_receiver of_two receive_link)) receive_link b)
        go (LinkTarget.Unasked place) = unasked place (speaks_receiver of_two receive_link)
        go (LinkTarget.Open place) = open_said kept receive_link b place c

    -- ---- each command, and each item

    by_link : (kept : List SentMessage) (c : Command) (receive_link : ReceiveLink) (b : SeenTables) → Grows 3 b (after_link of_two kept c receive_link b)
    by_link kept c receive_link b = grows_more 2 3 (omega arith) b (after_link of_two kept c receive_link b) (link_said kept c receive_link b)

    command_said : (kept : List SentMessage) (c : Command) (b : SeenTables) → Grows 3 b (tables_after_command of_two kept c b)
    command_said kept (Rts receive send link) b =
        requested (Rts receive send link) (here_of of_two receive send) (there_of of_two receive send) (Link link) (asking_acceptance of_two (Rts receive send link) receive send (is_of_sexes receive send) (Link link) b) b
    command_said kept (Str send receive size) b =
        requested (Str send receive size) (here_of of_two send receive) (there_of of_two send receive) (Size size) (asking_acceptance of_two (Str send receive size) send receive (is_of_sexes receive send) (Size size) b) b
    command_said kept (Cls my your) b =
        let acceptance = closing_acceptance of_two (Cls my your) my your b in
        let conn = conn_of at peer (here_of of_two my your) (there_of of_two my your) b.conns in
        let mid = after_cls of_two (Cls my your) (here_of of_two my your) (there_of of_two my your) acceptance b in
        grows_both 2 1 3 (omega arith) b mid (after_right_cls of_two kept conn acceptance mid) (cls_said (Cls my your) (here_of of_two my your) (there_of of_two my your) acceptance b) (right_closed kept conn acceptance mid)
    command_said kept (Eco byte) b =
        let mid = facts_now at peer (FactKind.Asks sent) b in
        grows_both 1 1 3 (omega arith) b mid (owes of_two (ExpectedReply.Echo byte) true mid) (mark_more (FactKind.Asks sent) b) (owed (ExpectedReply.Echo byte) true mid)
    command_said kept (Erp byte) b = let mid = after_reply of_two (Erp byte) b in grows_both 0 1 3 (omega arith) b mid (answers_echo of_two mid) (replied (Erp byte) b) (echoed mid)
    command_said kept (Command.Err code shown) b = go (is_error_admitted of_two code shown b)
      where
        go : (x : Bool) → Grows 3 b (if x then b else after_reply of_two (Command.Err code shown) b)
        go true = grows_none 3 b
        go false = grows_more 0 3 (omega arith) b (after_reply of_two (Command.Err code shown) b) (replied (Command.Err code shown) b)
    command_said kept Nop b = grows_none 3 b
    command_said kept (Command.All link messages bits) b = by_link kept (Command.All link messages bits) (from_receiver of_two link) b
    command_said kept (Gvb link fm fb) b = by_link kept (Gvb link fm fb) (from_receiver of_two link) b
    command_said kept (Ret link messages bits) b = by_link kept (Ret link messages bits) (from_sender of_two link) b
    command_said kept (Inr link) b = by_link kept (Inr link) (from_receiver of_two link) b
    command_said kept (Ins link) b = by_link kept (Ins link) (from_sender of_two link) b
    command_said kept Rst b = grows_none 3 b
    command_said kept Rrp b = grows_none 3 b

    pub item_grows : (kept : List SentMessage) (item : Result Command CommandFault) (b : SeenTables) → Grows 3 b (after_spoken of_two kept item b)
    item_grows kept (Ok c) b = command_said kept c b
    item_grows kept (Err fault) b = grows_more 1 3 (omega arith) b (after_spoken of_two kept (Err fault) b) (owed (fault_wanted fault) true b)

    -- ---- a text

    admits : (message : Message) (b : SeenTables) → Grows 1 b (admits_error of_two message b)
    admits message b = mark_more (FactKind.Admits (not sent) (text_shown (speaker_of of_two) message)) b

    text_came : (link : ℕ) (b : SeenTables) → Grows 0 b (after_text_came of_two link b)
    text_came link b = go sent (position (has_link at peer (not sent) link) b.conns)
      where
        go : (s : Bool) (o : Option ℕ) → Grows 0 b (if s then b else conn_came_at b o)
        go true o = grows_none 0 b
        go false None = grows_none 0 b
        go false (Some i) = by (conn_at_index b.conns i).peer_left
          where
            by : (x : Bool) → Grows 0 b (if x then b else record b { conns = slice_set b.conns i (record (conn_at_index b.conns i) { came = true }) })
            by true = grows_none 0 b
            by false = conn_put b i (record (conn_at_index b.conns i) { came = true })

    pub text_grows : (link : ℕ) (message : Message) (b : SeenTables) → Grows 2 b (conn_tables_after_text of_two link message b)
    text_grows link message b = go (text_target of_two link b)
      where
        then_admits : (i : ℕ) → i + 1 ≤ 2 → (mid : SeenTables) → Grows i b mid → Grows 2 b (admits_error of_two message mid)
        then_admits i few mid k = grows_both i 1 2 few b mid (admits_error of_two message mid) k (admits message mid)

        wrong : (x y : Bool) (mid : SeenTables) → Grows 0 b mid → Grows 2 b (admits_error_if x of_two message (if y then text_suspended of_two link mid else mid))
        wrong true true mid k = then_admits 1 (omega arith) (text_suspended of_two link mid) (grows_both 0 1 1 (omega arith) b mid (text_suspended of_two link mid) k (link_more (not sent) link mid))
        wrong true false mid k = then_admits 0 (omega arith) mid k
        wrong false true mid k = grows_both 0 1 2 (omega arith) b mid (text_suspended of_two link mid) k (link_more (not sent) link mid)
        wrong false false mid k = grows_more 0 2 (omega arith) b mid k

        go : (l : LinkTarget) → Grows 2 b (demuxed_after_text of_two link message b l)
        go LinkTarget.Rests = then_admits 0 (omega arith) (after_text_came of_two link b) (text_came link b)
        go LinkTarget.Nobody = then_admits 1 (omega arith) (text_suspended of_two link b) (link_more (not sent) link b)
        go LinkTarget.Closed = then_admits 1 (omega arith) (text_suspended of_two link b) (link_more (not sent) link b)
        go (LinkTarget.Unasked place) = then_admits 0 (omega arith) (after_text_came of_two link b) (text_came link b)
        go (LinkTarget.Open place) =
            let conn = conn_at_index b.conns place in
            let is = is_any (open_text_rules link message conn) in
            let put = put_conn b (Some place) (used (length message.text) conn) in
            wrong is (is && not sent) (after_text_came of_two link put)
            (grows_both 0 0 0 (omega arith) b put (after_text_came of_two link put) (conn_put b place (used (length message.text) conn)) (text_came link put))

  -- ---- what is forgotten, and what is said

  pub cleared_grows : (b : SeenTables) → Grows 0 b (tables_cleared at peer b)
  cleared_grows b =
      let l = filter_length (λ conn. not (is_conn_between at peer conn)) b.conns in
      let d = filter_length (λ due. not (is_due_between at peer due)) b.pending_replies in
      let m = filter_length (λ one. not (is_fact_between at peer one)) b.known_facts in
      record {
        conns = omega (arith, l);
        known_facts = omega (arith, m);
        pending_replies = omega (arith, d);
        unfilled = λ h. h.unfilled;
        once = λ o a p host. unique_filter (is_topic a p (FactKind.Asks host)) (λ one. not (is_fact_between at peer one)) b.known_facts (o a p host);
      }

  pub said_grows : (b : SeenTables) → Grows 0 b (after_all_said at peer b)
  said_grows b =
      let d = filter_length (λ due. not (is_due_of at peer true due)) b.pending_replies in
      let m = filter_length (λ one. not (is_admission at peer one)) b.known_facts in
      record {
        conns = omega arith;
        known_facts = omega (arith, m);
        pending_replies = omega (arith, d);
        unfilled = λ h. h.unfilled;
        once = λ o a p host. unique_filter (is_topic a p (FactKind.Asks host)) (λ one. not (is_admission at peer one)) b.known_facts (o a p host);
      }

-- ---- an example: where a list is full, there is no place
example_full : (b : SeenTables) → HasPlaces 1 b → length b.conns ≡ MAX_TABLE_ROWS → ⊥
example_full b h e = let l = h.conns in omega (arith, l, e)
