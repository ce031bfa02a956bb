-- The facts about the books alone (Plain) through all that changes them: requests, CLSs, what comes to rest, and what is forgotten.
use Rattle.std.proofs.Common.{◌≡◌, ℕ, suc, ◌≤◌, ◌==◌, Bool, true, false, not, ◌&&◌, ◌||◌, if◌then◌else◌, List, [], ◌∷◌, ◌++◌, length, Option, None, Some, is_some, ◌⊎◌, inl, inr, refl, sym, ap, ◌∙◌, subst, arith}
use Rattle.std.specs.Prelude.{nat_lt, slice_set, Result, Ok}
use Rattle.std.specs.List.{filter, list_any, position}
use Rattle.std.proofs.Math.Bool.{beq}
use Rattle.std.proofs.lemmas.Bool.{eqb-true, and_parts}
use Rattle.ncp_leader.specs.declared.fault.MessageFault.{MessageFault}
use Rattle.ncp_leader.specs.Message.{Message, message_in}
use Rattle.ncp_monitor.specs.declared.conn_tables.TheConstants.{MAX_TABLE_ROWS}
use Rattle.ncp_monitor.specs.declared.pending_reply.PendingReply.{PendingReply}
use Rattle.ncp_interface.specs.declared.sent_message.SentMessage.{SentMessage}
use Rattle.ncp_monitor.specs.declared.conn_state.ConnState.{ConnState}
use Rattle.ncp_monitor.specs.declared.conn_state.Fact.{Fact}
use Rattle.ncp_interface.specs.declared.request.Request.{Request}
use Rattle.ncp_interface.specs.declared.request.Request.TheVariants.{Link, Size}
use Rattle.ncp_monitor.specs.declared.conn_state.FactKind.{FactKind}
use Rattle.ncp_monitor.specs.declared.observed_flow.ObservedFlow.{ObservedFlow}
use Rattle.ncp_monitor.specs.ConnStates.{SeenTables, with_cls_sent, unasked_conn, is_of_sockets, conn_at_index, conn_found, index_with_sockets, with_request_sent, with_conn, same_topic, is_topic, is_marked, is_return, is_return_on, facts_now, facts_no_more, returns_dropped, link_suspended_now, suspended_pair}
use Rattle.ncp_interface.specs.Sockets.{is_senders, is_number_given}
use Rattle.ncp_monitor.specs.Replies.{is_due_of}
use Rattle.ncp_interface.specs.Slots.{position_of, kept_at, is_slot_empty}
use Rattle.ncp_monitor.specs.Allocation.{speaks_sender, ends_returns}
use Rattle.ncp_monitor.specs.Texts.{text_shown, speaker_of, admits_out, message_out_at, text_left_out}
use Rattle.ncp_monitor.specs.Requests.{asks, closes_side}
use Rattle.ncp_monitor.specs.Speaking.{answers_echo, is_admission, is_admission_of, after_all_said}
use Rattle.ncp_monitor.proofs.Shapes.{Shape, Ask, Leave, legal, their_legal, is_closed}
use Rattle.ncp_monitor.proofs.LinkOrder.{Sockets, same, same_is}
use Rattle.ncp_monitor.proofs.Firsts.{first, found_first, none_first, Unique}
use Rattle.ncp_monitor.proofs.BooksAt.{has_sockets, or_conn, asks_at, after_left, leaves_at}
use Rattle.ncp_monitor.proofs.Seeing.{of_conn, seen}
use Rattle.ncp_proof_monitor_allocation.proofs.Echoing.{fact_other}
use Rattle.ncp_proof_monitor_allocation.proofs.SeenTables.{OneSeen, closed_seen, conn_seen, seen_of, receives_at, step}
use Rattle.ncp_proof_monitor_allocation.proofs.Users.{first_passes, found_at_first}
use Rattle.ncp_proof_monitor_allocation.proofs.Resting.{fact_conns, fact_pending, put_seen, put_suspended, begun_seen, begun_suspended}
use Rattle.ncp_proof_monitor_allocation.proofs.Words.{Count, no_count, count_of, link_given, is_open_on, open_is, open_given}
use Rattle.ncp_proof_monitor_allocation.proofs.Plain.{Plain, Fewer, RecalledOn, OpenOn, is_opened, count_seen, returns_due, plain_by, plain_conns, plain_fact, same_fewer}

-- ---- with the same shapes, and the same counted

pub plain_shapes : (me n : ℕ) (b now : SeenTables) → ((v : Sockets) → seen_of me n now v ≡ seen_of me n b v) → ((v : Sockets) → count_seen me n now v ≡ count_seen me n b v) → ((host : Bool) (link : ℕ) → Fewer me n host link b now) → Plain me n b → Plain me n now
plain_shapes me n b now shapes counts fewer plain =
    plain_by me n b now
    (λ v e. counts v ∙ plain.unopened v (sym (ap is_opened (shapes v)) ∙ e))
    (λ link r. inl (record {
      u = r.u;
      receives = r.receives;
      given = ap (link_given false) (shapes r.u) ∙ r.given;
      recall = ap (λ (c : Count). c.recall) (counts r.u) ∙ r.recall;
      unclosed = ap is_closed (shapes r.u) ∙ r.unclosed;
    }))
    (λ link o. inl (record { u = o.u; sends = o.sends; is = ap (is_open_on true link) (shapes o.u) ∙ o.is }))
    fewer plain

-- ---- fewer dues

filtered_fewer : (t s : PendingReply → Bool) (pending_replies : List PendingReply) → length (filter t (filter s pending_replies)) ≤ length (filter t pending_replies)
filtered_fewer t s [] = omega arith
filtered_fewer t s (due ∷ pending_replies) = go (t due) refl (s due) (filtered_fewer t s pending_replies)
  where
    more : (x y : ℕ) → x ≤ y → x ≤ suc y
    more x y e = omega arith

    up : (x y : ℕ) → x ≤ y → suc x ≤ suc y
    up x y e = omega arith

    go : (a : Bool) → t due ≡ a → (b : Bool) → length (filter t (filter s pending_replies)) ≤ length (filter t pending_replies) → length (filter t (if b then due ∷ filter s pending_replies else filter s pending_replies)) ≤ length (if a then due ∷ filter t pending_replies else filter t pending_replies)
    go true k true e = subst (λ (x : Bool). length (if x then due ∷ filter t (filter s pending_replies) else filter t (filter s pending_replies)) ≤ suc (length (filter t pending_replies))) (sym k) (up (length (filter t (filter s pending_replies))) (length (filter t pending_replies)) e)
    go true k false e = more (length (filter t (filter s pending_replies))) (length (filter t pending_replies)) e
    go false k true e = subst (λ (x : Bool). length (if x then due ∷ filter t (filter s pending_replies) else filter t (filter s pending_replies)) ≤ length (filter t pending_replies)) (sym k) e
    go false k false e = e

filtered_none : (t s : PendingReply → Bool) (pending_replies : List PendingReply) → ((due : PendingReply) → t due ≡ true → s due ≡ false) → length (filter t (filter s pending_replies)) ≡ 0
filtered_none t s [] w = refl
filtered_none t s (due ∷ pending_replies) w = go (s due) refl (t due) refl (filtered_none t s pending_replies w)
  where
    go : (b : Bool) → s due ≡ b → (a : Bool) → t due ≡ a → length (filter t (filter s pending_replies)) ≡ 0 → length (filter t (if b then due ∷ filter s pending_replies else filter s pending_replies)) ≡ 0
    go false k a j e = e
    go true k true j e = let nay : true ≡ false = sym k ∙ w due j in absurd (cc nay)
    go true k false j e = ap (λ (x : Bool). length (if x then due ∷ filter t (filter s pending_replies) else filter t (filter s pending_replies))) j ∙ e

dropped_fewer : (me n : ℕ) (host : Bool) (link : ℕ) (other : Bool) (on : ℕ) (pending_replies : List PendingReply) → returns_due me n host link (filter (λ due. not (is_return me n other on due)) pending_replies) ≤ returns_due me n host link pending_replies
dropped_fewer me n host link other on pending_replies = filtered_fewer (is_return me n host link) (λ due. not (is_return me n other on due)) pending_replies

pub dropped_none : (me n : ℕ) (host : Bool) (link : ℕ) (pending_replies : List PendingReply) → returns_due me n host link (filter (λ due. not (is_return me n host link due)) pending_replies) ≡ 0
dropped_none me n host link pending_replies = filtered_none (is_return me n host link) (λ due. not (is_return me n host link due)) pending_replies (λ due e. ap not e)

-- ---- a link comes to rest

is_beq : (a b : Bool) → beq a b ≡ true → a ≡ b
is_beq true true e = refl
is_beq true false e = absurd (cc e)
is_beq false true e = absurd (cc e)
is_beq false false e = refl

pub plain_link_suspended : (me n : ℕ) (host : Bool) (link : ℕ) (b : SeenTables) → Plain me n b → Plain me n (link_suspended_now me n host link b)
plain_link_suspended me n host link b plain = plain_conns me n b (link_suspended_now me n host link b) (fact_conns me n (FactKind.LinkSuspended host link) b) (λ h l. fewer h l (same_topic (FactKind.LinkSuspended host link) (FactKind.LinkSuspended (not h) l)) refl) plain
  where
    pending_are : (link_suspended_now me n host link b).pending_replies ≡ filter (λ due. not (is_return me n (not host) link due)) b.pending_replies
    pending_are = ap (filter (λ (due : PendingReply). not (is_return me n (not host) link due))) (fact_pending me n (FactKind.LinkSuspended host link) b)

    twice : (h : Bool) → not (not h) ≡ h
    twice true = refl
    twice false = refl

    at_most : (x y z : ℕ) → x ≡ y → y ≤ z → x ≤ z
    at_most x y z e k = omega arith

    fewer : (h : Bool) (l : ℕ) (x : Bool) → same_topic (FactKind.LinkSuspended host link) (FactKind.LinkSuspended (not h) l) ≡ x → Fewer me n h l b (link_suspended_now me n host link b)
    fewer h l true e =
        let parts = and_parts (beq host (not h)) (link == l) e in
        let its_host : h ≡ not host = sym (twice h) ∙ ap not (sym (is_beq host (not h) parts.0)) in
        let its_link : l ≡ link = sym (eqb-true link l parts.1) in
        inl (ap (returns_due me n h l) pending_are
        ∙ ap (λ (y : Bool). returns_due me n y l (filter (λ due. not (is_return me n (not host) link due)) b.pending_replies)) its_host
        ∙ ap (λ (y : ℕ). returns_due me n (not host) y (filter (λ due. not (is_return me n (not host) link due)) b.pending_replies)) its_link
        ∙ dropped_none me n (not host) link b.pending_replies)
    fewer h l false e =
        inr (
          at_most (returns_due me n h l (link_suspended_now me n host link b).pending_replies) (returns_due me n h l (filter (λ due. not (is_return me n (not host) link due)) b.pending_replies)) (returns_due me n h l b.pending_replies) (ap (returns_due me n h l) pending_are)
              (dropped_fewer me n h l (not host) link b.pending_replies),
          fact_other me n (FactKind.LinkSuspended host link) (FactKind.LinkSuspended (not h) l) b e,
        )

-- ---- a connection comes to rest

module _ (me n : ℕ) (p : Sockets) (b : SeenTables) where
  abbrev its : ConnState → Bool
  its = is_of_sockets me n p.0 p.1

  put_plain : (i : ℕ) → position its b.conns ≡ Some i → b.full ≡ false → Plain me n b → Plain me n (record b { conns = slice_set b.conns i (record (conn_at_index b.conns i) { suspended = true }) })
  put_plain i e f plain =
      plain_shapes me n b now (λ v. shapes v (same v p) refl) (λ v. counts v (same v p) refl) (λ host link. same_fewer me n host link b now refl refl) plain
    where
      now : SeenTables
      now = record b { conns = slice_set b.conns i (record (conn_at_index b.conns i) { suspended = true }) }

      here : conn_seen me n now p ≡ Some (record (conn_at_index b.conns i) { suspended = true })
      here = put_seen me n p b i e

      was : conn_seen me n b p ≡ Some (conn_at_index b.conns i)
      was = found_first its b.conns i (unasked_conn 0 0 0 0) e

      shapes : (v : Sockets) (x : Bool) → same v p ≡ x → seen_of me n now v ≡ seen_of me n b v
      shapes v true s = ap (seen_of me n now) (same_is v p s) ∙ ap seen here ∙ sym (ap seen was) ∙ ap (seen_of me n b) (sym (same_is v p s))
      shapes v false s = ap seen ((put_suspended me n p b i e f).seen v s)

      counts : (v : Sockets) (x : Bool) → same v p ≡ x → count_seen me n now v ≡ count_seen me n b v
      counts v true s = ap (count_seen me n now) (same_is v p s) ∙ ap count_of here ∙ sym (ap count_of was) ∙ ap (count_seen me n b) (sym (same_is v p s))
      counts v false s = ap count_of ((put_suspended me n p b i e f).seen v s)

  begun_plain : position its b.conns ≡ None → (with_conn b (record (unasked_conn me n p.0 p.1) { suspended = true })).full ≡ false → Plain me n b → Plain me n (with_conn b (record (unasked_conn me n p.0 p.1) { suspended = true }))
  begun_plain e f plain = plain_by me n b now (λ v k. unopened v (same v p) refl k) (λ l r. inl (recalls l r (same r.u p) refl)) (λ l o. inl (opens l o (same o.u p) refl)) fewer plain
    where
      conn : ConnState
      conn = record (unasked_conn me n p.0 p.1) { suspended = true }

      now : SeenTables
      now = with_conn b (record (unasked_conn me n p.0 p.1) { suspended = true })

      here : conn_seen me n now p ≡ Some (record (unasked_conn me n p.0 p.1) { suspended = true })
      here = begun_seen me n p b e f

      was : conn_seen me n b p ≡ None
      was = none_first its b.conns e

      there : (v : Sockets) → same v p ≡ false → conn_seen me n now v ≡ conn_seen me n b v
      there v s = (begun_suspended me n p b e f).seen v s

      unopened : (v : Sockets) (x : Bool) → same v p ≡ x → is_opened (seen_of me n now v) ≡ false → count_seen me n now v ≡ no_count
      unopened v true s k = ap (count_seen me n now) (same_is v p s) ∙ ap count_of here
      unopened v false s k = ap count_of (there v s) ∙ plain.unopened v (ap (λ (o : Option ConnState). is_opened (seen o)) (sym (there v s)) ∙ k)

      recalls : (l : ℕ) (r : RecalledOn me n b l) (x : Bool) → same r.u p ≡ x → RecalledOn me n now l
      recalls l r true s =
          let nay : None ≡ Some l = ap (link_given false) (sym (ap seen was)) ∙ ap (λ (v : Sockets). link_given false (seen_of me n b v)) (sym (same_is r.u p s)) ∙ r.given in absurd (cc nay)
      recalls l r false s = record {
        u = r.u;
        receives = r.receives;
        given = ap (λ (o : Option ConnState). link_given false (seen o)) (there r.u s) ∙ r.given;
        recall = ap (λ (o : Option ConnState). (count_of o).recall) (there r.u s) ∙ r.recall;
        unclosed = ap (λ (o : Option ConnState). is_closed (seen o)) (there r.u s) ∙ r.unclosed;
      }

      opens : (l : ℕ) (o : OpenOn me n b l) (x : Bool) → same o.u p ≡ x → OpenOn me n now l
      opens l o true s =
          let nay : false ≡ true = ap (is_open_on true l) (sym (ap seen was)) ∙ ap (λ (v : Sockets). is_open_on true l (seen_of me n b v)) (sym (same_is o.u p s)) ∙ o.is in absurd (cc nay)
      opens l o false s = record { u = o.u; sends = o.sends; is = ap (λ (y : Option ConnState). is_open_on true l (seen y)) (there o.u s) ∙ o.is }

      fewer : (host : Bool) (link : ℕ) → Fewer me n host link b now
      fewer host link = same_fewer me n host link b now (pending_same (nat_lt (length b.conns) MAX_TABLE_ROWS)) (facts_same (nat_lt (length b.conns) MAX_TABLE_ROWS))
        where
          pending_same : (x : Bool) → returns_due me n host link (if x then record b { conns = b.conns ++ record (unasked_conn me n p.0 p.1) { suspended = true } ∷ [] } else record b { full = true }).pending_replies ≡ returns_due me n host link b.pending_replies
          pending_same true = refl
          pending_same false = refl

          facts_same : (x : Bool) → is_marked me n (FactKind.LinkSuspended (not host) link) (if x then record b { conns = b.conns ++ record (unasked_conn me n p.0 p.1) { suspended = true } ∷ [] } else record b { full = true }) ≡ is_marked me n (FactKind.LinkSuspended (not host) link) b
          facts_same true = refl
          facts_same false = refl

  pub plain_suspended : b.full ≡ false → (suspended_pair me n p.0 p.1 b).full ≡ false → Plain me n b → Plain me n (suspended_pair me n p.0 p.1 b)
  plain_suspended whole f plain = go (position its b.conns) refl f
    where
      put_in : ℕ → SeenTables
      put_in i = record b { conns = slice_set b.conns i (record (conn_at_index b.conns i) { suspended = true }) }

      link_rested : ℕ → Option ℕ → SeenTables
      link_rested i None = put_in i
      link_rested i (Some link) = link_suspended_now me n (not (is_senders (conn_at_index b.conns i).local)) link (put_in i)

      rested : Option ℕ → SeenTables
      rested None = with_conn b (record (unasked_conn me n p.0 p.1) { suspended = true })
      rested (Some i) = link_rested i (conn_at_index b.conns i).link

      by_link : (i : ℕ) (o : Option ℕ) → Plain me n (put_in i) → Plain me n (link_rested i o)
      by_link i None k = k
      by_link i (Some link) k = plain_link_suspended me n (not (is_senders (conn_at_index b.conns i).local)) link (put_in i) k

      go : (o : Option ℕ) → position its b.conns ≡ o → (rested o).full ≡ false → Plain me n (rested o)
      go None e f = begun_plain e f plain
      go (Some i) e f = by_link i (conn_at_index b.conns i).link (put_plain i e whole plain)

-- ---- a request that is right

abbrev pub step_legal : Bool → ℕ → Option Shape → Bool
step_legal true k m = legal (Ask k) m
step_legal false k m = their_legal (Ask k) m

pub plain_asked : (me n : ℕ) (sent : Bool) (k : ℕ) (b now : SeenTables) (p : Sockets) → OneSeen me n b now p (step sent (Ask k) (seen_of me n b p)) → count_seen me n now p ≡ count_seen me n b p → step_legal sent k (seen_of me n b p) ≡ true → Plain me n b → Plain me n now
plain_asked me n sent k b now p one counts right plain =
    plain_by me n b now (λ v e. unopened v (same v p) refl e) (λ l r. inl (recalls l r (same r.u p) refl)) (λ l o. inl (opens l o (same o.u p) refl))
    (λ host link. same_fewer me n host link b now (ap (returns_due me n host link) one.pending_replies) (ap (list_any (is_topic me n (FactKind.LinkSuspended (not host) link))) one.known_facts)) plain
  where
    here : (v : Sockets) → same v p ≡ true → seen_of me n now v ≡ step sent (Ask k) (seen_of me n b p)
    here v s = one.seen v ∙ ap (λ (x : Bool). if x then step sent (Ask k) (seen_of me n b p) else seen_of me n b v) s

    opened : (s : Bool) (m : Option Shape) → is_opened (step s (Ask k) m) ≡ false → is_opened m ≡ false
    opened true None e = refl
    opened false None e = refl
    opened true (Some x) e = go (is_some x.own) (is_some x.others) e
      where
        go : (a c : Bool) → c ≡ false → (a && c) ≡ false
        go true c e = e
        go false c e = refl
    opened false (Some x) e = go (is_some x.own) (is_some x.others) e
      where
        go : (a c : Bool) → (a && true) ≡ false → (a && c) ≡ false
        go true c e = absurd (cc e)
        go false c e = refl

    unopened : (v : Sockets) (x : Bool) → same v p ≡ x → is_opened (seen_of me n now v) ≡ false → count_seen me n now v ≡ no_count
    unopened v true s e =
        let before : is_opened (seen_of me n b p) ≡ false = opened sent (seen_of me n b p) (ap is_opened (sym (here v s)) ∙ e) in
        ap (count_seen me n now) (same_is v p s) ∙ counts ∙ plain.unopened p before
    unopened v false s e = ap count_of (one.others v s) ∙ plain.unopened v (ap (λ (o : Option ConnState). is_opened (seen o)) (sym (one.others v s)) ∙ e)

    given_still : (s : Bool) (m : Option Shape) (l : ℕ) → step_legal s k m ≡ true → link_given false m ≡ Some l → link_given false (step s (Ask k) m) ≡ Some l
    given_still s None l r g = absurd (cc g)
    given_still false (Some x) l r g = g
    given_still true (Some x) l r g = absurd (asked x.own x.left r g)
      where
        asked : (o : Option ℕ) (left : Bool) → (not (is_some o) && not left) ≡ true → o ≡ Some l → ⊥
        asked None left r g = cc g
        asked (Some y) left r g = cc r

    closed_still : (s : Bool) (m : Option Shape) → is_closed m ≡ false → is_closed (step s (Ask k) m) ≡ false
    closed_still true None c = refl
    closed_still false None c = refl
    closed_still true (Some x) c = c
    closed_still false (Some x) c = c

    recalls : (l : ℕ) (r : RecalledOn me n b l) (x : Bool) → same r.u p ≡ x → RecalledOn me n now l
    recalls l r true s =
        let at : r.u ≡ p = same_is r.u p s in
        record {
          u = r.u;
          receives = r.receives;
          given = ap (link_given false) (here r.u s) ∙ given_still sent (seen_of me n b p) l right (ap (λ (v : Sockets). link_given false (seen_of me n b v)) (sym at) ∙ r.given);
          recall = ap (λ (v : Sockets). (count_seen me n now v).recall) at ∙ ap (λ (c : Count). c.recall) counts ∙ ap (λ (v : Sockets). (count_seen me n b v).recall) (sym at) ∙ r.recall;
          unclosed = ap is_closed (here r.u s) ∙ closed_still sent (seen_of me n b p) (ap (λ (v : Sockets). is_closed (seen_of me n b v)) (sym at) ∙ r.unclosed);
        }
    recalls l r false s = record {
      u = r.u;
      receives = r.receives;
      given = ap (λ (o : Option ConnState). link_given false (seen o)) (one.others r.u s) ∙ r.given;
      recall = ap (λ (o : Option ConnState). (count_of o).recall) (one.others r.u s) ∙ r.recall;
      unclosed = ap (λ (o : Option ConnState). is_closed (seen o)) (one.others r.u s) ∙ r.unclosed;
    }

    open_never : (s : Bool) (m : Option Shape) (l : ℕ) → step_legal s k m ≡ true → is_open_on true l m ≡ true → ⊥
    open_never s None l r o = cc o
    open_never true (Some x) l r o = go x.own x.others x.left r o
      where
        go : (a c : Option ℕ) (left : Bool) → (not (is_some a) && not left) ≡ true → (is_some a && is_some c && not left && is_number_given x.others l) ≡ true → ⊥
        go None c left r o = cc o
        go (Some y) c left r o = cc r
    open_never false (Some x) l r o = go x.own x.others x.cls r o
      where
        go : (a c : Option ℕ) (cls : Bool) → (not (is_some c) && not cls) ≡ true → (is_some a && is_some c && not x.left && is_number_given c l) ≡ true → ⊥
        go a (Some y) cls r o = cc r
        go None None cls r o = cc o
        go (Some y) None cls r o = cc o

    opens : (l : ℕ) (o : OpenOn me n b l) (x : Bool) → same o.u p ≡ x → OpenOn me n now l
    opens l o true s = absurd (open_never sent (seen_of me n b p) l right (ap (λ (v : Sockets). is_open_on true l (seen_of me n b v)) (sym (same_is o.u p s)) ∙ o.is))
    opens l o false s = record { u = o.u; sends = o.sends; is = ap (λ (y : Option ConnState). is_open_on true l (seen y)) (one.others o.u s) ∙ o.is }

-- a request moves no number
pub asked_counts : (me n : ℕ) (sent : Bool) (p : Sockets) (request : Request) (b : SeenTables)
    → (asks (record { at = me; peer = n; sent = sent }) p.0 p.1 request b (index_with_sockets me n p.0 p.1 b.conns)).full ≡ false
    → count_seen me n (asks (record { at = me; peer = n; sent = sent }) p.0 p.1 request b (index_with_sockets me n p.0 p.1 b.conns)) p ≡ count_seen me n b p
asked_counts me n sent p request b room =
    ap count_of (asks_at (record { at = me; peer = n; sent = sent }) p.0 p.1 request b (index_with_sockets me n p.0 p.1 b.conns) refl room)
    ∙ by request (conn_found b.conns (index_with_sockets me n p.0 p.1 b.conns))
    ∙ ap count_of (found_at_first (is_of_sockets me n p.0 p.1) b.conns)
  where
    by : (request : Request) (o : Option ConnState) → count_of (Some (with_request_sent (or_conn me n p.0 p.1 b.number o) request)) ≡ count_of o
    by (Link link) None = refl
    by (Link link) (Some conn) = refl
    by (Size size) None = refl
    by (Size size) (Some conn) = refl

-- ---- a CLS that is right

module _ (flow : ObservedFlow) (kept : List SentMessage) where
  -- only an admission is marked
  pub record OnlyAdmits (me n : ℕ) (b now : SeenTables) : Type 0 where
    pub conns : now.conns ≡ b.conns
    pub pending_replies : now.pending_replies ≡ b.pending_replies
    pub known_facts : (host : Bool) (link : ℕ) → is_marked me n (FactKind.LinkSuspended host link) now ≡ is_marked me n (FactKind.LinkSuspended host link) b

  only_same : (b : SeenTables) → OnlyAdmits flow.at flow.peer b b
  only_same b = record { conns = refl; pending_replies = refl; known_facts = λ h l. refl }

  out_admits : (o : Option ℕ) (b : SeenTables) → OnlyAdmits flow.at flow.peer b (message_out_at flow kept o b)
  out_admits None b = only_same b
  out_admits (Some place) b = go (is_slot_empty (kept_at kept place).slot) (message_in (kept_at kept place).message)
    where
      go : (x : Bool) (r : Result Message MessageFault) → OnlyAdmits flow.at flow.peer b (if x then b else admits_out flow r b)
      go true r = only_same b
      go false (Ok message) =
          let what = FactKind.Admits (not flow.sent) (text_shown (speaker_of flow) message) in
          record { conns = fact_conns flow.at flow.peer what b; pending_replies = fact_pending flow.at flow.peer what b; known_facts = λ h l. fact_other flow.at flow.peer what (FactKind.LinkSuspended h l) b refl }
      go false (Result.Err fault) = only_same b

  pub text_out_admits : (o : Option ConnState) (b : SeenTables) → OnlyAdmits flow.at flow.peer b (text_left_out flow kept o b)
  text_out_admits None b = only_same b
  text_out_admits (Some conn) b = go (flow.sent && is_senders conn.local) conn.link
    where
      on : Option ℕ → SeenTables
      on None = b
      on (Some link) = message_out_at flow kept (position_of flow.at flow.peer link kept) b

      go : (x : Bool) (o : Option ℕ) → OnlyAdmits flow.at flow.peer b (if x then on o else b)
      go false o = only_same b
      go true None = only_same b
      go true (Some link) = out_admits (position_of flow.at flow.peer link kept) b

  -- the RETs of a closing sender are no longer pending
  pub record EndsLess (me n : ℕ) (b now : SeenTables) : Type 0 where
    pub conns : now.conns ≡ b.conns
    pub known_facts : now.known_facts ≡ b.known_facts
    pub fewer : (host : Bool) (link : ℕ) → returns_due me n host link now.pending_replies ≤ returns_due me n host link b.pending_replies

  less_same : (b : SeenTables) → EndsLess flow.at flow.peer b b
  less_same b = record { conns = refl; known_facts = refl; fewer = λ h l. itself (returns_due flow.at flow.peer h l b.pending_replies) }
    where
      itself : (x : ℕ) → x ≤ x
      itself x = omega arith

  pub ends_less : (o : Option ConnState) (b : SeenTables) → EndsLess flow.at flow.peer b (ends_returns flow o b)
  ends_less None b = less_same b
  ends_less (Some conn) b = go (speaks_sender flow conn) conn.link
    where
      drop_on : Option ℕ → SeenTables
      drop_on None = b
      drop_on (Some link) = returns_dropped flow.at flow.peer flow.sent link b

      go : (x : Bool) (o : Option ℕ) → EndsLess flow.at flow.peer b (if x then drop_on o else b)
      go false o = less_same b
      go true None = less_same b
      go true (Some link) = record { conns = refl; known_facts = refl; fewer = λ h l. dropped_fewer flow.at flow.peer h l flow.sent link b.pending_replies }

  pub ends_dropped : (conn : ConnState) (link : ℕ) (b : SeenTables) → is_senders conn.local ≡ flow.sent → conn.link ≡ Some link → returns_due flow.at flow.peer flow.sent link (ends_returns flow (Some conn) b).pending_replies ≡ 0
  ends_dropped conn link b s g = go (speaks_sender flow conn) conn.link (ap (λ (x : Bool). beq x flow.sent) s ∙ itself flow.sent) g
    where
      itself : (x : Bool) → beq x x ≡ true
      itself true = refl
      itself false = refl

      drop_on : Option ℕ → SeenTables
      drop_on None = b
      drop_on (Some on) = returns_dropped flow.at flow.peer flow.sent on b

      go : (x : Bool) (o : Option ℕ) → x ≡ true → o ≡ Some link → returns_due flow.at flow.peer flow.sent link (if x then drop_on o else b).pending_replies ≡ 0
      go false o e g = absurd (cc e)
      go true None e g = absurd (cc g)
      go true (Some on) e g =
          let is : on ≡ link = cc g in
          ap (λ (y : ℕ). returns_due flow.at flow.peer flow.sent link (filter (λ due. not (is_return flow.at flow.peer flow.sent y due)) b.pending_replies)) is ∙ dropped_none flow.at flow.peer flow.sent link b.pending_replies

pub plain_left : (me n : ℕ) (sent : Bool) (kept : List SentMessage) (p : Sockets) (b : SeenTables) → Unique (is_of_sockets me n p.0 p.1) b.conns → Plain me n b
    → Plain me n (ends_returns (record { at = me; peer = n; sent = sent }) (conn_seen me n b p) (text_left_out (record { at = me; peer = n; sent = sent }) kept (conn_seen me n b p) (closes_side (record { at = me; peer = n; sent = sent }) b (index_with_sockets me n p.0 p.1 b.conns))))
plain_left me n sent kept p b unique plain =
    plain_by me n b now (λ v e. unopened v (same v p) refl e) (λ l r. recalls l r (same r.u p) refl) (λ l o. opens l o (same o.u p) refl) fewer plain
  where
    flow : ObservedFlow
    flow = record { at = me; peer = n; sent = sent }

    closed : SeenTables
    closed = closes_side (record { at = me; peer = n; sent = sent }) b (index_with_sockets me n p.0 p.1 b.conns)

    mid : SeenTables
    mid = text_left_out (record { at = me; peer = n; sent = sent }) kept (conn_seen me n b p) closed

    now : SeenTables
    now = ends_returns (record { at = me; peer = n; sent = sent }) (conn_seen me n b p) mid

    admits : OnlyAdmits (record { at = me; peer = n; sent = sent }) kept me n closed mid
    admits = text_out_admits (record { at = me; peer = n; sent = sent }) kept (conn_seen me n b p) closed

    less : EndsLess (record { at = me; peer = n; sent = sent }) kept me n mid now
    less = ends_less (record { at = me; peer = n; sent = sent }) kept (conn_seen me n b p) mid

    one : OneSeen me n b closed p (step sent Leave (seen_of me n b p))
    one = closed_seen me n sent p b unique

    there : (v : Sockets) → conn_seen me n now v ≡ conn_seen me n closed v
    there v = ap (λ (xs : List ConnState). first (is_of_sockets me n v.0 v.1) xs) (less.conns ∙ admits.conns)

    here : conn_seen me n now p ≡ after_left sent (conn_seen me n b p)
    here =
        there p ∙ leaves_at (record { at = me; peer = n; sent = sent }) p.0 p.1 b (index_with_sockets me n p.0 p.1 b.conns) refl unique
        ∙ ap (after_left sent) (found_at_first (is_of_sockets me n p.0 p.1) b.conns)

    elsewhere : (v : Sockets) → same v p ≡ false → conn_seen me n now v ≡ conn_seen me n b v
    elsewhere v s = there v ∙ one.others v s

    at_most : (x y z : ℕ) → x ≤ y → y ≡ z → x ≤ z
    at_most x y z k e = omega arith

    fewer : (host : Bool) (link : ℕ) → Fewer me n host link b now
    fewer host link =
        inr (
          at_most (returns_due me n host link now.pending_replies) (returns_due me n host link mid.pending_replies) (returns_due me n host link b.pending_replies) (less.fewer host link) (ap (returns_due me n host link) (admits.pending_replies ∙ one.pending_replies)),
          ap (list_any (is_topic me n (FactKind.LinkSuspended (not host) link))) less.known_facts ∙ admits.known_facts (not host) link ∙ ap (list_any (is_topic me n (FactKind.LinkSuspended (not host) link))) one.known_facts,
        )

    -- the connection itself
    left_opened : (s : Bool) (conn : ConnState) → is_opened (seen (Some (with_cls_sent conn s))) ≡ is_opened (seen (Some conn))
    left_opened true conn = refl
    left_opened false conn = refl

    left_count : (s : Bool) (conn : ConnState) → count_of (Some (with_cls_sent conn s)) ≡ count_of (Some conn)
    left_count true conn = refl
    left_count false conn = refl

    at_it : (o : Option ConnState) → (is_opened (seen o) ≡ false → count_of o ≡ no_count) → is_opened (seen (after_left sent o)) ≡ false → count_of (after_left sent o) ≡ no_count
    at_it None f e = refl
    at_it (Some conn) f e = go ((with_cls_sent conn sent).host_left && (with_cls_sent conn sent).peer_left) e
      where
        go : (x : Bool) → is_opened (seen (if x then None else Some (with_cls_sent conn sent))) ≡ false → count_of (if x then None else Some (with_cls_sent conn sent)) ≡ no_count
        go true e = refl
        go false e = left_count sent conn ∙ f (sym (left_opened sent conn) ∙ e)

    unopened : (v : Sockets) (x : Bool) → same v p ≡ x → is_opened (seen_of me n now v) ≡ false → count_seen me n now v ≡ no_count
    unopened v true s e =
        ap (count_seen me n now) (same_is v p s) ∙ ap count_of here
        ∙ at_it (conn_seen me n b p) (plain.unopened p) (ap (λ (o : Option ConnState). is_opened (seen o)) (sym here) ∙ ap (λ (y : Sockets). is_opened (seen_of me n now y)) (sym (same_is v p s)) ∙ e)
    unopened v false s e = ap count_of (elsewhere v s) ∙ plain.unopened v (ap (λ (o : Option ConnState). is_opened (seen o)) (sym (elsewhere v s)) ∙ e)

    not_sends : (s : Bool) → not s ≡ true → s ≡ false
    not_sends true e = absurd (cc e)
    not_sends false e = refl

    local_of : (conn : ConnState) → conn_seen me n b p ≡ Some conn → conn.local ≡ p.0
    local_of conn s = (has_sockets me n p.0 p.1 conn (first_passes (is_of_sockets me n p.0 p.1) b.conns conn s)).local

    -- of a link on which the host receives
    receiver_left : (sent_by : Bool) → sent ≡ sent_by → (l : ℕ) (o : Option ConnState) → conn_seen me n b p ≡ o → receives_at p ≡ true → link_given false (seen o) ≡ Some l → (count_of o).recall ≡ true → is_closed (seen o) ≡ false
        → RecalledOn me n now l ⊎ (returns_due me n false l now.pending_replies ≡ 0)
    receiver_left x k l None s r g c d = absurd (cc g)
    receiver_left true k l (Some conn) s r g c d =
        let after : conn_seen me n now p ≡ Some (record conn { host_left = true }) =
        here ∙ ap (after_left sent) s ∙ ap (λ (y : Bool). after_left y (Some conn)) k ∙ ap (λ (y : Bool). if true && y then None else Some (record conn { host_left = true })) d in
        inl (record {
          u = p;
          receives = r;
          given = ap (λ (o : Option ConnState). link_given false (seen o)) after ∙ g;
          recall = ap (λ (o : Option ConnState). (count_of o).recall) after ∙ c;
          unclosed = ap (λ (o : Option ConnState). is_closed (seen o)) after ∙ d;
        })
    receiver_left false k l (Some conn) s r g c d =
        let receiver : is_senders conn.local ≡ false = ap is_senders (local_of conn s) ∙ not_sends (is_senders p.0) r in
        let given : conn.link ≡ Some l = sym (ap (λ (y : Bool). if y then conn.size else conn.link) receiver) ∙ g in
        inr (ap (λ (o : Option ConnState). returns_due me n false l (ends_returns flow o mid).pending_replies) s
        ∙ ap (λ (y : Bool). returns_due me n y l (ends_returns flow (Some conn) mid).pending_replies) (sym k)
        ∙ ends_dropped flow kept conn l mid (receiver ∙ sym k) given)

    recalls : (l : ℕ) (r : RecalledOn me n b l) (x : Bool) → same r.u p ≡ x → RecalledOn me n now l ⊎ (returns_due me n false l now.pending_replies ≡ 0)
    recalls l r true s =
        let at : r.u ≡ p = same_is r.u p s in
        receiver_left sent refl l (conn_seen me n b p) refl (ap receives_at (sym at) ∙ r.receives) (ap (λ (v : Sockets). link_given false (seen_of me n b v)) (sym at) ∙ r.given)
        (ap (λ (v : Sockets). (count_seen me n b v).recall) (sym at) ∙ r.recall) (ap (λ (v : Sockets). is_closed (seen_of me n b v)) (sym at) ∙ r.unclosed)
    recalls l r false s = inl (record {
      u = r.u;
      receives = r.receives;
      given = ap (λ (o : Option ConnState). link_given false (seen o)) (elsewhere r.u s) ∙ r.given;
      recall = ap (λ (o : Option ConnState). (count_of o).recall) (elsewhere r.u s) ∙ r.recall;
      unclosed = ap (λ (o : Option ConnState). is_closed (seen o)) (elsewhere r.u s) ∙ r.unclosed;
    })

    -- of one on which it sends
    sender_left : (sent_by : Bool) → sent ≡ sent_by → (l : ℕ) (o : Option ConnState) → conn_seen me n b p ≡ o → is_senders p.0 ≡ true → is_open_on true l (seen o) ≡ true → OpenOn me n now l ⊎ (returns_due me n true l now.pending_replies ≡ 0)
    sender_left x k l None s r g = absurd (cc g)
    sender_left false k l (Some conn) s r g =
        let unleft : conn.host_left ≡ false = (open_is true l (of_conn conn) g).left in
        let after : conn_seen me n now p ≡ Some (record conn { peer_left = true }) =
        here ∙ ap (after_left sent) s ∙ ap (λ (y : Bool). after_left y (Some conn)) k ∙ ap (λ (y : Bool). if y && true then None else Some (record conn { peer_left = true })) unleft in
        inl (record { u = p; sends = r; is = ap (λ (o : Option ConnState). is_open_on true l (seen o)) after ∙ g })
    sender_left true k l (Some conn) s r g =
        let sender : is_senders conn.local ≡ true = ap is_senders (local_of conn s) ∙ r in
        let given : conn.link ≡ Some l = sym (ap (λ (y : Bool). if y then conn.link else conn.size) sender) ∙ open_given true l (Some (of_conn conn)) g in
        inr (ap (λ (o : Option ConnState). returns_due me n true l (ends_returns flow o mid).pending_replies) s
        ∙ ap (λ (y : Bool). returns_due me n y l (ends_returns flow (Some conn) mid).pending_replies) (sym k)
        ∙ ends_dropped flow kept conn l mid (sender ∙ sym k) given)

    opens : (l : ℕ) (o : OpenOn me n b l) (x : Bool) → same o.u p ≡ x → OpenOn me n now l ⊎ (returns_due me n true l now.pending_replies ≡ 0)
    opens l o true s =
        let at : o.u ≡ p = same_is o.u p s in
        sender_left sent refl l (conn_seen me n b p) refl (ap (λ (v : Sockets). is_senders v.0) (sym at) ∙ o.sends) (ap (λ (v : Sockets). is_open_on true l (seen_of me n b v)) (sym at) ∙ o.is)
    opens l o false s = inl (record { u = o.u; sends = o.sends; is = ap (λ (y : Option ConnState). is_open_on true l (seen y)) (elsewhere o.u s) ∙ o.is })

-- ---- marks that are taken away

pub kept_facts : (t s : Fact → Bool) (known_facts : List Fact) → ((known_fact : Fact) → t known_fact ≡ true → s known_fact ≡ true) → list_any t (filter s known_facts) ≡ list_any t known_facts
kept_facts t s [] w = refl
kept_facts t s (known_fact ∷ known_facts) w = go (s known_fact) refl (t known_fact) refl (kept_facts t s known_facts w)
  where
    go : (b : Bool) → s known_fact ≡ b → (a : Bool) → t known_fact ≡ a → list_any t (filter s known_facts) ≡ list_any t known_facts → list_any t (if b then known_fact ∷ filter s known_facts else filter s known_facts) ≡ (a || list_any t known_facts)
    go true k a j e = ap (λ (x : Bool). x || list_any t (filter s known_facts)) j ∙ ap (λ (x : Bool). a || x) e
    go false k true j e = let nay : true ≡ false = sym (w known_fact j) ∙ k in absurd (cc nay)
    go false k false j e = e

-- ---- an ERP comes, or goes

echo_keeps : (me n : ℕ) (sent : Bool) (host : Bool) (link : ℕ) (known_fact : Fact) → is_topic me n (FactKind.LinkSuspended host link) known_fact ≡ true → not (is_topic me n (FactKind.Asks (not sent)) known_fact) ≡ true
echo_keeps me n sent host link known_fact e = by known_fact.fact_kind (and_parts (known_fact.at == me && known_fact.peer == n) (same_topic known_fact.fact_kind (FactKind.LinkSuspended host link)) e).1
  where
    none : (x : Bool) → not (x && false) ≡ true
    none true = refl
    none false = refl

    by : (what : FactKind) → same_topic what (FactKind.LinkSuspended host link) ≡ true → not (known_fact.at == me && known_fact.peer == n && same_topic what (FactKind.Asks (not sent))) ≡ true
    by (FactKind.LinkSuspended other on) k = none (known_fact.at == me && known_fact.peer == n)
    by (FactKind.EchoesRest other) k = absurd (cc k)
    by (FactKind.Asks other) k = absurd (cc k)
    by (FactKind.Admits other bytes) k = absurd (cc k)

pub plain_echo : (me n : ℕ) (sent : Bool) (b : SeenTables) → Plain me n b → Plain me n (answers_echo (record { at = me; peer = n; sent = sent }) b)
plain_echo me n sent b plain = go (is_marked me n (FactKind.Asks (not sent)) b)
  where
    go : (x : Bool) → Plain me n (if x then facts_no_more me n (FactKind.Asks (not sent)) b else facts_now me n (FactKind.EchoesRest (not sent)) b)
    go true =
        plain_conns me n b (facts_no_more me n (FactKind.Asks (not sent)) b) refl
        (λ host link. same_fewer me n host link b (facts_no_more me n (FactKind.Asks (not sent)) b) refl (kept_facts (is_topic me n (FactKind.LinkSuspended (not host) link)) (λ known_fact. not (is_topic me n (FactKind.Asks (not sent)) known_fact)) b.known_facts (echo_keeps me n sent (not host) link))) plain
    go false = plain_fact me n (FactKind.EchoesRest (not sent)) b refl plain

-- ---- all that was said has been said, and what is forgotten

said_keeps : (me n : ℕ) (host : Bool) (link : ℕ) (known_fact : Fact) → is_topic me n (FactKind.LinkSuspended host link) known_fact ≡ true → not (is_admission me n known_fact) ≡ true
said_keeps me n host link known_fact e = go known_fact.fact_kind (and_parts (known_fact.at == me && known_fact.peer == n) (same_topic known_fact.fact_kind (FactKind.LinkSuspended host link)) e).1
  where
    none : (x : Bool) → not (x && false) ≡ true
    none true = refl
    none false = refl

    go : (what : FactKind) → same_topic what (FactKind.LinkSuspended host link) ≡ true → not (known_fact.at == me && known_fact.peer == n && is_admission_of what) ≡ true
    go (FactKind.LinkSuspended other on) k = none (known_fact.at == me && known_fact.peer == n)
    go (FactKind.EchoesRest other) k = absurd (cc k)
    go (FactKind.Asks other) k = absurd (cc k)
    go (FactKind.Admits other bytes) k = absurd (cc k)

-- the links that rest are as they were
pub said_links : (me n : ℕ) (b : SeenTables) (host : Bool) (link : ℕ) → is_marked me n (FactKind.LinkSuspended host link) (after_all_said me n b) ≡ is_marked me n (FactKind.LinkSuspended host link) b
said_links me n b host link = kept_facts (is_topic me n (FactKind.LinkSuspended host link)) (λ known_fact. not (is_admission me n known_fact)) b.known_facts (said_keeps me n host link)

pub plain_all_said : (me n : ℕ) (b : SeenTables) → Plain me n b → Plain me n (after_all_said me n b)
plain_all_said me n b plain = plain_conns me n b (after_all_said me n b) refl fewer plain
  where
    own_none : (link : ℕ) (due : PendingReply) → is_return me n true link due ≡ true → not (is_due_of me n true due) ≡ false
    own_none link due e = ap not (and_parts (due.at == me && due.peer == n && beq due.host true) (is_return_on link due.wanted) e).0

    fewer : (host : Bool) (link : ℕ) → Fewer me n host link b (after_all_said me n b)
    fewer true link = inl (filtered_none (is_return me n true link) (λ due. not (is_due_of me n true due)) b.pending_replies (own_none link))
    fewer false link =
        inr (
          filtered_fewer (is_return me n false link) (λ due. not (is_due_of me n true due)) b.pending_replies,
          said_links me n b true link,
        )
