-- What is seen of all connections between two hosts, after a request or a CLS that is right: one connection is another, and
-- all else is as it was.
use Rattle.std.proofs.Common.{◌≡◌, ℕ, ◌==◌, Bool, true, false, not, ◌&&◌, if◌then◌else◌, [], ◌∷◌, ◌++◌, length, Option, None, Some, eq-eqb, refl, sym, ap, ◌∙◌, subst}
use Rattle.std.specs.Prelude.{nat_lt, slice_set}
use Rattle.std.specs.List.{position, remove}
use Rattle.std.proofs.lemmas.List.Quantifiers.{position-Some}
use Rattle.std.proofs.lemmas.Bool.{eqb-true, and_parts}
use Rattle.ncp_monitor.specs.declared.conn_tables.TheConstants.{MAX_TABLE_ROWS}
use Rattle.ncp_monitor.specs.declared.conn_state.ConnState.{ConnState}
use Rattle.ncp_interface.specs.declared.request.Request.{Request}
use Rattle.ncp_interface.specs.declared.request.Request.TheVariants.{Link, Size}
use Rattle.ncp_monitor.specs.declared.conn_state.FactKind.{FactKind}
use Rattle.ncp_monitor.specs.declared.observed_flow.ObservedFlow.{ObservedFlow}
use Rattle.ncp_monitor.specs.ConnStates.{SeenTables, unasked_conn, is_of_sockets, conn_at_index, conn_found, with_cls_sent, with_request_sent, is_marked, with_conn}
use Rattle.ncp_interface.specs.Sockets.{is_senders}
use Rattle.ncp_monitor.specs.Requests.{asks, closes_side}
use Rattle.ncp_monitor.proofs.Shapes.{Shape, Say, Ask, Leave, own_step, their_step}
use Rattle.ncp_monitor.proofs.LinkOrder.{Sockets, same, same_is, put}
use Rattle.ncp_monitor.proofs.Firsts.{first, Unique}
use Rattle.ncp_monitor.proofs.BooksAt.{same_sockets, others_distinct, has_sockets, or_conn, conn_first, asks_at, asks_others, asks_unique, asks_unique_others, after_left, closed_of, leaves_at, leaves_others, leaves_unique}
use Rattle.ncp_monitor.proofs.Seeing.{of_conn, seen, is_of, number_in, own_asked, their_asked, own_left, their_left}

abbrev pub conn_seen : ℕ → ℕ → SeenTables → Sockets → Option ConnState
conn_seen me n conn_tables u = first (is_of_sockets me n u.0 u.1) conn_tables.conns

-- what is seen of each connection, and which rest
abbrev pub seen_of : ℕ → ℕ → SeenTables → Sockets → Option Shape
seen_of me n conn_tables u = seen (conn_seen me n conn_tables u)

abbrev pub is_suspended : Option ConnState → Bool
is_suspended None = false
is_suspended (Some conn) = conn.suspended

abbrev pub suspended_of : ℕ → ℕ → SeenTables → Sockets → Bool
suspended_of me n conn_tables u = is_suspended (conn_seen me n conn_tables u)

-- the links of the host's receivers that rest
abbrev pub links_of : ℕ → ℕ → SeenTables → ℕ → Bool
links_of me n conn_tables link = is_marked me n (FactKind.LinkSuspended true link) conn_tables

abbrev pub receives_at : Sockets → Bool
receives_at u = not (is_senders u.0)

-- ---- one connection is another

-- what is said by the one, or by the other
abbrev pub step : Bool → Say → Option Shape → Option Shape
step true c m = own_step c m
step false c m = their_step c m

pub record OneSeen (me n : ℕ) (before after : SeenTables) (p : Sockets) (s : Option Shape) : Type 0 where
  pub seen : (u : Sockets) → seen_of me n after u ≡ put (seen_of me n before) p s u
  pub others : (u : Sockets) → same u p ≡ false → conn_seen me n after u ≡ conn_seen me n before u
  pub calm : suspended_of me n before p ≡ false → suspended_of me n after p ≡ false
  pub unique : ((u : Sockets) → Unique (is_of_sockets me n u.0 u.1) before.conns) → (u : Sockets) → Unique (is_of_sockets me n u.0 u.1) after.conns
  pub known_facts : after.known_facts ≡ before.known_facts
  pub pending_replies : after.pending_replies ≡ before.pending_replies

pub others_are : (u p : Sockets) → same u p ≡ false → same_sockets p.0 p.1 u.0 u.1 ≡ false
others_are u p d = go (same_sockets p.0 p.1 u.0 u.1) refl
  where
    go : (b : Bool) → same_sockets p.0 p.1 u.0 u.1 ≡ b → same_sockets p.0 p.1 u.0 u.1 ≡ false
    go false e = e
    go true e =
        let parts = and_parts (p.0 == u.0) (p.1 == u.1) e in
        let a = eq-eqb u.0 p.0 (sym (eqb-true p.0 u.0 parts.0)) in
        let b = eq-eqb u.1 p.1 (sym (eqb-true p.1 u.1 parts.1)) in
        let nay : true ≡ false = sym (ap (λ (x : Bool). x && (u.1 == p.1)) a ∙ b) ∙ d in absurd (cc nay)

-- a connection that is not suspended afterwards was not suspended before
pub rested_before : (me n : ℕ) (before after : SeenTables) (p : Sockets) (s : Option Shape) → OneSeen me n before after p s → suspended_of me n before p ≡ false → (u : Sockets) → suspended_of me n after u ≡ false → suspended_of me n before u ≡ false
rested_before me n before after p s one r u z = go (same u p) refl
  where
    go : (b : Bool) → same u p ≡ b → suspended_of me n before u ≡ false
    go true e = ap (suspended_of me n before) (same_is u p e) ∙ r
    go false e = ap is_suspended (sym (one.others u e)) ∙ z

-- ---- a request

no_number : (b : Bool) → ◌≡◌ {A = Option ℕ} (if b then None else None) None
no_number true = refl
no_number false = refl

own_new : (at peer local remote number k : ℕ) → own_step (Ask k) (Some (of_conn (record (unasked_conn at peer local remote) { since = number }))) ≡ own_step (Ask k) None
own_new at peer local remote number k = ap (λ (x : Option ℕ). Some (record { own = Some k; others = x; left = false; cls = false })) (no_number (is_senders local))

their_new : (at peer local remote number k : ℕ) → their_step (Ask k) (Some (of_conn (record (unasked_conn at peer local remote) { since = number }))) ≡ their_step (Ask k) None
their_new at peer local remote number k = ap (λ (x : Option ℕ). Some (record { own = x; others = Some k; left = false; cls = false })) (no_number (is_senders local))

request_seen : (sent : Bool) (at peer local remote number : ℕ) (request : Request) (o : Option ConnState) → is_of (is_senders local) sent request ≡ true → ((conn : ConnState) → o ≡ Some conn → conn.local ≡ local)
    → seen (Some (with_request_sent (or_conn at peer local remote number o) request)) ≡ step sent (Ask (number_in request)) (seen o)
request_seen true at peer local remote number request None k l = own_asked (record (unasked_conn at peer local remote) { since = number }) request k ∙ own_new at peer local remote number (number_in request)
request_seen true at peer local remote number request (Some conn) k l = own_asked conn request (ap (λ (x : ℕ). is_of (is_senders x) true request) (l conn refl) ∙ k)
request_seen false at peer local remote number request None k l = their_asked (record (unasked_conn at peer local remote) { since = number }) request k ∙ their_new at peer local remote number (number_in request)
request_seen false at peer local remote number request (Some conn) k l = their_asked conn request (ap (λ (x : ℕ). is_of (is_senders x) false request) (l conn refl) ∙ k)

asked_suspended : (conn : ConnState) (request : Request) → (with_request_sent conn request).suspended ≡ conn.suspended
asked_suspended conn (Link link) = refl
asked_suspended conn (Size size) = refl

or_suspended : (at peer local remote number : ℕ) (o : Option ConnState) → is_suspended o ≡ false → (or_conn at peer local remote number o).suspended ≡ false
or_suspended at peer local remote number None r = refl
or_suspended at peer local remote number (Some conn) r = r

left_suspended : (sent : Bool) (o : Option ConnState) → is_suspended o ≡ false → is_suspended (after_left sent o) ≡ false
left_suspended sent None r = refl
left_suspended true (Some conn) r = go conn.peer_left
  where
    go : (b : Bool) → is_suspended (if true && b then None else Some (record conn { host_left = true })) ≡ false
    go true = refl
    go false = r
left_suspended false (Some conn) r = go conn.host_left
  where
    go : (b : Bool) → is_suspended (if b && true then None else Some (record conn { peer_left = true })) ≡ false
    go true = refl
    go false = r

room_facts : (conn_tables : SeenTables) (conn : ConnState) → (with_conn conn_tables conn).known_facts ≡ conn_tables.known_facts
room_facts conn_tables conn = go (nat_lt (length conn_tables.conns) MAX_TABLE_ROWS)
  where
    go : (b : Bool) → (if b then record conn_tables { conns = conn_tables.conns ++ conn ∷ [] } else record conn_tables { full = true }).known_facts ≡ conn_tables.known_facts
    go true = refl
    go false = refl

room_pending : (conn_tables : SeenTables) (conn : ConnState) → (with_conn conn_tables conn).pending_replies ≡ conn_tables.pending_replies
room_pending conn_tables conn = go (nat_lt (length conn_tables.conns) MAX_TABLE_ROWS)
  where
    go : (b : Bool) → (if b then record conn_tables { conns = conn_tables.conns ++ conn ∷ [] } else record conn_tables { full = true }).pending_replies ≡ conn_tables.pending_replies
    go true = refl
    go false = refl

module _ (me n : ℕ) (sent : Bool) (p : Sockets) (conn_tables : SeenTables) where
  abbrev flow : ObservedFlow
  flow = record { at = me; peer = n; sent = sent }

  abbrev its : ConnState → Bool
  its = is_of_sockets me n p.0 p.1

  abbrev place : Option ℕ
  place = position its conn_tables.conns

  found : conn_found conn_tables.conns place ≡ first its conn_tables.conns
  found = conn_first me n p.0 p.1 conn_tables.conns

  found_local : (conn : ConnState) → conn_found conn_tables.conns place ≡ Some conn → conn.local ≡ p.0
  found_local conn e = go place refl e
    where
      go : (o : Option ℕ) → place ≡ o → conn_found conn_tables.conns o ≡ Some conn → conn.local ≡ p.0
      go None k e = absurd (cc e)
      go (Some i) k e =
          let there : conn_at_index conn_tables.conns i ≡ conn = cc e in
          ap (λ (x : ConnState). x.local) (sym there) ∙ (has_sockets me n p.0 p.1 (conn_at_index conn_tables.conns i) (position-Some its conn_tables.conns i (unasked_conn 0 0 0 0) k).1).local

  -- at the connection, and at each other
  by_index : (f : Sockets → Option Shape) (s : Option Shape) (u : Sockets) (now : Option Shape) → (u ≡ p → now ≡ s) → (same u p ≡ false → now ≡ f u) → now ≡ put f p s u
  by_index f s u now here elsewhere = go (same u p) refl
    where
      go : (b : Bool) → same u p ≡ b → now ≡ (if b then s else f u)
      go true e = here (same_is u p e)
      go false e = elsewhere e

  pub asked_seen : (request : Request) → is_of (is_senders p.0) sent request ≡ true → (asks flow p.0 p.1 request conn_tables place).full ≡ false
      → OneSeen me n conn_tables (asks flow p.0 p.1 request conn_tables place) p (step sent (Ask (number_in request)) (seen_of me n conn_tables p))
  asked_seen request k room = record {
    seen = λ u. by_index (seen_of me n conn_tables) (step sent (Ask (number_in request)) (seen_of me n conn_tables p)) u (seen_of me n after u)
        (λ e. ap (seen_of me n after) e ∙ here) (λ d. ap seen (there u d));
    others = there;
    calm = λ r. ap is_suspended at_it ∙ asked_suspended (or_conn me n p.0 p.1 conn_tables.number (conn_found conn_tables.conns place)) request ∙ or_suspended me n p.0 p.1 conn_tables.number (conn_found conn_tables.conns place) (ap is_suspended found ∙ r);
    unique = λ k u. uniques u (same u p) refl (k u);
    known_facts = unmarked place;
    pending_replies = undue place;
  }
    where
      after : SeenTables
      after = asks flow p.0 p.1 request conn_tables place

      at_it : first its after.conns ≡ Some (with_request_sent (or_conn me n p.0 p.1 conn_tables.number (conn_found conn_tables.conns place)) request)
      at_it = asks_at flow p.0 p.1 request conn_tables place refl room

      here : seen_of me n after p ≡ step sent (Ask (number_in request)) (seen_of me n conn_tables p)
      here = ap seen at_it ∙ request_seen sent me n p.0 p.1 conn_tables.number request (conn_found conn_tables.conns place) k found_local ∙ ap (λ (o : Option ConnState). step sent (Ask (number_in request)) (seen o)) found

      there : (u : Sockets) → same u p ≡ false → conn_seen me n after u ≡ conn_seen me n conn_tables u
      there u d = asks_others flow p.0 p.1 request conn_tables (is_of_sockets me n u.0 u.1) (others_distinct me n p.0 p.1 u.0 u.1 (others_are u p d)) place refl room

      uniques : (u : Sockets) (b : Bool) → same u p ≡ b → Unique (is_of_sockets me n u.0 u.1) conn_tables.conns → Unique (is_of_sockets me n u.0 u.1) after.conns
      uniques u true s k =
          subst (λ (y : Sockets). Unique (is_of_sockets me n y.0 y.1) after.conns) (sym (same_is u p s))
          (asks_unique flow p.0 p.1 request conn_tables place refl room (subst (λ (y : Sockets). Unique (is_of_sockets me n y.0 y.1) conn_tables.conns) (same_is u p s) k))
      uniques u false s k = asks_unique_others flow p.0 p.1 request conn_tables (is_of_sockets me n u.0 u.1) (others_distinct me n p.0 p.1 u.0 u.1 (others_are u p s)) place refl room k

      unmarked : (o : Option ℕ) → (asks flow p.0 p.1 request conn_tables o).known_facts ≡ conn_tables.known_facts
      unmarked None = room_facts conn_tables (with_request_sent (record (unasked_conn me n p.0 p.1) { since = conn_tables.number }) request)
      unmarked (Some i) = refl

      undue : (o : Option ℕ) → (asks flow p.0 p.1 request conn_tables o).pending_replies ≡ conn_tables.pending_replies
      undue None = room_pending conn_tables (with_request_sent (record (unasked_conn me n p.0 p.1) { since = conn_tables.number }) request)
      undue (Some i) = refl

  -- ---- a CLS

  left_seen : (o : Option ConnState) → seen (after_left sent o) ≡ step sent Leave (seen o)
  left_seen o = go sent o
    where
      go : (b : Bool) (o : Option ConnState) → seen (after_left b o) ≡ step b Leave (seen o)
      go true None = refl
      go true (Some conn) = own_left conn
      go false None = refl
      go false (Some conn) = their_left conn

  pub closed_seen : Unique its conn_tables.conns → OneSeen me n conn_tables (closes_side flow conn_tables place) p (step sent Leave (seen_of me n conn_tables p))
  closed_seen unique = record {
    seen = λ u. by_index (seen_of me n conn_tables) (step sent Leave (seen_of me n conn_tables p)) u (seen_of me n after u) (λ e. ap (seen_of me n after) e ∙ here) (λ d. ap seen (there u d));
    others = there;
    calm = λ r. ap is_suspended (leaves_at flow p.0 p.1 conn_tables place refl unique) ∙ left_suspended sent (conn_found conn_tables.conns place) (ap is_suspended found ∙ r);
    unique = λ k u. leaves_unique flow p.0 p.1 conn_tables (is_of_sockets me n u.0 u.1) (λ i e x z. passes_same u (same u p) refl i e x z) place refl (k u);
    known_facts = unmarked place;
    pending_replies = undue place;
  }
    where
      passes_same : (u : Sockets) (b : Bool) → same u p ≡ b → (i : ℕ) → place ≡ Some i → (x : ConnState) → its x ≡ true → is_of_sockets me n u.0 u.1 (with_cls_sent (conn_at_index conn_tables.conns i) sent) ≡ is_of_sockets me n u.0 u.1 x
      passes_same u true s i e x z = ap (λ (y : Sockets). is_of_sockets me n y.0 y.1 (with_cls_sent (conn_at_index conn_tables.conns i) sent)) (same_is u p s) ∙ closed_of flow p.0 p.1 conn_tables i e ∙ sym (ap (λ (y : Sockets). is_of_sockets me n y.0 y.1 x) (same_is u p s) ∙ z)
      passes_same u false s i e x z =
          let a = others_distinct me n p.0 p.1 u.0 u.1 (others_are u p s) in
          a (with_cls_sent (conn_at_index conn_tables.conns i) sent) (closed_of flow p.0 p.1 conn_tables i e) ∙ sym (a x z)

      after : SeenTables
      after = closes_side flow conn_tables place

      here : seen_of me n after p ≡ step sent Leave (seen_of me n conn_tables p)
      here = ap seen (leaves_at flow p.0 p.1 conn_tables place refl unique) ∙ left_seen (conn_found conn_tables.conns place) ∙ ap (λ (o : Option ConnState). step sent Leave (seen o)) found

      there : (u : Sockets) → same u p ≡ false → conn_seen me n after u ≡ conn_seen me n conn_tables u
      there u d = leaves_others flow p.0 p.1 conn_tables (is_of_sockets me n u.0 u.1) (others_distinct me n p.0 p.1 u.0 u.1 (others_are u p d)) place refl

      unmarked : (o : Option ℕ) → (closes_side flow conn_tables o).known_facts ≡ conn_tables.known_facts
      unmarked None = refl
      unmarked (Some i) = go ((with_cls_sent (conn_at_index conn_tables.conns i) sent).host_left && (with_cls_sent (conn_at_index conn_tables.conns i) sent).peer_left)
        where
          go : (b : Bool) → (if b then record conn_tables { conns = remove conn_tables.conns i } else record conn_tables { conns = slice_set conn_tables.conns i (with_cls_sent (conn_at_index conn_tables.conns i) sent) }).known_facts ≡ conn_tables.known_facts
          go true = refl
          go false = refl

      undue : (o : Option ℕ) → (closes_side flow conn_tables o).pending_replies ≡ conn_tables.pending_replies
      undue None = refl
      undue (Some i) = go ((with_cls_sent (conn_at_index conn_tables.conns i) sent).host_left && (with_cls_sent (conn_at_index conn_tables.conns i) sent).peer_left)
        where
          go : (b : Bool) → (if b then record conn_tables { conns = remove conn_tables.conns i } else record conn_tables { conns = slice_set conn_tables.conns i (with_cls_sent (conn_at_index conn_tables.conns i) sent) }).pending_replies ≡ conn_tables.pending_replies
          go true = refl
          go false = refl
