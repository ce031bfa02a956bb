-- What is known of one connection, after another is changed, begun, or over: the first in the list is that of its sockets.
use Rattle.std.proofs.Common.{◌≡◌, ℕ, ◌==◌, Bool, true, false, not, ◌&&◌, if◌then◌else◌, List, [], ◌∷◌, ◌++◌, length, Option, None, Some, refl, sym, ap, ◌∙◌, subst, eq-eqb}
use Rattle.std.specs.Prelude.{nat_lt, slice_set}
use Rattle.std.specs.List.{position, remove}
use Rattle.std.proofs.lemmas.List.Quantifiers.{position-Some}
use Rattle.std.proofs.lemmas.Bool.{eqb-true, and_parts}
use Rattle.ncp_monitor.specs.declared.conn_state.ConnState.{ConnState}
use Rattle.ncp_interface.specs.declared.request.Request.{Request}
use Rattle.ncp_interface.specs.declared.request.Request.TheVariants.{Link, Size}
use Rattle.ncp_monitor.specs.ConnStates.{unasked_conn, is_of_sockets, is_conn_between, conn_at_index, conn_found, conn_of, with_cls_sent, with_request_sent, SeenTables, with_conn, tables_cleared}
use Rattle.ncp_monitor.specs.declared.conn_tables.TheConstants.{MAX_TABLE_ROWS}
use Rattle.ncp_monitor.specs.declared.observed_flow.ObservedFlow.{ObservedFlow}
use Rattle.ncp_monitor.specs.Requests.{asks, closes_side}
use Rattle.ncp_monitor.proofs.Firsts.{first, found_first, none_first, set_found, drop_found, first_after, first_set, other_following, Apart, other_set, other_drop, none_filter, Unique, none_left, unique_following, unique_drop, unique_set}

-- ---- the connection of two sockets is the first of these

pub conn_first : (at peer local remote : ℕ) (conns : List ConnState) → conn_of at peer local remote conns ≡ first (is_of_sockets at peer local remote) conns
conn_first at peer local remote conns = go (position (is_of_sockets at peer local remote) conns) refl
  where
    go : (o : Option ℕ) → position (is_of_sockets at peer local remote) conns ≡ o → conn_found conns o ≡ first (is_of_sockets at peer local remote) conns
    go None e = sym (none_first (is_of_sockets at peer local remote) conns e)
    go (Some i) e = sym (found_first (is_of_sockets at peer local remote) conns i (unasked_conn 0 0 0 0) e)

-- ---- connections of other sockets are others

-- the sockets are the same
abbrev pub same_sockets : ℕ → ℕ → ℕ → ℕ → Bool
same_sockets local remote a b = local == a && remote == b

pub record HasSockets (host other own theirs : ℕ) (conn : ConnState) : Type 0 where
  pub at : conn.at ≡ host
  pub peer : conn.peer ≡ other
  pub local : conn.local ≡ own
  pub remote : conn.remote ≡ theirs

pub has_sockets : (at peer local remote : ℕ) (conn : ConnState) → is_of_sockets at peer local remote conn ≡ true → HasSockets at peer local remote conn
has_sockets at peer local remote conn e =
    let a = and_parts (conn.at == at && conn.peer == peer && conn.local == local) (conn.remote == remote) e in
    let b = and_parts (conn.at == at && conn.peer == peer) (conn.local == local) a.0 in
    let c = and_parts (conn.at == at) (conn.peer == peer) b.0 in
    record { at = eqb-true conn.at at c.0; peer = eqb-true conn.peer peer c.1; local = eqb-true conn.local local b.1; remote = eqb-true conn.remote remote a.1 }

pub others_distinct : (at peer local remote a b : ℕ) → same_sockets local remote a b ≡ false → Apart (is_of_sockets at peer local remote) (is_of_sockets at peer a b)
others_distinct at peer local remote a b d conn e =
    let i = has_sockets at peer local remote conn e in
    ap (λ (n : ℕ). conn.at == at && conn.peer == peer && n == a && conn.remote == b) i.local
    ∙ ap (λ (n : ℕ). conn.at == at && conn.peer == peer && local == a && n == b) i.remote
    ∙ go (conn.at == at) (conn.peer == peer) (local == a) (remote == b) d
  where
    go : (p q x y : Bool) → (x && y) ≡ false → (p && q && x && y) ≡ false
    go true true true true e = absurd (cc e)
    go true true true false e = refl
    go true true false y e = refl
    go true false x y e = refl
    go false q x y e = refl

-- ---- a request

-- the one that is there, or a new one
abbrev pub or_conn : ℕ → ℕ → ℕ → ℕ → ℕ → Option ConnState → ConnState
or_conn at peer local remote number None = record (unasked_conn at peer local remote) { since = number }
or_conn at peer local remote number (Some conn) = conn

itself : (at peer local remote : ℕ) → is_of_sockets at peer local remote (unasked_conn at peer local remote) ≡ true
itself at peer local remote = rw (eq-eqb at at refl, eq-eqb peer peer refl, eq-eqb local local refl, eq-eqb remote remote refl) refl

asked_is : (at peer local remote : ℕ) (conn : ConnState) (request : Request) → is_of_sockets at peer local remote (with_request_sent conn request) ≡ is_of_sockets at peer local remote conn
asked_is at peer local remote conn (Link link) = refl
asked_is at peer local remote conn (Size size) = refl

with_room : (conn_tables : SeenTables) (conn : ConnState) → (with_conn conn_tables conn).full ≡ false → (with_conn conn_tables conn).conns ≡ conn_tables.conns ++ conn ∷ []
with_room conn_tables conn f = go (nat_lt (length conn_tables.conns) MAX_TABLE_ROWS) f
  where
    go : (b : Bool) → (if b then record conn_tables { conns = conn_tables.conns ++ conn ∷ [] } else record conn_tables { full = true }).full ≡ false
        → (if b then record conn_tables { conns = conn_tables.conns ++ conn ∷ [] } else record conn_tables { full = true }).conns ≡ conn_tables.conns ++ conn ∷ []
    go true f = refl
    go false f = absurd (cc f)

module _ (flow : ObservedFlow) (local remote : ℕ) (request : Request) (conn_tables : SeenTables) where
  abbrev its : ConnState → Bool
  its = is_of_sockets flow.at flow.peer local remote

  abbrev begun : ConnState
  begun = with_request_sent (record (unasked_conn flow.at flow.peer local remote) { since = conn_tables.number }) request

  begun_is : its begun ≡ true
  begun_is = asked_is flow.at flow.peer local remote (record (unasked_conn flow.at flow.peer local remote) { since = conn_tables.number }) request ∙ itself flow.at flow.peer local remote

  abbrev asked : ℕ → ConnState
  asked i = with_request_sent (conn_at_index conn_tables.conns i) request

  asked_its : (i : ℕ) → position its conn_tables.conns ≡ Some i → its (asked i) ≡ true
  asked_its i e = asked_is flow.at flow.peer local remote (conn_at_index conn_tables.conns i) request ∙ (position-Some its conn_tables.conns i (unasked_conn 0 0 0 0) e).1

  pub asks_at : (o : Option ℕ) → position its conn_tables.conns ≡ o → (asks flow local remote request conn_tables o).full ≡ false
      → first its (asks flow local remote request conn_tables o).conns ≡ Some (with_request_sent (or_conn flow.at flow.peer local remote conn_tables.number (conn_found conn_tables.conns o)) request)
  asks_at None e f = ap (first its) (with_room conn_tables begun f) ∙ first_after its conn_tables.conns begun (none_first its conn_tables.conns e) ∙ ap (λ (b : Bool). if b then Some begun else None) begun_is
  asks_at (Some i) e f =
      ap (first its) (set_found its (asked i) conn_tables.conns i (unasked_conn 0 0 0 0) e)
      ∙ first_set its conn_tables.conns (asked i) (conn_at_index conn_tables.conns i) (asked_its i e) (found_first its conn_tables.conns i (unasked_conn 0 0 0 0) e)

  pub asks_others : (s : ConnState → Bool) → Apart its s → (o : Option ℕ) → position its conn_tables.conns ≡ o → (asks flow local remote request conn_tables o).full ≡ false
      → first s (asks flow local remote request conn_tables o).conns ≡ first s conn_tables.conns
  asks_others s a None e f = ap (first s) (with_room conn_tables begun f) ∙ other_following s conn_tables.conns begun (a begun begun_is)
  asks_others s a (Some i) e f =
      ap (first s) (set_found its (asked i) conn_tables.conns i (unasked_conn 0 0 0 0) e) ∙ other_set its s conn_tables.conns (asked i) a (a (asked i) (asked_its i e))

  pub asks_unique : (o : Option ℕ) → position its conn_tables.conns ≡ o → (asks flow local remote request conn_tables o).full ≡ false → Unique its conn_tables.conns → Unique its (asks flow local remote request conn_tables o).conns
  asks_unique None e f u = subst (Unique its) (sym (with_room conn_tables begun f)) (unique_following its conn_tables.conns begun (λ k. none_first its conn_tables.conns e) u)
  asks_unique (Some i) e f u =
      subst (Unique its) (sym (set_found its (asked i) conn_tables.conns i (unasked_conn 0 0 0 0) e)) (unique_set its its conn_tables.conns (asked i) (λ x k. asked_its i e ∙ sym k) u)

  pub asks_unique_others : (s : ConnState → Bool) → Apart its s → (o : Option ℕ) → position its conn_tables.conns ≡ o → (asks flow local remote request conn_tables o).full ≡ false → Unique s conn_tables.conns → Unique s (asks flow local remote request conn_tables o).conns
  asks_unique_others s a None e f u =
      subst (Unique s) (sym (with_room conn_tables begun f)) (unique_following s conn_tables.conns begun (λ k. let nay : false ≡ true = sym (a begun begun_is) ∙ k in absurd (cc nay)) u)
  asks_unique_others s a (Some i) e f u =
      subst (Unique s) (sym (set_found its (asked i) conn_tables.conns i (unasked_conn 0 0 0 0) e))
      (unique_set s its conn_tables.conns (asked i) (λ x k. a (asked i) (asked_its i e) ∙ sym (a x k)) u)

-- ---- a CLS

left_is : (at peer local remote : ℕ) (conn : ConnState) (sent : Bool) → is_of_sockets at peer local remote (with_cls_sent conn sent) ≡ is_of_sockets at peer local remote conn
left_is at peer local remote conn true = refl
left_is at peer local remote conn false = refl

-- with the second it is over
abbrev pub after_left : Bool → Option ConnState → Option ConnState
after_left sent None = None
after_left sent (Some conn) = let now = with_cls_sent conn sent in if now.host_left && now.peer_left then None else Some now

module _ (flow : ObservedFlow) (local remote : ℕ) (conn_tables : SeenTables) where
  abbrev of : ConnState → Bool
  of = is_of_sockets flow.at flow.peer local remote

  abbrev closed : ℕ → ConnState
  closed i = with_cls_sent (conn_at_index conn_tables.conns i) flow.sent

  pub closed_of : (i : ℕ) → position of conn_tables.conns ≡ Some i → of (closed i) ≡ true
  closed_of i e = left_is flow.at flow.peer local remote (conn_at_index conn_tables.conns i) flow.sent ∙ (position-Some of conn_tables.conns i (unasked_conn 0 0 0 0) e).1

  pub leaves_at : (o : Option ℕ) → position of conn_tables.conns ≡ o → Unique of conn_tables.conns → first of (closes_side flow conn_tables o).conns ≡ after_left flow.sent (conn_found conn_tables.conns o)
  leaves_at None e u = none_first of conn_tables.conns e
  leaves_at (Some i) e u = go ((closed i).host_left && (closed i).peer_left)
    where
      go : (b : Bool) → first of (if b then record conn_tables { conns = remove conn_tables.conns i } else record conn_tables { conns = slice_set conn_tables.conns i (closed i) }).conns ≡ (if b then None else Some (closed i))
      go true = ap (first of) (drop_found of conn_tables.conns i (unasked_conn 0 0 0 0) e) ∙ none_left of conn_tables.conns u
      go false =
          ap (first of) (set_found of (closed i) conn_tables.conns i (unasked_conn 0 0 0 0) e)
          ∙ first_set of conn_tables.conns (closed i) (conn_at_index conn_tables.conns i) (closed_of i e) (found_first of conn_tables.conns i (unasked_conn 0 0 0 0) e)

  pub leaves_others : (s : ConnState → Bool) → Apart of s → (o : Option ℕ) → position of conn_tables.conns ≡ o → first s (closes_side flow conn_tables o).conns ≡ first s conn_tables.conns
  leaves_others s a None e = refl
  leaves_others s a (Some i) e = go ((closed i).host_left && (closed i).peer_left)
    where
      go : (b : Bool) → first s (if b then record conn_tables { conns = remove conn_tables.conns i } else record conn_tables { conns = slice_set conn_tables.conns i (closed i) }).conns ≡ first s conn_tables.conns
      go true = ap (first s) (drop_found of conn_tables.conns i (unasked_conn 0 0 0 0) e) ∙ other_drop of s conn_tables.conns a
      go false = ap (first s) (set_found of (closed i) conn_tables.conns i (unasked_conn 0 0 0 0) e) ∙ other_set of s conn_tables.conns (closed i) a (a (closed i) (closed_of i e))

  pub leaves_unique : (s : ConnState → Bool) → ((i : ℕ) → position of conn_tables.conns ≡ Some i → (x : ConnState) → of x ≡ true → s (closed i) ≡ s x) → (o : Option ℕ) → position of conn_tables.conns ≡ o → Unique s conn_tables.conns → Unique s (closes_side flow conn_tables o).conns
  leaves_unique s w None e u = u
  leaves_unique s w (Some i) e u = go ((closed i).host_left && (closed i).peer_left)
    where
      go : (b : Bool) → Unique s (if b then record conn_tables { conns = remove conn_tables.conns i } else record conn_tables { conns = slice_set conn_tables.conns i (closed i) }).conns
      go true = subst (Unique s) (sym (drop_found of conn_tables.conns i (unasked_conn 0 0 0 0) e)) (unique_drop s of conn_tables.conns u)
      go false = subst (Unique s) (sym (set_found of (closed i) conn_tables.conns i (unasked_conn 0 0 0 0) e)) (unique_set s of conn_tables.conns (closed i) (w i e) u)

-- ---- all is forgotten between two hosts

pub forgotten : (at peer local remote : ℕ) (conn_tables : SeenTables) → first (is_of_sockets at peer local remote) (tables_cleared at peer conn_tables).conns ≡ None
forgotten at peer local remote conn_tables = none_filter (is_of_sockets at peer local remote) (λ conn. not (is_conn_between at peer conn)) conn_tables.conns
    (λ conn e. ap not (and_parts (is_conn_between at peer conn) (conn.local == local) (and_parts (is_conn_between at peer conn && conn.local == local) (conn.remote == remote) e).0).0)
