-- What is seen of all connections between two hosts, after one of them, or a link, comes to rest: all that does not rest is
-- as it was.
use Rattle.std.proofs.Common.{◌≡◌, ℕ, ◌==◌, Bool, true, false, not, ◌&&◌, ◌||◌, if◌then◌else◌, List, [], ◌∷◌, ◌++◌, length, Option, None, Some, eq-eqb, refl, sym, ap, ◌∙◌, subst}
use Rattle.std.specs.Prelude.{nat_lt, slice_set}
use Rattle.std.specs.List.{position, list_any, filter}
use Rattle.std.proofs.Math.Bool.{beq}
use Rattle.std.proofs.lemmas.List.Quantifiers.{position-Some}
use Rattle.ncp_monitor.specs.declared.conn_tables.TheConstants.{MAX_TABLE_ROWS}
use Rattle.ncp_monitor.specs.declared.pending_reply.PendingReply.{PendingReply}
use Rattle.ncp_monitor.specs.declared.conn_state.ConnState.{ConnState}
use Rattle.ncp_monitor.specs.declared.conn_state.Fact.{Fact}
use Rattle.ncp_monitor.specs.declared.conn_state.FactKind.{FactKind}
use Rattle.ncp_monitor.specs.ConnStates.{SeenTables, unasked_conn, is_of_sockets, conn_at_index, same_bytes, same_topic, is_topic, is_return, is_marked, with_conn, with_due, facts_now, link_suspended_now, suspended_pair}
use Rattle.ncp_interface.specs.Sockets.{is_senders}
use Rattle.ncp_monitor.proofs.LinkOrder.{Sockets, same, same_is}
use Rattle.ncp_monitor.proofs.Firsts.{first, set_first, set_found, first_set, first_after, found_first, none_first, other_following, other_set, Apart, Unique, unique_following, unique_set}
use Rattle.ncp_monitor.proofs.BooksAt.{others_distinct, has_sockets}
use Rattle.ncp_proof_monitor_allocation.proofs.SeenTables.{conn_seen, is_suspended, suspended_of, receives_at, others_are}
use Rattle.ncp_proof_monitor_allocation.proofs.Users.{Linked}

-- ---- one mark more

pub any_after : {A : Type 0} (t : A → Bool) (xs : List A) (y : A) → list_any t (xs ++ y ∷ []) ≡ (list_any t xs || t y)
any_after t [] y = go (t y)
  where
    go : (b : Bool) → (b || false) ≡ b
    go true = refl
    go false = refl
any_after t (x ∷ xs) y = go (t x) (any_after t xs y)
  where
    go : (b : Bool) → list_any t (xs ++ y ∷ []) ≡ (list_any t xs || t y) → (b || list_any t (xs ++ y ∷ [])) ≡ ((b || list_any t xs) || t y)
    go true e = refl
    go false e = e

both_itself : (b : Bool) → beq b b ≡ true
both_itself true = refl
both_itself false = refl

bytes_itself : (bytes : List ℕ) → same_bytes bytes bytes ≡ true
bytes_itself [] = refl
bytes_itself (byte ∷ bytes) = ap (λ (b : Bool). b && same_bytes bytes bytes) (eq-eqb byte byte refl) ∙ bytes_itself bytes

same_itself : (what : FactKind) → same_topic what what ≡ true
same_itself (FactKind.LinkSuspended host link) = ap (λ (b : Bool). b && (link == link)) (both_itself host) ∙ eq-eqb link link refl
same_itself (FactKind.Admits host bytes) = ap (λ (b : Bool). b && same_bytes bytes bytes) (both_itself host) ∙ bytes_itself bytes
same_itself (FactKind.EchoesRest true) = refl
same_itself (FactKind.EchoesRest false) = refl
same_itself (FactKind.Asks true) = refl
same_itself (FactKind.Asks false) = refl

module _ (me n : ℕ) (what : FactKind) (conn_tables : SeenTables) where
  abbrev one : Fact
  one = record { at = me; peer = n; fact_kind = what }

  abbrev marked_with : Bool → Bool → SeenTables
  marked_with known room = if known then conn_tables else if room then record conn_tables { known_facts = conn_tables.known_facts ++ one ∷ [] } else record conn_tables { full = true }

  abbrev its_room : Bool
  its_room = nat_lt (length conn_tables.known_facts) MAX_TABLE_ROWS

  pub fact_conns : (facts_now me n what conn_tables).conns ≡ conn_tables.conns
  fact_conns = go (is_marked me n what conn_tables) its_room
    where
      go : (k r : Bool) → (marked_with k r).conns ≡ conn_tables.conns
      go true r = refl
      go false true = refl
      go false false = refl

  pub fact_pending : (facts_now me n what conn_tables).pending_replies ≡ conn_tables.pending_replies
  fact_pending = go (is_marked me n what conn_tables) its_room
    where
      go : (k r : Bool) → (marked_with k r).pending_replies ≡ conn_tables.pending_replies
      go true r = refl
      go false true = refl
      go false false = refl

  pub fact_room : (facts_now me n what conn_tables).full ≡ false → conn_tables.full ≡ false
  fact_room = go (is_marked me n what conn_tables) its_room
    where
      go : (k r : Bool) → (marked_with k r).full ≡ false → conn_tables.full ≡ false
      go true r f = f
      go false true f = f
      go false false f = absurd (cc f)

  pub fact_keeps : (other : FactKind) → is_marked me n other conn_tables ≡ true → is_marked me n other (facts_now me n what conn_tables) ≡ true
  fact_keeps other m = go (is_marked me n what conn_tables) its_room
    where
      go : (k r : Bool) → is_marked me n other (marked_with k r) ≡ true
      go true r = m
      go false true = any_after (is_topic me n other) conn_tables.known_facts one ∙ ap (λ (b : Bool). b || is_topic me n other one) m
      go false false = m

  pub fact_made : (facts_now me n what conn_tables).full ≡ false → is_marked me n what (facts_now me n what conn_tables) ≡ true
  fact_made = go (is_marked me n what conn_tables) its_room refl
    where
      its : is_topic me n what one ≡ true
      its = ap (λ (b : Bool). b && (n == n) && same_topic what what) (eq-eqb me me refl) ∙ ap (λ (b : Bool). true && b && same_topic what what) (eq-eqb n n refl) ∙ same_itself what

      or_true : (b : Bool) → (b || true) ≡ true
      or_true true = refl
      or_true false = refl

      go : (k r : Bool) → is_marked me n what conn_tables ≡ k → (marked_with k r).full ≡ false → is_marked me n what (marked_with k r) ≡ true
      go true r m f = m
      go false true m f = any_after (is_topic me n what) conn_tables.known_facts one ∙ ap (λ (b : Bool). list_any (is_topic me n what) conn_tables.known_facts || b) its ∙ or_true (list_any (is_topic me n what) conn_tables.known_facts)
      go false false m f = absurd (cc f)

-- ---- one due more

pub due_with : (conn_tables : SeenTables) (due : PendingReply) → (with_due conn_tables due).full ≡ false → ((with_due conn_tables due).pending_replies ≡ conn_tables.pending_replies ++ due ∷ []) × (((with_due conn_tables due).conns ≡ conn_tables.conns) × ((with_due conn_tables due).known_facts ≡ conn_tables.known_facts))
due_with conn_tables due f = go (nat_lt (length conn_tables.pending_replies) MAX_TABLE_ROWS) f
  where
    now : Bool → SeenTables
    now b = if b then record conn_tables { pending_replies = conn_tables.pending_replies ++ due ∷ [] } else record conn_tables { full = true }

    go : (b : Bool) → (now b).full ≡ false → ((now b).pending_replies ≡ conn_tables.pending_replies ++ due ∷ []) × (((now b).conns ≡ conn_tables.conns) × ((now b).known_facts ≡ conn_tables.known_facts))
    go true f = (refl, (refl, refl))
    go false f = absurd (cc f)

pub due_room : (conn_tables : SeenTables) (due : PendingReply) → (with_due conn_tables due).full ≡ false → conn_tables.full ≡ false
due_room conn_tables due f = go (nat_lt (length conn_tables.pending_replies) MAX_TABLE_ROWS) f
  where
    go : (b : Bool) → (if b then record conn_tables { pending_replies = conn_tables.pending_replies ++ due ∷ [] } else record conn_tables { full = true }).full ≡ false → conn_tables.full ≡ false
    go true f = f
    go false f = absurd (cc f)

-- ---- one connection is suspended

pub record OneSuspended (me n : ℕ) (before after : SeenTables) (p : Sockets) : Type 0 where
  pub room : before.full ≡ false
  pub seen : (u : Sockets) → same u p ≡ false → conn_seen me n after u ≡ conn_seen me n before u
  pub suspended : suspended_of me n after p ≡ true
  pub known_facts : (what : FactKind) → is_marked me n what before ≡ true → is_marked me n what after ≡ true
  pub unique : (u : Sockets) → Unique (is_of_sockets me n u.0 u.1) before.conns → Unique (is_of_sockets me n u.0 u.1) after.conns

module _ (me n : ℕ) (p : Sockets) (conn_tables : SeenTables) where
  abbrev its : ConnState → Bool
  its = is_of_sockets me n p.0 p.1

  abbrev begun : ConnState
  begun = record (unasked_conn me n p.0 p.1) { suspended = true }

  begun_is : its begun ≡ true
  begun_is =
      ap (λ (b : Bool). b && (n == n) && (p.0 == p.0) && (p.1 == p.1)) (eq-eqb me me refl)
      ∙ ap (λ (b : Bool). true && b && (p.0 == p.0) && (p.1 == p.1)) (eq-eqb n n refl)
      ∙ ap (λ (b : Bool). true && true && b && (p.1 == p.1)) (eq-eqb p.0 p.0 refl)
      ∙ eq-eqb p.1 p.1 refl

  abbrev now : ℕ → ConnState
  now i = record (conn_at_index conn_tables.conns i) { suspended = true }

  abbrev put_there : ℕ → SeenTables
  put_there i = record conn_tables { conns = slice_set conn_tables.conns i (now i) }

  now_is : (i : ℕ) → position its conn_tables.conns ≡ Some i → its (now i) ≡ true
  now_is i e = (position-Some its conn_tables.conns i (unasked_conn 0 0 0 0) e).1

  apart : (u : Sockets) → same u p ≡ false → Apart its (is_of_sockets me n u.0 u.1)
  apart u d = others_distinct me n p.0 p.1 u.0 u.1 (others_are u p d)

  there : (i : ℕ) → position its conn_tables.conns ≡ Some i → slice_set conn_tables.conns i (now i) ≡ set_first its (now i) conn_tables.conns
  there i e = set_found its (now i) conn_tables.conns i (unasked_conn 0 0 0 0) e

  pub put_seen : (i : ℕ) → position its conn_tables.conns ≡ Some i → conn_seen me n (put_there i) p ≡ Some (now i)
  put_seen i e = ap (first its) (there i e) ∙ first_set its conn_tables.conns (now i) (conn_at_index conn_tables.conns i) (now_is i e) (found_first its conn_tables.conns i (unasked_conn 0 0 0 0) e)

  pub put_suspended : (i : ℕ) → position its conn_tables.conns ≡ Some i → conn_tables.full ≡ false → OneSuspended me n conn_tables (put_there i) p
  put_suspended i e f = record {
    room = f;
    seen = λ u d. ap (first (is_of_sockets me n u.0 u.1)) (there i e) ∙ other_set its (is_of_sockets me n u.0 u.1) conn_tables.conns (now i) (apart u d) (apart u d (now i) (now_is i e));
    suspended = ap is_suspended (put_seen i e);
    known_facts = λ what m. m;
    unique = λ u k. subst (Unique (is_of_sockets me n u.0 u.1)) (sym (there i e)) (unique_set (is_of_sockets me n u.0 u.1) its conn_tables.conns (now i) (λ x z. passes_same u (same u p) refl x z) k);
  }
    where
      passes_same : (u : Sockets) (b : Bool) → same u p ≡ b → (x : ConnState) → its x ≡ true → is_of_sockets me n u.0 u.1 (now i) ≡ is_of_sockets me n u.0 u.1 x
      passes_same u true s x z = ap (λ (y : Sockets). is_of_sockets me n y.0 y.1 (now i)) (same_is u p s) ∙ now_is i e ∙ sym (ap (λ (y : Sockets). is_of_sockets me n y.0 y.1 x) (same_is u p s) ∙ z)
      passes_same u false s x z = apart u s (now i) (now_is i e) ∙ sym (apart u s x z)

  pub begun_seen : position its conn_tables.conns ≡ None → (with_conn conn_tables begun).full ≡ false → conn_seen me n (with_conn conn_tables begun) p ≡ Some begun
  begun_seen e f = go (nat_lt (length conn_tables.conns) MAX_TABLE_ROWS) f
    where
      go : (b : Bool) → (if b then record conn_tables { conns = conn_tables.conns ++ begun ∷ [] } else record conn_tables { full = true }).full ≡ false
          → conn_seen me n (if b then record conn_tables { conns = conn_tables.conns ++ begun ∷ [] } else record conn_tables { full = true }) p ≡ Some begun
      go false f = absurd (cc f)
      go true f = first_after its conn_tables.conns begun (none_first its conn_tables.conns e) ∙ ap (λ (b : Bool). if b then Some begun else None) begun_is

  pub begun_suspended : position its conn_tables.conns ≡ None → (with_conn conn_tables begun).full ≡ false → OneSuspended me n conn_tables (with_conn conn_tables begun) p
  begun_suspended e f = go (nat_lt (length conn_tables.conns) MAX_TABLE_ROWS) f
    where
      go : (b : Bool) → (if b then record conn_tables { conns = conn_tables.conns ++ begun ∷ [] } else record conn_tables { full = true }).full ≡ false
          → OneSuspended me n conn_tables (if b then record conn_tables { conns = conn_tables.conns ++ begun ∷ [] } else record conn_tables { full = true }) p
      go false f = absurd (cc f)
      go true f = record {
        room = f;
        seen = λ u d. other_following (is_of_sockets me n u.0 u.1) conn_tables.conns begun (apart u d begun begun_is);
        suspended = ap is_suspended (first_after its conn_tables.conns begun (none_first its conn_tables.conns e) ∙ ap (λ (b : Bool). if b then Some begun else None) begun_is);
        known_facts = λ what m. m;
        unique = λ u k. unique_following (is_of_sockets me n u.0 u.1) conn_tables.conns begun (λ z. none u (same u p) refl z) k;
      }
        where
          none : (u : Sockets) (b : Bool) → same u p ≡ b → is_of_sockets me n u.0 u.1 begun ≡ true → first (is_of_sockets me n u.0 u.1) conn_tables.conns ≡ None
          none u true s z = ap (λ (y : Sockets). first (is_of_sockets me n y.0 y.1) conn_tables.conns) (same_is u p s) ∙ none_first its conn_tables.conns e
          none u false s z = let nay : false ≡ true = sym (apart u s begun begun_is) ∙ z in absurd (cc nay)

-- a mark more keeps what is seen
pub fact_suspended : (me n : ℕ) (what : FactKind) (before mid : SeenTables) (p : Sockets) → OneSuspended me n before mid p → OneSuspended me n before (facts_now me n what mid) p
fact_suspended me n what before mid p k = record {
  room = k.room;
  seen = λ u d. ap (first (is_of_sockets me n u.0 u.1)) (fact_conns me n what mid) ∙ k.seen u d;
  suspended = ap (λ (xs : List ConnState). is_suspended (first (is_of_sockets me n p.0 p.1) xs)) (fact_conns me n what mid) ∙ k.suspended;
  known_facts = λ other m. fact_keeps me n what mid other (k.known_facts other m);
  unique = λ u h. subst (Unique (is_of_sockets me n u.0 u.1)) (sym (fact_conns me n what mid)) (k.unique u h);
}

-- a link more keeps what is seen
pub link_suspended_too : (me n : ℕ) (host : Bool) (link : ℕ) (before mid : SeenTables) (p : Sockets) → OneSuspended me n before mid p → OneSuspended me n before (link_suspended_now me n host link mid) p
link_suspended_too me n host link before mid p k =
    let marked = fact_suspended me n (FactKind.LinkSuspended host link) before mid p k in
    record { room = marked.room; seen = marked.seen; suspended = marked.suspended; known_facts = marked.known_facts; unique = marked.unique }

pub pair_suspended : (me n : ℕ) (p : Sockets) (conn_tables : SeenTables) → (suspended_pair me n p.0 p.1 conn_tables).full ≡ false → OneSuspended me n conn_tables (suspended_pair me n p.0 p.1 conn_tables) p
pair_suspended me n p conn_tables f = go (position (is_of_sockets me n p.0 p.1) conn_tables.conns) refl f
  where
    link_rested : ℕ → Option ℕ → SeenTables
    link_rested i None = put_there me n p conn_tables i
    link_rested i (Some link) = link_suspended_now me n (not (is_senders (conn_at_index conn_tables.conns i).local)) link (put_there me n p conn_tables i)

    by_link : (i : ℕ) (o : Option ℕ) → position (is_of_sockets me n p.0 p.1) conn_tables.conns ≡ Some i → (link_rested i o).full ≡ false → OneSuspended me n conn_tables (link_rested i o) p
    by_link i None e f = put_suspended me n p conn_tables i e f
    by_link i (Some link) e f =
        link_suspended_too me n (not (is_senders (conn_at_index conn_tables.conns i).local)) link conn_tables (put_there me n p conn_tables i) p
        (put_suspended me n p conn_tables i e (fact_room me n (FactKind.LinkSuspended (not (is_senders (conn_at_index conn_tables.conns i).local)) link) (put_there me n p conn_tables i) f))

    rested : Option ℕ → SeenTables
    rested None = with_conn conn_tables (record (unasked_conn me n p.0 p.1) { suspended = true })
    rested (Some i) = link_rested i (conn_at_index conn_tables.conns i).link

    go : (o : Option ℕ) → position (is_of_sockets me n p.0 p.1) conn_tables.conns ≡ o → (rested o).full ≡ false → OneSuspended me n conn_tables (rested o) p
    go None e f = begun_suspended me n p conn_tables e f
    go (Some i) e f = by_link i (conn_at_index conn_tables.conns i).link e f

-- the link of a connection that becomes suspended is suspended with it
pub pair_linked : (me n : ℕ) (p : Sockets) (conn_tables : SeenTables) → (suspended_pair me n p.0 p.1 conn_tables).full ≡ false → Linked me n conn_tables → Linked me n (suspended_pair me n p.0 p.1 conn_tables)
pair_linked me n p conn_tables f linked = go (position (is_of_sockets me n p.0 p.1) conn_tables.conns) refl f
  where
    link_rested : ℕ → Option ℕ → SeenTables
    link_rested i None = put_there me n p conn_tables i
    link_rested i (Some link) = link_suspended_now me n (not (is_senders (conn_at_index conn_tables.conns i).local)) link (put_there me n p conn_tables i)

    rested : Option ℕ → SeenTables
    rested None = with_conn conn_tables (record (unasked_conn me n p.0 p.1) { suspended = true })
    rested (Some i) = link_rested i (conn_at_index conn_tables.conns i).link

    -- at another connection, as before
    other : (after : SeenTables) → OneSuspended me n conn_tables after p → (u : Sockets) (conn : ConnState) (link : ℕ) → same u p ≡ false → conn_seen me n after u ≡ Some conn → conn.suspended ≡ true → conn.link ≡ Some link → is_marked me n (FactKind.LinkSuspended (receives_at u) link) after ≡ true
    other after k u conn link d e r l = k.known_facts (FactKind.LinkSuspended (receives_at u) link) (linked u conn link (sym (k.seen u d) ∙ e) r l)

    by_sockets : (after : SeenTables) → OneSuspended me n conn_tables after p → ((conn : ConnState) (link : ℕ) → conn_seen me n after p ≡ Some conn → conn.link ≡ Some link → is_marked me n (FactKind.LinkSuspended (receives_at p) link) after ≡ true) → Linked me n after
    by_sockets after k here u conn link e r l = by (same u p) refl
      where
        by : (b : Bool) → same u p ≡ b → is_marked me n (FactKind.LinkSuspended (receives_at u) link) after ≡ true
        by true s = ap (λ (y : Sockets). is_marked me n (FactKind.LinkSuspended (receives_at y) link) after) (same_is u p s) ∙ here conn link (ap (conn_seen me n after) (sym (same_is u p s)) ∙ e) l
        by false s = other after k u conn link s e r l

    by_link : (i : ℕ) (o : Option ℕ) → (conn_at_index conn_tables.conns i).link ≡ o → position (is_of_sockets me n p.0 p.1) conn_tables.conns ≡ Some i → OneSuspended me n conn_tables (link_rested i o) p → (link_rested i o).full ≡ false → Linked me n (link_rested i o)
    by_link i None x e k f = by_sockets (put_there me n p conn_tables i) k (λ conn link z l. absurd (none conn link z l))
      where
        none : (conn : ConnState) (link : ℕ) → conn_seen me n (put_there me n p conn_tables i) p ≡ Some conn → conn.link ≡ Some link → ⊥
        none conn link z l =
            let is : now me n p conn_tables i ≡ conn = cc (sym (put_seen me n p conn_tables i e) ∙ z) in
            let nay : None ≡ Some link = sym x ∙ ap (λ (y : ConnState). y.link) is ∙ l in cc nay
    by_link i (Some given) x e k f = by_sockets after k (λ conn link z l. here conn link (sym (ap (first (is_of_sockets me n p.0 p.1)) (fact_conns me n what mid)) ∙ z) l)
      where
        mid : SeenTables
        mid = put_there me n p conn_tables i

        what : FactKind
        what = FactKind.LinkSuspended (not (is_senders (conn_at_index conn_tables.conns i).local)) given

        after : SeenTables
        after = link_suspended_now me n (not (is_senders (conn_at_index conn_tables.conns i).local)) given mid

        local : (conn_at_index conn_tables.conns i).local ≡ p.0
        local = (has_sockets me n p.0 p.1 (conn_at_index conn_tables.conns i) (position-Some (is_of_sockets me n p.0 p.1) conn_tables.conns i (unasked_conn 0 0 0 0) e).1).local

        here : (conn : ConnState) (link : ℕ) → conn_seen me n mid p ≡ Some conn → conn.link ≡ Some link → is_marked me n (FactKind.LinkSuspended (receives_at p) link) after ≡ true
        here conn link z l =
            let is : now me n p conn_tables i ≡ conn = cc (sym (put_seen me n p conn_tables i e) ∙ z) in
            let both : Some given ≡ Some link = sym x ∙ ap (λ (y : ConnState). y.link) is ∙ l in
            let same_link : given ≡ link = cc both in
            ap (λ (y : ℕ). is_marked me n (FactKind.LinkSuspended (not (is_senders p.0)) y) after) (sym same_link)
            ∙ ap (λ (y : ℕ). is_marked me n (FactKind.LinkSuspended (not (is_senders y)) given) after) (sym local)
            ∙ fact_made me n what mid f

    go : (o : Option ℕ) → position (is_of_sockets me n p.0 p.1) conn_tables.conns ≡ o → (rested o).full ≡ false → Linked me n (rested o)
    go None e f = by_sockets (with_conn conn_tables (begun me n p conn_tables)) (begun_suspended me n p conn_tables e f) (λ conn link z l. absurd (none conn link z l))
      where
        none : (conn : ConnState) (link : ℕ) → conn_seen me n (with_conn conn_tables (begun me n p conn_tables)) p ≡ Some conn → conn.link ≡ Some link → ⊥
        none conn link z l =
            let is : begun me n p conn_tables ≡ conn = cc (sym (begun_seen me n p conn_tables e f) ∙ z) in
            let nay : None ≡ Some link = ap (λ (y : ConnState). y.link) is ∙ l in cc nay
    go (Some i) e f = by_link i (conn_at_index conn_tables.conns i).link refl e (subst (λ (o : Option ℕ). (rested o).full ≡ false → OneSuspended me n conn_tables (rested o) p) e (pair_suspended me n p conn_tables) f) f

-- ---- the dues of a link that comes to rest

-- without the RETs that are due for a link, if it is one
abbrev pub pending_without : ℕ → ℕ → Bool → Option ℕ → List PendingReply → List PendingReply
pending_without me n host None pending_replies = pending_replies
pending_without me n host (Some link) pending_replies = filter (λ due. not (is_return me n host link due)) pending_replies

pub link_suspended_pending : (me n : ℕ) (host : Bool) (link : ℕ) (conn_tables : SeenTables) → (link_suspended_now me n host link conn_tables).pending_replies ≡ pending_without me n (not host) (Some link) conn_tables.pending_replies
link_suspended_pending me n host link conn_tables = ap (filter (λ (due : PendingReply). not (is_return me n (not host) link due))) (fact_pending me n (FactKind.LinkSuspended host link) conn_tables)
