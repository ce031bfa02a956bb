-- The connection tables between a host and another, read as the flow between the two while nothing is
-- suspended: each connection occurs once, with its shape and its counts; no link and no echo is
-- suspended, and no ERR about a text is admitted; and the pending replies are the ERPs and RETs that each
-- host owes, in order.
use Rattle.std.proofs.Common.{◌≡◌, ℕ, ◌==◌, Bool, true, false, not, ◌&&◌, ◌||◌, if◌then◌else◌, List, [], ◌∷◌, Option, None, Some, refl, sym, ap, ◌∙◌, subst}
use Rattle.std.specs.List.{filter, list_any, position}
use Rattle.std.proofs.Math.Bool.{beq}
use Rattle.std.proofs.lemmas.Bool.{and_parts}
use Rattle.ncp_monitor.specs.declared.pending_reply.PendingReply.{PendingReply}
use Rattle.ncp_monitor.specs.declared.conn_state.ConnState.{ConnState}
use Rattle.ncp_monitor.specs.declared.conn_state.Fact.{Fact}
use Rattle.ncp_monitor.specs.declared.conn_state.FactKind.{FactKind}
use Rattle.ncp_monitor.specs.ConnStates.{SeenTables, no_conn_tables, is_of_sockets, is_conn_between, is_fact_between, is_due_between, conn_at_index, same_topic, is_topic, is_marked, put_conn, tables_cleared}
use Rattle.ncp_monitor.specs.Replies.{is_due_of}
use Rattle.ncp_monitor.specs.Speaking.{is_owed, is_admission, is_admission_of, reply_at, reply_left_out, after_all_said}
use Rattle.ncp_monitor.proofs.Shapes.{Shape}
use Rattle.ncp_monitor.proofs.LinkOrder.{Sockets, same, same_is, put}
use Rattle.ncp_monitor.proofs.Firsts.{first, none_first, Unique, unique_filter}
use Rattle.ncp_monitor.proofs.Seeing.{seen}
use Rattle.ncp_proof_monitor_allocation.proofs.SeenTables.{conn_seen, seen_of, is_suspended, suspended_of, OneSeen}
use Rattle.ncp_proof_monitor_host.proofs.Spoken.{Clear}
use Rattle.ncp_proof_monitor_host.proofs.Begun.{clear_conn, clear_fact, clear_cleared}
use Rattle.ncp_proof_monitor_allocation.proofs.Filtered.{Within, first_within, any_within, unique_within, filter_others, filter_none}
use Rattle.ncp_proof_monitor_allocation.proofs.Elsewhere.{Alike}
use Rattle.ncp_proof_monitor_allocation.proofs.TidyBooks.{numbered}
use Rattle.ncp_proof_monitor_allocation.proofs.LinkPlaces.{UserAt, renumbered_here, renumbered_others, renumbered_seen, renumbered_suspended, renumbered_unique}
use Rattle.ncp_proof_monitor_allocation.proofs.PlainSteps.{kept_facts}
use Rattle.ncp_proof_monitor_allocation.proofs.Words.{Count, count_of}
use Rattle.ncp_proof_monitor_network.specs.Owing.{Owing, Echoes, Returning, has_echo}
use Rattle.ncp_proof_monitor_network.proofs.Tallied.{left_by, has_both}
use Rattle.ncp_proof_monitor_network.proofs.Said.{Said, unspoken, SaidAlike, without_owed}
use Rattle.ncp_proof_monitor_network.proofs.UsersSaid.{IsConnected, fit_none, fit_alike}
use Rattle.ncp_proof_monitor_network.proofs.PendingOwed.{AreDue, IsOwedRightly, OwesRightly, none_echoes}

-- what each owes is owed rightly
abbrev pub OweRightly : Said → Type 0
OweRightly x = (s : Bool) → OwesRightly s x.shapes x.users x.counts (x.owing s)

pub record ReadAs (me n : ℕ) (b : SeenTables) (x : Said) : Type 0 where
  pub shapes : (u : Sockets) → seen_of me n b u ≡ x.shapes u
  pub counts : (u : Sockets) → count_of (conn_seen me n b u) ≡ x.counts u
  pub calm : (u : Sockets) → suspended_of me n b u ≡ false
  pub unique : (u : Sockets) → Unique (is_of_sockets me n u.0 u.1) b.conns
  pub links : (on : Bool) (link : ℕ) → is_marked me n (FactKind.LinkSuspended on link) b ≡ false
  pub echoes : (host : Bool) → is_marked me n (FactKind.EchoesRest host) b ≡ false
  pub admits : (host : Bool) (bytes : List ℕ) → is_marked me n (FactKind.Admits host bytes) b ≡ false
  pub asks : (host : Bool) → is_marked me n (FactKind.Asks host) b ≡ has_echo (x.owing (not host))
  pub pending_replies : (s : Bool) → AreDue s (filter (is_due_of me n s) b.pending_replies) (x.owing s)
  pub returning : OweRightly x
  pub fit : IsConnected x

-- ---- as the same that was said

owes_same : (s : Bool) (m m2 : Sockets → Option Shape) (users users2 : Bool → ℕ → Option Sockets) (counts counts2 : Sockets → Count) → ((u : Sockets) → m u ≡ m2 u) → ((r : Bool) (link : ℕ) → users r link ≡ users2 r link) → ((u : Sockets) → counts u ≡ counts2 u)
    → (owing : List Owing) → OwesRightly s m users counts owing → OwesRightly s m2 users2 counts2 owing
owes_same s m m2 users users2 counts counts2 k j i [] o = tt
owes_same s m m2 users users2 counts counts2 k j i (o ∷ owing) (h, rest) = (go o h, owes_same s m m2 users users2 counts counts2 k j i owing rest)
  where
    go : (o : Owing) → IsOwedRightly s m users counts o owing → IsOwedRightly s m2 users2 counts2 o owing
    go (Echoes byte) h = h
    go (Returning u link messages bits) h = record {
      recalled = ap (λ (c : Count). c.recall) (sym (i u)) ∙ h.recalled;
      user = sym (j (not s) link) ∙ h.user;
      sends = h.sends;
      both = ap has_both (sym (k u)) ∙ h.both;
      stays = ap (left_by s) (sym (k u)) ∙ h.stays;
      once = h.once;
    }

owes_alike : (x y : Said) → SaidAlike x y → OweRightly x → OweRightly y
owes_alike x y k o s =
    subst (OwesRightly s y.shapes y.users y.counts) (k.owing s)
    (owes_same s x.shapes y.shapes x.users y.users x.counts y.counts k.shapes k.users k.counts (x.owing s) (o s))

pub read_as_alike : (me n : ℕ) (b : SeenTables) (x y : Said) → SaidAlike x y → ReadAs me n b x → ReadAs me n b y
read_as_alike me n b x y k r = record {
  shapes = λ u. r.shapes u ∙ k.shapes u;
  counts = λ u. r.counts u ∙ k.counts u;
  calm = r.calm;
  unique = r.unique;
  links = r.links;
  echoes = r.echoes;
  admits = r.admits;
  asks = λ host. r.asks host ∙ ap has_echo (k.owing (not host));
  pending_replies = λ s. subst (AreDue s (filter (is_due_of me n s) b.pending_replies)) (k.owing s) (r.pending_replies s);
  returning = owes_alike x y k r.returning;
  fit = fit_alike x.shapes x.users x.counts y.shapes y.users y.counts k.shapes k.users k.counts r.fit;
}

-- ---- what is looked at is between the two

filter_within : {A : Type 0} (s t : A → Bool) → Within s t → (xs : List A) → filter s (filter t xs) ≡ filter s xs
filter_within s t w [] = refl
filter_within {A} s t w (x ∷ xs) = go (t x) refl (s x) refl (filter_within s t w xs)
  where
    go : (b : Bool) → t x ≡ b → (c : Bool) → s x ≡ c → filter s (filter t xs) ≡ filter s xs → filter s (if b then x ∷ filter t xs else filter t xs) ≡ (if s x then x ∷ filter s xs else filter s xs)
    go true e c k rest = ap (λ (zs : List A). if s x then x ∷ zs else zs) rest
    go false e true k rest = let nay : true ≡ false = sym (w x k) ∙ e in absurd (cc nay)
    go false e false k rest = rest ∙ sym (ap (λ (d : Bool). if d then x ∷ filter s xs else filter s xs) k)

-- a reply that the host owes is none of the other's
pub sides_distinct : (me n : ℕ) (host : Bool) (due : PendingReply) → is_due_of me n host due ≡ true → is_due_of me n (not host) due ≡ false
sides_distinct me n host due e = go (due.at == me && due.peer == n) due.host host e
  where
    go : (y h s : Bool) → (y && beq h s) ≡ true → (y && beq h (not s)) ≡ false
    go true true true e = refl
    go true true false e = absurd (cc e)
    go true false true e = absurd (cc e)
    go true false false e = refl
    go false h s e = refl

module _ (me n : ℕ) where
  within_conns : (u : Sockets) → Within (is_of_sockets me n u.0 u.1) (is_conn_between me n)
  within_conns u conn e = (and_parts (is_conn_between me n conn) (conn.local == u.0) (and_parts (is_conn_between me n conn && conn.local == u.0) (conn.remote == u.1) e).0).0

  within_facts : (what : FactKind) → Within (is_topic me n what) (is_fact_between me n)
  within_facts what known_fact e = (and_parts (is_fact_between me n known_fact) (same_topic known_fact.fact_kind what) e).0

  within_pending : (host : Bool) → Within (is_due_of me n host) (is_due_between me n)
  within_pending host due e = (and_parts (is_due_between me n due) (beq due.host host) e).0

  -- ---- nothing was said

  clear_read : (b : SeenTables) → Clear me n b → ReadAs me n b unspoken
  clear_read b clear = record {
    shapes = λ u. ap seen (clear_conn me n b clear u);
    counts = λ u. ap count_of (clear_conn me n b clear u);
    calm = λ u. ap is_suspended (clear_conn me n b clear u);
    unique = λ u. unique_within (is_of_sockets me n u.0 u.1) (is_conn_between me n) (within_conns u) b.conns (subst (Unique (is_of_sockets me n u.0 u.1)) (sym clear.0) tt);
    links = λ on link. clear_fact me n b clear (FactKind.LinkSuspended on link);
    echoes = λ host. clear_fact me n b clear (FactKind.EchoesRest host);
    admits = λ host bytes. clear_fact me n b clear (FactKind.Admits host bytes);
    asks = λ host. clear_fact me n b clear (FactKind.Asks host);
    pending_replies = λ s. subst (λ (ds : List PendingReply). AreDue s ds []) (sym (none s)) tt;
    returning = λ s. tt;
    fit = fit_none;
  }
    where
      none : (s : Bool) → filter (is_due_of me n s) b.pending_replies ≡ []
      none s = sym (filter_within (is_due_of me n s) (is_due_between me n) (within_pending s) b.pending_replies) ∙ ap (filter (is_due_of me n s)) clear.1.1

  pub read_cleared : (b : SeenTables) → ReadAs me n (tables_cleared me n b) unspoken
  read_cleared b = clear_read (tables_cleared me n b) (clear_cleared me n b)

  pub read_none : ReadAs me n no_conn_tables unspoken
  read_none = clear_read no_conn_tables (refl, (refl, refl))

  -- ---- what is said between others leaves it

  pub read_others : (b now : SeenTables) (x : Said) → Alike me n b now → ReadAs me n b x → ReadAs me n now x
  read_others b now x k r = record {
    shapes = λ u. ap seen (conns u) ∙ r.shapes u;
    counts = λ u. ap count_of (conns u) ∙ r.counts u;
    calm = λ u. ap is_suspended (conns u) ∙ r.calm u;
    unique = λ u. unique_within (is_of_sockets me n u.0 u.1) (is_conn_between me n) (within_conns u) now.conns
        (subst (Unique (is_of_sockets me n u.0 u.1)) (sym k.conns) (unique_filter (is_of_sockets me n u.0 u.1) (is_conn_between me n) b.conns (r.unique u)));
    links = λ on link. known_facts (FactKind.LinkSuspended on link) ∙ r.links on link;
    echoes = λ host. known_facts (FactKind.EchoesRest host) ∙ r.echoes host;
    admits = λ host bytes. known_facts (FactKind.Admits host bytes) ∙ r.admits host bytes;
    asks = λ host. known_facts (FactKind.Asks host) ∙ r.asks host;
    pending_replies = λ s. subst (λ (ds : List PendingReply). AreDue s ds (x.owing s)) (sym (pending_replies s)) (r.pending_replies s);
    returning = r.returning;
    fit = r.fit;
  }
    where
      conns : (u : Sockets) → conn_seen me n now u ≡ conn_seen me n b u
      conns u =
          sym (first_within (is_of_sockets me n u.0 u.1) (is_conn_between me n) (within_conns u) now.conns)
          ∙ ap (first (is_of_sockets me n u.0 u.1)) k.conns
          ∙ first_within (is_of_sockets me n u.0 u.1) (is_conn_between me n) (within_conns u) b.conns

      known_facts : (what : FactKind) → is_marked me n what now ≡ is_marked me n what b
      known_facts what =
          sym (any_within (is_topic me n what) (is_fact_between me n) (within_facts what) now.known_facts)
          ∙ ap (list_any (is_topic me n what)) k.known_facts
          ∙ any_within (is_topic me n what) (is_fact_between me n) (within_facts what) b.known_facts

      pending_replies : (s : Bool) → filter (is_due_of me n s) now.pending_replies ≡ filter (is_due_of me n s) b.pending_replies
      pending_replies s =
          sym (filter_within (is_due_of me n s) (is_due_between me n) (within_pending s) now.pending_replies) ∙ ap (filter (is_due_of me n s)) k.pending_replies
          ∙ filter_within (is_due_of me n s) (is_due_between me n) (within_pending s) b.pending_replies

  -- ---- one connection is another

  pub read_one : (b mid after : SeenTables) (x y : Said) (p : Sockets) (m now : Option Shape) → OneSeen me n b mid p m → after.conns ≡ mid.conns → after.known_facts ≡ mid.known_facts → m ≡ now → ((u : Sockets) → put x.shapes p now u ≡ y.shapes u)
      → count_of (conn_seen me n mid p) ≡ y.counts p → ((u : Sockets) → same u p ≡ false → x.counts u ≡ y.counts u) → ((s : Bool) → has_echo (x.owing s) ≡ has_echo (y.owing s))
      → ((s : Bool) → AreDue s (filter (is_due_of me n s) after.pending_replies) (y.owing s)) → OweRightly y → IsConnected y → ReadAs me n b x → ReadAs me n after y
  read_one b mid after x y p m now one l k is shapes here there echo pending_replies owes fit r = record {
    shapes = λ u. ap seen (conns u) ∙ one.seen u ∙ shape u (same u p) ∙ shapes u;
    counts = λ u. ap count_of (conns u) ∙ count u (same u p) refl;
    calm = λ u. ap is_suspended (conns u) ∙ calm u (same u p) refl;
    unique = λ u. subst (Unique (is_of_sockets me n u.0 u.1)) (sym l) (one.unique r.unique u);
    links = λ on link. known_facts (FactKind.LinkSuspended on link) ∙ r.links on link;
    echoes = λ host. known_facts (FactKind.EchoesRest host) ∙ r.echoes host;
    admits = λ host bytes. known_facts (FactKind.Admits host bytes) ∙ r.admits host bytes;
    asks = λ host. known_facts (FactKind.Asks host) ∙ r.asks host ∙ echo (not host);
    pending_replies = pending_replies;
    returning = owes;
    fit = fit;
  }
    where
      conns : (u : Sockets) → conn_seen me n after u ≡ conn_seen me n mid u
      conns u = ap (first (is_of_sockets me n u.0 u.1)) l

      shape : (u : Sockets) (z : Bool) → (if z then m else seen_of me n b u) ≡ (if z then now else x.shapes u)
      shape u true = is
      shape u false = r.shapes u

      count : (u : Sockets) (z : Bool) → same u p ≡ z → count_of (conn_seen me n mid u) ≡ y.counts u
      count u true e = ap (λ (v : Sockets). count_of (conn_seen me n mid v)) (same_is u p e) ∙ here ∙ ap y.counts (sym (same_is u p e))
      count u false e = ap count_of (one.others u e) ∙ r.counts u ∙ there u e

      calm : (u : Sockets) (z : Bool) → same u p ≡ z → suspended_of me n mid u ≡ false
      calm u true e = ap (suspended_of me n mid) (same_is u p e) ∙ one.calm (r.calm p)
      calm u false e = ap is_suspended (one.others u e) ∙ r.calm u

      known_facts : (what : FactKind) → is_marked me n what after ≡ is_marked me n what b
      known_facts what = ap (list_any (is_topic me n what)) (k ∙ one.known_facts)

  -- ---- other books with the same connections

  pub read_conns : (b after : SeenTables) (x y : Said) → after.conns ≡ b.conns → ((u : Sockets) → x.shapes u ≡ y.shapes u) → ((u : Sockets) → x.counts u ≡ y.counts u) → ((on : Bool) (link : ℕ) → is_marked me n (FactKind.LinkSuspended on link) after ≡ false)
      → ((host : Bool) → is_marked me n (FactKind.EchoesRest host) after ≡ false) → ((host : Bool) (bytes : List ℕ) → is_marked me n (FactKind.Admits host bytes) after ≡ false)
      → ((host : Bool) → is_marked me n (FactKind.Asks host) after ≡ has_echo (y.owing (not host))) → ((s : Bool) → AreDue s (filter (is_due_of me n s) after.pending_replies) (y.owing s)) → OweRightly y → IsConnected y → ReadAs me n b x → ReadAs me n after y
  read_conns b after x y l shapes counts links echoes admits asks pending_replies owes fit r = record {
    shapes = λ u. ap (λ (xs : List ConnState). seen (first (is_of_sockets me n u.0 u.1) xs)) l ∙ r.shapes u ∙ shapes u;
    counts = λ u. ap (λ (xs : List ConnState). count_of (first (is_of_sockets me n u.0 u.1) xs)) l ∙ r.counts u ∙ counts u;
    calm = λ u. ap (λ (xs : List ConnState). is_suspended (first (is_of_sockets me n u.0 u.1) xs)) l ∙ r.calm u;
    unique = λ u. subst (Unique (is_of_sockets me n u.0 u.1)) (sym l) (r.unique u);
    links = links;
    echoes = echoes;
    admits = admits;
    asks = asks;
    pending_replies = pending_replies;
    returning = owes;
    fit = fit;
  }

  -- ---- the connection that has a link has other numbers

  pub record Renumbers (b after : SeenTables) (host : Bool) (link : ℕ) (u : Sockets) (user : UserAt me n host link b u) (k : Count) (came : Bool) : Type 0 where
    pub conns : after.conns ≡ (put_conn b (Some user.place) (numbered k.messages k.bits k.recall came (conn_at_index b.conns user.place))).conns
    pub known_facts : after.known_facts ≡ b.known_facts

  pub read_numbered : (b after : SeenTables) (x y : Said) (host : Bool) (link : ℕ) (u : Sockets) (user : UserAt me n host link b u) (c : Count) (came : Bool) → Renumbers b after host link u user c came
      → ((v : Sockets) → x.shapes v ≡ y.shapes v) → y.counts u ≡ c → ((v : Sockets) → same v u ≡ false → x.counts v ≡ y.counts v)
      → ((s : Bool) → has_echo (x.owing s) ≡ has_echo (y.owing s)) → ((s : Bool) → AreDue s (filter (is_due_of me n s) after.pending_replies) (y.owing s)) → OweRightly y → IsConnected y → ReadAs me n b x → ReadAs me n after y
  read_numbered b after x y host link u user c came k shapes here there echo pending_replies owes fit r = record {
    shapes = λ v. ap (λ (xs : List ConnState). seen (first (is_of_sockets me n v.0 v.1) xs)) k.conns ∙ renumbered_seen me n host link b u user c.messages c.bits c.recall came r.unique v ∙ r.shapes v ∙ shapes v;
    counts = λ v. ap (λ (xs : List ConnState). count_of (first (is_of_sockets me n v.0 v.1) xs)) k.conns ∙ count v (same v u) refl;
    calm = λ v. ap (λ (xs : List ConnState). is_suspended (first (is_of_sockets me n v.0 v.1) xs)) k.conns ∙ renumbered_suspended me n host link b u user c.messages c.bits c.recall came r.unique v ∙ r.calm v;
    unique = λ v. subst (Unique (is_of_sockets me n v.0 v.1)) (sym k.conns) (renumbered_unique me n host link b u user c.messages c.bits c.recall came r.unique v);
    links = λ on l. known_facts (FactKind.LinkSuspended on l) ∙ r.links on l;
    echoes = λ h. known_facts (FactKind.EchoesRest h) ∙ r.echoes h;
    admits = λ h bytes. known_facts (FactKind.Admits h bytes) ∙ r.admits h bytes;
    asks = λ h. known_facts (FactKind.Asks h) ∙ r.asks h ∙ echo (not h);
    pending_replies = pending_replies;
    returning = owes;
    fit = fit;
  }
    where
      known_facts : (what : FactKind) → is_marked me n what after ≡ is_marked me n what b
      known_facts what = ap (list_any (is_topic me n what)) k.known_facts

      now : SeenTables
      now = put_conn b (Some user.place) (numbered c.messages c.bits c.recall came (conn_at_index b.conns user.place))

      count : (v : Sockets) (z : Bool) → same v u ≡ z → count_of (conn_seen me n now v) ≡ y.counts v
      count v true e =
          ap (λ (w : Sockets). count_of (conn_seen me n now w)) (same_is v u e) ∙ ap count_of (renumbered_here me n host link b u user c.messages c.bits c.recall came r.unique) ∙ sym here
          ∙ ap y.counts (sym (same_is v u e))
      count v false e = ap count_of (renumbered_others me n host link b u user c.messages c.bits c.recall came v e) ∙ r.counts v ∙ there v e

-- ---- no reply is left out: then the host owes no ERP, and nothing is due of it any more

unfound : (pending_replies : List PendingReply) (o : Option ℕ) → reply_at pending_replies o ≡ None → o ≡ None
unfound pending_replies None e = refl
unfound pending_replies (Some i) e = absurd (cc e)

module _ (me n : ℕ) (b : SeenTables) (x : Said) where
  owes_none : reply_left_out me n b ≡ None → ReadAs me n b x → has_echo (x.owing true) ≡ false
  owes_none e r = none_echoes (is_due_of me n true) b.pending_replies (x.owing true) true (r.pending_replies true) (none_first (is_owed me n) b.pending_replies (unfound b.pending_replies (position (is_owed me n) b.pending_replies) e))

  -- only the facts about ERRs admitted from the host are dropped
  kept_said : (what : FactKind) → ((y : FactKind) → same_topic y what ≡ true → is_admission_of y ≡ false) → is_marked me n what (after_all_said me n b) ≡ is_marked me n what b
  kept_said what k = kept_facts (is_topic me n what) (λ known_fact. not (is_admission me n known_fact)) b.known_facts (λ known_fact e. by known_fact (k known_fact.fact_kind (and_parts (is_fact_between me n known_fact) (same_topic known_fact.fact_kind what) e).1))
    where
      by : (known_fact : Fact) → is_admission_of known_fact.fact_kind ≡ false → not (is_admission me n known_fact) ≡ true
      by known_fact e = ap (λ (y : Bool). not (known_fact.at == me && known_fact.peer == n && y)) e ∙ none (known_fact.at == me && known_fact.peer == n)
        where
          none : (y : Bool) → not (y && false) ≡ true
          none true = refl
          none false = refl

  -- and nothing further is admitted
  fewer_said : (what : FactKind) → is_marked me n what b ≡ false → is_marked me n what (after_all_said me n b) ≡ false
  fewer_said what e = fewer b.known_facts e
    where
      later : (y z : Bool) → (y || z) ≡ false → z ≡ false
      later true z e = absurd (cc e)
      later false z e = e

      first_is : (y z : Bool) → (y || z) ≡ false → y ≡ false
      first_is true z e = absurd (cc e)
      first_is false z e = refl

      fewer : (known_facts : List Fact) → list_any (is_topic me n what) known_facts ≡ false → list_any (is_topic me n what) (filter (λ known_fact. not (is_admission me n known_fact)) known_facts) ≡ false
      fewer [] e = refl
      fewer (known_fact ∷ known_facts) e = go (is_admission me n known_fact) (fewer known_facts (later (is_topic me n what known_fact) (list_any (is_topic me n what) known_facts) e))
        where
          go : (y : Bool) → list_any (is_topic me n what) (filter (λ known_fact. not (is_admission me n known_fact)) known_facts) ≡ false
              → list_any (is_topic me n what) (if not y then known_fact ∷ filter (λ known_fact. not (is_admission me n known_fact)) known_facts else filter (λ known_fact. not (is_admission me n known_fact)) known_facts) ≡ false
          go true rest = rest
          go false rest = ap (λ (y : Bool). y || list_any (is_topic me n what) (filter (λ known_fact. not (is_admission me n known_fact)) known_facts)) (first_is (is_topic me n what known_fact) (list_any (is_topic me n what) known_facts) e) ∙ rest

  pub read_room : reply_left_out me n b ≡ None → ReadAs me n b x → (has_echo (x.owing true) ≡ false) × ReadAs me n (after_all_said me n b) (without_owed x)
  read_room e r = (owes_none e r, read_conns me n b (after_all_said me n b) x (without_owed x) refl (λ u. refl) (λ u. refl) links echoes admits asks pending_replies owes r.fit r)
    where
      links : (on : Bool) (link : ℕ) → is_marked me n (FactKind.LinkSuspended on link) (after_all_said me n b) ≡ false
      links on link = fewer_said (FactKind.LinkSuspended on link) (r.links on link)

      echoes : (host : Bool) → is_marked me n (FactKind.EchoesRest host) (after_all_said me n b) ≡ false
      echoes host = fewer_said (FactKind.EchoesRest host) (r.echoes host)

      admits : (host : Bool) (bytes : List ℕ) → is_marked me n (FactKind.Admits host bytes) (after_all_said me n b) ≡ false
      admits host bytes = fewer_said (FactKind.Admits host bytes) (r.admits host bytes)

      asking : (host : Bool) (y : FactKind) → same_topic y (FactKind.Asks host) ≡ true → is_admission_of y ≡ false
      asking host (FactKind.LinkSuspended other on) k = refl
      asking host (FactKind.EchoesRest other) k = refl
      asking host (FactKind.Asks other) k = refl
      asking host (FactKind.Admits other bytes) k = absurd (cc k)

      asks : (host : Bool) → is_marked me n (FactKind.Asks host) (after_all_said me n b) ≡ has_echo ((without_owed x).owing (not host))
      asks true = kept_said (FactKind.Asks true) (asking true) ∙ r.asks true
      asks false = kept_said (FactKind.Asks false) (asking false) ∙ r.asks false ∙ owes_none e r

      pending_replies : (s : Bool) → AreDue s (filter (is_due_of me n s) (after_all_said me n b).pending_replies) ((without_owed x).owing s)
      pending_replies true = subst (λ (ds : List PendingReply). AreDue true ds []) (sym (filter_none (is_due_of me n true) b.pending_replies)) tt
      pending_replies false = subst (λ (ds : List PendingReply). AreDue false ds (x.owing false)) (sym (filter_others (is_due_of me n false) (is_due_of me n true) b.pending_replies (sides_distinct me n true))) (r.pending_replies false)

      owes : OweRightly (without_owed x)
      owes true = tt
      owes false = r.returning false
