-- After any command of the other host about a link, and any effect of it at the host, the counts of each
-- connection, after the queued words, are those of the host.
use Rattle.std.proofs.Common.{◌≡◌, ℕ, Bool, true, false, not, ◌||◌, if◌then◌else◌, List, [], ◌∷◌, ◌++◌, map, Option, Some, eq-eqb, refl, sym, ap, ◌∙◌, subst}
use Rattle.std.specs.FinMap.{get}
use Rattle.std.specs.List.{filter, list_any}
use Rattle.std.proofs.lemmas.List.Elements.{filter-append}
use Rattle.ncp_wire.specs.declared.command.Command.{Command}
use Rattle.ncp_wire.specs.declared.command.Command.TheVariants.{Ret}
use Rattle.ncp_model.specs.Pairs.{sends}
use Rattle.ncp_model.specs.Endpoint.{Endpoint, is_closing}
use Rattle.ncp_model.specs.Ends.{Ends}
use Rattle.ncp_monitor.specs.declared.conn_state.ConnState.{ConnState}
use Rattle.ncp_monitor.specs.declared.conn_state.Fact.{Fact}
use Rattle.ncp_monitor.specs.declared.conn_state.FactKind.{FactKind}
use Rattle.ncp_monitor.specs.ConnStates.{SeenTables, is_of_sockets, conn_at_index, is_topic, is_marked, put_conn}
use Rattle.ncp_interface.specs.Sockets.{is_senders}
use Rattle.ncp_monitor.proofs.Shapes.{Shape, Say, Agrees}
use Rattle.ncp_monitor.proofs.LinkOrder.{Sockets, same, same_is}
use Rattle.ncp_monitor.proofs.Firsts.{first}
use Rattle.ncp_monitor.proofs.Seeing.{of_conn, seen}
use Rattle.ncp_proof_monitor_allocation.proofs.KeptEnds.{of_end, kept, number_if}
use Rattle.ncp_proof_monitor_allocation.proofs.Changed.{pair_at, kept_of, OneEnd, unlike}
use Rattle.ncp_proof_monitor_allocation.proofs.SeenTables.{conn_seen, seen_of, is_suspended, suspended_of, receives_at}
use Rattle.ncp_proof_monitor_allocation.proofs.Users.{Linked}
use Rattle.ncp_proof_monitor_allocation.proofs.Proper.{ProperEnds}
use Rattle.ncp_proof_monitor_allocation.proofs.TidyBooks.{numbered, Renumbered}
use Rattle.ncp_proof_monitor_allocation.proofs.LinkPlaces.{UserAt, AllUnique, user_calm, renumbered_here, renumbered_others}
use Rattle.ncp_proof_monitor_allocation.proofs.Plain.{Plain}
use Rattle.ncp_proof_monitor_allocation.proofs.TextErrors.{AllAdmitted, admitted_more, admitted_wider}
use Rattle.ncp_proof_monitor_allocation.proofs.Words.{Word, Returns, Count, count_of, link_given, is_open_on, NoneCounted, says_in, Agreed, Fits, agreed_more, agreed_wider, fits_wider, Hidden, LinkHidden, has_link_of, hidden_more, hidden_wider, link_hidden_wider}
use Rattle.ncp_proof_monitor_allocation.proofs.Counted.{is_worded, command_of, words_about, words_of, links_by, AgreedAt, HiddenAt, Counted, PairsAgree, words_says, agreed_at, map_following, append_nil, words_after, counted_wider}
use Rattle.ncp_proof_monitor_allocation.proofs.LinksOpen.{open_shape, Reaches, reaches}
use Rattle.ncp_proof_monitor_allocation.proofs.LinksDid.{SameFacts}

-- ---- one end changes, one connection is observed differently, more is queued, and more is suspended

-- suspended links, and admitted ERRs, remain so
pub record Wider (me n : ℕ) (b after : SeenTables) : Type 0 where
  pub links : (host : Bool) (link : ℕ) → links_by me n b host link ≡ true → links_by me n after host link ≡ true
  pub admits : (bytes : List ℕ) → is_marked me n (FactKind.Admits true bytes) b ≡ true → is_marked me n (FactKind.Admits true bytes) after ≡ true

pub same_facts_wider : (me n : ℕ) (b after : SeenTables) → after.known_facts ≡ b.known_facts → Wider me n b after
same_facts_wider me n b after k = record {
  links = λ host link z. ap (list_any (is_topic me n (FactKind.LinkSuspended host link))) k ∙ z;
  admits = λ bytes z. ap (list_any (is_topic me n (FactKind.Admits true bytes))) k ∙ z;
}

module _ (me n : ℕ) (m now : Ends) (w made : List Command) (b after : SeenTables) (p : Sockets) (o : Option Endpoint) (more : List Word) where
  pub counted_step : OneEnd m now (pair_at p) o → filter is_worded made ≡ map command_of (words_of p more) → ((u : Sockets) → same u p ≡ false → conn_seen me n after u ≡ conn_seen me n b u) → Wider me n b after
      → (c : Counted me n m w b) → (suspended_of me n after p ≡ false → AgreedAt me n after o (words_about p c.words ++ more) p) → (suspended_of me n after p ≡ true → HiddenAt me n after o (words_about p c.words ++ more) p)
      → Plain me n after → AllAdmitted me n made after → Counted me n now (w ++ made) after
  counted_step one spells others wider c agreed hidden plain admits = record {
    words = c.words ++ words_of p more;
    spelled = filter-append is_worded w made ∙ ap (λ (x : List Command). x ++ filter is_worded made) c.spelled ∙ ap (λ (x : List Command). map command_of c.words ++ x) spells ∙ sym (map_following c.words (words_of p more));
    agreed = λ u r. subst (λ (ws : List Word). AgreedAt me n after (get now (pair_at u)) ws u) (sym (words_after u p more c.words)) (agrees u r (same u p) refl);
    hidden = λ u r. subst (λ (ws : List Word). HiddenAt me n after (get now (pair_at u)) ws u) (sym (words_after u p more c.words)) (hides u r (same u p) refl);
    plain = plain;
    admitted = admitted_more me n w made after (admitted_wider me n w b after wider.admits c.admitted) admits;
  }
    where
      wide : (u : Sockets) → conn_seen me n after u ≡ conn_seen me n b u → suspended_of me n b u ≡ false → AgreedAt me n after (get m (pair_at u)) (words_about u c.words) u
      wide u l r =
          subst (λ (x : Option ConnState). Agreed (is_senders u.0) (links_by me n after (receives_at u)) (Fits (is_senders u.0) (links_by me n after (receives_at u)) (get m (pair_at u))) (words_about u c.words) (seen x) (count_of x)) (sym l)
          (agreed_wider (is_senders u.0) (links_by me n b (receives_at u)) (links_by me n after (receives_at u)) (Fits (is_senders u.0) (links_by me n b (receives_at u)) (get m (pair_at u)))
          (Fits (is_senders u.0) (links_by me n after (receives_at u)) (get m (pair_at u))) (words_about u c.words) (seen_of me n b u) (count_of (conn_seen me n b u)) (wider.links (receives_at u))
          (λ x j f. fits_wider (is_senders u.0) (links_by me n b (receives_at u)) (links_by me n after (receives_at u)) (get m (pair_at u)) x j (wider.links (receives_at u)) f)
          (c.agreed u r))

      agrees : (u : Sockets) → suspended_of me n after u ≡ false → (s : Bool) → same u p ≡ s → AgreedAt me n after (get now (pair_at u)) (words_about u c.words ++ (if s then more else [])) u
      agrees u r true s =
          subst (λ (v : Sockets). AgreedAt me n after (get now (pair_at v)) (words_about v c.words ++ more) v) (sym (same_is u p s))
          (subst (λ (x : Option Endpoint). AgreedAt me n after x (words_about p c.words ++ more) p) (sym one.there) (agreed (ap (suspended_of me n after) (sym (same_is u p s)) ∙ r)))
      agrees u r false s =
          subst (λ (ws : List Word). AgreedAt me n after (get now (pair_at u)) ws u) (sym (append_nil (words_about u c.words)))
          (subst (λ (x : Option Endpoint). AgreedAt me n after x (words_about u c.words) u) (sym (one.elsewhere (pair_at u) (unlike u p s))) (wide u (others u s) (ap is_suspended (sym (others u s)) ∙ r)))

      hides : (u : Sockets) → suspended_of me n after u ≡ true → (s : Bool) → same u p ≡ s → HiddenAt me n after (get now (pair_at u)) (words_about u c.words ++ (if s then more else [])) u
      hides u r true s =
          subst (λ (v : Sockets). HiddenAt me n after (get now (pair_at v)) (words_about v c.words ++ more) v) (sym (same_is u p s))
          (subst (λ (x : Option Endpoint). HiddenAt me n after x (words_about p c.words ++ more) p) (sym one.there) (hidden (ap (suspended_of me n after) (sym (same_is u p s)) ∙ r)))
      hides u r false s =
          subst (λ (ws : List Word). HiddenAt me n after (get now (pair_at u)) ws u) (sym (append_nil (words_about u c.words)))
          (subst (λ (x : Option Endpoint). HiddenAt me n after x (words_about u c.words) u) (sym (one.elsewhere (pair_at u) (unlike u p s)))
          (hidden_wider (is_senders u.0) (links_by me n b (receives_at u)) (links_by me n after (receives_at u)) (LinkHidden (get m (pair_at u)) (is_senders u.0)) (LinkHidden (get m (pair_at u)) (is_senders u.0)) (words_about u c.words)
          (wider.links (receives_at u)) (λ x y f h. link_hidden_wider (get m (pair_at u)) (is_senders u.0) x y f h) (c.hidden u (ap is_suspended (sym (others u s)) ∙ r))))

-- ---- nothing happens at the host, but that an ERR is made, or not; and the same connections are seen

pub counted_still : (me n : ℕ) (m now : Ends) (w made : List Command) (b after : SeenTables) → now ≡ m → filter is_worded made ≡ [] → ((u : Sockets) → conn_seen me n after u ≡ conn_seen me n b u) → Wider me n b after
    → Plain me n after → AllAdmitted me n made after → Counted me n m w b → Counted me n now (w ++ made) after
counted_still me n m now w made b after same_ends unworded conns wider plain admits c =
    subst (λ (x : Ends). Counted me n x (w ++ made) after) (sym same_ends)
    (counted_wider me n m w (w ++ made) b after conns wider.links (filter-append is_worded w made ∙ ap (λ (x : List Command). filter is_worded w ++ x) unworded ∙ nil (filter is_worded w)) plain
    (admitted_more me n w made after (admitted_wider me n w b after wider.admits c.admitted) admits) c)
  where
    nil : (cs : List Command) → cs ++ [] ≡ cs
    nil [] = refl
    nil (x ∷ cs) = ap (λ (y : List Command). x ∷ y) (nil cs)

-- ---- one connection with other numbers

pub record SameConn (old conn : ConnState) : Type 0 where
  pub local : conn.local ≡ old.local
  pub link : conn.link ≡ old.link
  pub size : conn.size ≡ old.size
  pub host_left : conn.host_left ≡ old.host_left
  pub peer_left : conn.peer_left ≡ old.peer_left
  pub suspended : conn.suspended ≡ old.suspended

pub same_conn : (conn : ConnState) → SameConn conn conn
same_conn conn = record { local = refl; link = refl; size = refl; host_left = refl; peer_left = refl; suspended = refl }

pub renumbered_same : (old conn : ConnState) → Renumbered old conn → SameConn old conn
renumbered_same old conn r = record {
  local = ap (λ (x : ConnState). x.local) r.is;
  link = ap (λ (x : ConnState). x.link) r.is;
  size = ap (λ (x : ConnState). x.size) r.is;
  host_left = ap (λ (x : ConnState). x.host_left) r.is;
  peer_left = ap (λ (x : ConnState). x.peer_left) r.is;
  suspended = ap (λ (x : ConnState). x.suspended) r.is;
}

-- it is seen now, and all others are seen as before
pub record SeenNow (me n : ℕ) (b after : SeenTables) (u : Sockets) (conn : ConnState) : Type 0 where
  pub here : conn_seen me n after u ≡ Some conn
  pub others : (v : Sockets) → same v u ≡ false → conn_seen me n after v ≡ conn_seen me n b v

pub renumbered_now : (me n : ℕ) (host : Bool) (on : ℕ) (b after : SeenTables) (u : Sockets) (user : UserAt me n host on b u) (conn : ConnState) → AllUnique me n b → Renumbered (conn_at_index b.conns user.place) conn
    → after.conns ≡ (put_conn b (Some user.place) conn).conns → SeenNow me n b after u conn
renumbered_now me n host on b after u user conn unique r conns = record {
  here = ap (first (is_of_sockets me n u.0 u.1)) same_conns ∙ renumbered_here me n host on b u user r.messages r.bits r.recall r.came unique ∙ ap (λ (x : ConnState). Some x) (sym r.is);
  others = λ v d. ap (first (is_of_sockets me n v.0 v.1)) same_conns ∙ renumbered_others me n host on b u user r.messages r.bits r.recall r.came v d;
}
  where
    same_conns : after.conns ≡ (put_conn b (Some user.place) (numbered r.messages r.bits r.recall r.came (conn_at_index b.conns user.place))).conns
    same_conns = conns ∙ ap (λ (x : ConnState). (put_conn b (Some user.place) x).conns) r.is

-- ---- the link leads to a connection that the other has not closed

seen_open : (conn : ConnState) (s : Bool) (on : ℕ) (size : Option ℕ) → is_senders conn.local ≡ s → conn.link ≡ Some on → conn.size ≡ size → conn.peer_left ≡ false → of_conn conn ≡ open_shape s on size conn.host_left
seen_open conn s on size sex given sized unclosed =
    ap (λ (x : Bool). shape x conn.link conn.size conn.peer_left) sex
    ∙ ap (λ (x : Option ℕ). shape s x conn.size conn.peer_left) given
    ∙ ap (λ (x : Option ℕ). shape s (Some on) x conn.peer_left) sized
    ∙ ap (λ (x : Bool). shape s (Some on) size x) unclosed
  where
    shape : Bool → Option ℕ → Option ℕ → Bool → Shape
    shape x link y cls = record { own = if x then y else link; others = if x then link else y; left = conn.host_left; cls = cls }

unnot : (x y : Bool) → not x ≡ y → x ≡ not y
unnot true true e = absurd (cc e)
unnot true false e = refl
unnot false true e = refl
unnot false false e = absurd (cc e)

module _ (me n : ℕ) (m : Ends) (w : List Command) (b : SeenTables) (proper : ProperEnds m) (unique : AllUnique me n b) (linked : Linked me n b) (pairs : PairsAgree me n m w b) (c : Counted me n m w b) (host : Bool) (on : ℕ) (unmarked : is_marked me n (FactKind.LinkSuspended host on) b ≡ false) (u : Sockets) (user : UserAt me n host on b u) (unclosed : (conn_at_index b.conns user.place).peer_left ≡ false) where
  abbrev its_conn : ConnState
  its_conn = conn_at_index b.conns user.place

  abbrev its_links : ℕ → Bool
  its_links = links_by me n b (receives_at u)

  abbrev its_words : List Word
  its_words = words_about u c.words

  abbrev its_shape : Option ℕ → Shape
  its_shape size = open_shape (not host) on size its_conn.host_left

  pub calm : suspended_of me n b u ≡ false
  calm = user_calm me n host on b linked unmarked u user

  pub links_unrested : its_links on ≡ false
  links_unrested = ap (λ (h : Bool). is_marked me n (FactKind.LinkSuspended h on) b) user.receives ∙ unmarked

  its_sex : is_senders u.0 ≡ not host
  its_sex = unnot (is_senders u.0) host user.receives

  local_is : is_senders its_conn.local ≡ not host
  local_is = ap is_senders user.sockets.local ∙ its_sex

  pub shape_is : (size : Option ℕ) → its_conn.size ≡ size → seen_of me n b u ≡ Some (its_shape size)
  shape_is size z = ap seen user.seen ∙ ap (λ (x : Shape). Some x) (seen_open its_conn (not host) on size local_is user.given z unclosed)

  pub says_are : (size : Option ℕ) → its_conn.size ≡ size → Agrees (says_in its_words) (kept_of m u) (Some (its_shape size))
  says_are size z =
      subst (Agrees (says_in its_words) (kept_of m u)) (shape_is size z)
      (subst (λ (q : List Say). Agrees q (kept_of m u) (seen_of me n b u)) (words_says w c.words c.spelled u) (pairs u calm))

  pub reach : (size : Option ℕ) → its_conn.size ≡ size → (k : ℕ) → (if not host then size else Some on) ≡ Some k → Reaches m u (not host) on size its_conn.host_left (says_in its_words)
  reach size z k own = reaches m proper u (not host) on size k its_conn.host_left (says_in its_words) its_sex own (says_are size z)

  pub counts_are : (size : Option ℕ) → its_conn.size ≡ size → Agreed (not host) its_links (Fits (not host) its_links (get m (pair_at u))) its_words (Some (its_shape size)) (count_of (Some its_conn))
  counts_are size z =
      subst (λ (s : Bool). Agreed s its_links (Fits s its_links (get m (pair_at u))) its_words (Some (its_shape size)) (count_of (Some its_conn))) its_sex
      (subst (λ (x : Option Shape). Agreed (is_senders u.0) its_links (Fits (is_senders u.0) its_links (get m (pair_at u))) its_words x (count_of (Some its_conn))) (shape_is size z)
      (subst (λ (x : Option ConnState). Agreed (is_senders u.0) its_links (Fits (is_senders u.0) its_links (get m (pair_at u))) its_words (seen_of me n b u) (count_of x)) user.seen (c.agreed u calm)))

  -- its numbers are others, at both sides
  pub open_step : (now : Ends) (end : Endpoint) (made : List Command) (more : List Word) (after : SeenTables) (size : Option ℕ) (conn : ConnState) → its_conn.size ≡ size → SameConn its_conn conn → SeenNow me n b after u conn → after.known_facts ≡ b.known_facts
      → OneEnd m now (pair_at u) (Some end) → filter is_worded made ≡ map command_of (words_of u more)
      → Agreed (not host) its_links (Fits (not host) its_links (Some end)) (its_words ++ more) (Some (its_shape size)) (count_of (Some conn)) → Plain me n after → AllAdmitted me n made after → Counted me n now (w ++ made) after
  open_step now end made more after size conn z same now_seen known_facts one spells agreed plain admits =
      counted_step me n m now w made b after u (Some end) more one spells now_seen.others (same_facts_wider me n b after known_facts) c (λ r. there) (λ r. absurd (nay r)) plain admits
    where
      nay : suspended_of me n after u ≡ true → ⊥
      nay r = cc (sym r ∙ ap is_suspended now_seen.here ∙ same.suspended ∙ sym (ap is_suspended user.seen) ∙ calm)

      same_links : links_by me n after (receives_at u) ≡ its_links
      same_links = ap (λ (ms : List Fact). λ (link : ℕ). list_any (is_topic me n (FactKind.LinkSuspended (receives_at u) link)) ms) known_facts

      shape_now : of_conn conn ≡ its_shape size
      shape_now =
          seen_open conn (not host) on size (ap is_senders same.local ∙ local_is) (same.link ∙ user.given) (same.size ∙ z) (same.peer_left ∙ unclosed)
          ∙ ap (λ (x : Bool). open_shape (not host) on size x) same.host_left

      there : AgreedAt me n after (Some end) (its_words ++ more) u
      there =
          subst (λ (x : Option ConnState). Agreed (is_senders u.0) (links_by me n after (receives_at u)) (Fits (is_senders u.0) (links_by me n after (receives_at u)) (Some end)) (its_words ++ more) (seen x) (count_of x)) (sym now_seen.here)
          (subst (λ (links : ℕ → Bool). Agreed (is_senders u.0) links (Fits (is_senders u.0) links (Some end)) (its_words ++ more) (Some (of_conn conn)) (count_of (Some conn))) (sym same_links)
          (subst (λ (x : Shape). Agreed (is_senders u.0) its_links (Fits (is_senders u.0) its_links (Some end)) (its_words ++ more) (Some x) (count_of (Some conn))) (sym shape_now)
          (subst (λ (s : Bool). Agreed s its_links (Fits s its_links (Some end)) (its_words ++ more) (Some (its_shape size)) (count_of (Some conn))) (sym its_sex) agreed)))

-- ---- the link is suspended: any effect at the end that has it

module _ (me n : ℕ) (m : Ends) (w : List Command) (b after : SeenTables) (pairs : PairsAgree me n m w b) (c : Counted me n m w b) (s : Bool) (on : ℕ) (p : Sockets) (e then_end : Endpoint) (sex : is_senders p.0 ≡ s) (sender : sends (pair_at p) ≡ s) (there : get m (pair_at p) ≡ Some e) (given : has_link_of s e ≡ true) (its_link : e.link ≡ on) (known_facts : SameFacts e then_end) (suspended : links_by me n after (receives_at p) on ≡ true) (conns : (u : Sockets) → conn_seen me n after u ≡ conn_seen me n b u) (wider : Wider me n b after) where
  wide_links : (link : ℕ) → links_by me n b (receives_at p) link ≡ true → links_by me n after (receives_at p) link ≡ true
  wide_links = wider.links (receives_at p)

  -- what is kept of it has the link
  kept_given : (x : Option Shape) → x ≡ kept_of m p → link_given s x ≡ Some on
  kept_given x k =
      ap (link_given s) (k ∙ ap (kept (sends (pair_at p))) there ∙ ap (λ (f : Bool). kept f (Some e)) sender) ∙ by s given
    where
      by : (f : Bool) → has_link_of f e ≡ true → link_given f (kept f (Some e)) ≡ Some on
      by true g = ap (λ (h : Bool). number_if h e.link) g ∙ ap (λ (l : ℕ). Some l) its_link
      by false g = ap (λ (h : Bool). number_if h e.link) g ∙ ap (λ (l : ℕ). Some l) its_link

  nothing_wanted : (x : Option Shape) (j : Count) → x ≡ kept_of m p → Fits s (links_by me n after (receives_at p)) (Some then_end) x j
  nothing_wanted x j k d f g = record {
    given = λ l h r. let same_link : on ≡ l = cc (sym (kept_given x k) ∙ h) in let nay : true ≡ false = sym suspended ∙ ap (links_by me n after (receives_at p)) same_link ∙ r in absurd (cc nay);
    ungiven = λ h. absurd (cc (sym (kept_given x k) ∙ h));
  }

  end_is : (d : Endpoint) → Some then_end ≡ Some d → then_end ≡ d
  end_is d f = cc f

  hidden_still : (links : ℕ → Bool) → LinkHidden (Some e) s links → LinkHidden (Some then_end) s links
  hidden_still links h d f g l =
      let is = end_is d f in
      let out : is_closing e ≡ false = sym known_facts.going ∙ ap is_closing is ∙ g in
      ap links (ap (λ (x : Endpoint). x.link) (sym is) ∙ known_facts.its_link) ∙ h e refl out given

  -- where more waits of it, as it is right
  module _ (now : Ends) (made : List Command) (more : List Word) (one : OneEnd m now (pair_at p) (Some then_end)) (spells : filter is_worded made ≡ map command_of (words_of p more)) (right : (x : Option Shape) (j : Count) → x ≡ kept_of m p → Agreed s (links_by me n after (receives_at p)) (Fits s (links_by me n after (receives_at p)) (Some then_end)) more x j) (hides : (links : ℕ → Bool) → LinkHidden (Some e) s links → Hidden s links (LinkHidden (Some then_end) s) more) where
    pub rested_step : Plain me n after → AllAdmitted me n made after → Counted me n now (w ++ made) after
    rested_step plain admits =
        counted_step me n m now w made b after p (Some then_end) more one spells (λ u d. conns u) wider c
        (λ r. agreed_there (ap is_suspended (sym (conns p)) ∙ r)) (λ r. hidden_there (ap is_suspended (sym (conns p)) ∙ r)) plain admits
      where
        agreed_there : suspended_of me n b p ≡ false → AgreedAt me n after (Some then_end) (words_about p c.words ++ more) p
        agreed_there r =
            subst (λ (x : Option ConnState). Agreed (is_senders p.0) (links_by me n after (receives_at p)) (Fits (is_senders p.0) (links_by me n after (receives_at p)) (Some then_end)) (words_about p c.words ++ more) (seen x) (count_of x)) (sym (conns p))
            (subst (λ (f : Bool). Agreed f (links_by me n after (receives_at p)) (Fits f (links_by me n after (receives_at p)) (Some then_end)) (words_about p c.words ++ more) (seen_of me n b p) (count_of (conn_seen me n b p))) (sym sex)
            (agreed_more s (links_by me n after (receives_at p)) (λ x j. x ≡ kept_of m p) (Fits s (links_by me n after (receives_at p)) (Some then_end)) more (words_about p c.words) (seen_of me n b p) (count_of (conn_seen me n b p)) right
            (agreed_wider s (links_by me n b (receives_at p)) (links_by me n after (receives_at p)) (λ x j. (x ≡ kept_of m p) × (NoneCounted x j × Fits s (links_by me n b (receives_at p)) (get m (pair_at p)) x j)) (λ x j. x ≡ kept_of m p)
            (words_about p c.words) (seen_of me n b p) (count_of (conn_seen me n b p)) wide_links (λ x j f. f.0)
            (subst (λ (f : Bool). Agreed f (links_by me n b (receives_at p)) (λ x j. (x ≡ kept_of m p) × (NoneCounted x j × Fits f (links_by me n b (receives_at p)) (get m (pair_at p)) x j)) (words_about p c.words) (seen_of me n b p) (count_of (conn_seen me n b p))) sex
            (agreed_at me n m w b p r pairs c)))))

        hidden_there : suspended_of me n b p ≡ true → HiddenAt me n after (Some then_end) (words_about p c.words ++ more) p
        hidden_there r =
            subst (λ (f : Bool). Hidden f (links_by me n after (receives_at p)) (LinkHidden (Some then_end) f) (words_about p c.words ++ more)) (sym sex)
            (hidden_more s (links_by me n after (receives_at p)) (LinkHidden (Some e) s) (LinkHidden (Some then_end) s) more (words_about p c.words) (λ links h. hides links h)
            (subst (λ (f : Bool). Hidden f (links_by me n after (receives_at p)) (LinkHidden (Some e) f) (words_about p c.words)) sex
            (hidden_wider (is_senders p.0) (links_by me n b (receives_at p)) (links_by me n after (receives_at p)) (LinkHidden (get m (pair_at p)) (is_senders p.0)) (LinkHidden (Some e) (is_senders p.0)) (words_about p c.words) wide_links
            (λ x y f h. link_hidden_wider (Some e) (is_senders p.0) x y f (subst (λ (z : Option Endpoint). LinkHidden z (is_senders p.0) x) there h)) (c.hidden p r))))

  -- nothing is made that names a link
  pub rested_silent : (now : Ends) (made : List Command) → OneEnd m now (pair_at p) (Some then_end) → filter is_worded made ≡ [] → Plain me n after → AllAdmitted me n made after → Counted me n now (w ++ made) after
  rested_silent now made one unworded plain admits = rested_step now made [] one unworded (λ x j k. nothing_wanted x j k) (λ links h. hidden_still links h) plain admits

-- a RET that is made for a suspended link
pub rested_returns : (me n : ℕ) (m : Ends) (w : List Command) (b after : SeenTables) (pairs : PairsAgree me n m w b) (c : Counted me n m w b) (on : ℕ) (p : Sockets) (e then_end : Endpoint) (sex : is_senders p.0 ≡ true) (sender : sends (pair_at p) ≡ true)
    (there : get m (pair_at p) ≡ Some e) (heard : e.heard ≡ true) (its_link : e.link ≡ on) (known_facts : SameFacts e then_end) (suspended : links_by me n after (receives_at p) on ≡ true) (conns : (u : Sockets) → conn_seen me n after u ≡ conn_seen me n b u)
    (wider : Wider me n b after) (now : Ends) (x y : ℕ) → is_closing e ≡ false → e.asked ≡ true → OneEnd m now (pair_at p) (Some then_end) → Plain me n after → AllAdmitted me n (Ret on x y ∷ []) after → Counted me n now (w ++ Ret on x y ∷ []) after
rested_returns me n m w b after pairs c on p e then_end sex sender there heard its_link known_facts suspended conns wider now x y going asked one plain admits =
    rested_step me n m w b after pairs c true on p e then_end sex sender there heard its_link known_facts suspended conns wider now (Ret on x y ∷ []) (Returns on x y ∷ []) one refl right hides plain admits
  where
    or_true : (z : Bool) → (z || true) ≡ true
    or_true true = refl
    or_true false = refl

    unleft : (a z : Bool) → (a || z) ≡ false → z ≡ false
    unleft true z f = absurd (cc f)
    unleft false z f = f

    opens : (d : Endpoint) → d.asked ≡ true → d.heard ≡ true → d.link ≡ on → d.left ≡ false → is_open_on true on (Some (of_end true d)) ≡ true
    opens d a h l f = rw (a, h, l, f, eq-eqb on on refl) refl

    open_there : (s : Option Shape) → s ≡ kept_of m p → is_open_on true on s ≡ true
    open_there s k =
        ap (is_open_on true on) (k ∙ ap (kept (sends (pair_at p))) there ∙ ap (λ (f : Bool). kept f (Some e)) sender) ∙ opens e asked heard its_link (unleft e.leaving e.left going)

    right : (s : Option Shape) (j : Count) → s ≡ kept_of m p
        → Agreed true (links_by me n after (receives_at p)) (Fits true (links_by me n after (receives_at p)) (Some then_end)) (Returns on x y ∷ []) s j
    right s j k = (
      open_there s k,
      (
        or_true (links_by me n after (receives_at p) on),
        nothing_wanted me n m w b after pairs c true on p e then_end sex sender there heard its_link known_facts suspended conns wider s (record j { recall = false }) k,
      ),
    )

    hides : (links : ℕ → Bool) → LinkHidden (Some e) true links → Hidden true links (LinkHidden (Some then_end) true) (Returns on x y ∷ [])
    hides links h =
        (ap links (sym its_link) ∙ h e refl going heard, hidden_still me n m w b after pairs c true on p e then_end sex sender there heard its_link known_facts suspended conns wider links h)
