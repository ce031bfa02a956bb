-- What is counted of each connection, through the requests and the CLSs of both, and what comes to rest: one connection is another,
-- and all else is as it was.
use Rattle.std.proofs.Common.{◌≡◌, ℕ, Bool, true, false, not, if◌then◌else◌, List, [], ◌∷◌, ◌++◌, map, Option, None, Some, is_some, eq-eqb, refl, sym, ap, ◌∙◌, subst}
use Rattle.std.specs.FinMap.{get}
use Rattle.std.specs.Prelude.{slice_set}
use Rattle.std.specs.List.{filter, list_any, position}
use Rattle.std.proofs.lemmas.Bool.{and_parts}
use Rattle.std.proofs.lemmas.List.Elements.{filter-append}
use Rattle.std.proofs.lemmas.List.Quantifiers.{position-Some}
use Rattle.ncp_wire.specs.declared.command.Command.{Command}
use Rattle.ncp_model.specs.Pairs.{sends}
use Rattle.ncp_model.specs.Endpoint.{Endpoint, or_new, is_closing}
use Rattle.ncp_model.specs.Ends.{Ends}
use Rattle.ncp_monitor.specs.declared.conn_state.ConnState.{ConnState}
use Rattle.ncp_monitor.specs.declared.conn_state.FactKind.{FactKind}
use Rattle.ncp_monitor.specs.ConnStates.{SeenTables, unasked_conn, is_of_sockets, conn_at_index, is_topic, is_marked, with_conn, link_suspended_now, suspended_pair}
use Rattle.ncp_interface.specs.Sockets.{is_senders}
use Rattle.ncp_monitor.proofs.Shapes.{Shape, Say, Ask, Leave, their_legal, their_step}
use Rattle.ncp_monitor.proofs.LinkOrder.{Sockets, same, same_is}
use Rattle.ncp_monitor.proofs.Firsts.{first, found_first, none_first}
use Rattle.ncp_monitor.proofs.BooksAt.{has_sockets}
use Rattle.ncp_monitor.proofs.Seeing.{seen}
use Rattle.ncp_proof_monitor_allocation.proofs.KeptEnds.{kept, number_if}
use Rattle.ncp_proof_monitor_allocation.proofs.Changed.{pair_at, kept_of, OneEnd, unlike}
use Rattle.ncp_proof_monitor_allocation.proofs.SeenTables.{conn_seen, seen_of, is_suspended, suspended_of, receives_at, OneSeen}
use Rattle.ncp_proof_monitor_allocation.proofs.Resting.{OneSuspended, fact_made}
use Rattle.ncp_proof_monitor_allocation.proofs.Plain.{Plain}
use Rattle.ncp_proof_monitor_allocation.proofs.TextErrors.{AllAdmitted, admitted_more, admitted_wider}
use Rattle.ncp_proof_monitor_allocation.proofs.Words.{Word, Speaks, Grants, Recalls, Returns, Hints, Count, count_of, link_given, Agreed, IsUncounted, FitsEnd, Fits, Hidden, LinkHidden, has_link_of, asked_too, asked_before, NoneCounted, their_count, agreed_more, agreed_hears, agreed_wider, fits_wider, hidden_more, hidden_wider, hidden_from, link_hidden_wider}
use Rattle.ncp_proof_monitor_allocation.proofs.Counted.{is_worded, command_of, words_about, words_of, links_by, AgreedAt, HiddenAt, Counted, map_following, append_nil, words_after, PairsAgree, agreed_at}

pub itself : (p : Sockets) → same p p ≡ true
itself (a, b) = rw (eq-eqb a a refl, eq-eqb b b refl) refl

-- ---- the same connection, if more is suspended

pub agreed_moved : (me n : ℕ) (b after : SeenTables) (o : Option Endpoint) (ws : List Word) (u : Sockets) → conn_seen me n after u ≡ conn_seen me n b u
    → ((link : ℕ) → links_by me n b (receives_at u) link ≡ true → links_by me n after (receives_at u) link ≡ true) → AgreedAt me n b o ws u → AgreedAt me n after o ws u
agreed_moved me n b after o ws u conns wider a =
    subst (λ (x : Option ConnState). Agreed (is_senders u.0) (links_by me n after (receives_at u)) (Fits (is_senders u.0) (links_by me n after (receives_at u)) o) ws (seen x) (count_of x)) (sym conns)
    (agreed_wider (is_senders u.0) (links_by me n b (receives_at u)) (links_by me n after (receives_at u)) (Fits (is_senders u.0) (links_by me n b (receives_at u)) o)
    (Fits (is_senders u.0) (links_by me n after (receives_at u)) o) ws (seen_of me n b u) (count_of (conn_seen me n b u)) wider
    (λ x j f. fits_wider (is_senders u.0) (links_by me n b (receives_at u)) (links_by me n after (receives_at u)) o x j wider f) a)

pub hidden_moved : (me n : ℕ) (b after : SeenTables) (o : Option Endpoint) (ws : List Word) (u : Sockets)
    → ((link : ℕ) → links_by me n b (receives_at u) link ≡ true → links_by me n after (receives_at u) link ≡ true) → HiddenAt me n b o ws u → HiddenAt me n after o ws u
hidden_moved me n b after o ws u wider h =
    hidden_wider (is_senders u.0) (links_by me n b (receives_at u)) (links_by me n after (receives_at u)) (LinkHidden o (is_senders u.0)) (LinkHidden o (is_senders u.0)) ws wider
    (λ x y f g. link_hidden_wider o (is_senders u.0) x y f g) h

-- ---- one connection is another

pub record OneStep (me n : ℕ) (m now : Ends) (b after : SeenTables) (p : Sockets) : Type 0 where
  pub conns : (u : Sockets) → same u p ≡ false → conn_seen me n after u ≡ conn_seen me n b u
  pub ends : (u : Sockets) → same u p ≡ false → get now (pair_at u) ≡ get m (pair_at u)
  pub links : (host : Bool) (link : ℕ) → links_by me n b host link ≡ true → links_by me n after host link ≡ true

pub counted_one : (me n : ℕ) (m now : Ends) (w v : List Command) (b after : SeenTables) (p : Sockets) → OneStep me n m now b after p → (c : Counted me n m w b) (words : List (Sockets × Word)) → filter is_worded v ≡ map command_of words
    → ((u : Sockets) → same u p ≡ false → words_about u words ≡ words_about u c.words)
    → (suspended_of me n after p ≡ false → AgreedAt me n after (get now (pair_at p)) (words_about p words) p) → (suspended_of me n after p ≡ true → HiddenAt me n after (get now (pair_at p)) (words_about p words) p)
    → Plain me n after → AllAdmitted me n v after → Counted me n now v after
counted_one me n m now w v b after p s c words spelled others here hides plain admits = record {
  words = words;
  spelled = spelled;
  agreed = λ u r. agrees u r (same u p) refl;
  hidden = λ u r. hidden_at u r (same u p) refl;
  plain = plain;
  admitted = admits;
}
  where
    agrees : (u : Sockets) → suspended_of me n after u ≡ false → (x : Bool) → same u p ≡ x → AgreedAt me n after (get now (pair_at u)) (words_about u words) u
    agrees u r true e = subst (λ (y : Sockets). AgreedAt me n after (get now (pair_at y)) (words_about y words) y) (sym (same_is u p e)) (here (ap (suspended_of me n after) (sym (same_is u p e)) ∙ r))
    agrees u r false e =
        subst (λ (ws : List Word). AgreedAt me n after (get now (pair_at u)) ws u) (sym (others u e))
        (subst (λ (o : Option Endpoint). AgreedAt me n after o (words_about u c.words) u) (sym (s.ends u e))
        (agreed_moved me n b after (get m (pair_at u)) (words_about u c.words) u (s.conns u e) (s.links (receives_at u)) (c.agreed u (ap is_suspended (sym (s.conns u e)) ∙ r))))

    hidden_at : (u : Sockets) → suspended_of me n after u ≡ true → (x : Bool) → same u p ≡ x → HiddenAt me n after (get now (pair_at u)) (words_about u words) u
    hidden_at u r true e = subst (λ (y : Sockets). HiddenAt me n after (get now (pair_at y)) (words_about y words) y) (sym (same_is u p e)) (hides (ap (suspended_of me n after) (sym (same_is u p e)) ∙ r))
    hidden_at u r false e =
        subst (λ (ws : List Word). HiddenAt me n after (get now (pair_at u)) ws u) (sym (others u e))
        (subst (λ (o : Option Endpoint). HiddenAt me n after o (words_about u c.words) u) (sym (s.ends u e))
        (hidden_moved me n b after (get m (pair_at u)) (words_about u c.words) u (s.links (receives_at u)) (c.hidden u (ap is_suspended (sym (s.conns u e)) ∙ r))))

-- with more words of it

more_others : (p : Sockets) (more : List Word) (words : List (Sockets × Word)) (u : Sockets) → same u p ≡ false → words_about u (words ++ words_of p more) ≡ words_about u words
more_others p more words u e = words_after u p more words ∙ ap (λ (x : Bool). words_about u words ++ (if x then more else [])) e ∙ append_nil (words_about u words)

more_here : (p : Sockets) (more : List Word) (words : List (Sockets × Word)) → words_about p (words ++ words_of p more) ≡ words_about p words ++ more
more_here p more words = words_after p p more words ∙ ap (λ (x : Bool). words_about p words ++ (if x then more else [])) (itself p)

more_spelled : (w made : List Command) (p : Sockets) (more : List Word) (words : List (Sockets × Word)) → filter is_worded w ≡ map command_of words → filter is_worded made ≡ map command_of (words_of p more)
    → filter is_worded (w ++ made) ≡ map command_of (words ++ words_of p more)
more_spelled w made p more words e f =
    filter-append is_worded w made ∙ ap (λ (x : List Command). x ++ filter is_worded made) e ∙ ap (λ (x : List Command). map command_of words ++ x) f ∙ sym (map_following words (words_of p more))

pub facts_links : (me n : ℕ) (b after : SeenTables) → after.known_facts ≡ b.known_facts → (what : FactKind) → is_marked me n what b ≡ true → is_marked me n what after ≡ true
facts_links me n b after e what k = ap (list_any (is_topic me n what)) e ∙ k

-- what is seen of one connection is another, and what is counted of it
pub record SeenStep (me n : ℕ) (b after : SeenTables) (p : Sockets) (x : Option Shape) (k : Count) : Type 0 where
  pub others : (u : Sockets) → same u p ≡ false → conn_seen me n after u ≡ conn_seen me n b u
  pub shape : seen_of me n after p ≡ x
  pub count : count_of (conn_seen me n after p) ≡ k
  pub calm : suspended_of me n after p ≡ false
  pub known_facts : (what : FactKind) → is_marked me n what b ≡ true → is_marked me n what after ≡ true

pub seen_step : (me n : ℕ) (b after : SeenTables) (p : Sockets) (x : Option Shape) (k : Count) → OneSeen me n b after p x → count_of (conn_seen me n after p) ≡ k → suspended_of me n b p ≡ false → SeenStep me n b after p x k
seen_step me n b after p x k one count r = record {
  others = one.others;
  shape = one.seen p ∙ ap (λ (y : Bool). if y then x else seen_of me n b p) (itself p);
  count = count;
  calm = one.calm r;
  known_facts = facts_links me n b after one.known_facts;
}

-- other dues, and marks more
pub step_kept : (me n : ℕ) (b mid after : SeenTables) (p : Sockets) (x : Option Shape) (k : Count) → after.conns ≡ mid.conns → ((what : FactKind) → is_marked me n what mid ≡ true → is_marked me n what after ≡ true)
    → SeenStep me n b mid p x k → SeenStep me n b after p x k
step_kept me n b mid after p x k conns known_facts s = record {
  others = λ u d. there u ∙ s.others u d;
  shape = ap seen (there p) ∙ s.shape;
  count = ap count_of (there p) ∙ s.count;
  calm = ap is_suspended (there p) ∙ s.calm;
  known_facts = λ what z. known_facts what (s.known_facts what z);
}
  where
    there : (u : Sockets) → conn_seen me n after u ≡ conn_seen me n mid u
    there u = ap (λ (xs : List ConnState). first (is_of_sockets me n u.0 u.1) xs) conns

-- ---- the other asks, or leaves, and it is right

-- what the end becomes: with the numbers that it had, or those of a new one; or on its way out
pub record HeardNumbers (d e : Endpoint) : Type 0 where
  pub messages : e.messages ≡ d.messages
  pub bits : e.bits ≡ d.bits
  pub recall : e.recall ≡ d.recall
  pub going : is_closing e ≡ false → is_closing d ≡ false

abbrev pub HeardEnd : Say → Option Endpoint → Option Endpoint → Type 0
HeardEnd (Ask n) before o = (e : Endpoint) → o ≡ Some e → HeardNumbers (or_new before) e
HeardEnd Leave before o = (e : Endpoint) → o ≡ Some e → is_closing e ≡ true

-- where nothing is counted it is so of the end
pub uncounted_fits : (sending : Bool) (links : ℕ → Bool) (e : Endpoint) (x : Option Shape) (j : Count) → IsUncounted e j → FitsEnd sending links e x j
uncounted_fits sending links e x j c = record {
  given = λ l k r. record {
    messages = ap (λ (y : Count). y.messages) c.none ∙ sym c.messages;
    bits = ap (λ (y : Count). y.bits) c.none ∙ sym c.bits;
    recall = λ y z. ap (λ (i : Count). i.recall) c.none;
  };
  ungiven = λ k. c;
}

heard_uncounted : (d e : Endpoint) (j : Count) → HeardNumbers d e → IsUncounted d j → IsUncounted e j
heard_uncounted d e j h c = record { messages = h.messages ∙ c.messages; bits = h.bits ∙ c.bits; none = c.none }

asks_fits : (sending : Bool) (links : ℕ → Bool) (k : ℕ) (d e : Endpoint) (y : Option Shape) (j : Count) → HeardNumbers d e → their_legal (Ask k) y ≡ true → FitsEnd sending links d y j → FitsEnd sending links e (their_step (Ask k) y) j
asks_fits true links k d e y j h t f = uncounted_fits true links e (their_step (Ask k) y) j (heard_uncounted d e j h (f.ungiven (unasked y t)))
  where
    unasked : (y : Option Shape) → their_legal (Ask k) y ≡ true → link_given true y ≡ None
    unasked None t = refl
    unasked (Some s) t = go s.others (and_parts (not (is_some s.others)) (not s.cls) t).0
      where
        go : (x : Option ℕ) → not (is_some x) ≡ true → x ≡ None
        go None z = refl
        go (Some l) z = absurd (cc z)
asks_fits false links k d e y j h t f = record {
  given = λ l g r. let c = f.given l (sym (unmoved y) ∙ g) r in record { messages = c.messages ∙ sym h.messages; bits = c.bits ∙ sym h.bits; recall = λ u v. c.recall u (sym h.recall ∙ v) };
  ungiven = λ g. heard_uncounted d e j h (f.ungiven (sym (unmoved y) ∙ g));
}
  where
    unmoved : (y : Option Shape) → link_given false (their_step (Ask k) y) ≡ link_given false y
    unmoved None = refl
    unmoved (Some s) = refl

pub heard_fits : (x : Say) (sending keeps : Bool) (links : ℕ → Bool) (before o : Option Endpoint) (y : Option Shape) (j : Count) → HeardEnd x before o → y ≡ kept keeps before → NoneCounted y j → their_legal x y ≡ true
    → Fits sending links before y j → Fits sending links o (their_step x y) (their_count x y j)
heard_fits (Ask k) sending keeps links None o y j h i z t f e g n =
    uncounted_fits sending links e (their_step (Ask k) y) j (record { messages = (h e g).messages; bits = (h e g).bits; none = z i })
heard_fits (Ask k) sending keeps links (Some d) o y j h i z t f e g n = asks_fits sending links k d e y j (h e g) t (f d refl ((h e g).going n))
heard_fits Leave sending keeps links before o y j h i z t f e g n = let nay : true ≡ false = sym (h e g) ∙ n in absurd (cc nay)

-- the link of an end is that of the shape that is kept

link_of_end : (sending keeps : Bool) (e : Endpoint) → keeps ≡ sending → has_link_of sending e ≡ true → link_given sending (kept keeps (Some e)) ≡ Some e.link
link_of_end true true e k h = ap (λ (b : Bool). number_if b e.link) h
link_of_end false false e k h = ap (λ (b : Bool). number_if b e.link) h
link_of_end true false e k h = absurd (cc k)
link_of_end false true e k h = absurd (cc k)

pub kept_hidden : (m : Ends) (p : Sockets) → (is_some (get m (pair_at p)) ≡ true → sends (pair_at p) ≡ is_senders p.0) → (known : ℕ → Bool) → ((l : ℕ) → link_given (is_senders p.0) (kept_of m p) ≡ Some l → known l ≡ true)
    → LinkHidden (get m (pair_at p)) (is_senders p.0) known
kept_hidden m p sex known f e g z h =
    f e.link (ap (λ (o : Option Endpoint). link_given (is_senders p.0) (kept (sends (pair_at p)) o)) g ∙ link_of_end (is_senders p.0) (sends (pair_at p)) e (sex (ap is_some g)) h)

-- the links that rest are among those known
hidden_knows : (sending : Bool) (base known : ℕ → Bool) (last : (ℕ → Bool) → Type 0) (ws : List Word) → ((l : ℕ) → base l ≡ true → known l ≡ true) → Hidden sending known last ws
    → Hidden sending known (λ h. last h × ((l : ℕ) → base l ≡ true → h l ≡ true)) ws
hidden_knows sending base known last [] f h = (h, f)
hidden_knows sending base known last (Speaks (Ask k) ∷ ws) f h = hidden_knows sending base (asked_too sending k known) last ws (λ l e. asked_before sending k known l (f l e)) h
hidden_knows sending base known last (Speaks Leave ∷ ws) f h = hidden_knows sending base known last ws f h
hidden_knows sending base known last (Grants link messages bits ∷ ws) f (k, h) = (k, hidden_knows sending base known last ws f h)
hidden_knows sending base known last (Recalls link of_messages of_bits ∷ ws) f (k, h) = (k, hidden_knows sending base known last ws f h)
hidden_knows sending base known last (Returns link messages bits ∷ ws) f (k, h) = (k, hidden_knows sending base known last ws f h)
hidden_knows sending base known last (Hints link ∷ ws) f (k, h) = (k, hidden_knows sending base known last ws f h)

module _ (me n : ℕ) (m now : Ends) (w made : List Command) (b after : SeenTables) (p : Sockets) (more : List Word) (spelled : filter is_worded made ≡ map command_of (words_of p more)) (c : Counted me n m w b) (pairs : PairsAgree me n m w b) (plain : Plain me n after) (admits : AllAdmitted me n made after) where
  abbrev s : Bool
  s = is_senders p.0

  abbrev links : ℕ → Bool
  links = links_by me n b (receives_at p)

  abbrev then_links : ℕ → Bool
  then_links = links_by me n after (receives_at p)

  -- more is what the host makes of it
  pub heard_counted : (x : Say) (o : Option Endpoint) → SeenStep me n b after p (their_step x (seen_of me n b p)) (their_count x (seen_of me n b p) (count_of (conn_seen me n b p)))
      → their_legal x (seen_of me n b p) ≡ true → suspended_of me n b p ≡ false → OneEnd m now (pair_at p) o → HeardEnd x (get m (pair_at p)) o
      → ((known : ℕ → Bool) (y : Option Shape) (j : Count) → y ≡ their_step x (kept_of m p) → Fits s known o y j → Agreed s known (Fits s known o) more y j)
      → Counted me n now (w ++ made) after
  heard_counted x o step legal r end heard spoken =
      counted_one me n m now w (w ++ made) b after p
      (record { conns = step.others; ends = λ u d. end.elsewhere (pair_at u) (unlike u p d); links = λ host link k. step.known_facts (FactKind.LinkSuspended host link) k })
      c (c.words ++ words_of p more) (more_spelled w made p more c.words c.spelled spelled) (λ u d. more_others p more c.words u d)
      (λ z. subst (λ (ws : List Word). AgreedAt me n after (get now (pair_at p)) ws p) (sym (more_here p more c.words)) (subst (λ (q : Option Endpoint). AgreedAt me n after q (words_about p c.words ++ more) p) (sym end.there) here))
      (λ z. let nay : false ≡ true = sym step.calm ∙ z in absurd (cc nay))
      plain (admitted_more me n w made after (admitted_wider me n w b after (λ bytes k. step.known_facts (FactKind.Admits true bytes) k) c.admitted) admits)
    where
      behind : Agreed s links (λ y j. (y ≡ their_step x (kept_of m p)) × Fits s links o y j) (words_about p c.words) (their_step x (seen_of me n b p)) (their_count x (seen_of me n b p) (count_of (conn_seen me n b p)))
      behind =
          agreed_hears x s links (λ y j. (y ≡ kept_of m p) × (NoneCounted y j × Fits s links (get m (pair_at p)) y j)) (λ y j. (y ≡ their_step x (kept_of m p)) × Fits s links o y j) (words_about p c.words)
          (seen_of me n b p) (count_of (conn_seen me n b p)) legal
          (λ y j t f. (ap (their_step x) f.0, heard_fits x s (sends (pair_at p)) links (get m (pair_at p)) o y j heard f.0 f.1.0 t f.1.1))
          (agreed_at me n m w b p r pairs c)

      with_more : Agreed s links (Fits s links o) (words_about p c.words ++ more) (their_step x (seen_of me n b p)) (their_count x (seen_of me n b p) (count_of (conn_seen me n b p)))
      with_more =
          agreed_more s links (λ y j. (y ≡ their_step x (kept_of m p)) × Fits s links o y j) (Fits s links o) more (words_about p c.words) (their_step x (seen_of me n b p)) (their_count x (seen_of me n b p) (count_of (conn_seen me n b p)))
          (λ y j f. spoken links y j f.0 f.1) behind

      here : AgreedAt me n after o (words_about p c.words ++ more) p
      here =
          subst (λ (y : Option Shape). Agreed s then_links (Fits s then_links o) (words_about p c.words ++ more) y (count_of (conn_seen me n after p))) (sym step.shape)
          (subst (Agreed s then_links (Fits s then_links o) (words_about p c.words ++ more) (their_step x (seen_of me n b p))) (sym step.count)
          (agreed_wider s links then_links (Fits s links o) (Fits s then_links o) (words_about p c.words ++ more) (their_step x (seen_of me n b p)) (their_count x (seen_of me n b p) (count_of (conn_seen me n b p)))
          (λ link k. step.known_facts (FactKind.LinkSuspended (receives_at p) link) k)
          (λ y j f. fits_wider s links then_links o y j (λ link k. step.known_facts (FactKind.LinkSuspended (receives_at p) link) k) f)
          with_more))

  -- ---- a connection becomes suspended, or is suspended, with any resulting end

  pub suspended_counted : (o : Option Endpoint) → OneSuspended me n b after p → OneEnd m now (pair_at p) o → (is_some (get m (pair_at p)) ≡ true → sends (pair_at p) ≡ s)
      → (suspended_of me n b p ≡ false → (l : ℕ) → link_given s (seen_of me n b p) ≡ Some l → then_links l ≡ true)
      → ((known : ℕ → Bool) → ((l : ℕ) → then_links l ≡ true → known l ≡ true) → LinkHidden (get m (pair_at p)) s known → Hidden s known (LinkHidden o s) more)
      → Counted me n now (w ++ made) after
  suspended_counted o k end sex marked quiet =
      counted_one me n m now w (w ++ made) b after p
      (record { conns = k.seen; ends = λ u d. end.elsewhere (pair_at u) (unlike u p d); links = λ host link z. k.known_facts (FactKind.LinkSuspended host link) z })
      c (c.words ++ words_of p more) (more_spelled w made p more c.words c.spelled spelled) (λ u d. more_others p more c.words u d)
      (λ z. let nay : true ≡ false = sym k.suspended ∙ z in absurd (cc nay))
      (λ z. subst (λ (ws : List Word). HiddenAt me n after (get now (pair_at p)) ws p) (sym (more_here p more c.words)) (subst (λ (q : Option Endpoint). HiddenAt me n after q (words_about p c.words ++ more) p) (sym end.there) here))
      plain (admitted_more me n w made after (admitted_wider me n w b after (λ bytes z. k.known_facts (FactKind.Admits true bytes) z) c.admitted) admits)
    where
      hidden_before : HiddenAt me n after (get m (pair_at p)) (words_about p c.words) p
      hidden_before = go (suspended_of me n b p) refl
        where
          go : (x : Bool) → suspended_of me n b p ≡ x → HiddenAt me n after (get m (pair_at p)) (words_about p c.words) p
          go true e = hidden_moved me n b after (get m (pair_at p)) (words_about p c.words) p (λ link z. k.known_facts (FactKind.LinkSuspended (receives_at p) link) z) (c.hidden p e)
          go false e =
              hidden_from s links then_links (λ y j. (y ≡ kept_of m p) × (NoneCounted y j × Fits s links (get m (pair_at p)) y j)) (LinkHidden (get m (pair_at p)) s) (words_about p c.words) (seen_of me n b p)
              (count_of (conn_seen me n b p)) (marked e) (λ y j known f g. kept_hidden m p sex known (λ l q. f l (ap (link_given s) g.0 ∙ q))) (agreed_at me n m w b p e pairs c)

      here : HiddenAt me n after o (words_about p c.words ++ more) p
      here =
          hidden_more s then_links (λ h. LinkHidden (get m (pair_at p)) s h × ((l : ℕ) → then_links l ≡ true → h l ≡ true)) (LinkHidden o s) more (words_about p c.words)
          (λ known f. quiet known f.1 f.0)
          (hidden_knows s then_links then_links (LinkHidden (get m (pair_at p)) s) (words_about p c.words) (λ l z. z) hidden_before)

-- the link of a pair that comes to rest is marked with it

conn_link : (sending : Bool) (conn : ConnState) → is_senders conn.local ≡ sending → link_given sending (seen (Some conn)) ≡ conn.link
conn_link sending conn e = ap (λ (b : Bool). if sending then if b then conn.link else conn.size else if b then conn.size else conn.link) e ∙ by sending
  where
    by : (b : Bool) → (if b then if b then conn.link else conn.size else if b then conn.size else conn.link) ≡ conn.link
    by true = refl
    by false = refl

pub pair_marked : (me n : ℕ) (p : Sockets) (b : SeenTables) → (suspended_pair me n p.0 p.1 b).full ≡ false → (l : ℕ) → link_given (is_senders p.0) (seen_of me n b p) ≡ Some l → links_by me n (suspended_pair me n p.0 p.1 b) (receives_at p) l ≡ true
pair_marked me n p b f l g = go (position its b.conns) refl f
  where
    its : ConnState → Bool
    its = is_of_sockets me n p.0 p.1

    put_in : ℕ → SeenTables
    put_in i = record b { conns = slice_set b.conns i (record (conn_at_index b.conns i) { suspended = true }) }

    link_rested : ℕ → Option ℕ → SeenTables
    link_rested i None = put_in i
    link_rested i (Some link) = link_suspended_now me n (not (is_senders (conn_at_index b.conns i).local)) link (put_in i)

    rested : Option ℕ → SeenTables
    rested None = with_conn b (record (unasked_conn me n p.0 p.1) { suspended = true })
    rested (Some i) = link_rested i (conn_at_index b.conns i).link

    by_link : (i : ℕ) → position its b.conns ≡ Some i → (o : Option ℕ) → (conn_at_index b.conns i).link ≡ o → (link_rested i o).full ≡ false → is_marked me n (FactKind.LinkSuspended (receives_at p) l) (link_rested i o) ≡ true
    by_link i e o k f = marked o k f (sym given ∙ g)
      where
        sockets : (conn_at_index b.conns i).local ≡ p.0
        sockets = (has_sockets me n p.0 p.1 (conn_at_index b.conns i) (position-Some its b.conns i (unasked_conn 0 0 0 0) e).1).local

        given : link_given (is_senders p.0) (seen_of me n b p) ≡ (conn_at_index b.conns i).link
        given = ap (λ (x : Option ConnState). link_given (is_senders p.0) (seen x)) (found_first its b.conns i (unasked_conn 0 0 0 0) e) ∙ conn_link (is_senders p.0) (conn_at_index b.conns i) (ap is_senders sockets)

        marked : (o : Option ℕ) → (conn_at_index b.conns i).link ≡ o → (link_rested i o).full ≡ false → (conn_at_index b.conns i).link ≡ Some l → is_marked me n (FactKind.LinkSuspended (receives_at p) l) (link_rested i o) ≡ true
        marked None k f h = let nay : None ≡ Some l = sym k ∙ h in absurd (cc nay)
        marked (Some link) k f h =
            let is : link ≡ l = cc (sym k ∙ h) in
            ap (λ (y : ℕ). is_marked me n (FactKind.LinkSuspended (not (is_senders p.0)) y) (link_rested i (Some link))) (sym is)
            ∙ ap (λ (y : ℕ). is_marked me n (FactKind.LinkSuspended (not (is_senders y)) link) (link_rested i (Some link))) (sym sockets)
            ∙ fact_made me n (FactKind.LinkSuspended (not (is_senders (conn_at_index b.conns i).local)) link) (put_in i) f

    go : (o : Option ℕ) → position its b.conns ≡ o → (rested o).full ≡ false → is_marked me n (FactKind.LinkSuspended (receives_at p) l) (rested o) ≡ true
    go None e f = let nay : None ≡ Some l = sym (ap (λ (x : Option ConnState). link_given (is_senders p.0) (seen x)) (none_first its b.conns e)) ∙ g in absurd (cc nay)
    go (Some i) e f = by_link i e (conn_at_index b.conns i).link refl f
