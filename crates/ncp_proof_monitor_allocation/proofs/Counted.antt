-- The counts of each connection, as observed while words of the host are queued: each queued word belongs
-- to one connection, and after all of them the counts are those of the host.
use Rattle.std.proofs.Common.{◌≡◌, ℕ, ◌==◌, Bool, true, false, ◌&&◌, if◌then◌else◌, List, [], ◌∷◌, ◌++◌, map, Option, None, Some, refl, sym, ap, ◌∙◌, subst}
use Rattle.std.specs.FinMap.{get}
use Rattle.std.specs.List.{filter}
use Rattle.std.proofs.lemmas.List.Elements.{filter-append}
use Rattle.ncp_wire.specs.declared.command.Command.{Command}
use Rattle.ncp_wire.specs.declared.command.Command.TheVariants.{Nop, Rts, Str, Cls, All, Gvb, Ret, Inr, Ins, Eco, Erp, Err, Rst, Rrp}
use Rattle.ncp_wire.specs.Spelling.{error_of}
use Rattle.ncp_model.specs.declared.pair.Pair.{Pair}
use Rattle.ncp_model.specs.Pairs.{sends}
use Rattle.ncp_model.specs.Endpoint.{Endpoint}
use Rattle.ncp_model.specs.Ends.{Ends}
use Rattle.ncp_monitor.specs.declared.conn_state.ConnState.{ConnState}
use Rattle.ncp_monitor.specs.declared.conn_state.FactKind.{FactKind}
use Rattle.ncp_monitor.specs.ConnStates.{SeenTables, is_of_sockets, is_marked}
use Rattle.ncp_interface.specs.Sockets.{is_senders}
use Rattle.ncp_monitor.proofs.Shapes.{Shape, Say, Ask, Leave, Agrees}
use Rattle.ncp_monitor.proofs.LinkOrder.{Sockets, same, same_is, about}
use Rattle.ncp_monitor.proofs.Firsts.{first}
use Rattle.ncp_monitor.proofs.Seeing.{seen}
use Rattle.ncp_proof_monitor_allocation.proofs.KeptEnds.{kept}
use Rattle.ncp_proof_monitor_allocation.proofs.OwnMoves.{says_of, all_says, sockets_of}
use Rattle.ncp_proof_monitor_allocation.proofs.Changed.{pair_at, kept_of, OneEnd, unlike}
use Rattle.ncp_proof_monitor_allocation.proofs.SeenTables.{conn_seen, seen_of, is_suspended, suspended_of, receives_at}
use Rattle.ncp_proof_monitor_allocation.proofs.Plain.{Plain}
use Rattle.ncp_proof_monitor_allocation.proofs.TextErrors.{is_text_error, AllAdmitted, admitted_more, admitted_wider}
use Rattle.ncp_proof_monitor_allocation.proofs.Words.{Word, Speaks, Grants, Recalls, Returns, Hints, Count, count_of, Agreed, Fits, Hidden, LinkHidden, NoneCounted, says_in, agreed_more, agreed_wider, fits_wider, agreed_kept, hidden_more, hidden_wider, link_hidden_wider}

-- ---- words as commands

-- it names sockets, or a link
abbrev pub is_worded : Command → Bool
is_worded (Rts receive send link) = true
is_worded (Str send receive size) = true
is_worded (Cls my your) = true
is_worded (All link messages bits) = true
is_worded (Gvb link messages bits) = true
is_worded (Ret link messages bits) = true
is_worded (Inr link) = true
is_worded (Ins link) = true
is_worded c = false

-- a word of a connection
abbrev pub command_of : Sockets × Word → Command
command_of (u, Speaks (Ask n)) = if is_senders u.0 then Str u.0 u.1 n else Rts u.0 u.1 n
command_of (u, Speaks Leave) = Cls u.0 u.1
command_of (u, Grants link messages bits) = All link messages bits
command_of (u, Recalls link of_messages of_bits) = Gvb link of_messages of_bits
command_of (u, Returns link messages bits) = Ret link messages bits
command_of (u, Hints link) = if is_senders u.0 then Ins link else Inr link

example_ask : command_of ((4, 3), Speaks (Ask 5)) ≡ Rts 4 3 5
example_ask = refl

example_hint : command_of ((3, 4), Hints 5) ≡ Ins 5
example_hint = refl

-- those of one connection
abbrev pub words_about : Sockets → List (Sockets × Word) → List Word
words_about u [] = []
words_about u ((p, c) ∷ w) = if same u p then c ∷ words_about u w else words_about u w

-- all are of this one
abbrev pub words_of : Sockets → List Word → List (Sockets × Word)
words_of u [] = []
words_of u (c ∷ cs) = (u, c) ∷ words_of u cs

-- ---- the links that rest: on which the host receives, or sends
abbrev pub links_by : ℕ → ℕ → SeenTables → Bool → ℕ → Bool
links_by me n b host link = is_marked me n (FactKind.LinkSuspended host link) b

-- of one connection that does not rest, and of one that does
abbrev pub AgreedAt : ℕ → ℕ → SeenTables → Option Endpoint → List Word → Sockets → Type 0
AgreedAt me n b o ws u =
    Agreed (is_senders u.0) (links_by me n b (receives_at u)) (Fits (is_senders u.0) (links_by me n b (receives_at u)) o) ws (seen_of me n b u) (count_of (conn_seen me n b u))

abbrev pub HiddenAt : ℕ → ℕ → SeenTables → Option Endpoint → List Word → Sockets → Type 0
HiddenAt me n b o ws u = Hidden (is_senders u.0) (links_by me n b (receives_at u)) (LinkHidden o (is_senders u.0)) ws

pub record Counted (me n : ℕ) (m : Ends) (w : List Command) (b : SeenTables) : Type 0 where
  pub words : List (Sockets × Word)
  pub spelled : filter is_worded w ≡ map command_of words
  pub agreed : (u : Sockets) → suspended_of me n b u ≡ false → AgreedAt me n b (get m (pair_at u)) (words_about u words) u
  pub hidden : (u : Sockets) → suspended_of me n b u ≡ true → HiddenAt me n b (get m (pair_at u)) (words_about u words) u
  pub plain : Plain me n b
  pub admitted : AllAdmitted me n w b

-- an ERR about such a command is none about a text
pub command_error_plain : (code : ℕ) (c : Command) → is_worded c ≡ true → is_text_error (error_of code c) ≡ false
command_error_plain code c k = by c k
  where
    go : (b : Bool) → (b && false) ≡ false
    go true = refl
    go false = refl

    by : (c : Command) → is_worded c ≡ true → is_text_error (error_of code c) ≡ false
    by Nop k = absurd (cc k)
    by (Rts receive send link) k = go (code == 5)
    by (Str send receive size) k = go (code == 5)
    by (Cls my your) k = go (code == 5)
    by (All link messages bits) k = go (code == 5)
    by (Gvb link messages bits) k = go (code == 5)
    by (Ret link messages bits) k = go (code == 5)
    by (Inr link) k = go (code == 5)
    by (Ins link) k = go (code == 5)
    by (Eco byte) k = absurd (cc k)
    by (Erp byte) k = absurd (cc k)
    by (Err other bytes) k = absurd (cc k)
    by Rst k = absurd (cc k)
    by Rrp k = absurd (cc k)

-- ---- what is said among them

unsaid : (c : Command) → is_worded c ≡ false → says_of c ≡ []
unsaid Nop e = refl
unsaid (Rts receive send link) e = absurd (cc e)
unsaid (Str send receive size) e = absurd (cc e)
unsaid (Cls my your) e = absurd (cc e)
unsaid (All link messages bits) e = refl
unsaid (Gvb link messages bits) e = refl
unsaid (Ret link messages bits) e = refl
unsaid (Inr link) e = refl
unsaid (Ins link) e = refl
unsaid (Eco byte) e = refl
unsaid (Erp byte) e = refl
unsaid (Err code bytes) e = refl
unsaid Rst e = refl
unsaid Rrp e = refl

says_worded : (w : List Command) → all_says (filter is_worded w) ≡ all_says w
says_worded [] = refl
says_worded (c ∷ w) = go (is_worded c) refl (says_worded w)
  where
    go : (b : Bool) → is_worded c ≡ b → all_says (filter is_worded w) ≡ all_says w → all_says (if b then c ∷ filter is_worded w else filter is_worded w) ≡ says_of c ++ all_says w
    go true e r = ap (λ (xs : List (Sockets × Say)). says_of c ++ xs) r
    go false e r = r ∙ sym (ap (λ (xs : List (Sockets × Say)). xs ++ all_says w) (unsaid c e))

said_words : (u : Sockets) (words : List (Sockets × Word)) → about u (all_says (map command_of words)) ≡ says_in (words_about u words)
said_words u [] = refl
said_words u (((a, b), Speaks (Ask k)) ∷ words) =
    ap (λ (xs : List (Sockets × Say)). about u (xs ++ all_says (map command_of words))) (asks (is_senders a)) ∙ go (same u (a, b)) (said_words u words)
  where
    asks : (s : Bool) → says_of (if s then Str a b k else Rts a b k) ≡ ((a, b), Ask k) ∷ []
    asks true = refl
    asks false = refl

    go : (s : Bool) → about u (all_says (map command_of words)) ≡ says_in (words_about u words)
        → (if s then Ask k ∷ about u (all_says (map command_of words)) else about u (all_says (map command_of words))) ≡ says_in (if s then Speaks (Ask k) ∷ words_about u words else words_about u words)
    go true e = ap (λ (q : List Say). Ask k ∷ q) e
    go false e = e
said_words u (((a, b), Speaks Leave) ∷ words) = go (same u (a, b)) (said_words u words)
  where
    go : (s : Bool) → about u (all_says (map command_of words)) ≡ says_in (words_about u words)
        → (if s then Leave ∷ about u (all_says (map command_of words)) else about u (all_says (map command_of words))) ≡ says_in (if s then Speaks Leave ∷ words_about u words else words_about u words)
    go true e = ap (λ (q : List Say). Leave ∷ q) e
    go false e = e
said_words u ((p, Grants link messages bits) ∷ words) = said_words u words ∙ go (same u p)
  where
    go : (s : Bool) → says_in (words_about u words) ≡ says_in (if s then Grants link messages bits ∷ words_about u words else words_about u words)
    go true = refl
    go false = refl
said_words u ((p, Recalls link of_messages of_bits) ∷ words) = said_words u words ∙ go (same u p)
  where
    go : (s : Bool) → says_in (words_about u words) ≡ says_in (if s then Recalls link of_messages of_bits ∷ words_about u words else words_about u words)
    go true = refl
    go false = refl
said_words u ((p, Returns link messages bits) ∷ words) = said_words u words ∙ go (same u p)
  where
    go : (s : Bool) → says_in (words_about u words) ≡ says_in (if s then Returns link messages bits ∷ words_about u words else words_about u words)
    go true = refl
    go false = refl
said_words u ((p, Hints link) ∷ words) = ap (λ (xs : List (Sockets × Say)). about u (xs ++ all_says (map command_of words))) (none (is_senders p.0)) ∙ said_words u words ∙ go (same u p)
  where
    none : (s : Bool) → says_of (if s then Ins link else Inr link) ≡ []
    none true = refl
    none false = refl

    go : (s : Bool) → says_in (words_about u words) ≡ says_in (if s then Hints link ∷ words_about u words else words_about u words)
    go true = refl
    go false = refl

pub words_says : (w : List Command) (words : List (Sockets × Word)) → filter is_worded w ≡ map command_of words → (u : Sockets) → about u (all_says w) ≡ says_in (words_about u words)
words_says w words e u = ap (about u) (sym (says_worded w)) ∙ ap (λ (x : List Command). about u (all_says x)) e ∙ said_words u words

-- ---- the first that waits

pub record FirstWord (c : Command) (w : List Command) (words : List (Sockets × Word)) : Type 0 where
  pub at : Sockets
  pub word : Word
  pub rest : List (Sockets × Word)
  pub are : words ≡ (at, word) ∷ rest
  pub spells : command_of (at, word) ≡ c
  pub spelled : filter is_worded w ≡ map command_of rest

pub first_word : (c : Command) (w : List Command) (words : List (Sockets × Word)) → is_worded c ≡ true → filter is_worded (c ∷ w) ≡ map command_of words → FirstWord c w words
first_word c w words k e = go words (sym (ap (λ (b : Bool). if b then c ∷ filter is_worded w else filter is_worded w) k) ∙ e)
  where
    go : (words : List (Sockets × Word)) → c ∷ filter is_worded w ≡ map command_of words → FirstWord c w words
    go [] e = absurd (cc e)
    go ((at, word) ∷ rest) e = record { at = at; word = word; rest = rest; are = refl; spells = sym (cc e); spelled = cc e }

-- ---- one more, or several, of one connection

pub map_following : (xs ys : List (Sockets × Word)) → map command_of (xs ++ ys) ≡ map command_of xs ++ map command_of ys
map_following [] ys = refl
map_following (x ∷ xs) ys = ap (λ (cs : List Command). command_of x ∷ cs) (map_following xs ys)

pub append_nil : (ws : List Word) → ws ++ [] ≡ ws
append_nil [] = refl
append_nil (w ∷ ws) = ap (λ (xs : List Word). w ∷ xs) (append_nil ws)

pub words_after : (u p : Sockets) (more : List Word) (words : List (Sockets × Word)) → words_about u (words ++ words_of p more) ≡ words_about u words ++ (if same u p then more else [])
words_after u p more [] = all more
  where
    all : (more : List Word) → words_about u (words_of p more) ≡ (if same u p then more else [])
    all [] = nothing (same u p)
      where
        nothing : (b : Bool) → ◌≡◌ {A = List Word} [] (if b then [] else [])
        nothing true = refl
        nothing false = refl
    all (c ∷ cs) = go (same u p) (all cs)
      where
        go : (b : Bool) → words_about u (words_of p cs) ≡ (if b then cs else []) → (if b then c ∷ words_about u (words_of p cs) else words_about u (words_of p cs)) ≡ (if b then c ∷ cs else [])
        go true e = ap (λ (xs : List Word). c ∷ xs) e
        go false e = e
words_after u p more ((q, d) ∷ words) = go (same u q) (words_after u p more words)
  where
    go : (b : Bool) → words_about u (words ++ words_of p more) ≡ words_about u words ++ (if same u p then more else [])
        → (if b then d ∷ words_about u (words ++ words_of p more) else words_about u (words ++ words_of p more)) ≡ (if b then d ∷ words_about u words else words_about u words) ++ (if same u p then more else [])
    go true e = ap (λ (xs : List Word). d ∷ xs) e
    go false e = e

pub none_seen : (o : Option ConnState) → NoneCounted (seen o) (count_of o)
none_seen None e = refl
none_seen (Some conn) e = absurd (cc e)

-- the commands that a host makes for one connection, as words: right for the state before, and leading to
-- the state after
pub record Worded (pair : Pair) (before after : Option Endpoint) (made : List Command) : Type 0 where
  pub more : List Word
  pub spelled : filter is_worded made ≡ map command_of (words_of (sockets_of pair) more)
  pub agreed : (links : ℕ → Bool) (x : Option Shape) (j : Count) → x ≡ kept (sends pair) before → NoneCounted x j → Fits (is_senders pair.local) links before x j
      → Agreed (is_senders pair.local) links (Fits (is_senders pair.local) links after) more x j
  pub hidden : (links : ℕ → Bool) → LinkHidden before (is_senders pair.local) links → Hidden (is_senders pair.local) links (LinkHidden after (is_senders pair.local)) more

-- what waits agrees with what is kept
abbrev pub PairsAgree : ℕ → ℕ → Ends → List Command → SeenTables → Type 0
PairsAgree me n m w b = (u : Sockets) → suspended_of me n b u ≡ false → Agrees (about u (all_says w)) (kept_of m u) (seen_of me n b u)

-- after all queued words the shape is also the one that the host keeps
pub agreed_at : (me n : ℕ) (m : Ends) (w : List Command) (b : SeenTables) (u : Sockets) → suspended_of me n b u ≡ false → PairsAgree me n m w b → (c : Counted me n m w b)
    → Agreed (is_senders u.0) (links_by me n b (receives_at u)) (λ x j. (x ≡ kept_of m u) × (NoneCounted x j × Fits (is_senders u.0) (links_by me n b (receives_at u)) (get m (pair_at u)) x j)) (words_about u c.words) (seen_of me n b u) (count_of (conn_seen me n b u))
agreed_at me n m w b u r pairs c =
    agreed_kept (is_senders u.0) (links_by me n b (receives_at u)) (Fits (is_senders u.0) (links_by me n b (receives_at u)) (get m (pair_at u))) (words_about u c.words) (kept_of m u) (seen_of me n b u) (count_of (conn_seen me n b u))
    (subst (λ (q : List Say). Agrees q (kept_of m u) (seen_of me n b u)) (words_says w c.words c.spelled u) (pairs u r)) (none_seen (conn_seen me n b u)) (c.agreed u r)

pub counted_more : (me n : ℕ) (m now : Ends) (pair : Pair) (after : Option Endpoint) (made w : List Command) (b : SeenTables) → OneEnd m now pair after → Worded pair (get m pair) after made → AllAdmitted me n made b
    → PairsAgree me n m w b → Counted me n m w b → Counted me n now (w ++ made) b
counted_more me n m now pair after made w b one worded admits pairs c = record {
  words = c.words ++ words_of p worded.more;
  spelled = filter-append is_worded w made ∙ ap (λ (x : List Command). x ++ filter is_worded made) c.spelled ∙ ap (λ (x : List Command). map command_of c.words ++ x) worded.spelled ∙ sym (map_following c.words (words_of p worded.more));
  agreed = λ u r. subst (λ (ws : List Word). AgreedAt me n b (get now (pair_at u)) ws u) (sym (words_after u p worded.more c.words)) (agrees u r (same u p) refl);
  hidden = λ u r. subst (λ (ws : List Word). HiddenAt me n b (get now (pair_at u)) ws u) (sym (words_after u p worded.more c.words)) (hides u r (same u p) refl);
  plain = c.plain;
  admitted = admitted_more me n w made b c.admitted admits;
}
  where
    p : Sockets
    p = sockets_of pair

    agrees_here : suspended_of me n b p ≡ false → AgreedAt me n b (get now (pair_at p)) (words_about p c.words ++ worded.more) p
    agrees_here r =
        subst (λ (o : Option Endpoint). AgreedAt me n b o (words_about p c.words ++ worded.more) p) (sym one.there)
        (agreed_more (is_senders p.0) (links_by me n b (receives_at p)) (λ x j. (x ≡ kept_of m p) × (NoneCounted x j × Fits (is_senders p.0) (links_by me n b (receives_at p)) (get m (pair_at p)) x j))
        (Fits (is_senders p.0) (links_by me n b (receives_at p)) after) worded.more (words_about p c.words) (seen_of me n b p) (count_of (conn_seen me n b p))
        (λ x j f. worded.agreed (links_by me n b (receives_at p)) x j f.0 f.1.0 f.1.1)
        (agreed_at me n m w b p r pairs c))

    hides_here : suspended_of me n b p ≡ true → HiddenAt me n b (get now (pair_at p)) (words_about p c.words ++ worded.more) p
    hides_here r =
        subst (λ (o : Option Endpoint). HiddenAt me n b o (words_about p c.words ++ worded.more) p) (sym one.there)
        (hidden_more (is_senders p.0) (links_by me n b (receives_at p)) (LinkHidden (get m pair) (is_senders p.0)) (LinkHidden after (is_senders p.0)) worded.more (words_about p c.words)
        (λ links h. worded.hidden links h) (c.hidden p r))

    agrees : (u : Sockets) → suspended_of me n b u ≡ false → (s : Bool) → same u p ≡ s → AgreedAt me n b (get now (pair_at u)) (words_about u c.words ++ (if s then worded.more else [])) u
    agrees u r true s = subst (λ (v : Sockets). AgreedAt me n b (get now (pair_at v)) (words_about v c.words ++ worded.more) v) (sym (same_is u p s)) (agrees_here (ap (suspended_of me n b) (sym (same_is u p s)) ∙ r))
    agrees u r false s =
        subst (λ (ws : List Word). AgreedAt me n b (get now (pair_at u)) ws u) (sym (append_nil (words_about u c.words)))
        (subst (λ (o : Option Endpoint). AgreedAt me n b o (words_about u c.words) u) (sym (one.elsewhere (pair_at u) (unlike u p s))) (c.agreed u r))

    hides : (u : Sockets) → suspended_of me n b u ≡ true → (s : Bool) → same u p ≡ s → HiddenAt me n b (get now (pair_at u)) (words_about u c.words ++ (if s then worded.more else [])) u
    hides u r true s = subst (λ (v : Sockets). HiddenAt me n b (get now (pair_at v)) (words_about v c.words ++ worded.more) v) (sym (same_is u p s)) (hides_here (ap (suspended_of me n b) (sym (same_is u p s)) ∙ r))
    hides u r false s =
        subst (λ (ws : List Word). HiddenAt me n b (get now (pair_at u)) ws u) (sym (append_nil (words_about u c.words)))
        (subst (λ (o : Option Endpoint). HiddenAt me n b o (words_about u c.words) u) (sym (one.elsewhere (pair_at u) (unlike u p s))) (c.hidden u r))

-- ---- nothing waits, and nothing is there

pub counted_begins : (me n : ℕ) (m : Ends) (w : List Command) (b : SeenTables) → ((pair : Pair) → get m pair ≡ None) → filter is_worded w ≡ [] → Plain me n b → AllAdmitted me n w b → Counted me n m w b
counted_begins me n m w b none unworded plain admits = record {
  words = [];
  spelled = unworded;
  agreed = λ u r e g. absurd (cc (sym (none (pair_at u)) ∙ g));
  hidden = λ u r e g. absurd (cc (sym (none (pair_at u)) ∙ g));
  plain = plain;
  admitted = admits;
}

-- ---- more is suspended, with the same connections

pub counted_wider : (me n : ℕ) (m : Ends) (w v : List Command) (b after : SeenTables) → ((u : Sockets) → conn_seen me n after u ≡ conn_seen me n b u)
    → ((host : Bool) (link : ℕ) → links_by me n b host link ≡ true → links_by me n after host link ≡ true) → filter is_worded v ≡ filter is_worded w → Plain me n after → AllAdmitted me n v after
    → Counted me n m w b → Counted me n m v after
counted_wider me n m w v b after conns wider same_words plain admits c = record {
  words = c.words;
  spelled = same_words ∙ c.spelled;
  agreed = λ u r.
      subst (λ (o : Option ConnState). Agreed (is_senders u.0) (links_by me n after (receives_at u)) (Fits (is_senders u.0) (links_by me n after (receives_at u)) (get m (pair_at u))) (words_about u c.words) (seen o) (count_of o)) (sym (conns u))
      (agreed_wider (is_senders u.0) (links_by me n b (receives_at u)) (links_by me n after (receives_at u)) (Fits (is_senders u.0) (links_by me n b (receives_at u)) (get m (pair_at u)))
      (Fits (is_senders u.0) (links_by me n after (receives_at u)) (get m (pair_at u))) (words_about u c.words) (seen_of me n b u) (count_of (conn_seen me n b u)) (wider (receives_at u))
      (λ x j f. fits_wider (is_senders u.0) (links_by me n b (receives_at u)) (links_by me n after (receives_at u)) (get m (pair_at u)) x j (wider (receives_at u)) f)
      (c.agreed u (ap is_suspended (sym (conns u)) ∙ r)));
  hidden = λ u r.
      hidden_wider (is_senders u.0) (links_by me n b (receives_at u)) (links_by me n after (receives_at u)) (LinkHidden (get m (pair_at u)) (is_senders u.0)) (LinkHidden (get m (pair_at u)) (is_senders u.0)) (words_about u c.words)
      (wider (receives_at u)) (λ x y f h. link_hidden_wider (get m (pair_at u)) (is_senders u.0) x y f h) (c.hidden u (ap is_suspended (sym (conns u)) ∙ r));
  plain = plain;
  admitted = admits;
}

-- ---- the books know more, of the same connections

-- links that rest and ERRs that are admitted stay so
pub record FactsStay (me n : ℕ) (b after : SeenTables) : Type 0 where
  pub links : (host : Bool) (link : ℕ) → links_by me n b host link ≡ true → links_by me n after host link ≡ true
  pub admits : (bytes : List ℕ) → is_marked me n (FactKind.Admits true bytes) b ≡ true → is_marked me n (FactKind.Admits true bytes) after ≡ true

pub all_stay : (me n : ℕ) (b after : SeenTables) → ((what : FactKind) → is_marked me n what b ≡ true → is_marked me n what after ≡ true) → FactsStay me n b after
all_stay me n b after f = record { links = λ host link k. f (FactKind.LinkSuspended host link) k; admits = λ bytes k. f (FactKind.Admits true bytes) k }

pub counted_kept : (me n : ℕ) (m : Ends) (w : List Command) (b after : SeenTables) → after.conns ≡ b.conns → FactsStay me n b after → Plain me n after → Counted me n m w b → Counted me n m w after
counted_kept me n m w b after conns stay plain c =
    counted_wider me n m w w b after (λ u. ap (λ (xs : List ConnState). first (is_of_sockets me n u.0 u.1) xs) conns) stay.links refl plain (admitted_wider me n w b after stay.admits c.admitted) c

-- nothing waits, and what was admitted is forgotten
pub counted_unsaid : (me n : ℕ) (m : Ends) (b after : SeenTables) → after.conns ≡ b.conns → ((host : Bool) (link : ℕ) → links_by me n b host link ≡ true → links_by me n after host link ≡ true) → Plain me n after
    → Counted me n m [] b → Counted me n m [] after
counted_unsaid me n m b after conns known_facts plain c =
    counted_wider me n m [] [] b after (λ u. ap (λ (xs : List ConnState). first (is_of_sockets me n u.0 u.1) xs) conns) known_facts refl plain tt c

-- ---- a command that is no word is queued, or sent

pub counted_gone : (me n : ℕ) (m : Ends) (c : Command) (w : List Command) (b : SeenTables) → is_worded c ≡ false → Counted me n m (c ∷ w) b → Counted me n m w b
counted_gone me n m c w b k d = counted_wider me n m (c ∷ w) w b b (λ u. refl) (λ host link z. z) (sym (ap (λ (x : Bool). if x then c ∷ filter is_worded w else filter is_worded w) k)) d.plain d.admitted.1 d
