-- The counts of each connection when a local RTS, STR or CLS is sent; the counts in the connection tables
-- after a request and a CLS; and the end that hears one.
use Rattle.std.proofs.Common.{◌≡◌, ℕ, ◌==◌, Bool, true, false, not, ◌&&◌, ◌||◌, if◌then◌else◌, List, [], ◌∷◌, length, Option, None, Some, is_some, refl, sym, ap, ◌∙◌, subst}
use Rattle.std.specs.FinMap.{get}
use Rattle.std.specs.Prelude.{nat_lt}
use Rattle.std.specs.List.{position}
use Rattle.std.proofs.lemmas.Bool.{eqb-true}
use Rattle.ncp_wire.specs.declared.command.Command.{Command}
use Rattle.ncp_wire.specs.declared.command.Command.TheVariants.{Nop, Rts, Str, Cls, All, Gvb, Ret, Inr, Ins, Eco, Erp, Err, Rst, Rrp}
use Rattle.ncp_model.specs.declared.pair.Pair.{Pair}
use Rattle.ncp_model.specs.declared.outcomes.Heard.TheVariants.{Nothing, Reply}
use Rattle.ncp_model.specs.Pairs.{sends, receives, is_proper}
use Rattle.ncp_model.specs.Endpoint.{Endpoint, new_end, or_new, is_ended, is_closing}
use Rattle.ncp_model.specs.Ends.{Ends}
use Rattle.ncp_model.specs.Effect.{Becomes, end_after, leaves, closing, wrong_parameters}
use Rattle.ncp_model.specs.Commands.{errs, heard_link, heard_size, hear_cls, hear_cls_end}
use Rattle.ncp_monitor.specs.declared.conn_state.ConnState.{ConnState}
use Rattle.ncp_interface.specs.declared.request.Request.{Request}
use Rattle.ncp_interface.specs.declared.request.Request.TheVariants.{Link, Size}
use Rattle.ncp_monitor.specs.declared.conn_state.FactKind.{FactKind}
use Rattle.ncp_monitor.specs.declared.observed_flow.ObservedFlow.{ObservedFlow}
use Rattle.ncp_monitor.specs.ConnStates.{SeenTables, is_of_sockets, conn_found, with_request_sent, index_with_sockets, is_marked}
use Rattle.ncp_interface.specs.Sockets.{is_senders}
use Rattle.ncp_monitor.specs.Requests.{asks, closes_side}
use Rattle.ncp_monitor.proofs.Shapes.{Shape, Say, Ask, Leave, legal, own_step, their_legal}
use Rattle.ncp_monitor.proofs.LinkOrder.{Sockets, same}
use Rattle.ncp_monitor.proofs.Firsts.{Unique}
use Rattle.ncp_monitor.proofs.BooksAt.{or_conn, conn_first, after_left, leaves_at}
use Rattle.ncp_monitor.proofs.Seeing.{seen, is_of, number_in}
use Rattle.ncp_proof_monitor_allocation.proofs.PlainSteps.{asked_counts}
use Rattle.ncp_proof_monitor_allocation.proofs.KeptEnds.{kept}
use Rattle.ncp_proof_monitor_allocation.proofs.OwnMoves.{says_of}
use Rattle.ncp_proof_monitor_allocation.proofs.Changed.{pair_at, kept_of}
use Rattle.ncp_proof_monitor_allocation.proofs.SeenTables.{conn_seen, seen_of, suspended_of, receives_at, asked_seen, closed_seen}
use Rattle.ncp_proof_monitor_allocation.proofs.Resting.{OneSuspended}
use Rattle.ncp_proof_monitor_allocation.proofs.Plain.{Plain}
use Rattle.ncp_proof_monitor_allocation.proofs.TextErrors.{admitted_wider}
use Rattle.ncp_proof_monitor_allocation.proofs.Words.{Word, Speaks, Grants, Recalls, Returns, Hints, Count, no_count, count_of, link_given, count_after, Agreed, Fits, Hidden, LinkHidden, asked_too, NoneCounted, their_count, agreed_wider, fits_wider, hidden_wider, hidden_from, link_hidden_wider}
use Rattle.ncp_proof_monitor_allocation.proofs.Counted.{is_worded, command_of, words_about, links_by, AgreedAt, HiddenAt, Counted, FirstWord, first_word, PairsAgree, agreed_at}
use Rattle.ncp_proof_monitor_allocation.proofs.CountedSteps.{itself, counted_one, SeenStep, seen_step, step_kept, HeardNumbers, HeardEnd, kept_hidden}

-- ---- what the books count

-- a request changes no number, and one that begins has none

request_count : (conn : ConnState) (request : Request) → count_of (Some (with_request_sent conn request)) ≡ count_of (Some conn)
request_count conn (Link link) = refl
request_count conn (Size size) = refl

or_count : (at peer local remote number : ℕ) (o : Option ConnState) → count_of (Some (or_conn at peer local remote number o)) ≡ count_of o
or_count at peer local remote number None = refl
or_count at peer local remote number (Some conn) = refl

-- with the second CLS all is forgotten
abbrev pub left_count : Bool → Option ConnState → Count
left_count sent o = if sent then count_after (Speaks Leave) (seen o) (count_of o) else their_count Leave (seen o) (count_of o)

after_left_count : (sent : Bool) (o : Option ConnState) → count_of (after_left sent o) ≡ left_count sent o
after_left_count true None = refl
after_left_count false None = refl
after_left_count true (Some conn) = go conn.peer_left
  where
    go : (b : Bool) → count_of (if true && b then None else Some (record conn { host_left = true })) ≡ (if b then no_count else count_of (Some conn))
    go true = refl
    go false = refl
after_left_count false (Some conn) = go conn.host_left
  where
    go : (b : Bool) → count_of (if b && true then None else Some (record conn { peer_left = true })) ≡ (if b then no_count else count_of (Some conn))
    go true = refl
    go false = refl

module _ (me n : ℕ) (sent : Bool) (p : Sockets) (b : SeenTables) where
  abbrev flow : ObservedFlow
  flow = record { at = me; peer = n; sent = sent }

  abbrev its : ConnState → Bool
  its = is_of_sockets me n p.0 p.1

  abbrev place : Option ℕ
  place = position its b.conns

  pub closed_count : Unique its b.conns → count_of (conn_seen me n (closes_side flow b place) p) ≡ left_count sent (conn_seen me n b p)
  closed_count unique = ap count_of (leaves_at flow p.0 p.1 b place refl unique) ∙ after_left_count sent (conn_found b.conns place) ∙ ap (left_count sent) (conn_first me n p.0 p.1 b.conns)

-- ---- what an end becomes that hears it

heard_becomes : (d x : Endpoint) → HeardNumbers d x → (e : Endpoint) → (if is_ended x then None else Some x) ≡ Some e → HeardNumbers d e
heard_becomes d x h e g = go (is_ended x) g
  where
    go : (b : Bool) → (if b then None else Some x) ≡ Some e → HeardNumbers d e
    go true g = absurd (cc g)
    go false g = let is : x ≡ e = cc g in subst (HeardNumbers d) is h

pub link_heard : (on : ℕ) (before : Option Endpoint) → HeardEnd (Ask on) before (end_after before (Becomes (heard_link on (or_new before)) Nothing))
link_heard on before e g = heard_becomes (or_new before) (heard_link on (or_new before)) (record { messages = refl; bits = refl; recall = refl; going = λ z. z }) e g

pub size_heard : (size : ℕ) (before : Option Endpoint) → HeardEnd (Ask size) before (end_after before (Becomes (heard_size size (or_new before)) Nothing))
size_heard size before e g = heard_becomes (or_new before) (heard_size size (or_new before)) (record { messages = refl; bits = refl; recall = refl; going = λ z. z }) e g

-- it no longer exists, or is closing
going_becomes : (x : Endpoint) → is_closing x ≡ true → (e : Endpoint) → (if is_ended x then None else Some x) ≡ Some e → is_closing e ≡ true
going_becomes x h e g = go (is_ended x) g
  where
    go : (b : Bool) → (if b then None else Some x) ≡ Some e → is_closing e ≡ true
    go true g = absurd (cc g)
    go false g = let is : x ≡ e = cc g in sym (ap is_closing is) ∙ h

pub going_order : (a b : Bool) → (a || b) ≡ true → (b || a) ≡ true
going_order true true e = refl
going_order true false e = refl
going_order false true e = refl
going_order false false e = e

pub cls_goes : (pair : Pair) (e : Endpoint) → is_proper pair ≡ true → e.cls ≡ false → (d : Endpoint) → end_after (Some e) (hear_cls pair (Some e)) ≡ Some d → is_closing d ≡ true
cls_goes pair e p c d g = go e.cls c (e.left || e.leaving) refl (sends pair && e.busy) (receives pair && nat_lt 0 (length e.stored)) (sym (ap (λ (b : Bool). end_after (Some e) (if not b then errs wrong_parameters (Cls pair.remote pair.local) else hear_cls_end pair e)) p) ∙ g)
  where
    go : (r : Bool) → r ≡ false → (l : Bool) → (e.left || e.leaving) ≡ l → (b h : Bool)
        → end_after (Some e) (if r then errs wrong_parameters (Cls pair.remote pair.local) else if l then Becomes (record e { cls = true }) Nothing else if b then Becomes (record e { cls = true; leaving = true; stored = [] }) Nothing
        else if h then Becomes (record e { cls = true; leaving = true }) Nothing else Becomes (leaves (record e { cls = true })) (Reply (closing pair))) ≡ Some d → is_closing d ≡ true
    go true r l x b h y = absurd (cc r)
    go false r true x b h y = going_becomes (record e { cls = true }) (going_order e.left e.leaving x) d y
    go false r false x true h y = going_becomes (record e { cls = true; leaving = true; stored = [] }) refl d y
    go false r false x false true y = going_becomes (record e { cls = true; leaving = true }) refl d y
    go false r false x false false y = going_becomes (leaves (record e { cls = true })) refl d y

pub cls_ends : (pair : Pair) (sending : Bool) (before : Option Endpoint) → is_proper pair ≡ true → their_legal Leave (kept sending before) ≡ true → HeardEnd Leave before (end_after before (hear_cls pair before))
cls_ends pair sending None p l d g = absurd (cc l)
cls_ends pair sending (Some e) p l d g = cls_goes pair e p (isnt e.cls l) d g
  where
    isnt : (b : Bool) → not b ≡ true → b ≡ false
    isnt true k = absurd (cc k)
    isnt false k = refl

-- ---- its link stays among those known

pub same_quiet : (o before : Option Endpoint) (sending : Bool) (known : ℕ → Bool) → o ≡ before → LinkHidden before sending known → LinkHidden o sending known
same_quiet o before sending known e h d g z k = h d (sym e ∙ g) z k

pub going_quiet : (o : Option Endpoint) (sending : Bool) (known : ℕ → Bool) → ((e : Endpoint) → o ≡ Some e → is_closing e ≡ true) → LinkHidden o sending known
going_quiet o sending known f d g z k = let nay : true ≡ false = sym (f d g) ∙ z in absurd (cc nay)

becomes_there : {A : Type 0} (x d : Endpoint) → (if is_ended x then None else Some x) ≡ Some d → (x ≡ d → A) → A
becomes_there {A} x d g f = go (is_ended x) g
  where
    go : (b : Bool) → (if b then None else Some x) ≡ Some d → A
    go true g = absurd (cc g)
    go false g = f (cc g)

-- a sender hears its link, which is known
pub link_quiet : (on : ℕ) (before : Option Endpoint) (known : ℕ → Bool) → known on ≡ true → LinkHidden (end_after before (Becomes (heard_link on (or_new before)) Nothing)) true known
link_quiet on before known k d g z h = becomes_there (heard_link on (or_new before)) d g (λ is. ap (λ (x : Endpoint). known x.link) (sym is) ∙ k)

-- a receiver hears a size
pub size_quiet : (size : ℕ) (before : Option Endpoint) (known : ℕ → Bool) → LinkHidden before false known → LinkHidden (end_after before (Becomes (heard_size size (or_new before)) Nothing)) false known
size_quiet size None known h d g z k = becomes_there (heard_size size new_end) d g (λ is. let nay : false ≡ true = ap (λ (x : Endpoint). x.asked) is ∙ k in absurd (cc nay))
size_quiet size (Some e) known h d g z k =
    becomes_there (heard_size size e) d g (λ is. ap (λ (x : Endpoint). known x.link) (sym is) ∙ h e refl (ap is_closing is ∙ z) (ap (λ (x : Endpoint). x.asked) is ∙ k))

-- ---- an own request, or a CLS, is the first that waits

pub record SaysOnly (u : Sockets) (word : Word) (p : Sockets) (say : Say) : Type 0 where
  pub sockets : u ≡ p
  pub is : word ≡ Speaks say

pub says_only : (u : Sockets) (word : Word) (p : Sockets) (say : Say) → says_of (command_of (u, word)) ≡ (p, say) ∷ [] → SaysOnly u word p say
says_only (a, d) (Speaks (Ask k)) p say e = go (is_senders a) e
  where
    go : (s : Bool) → says_of (if s then Str a d k else Rts a d k) ≡ (p, say) ∷ [] → SaysOnly (a, d) (Speaks (Ask k)) p say
    go true e = let q : ((a, d), Ask k) ≡ (p, say) = cc e in record { sockets = ap (λ (x : Sockets × Say). x.0) q; is = ap (λ (x : Sockets × Say). Speaks x.1) q }
    go false e = let q : ((a, d), Ask k) ≡ (p, say) = cc e in record { sockets = ap (λ (x : Sockets × Say). x.0) q; is = ap (λ (x : Sockets × Say). Speaks x.1) q }
says_only (a, d) (Speaks Leave) p say e = let q : ((a, d), Leave) ≡ (p, say) = cc e in record { sockets = ap (λ (x : Sockets × Say). x.0) q; is = ap (λ (x : Sockets × Say). Speaks x.1) q }
says_only u (Grants link messages bits) p say e = absurd (cc e)
says_only u (Recalls link of_messages of_bits) p say e = absurd (cc e)
says_only u (Returns link messages bits) p say e = absurd (cc e)
says_only u (Hints link) p say e = absurd (go (is_senders u.0) e)
  where
    go : (s : Bool) → says_of (if s then Ins link else Inr link) ≡ (p, say) ∷ [] → ⊥
    go true e = cc e
    go false e = cc e

pub said_worded : (c : Command) (p : Sockets) (say : Say) → says_of c ≡ (p, say) ∷ [] → is_worded c ≡ true
said_worded Nop p say e = absurd (cc e)
said_worded (Rts receive send link) p say e = refl
said_worded (Str send receive size) p say e = refl
said_worded (Cls my your) p say e = refl
said_worded (All link messages bits) p say e = absurd (cc e)
said_worded (Gvb link messages bits) p say e = absurd (cc e)
said_worded (Ret link messages bits) p say e = absurd (cc e)
said_worded (Inr link) p say e = absurd (cc e)
said_worded (Ins link) p say e = absurd (cc e)
said_worded (Eco byte) p say e = absurd (cc e)
said_worded (Erp byte) p say e = absurd (cc e)
said_worded (Err code bytes) p say e = absurd (cc e)
said_worded Rst p say e = absurd (cc e)
said_worded Rrp p say e = absurd (cc e)

-- the link that is asked for is known
abbrev pub AsksKnown : Bool → (ℕ → Bool) → Say → Type 0
AsksKnown sending known (Ask k) = sending ≡ false → known k ≡ true
AsksKnown sending known Leave = Unit {0}

own_known : (sending : Bool) (known : ℕ → Bool) (say : Say) (x : Option Shape) → AsksKnown sending known say → ((l : ℕ) → link_given sending x ≡ Some l → known l ≡ true) → (l : ℕ) → link_given sending (own_step say x) ≡ Some l → known l ≡ true
own_known true known (Ask k) None a f l e = absurd (cc e)
own_known true known (Ask k) (Some y) a f l e = f l e
own_known false known (Ask k) None a f l e = let is : k ≡ l = cc e in sym (ap known is) ∙ a refl
own_known false known (Ask k) (Some y) a f l e = let is : k ≡ l = cc e in sym (ap known is) ∙ a refl
own_known sending known Leave None a f l e = absurd (cc e)
own_known sending known Leave (Some y) a f l e = go y.cls e
  where
    go : (b : Bool) → link_given sending (if b then None else Some (record y { left = true })) ≡ Some l → known l ≡ true
    go true e = absurd (cc e)
    go false e = f l e

hidden_said : (sending : Bool) (links known : ℕ → Bool) (o : Option Endpoint) (say : Say) (ws : List Word) → ((l : ℕ) → links l ≡ true → known l ≡ true) → AsksKnown sending known say
    → Hidden sending links (LinkHidden o sending) (Speaks say ∷ ws) → Hidden sending known (LinkHidden o sending) ws
hidden_said sending links known o (Ask k) ws f a h =
    hidden_wider sending (asked_too sending k links) known (LinkHidden o sending) (LinkHidden o sending) ws (λ l e. within sending a l (links l) (f l) e) (λ x y g z. link_hidden_wider o sending x y g z) h
  where
    within : (s : Bool) → (s ≡ false → known k ≡ true) → (l : ℕ) (r : Bool) → (r ≡ true → known l ≡ true) → ((not s && l == k) || r) ≡ true → known l ≡ true
    within true a l r f e = f e
    within false a l r f e = go (l == k) refl e
      where
        go : (b : Bool) → (l == k) ≡ b → (b || r) ≡ true → known l ≡ true
        go true y e = ap known (eqb-true l k y) ∙ a refl
        go false y e = f e
hidden_said sending links known o Leave ws f a h = hidden_wider sending links known (LinkHidden o sending) (LinkHidden o sending) ws f (λ x y g z. link_hidden_wider o sending x y g z) h

module _ (me n : ℕ) (m : Ends) (c : Command) (w : List Command) (b after : SeenTables) (p : Sockets) (say : Say) (said : says_of c ≡ (p, say) ∷ []) (k : Counted me n m (c ∷ w) b) (plain : Plain me n after) where
  abbrev s : Bool
  s = is_senders p.0

  abbrev links : ℕ → Bool
  links = links_by me n b (receives_at p)

  abbrev then_links : ℕ → Bool
  then_links = links_by me n after (receives_at p)

  f : FirstWord c w k.words
  f = first_word c w k.words (said_worded c p say said) k.spelled

  only : SaysOnly f.at f.word p say
  only = says_only f.at f.word p say (ap says_of f.spells ∙ said)

  words_here : words_about p k.words ≡ Speaks say ∷ words_about p f.rest
  words_here =
      ap (words_about p) f.are
      ∙ ap (λ (u : Sockets). if same p u then f.word ∷ words_about p f.rest else words_about p f.rest) only.sockets
      ∙ ap (λ (x : Word). if same p p then x ∷ words_about p f.rest else words_about p f.rest) only.is
      ∙ ap (λ (x : Bool). if x then Speaks say ∷ words_about p f.rest else words_about p f.rest) (itself p)

  words_there : (u : Sockets) → same u p ≡ false → words_about u f.rest ≡ words_about u k.words
  words_there u d = sym (
      ap (words_about u) f.are
      ∙ ap (λ (v : Sockets). if same u v then f.word ∷ words_about u f.rest else words_about u f.rest) only.sockets
      ∙ ap (λ (x : Bool). if x then f.word ∷ words_about u f.rest else words_about u f.rest) d)

  -- it may be said of what is seen
  pub said_legal : suspended_of me n b p ≡ false → legal say (seen_of me n b p) ≡ true
  said_legal r = (subst (λ (ws : List Word). AgreedAt me n b (get m (pair_at p)) ws p) words_here (k.agreed p r)).0

  -- it is right
  pub said_counted : SeenStep me n b after p (own_step say (seen_of me n b p)) (count_after (Speaks say) (seen_of me n b p) (count_of (conn_seen me n b p))) → suspended_of me n b p ≡ false → Counted me n m w after
  said_counted step r =
      counted_one me n m m (c ∷ w) w b after p
      (record { conns = step.others; ends = λ u d. refl; links = λ host link z. step.known_facts (FactKind.LinkSuspended host link) z })
      k f.rest f.spelled words_there (λ z. here)
      (λ z. let nay : false ≡ true = sym step.calm ∙ z in absurd (cc nay))
      plain (admitted_wider me n w b after (λ bytes z. step.known_facts (FactKind.Admits true bytes) z) k.admitted.1)
    where
      head : AgreedAt me n b (get m (pair_at p)) (Speaks say ∷ words_about p f.rest) p
      head = subst (λ (ws : List Word). AgreedAt me n b (get m (pair_at p)) ws p) words_here (k.agreed p r)

      here : AgreedAt me n after (get m (pair_at p)) (words_about p f.rest) p
      here =
          subst (λ (y : Option Shape). Agreed s then_links (Fits s then_links (get m (pair_at p))) (words_about p f.rest) y (count_of (conn_seen me n after p))) (sym step.shape)
          (subst (Agreed s then_links (Fits s then_links (get m (pair_at p))) (words_about p f.rest) (own_step say (seen_of me n b p))) (sym step.count)
          (agreed_wider s links then_links (Fits s links (get m (pair_at p))) (Fits s then_links (get m (pair_at p))) (words_about p f.rest) (own_step say (seen_of me n b p)) (count_after (Speaks say) (seen_of me n b p) (count_of (conn_seen me n b p)))
          (λ link z. step.known_facts (FactKind.LinkSuspended (receives_at p) link) z)
          (λ y j g. fits_wider s links then_links (get m (pair_at p)) y j (λ link z. step.known_facts (FactKind.LinkSuspended (receives_at p) link) z) g)
          head.1.1))

  -- its connection is at rest after it, and the link that it asks for
  pub said_suspended : OneSuspended me n b after p → AsksKnown s then_links say → (is_some (get m (pair_at p)) ≡ true → sends (pair_at p) ≡ s)
      → (suspended_of me n b p ≡ false → (l : ℕ) → link_given s (seen_of me n b p) ≡ Some l → then_links l ≡ true) → PairsAgree me n m (c ∷ w) b → Counted me n m w after
  said_suspended o asked sex marked pairs =
      counted_one me n m m (c ∷ w) w b after p
      (record { conns = o.seen; ends = λ u d. refl; links = λ host link z. o.known_facts (FactKind.LinkSuspended host link) z })
      k f.rest f.spelled words_there
      (λ z. let nay : true ≡ false = sym o.suspended ∙ z in absurd (cc nay))
      (λ z. here (suspended_of me n b p) refl)
      plain (admitted_wider me n w b after (λ bytes z. o.known_facts (FactKind.Admits true bytes) z) k.admitted.1)
    where
      here : (x : Bool) → suspended_of me n b p ≡ x → HiddenAt me n after (get m (pair_at p)) (words_about p f.rest) p
      here true e =
          hidden_said s links then_links (get m (pair_at p)) say (words_about p f.rest) (λ l z. o.known_facts (FactKind.LinkSuspended (receives_at p) l) z) asked
          (subst (λ (ws : List Word). HiddenAt me n b (get m (pair_at p)) ws p) words_here (k.hidden p e))
      here false e =
          hidden_from s links then_links (λ y j. (y ≡ kept_of m p) × (NoneCounted y j × Fits s links (get m (pair_at p)) y j)) (LinkHidden (get m (pair_at p)) s) (words_about p f.rest) (own_step say (seen_of me n b p))
          (count_after (Speaks say) (seen_of me n b p) (count_of (conn_seen me n b p))) (own_known s then_links say (seen_of me n b p) asked (marked e))
          (λ y j known g q. kept_hidden m p sex known (λ l z. g l (ap (link_given s) q.0 ∙ z)))
          (subst (λ (ws : List Word). Agreed s links (λ y j. (y ≡ kept_of m p) × (NoneCounted y j × Fits s links (get m (pair_at p)) y j)) ws (seen_of me n b p) (count_of (conn_seen me n b p))) words_here
          (agreed_at me n m (c ∷ w) b p e pairs k)).1.1

-- by the names of the books

abbrev pub saying : ℕ → ℕ → ObservedFlow
saying me n = record { at = me; peer = n; sent = true }

pub own_request_step : (me n : ℕ) (b : SeenTables) (p : Sockets) (request : Request) → is_of (is_senders p.0) true request ≡ true → (asks (saying me n) p.0 p.1 request b (index_with_sockets me n p.0 p.1 b.conns)).full ≡ false → suspended_of me n b p ≡ false
    → SeenStep me n b (asks (saying me n) p.0 p.1 request b (index_with_sockets me n p.0 p.1 b.conns)) p (own_step (Ask (number_in request)) (seen_of me n b p)) (count_of (conn_seen me n b p))
own_request_step me n b p request sex room r =
    seen_step me n b (asks (saying me n) p.0 p.1 request b (index_with_sockets me n p.0 p.1 b.conns)) p (own_step (Ask (number_in request)) (seen_of me n b p)) (count_of (conn_seen me n b p))
    (asked_seen me n true p b request sex room) (asked_counts me n true p request b room) r

pub own_closing_step : (me n : ℕ) (b : SeenTables) (p : Sockets) → Unique (is_of_sockets me n p.0 p.1) b.conns → suspended_of me n b p ≡ false
    → SeenStep me n b (closes_side (saying me n) b (index_with_sockets me n p.0 p.1 b.conns)) p (own_step Leave (seen_of me n b p)) (count_after (Speaks Leave) (seen_of me n b p) (count_of (conn_seen me n b p)))
own_closing_step me n b p unique r =
    seen_step me n b (closes_side (saying me n) b (index_with_sockets me n p.0 p.1 b.conns)) p (own_step Leave (seen_of me n b p)) (count_after (Speaks Leave) (seen_of me n b p) (count_of (conn_seen me n b p)))
    (closed_seen me n true p b unique) (closed_count me n true p b unique) r

-- an own request is right
pub counted_own_request : (me n : ℕ) (m : Ends) (c : Command) (w : List Command) (b : SeenTables) (p : Sockets) (request : Request) → says_of c ≡ (p, Ask (number_in request)) ∷ [] → is_of (is_senders p.0) true request ≡ true
    → (asks (saying me n) p.0 p.1 request b (index_with_sockets me n p.0 p.1 b.conns)).full ≡ false → suspended_of me n b p ≡ false
    → Plain me n (asks (saying me n) p.0 p.1 request b (index_with_sockets me n p.0 p.1 b.conns)) → Counted me n m (c ∷ w) b → Counted me n m w (asks (saying me n) p.0 p.1 request b (index_with_sockets me n p.0 p.1 b.conns))
counted_own_request me n m c w b p request said sex room r plain k =
    said_counted me n m c w b (asks (saying me n) p.0 p.1 request b (index_with_sockets me n p.0 p.1 b.conns)) p (Ask (number_in request)) said k plain (own_request_step me n b p request sex room r) r

-- an own CLS is right: what the books are then has its connections, and all that was marked
pub counted_own_closing : (me n : ℕ) (m : Ends) (c : Command) (w : List Command) (b after : SeenTables) (p : Sockets) → says_of c ≡ (p, Leave) ∷ [] → Unique (is_of_sockets me n p.0 p.1) b.conns → suspended_of me n b p ≡ false
    → after.conns ≡ (closes_side (saying me n) b (index_with_sockets me n p.0 p.1 b.conns)).conns
    → ((what : FactKind) → is_marked me n what (closes_side (saying me n) b (index_with_sockets me n p.0 p.1 b.conns)) ≡ true → is_marked me n what after ≡ true)
    → Plain me n after → Counted me n m (c ∷ w) b → Counted me n m w after
counted_own_closing me n m c w b after p said unique r conns known_facts plain k =
    said_counted me n m c w b after p Leave said k plain
    (step_kept me n b (closes_side (saying me n) b (index_with_sockets me n p.0 p.1 b.conns)) after p (own_step Leave (seen_of me n b p)) (count_after (Speaks Leave) (seen_of me n b p) (count_of (conn_seen me n b p))) conns known_facts
    (own_closing_step me n b p unique r)) r
