-- What is counted of each connection, when an RTS, an STR or a CLS of the other comes: it is right, or the connection comes to rest.
use Rattle.std.proofs.Common.{◌≡◌, ℕ, ◌==◌, Bool, true, false, not, ◌&&◌, ◌||◌, if◌then◌else◌, List, [], ◌∷◌, ◌++◌, length, map, Option, None, Some, is_some, refl, sym, ap, ◌∙◌, subst}
use Rattle.std.specs.FinMap.{get}
use Rattle.std.specs.Prelude.{nat_lt, nat_le, is_none}
use Rattle.std.specs.List.{filter}
use Rattle.std.proofs.lemmas.List.{append-nil}
use Rattle.std.proofs.lemmas.Bool.{and_parts}
use Rattle.ncp_wire.specs.declared.command.Command.{Command}
use Rattle.ncp_wire.specs.declared.command.Command.TheVariants.{Rts, Str, Cls}
use Rattle.ncp_model.specs.declared.limits.TheConstants.{MAX_BY_PEER}
use Rattle.ncp_model.specs.declared.pair.Pair.{Pair}
use Rattle.ncp_model.specs.declared.outcomes.Heard.{Heard}
use Rattle.ncp_model.specs.declared.outcomes.Heard.TheVariants.{Nothing, Reply, Full}
use Rattle.ncp_model.specs.Pairs.{sends, receives, is_proper, is_send, is_receive}
use Rattle.ncp_model.specs.Endpoint.{Endpoint, or_new, is_closing}
use Rattle.ncp_model.specs.Ends.{Ends}
use Rattle.ncp_model.specs.Effect.{Effect, Stays, Becomes, answer, end_after, leaves, closing, made_by_hearing, is_data_link, wrong_parameters, no_socket}
use Rattle.ncp_model.specs.Commands.{errs, heard_link, heard_size, hear_rts, hear_str, hear_cls, hear_cls_at, wrong_rts, wrong_str}
use Rattle.ncp_interface.specs.declared.request.Request.{Request}
use Rattle.ncp_monitor.specs.declared.conn_state.FactKind.{FactKind}
use Rattle.ncp_monitor.specs.declared.observed_flow.ObservedFlow.{ObservedFlow}
use Rattle.ncp_monitor.specs.ConnStates.{SeenTables, is_of_sockets, index_with_sockets, is_marked}
use Rattle.ncp_interface.specs.Sockets.{is_senders}
use Rattle.ncp_monitor.specs.Requests.{asks, closes_side}
use Rattle.ncp_monitor.proofs.Shapes.{Shape, Ask, Leave, legal, own_step, their_legal, their_step}
use Rattle.ncp_monitor.proofs.LinkOrder.{Sockets}
use Rattle.ncp_monitor.proofs.Firsts.{Unique}
use Rattle.ncp_monitor.proofs.Seeing.{is_of, number_in}
use Rattle.ncp_proof_monitor_allocation.proofs.PlainSteps.{asked_counts}
use Rattle.ncp_proof_monitor_allocation.proofs.OwnMoves.{sockets_of}
use Rattle.ncp_proof_monitor_allocation.proofs.HeardMoves.{Closed, Known, Matched}
use Rattle.ncp_proof_monitor_allocation.proofs.Changed.{pair_at, OneEnd}
use Rattle.ncp_proof_monitor_allocation.proofs.SeenTables.{conn_seen, seen_of, suspended_of, receives_at, asked_seen, closed_seen}
use Rattle.ncp_proof_monitor_allocation.proofs.Resting.{OneSuspended}
use Rattle.ncp_proof_monitor_allocation.proofs.Plain.{Plain}
use Rattle.ncp_proof_monitor_allocation.proofs.Words.{Word, Speaks, Count, count_of, link_given, count_after, their_count, Fits, Hidden, LinkHidden}
use Rattle.ncp_proof_monitor_allocation.proofs.Counted.{is_worded, command_of, words_of, links_by, Counted, PairsAgree, command_error_plain}
use Rattle.ncp_proof_monitor_allocation.proofs.CallsCounted.{receiver_sex, hidden_going, has_text_error, admitted_none}
use Rattle.ncp_proof_monitor_allocation.proofs.CountedSteps.{SeenStep, seen_step, step_kept, HeardNumbers, HeardEnd, heard_counted, suspended_counted}
use Rattle.ncp_proof_monitor_allocation.proofs.SaidCounted.{closed_count, link_heard, size_heard, link_quiet, size_quiet, going_order}

-- ---- what an end becomes, whether the request is taken or refused

same_heard : (k : ℕ) (before : Option Endpoint) → HeardEnd (Ask k) before before
same_heard k None e g = absurd (cc g)
same_heard k (Some d) e g = let is : d ≡ e = cc g in subst (HeardNumbers d) is (record { messages = refl; bits = refl; recall = refl; going = λ z. z })

pub rts_ends : (pair : Pair) (on : ℕ) (taken : Bool) (by_peer : ℕ) (before : Option Endpoint) → HeardEnd (Ask on) before (end_after before (hear_rts pair on taken by_peer before))
rts_ends pair on taken by_peer before = go (wrong_rts pair on taken before) (is_none before && nat_le MAX_BY_PEER by_peer)
  where
    go : (a f : Bool) → HeardEnd (Ask on) before (end_after before (if a then errs wrong_parameters (Rts pair.remote pair.local on) else if f then Stays Full else Becomes (heard_link on (or_new before)) Nothing))
    go true f = same_heard on before
    go false true = same_heard on before
    go false false = link_heard on before

pub str_ends : (pair : Pair) (size by_peer : ℕ) (before : Option Endpoint) → HeardEnd (Ask size) before (end_after before (hear_str pair size by_peer before))
str_ends pair size by_peer before = go (wrong_str pair size before) (is_none before && nat_le MAX_BY_PEER by_peer)
  where
    go : (a f : Bool) → HeardEnd (Ask size) before (end_after before (if a then errs wrong_parameters (Str pair.remote pair.local size) else if f then Stays Full else Becomes (heard_size size (or_new before)) Nothing))
    go true f = same_heard size before
    go false true = same_heard size before
    go false false = size_heard size before

-- ---- a request that is right

abbrev pub hearing : ℕ → ℕ → ObservedFlow
hearing me n = record { at = me; peer = n; sent = false }

pub counted_request : (me n : ℕ) (m now : Ends) (w : List Command) (b : SeenTables) (p : Sockets) (request : Request) (o : Option Endpoint) → is_of (is_senders p.0) false request ≡ true
    → (asks (hearing me n) p.0 p.1 request b (index_with_sockets me n p.0 p.1 b.conns)).full ≡ false
    → their_legal (Ask (number_in request)) (seen_of me n b p) ≡ true → suspended_of me n b p ≡ false → OneEnd m now (pair_at p) o → HeardEnd (Ask (number_in request)) (get m (pair_at p)) o
    → Plain me n (asks (hearing me n) p.0 p.1 request b (index_with_sockets me n p.0 p.1 b.conns)) → PairsAgree me n m w b → Counted me n m w b
    → Counted me n now w (asks (hearing me n) p.0 p.1 request b (index_with_sockets me n p.0 p.1 b.conns))
counted_request me n m now w b p request o sex room may r end heard plain pairs c =
    subst (λ (v : List Command). Counted me n now v after) (append-nil w)
    (heard_counted me n m now w [] b after p [] refl c pairs plain tt (Ask (number_in request)) o
    (seen_step me n b after p (their_step (Ask (number_in request)) (seen_of me n b p)) (count_of (conn_seen me n b p)) (asked_seen me n false p b request sex room) (asked_counts me n false p request b room) r)
    may r end heard (λ known y j i f. f))
  where
    after : SeenTables
    after = asks (hearing me n) p.0 p.1 request b (index_with_sockets me n p.0 p.1 b.conns)

-- ---- a CLS that is right: it is known, or the host makes its own

-- the books then have the connections after it, and all that was marked
pub counted_closing : (me n : ℕ) (m now : Ends) (w : List Command) (b after : SeenTables) (p : Sockets) (act : Effect Heard) → Unique (is_of_sockets me n p.0 p.1) b.conns → their_legal Leave (seen_of me n b p) ≡ true → suspended_of me n b p ≡ false
    → OneEnd m now (pair_at p) (end_after (get m (pair_at p)) act) → Closed (sends (pair_at p)) (pair_at p) (get m (pair_at p)) act → HeardEnd Leave (get m (pair_at p)) (end_after (get m (pair_at p)) act)
    → after.conns ≡ (closes_side (hearing me n) b (index_with_sockets me n p.0 p.1 b.conns)).conns
    → ((what : FactKind) → is_marked me n what (closes_side (hearing me n) b (index_with_sockets me n p.0 p.1 b.conns)) ≡ true → is_marked me n what after ≡ true)
    → Plain me n after → PairsAgree me n m w b → Counted me n m w b → Counted me n now (w ++ made_by_hearing (answer act)) after
counted_closing me n m now w b after p act unique may r end closed heard conns known_facts plain pairs c = go closed
  where
    mid : SeenTables
    mid = closes_side (hearing me n) b (index_with_sockets me n p.0 p.1 b.conns)

    o : Option Endpoint
    o = end_after (get m (pair_at p)) act

    gone : (known : ℕ → Bool) (x : Option Shape) (j : Count) → Fits (is_senders p.0) known o x j
    gone known x j e g n = let nay : true ≡ false = sym (heard e g) ∙ n in absurd (cc nay)

    step : SeenStep me n b after p (their_step Leave (seen_of me n b p)) (their_count Leave (seen_of me n b p) (count_of (conn_seen me n b p)))
    step =
        step_kept me n b mid after p (their_step Leave (seen_of me n b p)) (their_count Leave (seen_of me n b p) (count_of (conn_seen me n b p))) conns known_facts
        (seen_step me n b mid p (their_step Leave (seen_of me n b p)) (their_count Leave (seen_of me n b p) (count_of (conn_seen me n b p))) (closed_seen me n false p b unique) (closed_count me n false p b unique) r)

    go : Closed (sends (pair_at p)) (pair_at p) (get m (pair_at p)) act → Counted me n now (w ++ made_by_hearing (answer act)) after
    go (Known none s) =
        subst (λ (made : List Command). Counted me n now (w ++ made) after) (sym none)
        (heard_counted me n m now w [] b after p [] refl c pairs plain tt Leave o step may r end heard (λ known y j i f. f))
    go (Matched made l s) =
        subst (λ (made : List Command). Counted me n now (w ++ made) after) (sym made)
        (heard_counted me n m now w (Cls p.0 p.1 ∷ []) b after p (Speaks Leave ∷ []) refl c pairs plain ((λ k. absurd (cc k)), tt) Leave o step may r end heard
        (λ known y j i f. (subst (λ (x : Option Shape). legal Leave x ≡ true) (sym i) l, (refl, gone known (own_step Leave y) (count_after (Speaks Leave) y j)))))

-- ---- it is unclear, and the connection comes to rest

-- what is made then, and what becomes of the end: its link is one of those known
pub record HeardWords (pair : Pair) (before o : Option Endpoint) (made : List Command) (known_too : (ℕ → Bool) → Type 0) : Type 0 where
  pub more : List Word
  pub spelled : filter is_worded made ≡ map command_of (words_of (sockets_of pair) more)
  pub plain : has_text_error made ≡ false
  pub quiet : (known : ℕ → Bool) → known_too known → LinkHidden before (is_senders pair.local) known → Hidden (is_senders pair.local) known (LinkHidden o (is_senders pair.local)) more

error_plain : (code : ℕ) (c : Command) → is_worded c ≡ true → has_text_error (made_by_hearing (answer (errs code c))) ≡ false
error_plain code c k = ap (λ (b : Bool). b || false) (command_error_plain code c k)

heard_none : (pair : Pair) (before : Option Endpoint) (known_too : (ℕ → Bool) → Type 0) (made : List Command) → filter is_worded made ≡ [] → has_text_error made ≡ false → HeardWords pair before before made known_too
heard_none pair before known_too made e f = record { more = []; spelled = e; plain = f; quiet = λ known k h. h }

pub rts_words : (pair : Pair) (on : ℕ) (taken : Bool) (by_peer : ℕ) (before : Option Endpoint)
    → HeardWords pair before (end_after before (hear_rts pair on taken by_peer before)) (made_by_hearing (answer (hear_rts pair on taken by_peer before))) (λ known. is_senders pair.local ≡ true → known on ≡ true)
rts_words pair on taken by_peer before = go (wrong_rts pair on taken before) refl (is_none before && nat_le MAX_BY_PEER by_peer)
  where
    WordsOf : Effect Heard → Type 0
    WordsOf act = HeardWords pair before (end_after before act) (made_by_hearing (answer act)) (λ known. is_senders pair.local ≡ true → known on ≡ true)

    taking : is_senders pair.local ≡ true → WordsOf (Becomes (heard_link on (or_new before)) Nothing)
    taking s = record {
      more = [];
      spelled = refl;
      plain = refl;
      quiet = λ known k h. subst (λ (x : Bool). LinkHidden (end_after before (Becomes (heard_link on (or_new before)) Nothing)) x known) (sym s) (link_quiet on before known (k s));
    }

    sender : (z : Bool) → sends pair ≡ z → (not z || not (is_data_link on) || (or_new before).heard || taken) ≡ false → is_senders pair.local ≡ true
    sender true v q = (and_parts (is_send pair.local) (is_receive pair.remote) v).0
    sender false v q = absurd (cc q)

    go : (x : Bool) → wrong_rts pair on taken before ≡ x → (y : Bool) → WordsOf (if x then errs wrong_parameters (Rts pair.remote pair.local on) else if y then Stays Full else Becomes (heard_link on (or_new before)) Nothing)
    go true q y =
        heard_none pair before (λ known. is_senders pair.local ≡ true → known on ≡ true) (made_by_hearing (answer (errs wrong_parameters (Rts pair.remote pair.local on)))) refl
        (error_plain wrong_parameters (Rts pair.remote pair.local on) refl)
    go false q true = heard_none pair before (λ known. is_senders pair.local ≡ true → known on ≡ true) [] refl refl
    go false q false = taking (sender (sends pair) refl q)

pub str_words : (pair : Pair) (size by_peer : ℕ) (before : Option Endpoint)
    → HeardWords pair before (end_after before (hear_str pair size by_peer before)) (made_by_hearing (answer (hear_str pair size by_peer before))) (λ known. Unit {0})
str_words pair size by_peer before = go (wrong_str pair size before) refl (is_none before && nat_le MAX_BY_PEER by_peer)
  where
    WordsOf : Effect Heard → Type 0
    WordsOf act = HeardWords pair before (end_after before act) (made_by_hearing (answer act)) (λ known. Unit {0})

    taking : is_senders pair.local ≡ false → WordsOf (Becomes (heard_size size (or_new before)) Nothing)
    taking s = record {
      more = [];
      spelled = refl;
      plain = refl;
      quiet = λ known k h. subst (λ (x : Bool). LinkHidden before x known → LinkHidden (end_after before (Becomes (heard_size size (or_new before)) Nothing)) x known) (sym s) (λ g. size_quiet size before known g) h;
    }

    receiver : (z : Bool) → receives pair ≡ z → (not z || (size == 0) || (or_new before).heard) ≡ false → is_senders pair.local ≡ false
    receiver true v q = receiver_sex pair v
    receiver false v q = absurd (cc q)

    go : (x : Bool) → wrong_str pair size before ≡ x → (y : Bool) → WordsOf (if x then errs wrong_parameters (Str pair.remote pair.local size) else if y then Stays Full else Becomes (heard_size size (or_new before)) Nothing)
    go true q y = heard_none pair before (λ known. Unit {0}) (made_by_hearing (answer (errs wrong_parameters (Str pair.remote pair.local size)))) refl (error_plain wrong_parameters (Str pair.remote pair.local size) refl)
    go false q true = heard_none pair before (λ known. Unit {0}) [] refl refl
    go false q false = taking (receiver (receives pair) refl q)

pub cls_words : (pair : Pair) (before : Option Endpoint) → HeardWords pair before (end_after before (hear_cls pair before)) (made_by_hearing (answer (hear_cls pair before))) (λ known. Unit {0})
cls_words pair before = by_sex (is_proper pair) before
  where
    WordsOf : Option Endpoint → Effect Heard → Type 0
    WordsOf o act = HeardWords pair o (end_after o act) (made_by_hearing (answer act)) (λ known. Unit {0})

    errors : (o : Option Endpoint) (code : ℕ) → WordsOf o (errs code (Cls pair.remote pair.local))
    errors o code = heard_none pair o (λ known. Unit {0}) (made_by_hearing (answer (errs code (Cls pair.remote pair.local)))) refl (error_plain code (Cls pair.remote pair.local) refl)

    known_then : (e now : Endpoint) → is_closing now ≡ true → WordsOf (Some e) (Becomes now Nothing)
    known_then e now g = record { more = []; spelled = refl; plain = refl; quiet = λ known k h. hidden_going (is_senders pair.local) known now g }

    at_end : (e : Endpoint) (r l : Bool) → (e.left || e.leaving) ≡ l → (b h : Bool)
        → WordsOf (Some e) (if r then errs wrong_parameters (Cls pair.remote pair.local) else if l then Becomes (record e { cls = true }) Nothing else if b then Becomes (record e { cls = true; leaving = true; stored = [] }) Nothing
        else if h then Becomes (record e { cls = true; leaving = true }) Nothing else Becomes (leaves (record e { cls = true })) (Reply (closing pair)))
    at_end e true l x b h = errors (Some e) wrong_parameters
    at_end e false true x b h = known_then e (record e { cls = true }) (going_order e.left e.leaving x)
    at_end e false false x true h = known_then e (record e { cls = true; leaving = true; stored = [] }) refl
    at_end e false false x false true = known_then e (record e { cls = true; leaving = true }) refl
    at_end e false false x false false = record {
      more = Speaks Leave ∷ [];
      spelled = refl;
      plain = refl;
      quiet = λ known k h. hidden_going (is_senders pair.local) known (leaves (record e { cls = true })) refl;
    }

    by_sex : (x : Bool) (o : Option Endpoint) → WordsOf o (if not x then errs wrong_parameters (Cls pair.remote pair.local) else hear_cls_at pair o)
    by_sex false o = errors o wrong_parameters
    by_sex true None = errors None no_socket
    by_sex true (Some e) = at_end e e.cls (e.left || e.leaving) refl (sends pair && e.busy) (receives pair && nat_lt 0 (length e.stored))

pub counted_unclear : (me n : ℕ) (m now : Ends) (w : List Command) (b after : SeenTables) (p : Sockets) (o : Option Endpoint) (made : List Command) (known_too : (ℕ → Bool) → Type 0) → OneSuspended me n b after p → OneEnd m now (pair_at p) o
    → HeardWords (pair_at p) (get m (pair_at p)) o made known_too → ((known : ℕ → Bool) → ((l : ℕ) → links_by me n after (receives_at p) l ≡ true → known l ≡ true) → known_too known)
    → (is_some (get m (pair_at p)) ≡ true → sends (pair_at p) ≡ is_senders p.0)
    → (suspended_of me n b p ≡ false → (l : ℕ) → link_given (is_senders p.0) (seen_of me n b p) ≡ Some l → links_by me n after (receives_at p) l ≡ true)
    → Plain me n after → PairsAgree me n m w b → Counted me n m w b → Counted me n now (w ++ made) after
counted_unclear me n m now w b after p o made known_too k end h too sex marked plain pairs c =
    suspended_counted me n m now w made b after p h.more h.spelled c pairs plain (admitted_none me n made after h.plain) o k end sex marked (λ known f g. h.quiet known (too known f) g)
