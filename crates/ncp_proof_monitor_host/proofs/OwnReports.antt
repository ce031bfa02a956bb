-- What was said meets what the host keeps, through all that the host does by itself, and what names a link and comes.
use Rattle.std.proofs.Common.{◌≡◌, ℕ, Bool, true, false, not, ◌&&◌, ◌||◌, List, [], ◌∷◌, ◌++◌, Option, None, Some, is_some, eq-eqb, Result, Ok, refl, sym, ap, ◌∙◌, arith}
use Rattle.std.specs.Prelude.{nat_le}
use Rattle.std.specs.FinMap.{get}
use Rattle.ncp_wire.specs.declared.command.Command.{Command}
use Rattle.ncp_wire.specs.declared.command.Command.TheVariants.{Nop, Rts, Str, Cls}
use Rattle.ncp_model.specs.declared.pair.Pair.{Pair}
use Rattle.ncp_model.specs.declared.call_fault.CallFault.{CallFault}
use Rattle.ncp_model.specs.declared.limits.TheConstants.{MAX_OWN}
use Rattle.ncp_model.specs.Pairs.{sends, receives, is_proper}
use Rattle.ncp_model.specs.Endpoint.{Endpoint, or_new}
use Rattle.ncp_model.specs.Effect.{Effect, Becomes, answer, made_by_call}
use Rattle.ncp_model.specs.Calls.{asked_to_send, asked_to_receive, ask_send, ask_receive, may_ask_send, may_ask_receive}
use Rattle.ncp_model.specs.Ends.{Ends, any, count, has_asked, uses_link, free_link}
use Rattle.ncp_model.specs.Texts.{Rfnm, Incomplete, Dead}
use Rattle.ncp_model.specs.EndpointEvents.{EndpointEvent, happens}
use Rattle.ncp_model.specs.Peers.{PairCall, Ask_to_send, Ask_to_receive, Close, Give, Take, Allocate, Call_back, Interrupt, called}
use Rattle.ncp_model.proofs.ResetLists.{bit}
use Rattle.ncp_proof_machine.proofs.EndsGood.{EndsInvariant, called-fresh}
use Rattle.ncp_monitor.specs.ConnStates.{SeenTables}
use Rattle.ncp_monitor.proofs.Shapes.{Say, Ask, Leave}
use Rattle.ncp_monitor.proofs.LinkOrder.{Sockets, Lacks, number_of}
use Rattle.ncp_proof_monitor_allocation.proofs.Reasons.{send_asks, receive_asks, either_way}
use Rattle.ncp_proof_monitor_allocation.proofs.KeptEnds.{kept}
use Rattle.ncp_proof_monitor_allocation.proofs.OwnMoves.{all_says, sockets_of, is_of_host, moves}
use Rattle.ncp_proof_monitor_allocation.proofs.Changed.{pair_at, kept_of, OneEnd, link_lacks}
use Rattle.ncp_proof_monitor_allocation.proofs.SeenTables.{receives_at}
use Rattle.ncp_proof_monitor_allocation.proofs.Comes.{host_meets}
use Rattle.ncp_proof_monitor_allocation.proofs.Echoing.{is_eco, ecos, others_wait}
use Rattle.ncp_proof_monitor_allocation.proofs.HeldLinks.{host_held}
use Rattle.ncp_proof_monitor_allocation.proofs.Proper.{ProperEnds}
use Rattle.ncp_proof_monitor_allocation.proofs.OwnCame.{is_text_coming, own_came}
use Rattle.ncp_proof_monitor_host.proofs.Spoken.{Tells}
use Rattle.ncp_proof_monitor_allocation.proofs.Counted.{Counted}
use Rattle.ncp_proof_monitor_allocation.proofs.CallsCounted.{is_call, counted_call}
use Rattle.ncp_proof_monitor_replies.proofs.OwedItems.{OwedBy}
use Rattle.ncp_proof_monitor_replies.proofs.OwedMoves.{owed_call}

-- ---- what is made is no ECO

abbrev pub has_eco : List Command → Bool
has_eco [] = false
has_eco (c ∷ cs) = is_eco c || has_eco cs

pub none_ecos : (cs : List Command) → has_eco cs ≡ false → ecos cs ≡ 0
none_ecos [] e = refl
none_ecos (c ∷ cs) e = go (is_eco c) refl e (none_ecos cs)
  where
    go : (b : Bool) → is_eco c ≡ b → (b || has_eco cs) ≡ false → (has_eco cs ≡ false → ecos cs ≡ 0) → ecos (c ∷ cs) ≡ 0
    go true k e rest = absurd (cc e)
    go false k e rest = let z = rest e in let y = ap bit k in omega (arith, z, y)

pub none_echoed : (pair : Pair) (what : EndpointEvent) (before : Option Endpoint) → is_of_host what ≡ true → has_eco (happens pair what before).made ≡ false
none_echoed pair (EndpointEvent.Asks_to_send of_size with_room own full) before h = grind arith
none_echoed pair (EndpointEvent.Asks_to_receive with_room on own full) before h = grind arith
none_echoed pair (EndpointEvent.Closes full) None h = refl
none_echoed pair (EndpointEvent.Closes full) (Some e) h = grind arith
none_echoed pair (EndpointEvent.Gives text) before h = refl
none_echoed pair (EndpointEvent.Takes bytes) None h = refl
none_echoed pair (EndpointEvent.Takes bytes) (Some e) h = grind arith
none_echoed pair (EndpointEvent.Allocates m b full) None h = refl
none_echoed pair (EndpointEvent.Allocates m b full) (Some e) h = grind arith
none_echoed pair (EndpointEvent.Calls_back m b full) None h = refl
none_echoed pair (EndpointEvent.Calls_back m b full) (Some e) h = grind arith
none_echoed pair (EndpointEvent.Interrupts full) None h = refl
none_echoed pair (EndpointEvent.Interrupts full) (Some e) h = grind arith
none_echoed pair (EndpointEvent.All_comes on m b) None h = refl
none_echoed pair (EndpointEvent.All_comes on m b) (Some e) h = grind arith
none_echoed pair (EndpointEvent.Gvb_comes on m b) None h = refl
none_echoed pair (EndpointEvent.Gvb_comes on m b) (Some e) h = grind arith
none_echoed pair (EndpointEvent.Ret_comes on m b) None h = refl
none_echoed pair (EndpointEvent.Ret_comes on m b) (Some e) h = grind arith
none_echoed pair (EndpointEvent.Inr_comes on) None h = refl
none_echoed pair (EndpointEvent.Inr_comes on) (Some e) h = grind arith
none_echoed pair (EndpointEvent.Ins_comes on) None h = refl
none_echoed pair (EndpointEvent.Ins_comes on) (Some e) h = grind arith
none_echoed pair (EndpointEvent.Text_comes head of_size text) None h = refl
none_echoed pair (EndpointEvent.Text_comes head of_size text) (Some e) h = grind arith
none_echoed pair EndpointEvent.Text_goes_out before h = refl
none_echoed pair (EndpointEvent.Is_answered Rfnm) None h = refl
none_echoed pair (EndpointEvent.Is_answered Rfnm) (Some e) h = grind arith
none_echoed pair (EndpointEvent.Is_answered Incomplete) before h = refl
none_echoed pair (EndpointEvent.Is_answered Dead) before h = refl
none_echoed pair what before h = absurd (cc h)

-- ---- the link of a request is free

-- a receiver that asks has chosen a link that no receiver has
abbrev pub FreeLink : EndpointEvent → Ends → Pair → Type 0
FreeLink what m pair = (k : ℕ) → all_says (happens pair what (get m pair)).made ≡ (sockets_of pair, Ask k) ∷ [] → receives_at (sockets_of pair) ≡ true → (u : Sockets) → receives_at u ≡ true → Lacks k (kept_of m u)

-- a request
abbrev pub has_request : List Command → Bool
has_request [] = false
has_request (Rts receive send link ∷ cs) = true
has_request (Str send receive size ∷ cs) = true
has_request (c ∷ cs) = has_request cs

unasked : (cs : List Command) (u : Sockets) (k : ℕ) (more : List (Sockets × Say)) → has_request cs ≡ false → all_says cs ≡ (u, Ask k) ∷ more → ⊥
unasked [] u k more h e = cc e
unasked (Rts x y z ∷ cs) u k more h e = cc h
unasked (Str x y z ∷ cs) u k more h e = cc h
unasked (Cls my your ∷ cs) u k more h e =
    let head : ◌≡◌ {A = Sockets × Say} ((my, your), Leave) (u, Ask k) = cc e in
    let nay : Leave ≡ Ask k = ap (λ (s : Sockets × Say). s.1) head in cc nay
unasked (Nop ∷ cs) u k more h e = unasked cs u k more h e
unasked (c ∷ cs) u k more h e = unasked cs u k more h e

-- a call that makes a request
abbrev pub is_asking : EndpointEvent → Bool
is_asking (EndpointEvent.Asks_to_send of_size with_room own full) = true
is_asking (EndpointEvent.Asks_to_receive with_room on own full) = true
is_asking what = false

none_asked : (pair : Pair) (what : EndpointEvent) (before : Option Endpoint) → is_of_host what ≡ true → is_asking what ≡ false → has_request (happens pair what before).made ≡ false
none_asked pair (EndpointEvent.Asks_to_send of_size with_room own full) before h a = absurd (cc a)
none_asked pair (EndpointEvent.Asks_to_receive with_room on own full) before h a = absurd (cc a)
none_asked pair (EndpointEvent.Closes full) None h a = refl
none_asked pair (EndpointEvent.Closes full) (Some e) h a = grind arith
none_asked pair (EndpointEvent.Gives text) before h a = refl
none_asked pair (EndpointEvent.Takes bytes) None h a = refl
none_asked pair (EndpointEvent.Takes bytes) (Some e) h a = grind arith
none_asked pair (EndpointEvent.Allocates m b full) None h a = refl
none_asked pair (EndpointEvent.Allocates m b full) (Some e) h a = grind arith
none_asked pair (EndpointEvent.Calls_back m b full) None h a = refl
none_asked pair (EndpointEvent.Calls_back m b full) (Some e) h a = grind arith
none_asked pair (EndpointEvent.Interrupts full) None h a = refl
none_asked pair (EndpointEvent.Interrupts full) (Some e) h a = grind arith
none_asked pair (EndpointEvent.All_comes on m b) None h a = refl
none_asked pair (EndpointEvent.All_comes on m b) (Some e) h a = grind arith
none_asked pair (EndpointEvent.Gvb_comes on m b) None h a = refl
none_asked pair (EndpointEvent.Gvb_comes on m b) (Some e) h a = grind arith
none_asked pair (EndpointEvent.Ret_comes on m b) None h a = refl
none_asked pair (EndpointEvent.Ret_comes on m b) (Some e) h a = grind arith
none_asked pair (EndpointEvent.Inr_comes on) None h a = refl
none_asked pair (EndpointEvent.Inr_comes on) (Some e) h a = grind arith
none_asked pair (EndpointEvent.Ins_comes on) None h a = refl
none_asked pair (EndpointEvent.Ins_comes on) (Some e) h a = grind arith
none_asked pair (EndpointEvent.Text_comes head of_size text) None h a = refl
none_asked pair (EndpointEvent.Text_comes head of_size text) (Some e) h a = grind arith
none_asked pair EndpointEvent.Text_goes_out before h a = refl
none_asked pair (EndpointEvent.Is_answered Rfnm) None h a = refl
none_asked pair (EndpointEvent.Is_answered Rfnm) (Some e) h a = grind arith
none_asked pair (EndpointEvent.Is_answered Incomplete) before h a = refl
none_asked pair (EndpointEvent.Is_answered Dead) before h a = refl
none_asked pair what before h a = absurd (cc h)

pub unasked_free : (what : EndpointEvent) (m : Ends) (pair : Pair) → is_of_host what ≡ true → is_asking what ≡ false → FreeLink what m pair
unasked_free what m pair h a k e r u s = absurd (unasked (happens pair what (get m pair)).made (sockets_of pair) k [] (none_asked pair what (get m pair) h a) e)

-- no end, no link
free_lacks : (m : Ends) (k : ℕ) (u : Sockets) → ProperEnds m → any (uses_link k) m ≡ false → receives_at u ≡ true → Lacks k (kept_of m u)
free_lacks m k u p a r = go (get m (pair_at u)) refl
  where
    receiver : is_proper (pair_at u) ≡ true → receives_at u ≡ true → receives (pair_at u) ≡ true
    receiver x y = grind arith

    go : (o : Option Endpoint) → get m (pair_at u) ≡ o → Lacks k (kept_of m u)
    go None e x = let nay : None ≡ Some k = ap (λ (o : Option Endpoint). number_of (kept (sends (pair_at u)) o)) (sym e) ∙ x in cc nay
    go (Some z) e x = link_lacks m k u a (receiver (p (pair_at u) (ap is_some e)) r) x

sends_free : (pair : Pair) → sends pair ≡ true → receives_at (sockets_of pair) ≡ true → ⊥
sends_free pair s r = grind arith

made_to_send : (pair : Pair) (of_size room own : ℕ) (full : Bool) (before : Option Endpoint) (k : ℕ) → all_says (made_by_call (answer (ask_send pair of_size room own full before))) ≡ (sockets_of pair, Ask k) ∷ [] → sends pair ≡ true
made_to_send pair of_size room own full before k e =
    either_way (λ (act : Effect (Result Command CallFault)). all_says (made_by_call (answer act)) ≡ (sockets_of pair, Ask k) ∷ [] → sends pair ≡ true) (may_ask_send pair of_size room own full before)
    (Becomes (asked_to_send of_size room (or_new before)) (Ok (Str pair.local pair.remote of_size))) (λ fault x. absurd (cc x)) (λ p x. (send_asks own full before pair of_size room p).0) e

made_to_receive : (pair : Pair) (room on own : ℕ) (full : Bool) (before : Option Endpoint) (k : ℕ) → all_says (made_by_call (answer (ask_receive pair room on own full before))) ≡ (sockets_of pair, Ask k) ∷ [] → (on ≡ k) × (nat_le MAX_OWN own ≡ false)
made_to_receive pair room on own full before k e =
    either_way (λ (act : Effect (Result Command CallFault)). all_says (made_by_call (answer act)) ≡ (sockets_of pair, Ask k) ∷ [] → (on ≡ k) × (nat_le MAX_OWN own ≡ false)) (may_ask_receive pair room own full before)
    (Becomes (asked_to_receive on room (or_new before)) (Ok (Rts pair.local pair.remote on))) (λ fault x. absurd (cc x)) (λ p x. (link_is x, (receive_asks own full before pair room p).2)) e
  where
    link_is : all_says (Rts pair.local pair.remote on ∷ []) ≡ (sockets_of pair, Ask k) ∷ [] → on ≡ k
    link_is x =
        let head : ◌≡◌ {A = Sockets × Say} ((pair.local, pair.remote), Ask on) (sockets_of pair, Ask k) = cc x in
        let same : Ask on ≡ Ask k = ap (λ (s : Sockets × Say). s.1) head in cc same

pub call_free : (call : PairCall) (full : Bool) (m : Ends) (pair : Pair) → ProperEnds m → FreeLink (called call full m) m pair
call_free (Ask_to_send of_size room) full m pair p k e r u s = absurd (sends_free pair (made_to_send pair of_size room (count has_asked m) full (get m pair) k e) r)
call_free (Ask_to_receive room) full m pair p k e r u s =
    let is = made_to_receive pair room (free_link m) (count has_asked m) full (get m pair) k e in
    free_lacks m k u p ((called-fresh (Ask_to_receive room) full m).asked k (ap (λ (b : Bool). b && not (nat_le MAX_OWN (count has_asked m))) (eq-eqb (free_link m) k is.0) ∙ ap not is.1)) s
call_free Close full m pair p k e r u s = unasked_free (EndpointEvent.Closes full) m pair refl refl k e r u s
call_free (Give text) full m pair p k e r u s = unasked_free (EndpointEvent.Gives text) m pair refl refl k e r u s
call_free (Take bytes) full m pair p k e r u s = unasked_free (EndpointEvent.Takes bytes) m pair refl refl k e r u s
call_free (Allocate x y) full m pair p k e r u s = unasked_free (EndpointEvent.Allocates x y full) m pair refl refl k e r u s
call_free (Call_back x y) full m pair p k e r u s = unasked_free (EndpointEvent.Calls_back x y full) m pair refl refl k e r u s
call_free Interrupt full m pair p k e r u s = unasked_free (EndpointEvent.Interrupts full) m pair refl refl k e r u s

-- ---- what the host does by itself

pub own_reports : (me n : ℕ) (pair : Pair) (what : EndpointEvent) (m now : Ends) (awaited : Bool) (w : List Command) (b : SeenTables) → EndsInvariant m → is_of_host what ≡ true → is_text_coming what ≡ false
    → OneEnd m now pair (happens pair what (get m pair)).after → FreeLink what m pair → Counted me n now (w ++ (happens pair what (get m pair)).made) b → OwedBy me n now (w ++ (happens pair what (get m pair)).made) b
    → Tells me n m awaited w b → Tells me n now awaited (w ++ (happens pair what (get m pair)).made) b
own_reports me n pair what m now awaited w b good h x one free counted owed t =
    let cs = (happens pair what (get m pair)).made in
    let after = (happens pair what (get m pair)).after in
    let moved = moves pair what (get m pair) h (good.sound pair) in
    record {
      meets = host_meets me n m w b now pair after cs one moved free t.meets;
      held = host_held me n m now b pair after cs one moved t.held;
      echoing = others_wait me n awaited w cs b (none_ecos cs (none_echoed pair what (get m pair) h)) t.echoing;
      came = own_came me n pair what m now w b good.sound h x one t.came;
      counted = counted;
      owed = owed;
    }

-- a call, or the answer to a text
pub call_reports : (me n : ℕ) (pair : Pair) (what : EndpointEvent) (m now : Ends) (awaited : Bool) (w : List Command) (b : SeenTables) → EndsInvariant m → ProperEnds m → is_of_host what ≡ true → is_text_coming what ≡ false → is_call what ≡ true
    → OneEnd m now pair (happens pair what (get m pair)).after → FreeLink what m pair → Tells me n m awaited w b → Tells me n now awaited (w ++ (happens pair what (get m pair)).made) b
call_reports me n pair what m now awaited w b good proper h x call one free t =
    own_reports me n pair what m now awaited w b good h x one free
    (counted_call me n m now pair what w b call (good.sound pair) (good.limits pair) (proper pair) one t.meets.tally.pairs t.counted)
    (owed_call me n m now pair what w b one call h (good.sound pair) t.owed) t
