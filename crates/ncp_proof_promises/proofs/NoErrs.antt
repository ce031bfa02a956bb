-- No ERR waits at a host or is underway from it, and none came to it.
use Rattle.std.proofs.Common.{◌≡◌, ℕ, ◌+◌, Bool, true, false, ◌&&◌, ◌||◌, if◌then◌else◌, All, List, [], ◌∷◌, ◌++◌, Option, None, Some, refl, ap, ◌∙◌, arith}
use Rattle.std.specs.List.{list_any}
use Rattle.std.specs.FinMap.{get}
use Rattle.std.proofs.lemmas.List.Elements.{All-nil, All-cons, All-head, All-tail, All-append, All-filter, All-take, All-drop}
use Rattle.ncp_wire.specs.declared.command.Command.{Command}
use Rattle.ncp_wire.specs.declared.command.Command.TheVariants.{Rst, Rrp}
use Rattle.ncp_proof_machine.specs.Delivery.{Slot, Empty, Ready, Travelling, Held, MessageTransit, Free, Accepted, Delivered, Lost, Dead, Link, undelivered, link_answered, woken, idle}
use Rattle.ncp_proof_machine.specs.Resets.{ResetHost, Party, This, That, is_up, host_resets, host_falls, host_makes, host_makes_all, host_hears, ResetWorld, anew, commands_underway, on_line, reset_sends}
use Rattle.ncp_model.specs.declared.pair.Pair.{Pair}
use Rattle.ncp_model.specs.declared.outcomes.Took.{Took}
use Rattle.ncp_model.specs.Endpoint.{Endpoint}
use Rattle.ncp_model.specs.Effect.{answer, made_if_any, made_by_call}
use Rattle.ncp_model.specs.Texts.{made_by_text, Rfnm}
use Rattle.ncp_model.specs.Echo.{Echoes, echo_answer, echo_asked, purge_echo}
use Rattle.ncp_model.specs.Ends.{Ends, sender_on, text_in, cut_in, answered_at, answered_in}
use Rattle.ncp_model.specs.EndpointEvents.{EndpointEvent, Transition, happens, outcome_of_text, is_violation}
use Rattle.ncp_model.specs.Phase.{Phase, is_rst, is_rrp, is_reset, is_other, purge, phase_answers, phase_asks, phase_settles, is_resetting, wants_reset, owes_answer, has_room_for_one, queued, up, resets}
use Rattle.ncp_model.specs.Sending.{is_full}
use Rattle.ncp_model.specs.Peers.{Peer, PairCall, Ask_to_send, Ask_to_receive, Close, Give, Take, Allocate, Call_back, Interrupt, called, echoes_after}
use Rattle.ncp_proof_machine.specs.Hosts.{Node, TextOut, node_reaction, quiet, node_cleared, node_kept_echoes, happens_at, node_calls, node_echo_called, node_calls_echo, node_calls_reset, node_hears, node_hears_other, node_hears_all, node_takes_text, node_hears_text, node_cuts, node_sends_text, node_frees, node_settles, text_answered, control_answered, node_text_comes, message_comes, base, TwoNodes, nodes_swapped, NodeStep, Calls_reset, Calls, Calls_echo, Falls, Sends, Sends_text, Hears, Hears_text, Loses, Loses_text, Dies, Text_dies, Is_answered, Text_is_answered, Wakes, node_steps, node_at, NodeEvent, new_node}
use Rattle.ncp_proof_headline.proofs.HostsHeld.{ever}
use Rattle.ncp_peer.specs.PeerState.{PeerState}
use Rattle.ncp_transcript_two.specs.Tie.{Represents, IsReachable, Begins, Goes_on, Refines}
use Rattle.ncp_transcript_two.specs.Subnet.{TransitByLink}
use Rattle.ncp_transcript_two.specs.World.{World}
use Rattle.ncp_transcript_two.proofs.Reaching.{of-reached}
use Rattle.ncp_transcript_two.proofs.Underway.{underway-is}
use Rattle.ncp_proof_promises.specs.Judged.{is_error}
use Rattle.ncp_proof_promises.specs.Errless.{HasNoErr}
use Rattle.ncp_proof_promises.proofs.Judging.{right-one, clean}

abbrev Right : Command → Type 0
Right c = is_error c ≡ false

abbrev Rights : List Command → Type 0
Rights cs = All Right cs

choose : {A : Type 0} (P : A → Type 0) (b : Bool) (x y : A) → P x → P y → P (if b then x else y)
choose P true x y p q = p
choose P false x y p q = q

one : (c : Command) → Right c → Rights (c ∷ [])
one c r = All-cons Right c [] r (All-nil Right)

any-right : (cs : List Command) → list_any is_error cs ≡ false → Rights cs
any-right [] e = All-nil Right
any-right (c ∷ cs) e =
    let a : is_error c ≡ false = grind arith in
    let b : list_any is_error cs ≡ false = grind arith in
    All-cons Right c cs a (any-right cs b)

right-any : (cs : List Command) → Rights cs → list_any is_error cs ≡ false
right-any [] r = refl
right-any (c ∷ cs) r =
    let a : is_error c ≡ false = All-head Right c cs r in
    let b : list_any is_error cs ≡ false = right-any cs (All-tail Right c cs r) in
    grind arith

-- What waits at a host.

abbrev Quiet : ResetHost → Type 0
Quiet h = Rights h.phase.waiting

purging : (p : Phase) → Rights p.waiting → Rights (purge p).waiting
purging p r = All-filter is_reset Right p.waiting r

answering : (p : Phase) → Rights p.waiting → Rights (phase_answers p).waiting
answering p r =
    let more : List Command = if list_any is_rrp p.waiting then p.waiting else p.waiting ++ Rrp ∷ [] in
    choose (λ (q : Phase). Rights q.waiting) p.owe (record p { down = false; owe = false; waiting = more }) p
    (choose Rights (list_any is_rrp p.waiting) p.waiting (p.waiting ++ Rrp ∷ []) r (All-append Right p.waiting (Rrp ∷ []) r (one Rrp refl))) r

asking : (p : Phase) → Rights p.waiting → Rights (phase_asks p).waiting
asking p r =
    let more : List Command = if list_any is_rst p.waiting then p.waiting else p.waiting ++ Rst ∷ [] in
    choose (λ (q : Phase). Rights q.waiting) p.want (record p { down = false; want = false; wait = true; waiting = more }) p
    (choose Rights (list_any is_rst p.waiting) p.waiting (p.waiting ++ Rst ∷ []) r (All-append Right p.waiting (Rst ∷ []) r (one Rst refl))) r

settling : (q : Bool) (p : Phase) → Rights p.waiting → Rights (phase_settles q p).waiting
settling q p r = choose (λ (x : Phase). Rights x.waiting) q (phase_asks (phase_answers p)) p (asking (phase_answers p) (answering p r)) r

resetting : (q : Bool) (h : ResetHost) → Quiet h → Quiet (host_resets q h)
resetting q h r =
    choose Quiet (is_resetting h.phase) h (anew (resets q h.phase)) r
    (choose (λ (x : Phase). Rights x.waiting) (is_resetting h.phase) h.phase (phase_settles q (wants_reset h.phase)) r (settling q (wants_reset h.phase) (purging h.phase r)))

making : (c : Command) (h : ResetHost) → Right c → Quiet h → Quiet (host_makes c h)
making c h k r =
    let queue : ResetHost = record h { phase = queued c h.phase; made = h.made ++ c ∷ [] } in
    choose Quiet (is_up h && is_other c) (if has_room_for_one h.phase then queue else host_falls h) h
    (choose Quiet (has_room_for_one h.phase) queue (host_falls h) (All-append Right h.phase.waiting (c ∷ []) r (one c k)) (purging h.phase r)) r

making-all : (cs : List Command) (h : ResetHost) → Rights cs → Quiet h → Quiet (host_makes_all cs h)
making-all [] h k r = r
making-all (c ∷ cs) h k r = making-all cs (host_makes c h) (All-tail Right c cs k) (making c h (All-head Right c cs k) r)

-- A host, with its control link.

abbrev InSlot : Slot (List Command) → Type 0
InSlot Empty = Unit {0}
InSlot (Ready m) = Rights m
InSlot (Travelling m) = Rights m
InSlot (Held m) = Rights m

abbrev InSubnet : MessageTransit (List Command) → Type 0
InSubnet Free = Unit {0}
InSubnet (Accepted m) = Rights m
InSubnet Delivered = Unit {0}
InSubnet Lost = Unit {0}
InSubnet Dead = Unit {0}

abbrev None_at : Node → Type 0
None_at n = record { waits : Quiet n.host; slot : InSlot n.control.slot; subnet : InSubnet n.control.subnet; errors : n.echoes.errors ≡ [] }

keeping-echoes : (h : ResetHost) (s : Echoes) → s.errors ≡ [] → (node_kept_echoes h s).errors ≡ []
keeping-echoes h s e = choose (λ (x : Echoes). x.errors ≡ []) (up h.phase) s (purge_echo s) e e

-- with another host and other echoes
with-host : (n : Node) (h : ResetHost) (s : Echoes) (m : Ends) (k : None_at n) → Quiet h → s.errors ≡ [] → None_at (record n { host = h; echoes = s; ends = m })
with-host n h s m k r e = record { waits = r; slot = k.slot; subnet = k.subnet; errors = e }

-- Calls.

abbrev Each : List Command → Type 0
Each [] = Unit {0}
Each (c ∷ cs) = Right c × Each cs

rights : (cs : List Command) → Each cs → Rights cs
rights [] e = All-nil Right
rights (c ∷ cs) e = All-cons Right c cs e.0 (rights cs e.1)

made-right : (pair : Pair) (call : PairCall) (full : Bool) (m : Ends) (o : Option Endpoint) → Each (happens pair (called call full m) o).made
made-right pair (Ask_to_send of_size with_room) full m None = grind arith
made-right pair (Ask_to_send of_size with_room) full m (Some e) = grind arith
made-right pair (Ask_to_receive with_room) full m None = grind arith
made-right pair (Ask_to_receive with_room) full m (Some e) = grind arith
made-right pair Close full m None = tt
made-right pair Close full m (Some e) = grind arith
made-right pair (Give text) full m None = tt
made-right pair (Give text) full m (Some e) = tt
made-right pair (Take bytes) full m None = tt
made-right pair (Take bytes) full m (Some e) = grind arith
made-right pair (Allocate of_messages of_bits) full m None = tt
made-right pair (Allocate of_messages of_bits) full m (Some e) = grind arith
made-right pair (Call_back of_messages of_bits) full m None = tt
made-right pair (Call_back of_messages of_bits) full m (Some e) = grind arith
made-right pair Interrupt full m None = tt
made-right pair Interrupt full m (Some e) = grind arith

calling : (pair : Pair) (call : PairCall) (n : Node) → None_at n → None_at (node_calls pair call n)
calling pair call n k =
    let what : EndpointEvent = called call (is_full n.host.phase) n.ends in
    let did : Transition = happens pair what (get n.ends pair) in
    let h : ResetHost = host_makes_all did.made n.host in
    choose None_at (is_up n.host) (happens_at pair what n) n
    (record {
      waits = making-all did.made n.host (rights did.made (made-right pair call (is_full n.host.phase) n.ends (get n.ends pair))) k.waits;
      slot = k.slot;
      subnet = k.subnet;
      errors = keeping-echoes h n.echoes k.errors;
    }) k

echo-right : (byte : ℕ) (full : Bool) (s : Echoes) → Each (made_by_call (echo_answer byte full s))
echo-right byte full s = grind arith

echoing : (byte : ℕ) (n : Node) → None_at n → None_at (node_calls_echo byte n)
echoing byte n k =
    let made : List Command = made_by_call (echo_answer byte (is_full n.host.phase) n.echoes) in
    let h : ResetHost = host_makes_all made n.host in
    choose None_at (is_up n.host) (node_echo_called byte n) n
    (record {
      waits = making-all made n.host (rights made (echo-right byte (is_full n.host.phase) n.echoes)) k.waits;
      slot = k.slot;
      subnet = k.subnet;
      errors = keeping-echoes h (echo_asked (is_full n.host.phase) n.echoes) k.errors;
    }) k

clearing : (n : Node) (h : ResetHost) → None_at n → Quiet h → None_at (node_cleared h n)
clearing n h k r = record { waits = r; slot = k.slot; subnet = k.subnet; errors = k.errors }

calling-reset : (n : Node) → None_at n → None_at (node_calls_reset n)
calling-reset n k = choose None_at (is_resetting n.host.phase) n (node_cleared (host_resets (quiet n) n.host) n) k (clearing n (host_resets (quiet n) n.host) k (resetting (quiet n) n.host k.waits))

-- What comes. No command of a good peer is answered by an ERR.

errors-after : (c : Command) (s : Echoes) → Right c → s.errors ≡ [] → (echoes_after c s).errors ≡ []
errors-after (Command.Err code bytes) s r e = absurd (cc r)
errors-after c s r e = e

hearing : (c : Command) (n : Node) → Right c → None_at n → (node_hears c n).violated ≡ false → None_at (node_hears c n)
hearing Rst n r k e = clearing n (host_hears Rst (node_reaction Rst n) n.host) k (settling (node_reaction Rst n).quiet (owes_answer n.host.phase) (purging n.host.phase k.waits))
hearing Rrp n r k e = record { waits = k.waits; slot = k.slot; subnet = k.subnet; errors = k.errors }
hearing c n r k e = go (is_up n.host) refl
  where
    heard : is_up n.host ≡ true → Quiet (host_hears c (node_reaction c n) n.host)
    heard u =
        let replies = any-right (node_reaction c n).replies (right-one c n e u) in
        let h : ResetHost = record n.host { came = n.host.came ++ c ∷ [] } in
        choose Quiet (is_up n.host) (if (node_reaction c n).full then host_falls n.host else host_makes_all (node_reaction c n).replies h) n.host
        (choose Quiet (node_reaction c n).full (host_falls n.host) (host_makes_all (node_reaction c n).replies h) (purging n.host.phase k.waits) (making-all (node_reaction c n).replies h replies k.waits)) k.waits

    go : (b : Bool) → is_up n.host ≡ b → None_at (if b then node_hears_other c n else n)
    go true u = record { waits = heard u; slot = k.slot; subnet = k.subnet; errors = keeping-echoes (host_hears c (node_reaction c n) n.host) (echoes_after c n.echoes) (errors-after c n.echoes r k.errors) }
    go false u = k

hearing-all : (cs : List Command) (n : Node) → Rights cs → None_at n → (node_hears_all cs n).violated ≡ false → None_at (node_hears_all cs n)
hearing-all [] n r k e = k
hearing-all (c ∷ cs) n r k e = hearing-all cs (node_hears c n) (All-tail Right c cs r) (hearing c n (All-head Right c cs r) k (clean cs (node_hears c n) e)) e

or_right : (a b : Bool) → (a || b) ≡ false → b ≡ false
or_right true b e = absurd (cc e)
or_right false b e = e

text-right : (head bits : List Bool) (a : Took) → is_violation (outcome_of_text a) ≡ false → Rights (made_by_text head bits a)
text-right head bits Took.NotOpen e = absurd (cc e)
text-right head bits a e = All-nil Right

hearing-text : (on : ℕ) (head : List Bool) (t : TextOut) (n : Node) → None_at n → (node_hears_text on head t n).violated ≡ false → None_at (node_hears_text on head t n)
hearing-text on head t n k e = go (is_up n.host) e
  where
    go : (b : Bool) → (if b then node_takes_text on head t n else n).violated ≡ false → None_at (if b then node_takes_text on head t n else n)
    go true e =
        let a : Took = answer (text_in on t.of_size t.bits n.ends) in
        let made : List Command = made_by_text head t.bits a in
        let h : ResetHost = host_makes_all made n.host in
        record {
          waits = making-all made n.host (text-right head t.bits a (or_right n.violated _ e)) k.waits;
          slot = k.slot;
          subnet = k.subnet;
          errors = keeping-echoes h n.echoes k.errors;
        }
    go false e = k

-- What goes out, and its answers.

sending : (had : Slot (List Command)) (q : List Command) (many : ℕ) (a : ResetWorld) → InSlot had → Rights a.this.phase.waiting → InSlot a.going.slot → InSubnet a.going.subnet
    → record { waits : Quiet (reset_sends had q many a).this; slot : InSlot (reset_sends had q many a).going.slot; subnet : InSubnet (reset_sends had q many a).going.subnet }
sending (Ready m) q many a i r s u = record { waits = r; slot = i; subnet = i }
sending (Travelling m) q many a i r s u = record { waits = r; slot = s; subnet = u }
sending (Held m) q many a i r s u = record { waits = r; slot = s; subnet = u }
sending Empty [] many a i r s u = record { waits = r; slot = s; subnet = u }
sending Empty (c ∷ cs) many a i r s u =
    let first = All-take Right (many + 1) a.this.phase.waiting r in
    record { waits = All-drop Right (many + 1) a.this.phase.waiting r; slot = first; subnet = first }

cutting : (on : ℕ) (o : Option (ℕ × List Bool)) (n : Node) → None_at n → None_at (node_cuts on o n)
cutting on None n k = k
cutting on (Some t) n k = record { waits = k.waits; slot = k.slot; subnet = k.subnet; errors = k.errors }

sending-text : (on : ℕ) (slot : Slot TextOut) (n : Node) → None_at n → None_at (node_sends_text on slot n)
sending-text on Empty n k = cutting on (answer (cut_in on n.ends)) n k
sending-text on (Ready t) n k = record { waits = k.waits; slot = k.slot; subnet = k.subnet; errors = k.errors }
sending-text on (Travelling t) n k = k
sending-text on (Held t) n k = k

freed-right : (o : Option (Pair × Endpoint)) → Each (made_if_any (answer (answered_at Rfnm o)))
freed-right None = tt
freed-right (Some q) = grind arith

freeing : (on : ℕ) (n : Node) → None_at n → None_at (node_frees on n)
freeing on n k =
    let made : List Command = made_if_any (answer (answered_in on Rfnm n.ends)) in
    let h : ResetHost = host_makes_all made n.host in
    record {
      waits = making-all made n.host (rights made (freed-right (sender_on on n.ends))) k.waits;
      slot = k.slot;
      subnet = k.subnet;
      errors = choose (λ (x : Echoes). x.errors ≡ []) (is_up n.host) (node_kept_echoes h n.echoes) n.echoes (keeping-echoes h n.echoes k.errors) k.errors;
    }

settling-node : (n : Node) → None_at n → None_at (node_settles n)
settling-node n k = record { waits = settling (quiet n) n.host.phase k.waits; slot = k.slot; subnet = k.subnet; errors = k.errors }

text-answering : (on : ℕ) (slot : Slot TextOut) (s : MessageTransit TextOut) (n : Node) → None_at n → None_at (text_answered on slot s n)
text-answering on (Travelling t) Delivered n k = settling-node (node_frees on n) (freeing on n k)
text-answering on slot s n k = record { waits = k.waits; slot = k.slot; subnet = k.subnet; errors = k.errors }

with-link : (n : Node) (l : Link (List Command)) → None_at n → InSlot l.slot → InSubnet l.subnet → None_at (record n { control = l })
with-link n l k i u = record { waits = k.waits; slot = i; subnet = u; errors = k.errors }

control-answering : (slot : Slot (List Command)) (s : MessageTransit (List Command)) (n : Node) → None_at n → InSlot slot → InSubnet s → None_at (control_answered slot s n)
control-answering (Travelling m) Delivered n k i u = settling-node (record n { control = idle }) (with-link n idle k tt tt)
control-answering (Travelling m) Free n k i u = with-link n (link_answered (Travelling m) Free) k i u
control-answering (Travelling m) (Accepted c) n k i u = with-link n (link_answered (Travelling m) (Accepted c)) k i u
control-answering (Travelling m) Lost n k i u = with-link n (link_answered (Travelling m) Lost) k i tt
control-answering (Travelling m) Dead n k i u = with-link n (link_answered (Travelling m) Dead) k i tt
control-answering Empty s n k i u = with-link n (link_answered Empty s) k i u
control-answering (Ready m) s n k i u = with-link n (link_answered (Ready m) s) k i u
control-answering (Held m) s n k i u = with-link n (link_answered (Held m) s) k i u

not-delivering : (as_what s : MessageTransit (List Command)) → InSubnet as_what → InSubnet s → InSubnet (undelivered as_what s)
not-delivering as_what (Accepted m) a u = a
not-delivering as_what Free a u = u
not-delivering as_what Delivered a u = u
not-delivering as_what Lost a u = u
not-delivering as_what Dead a u = u

waking : (slot : Slot (List Command)) → InSlot slot → InSlot (woken slot)
waking Empty i = i
waking (Ready m) i = i
waking (Travelling m) i = i
waking (Held m) i = i

-- Two hosts.

abbrev None_in : TwoNodes → Type 0
None_in w = None_at w.this × None_at w.that

coming : (s : MessageTransit (List Command)) (w : TwoNodes) → InSubnet s → None_in w → (message_comes s w).this.violated ≡ false → None_in (message_comes s w)
coming (Accepted m) w u k e = (hearing-all m w.this u k.0 e, with-link w.that (record w.that.control { subnet = Delivered }) k.1 k.1.slot tt)
coming Free w u k e = k
coming Delivered w u k e = k
coming Lost w u k e = k
coming Dead w u k e = k

text-coming : (on : ℕ) (head : List Bool) (s : MessageTransit TextOut) (w : TwoNodes) → None_in w → (node_text_comes on head s w).this.violated ≡ false → None_in (node_text_comes on head s w)
text-coming on head (Accepted t) w k e = (hearing-text on head t w.this k.0 e, record { waits = k.1.waits; slot = k.1.slot; subnet = k.1.subnet; errors = k.1.errors })
text-coming on head Free w k e = k
text-coming on head Delivered w k e = k
text-coming on head Lost w k e = k
text-coming on head Dead w k e = k

stepping : (st : NodeStep) (w : TwoNodes) → None_in w → (node_steps st w).this.violated ≡ false → None_in (node_steps st w)
stepping Calls_reset w k e = (calling-reset w.this k.0, k.1)
stepping (Calls pair call) w k e = (calling pair call w.this k.0, k.1)
stepping (Calls_echo byte) w k e = (echoing byte w.this k.0, k.1)
stepping Falls w k e = (clearing w.this (host_falls w.this.host) k.0 (purging w.this.host.phase k.0.waits), k.1)
stepping (Sends n) w k e =
    let s = sending w.this.control.slot w.this.host.phase.waiting n (base w) k.0.slot k.0.waits k.0.slot k.0.subnet in
    (record { waits = s.waits; slot = s.slot; subnet = s.subnet; errors = k.0.errors }, k.1)
stepping (Sends_text on) w k e = (sending-text on (w.this.texts on).slot w.this k.0, k.1)
stepping Hears w k e = coming w.that.control.subnet w k.1.subnet k e
stepping (Hears_text on head) w k e = text-coming on head (w.that.texts on).subnet w k e
stepping Loses w k e = (record { waits = k.0.waits; slot = k.0.slot; subnet = not-delivering Lost w.this.control.subnet tt k.0.subnet; errors = k.0.errors }, k.1)
stepping (Loses_text on) w k e = (record { waits = k.0.waits; slot = k.0.slot; subnet = k.0.subnet; errors = k.0.errors }, k.1)
stepping Dies w k e = (record { waits = k.0.waits; slot = k.0.slot; subnet = not-delivering Dead w.this.control.subnet tt k.0.subnet; errors = k.0.errors }, k.1)
stepping (Text_dies on) w k e = (record { waits = k.0.waits; slot = k.0.slot; subnet = k.0.subnet; errors = k.0.errors }, k.1)
stepping Is_answered w k e = (control-answering w.this.control.slot w.this.control.subnet w.this k.0 k.0.slot k.0.subnet, k.1)
stepping (Text_is_answered on) w k e = (text-answering on (w.this.texts on).slot (w.this.texts on).subnet w.this k.0, k.1)
stepping Wakes w k e = (record { waits = k.0.waits; slot = waking w.this.control.slot k.0.slot; subnet = k.0.subnet; errors = k.0.errors }, k.1)

-- whatever is reached, neither has broken a rule of the other
safe : (w : TwoNodes) → IsReachable w → (w.this.violated ≡ false) × (w.that.violated ≡ false)
safe w r = of-reached (λ (x : TwoNodes). (x.this.violated ≡ false) × (x.that.violated ≡ false)) (λ (es : List NodeEvent). let k = (ever es).holds.joined in (k.this.safe, k.that.safe)) w r

siding : (side : Party) (st : NodeStep) (w : TwoNodes) → None_in w → ((node_at side st w).this.violated ≡ false) × ((node_at side st w).that.violated ≡ false) → None_in (node_at side st w)
siding This st w k e = stepping st w k e.0
siding That st w k e = let s = stepping st (nodes_swapped w) (k.1, k.0) e.1 in (s.1, s.0)

reached : {w : TwoNodes} → IsReachable w → None_in w
reached Begins =
    let first : None_at new_node = record { waits = All-nil Right; slot = tt; subnet = tt; errors = refl } in
    (first, first)
reached (Goes_on {w} r side step) = siding side step w (reached r) (safe (node_at side step w) (Goes_on r side step))

-- as it is seen

on-line : (slot : Slot (List Command)) (s : MessageTransit (List Command)) → InSlot slot → InSubnet s → Rights (on_line slot s)
on-line Empty s i u = All-nil Right
on-line (Ready m) s i u = i
on-line (Held m) s i u = i
on-line (Travelling m) Free i u = All-nil Right
on-line (Travelling m) (Accepted c) i u = u
on-line (Travelling m) Delivered i u = All-nil Right
on-line (Travelling m) Lost i u = i
on-line (Travelling m) Dead i u = i

standing : (there : ℕ) (n : Node) (s : PeerState) (u : TransitByLink) → Represents there n s u → None_at n → HasNoErr s u
standing there n s u t k = (
  ap (list_any is_error) (underway-is there n s u t)
      ∙ right-any (commands_underway n.host n.control) (All-append Right (on_line n.control.slot n.control.subnet) n.host.phase.waiting (on-line n.control.slot n.control.subnet k.slot k.subnet) k.waits),
  ap (λ (p : Peer). p.echoes.errors) t.peer ∙ k.errors,
)

pub no-errs : (w : TwoNodes) (v : World) → Refines w v → HasNoErr v.this v.going × HasNoErr v.that v.coming
no-errs w v t = let k = reached t.reached in (standing v.there w.this v.this v.going t.this k.0, standing v.here w.that v.that v.coming t.that k.1)
