-- Nothing opens while its link has a text.
use Rattle.std.proofs.Common.{◌≡◌, ℕ, ◌==◌, Bool, true, false, not, ◌&&◌, if◌then◌else◌, All, List, [], ◌∷◌, ◌++◌, Option, None, Some, refl, sym, ap, ◌∙◌, arith, subst}
use Rattle.std.specs.FinMap.{get, get-empty}
use Rattle.std.proofs.lemmas.List.{append_assoc}
use Rattle.std.proofs.lemmas.List.Elements.{All-head, All-tail}
use Rattle.ncp_wire.specs.declared.command.Command.{Command}
use Rattle.ncp_wire.specs.Spelling.{IsCommand}
use Rattle.ncp_slot.specs.declared.slot.Slot.{Slot}
use Rattle.ncp_wire.specs.declared.answer.Answer.{Answer}
use Rattle.ncp_wire.specs.declared.answer.Answer.TheVariants.{Rfnm, Incomplete, Dead}
use Rattle.ncp_slot.specs.Slot.{is_empty}
use Rattle.ncp_slot.specs.Slots.{LinkSlot, LinkSlots, slot_at}
use Rattle.ncp_model.specs.declared.pair.Pair.{Pair}
use Rattle.ncp_model.specs.Pairs.{pair_cmp}
use Rattle.ncp_model.specs.Endpoint.{Endpoint, is_live}
use Rattle.ncp_model.specs.Effect.{Effect, end_after}
use Rattle.ncp_model.specs.Texts
use Rattle.ncp_model.specs.Texts.{hear_text}
use Rattle.ncp_model.specs.Ends.{Ends, hears_link, uses_link, sender_on, receiver_on, pair_of, text_in, cut_in, answered_in, map_after, map_after_at, no_ends}
use Rattle.ncp_model.specs.EndpointEvents.{EndpointEvent, Transition, happens}
use Rattle.ncp_model.specs.Demux.{passes}
use Rattle.ncp_model.specs.Phase.{up}
use Rattle.ncp_model.specs.Peers.{Peer, calls, calls_echo, calls_reset, cuts, frees, frees_up, hears_text, peer_sends, takes_text}
use Rattle.ncp_model.proofs.LinksDemux.{led, cut-led, answered-led}
use Rattle.ncp_proof_endpoint.specs.Histories.{opens}
use Rattle.ncp_proof_machine.specs.Delivery.{Link, MessageTransit}
use Rattle.ncp_proof_machine.specs.Delivery
use Rattle.ncp_proof_machine.specs.Resets.{This}
use Rattle.ncp_proof_machine.specs.Hosts.{Node, TextOut, peer_of, NodeEvent, NodeStep, TwoNodes, node_at, node_hears, node_hears_all, node_steps, nodes_swapped, quiet, run}
use Rattle.ncp_proof_machine.proofs.EndsGood.{changed-each, act-changes}
use Rattle.ncp_proof_machine.proofs.HostsBase.{hears_all-texts}
use Rattle.ncp_proof_machine.proofs.HostsStand.{hearing-stands}
use Rattle.ncp_proof_machine.proofs.HostsStand.{NodesStand}
use Rattle.ncp_proof_machine.proofs.Seeing.{calls_agree, echoes_agree, resets_agree}
use Rattle.ncp_proof_headline.proofs.HostsHeld.{ever, ever-swapped, happening, after_step}
use Rattle.ncp_proof_headline.specs.Headline.{NoPairOpens, NoCommandOpens, SenderOpensAt, ReceiverOpensAt}
use Rattle.ncp_proof_headline.proofs.OpensNot.{none-live-at}
use Rattle.ncp_proof_headline.proofs.HostsHeadline.{sender-opens-not, receiver-opens-not, sender-hears-not, receiver-hears-not}
use Rattle.ncp_peer.specs.PeerState.{PeerState, after_answer, answer_comes}
use Rattle.ncp_peer.specs.Hearing.{state_hears}
use Rattle.ncp_peer.specs.Output.{next_of, after_by}
use Rattle.ncp_transcript_two.specs.Subnet.{Holds, Free, Accepted, Delivered, Lost, TransitByLink, from_host}
use Rattle.ncp_transcript_two.specs.Subnet
use Rattle.ncp_transcript.specs.Asked.{Asked, Asks, Asks_echo, Asks_reset, Asks_wake, state_after_asked}
use Rattle.ncp_transcript_two.specs.World.{World, state_after_received, Call_is_made, Goes_out, Is_delivered, Is_lost, Finds_dead, Is_answered, moves, goes, delivers, loses, dies, answers_for, WorldStep}
use Rattle.ncp_transcript_two.specs.Tie.{MessageState, Nowhere, Waits, Goes, Came, Failed, Died, Kept, model_of, slot_of, LinkRefines, text_as_message, IsTextOn, Represents, IsReachable, Refines, IsMove}
use Rattle.ncp_transcript_two.specs.Underway.{commands_of}
use Rattle.ncp_transcript_two.proofs.Links.{Comes, delivered}
use Rattle.ncp_transcript_two.proofs.Ties.{quiet-is}
use Rattle.ncp_transcript_two.proofs.Unmoved.{calls-unmoved, echo-unmoved, reset-unmoved}
use Rattle.ncp_transcript_two.proofs.Written.{answer_comes-is}
use Rattle.ncp_transcript_two.proofs.Comings.{text-heard, hears-stands}
use Rattle.ncp_transcript_two.proofs.Answering.{answered-is}
use Rattle.ncp_transcript_two.proofs.Flights.{IsOut, delivered-out, lost-out, dead-out}
use Rattle.ncp_transcript_two.proofs.Reaching.{of-reached, stands-there}
use Rattle.ncp_proof_promises.specs.Openings.{OpensOnFreeLinks, EachOpensOnFreeLinks, OpensNothing, OpensUnderNoText}
use Rattle.ncp_proof_promises.proofs.Judging.{ControlComes, control-comes, control-read, on_control, acts}

-- What is not live stays so.

abbrev StaysShut : Ends → Ends → Type 0
StaysShut m k = (p : Pair) → is_live (get m p) ≡ false → is_live (get k p) ≡ false

opens-nothing : (m k : Ends) → StaysShut m k → (p : Pair) → opens (get m p) (get k p) ≡ false
opens-nothing m k f p = go (is_live (get m p)) (f p)
  where
    go : (b : Bool) → (b ≡ false → is_live (get k p) ≡ false) → (not b && is_live (get k p)) ≡ false
    go true g = refl
    go false g = g refl

shut-none : (m : Ends) → StaysShut m no_ends
shut-none m p e = ap is_live (get-empty pair_cmp p)

-- the commands that a host makes leave its ends, or it goes down
shut-made : (m k : Ends) (b : Bool) → StaysShut m k → StaysShut m (if b then k else no_ends)
shut-made m k true f = f
shut-made m k false f = shut-none m

-- an act where a look-up led
shut-looked : {A : Type 0} → (m : Ends) (o : Option Pair) (act : Effect A)
    → ((pair : Pair) → o ≡ Some pair → (what : EndpointEvent) × ((happens pair what (get m pair)).after ≡ end_after (get m pair) act) × (is_live (get m pair) ≡ false → is_live (happens pair what (get m pair)).after ≡ false))
    → StaysShut m (map_after_at m o act)
shut-looked m None act f = λ p e. e
shut-looked m (Some pair) act f =
    let w = f pair refl in
    changed-each (λ p o. is_live (get m p) ≡ false → is_live o ≡ false) m (map_after m pair act) pair w.0 (act-changes m pair w.0 act w.1) (λ _. w.2) (λ p e. e)

text-shut : (pair : Pair) (of_size : ℕ) (text : List Bool) (before : Option Endpoint) → is_live before ≡ false → is_live (happens pair (EndpointEvent.Text_comes [] of_size text) before).after ≡ false
text-shut pair of_size text None e = e
text-shut pair of_size text (Some x) e = grind arith

cut-shut : (pair : Pair) (before : Option Endpoint) → is_live before ≡ false → is_live (happens pair EndpointEvent.Text_goes_out before).after ≡ false
cut-shut pair None e = e
cut-shut pair (Some x) e = grind arith

rfnm-shut : (pair : Pair) (before : Option Endpoint) → is_live before ≡ false → is_live (happens pair (EndpointEvent.Is_answered Texts.Rfnm) before).after ≡ false
rfnm-shut pair None e = e
rfnm-shut pair (Some x) e = grind arith

-- the calls and the notes of which nothing opens

hears-shut : (on : ℕ) (head : List Bool) (of_size : ℕ) (text : List Bool) (p : Peer) → StaysShut p.ends (hears_text on head of_size text p).ends
hears-shut on head of_size text p = go (up p.phase)
  where
    m : Ends
    m = map_after_at p.ends (pair_of (receiver_on on p.ends)) (text_in on of_size text p.ends)

    changed : StaysShut p.ends m
    changed = shut-looked p.ends (pair_of (receiver_on on p.ends)) (text_in on of_size text p.ends)
        (λ pair e. let l = led (uses_link on) p.ends pair e in (EndpointEvent.Text_comes [] of_size text, ap (λ (o : Option Endpoint). end_after (get p.ends pair) (hear_text of_size text o)) l.0, text-shut pair of_size text (get p.ends pair)))

    go : (b : Bool) → StaysShut p.ends (if b then takes_text on head of_size text p else p).ends
    go true = shut-made p.ends m _ changed
    go false = λ q e. e

cuts-shut : (on : ℕ) (p : Peer) → StaysShut p.ends (cuts on p).ends
cuts-shut on p = shut-looked p.ends (pair_of (sender_on on p.ends)) (cut_in on p.ends)
    (λ pair e. let l = cut-led p.ends on pair e in (EndpointEvent.Text_goes_out, ap (λ (d : Transition). d.after) l.1, cut-shut pair (get p.ends pair)))

frees-shut : (on : ℕ) (p : Peer) → StaysShut p.ends (frees on p).ends
frees-shut on p = go (up p.phase)
  where
    m : Ends
    m = map_after_at p.ends (pair_of (sender_on on p.ends)) (answered_in on Texts.Rfnm p.ends)

    changed : StaysShut p.ends m
    changed = shut-looked p.ends (pair_of (sender_on on p.ends)) (answered_in on Texts.Rfnm p.ends)
        (λ pair e. let l = answered-led p.ends on Texts.Rfnm pair e in (EndpointEvent.Is_answered Texts.Rfnm, ap (λ (d : Transition). d.after) l.1, rfnm-shut pair (get p.ends pair)))

    go : (b : Bool) → StaysShut p.ends (if b then frees_up on p else p).ends
    go true = shut-made p.ends m _ changed
    go false = λ q e. e

out-shut : (s : LinkSlot) (on : ℕ) (p : Peer) → StaysShut p.ends (after_by s on p).ends
out-shut Slot.Empty on p = go (on == 0)
  where
    go : (b : Bool) → StaysShut p.ends (if b then peer_sends p else cuts on p).ends
    go true = λ q e. e
    go false = cuts-shut on p
out-shut (Slot.Ready m) on p = λ q e. e
out-shut (Slot.Travelling m) on p = λ q e. e
out-shut (Slot.Held m) on p = λ q e. e

answer-shut : (on : ℕ) (how : Answer) (sl : LinkSlots) (p : Peer) → StaysShut p.ends (after_answer on how sl p).ends
answer-shut on Rfnm sl p = go (on == 0)
  where
    go : (b : Bool) → StaysShut p.ends (if b then p else frees on p).ends
    go true = λ q e. e
    go false = frees-shut on p
answer-shut on Incomplete sl p = λ q e. e
answer-shut on Dead sl p = λ q e. e

answered-shut : (on : ℕ) (how : Answer) (s r : PeerState) → IsOut on (slot_at s.slots on) → r ≡ answer_comes on how s → OpensNothing s.peer r.peer
answered-shut on how s r o e =
    subst (λ (x : PeerState). OpensNothing s.peer x.peer) (sym (e ∙ answered-is on how o.message s o.in_slot))
    (opens-nothing s.peer.ends _ (answer-shut on how _ s.peer))

-- A slot is empty where the model's is.

slot-empty : (there on : ℕ) (l : Link TextOut) (s : LinkSlot) (h : Holds) → LinkRefines (text_as_message there on) (IsTextOn on) l s h → is_empty s ≡ is_empty l.slot
slot-empty there on l s h c = go c.place c.model c.in_slot
  where
    go : (p : MessageState TextOut) → l ≡ model_of p → s ≡ slot_of (text_as_message there on) p → is_empty s ≡ is_empty l.slot
    go Nowhere a b = ap (λ (x : LinkSlot). is_empty x) b ∙ sym (ap (λ (k : Link TextOut). is_empty k.slot) a)
    go (Waits x) a b = ap (λ (x : LinkSlot). is_empty x) b ∙ sym (ap (λ (k : Link TextOut). is_empty k.slot) a)
    go (Goes x) a b = ap (λ (x : LinkSlot). is_empty x) b ∙ sym (ap (λ (k : Link TextOut). is_empty k.slot) a)
    go (Came x) a b = ap (λ (x : LinkSlot). is_empty x) b ∙ sym (ap (λ (k : Link TextOut). is_empty k.slot) a)
    go (Failed x) a b = ap (λ (x : LinkSlot). is_empty x) b ∙ sym (ap (λ (k : Link TextOut). is_empty k.slot) a)
    go (Died x) a b = ap (λ (x : LinkSlot). is_empty x) b ∙ sym (ap (λ (k : Link TextOut). is_empty k.slot) a)
    go (Kept x) a b = ap (λ (x : LinkSlot). is_empty x) b ∙ sym (ap (λ (k : Link TextOut). is_empty k.slot) a)

empty-or : (b : Bool) → (b ≡ false → ⊥) → b ≡ true
empty-or true f = refl
empty-or false f = absurd (f refl)

-- What the model says of a step, and of a command.

abbrev NoneOpenIn : TwoNodes → Type 0
NoneOpenIn w = (step : NodeStep) → NoPairOpens w (node_at This step w) × NoPairOpens (nodes_swapped w) (nodes_swapped (node_at This step w))

none-open : (w : TwoNodes) → IsReachable w → NoneOpenIn w
none-open w r = of-reached NoneOpenIn
    (λ (es : List NodeEvent) step. (let w = run es in let e : NodeEvent = record { side = This; step = step } in let after = node_at This step w in
    let t = ever es in let u = after_step e w t in let k = happening This step t.own t.own' w t.stand t.holds in let t' = ever-swapped w t in let u' = ever-swapped after u in (
      λ pair on out. (
        sender-opens-not w after t u k.there (λ n p. (none-live-at This step w p).0 n) (λ n p. (none-live-at This step w p).1 n) on out pair,
        receiver-opens-not w after t u k.there (λ n p. (none-live-at This step w p).0 n) (λ n p. (none-live-at This step w p).1 n) on out pair,
      ),
      λ pair on out. (
        sender-opens-not (nodes_swapped w) (nodes_swapped after) t' u' k.back (λ n p. (none-live-at This step w p).1 n) (λ n p. (none-live-at This step w p).0 n) on out pair,
        receiver-opens-not (nodes_swapped w) (nodes_swapped after) t' u' k.back (λ n p. (none-live-at This step w p).1 n) (λ n p. (none-live-at This step w p).0 n) on out pair,
      ),
    ))) w r

none-heard : (w : TwoNodes) → IsReachable w → NoCommandOpens (nodes_swapped w)
none-heard w r = of-reached (λ (x : TwoNodes). NoCommandOpens (nodes_swapped x))
    (λ (es : List NodeEvent). (let w = run es in let t' = ever-swapped w (ever es) in
    λ done rest command s pair on. (λ out. sender-hears-not (nodes_swapped w) t' done rest command s on out pair, λ out. receiver-hears-not (nodes_swapped w) t' done rest command s on out pair))) w r

-- A call.

abbrev step_of : Asked → NodeStep
step_of (Asks pair call) = NodeStep.Calls pair call
step_of (Asks_echo byte) = NodeStep.Calls_echo byte
step_of Asks_reset = NodeStep.Calls_reset
step_of Asks_wake = NodeStep.Wakes

-- the model does the same, keeps a text out that is out, and leaves the other host
record SameCall (asked : Asked) (w : TwoNodes) (v : World) : Type 0 where
  peer : (state_after_asked asked v.this).peer ≡ peer_of (node_steps (step_of asked) w).this
  out : (on : ℕ) → is_empty (w.this.texts on).slot ≡ false → is_empty ((node_steps (step_of asked) w).this.texts on).slot ≡ false
  there : (node_steps (step_of asked) w).that ≡ w.that

woken-full : (s : Delivery.Slot TextOut) → is_empty s ≡ false → is_empty (Delivery.woken s) ≡ false
woken-full Delivery.Empty e = e
woken-full (Delivery.Ready m) e = e
woken-full (Delivery.Travelling m) e = e
woken-full (Delivery.Held m) e = refl

same-call : (asked : Asked) (w : TwoNodes) (v : World) → Refines w v → SameCall asked w v
same-call (Asks pair call) w v t = record {
  peer = ap (calls pair call) t.this.peer ∙ sym (calls_agree pair call w.this);
  out = λ on e. ap (λ (f : ℕ → Link TextOut). is_empty (f on).slot) (calls-unmoved pair call w.this).1 ∙ e;
  there = refl;
}
same-call (Asks_echo byte) w v t = record {
  peer = ap (calls_echo byte) t.this.peer ∙ sym (echoes_agree byte w.this);
  out = λ on e. ap (λ (f : ℕ → Link TextOut). is_empty (f on).slot) (echo-unmoved byte w.this).1 ∙ e;
  there = refl;
}
same-call Asks_reset w v t = record {
  peer = ap (λ (b : Bool). calls_reset b v.this.peer) (quiet-is v.there w.this.texts v.this.slots v.going t.this.texts) ∙ ap (calls_reset (quiet w.this)) t.this.peer ∙ sym (resets_agree w.this);
  out = λ on e. ap (λ (f : ℕ → Link TextOut). is_empty (f on).slot) (reset-unmoved w.this).1 ∙ e;
  there = refl;
}
same-call Asks_wake w v t = record { peer = t.this.peer; out = λ on e. woken-full (w.this.texts on).slot e; there = refl }

call-opens : (asked : Asked) (w : TwoNodes) (v : World) → Refines w v → OpensOnFreeLinks v.this v.that v.this.peer (state_after_asked asked v.this).peer
call-opens asked w v t pair on z o = (
  λ h. empty-or (is_empty (slot_at v.this.slots on)) (λ e.
      let out = sym (slot-empty v.there on (w.this.texts on) (slot_at v.this.slots on) (v.going on) (t.this.texts on z)) ∙ e in
      (none.0 pair on (out, k.out on out)).0 (opened, ap (λ (p : Peer). passes (hears_link on) pair (get p.ends pair)) (sym k.peer) ∙ h)),
  λ h. empty-or (is_empty (slot_at v.that.slots on)) (λ e.
      let out = sym (slot-empty v.here on (w.that.texts on) (slot_at v.that.slots on) (v.coming on) (t.that.texts on z)) ∙ e in
      (none.1 pair on (out, ap (λ (n : Node). is_empty (n.texts on).slot) k.there ∙ out)).1 (opened, ap (λ (p : Peer). passes (uses_link on) pair (get p.ends pair)) (sym k.peer) ∙ h)),
)
  where
    k : SameCall asked w v
    k = same-call asked w v t

    after : TwoNodes
    after = node_steps (step_of asked) w

    none : NoPairOpens w after × NoPairOpens (nodes_swapped w) (nodes_swapped after)
    none = none-open w t.reached (step_of asked)

    opened : opens (get w.this.ends pair) (get after.this.ends pair) ≡ true
    opened = ap (λ (p : Peer). opens (get p.ends pair) (get after.this.ends pair)) (sym t.this.peer) ∙ ap (λ (p : Peer). opens (get v.this.peer.ends pair) (get p.ends pair)) (sym k.peer) ∙ o

-- A command of a message.

heard-last : (done : List Command) (c : Command) (n : Node) → node_hears_all (done ++ c ∷ []) n ≡ node_hears c (node_hears_all done n)
heard-last [] c n = refl
heard-last (d ∷ ds) c n = heard-last ds c (node_hears d n)

module _ (w : TwoNodes) (v : World) (t : Refines w v) where
  command-opens : (done rest : List Command) (c : Command) (n : Node) (s : PeerState) → w.this.control.subnet ≡ MessageTransit.Accepted (done ++ c ∷ rest) → n ≡ node_hears_all done w.that → NodesStand n → IsCommand c → Represents v.here n s v.coming
      → OpensOnFreeLinks s v.this s.peer (state_hears c s).peer
  command-opens done rest c n s e is g f k pair on z o = (
    λ h. empty-or (is_empty (slot_at s.slots on)) (λ d.
        (none pair on).0 (sym (ap (λ (l : ℕ → Link TextOut). is_empty (l on).slot) texts) ∙ sym (slot-empty v.here on (n.texts on) (slot_at s.slots on) (v.coming on) (k.texts on z)) ∙ d)
        (opened, ap (λ (p : Peer). passes (hears_link on) pair (get p.ends pair)) (sym next.peer) ∙ h)),
    λ h. empty-or (is_empty (slot_at v.this.slots on)) (λ d.
        (none pair on).1 (sym (slot-empty v.there on (w.this.texts on) (slot_at v.this.slots on) (v.going on) (t.this.texts on z)) ∙ d)
        (opened, ap (λ (p : Peer). passes (uses_link on) pair (get p.ends pair)) (sym next.peer) ∙ h)),
  )
    where
      next : Represents v.here (node_hears c n) (state_hears c s) v.coming
      next = hears-stands v.here c n s v.coming f g k

      texts : n.texts ≡ w.that.texts
      texts = ap (λ (m : Node). m.texts) is ∙ hears_all-texts done w.that

      none : (pair : Pair) (on : ℕ) → (is_empty (w.that.texts on).slot ≡ false → SenderOpensAt on pair n (node_hears c n) → ⊥) × (is_empty (w.this.texts on).slot ≡ false → ReceiverOpensAt on pair n (node_hears c n) → ⊥)
      none = subst (λ (m : Node). (pair : Pair) (on : ℕ) → (is_empty (w.that.texts on).slot ≡ false → SenderOpensAt on pair m (node_hears c m) → ⊥) × (is_empty (w.this.texts on).slot ≡ false → ReceiverOpensAt on pair m (node_hears c m) → ⊥)) (sym is)
          (none-heard w t.reached done rest c e)

      opened : opens (get n.ends pair) (get (node_hears c n).ends pair) ≡ true
      opened = ap (λ (p : Peer). opens (get p.ends pair) (get (node_hears c n).ends pair)) (sym k.peer) ∙ ap (λ (p : Peer). opens (get s.peer.ends pair) (get p.ends pair)) (sym next.peer) ∙ o

  commands-open : (done rest : List Command) (n : Node) (s : PeerState) → w.this.control.subnet ≡ MessageTransit.Accepted (done ++ rest) → n ≡ node_hears_all done w.that → NodesStand n → All IsCommand rest → Represents v.here n s v.coming
      → EachOpensOnFreeLinks rest s v.this
  commands-open done [] n s e is g f k = tt
  commands-open done (c ∷ rest) n s e is g f k = (
    command-opens done rest c n s e is g (All-head IsCommand c rest f) k,
    commands-open (done ++ c ∷ []) rest (node_hears c n) (state_hears c s) (e ∙ ap (λ (cs : List Command). MessageTransit.Accepted cs) (sym (append_assoc done (c ∷ []) rest)))
        (ap (node_hears c) is ∙ sym (heard-last done c w.that)) (hearing-stands c n g) (All-tail IsCommand c rest f) (hears-stands v.here c n s v.coming (All-head IsCommand c rest f) g k),
  )

control-opens : (w : TwoNodes) (v : World) (m : List Bool) → Refines w v → v.going 0 ≡ Accepted m → EachOpensOnFreeLinks (commands_of (from_host v.here m)) v.that v.this
control-opens w v m t e =
    let c : ControlComes w v m = control-comes w v m t e in
    subst (λ (cs : List Command). EachOpensOnFreeLinks cs v.that v.this) (sym (control-read w v m t c))
    (commands-open w v t [] c.what w.that v.that c.there refl (stands-there w t.reached) c.fits.0 t.that)

text-opens : (on : ℕ) (w : TwoNodes) (v : World) (m : List Bool) → (on == 0) ≡ false → Refines w v → v.going on ≡ Accepted m → OpensNothing v.that.peer (state_after_received (from_host v.here m) v.that).peer
text-opens on w v m z t e =
    let c : Comes (text_as_message v.there on) (IsTextOn on) (w.this.texts on) (slot_at v.this.slots on) m = delivered (text_as_message v.there on) (IsTextOn on) (w.this.texts on) (slot_at v.this.slots on) (v.going on) m (t.this.texts on z) e in
    subst (λ (s : PeerState). OpensNothing v.that.peer s.peer) (sym (text-heard on w v m t z c))
    (opens-nothing v.that.peer.ends _ (hears-shut on _ c.what.of_size c.what.bits v.that.peer))

-- Each step.

out-opens : (o : Option (ℕ × List Bool)) (v : World) → OpensUnderNoText (goes o v).1 v (goes o v).0
out-opens None v = (refl, refl)
out-opens (Some out) v = (opens-nothing v.this.peer.ends _ (out-shut (slot_at v.this.slots out.0) out.0 v.this.peer), refl)

deliver-opens : (on : ℕ) (w : TwoNodes) (v : World) (h : Holds) → Refines w v → v.going on ≡ h → OpensUnderNoText (delivers on h v).1 v (delivers on h v).0
deliver-opens on w v (Accepted m) t e = (
  λ z. let f = on_control on v m z e in ((acts w v m t f).1, control-opens w v m t f),
  λ z. text-opens on w v m z t e,
  refl,
)
deliver-opens on w v Free t e = (refl, refl)
deliver-opens on w v Delivered t e = (refl, refl)
deliver-opens on w v Lost t e = (refl, refl)
deliver-opens on w v Subnet.Dead t e = (refl, refl)

lose-opens : (on : ℕ) (h : Holds) (v : World) → OpensUnderNoText (loses on h v).1 v (loses on h v).0
lose-opens on (Accepted m) v = (refl, refl)
lose-opens on Free v = (refl, refl)
lose-opens on Delivered v = (refl, refl)
lose-opens on Lost v = (refl, refl)
lose-opens on Subnet.Dead v = (refl, refl)

die-opens : (on : ℕ) (h : Holds) (v : World) → OpensUnderNoText (dies on h v).1 v (dies on h v).0
die-opens on (Accepted m) v = (refl, refl)
die-opens on Free v = (refl, refl)
die-opens on Delivered v = (refl, refl)
die-opens on Lost v = (refl, refl)
die-opens on Subnet.Dead v = (refl, refl)

answer-opens : (on : ℕ) (w : TwoNodes) (v : World) (h : Holds) → Refines w v → v.going on ≡ h → OpensUnderNoText (answers_for on h v).1 v (answers_for on h v).0
answer-opens on w v Delivered t e = let o = delivered-out on w v t e in (answered-shut on Rfnm v.this _ o (answer_comes-is v.there on v.this t.this.number o.fits).0, refl)
answer-opens on w v Lost t e = let o = lost-out on w v t e in (answered-shut on Incomplete v.this _ o (answer_comes-is v.there on v.this t.this.number o.fits).1, refl)
answer-opens on w v Subnet.Dead t e = let o = dead-out on w v t e in (answered-shut on Dead v.this _ o (answer_comes-is v.there on v.this t.this.number o.fits).2, refl)
answer-opens on w v Free t e = (refl, refl)
answer-opens on w v (Accepted m) t e = (refl, refl)

pub opens-under-no-text : (st : WorldStep) (x : TwoNodes) (v : World) → IsMove st → Refines x v → OpensUnderNoText (moves st v).1 v (moves st v).0
opens-under-no-text (Call_is_made asked) x v ok t = (call-opens asked x v t, refl)
opens-under-no-text Goes_out x v ok t = out-opens (next_of v.there v.this) v
opens-under-no-text (Is_delivered on) x v ok t = deliver-opens on x v (v.going on) t refl
opens-under-no-text (Is_lost on) x v ok t = lose-opens on (v.going on) v
opens-under-no-text (Finds_dead on) x v ok t = die-opens on (v.going on) v
opens-under-no-text (Is_answered on) x v ok t = answer-opens on x v (v.going on) t refl
