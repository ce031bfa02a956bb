-- Commands act once and in order: what holds of the machine of resets after each of its steps holds of the
-- hosts after each step of the rules, with what was made and came there.
use Rattle.std.proofs.Common.{◌≡◌, ℕ, ◌==◌, Bool, true, false, if◌then◌else◌, List, [], ◌∷◌, length, take, Option, None, Some, Result, refl, sym, ap, ◌∙◌, subst}
use Rattle.std.proofs.lemmas.Bool.{eqb-true}
use Rattle.ncp_wire.specs.declared.command.Command.{Command}
use Rattle.ncp_leader.specs.declared.regular.TheConstants.{FRONT_BITS}
use Rattle.ncp_leader.specs.declared.fault.MessageFault.{MessageFault}
use Rattle.ncp_leader.specs.Message.{Message, message_in}
use Rattle.ncp_slot.specs.declared.slot.Slot.{Slot}
use Rattle.ncp_wire.specs.declared.answer.Answer.{Answer}
use Rattle.ncp_wire.specs.declared.answer.Answer.TheVariants.{Rfnm, Incomplete, Dead}
use Rattle.ncp_slot.specs.Slot.{answered}
use Rattle.ncp_slot.specs.Slots.{LinkSlot, LinkSlots, slot_at, with_slot, all_woken, is_quiet}
use Rattle.ncp_model.specs.declared.pair.Pair.{Pair}
use Rattle.ncp_model.specs.Effect.{answer, made_if_any, made_by_call}
use Rattle.ncp_model.specs.Texts.{made_by_text}
use Rattle.ncp_model.specs.Texts
use Rattle.ncp_model.specs.Ends.{text_in, answered_in}
use Rattle.ncp_model.specs.Echo.{echo_answer}
use Rattle.ncp_model.specs.EndpointEvents.{happens}
use Rattle.std.specs.FinMap.{get}
use Rattle.ncp_model.specs.Phase.{Phase, is_resetting}
use Rattle.ncp_model.specs.Sending.{next_commands, is_full}
use Rattle.ncp_model.specs.Peers.{Peer, PairCall, calls, calls_echo, calls_reset, cuts, frees, hears_text, peer_sends, settles}
use Rattle.ncp_proof_machine.specs.Delivery.{MessageTransit}
use Rattle.ncp_proof_machine.specs.Delivery
use Rattle.ncp_proof_machine.specs.Resets.{ResetHost, is_up, host_resets}
use Rattle.ncp_proof_machine.proofs.ResetKept.{Kept, counterpart, replying, resetting, settling, hearing_all}
use Rattle.ncp_proof_machine.proofs.ResetRuns.{fronting, agreeing}
use Rattle.ncp_proof_machine.specs.Hosts.{Node, TextOut, peer_of, NodeStep, TwoNodes, happens_at, node_calls, node_calls_echo, node_calls_reset, node_cleared, node_echo_called, node_frees, node_hears_all, node_hears_text, node_takes_text, quiet}
use Rattle.ncp_proof_machine.specs.Hosts
use Rattle.ncp_proof_machine.specs.Watching.{HistoryVars, watch_of, sees_call, sees_echo, sees_each, sees_text, sees_taken}
use Rattle.ncp_proof_machine.proofs.HostsBase.{either, reactions, hears_all-host}
use Rattle.ncp_proof_machine.proofs.Seeing.{calls_agree, echoes_agree, resets_agree, messages_agree, texts_agree, frees_agree}
use Rattle.ncp_proof_machine.proofs.Watches.{watches_agree}
use Rattle.ncp_peer.specs.PeerState.{PeerState, after_answer, answer_comes}
use Rattle.ncp_peer.specs.Hearing.{is_wrong_link, state_hears, state_hears_all}
use Rattle.ncp_peer.specs.Output.{next_of, links, output_by, made_on, control_message, after_by}
use Rattle.ncp_transcript_two.specs.Subnet.{Holds, Free, Accepted, Delivered, Lost, TransitByLink, from_host, link_in, set_at}
use Rattle.ncp_transcript_two.specs.Subnet
use Rattle.ncp_transcript.specs.Asked.{Asked, Asks, Asks_echo, Asks_reset, Asks_wake, state_after_asked}
use Rattle.ncp_transcript_two.specs.World.{World, swap, state_after_received, Call_is_made, Goes_out, Is_delivered, Is_lost, Finds_dead, Is_answered, moves, goes, delivers, loses, dies, answers_for, WorldStep}
use Rattle.ncp_transcript_two.specs.Tie.{control_bits, text_as_message, AreCommands, IsTextOn, Refines}
use Rattle.ncp_transcript_two.specs.Underway.{commands_of, underway}
use Rattle.ncp_transcript_two.proofs.Links.{Comes, delivered, zero_distinct}
use Rattle.ncp_transcript_two.proofs.Ties.{quiet-is}
use Rattle.ncp_transcript_two.proofs.Written.{read, from_host-message, answer_comes-is}
use Rattle.ncp_transcript_two.proofs.Comings.{small, text-heard, control-heard}
use Rattle.ncp_transcript_two.proofs.Answering.{answered-is}
use Rattle.ncp_transcript_two.proofs.Goings.{Found, found, links-right, not_true}
use Rattle.ncp_transcript_two.proofs.Flights.{IsOut, delivered-out, lost-out, dead-out, out-link}
use Rattle.ncp_transcript_two.proofs.Reaching.{stands-there}
use Rattle.ncp_proof_promises.specs.Since.{Watches, watch_after_asked, watch_after_text, watch_after_message, of_answer, watches_after_body, CommandsAgree, IsSilentWhileDown}
use Rattle.ncp_proof_promises.proofs.Judging.{ControlComes, control-comes, control-read, hears_all-stands}
use Rattle.ncp_proof_promises.proofs.Lines.{line_of, line, commands-written, fitting-take, next-are, accepted-line, woken-line, other-line, failed-line, delivered-line, answered-line, apart-line, out-line}

-- a host of the machine of resets, of what is kept and what is watched
abbrev pub host_at : Peer → HistoryVars → ResetHost
host_at p w = record { phase = p.phase; made = w.made; came = w.came }

abbrev pub KeptIn : Watches → World → Type 0
KeptIn p v = Kept (host_at v.this.peer p.this) (host_at v.that.peer p.that) (line v.this.slots v.going) (line v.that.slots v.coming)

-- the model's host, with what is watched here
abbrev watching : Node → HistoryVars → Node
watching n w = record n { host = host_at (peer_of n) w; pasts = w.pasts; violated = w.violated }

module _ (k : ResetHost) (y : List Command) where
  -- in other words
  same-host : (p q : Peer) (w z : HistoryVars) (x : List Command) → p ≡ q → w ≡ z → Kept (host_at p w) k x y → Kept (host_at q z) k x y
  same-host p q w z x e f g = subst (λ (r : Peer). Kept (host_at r z) k x y) e (subst (λ (u : HistoryVars). Kept (host_at p u) k x y) f g)

  same-line : (h : ResetHost) (x x' : List Command) → x ≡ x' → Kept h k x y → Kept h k x' y
  same-line h x x' e g = subst (λ (l : List Command). Kept h k l y) e g

  -- what a host of the model does
  calls-kept : (pair : Pair) (call : PairCall) (n : Node) (x : List Command) → Kept n.host k x y → Kept (node_calls pair call n).host k x y
  calls-kept pair call n x g = either (λ (m : Node). Kept m.host k x y) (is_up n.host) (happens_at pair (Hosts.called call (is_full n.host.phase) n.ends) n) n (replying n.host k x y (happens pair (Hosts.called call (is_full n.host.phase) n.ends) (get n.ends pair)).made g) g

  echo-kept : (byte : ℕ) (n : Node) (x : List Command) → Kept n.host k x y → Kept (node_calls_echo byte n).host k x y
  echo-kept byte n x g = either (λ (m : Node). Kept m.host k x y) (is_up n.host) (node_echo_called byte n) n (replying n.host k x y (made_by_call (echo_answer byte (is_full n.host.phase) n.echoes)) g) g

  reset-kept : (n : Node) (x : List Command) → Kept n.host k x y → Kept (node_calls_reset n).host k x y
  reset-kept n x g = either (λ (m : Node). Kept m.host k x y) (is_resetting n.host.phase) n (node_cleared (host_resets (quiet n) n.host) n) g (resetting n.host k x y (quiet n) g)

  text-kept : (on : ℕ) (head : List Bool) (t : TextOut) (n : Node) (x : List Command) → Kept n.host k x y → Kept (node_hears_text on head t n).host k x y
  text-kept on head t n x g = either (λ (m : Node). Kept m.host k x y) (is_up n.host) (node_takes_text on head t n) n (replying n.host k x y (made_by_text head t.bits (answer (text_in on t.of_size t.bits n.ends))) g) g

-- A call.

call-kept : (asked : Asked) (x : TwoNodes) (v : World) (p : Watches) → Refines x v → KeptIn p v → KeptIn (record p { this = watch_after_asked asked v.this p.this }) (record v { this = state_after_asked asked v.this })
call-kept (Asks pair call) x v p t g =
    let k : ResetHost = host_at v.that.peer p.that in
    let y : List Command = line v.that.slots v.coming in
    let l : List Command = line v.this.slots v.going in
    let n : Node = watching x.this p.this in
    same-host k y (peer_of (node_calls pair call n)) (calls pair call v.this.peer) (watch_of (node_calls pair call n)) (sees_call pair call v.this.peer p.this) l
    (calls_agree pair call n ∙ ap (calls pair call) (sym t.this.peer))
    (watches_agree (NodeStep.Calls pair call) (record { this = n; that = n }) ∙ ap (λ (q : Peer). sees_call pair call q p.this) (sym t.this.peer))
    (calls-kept k y pair call n l (same-host k y v.this.peer (peer_of x.this) p.this p.this l t.this.peer refl g))
call-kept (Asks_echo byte) x v p t g =
    let k : ResetHost = host_at v.that.peer p.that in
    let y : List Command = line v.that.slots v.coming in
    let l : List Command = line v.this.slots v.going in
    let n : Node = watching x.this p.this in
    same-host k y (peer_of (node_calls_echo byte n)) (calls_echo byte v.this.peer) (watch_of (node_calls_echo byte n)) (sees_echo byte v.this.peer p.this) l
    (echoes_agree byte n ∙ ap (calls_echo byte) (sym t.this.peer))
    (watches_agree (NodeStep.Calls_echo byte) (record { this = n; that = n }) ∙ ap (λ (q : Peer). sees_echo byte q p.this) (sym t.this.peer))
    (echo-kept k y byte n l (same-host k y v.this.peer (peer_of x.this) p.this p.this l t.this.peer refl g))
call-kept Asks_reset x v p t g =
    let k : ResetHost = host_at v.that.peer p.that in
    let y : List Command = line v.that.slots v.coming in
    let l : List Command = line v.this.slots v.going in
    let n : Node = watching x.this p.this in
    same-host k y (peer_of (node_calls_reset n)) (calls_reset (is_quiet v.this.slots) v.this.peer) (watch_of (node_calls_reset n)) (watch_after_asked Asks_reset v.this p.this) l
    (resets_agree n ∙ ap (calls_reset (quiet n)) (sym t.this.peer) ∙ ap (λ (b : Bool). calls_reset b v.this.peer) (sym (quiet-is v.there x.this.texts v.this.slots v.going t.this.texts)))
    (watches_agree NodeStep.Calls_reset (record { this = n; that = n }) ∙ ap (λ (q : Peer). watch_after_asked Asks_reset (record v.this { peer = q }) p.this) (sym t.this.peer))
    (reset-kept k y n l (same-host k y v.this.peer (peer_of x.this) p.this p.this l t.this.peer refl g))
call-kept Asks_wake x v p t g =
    same-line (host_at v.that.peer p.that) (line v.that.slots v.coming) (host_at v.this.peer p.this) (line v.this.slots v.going) (line (all_woken v.this.slots) v.going) (sym (woken-line v.this.slots v.going)) g

-- A control message is heard by that host.

-- a step of the model in which it is heard
abbrev hears_it : List Command → Node → TwoNodes
hears_it cs n = record { this = n; that = record n { control = record { slot = Delivery.Travelling cs; subnet = MessageTransit.Accepted cs } } }

control-kept : (w : TwoNodes) (v : World) (m : List Bool) (p : Watches) → Refines w v → v.going 0 ≡ Accepted m → KeptIn p v
    → KeptIn (record p { that = watch_after_message 0 (from_host v.here m) v.that p.that }) (record v { that = state_after_received (from_host v.here m) v.that; going = set_at 0 Delivered v.going })
control-kept w v m p t e g =
    let here : ResetHost = host_at v.this.peer p.this in
    let l : List Command = line v.that.slots v.coming in
    let n : Node = watching w.that p.that in
    let c : ControlComes w v m = control-comes w v m t e in
    let a = accepted-line w v m t e in
    let comes : line v.this.slots v.going ≡ c.what = a.1 ∙ ap commands_of c.written ∙ commands-written v.there c.what t.this.number c.fits in
    let before : Kept n.host here l c.what =
    same-host here c.what v.that.peer (peer_of w.that) p.that p.that l t.that.peer refl
    (subst (λ (u : List Command). Kept (host_at v.that.peer p.that) here l u) comes (counterpart here (host_at v.that.peer p.that) (line v.this.slots v.going) l g)) in
    let heard : Kept (node_hears_all c.what n).host here l [] =
    subst (λ (h : ResetHost). Kept h here l []) (sym (hears_all-host c.what n)) (hearing_all n.host here l c.what (reactions c.what n) before) in
    let peer : peer_of (node_hears_all c.what n) ≡ (state_hears_all c.what v.that).peer =
    messages_agree c.what n ∙ sym (messages_agree c.what w.that)
    ∙ sym (hears_all-stands v.here c.what w.that v.that v.coming c.fits.0 (stands-there w t.reached) t.that).peer in
    let seen : watch_of (node_hears_all c.what n) ≡ watch_after_message 0 (from_host v.here m) v.that p.that =
    watches_agree NodeStep.Hears (hears_it c.what n)
    ∙ ap (λ (q : Peer). sees_each (quiet w.that) c.what q p.that) (sym t.that.peer)
    ∙ ap (λ (b : Bool). sees_each b c.what v.that.peer p.that) (sym (quiet-is v.here w.that.texts v.that.slots v.coming t.that.texts))
    ∙ ap (λ (cs : List Command). sees_each (is_quiet v.that.slots) cs v.that.peer p.that) (sym (control-read w v m t c)) in
    let after : Kept (host_at (state_hears_all c.what v.that).peer (watch_after_message 0 (from_host v.here m) v.that p.that)) here l [] =
    same-host here [] (peer_of (node_hears_all c.what n)) (state_hears_all c.what v.that).peer (watch_of (node_hears_all c.what n)) (watch_after_message 0 (from_host v.here m) v.that p.that) l peer seen heard in
    let slots_stay : (state_hears_all c.what v.that).slots ≡ v.that.slots = stay c.what v.that in
    subst (λ (s : PeerState). Kept here (host_at s.peer (watch_after_message 0 (from_host v.here m) v.that p.that)) (line v.this.slots (set_at 0 Delivered v.going)) (line s.slots v.coming)) (sym (control-heard w v m t c))
    (subst (λ (sl : LinkSlots). Kept here (host_at (state_hears_all c.what v.that).peer (watch_after_message 0 (from_host v.here m) v.that p.that)) (line v.this.slots (set_at 0 Delivered v.going)) (line sl v.coming)) (sym slots_stay)
    (counterpart (host_at (state_hears_all c.what v.that).peer (watch_after_message 0 (from_host v.here m) v.that p.that)) here l (line v.this.slots (set_at 0 Delivered v.going))
    (subst (λ (u : List Command). Kept (host_at (state_hears_all c.what v.that).peer (watch_after_message 0 (from_host v.here m) v.that p.that)) here l u) (sym (delivered-line v.this.slots v.going m a.0)) after)))
  where
    stay : (cs : List Command) (s : PeerState) → (state_hears_all cs s).slots ≡ s.slots
    stay [] s = refl
    stay (c ∷ cs) s = stay cs (state_hears c s)

-- A text is heard by that host.

not-control : (on : ℕ) (message : List Bool) (s : PeerState) (w : HistoryVars) → (on == 0) ≡ false → watch_after_message on message s w ≡ watch_after_text on (take FRONT_BITS message) (message_in message) s w
not-control on message s w z = rw z refl

text-told : (on : ℕ) (w : TwoNodes) (v : World) (m : List Bool) (t : Refines w v) (z : (on == 0) ≡ false)
    → (c : Comes (text_as_message v.there on) (IsTextOn on) (w.this.texts on) (slot_at v.this.slots on) m) → (p : HistoryVars)
    → watch_after_message on (from_host v.here m) v.that p ≡ sees_text on (take FRONT_BITS (text_as_message v.here on c.what)) c.what v.that.peer p
text-told on w v m t z c p =
    ap (λ (x : List Bool). watch_after_message on (from_host v.here x) v.that p) c.written
    ∙ ap (λ (x : List Bool). watch_after_message on x v.that p) (from_host-message v.here v.there on c.what.of_size c.what.bits)
    ∙ not-control on (text_as_message v.here on c.what) v.that p z
    ∙ ap (λ (r : Result Message MessageFault). watch_after_text on (take FRONT_BITS (text_as_message v.here on c.what)) r v.that p) (read v.here on c.what.of_size c.what.bits t.that.number (small on c.fits.0) c.fits.1)

abbrev hears_text_there : TextOut → Node → TwoNodes
hears_text_there t n = record { this = n; that = record n { texts = λ _. record { slot = Delivery.Travelling t; subnet = MessageTransit.Accepted t } } }

heard-text-kept : (on : ℕ) (w : TwoNodes) (v : World) (m : List Bool) (p : Watches) → (on == 0) ≡ false → Refines w v → v.going on ≡ Accepted m → KeptIn p v
    → KeptIn (record p { that = watch_after_message on (from_host v.here m) v.that p.that }) (record v { that = state_after_received (from_host v.here m) v.that; going = set_at on Delivered v.going })
heard-text-kept on w v m p z t e g =
    subst (λ (s : PeerState). Kept here (host_at s.peer told) (line v.this.slots (set_at on Delivered v.going)) (line s.slots v.coming)) (sym (text-heard on w v m t z c))
    (counterpart (host_at (hears_text on head c.what.of_size c.what.bits v.that.peer) told) here l (line v.this.slots (set_at on Delivered v.going))
    (subst (λ (u : List Command). Kept (host_at (hears_text on head c.what.of_size c.what.bits v.that.peer) told) here l u) (sym (other-line on Delivered v.this.slots v.going (zero_distinct on z)))
    (same-host here r (peer_of (node_hears_text on head c.what n)) (hears_text on head c.what.of_size c.what.bits v.that.peer) (watch_of (node_hears_text on head c.what n)) told l
    (texts_agree on head c.what n ∙ ap (hears_text on head c.what.of_size c.what.bits) (sym t.that.peer))
    (watches_agree (NodeStep.Hears_text on head) (hears_text_there c.what n) ∙ ap (λ (q : Peer). sees_text on head c.what q p.that) (sym t.that.peer) ∙ sym (text-told on w v m t z c p.that))
    (text-kept here r on head c.what n l (same-host here r v.that.peer (peer_of w.that) p.that p.that l t.that.peer refl (counterpart here (host_at v.that.peer p.that) r l g))))))
  where
    here : ResetHost
    here = host_at v.this.peer p.this

    l : List Command
    l = line v.that.slots v.coming

    r : List Command
    r = line v.this.slots v.going

    n : Node
    n = watching w.that p.that

    c : Comes (text_as_message v.there on) (IsTextOn on) (w.this.texts on) (slot_at v.this.slots on) m
    c = delivered (text_as_message v.there on) (IsTextOn on) (w.this.texts on) (slot_at v.this.slots on) (v.going on) m (t.this.texts on z) e

    head : List Bool
    head = take FRONT_BITS (text_as_message v.here on c.what)

    told : HistoryVars
    told = watch_after_message on (from_host v.here m) v.that p.that

deliver-kept : (on : ℕ) (w : TwoNodes) (v : World) (h : Holds) (p : Watches) → Refines w v → v.going on ≡ h → KeptIn p v → KeptIn (watches_after_body (delivers on h v).1 v p) (delivers on h v).0
deliver-kept on w v (Accepted m) p t e g = go (on == 0) refl
  where
    Goal : ℕ → Type 0
    Goal k = KeptIn (record p { that = watch_after_message k (from_host v.here m) v.that p.that }) (record v { that = state_after_received (from_host v.here m) v.that; going = set_at k Delivered v.going })

    go : (b : Bool) → (on == 0) ≡ b → Goal on
    go true z = subst (λ (k : ℕ). v.going k ≡ Accepted m → Goal k) (sym (eqb-true on 0 z)) (λ f. control-kept w v m p t f g) e
    go false z = heard-text-kept on w v m p z t e g
deliver-kept on w v Free p t e g = g
deliver-kept on w v Delivered p t e g = g
deliver-kept on w v Lost p t e g = g
deliver-kept on w v Subnet.Dead p t e g = g

-- A message goes out.

-- of that host nothing changes
abbrev HereKept : Peer → LinkSlots → TransitByLink → World → Watches → Type 0
HereKept q sl u v p = Kept (host_at q p.this) (host_at v.that.peer p.that) (line sl u) (line v.that.slots v.coming)

out-new : (w : TwoNodes) (v : World) (m : List Bool) (p : Watches) → Refines w v → slot_at v.this.slots 0 ≡ Slot.Empty → made_on v.there 0 v.this.peer ≡ Some m → KeptIn p v
    → HereKept (peer_sends v.this.peer) (with_slot v.this.slots 0 (Slot.Travelling m)) (set_at 0 (Accepted m) v.going) v p
out-new w v m p t s e g = go (next_commands q) refl e
  where
    q : List Command
    q = v.this.peer.phase.waiting

    k : ResetHost
    k = host_at v.that.peer p.that

    y : List Command
    y = line v.that.slots v.coming

    go : (ds : List Command) → next_commands q ≡ ds → control_message v.there ds ≡ Some m → HereKept (peer_sends v.this.peer) (with_slot v.this.slots 0 (Slot.Travelling m)) (set_at 0 (Accepted m) v.going) v p
    go [] d e = absurd (cc e)
    go (c ∷ cs) d e =
        let written : control_bits v.there (c ∷ cs) ≡ m = cc e in
        let read_back : commands_of m ≡ next_commands q =
        ap commands_of (sym written) ∙ commands-written v.there (c ∷ cs) t.this.number (subst AreCommands d (next-are q t.this.well.waiting)) ∙ sym d in
        let front : line (with_slot v.this.slots 0 (Slot.Travelling m)) (set_at 0 (Accepted m) v.going) ≡ take (length (next_commands q)) q =
        out-line m v.this.slots v.going ∙ read_back ∙ fitting-take 120 q in
        let empty : line v.this.slots v.going ≡ [] = ap (λ (x : LinkSlot). line_of x (v.going 0)) s in
        same-line k y (host_at (peer_sends v.this.peer) p.this) (take (length (next_commands q)) q) (line (with_slot v.this.slots 0 (Slot.Travelling m)) (set_at 0 (Accepted m) v.going)) (sym front)
        (fronting (host_at v.this.peer p.this) k y (length (next_commands q)) (same-line k y (host_at v.this.peer p.this) (line v.this.slots v.going) [] empty g))

out-control : (w : TwoNodes) (v : World) (m : List Bool) (p : Watches) (s : LinkSlot) → Refines w v → slot_at v.this.slots 0 ≡ s → output_by s v.there 0 v.this.peer ≡ Some m → KeptIn p v
    → HereKept (after_by s 0 v.this.peer) (with_slot v.this.slots 0 (Slot.Travelling m)) (set_at 0 (Accepted m) v.going) v p
out-control w v m p Slot.Empty t e o g = out-new w v m p t e o g
out-control w v m p (Slot.Ready r) t e o g =
    let x : r ≡ m = cc o in
    let same : line v.this.slots v.going ≡ line (with_slot v.this.slots 0 (Slot.Travelling m)) (set_at 0 (Accepted m) v.going) =
    ap (λ (z : LinkSlot). line_of z (v.going 0)) e ∙ ap commands_of x ∙ sym (out-line m v.this.slots v.going) in
    same-line (host_at v.that.peer p.that) (line v.that.slots v.coming) (host_at v.this.peer p.this) (line v.this.slots v.going) _ same g
out-control w v m p (Slot.Travelling r) t e o g = absurd (cc o)
out-control w v m p (Slot.Held r) t e o g = absurd (cc o)

-- a text costs its sender bytes, and no command
same-phase : (s : LinkSlot) (on : ℕ) (q : Peer) → (on == 0) ≡ false → (after_by s on q).phase ≡ q.phase
same-phase Slot.Empty on q z = ap (λ (b : Bool). (if b then peer_sends q else cuts on q).phase) z
same-phase (Slot.Ready r) on q z = refl
same-phase (Slot.Travelling r) on q z = refl
same-phase (Slot.Held r) on q z = refl

out-text : (on : ℕ) (v : World) (m : List Bool) (p : Watches) (s : LinkSlot) → (on == 0) ≡ false → KeptIn p v
    → HereKept (after_by s on v.this.peer) (with_slot v.this.slots on (Slot.Travelling m)) (set_at on (Accepted m) v.going) v p
out-text on v m p s z g =
    let k : ResetHost = host_at v.that.peer p.that in
    let y : List Command = line v.that.slots v.coming in
    same-line k y (host_at (after_by s on v.this.peer) p.this) (line v.this.slots v.going) (line (with_slot v.this.slots on (Slot.Travelling m)) (set_at on (Accepted m) v.going))
    (sym (apart-line on (Slot.Travelling m) (Accepted m) v.this.slots v.going (zero_distinct on z)))
    (subst (λ (f : Phase). (let h : ResetHost = record { phase = f; made = p.this.made; came = p.this.came } in Kept h k (line v.this.slots v.going) y)) (sym (same-phase s on v.this.peer z)) g)

goes-kept : (w : TwoNodes) (v : World) (o : Option (ℕ × List Bool)) (p : Watches) → Refines w v → next_of v.there v.this ≡ o → KeptIn p v → KeptIn (watches_after_body (goes o v).1 v p) (goes o v).0
goes-kept w v None p t e g = g
goes-kept w v (Some out) p t e g =
    let f : Found v.there v.this out = found v.there links v.this out e links-right in
    let right = not_true (is_wrong_link out.0) f.0 in
    let link : link_in out.1 ≡ out.0 = out-link out.0 w v out.1 (slot_at v.this.slots out.0) right t refl f.1 in
    subst (λ (on : ℕ). HereKept (after_by (slot_at v.this.slots out.0) out.0 v.this.peer) (with_slot v.this.slots out.0 (Slot.Travelling out.1)) (set_at on (Accepted out.1) v.going) v p) (sym link) (go (out.0 == 0) refl f.1)
  where
    Goal : ℕ → Type 0
    Goal on = output_by (slot_at v.this.slots on) v.there on v.this.peer ≡ Some out.1 → HereKept (after_by (slot_at v.this.slots on) on v.this.peer) (with_slot v.this.slots on (Slot.Travelling out.1)) (set_at on (Accepted out.1) v.going) v p

    go : (b : Bool) → (out.0 == 0) ≡ b → Goal out.0
    go true z = subst Goal (sym (eqb-true out.0 0 z)) (λ r. out-control w v out.1 p (slot_at v.this.slots 0) t refl r g)
    go false z = λ r. out-text out.0 v out.1 p (slot_at v.this.slots out.0) z g

-- The subnet does not deliver it.

fails-kept : (on : ℕ) (h : Holds) (w : TwoNodes) (v : World) (m : List Bool) (p : Watches) → line_of (Slot.Travelling m) h ≡ commands_of m → Refines w v → v.going on ≡ Accepted m → KeptIn p v → KeptIn p (record v { going = set_at on h v.going })
fails-kept on h w v m p same t e g = same-line (host_at v.that.peer p.that) (line v.that.slots v.coming) (host_at v.this.peer p.this) (line v.this.slots v.going) (line v.this.slots (set_at on h v.going)) (sym (go (on == 0) refl)) g
  where
    go : (b : Bool) → (on == 0) ≡ b → line v.this.slots (set_at on h v.going) ≡ line v.this.slots v.going
    go true z = subst (λ (k : ℕ). v.going k ≡ Accepted m → line v.this.slots (set_at k h v.going) ≡ line v.this.slots v.going) (sym (eqb-true on 0 z)) (failed-line h w v m same t) e
    go false z = other-line on h v.this.slots v.going (zero_distinct on z)

lose-kept : (on : ℕ) (w : TwoNodes) (v : World) (h : Holds) (p : Watches) → Refines w v → v.going on ≡ h → KeptIn p v → KeptIn (watches_after_body (loses on h v).1 v p) (loses on h v).0
lose-kept on w v (Accepted m) p t e g = fails-kept on Lost w v m p refl t e g
lose-kept on w v Free p t e g = g
lose-kept on w v Delivered p t e g = g
lose-kept on w v Lost p t e g = g
lose-kept on w v Subnet.Dead p t e g = g

die-kept : (on : ℕ) (w : TwoNodes) (v : World) (h : Holds) (p : Watches) → Refines w v → v.going on ≡ h → KeptIn p v → KeptIn (watches_after_body (dies on h v).1 v p) (dies on h v).0
die-kept on w v (Accepted m) p t e g = fails-kept on Subnet.Dead w v m p refl t e g
die-kept on w v Free p t e g = g
die-kept on w v Delivered p t e g = g
die-kept on w v Lost p t e g = g
die-kept on w v Subnet.Dead p t e g = g

-- A message is answered.

-- what was out, and what the subnet had of it, is underway as before
told-line : (on : ℕ) (how : Answer) (h : Holds) (sl : LinkSlots) (u : TransitByLink) (m : List Bool) → slot_at sl on ≡ Slot.Travelling m → u on ≡ h → line_of (answered how (Slot.Travelling m)) Free ≡ line_of (Slot.Travelling m) h
    → line (with_slot sl on (answered how (Slot.Travelling m))) (set_at on Free u) ≡ line sl u
told-line on how h sl u m e k same = go (on == 0) refl
  where
    Goal : ℕ → Type 0
    Goal n = slot_at sl n ≡ Slot.Travelling m → u n ≡ h → line (with_slot sl n (answered how (Slot.Travelling m))) (set_at n Free u) ≡ line sl u

    go : (b : Bool) → (on == 0) ≡ b → line (with_slot sl on (answered how (Slot.Travelling m))) (set_at on Free u) ≡ line sl u
    go true z = subst Goal (sym (eqb-true on 0 z)) (λ f j. answered-line how h sl u m f j same) e k
    go false z = apart-line on (answered how (Slot.Travelling m)) Free sl u (zero_distinct on z)

abbrev no_text : TextOut
no_text = record { of_size = 0; bits = [] }

-- a step of the model in which a text was taken
abbrev taken_there : Node → TwoNodes
taken_there n = let m : Node = record n { texts = λ _. record { slot = Delivery.Travelling no_text; subnet = MessageTransit.Delivered } } in record { this = m; that = m }

frees-kept : (on : ℕ) (x : TwoNodes) (v : World) (p : Watches) → Refines x v → KeptIn p v → Kept (host_at (frees on v.this.peer) (sees_taken on v.this.peer p.this)) (host_at v.that.peer p.that) (line v.this.slots v.going) (line v.that.slots v.coming)
frees-kept on x v p t g =
    let k : ResetHost = host_at v.that.peer p.that in
    let y : List Command = line v.that.slots v.coming in
    let l : List Command = line v.this.slots v.going in
    let n : Node = watching x.this p.this in
    same-host k y (peer_of (node_frees on n)) (frees on v.this.peer) (watch_of (node_frees on n)) (sees_taken on v.this.peer p.this) l
    (frees_agree on n ∙ ap (frees on) (sym t.this.peer))
    (watches_agree (NodeStep.Text_is_answered on) (taken_there n) ∙ ap (λ (q : Peer). sees_taken on q p.this) (sym t.this.peer))
    (replying n.host k l y (made_if_any (answer (answered_in on Texts.Rfnm n.ends))) (same-host k y v.this.peer (peer_of x.this) p.this p.this l t.this.peer refl g))

-- what the answer leaves of the host
settled-kept : (on : ℕ) (how : Answer) (sl : LinkSlots) (x : TwoNodes) (v : World) (p : Watches) → Refines x v → KeptIn p v
    → Kept (host_at (after_answer on how sl v.this.peer) (of_answer on how v.this p.this)) (host_at v.that.peer p.that) (line v.this.slots v.going) (line v.that.slots v.coming)
settled-kept on Rfnm sl x v p t g = go (on == 0)
  where
    k : ResetHost
    k = host_at v.that.peer p.that

    go : (b : Bool) → Kept (host_at (settles (is_quiet sl) (if b then v.this.peer else frees on v.this.peer)) (if b then p.this else sees_taken on v.this.peer p.this)) k (line v.this.slots v.going) (line v.that.slots v.coming)
    go true = settling (host_at v.this.peer p.this) k (line v.this.slots v.going) (line v.that.slots v.coming) (is_quiet sl) g
    go false = settling (host_at (frees on v.this.peer) (sees_taken on v.this.peer p.this)) k (line v.this.slots v.going) (line v.that.slots v.coming) (is_quiet sl) (frees-kept on x v p t g)
settled-kept on Incomplete sl x v p t g = g
settled-kept on Dead sl x v p t g = g

told-kept : (on : ℕ) (how : Answer) (h : Holds) (x : TwoNodes) (v : World) (p : Watches) (r : PeerState) → Refines x v → (o : IsOut on (slot_at v.this.slots on)) → v.going on ≡ h
    → line_of (answered how (Slot.Travelling o.message)) Free ≡ line_of (Slot.Travelling o.message) h → r ≡ answer_comes on how v.this → KeptIn p v
    → KeptIn (record p { this = of_answer on how v.this p.this }) (record v { this = r; going = set_at on Free v.going })
told-kept on how h x v p r t o e same is g =
    let k : ResetHost = host_at v.that.peer p.that in
    let y : List Command = line v.that.slots v.coming in
    let sl : LinkSlots = with_slot v.this.slots on (answered how (Slot.Travelling o.message)) in
    subst (λ (s : PeerState). Kept (host_at s.peer (of_answer on how v.this p.this)) k (line s.slots (set_at on Free v.going)) y) (sym (is ∙ answered-is on how o.message v.this o.in_slot))
    (same-line k y (host_at (after_answer on how sl v.this.peer) (of_answer on how v.this p.this)) (line v.this.slots v.going) (line sl (set_at on Free v.going))
    (sym (told-line on how h v.this.slots v.going o.message o.in_slot e same)) (settled-kept on how sl x v p t g))

answer-kept : (on : ℕ) (w : TwoNodes) (v : World) (h : Holds) (p : Watches) → Refines w v → v.going on ≡ h → KeptIn p v → KeptIn (watches_after_body (answers_for on h v).1 v p) (answers_for on h v).0
answer-kept on w v Delivered p t e g = let o = delivered-out on w v t e in told-kept on Rfnm Delivered w v p _ t o e refl (answer_comes-is v.there on v.this t.this.number o.fits).0 g
answer-kept on w v Lost p t e g = let o = lost-out on w v t e in told-kept on Incomplete Lost w v p _ t o e refl (answer_comes-is v.there on v.this t.this.number o.fits).1 g
answer-kept on w v Subnet.Dead p t e g = let o = dead-out on w v t e in told-kept on Dead Subnet.Dead w v p _ t o e refl (answer_comes-is v.there on v.this t.this.number o.fits).2 g
answer-kept on w v Free p t e g = g
answer-kept on w v (Accepted m) p t e g = g

pub step-kept : (st : WorldStep) (x : TwoNodes) (v : World) (p : Watches) → Refines x v → KeptIn p v → KeptIn (watches_after_body (moves st v).1 v p) (moves st v).0
step-kept (Call_is_made asked) x v p t g = call-kept asked x v p t g
step-kept Goes_out x v p t g = goes-kept x v (next_of v.there v.this) p t refl g
step-kept (Is_delivered on) x v p t g = deliver-kept on x v (v.going on) p t refl g
step-kept (Is_lost on) x v p t g = lose-kept on x v (v.going on) p t refl g
step-kept (Finds_dead on) x v p t g = die-kept on x v (v.going on) p t refl g
step-kept (Is_answered on) x v p t g = answer-kept on x v (v.going on) p t refl g

pub kept-counterpart : (p : Watches) (v : World) → KeptIn p v → KeptIn (record { this = p.that; that = p.this }) (swap v)
kept-counterpart p v g = counterpart (host_at v.this.peer p.this) (host_at v.that.peer p.that) (line v.this.slots v.going) (line v.that.slots v.coming) g

-- what is so of these hosts is what is said of them
pub commands-agree : (p : Watches) (v : World) → KeptIn p v → CommandsAgree v p
commands-agree p v g a b = agreeing (host_at v.this.peer p.this) (host_at v.that.peer p.that) (underway v.this v.going) (underway v.that v.coming) a b g.there g.here

pub silent : (p : Watches) (v : World) → KeptIn p v → IsSilentWhileDown v.this p.this × IsSilentWhileDown v.that p.that
silent p v g = (λ e. (g.this.made e, g.this.came e, g.this.waiting e), λ e. (g.that.made e, g.that.came e, g.that.waiting e))
