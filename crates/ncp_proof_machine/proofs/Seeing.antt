-- Meant for other crates too: they cite what is public here.
--
-- Each step of a host of two is a step of what it keeps of its peer.
use Rattle.std.proofs.Common.{◌≡◌, ℕ, ◌+◌, ◌-◌, ◌*◌, Bool, true, false, if◌then◌else◌, nat_le, List, [], ◌∷◌, take, drop, length, Option, None, Some, refl, sym, ap, ◌∙◌, arith}
use Rattle.ncp_wire.specs.declared.command.Command.{Command}
use Rattle.ncp_wire.specs.declared.command.Command.TheVariants.{Rst, Rrp}
use Rattle.ncp_model.specs.declared.pair.Pair.{Pair}
use Rattle.ncp_model.specs.Effect.{answer, made_if_any, made_by_call}
use Rattle.ncp_model.specs.Texts.{made_by_text, Rfnm}
use Rattle.ncp_model.specs.Ends.{text_in, receiver_on, sender_on, pair_of, answered_in, put}
use Rattle.ncp_model.specs.Ends.{Ends, hear, demux_command, map_after_at}
use Rattle.ncp_model.specs.Echo.{Echoes, echo_answer, echo_asked}
use Rattle.ncp_model.specs.Phase.{Phase, up, phase_makes, makes_all, is_resetting, resets}
use Rattle.ncp_proof_machine.specs.Resets.{ResetHost, is_up, anew, host_makes_all, ResetWorld, reset_sends}
use Rattle.ncp_proof_machine.specs.Hosts.{Node, TextOut, peer_of, quiet, node_hears, echoes_after, node_reaction, happens_at, node_cleared, node_hears_other, node_kept, node_kept_echoes}
use Rattle.ncp_model.specs.Sending.{is_full}
use Rattle.ncp_model.specs.Peers.{Peer, PairCall, standing, called, calls_up, cleared, cuts, frees_up, happened_at, hears_other, settles}
use Rattle.ncp_model.specs.Ends.{cut_at, cut_in, map_after}
use Rattle.ncp_model.specs.Endpoint.{Endpoint}
use Rattle.ncp_model.specs.Effect.{Stays}
use Rattle.ncp_model.specs.Texts.{can_send, cut_bits, bytes_to_send}
use Rattle.ncp_model.specs.Sending.{next_commands, fitting}
use Rattle.ncp_wire.specs.Spelling.{spelling}
use Rattle.std.proofs.Math.Seq.{drop-nil}
use Rattle.ncp_model.specs.declared.limits.TheConstants.{MAX_CONTROL}
use Rattle.ncp_wire.specs.declared.links.TheConstants.{FIRST_LINK, DATA_LINKS}
use Rattle.ncp_proof_machine.specs.Delivery.{Slot, Empty, Ready, Travelling, Held, MessageTransit, Free, Accepted, Delivered, Lost, Dead, Link, idle, out}
use Rattle.ncp_proof_machine.specs.Hosts.{TwoNodes, base, node_moved, set_link, all_empty, node_cuts, text_answered, control_answered, node_text_comes, message_comes, Calls_reset, Calls, Calls_echo, Falls, Sends, Sends_text, Hears, Hears_text, Is_answered, Text_is_answered, node_steps}
use Rattle.ncp_proof_machine.specs.Seen.{CallsAgree, EchoesAgree, ResetsAgree, FallsAgree, HearsAgree, TextsAgree, FreesAgree, SettlesAgree, HearingAgrees, CutsAgree, SendsAgree, StepsAgree, OtherNodeStays, hears_each, takes_commands, hears_message, hears_coming, control_taken, text_taken}
use Rattle.ncp_proof_machine.proofs.ResetRuns.{phase-makes_all, phase-hears}
use Rattle.ncp_proof_machine.proofs.HostsBase.{hears_all-texts, other-keeps}

pub none_made : (cs : List Command) (p : Phase) → up p ≡ false → makes_all cs p ≡ p
none_made [] p d = refl
none_made (c ∷ cs) p d = let e : phase_makes c p ≡ p = rw d refl in ap (makes_all cs) e ∙ none_made cs p d

choose : (b : Bool) (n : Node) (m : Node) (p : Peer) → peer_of n ≡ p → peer_of (if b then n else m) ≡ (if b then p else peer_of m)
choose true n m p e = e
choose false n m p e = refl

called_up : (pair : Pair) (call : PairCall) (n : Node) → peer_of (happens_at pair (called call (is_full n.host.phase) n.ends) n) ≡ calls_up pair call (peer_of n)
called_up pair call n = ap (λ (q : Phase). standing q (put n.ends pair (happened_at pair call (peer_of n)).after) n.echoes) (phase-makes_all (happened_at pair call (peer_of n)).made n.host)

pub calls_agree : CallsAgree
calls_agree pair call n = choose (up n.host.phase) _ n _ (called_up pair call n)

-- a host after some commands were made, with these ends and echoes
made_agrees : (cs : List Command) (h : ResetHost) (m : Ends) (e : Echoes) → ◌≡◌ {A = Peer} (standing (host_makes_all cs h).phase m e) (standing (makes_all cs h.phase) m e)
made_agrees cs h m e = ap (λ (q : Phase). standing q m e) (phase-makes_all cs h)

pub echoes_agree : EchoesAgree
echoes_agree byte n = choose (up n.host.phase) _ n _ (made_agrees (made_by_call (echo_answer byte (is_full n.host.phase) n.echoes)) n.host n.ends (echo_asked (is_full n.host.phase) n.echoes))

pub falls_agree : FallsAgree
falls_agree n = refl

reset_by : (b : Bool) (q : Phase) (n : Node) → peer_of (if b then n else node_cleared (if b then n.host else anew q) n) ≡ (if b then peer_of n else cleared q (peer_of n))
reset_by true q n = refl
reset_by false q n = refl

pub resets_agree : ResetsAgree
resets_agree n = reset_by (is_resetting n.host.phase) (resets (quiet n) n.host.phase) n

other_agrees : (c : Command) (n : Node) → peer_of (node_hears_other c n) ≡ hears_other (quiet n) c (peer_of n)
other_agrees c n = ap (λ (q : Phase). standing q (map_after_at n.ends (demux_command c n.ends) (hear c n.ends)) (echoes_after c n.echoes)) (phase-hears c (node_reaction c n) n.host)

pub hears_agree : HearsAgree
hears_agree Rst n = refl
hears_agree Rrp n = refl
hears_agree c n = choose (up n.host.phase) (node_hears_other c n) n (hears_other (quiet n) c (peer_of n)) (other_agrees c n)

pub texts_agree : TextsAgree
texts_agree on head t n = choose (up n.host.phase) _ n _ (made_agrees (made_by_text head t.bits (answer (text_in on t.of_size t.bits n.ends))) n.host (map_after_at n.ends (pair_of (receiver_on on n.ends)) (text_in on t.of_size t.bits n.ends)) n.echoes)

pub frees_agree : FreesAgree
frees_agree on n = go (is_up n.host) refl
  where
    cs : List Command
    cs = made_if_any (answer (answered_in on Rfnm n.ends))

    m : Ends
    m = map_after_at n.ends (pair_of (sender_on on n.ends)) (answered_in on Rfnm n.ends)

    -- the peer, where the test says whether the host is up
    as_told : Bool → Peer
    as_told b =
        let host : ResetHost = host_makes_all cs n.host in
        record { phase = host.phase; ends = if b then node_kept host m else n.ends; echoes = if b then node_kept_echoes host n.echoes else n.echoes }

    go : (b : Bool) → up n.host.phase ≡ b → as_told b ≡ (if b then frees_up on (peer_of n) else peer_of n)
    go true u = made_agrees cs n.host m n.echoes
    go false d = ap (λ (q : Phase). (let p : Peer = record { phase = q; ends = n.ends; echoes = n.echoes } in p)) (phase-makes_all cs n.host ∙ none_made cs n.host.phase d)

pub settles_agree : SettlesAgree
settles_agree n = refl

pub quiet_stays : (c : Command) (n : Node) → quiet (node_hears c n) ≡ quiet n
quiet_stays c n = ap (λ (k : ℕ → Link TextOut). all_empty k DATA_LINKS FIRST_LINK) (hears_all-texts (c ∷ []) n)

pub messages_agree : HearingAgrees
messages_agree [] n = refl
messages_agree (c ∷ cs) n =
    messages_agree cs (node_hears c n)
    ∙ (ap (λ (b : Bool). hears_each b cs (peer_of (node_hears c n))) (quiet_stays c n)
    ∙ ap (hears_each (quiet n) cs) (hears_agree c n))

-- where nothing may be cut, nothing changes
uncut : (m : Ends) (o : Option (Pair × Endpoint)) → answer (cut_at o) ≡ None → map_after_at m (pair_of o) (cut_at o) ≡ m
uncut m None e = refl
uncut m (Some q) e = go (can_send q.0 q.1) e
  where
    go : (b : Bool) → answer (if b then cut_bits (bytes_to_send q.1 * q.1.size) q.1 else Stays None) ≡ None → map_after m q.0 (if b then cut_bits (bytes_to_send q.1 * q.1.size) q.1 else Stays None) ≡ m
    go true e = absurd (cc e)
    go false e = refl

cut_or_not : (on : ℕ) (o : Option (ℕ × List Bool)) (n : Node) → answer (cut_in on n.ends) ≡ o → peer_of (node_cuts on o n) ≡ cuts on (peer_of n)
cut_or_not on None n e = ap (λ (m : Ends). (let p : Peer = record { phase = n.host.phase; ends = m; echoes = n.echoes } in p)) (sym (uncut n.ends (sender_on on n.ends) e))
cut_or_not on (Some text) n e = refl

pub cuts_agree : CutsAgree
cuts_agree on Empty n = cut_or_not on (answer (cut_in on n.ends)) n refl
cuts_agree on (Ready t) n = refl
cuts_agree on (Travelling t) n = refl
cuts_agree on (Held t) n = refl

-- the commands that a message takes are the first ones
front : (room : ℕ) (cs : List Command) → take (length (fitting room cs)) cs ≡ fitting room cs
front room [] = refl
front room (c ∷ cs) = go (nat_le (length (spelling c)) room) (front (room - length (spelling c)) cs)
  where
    rest : List Command
    rest = fitting (room - length (spelling c)) cs

    go : (b : Bool) → take (length rest) cs ≡ rest → take (length (if b then c ∷ rest else [])) (c ∷ cs) ≡ (if b then c ∷ rest else [])
    go true e = ap (λ (r : List Command). c ∷ r) e
    go false e = refl

sent_first : (n : ℕ) (q : List Command) (w : TwoNodes) → n + 1 ≡ length (next_commands q)
    → reset_sends Empty q n (base w) ≡ record (base w) { this = record w.this.host { phase = record w.this.host.phase { waiting = drop (n + 1) w.this.host.phase.waiting } }; going = out (take (n + 1) w.this.host.phase.waiting) }
sent_first n [] w l = absurd (omega (arith, l))
sent_first n (c ∷ cs) w l = refl

pub sends_agree : SendsAgree
sends_agree n w e l =
    let q : List Command = w.this.host.phase.waiting in
    let f : (node_steps (Sends n) w).this ≡ node_moved (record (base w) { this = record w.this.host { phase = record w.this.host.phase { waiting = drop (n + 1) q } }; going = out (take (n + 1) q) }) w.this =
    ap (λ (s : Slot (List Command)). node_moved (reset_sends s q n (base w)) w.this) e ∙ ap (λ (b : ResetWorld). node_moved b w.this) (sent_first n q w l) in (
      ap (λ (m : Node). peer_of m) f ∙ ap (λ (k : ℕ). (let p : Peer = record { phase = record w.this.host.phase { waiting = drop k q }; ends = w.this.ends; echoes = w.this.echoes } in p)) l,
      ap (λ (m : Node). m.control) f ∙ ap (λ (cs : List Command). out cs) (ap (λ (k : ℕ). take k q) l ∙ front MAX_CONTROL q),
    )

-- Each step.

sent_all : (slot : Slot (List Command)) (q : List Command) (n : ℕ) (w : TwoNodes) → w.this.host.phase.waiting ≡ q → peer_of (node_moved (reset_sends slot q n (base w)) w.this) ≡ takes_commands slot n (peer_of w.this)
sent_all (Ready m) q n w e = refl
sent_all (Travelling m) q n w e = refl
sent_all (Held m) q n w e = refl
sent_all Empty [] n w e =
    ap (λ (cs : List Command). (let p : Peer = record { phase = record w.this.host.phase { waiting = cs }; ends = w.this.ends; echoes = w.this.echoes } in p))
    (e ∙ (sym (drop-nil (n + 1)) ∙ ap (λ (cs : List Command). drop (n + 1) cs) (sym e)))
sent_all Empty (c ∷ cs) n w e = refl

message_heard : (subnet : MessageTransit (List Command)) (w : TwoNodes) → peer_of (message_comes subnet w).this ≡ hears_message subnet (quiet w.this) (peer_of w.this)
message_heard (Accepted m) w = messages_agree m w.this
message_heard Free w = refl
message_heard Delivered w = refl
message_heard Lost w = refl
message_heard Dead w = refl

text_heard : (on : ℕ) (head : List Bool) (subnet : MessageTransit TextOut) (w : TwoNodes) → peer_of (node_text_comes on head subnet w).this ≡ hears_coming on head subnet (peer_of w.this)
text_heard on head (Accepted t) w = texts_agree on head t w.this
text_heard on head Free w = refl
text_heard on head Delivered w = refl
text_heard on head Lost w = refl
text_heard on head Dead w = refl

control_told : (slot : Slot (List Command)) (subnet : MessageTransit (List Command)) (n : Node) → peer_of (control_answered slot subnet n) ≡ control_taken slot subnet (quiet n) (peer_of n)
control_told (Travelling m) Delivered n = refl
control_told slot subnet n = refl

text_told : (on : ℕ) (slot : Slot TextOut) (subnet : MessageTransit TextOut) (n : Node) → peer_of (text_answered on slot subnet n) ≡ text_taken on slot subnet (quiet (record n { texts = set_link on idle n.texts })) (peer_of n)
text_told on (Travelling t) Delivered n = ap (settles (quiet (record n { texts = set_link on idle n.texts }))) (frees_agree on n)
text_told on slot subnet n = refl

pub steps_agree : StepsAgree
steps_agree Calls_reset w = resets_agree w.this
steps_agree (Calls pair call) w = calls_agree pair call w.this
steps_agree (Calls_echo byte) w = echoes_agree byte w.this
steps_agree Falls w = refl
steps_agree (Sends n) w = sent_all w.this.control.slot w.this.host.phase.waiting n w refl
steps_agree (Sends_text on) w = cuts_agree on (w.this.texts on).slot w.this
steps_agree Hears w = message_heard w.that.control.subnet w
steps_agree (Hears_text on head) w = text_heard on head (w.that.texts on).subnet w
steps_agree Is_answered w = control_told w.this.control.slot w.this.control.subnet w.this
steps_agree (Text_is_answered on) w = text_told on (w.this.texts on).slot (w.this.texts on).subnet w.this
steps_agree step w = refl

pub others_stay : OtherNodeStays
others_stay step w = other-keeps (λ (n : Node). peer_of n ≡ peer_of w.that) (λ n l e. e) (λ n ls e. e) step w refl
