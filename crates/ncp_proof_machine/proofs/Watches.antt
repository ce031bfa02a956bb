-- Meant for other crates too: they cite what is public here.
--
-- The history variables of a host change by the outcome of each step.
use Rattle.std.proofs.Common.{◌≡◌, ℕ, Bool, true, false, if◌then◌else◌, List, [], ◌∷◌, ◌++◌, Option, None, Some, refl, sym, ap, ◌∙◌, arith}
use Rattle.std.specs.List.{filter}
use Rattle.std.proofs.lemmas.List.{append_assoc, append-nil}
use Rattle.ncp_wire.specs.declared.command.Command.{Command}
use Rattle.ncp_wire.specs.declared.command.Command.TheVariants.{Rst, Rrp}
use Rattle.ncp_model.specs.declared.pair.Pair.{Pair}
use Rattle.ncp_model.specs.Effect.{answer, made_if_any, made_by_call}
use Rattle.ncp_model.specs.Texts.{made_by_text, Rfnm}
use Rattle.ncp_model.specs.Ends.{cut_in, text_in, answered_in}
use Rattle.ncp_model.specs.Echo.{echo_answer}
use Rattle.ncp_model.specs.Phase.{Phase, up, is_other, is_resetting, has_room_for_one, queued, goes_down, phase_makes, makes_all, Reaction, resets}
use Rattle.ncp_model.specs.Sending.{is_full}
use Rattle.ncp_model.specs.Peers.{Peer, PairCall, called, happened_at, hears}
use Rattle.ncp_proof_machine.specs.Delivery.{Slot, Empty, Ready, Travelling, Held, MessageTransit, Free, Accepted, Delivered, Lost, Dead}
use Rattle.ncp_proof_machine.specs.Resets.{ResetHost, anew, host_falls, host_makes, host_makes_all, host_hears_other, reset_sends}
use Rattle.ncp_proof_machine.specs.Hosts.{Node, TextOut, Pasts, quiet, peer_of, node_cleared, node_reaction, node_calls, happens_at, node_echo_called, node_calls_echo, node_calls_reset, node_hears, node_hears_other, node_hears_all, node_takes_text, node_hears_text, node_cuts, node_sends_text, node_frees, text_answered, control_answered, node_text_comes, message_comes, TwoNodes, base, node_moved, Calls_reset, Calls, Calls_echo, Falls, Sends, Sends_text, Hears, Hears_text, Is_answered, Text_is_answered}
use Rattle.ncp_proof_machine.specs.Watching.{HistoryVars, watch_of, begins_empty, notes, sees_call, sees_echo, sees_command, sees_each, sees_text, sees_taken, sees_message, sees_coming, sees_answer, WatchesAgree, OtherWatchesStay}
use Rattle.ncp_proof_machine.proofs.HostsBase.{other-keeps}
use Rattle.ncp_proof_machine.proofs.Seeing.{none_made, quiet_stays, hears_agree}

-- What is made and what came, where commands are made at a host that is up.

-- what is made after commands, and what came
abbrev After : List Command → ResetHost → Phase → ResetHost → List Command → Type 0
After cs x q h made =
    ((host_makes_all cs x).made ≡ (if up (makes_all cs q) then h.made ++ made else []))
    × ((host_makes_all cs x).came ≡ (if up (makes_all cs q) then h.came else []))

still : (cs : List Command) (h : ResetHost) → up h.phase ≡ false → host_makes_all cs h ≡ h
still [] h d = refl
still (c ∷ cs) h d = let e : host_makes c h ≡ h = rw d refl in ap (host_makes_all cs) e ∙ still cs h d

made_noted : (cs : List Command) (h : ResetHost) → up h.phase ≡ true → After cs h h.phase h (filter is_other cs)
made_noted [] h u = (rw u (sym (append-nil h.made)), rw u refl)
made_noted (c ∷ cs) h u = go (is_other c) (has_room_for_one h.phase) refl refl (made_noted cs h u) (made_noted cs (record h { phase = queued c h.phase; made = h.made ++ c ∷ [] }) u)
  where
    queues : ResetHost
    queues = record h { phase = queued c h.phase; made = h.made ++ c ∷ [] }

    go : (o p : Bool) → is_other c ≡ o → has_room_for_one h.phase ≡ p → After cs h h.phase h (filter is_other cs)
        → After cs queues queues.phase queues (filter is_other cs)
        → After cs (host_makes c h) (phase_makes c h.phase) h (filter is_other (c ∷ cs))
    go true true o p k m =
        let e : host_makes c h ≡ queues = rw (u, o, p) refl in
        let f : phase_makes c h.phase ≡ queued c h.phase = rw (u, o, p) refl in
        let l : filter is_other (c ∷ cs) ≡ c ∷ filter is_other cs = grind arith in
        rw (e, f, l) (m.0 ∙ ap (λ (made : List Command). if up (makes_all cs (queued c h.phase)) then made else []) (append_assoc h.made (c ∷ []) (filter is_other cs)), m.1)
    go true false o p k m =
        let e : host_makes c h ≡ host_falls h = rw (u, o, p) refl in
        let f : phase_makes c h.phase ≡ goes_down h.phase = rw (u, o, p) refl in
        rw (e, f, still cs (host_falls h) refl, none_made cs (goes_down h.phase) refl) (refl, refl)
    go false p o q k m =
        let e : host_makes c h ≡ h = rw (u, o) refl in
        let f : phase_makes c h.phase ≡ h.phase = rw (u, o) refl in
        let l : filter is_other (c ∷ cs) ≡ filter is_other cs = grind arith in
        rw (e, f, l) k

-- as a watch
abbrev of_host : ResetHost → Pasts → Bool → HistoryVars
of_host h pasts v = record { made = h.made; came = h.came; pasts = pasts; violated = v }

noted : (cs : List Command) (h : ResetHost) (pasts : Pasts) (v : Bool) → up h.phase ≡ true
    → of_host (host_makes_all cs h) pasts v ≡ notes (up (makes_all cs h.phase)) [] cs (of_host h pasts v)
noted cs h pasts v u =
    let k = made_noted cs h u in
    let l : (host_makes_all cs h).came ≡ (if up (makes_all cs h.phase) then h.came ++ [] else []) = k.1 ∙ ap (λ (came : List Command). if up (makes_all cs h.phase) then came else []) (sym (append-nil h.came)) in
    ap (λ (made : List Command). (let w : HistoryVars = record { made = made; came = (host_makes_all cs h).came; pasts = pasts; violated = v } in w)) k.0
    ∙ ap (λ (came : List Command). (let w : HistoryVars = record { made = if up (makes_all cs h.phase) then h.made ++ filter is_other cs else []; came = came; pasts = pasts; violated = v } in w)) l

-- one command came, and others are replied
replied : (c : Command) (r : Reaction) (h : ResetHost) (pasts : Pasts) (v : Bool) → up h.phase ≡ true
    → of_host (host_hears_other c r h) pasts v
    ≡ notes (up (if up h.phase then (if r.full then goes_down h.phase else makes_all r.replies h.phase) else h.phase)) (c ∷ []) r.replies (of_host h pasts v)
replied c r h pasts v u = go (up h.phase) r.full u
  where
    come : ResetHost
    come = record h { came = h.came ++ c ∷ [] }

    go : (b d : Bool) → b ≡ true
        → of_host (if b then (if d then host_falls h else host_makes_all r.replies come) else h) pasts v
        ≡ notes (up (if b then (if d then goes_down h.phase else makes_all r.replies h.phase) else h.phase)) (c ∷ []) r.replies (of_host h pasts v)
    go true true e = refl
    go true false e =
        let k = made_noted r.replies come u in
        ap (λ (made : List Command). (let w : HistoryVars = record { made = made; came = (host_makes_all r.replies come).came; pasts = pasts; violated = v } in w)) k.0
        ∙ ap (λ (came : List Command). (let w : HistoryVars = record { made = if up (makes_all r.replies h.phase) then h.made ++ filter is_other r.replies else []; came = came; pasts = pasts; violated = v } in w)) k.1
    go false d e = absurd (cc e)

-- Each step, where the host is up and where it is not.

choose : (n m : Node) (w : HistoryVars) → (up m.host.phase ≡ true → watch_of n ≡ w) → watch_of (if up m.host.phase then n else m) ≡ (if up m.host.phase then w else watch_of m)
choose n m w f = go (up m.host.phase) refl
  where
    go : (b : Bool) → up m.host.phase ≡ b → watch_of (if b then n else m) ≡ (if b then w else watch_of m)
    go true u = f u
    go false d = refl

calls_seen : (pair : Pair) (call : PairCall) (n : Node) → watch_of (node_calls pair call n) ≡ sees_call pair call (peer_of n) (watch_of n)
calls_seen pair call n =
    choose (happens_at pair (called call (is_full n.host.phase) n.ends) n) n _
    (noted (happened_at pair call (peer_of n)).made n.host (happens_at pair (called call (is_full n.host.phase) n.ends) n).pasts (happens_at pair (called call (is_full n.host.phase) n.ends) n).violated)

echo_seen : (byte : ℕ) (n : Node) → watch_of (node_calls_echo byte n) ≡ sees_echo byte (peer_of n) (watch_of n)
echo_seen byte n = choose (node_echo_called byte n) n _ (noted (made_by_call (echo_answer byte (is_full n.host.phase) n.echoes)) n.host n.pasts n.violated)

reset_seen : (n : Node) → watch_of (node_calls_reset n) ≡ (if is_resetting n.host.phase then watch_of n else begins_empty (watch_of n))
reset_seen n = go (is_resetting n.host.phase)
  where
    go : (b : Bool) → watch_of (if b then n else node_cleared (if b then n.host else anew (resets (quiet n) n.host.phase)) n) ≡ (if b then watch_of n else begins_empty (watch_of n))
    go true = refl
    go false = refl

command_seen : (c : Command) (n : Node) → watch_of (node_hears c n) ≡ sees_command (quiet n) c (peer_of n) (watch_of n)
command_seen Rst n = refl
command_seen Rrp n = refl
command_seen c n = choose (node_hears_other c n) n _ (replied c (node_reaction c n) n.host (node_hears_other c n).pasts (node_hears_other c n).violated)

each_seen : (cs : List Command) (n : Node) → watch_of (node_hears_all cs n) ≡ sees_each (quiet n) cs (peer_of n) (watch_of n)
each_seen [] n = refl
each_seen (c ∷ cs) n =
    each_seen cs (node_hears c n)
    ∙ (ap (λ (b : Bool). sees_each b cs (peer_of (node_hears c n)) (watch_of (node_hears c n))) (quiet_stays c n)
    ∙ (ap (λ (p : Peer). sees_each (quiet n) cs p (watch_of (node_hears c n))) (hears_agree c n)
    ∙ ap (sees_each (quiet n) cs (hears (quiet n) c (peer_of n))) (command_seen c n)))

text_seen : (on : ℕ) (head : List Bool) (t : TextOut) (n : Node) → watch_of (node_hears_text on head t n) ≡ sees_text on head t (peer_of n) (watch_of n)
text_seen on head t n = choose (node_takes_text on head t n) n _ (noted (made_by_text head t.bits (answer (text_in on t.of_size t.bits n.ends))) n.host (node_takes_text on head t n).pasts (node_takes_text on head t n).violated)

freed_seen : (on : ℕ) (n : Node) → watch_of (node_frees on n) ≡ sees_taken on (peer_of n) (watch_of n)
freed_seen on n = go (up n.host.phase) refl
  where
    cs : List Command
    cs = made_if_any (answer (answered_in on Rfnm n.ends))

    go : (b : Bool) → up n.host.phase ≡ b → of_host (host_makes_all cs n.host) n.pasts n.violated ≡ (if b then notes (up (makes_all cs n.host.phase)) [] cs (watch_of n) else watch_of n)
    go true u = noted cs n.host n.pasts n.violated u
    go false d = ap (λ (h : ResetHost). of_host h n.pasts n.violated) (still cs n.host d)

message_seen : (subnet : MessageTransit (List Command)) (w : TwoNodes) → watch_of (message_comes subnet w).this ≡ sees_message subnet (quiet w.this) (peer_of w.this) (watch_of w.this)
message_seen (Accepted m) w = each_seen m w.this
message_seen Free w = refl
message_seen Delivered w = refl
message_seen Lost w = refl
message_seen Dead w = refl

coming_seen : (on : ℕ) (head : List Bool) (subnet : MessageTransit TextOut) (w : TwoNodes) → watch_of (node_text_comes on head subnet w).this ≡ sees_coming on head subnet (peer_of w.this) (watch_of w.this)
coming_seen on head (Accepted t) w = text_seen on head t w.this
coming_seen on head Free w = refl
coming_seen on head Delivered w = refl
coming_seen on head Lost w = refl
coming_seen on head Dead w = refl

answer_seen : (on : ℕ) (slot : Slot TextOut) (subnet : MessageTransit TextOut) (n : Node) → watch_of (text_answered on slot subnet n) ≡ sees_answer on slot subnet (peer_of n) (watch_of n)
answer_seen on (Travelling t) Delivered n = freed_seen on n
answer_seen on slot subnet n = refl

sent_seen : (slot : Slot (List Command)) (q : List Command) (n : ℕ) (w : TwoNodes) → watch_of (node_moved (reset_sends slot q n (base w)) w.this) ≡ watch_of w.this
sent_seen slot q n w = grind arith

cut_seen : (on : ℕ) (o : Option (ℕ × List Bool)) (n : Node) → watch_of (node_cuts on o n) ≡ watch_of n
cut_seen on None n = refl
cut_seen on (Some text) n = refl

out_seen : (on : ℕ) (slot : Slot TextOut) (n : Node) → watch_of (node_sends_text on slot n) ≡ watch_of n
out_seen on Empty n = cut_seen on (answer (cut_in on n.ends)) n
out_seen on (Ready t) n = refl
out_seen on (Travelling t) n = refl
out_seen on (Held t) n = refl

told_seen : (slot : Slot (List Command)) (subnet : MessageTransit (List Command)) (n : Node) → watch_of (control_answered slot subnet n) ≡ watch_of n
told_seen (Travelling m) Delivered n = refl
told_seen slot subnet n = refl

pub watches_agree : WatchesAgree
watches_agree Calls_reset w = reset_seen w.this
watches_agree (Calls pair call) w = calls_seen pair call w.this
watches_agree (Calls_echo byte) w = echo_seen byte w.this
watches_agree Falls w = refl
watches_agree (Sends n) w = sent_seen w.this.control.slot w.this.host.phase.waiting n w
watches_agree (Sends_text on) w = out_seen on (w.this.texts on).slot w.this
watches_agree Hears w = message_seen w.that.control.subnet w
watches_agree (Hears_text on head) w = coming_seen on head (w.that.texts on).subnet w
watches_agree Is_answered w = told_seen w.this.control.slot w.this.control.subnet w.this
watches_agree (Text_is_answered on) w = answer_seen on (w.this.texts on).slot (w.this.texts on).subnet w.this
watches_agree step w = refl

pub other_watches_stay : OtherWatchesStay
other_watches_stay step w = other-keeps (λ (n : Node). watch_of n ≡ watch_of w.that) (λ n l e. e) (λ n ls e. e) step w refl
