-- The echo that is awaited, the byte of the last one, and the ERRs are what the notes say, note by note.
use Rattle.std.proofs.Common.{◌≡◌, ℕ, ◌+◌, ◌-◌, ◌==◌, Bool, true, false, not, ◌||◌, if◌then◌else◌, List, [], ◌∷◌, ◌++◌, length, take, drop, Option, None, Some, Result, Ok, Err, refl, sym, ap, ◌∙◌, arith}
use Rattle.std.proofs.lemmas.List.{length-append, length-drop, drop-append-le, drop-drop}
use Rattle.std.specs.List.{list_any}
use Rattle.ncp_numbers.specs.Bytes.{bytes_of}
use Rattle.ncp_leader.specs.declared.leader.Leader.{Leader}
use Rattle.ncp_leader.specs.declared.leader.Short.{Short}
use Rattle.ncp_leader.specs.declared.fault.MessageFault.{MessageFault}
use Rattle.ncp_leader.specs.Leader.{leader_in}
use Rattle.ncp_leader.specs.Message.{Message, message_in}
use Rattle.ncp_wire.specs.declared.command.Command.{Command}
use Rattle.ncp_wire.specs.declared.fault.CommandFault.{CommandFault}
use Rattle.ncp_control.specs.Reading.{commands_in, fault_in}
use Rattle.ncp_slot.specs.declared.slot.Slot.TheVariants.{Empty, Ready, Travelling, Held}
use Rattle.ncp_wire.specs.declared.answer.Answer.{Answer}
use Rattle.ncp_wire.specs.declared.answer.Answer.TheVariants.{Rfnm, Incomplete, Dead}
use Rattle.ncp_slot.specs.Slot.{answered}
use Rattle.ncp_slot.specs.Slots.{LinkSlot, LinkSlots, slot_at, with_slot, is_quiet}
use Rattle.ncp_model.specs.declared.call_fault.CallFault.{CallFault}
use Rattle.ncp_model.specs.declared.call_fault.CallFault.TheVariants.{Busy, QueueFull, NotUp}
use Rattle.ncp_model.specs.declared.pair.Pair.{Pair}
use Rattle.ncp_model.specs.declared.outcomes.Error.{Error}
use Rattle.ncp_model.specs.Effect.{answer, made_if_any}
use Rattle.ncp_model.specs.Texts
use Rattle.ncp_model.specs.Ends.{answered_in}
use Rattle.ncp_model.specs.Echo.{Echoes, echo_answer, echo_asked, hear_erp, hear_err, purge_echo}
use Rattle.ncp_model.specs.Sending.{is_full}
use Rattle.ncp_model.specs.Phase.{Phase, up, is_rst, is_rrp, is_resetting, phase_asks, hears_rrp, hears_rst, reset_answer, phase_settles, resets}
use Rattle.ncp_model.specs.Peers.{Peer, Take, kept_echoes, call_accepted, reply_of_echo, PairCall, calls, calls_echo, calls_reset, calls_up, cleared, cuts, echo_called, frees, frees_up, hears, hears_other, makes, peer_sends, takes_text}
use Rattle.ncp_peer.specs.declared.received.Received.{Received}
use Rattle.ncp_peer.specs.Counting.{one_more}
use Rattle.ncp_peer.specs.PeerState.{PeerState, new_state, control_link, after_answer, is_answered, answer_taken, answer_comes}
use Rattle.ncp_peer.specs.Hearing.{control_size, state_after_control, state_after_text, is_wrong_link, took, state_hears, state_hears_all, hears_last, message_after, message_received}
use Rattle.ncp_peer.specs.Output.{after_by}
use Rattle.ncp_host.specs.Host.{state_of, new_host}
use Rattle.ncp_transcript.specs.Asked.{asked_in, Asked, Asks, Asks_echo, Asks_reset, Asks_wake}
use Rattle.ncp_transcript.specs.declared.note.HostNote.{HostNote}
use Rattle.ncp_transcript.specs.After.{after_notes}
use Rattle.ncp_proof_runs.specs.Peers.{FromBeginning, notes_of_peer, state_asked, bits_for, out_for, note_for, notes_for}
use Rattle.ncp_proof_runs.specs.Echoing.{EchoHistory, no_echo, echo_accepted, echo_cleared, erp_came, err_came, while_up, echo_done, echo_heard, echo_heard_all, commands_read, commands_in_message, echo_by, echo_from, echo_of, last_of, echoes_noted}
use Rattle.ncp_proof_runs.proofs.Said.{IsDone, IsIn, IsSaidOf, IsRunOf}
use Rattle.ncp_proof_runs.proofs.EachPeer.{each_peer}
use Rattle.ncp_proof_runs.proofs.InRuns.{is_a_peer, kept_as_noted}
use Rattle.ncp_proof_runs.proofs.Settled.{Clear, makes-clear}

-- The last 16 of the last 16 and one more are the last 16 of all.

pub last-again : (e : Error) (xs : List Error) → last_of 16 (last_of 16 xs ++ e ∷ []) ≡ last_of 16 (xs ++ e ∷ [])
last-again e xs =
    let k : ℕ = length xs - 16 in
    let zs : List Error = xs ++ e ∷ [] in
    let joined : drop k xs ++ e ∷ [] ≡ drop k zs = sym (drop-append-le k xs (e ∷ []) (omega arith)) in
    let all : length zs ≡ length xs + 1 = length-append xs (e ∷ []) in
    let some : length (drop k zs) ≡ length zs - k = length-drop k zs in
    ap (λ (ys : List Error). last_of 16 ys) joined
    ∙ drop-drop (length (drop k zs) - 16) k zs
    ∙ ap (λ (n : ℕ). drop n zs) (omega (arith, all, some))

-- What happens while the host is up, and whether it still is.

standing : (q : Phase) (x : Echoes) (t : EchoHistory) → x ≡ echoes_noted t → kept_echoes q x ≡ echoes_noted (if up q then t else echo_cleared t)
standing q x t e = ap (kept_echoes q) e ∙ go (up q)
  where
    go : (b : Bool) → (if b then echoes_noted t else purge_echo (echoes_noted t)) ≡ echoes_noted (if b then t else echo_cleared t)
    go true = refl
    go false = refl

-- it makes the echoes of now of those before, or is dropped
happens : (p now : Peer) (x : Echoes) (t then-t : EchoHistory) → now.echoes ≡ kept_echoes now.phase x → x ≡ echoes_noted then-t → p.echoes ≡ echoes_noted t
    → (if up p.phase then now else p).echoes ≡ echoes_noted (while_up p.phase (if up p.phase then now else p).phase (if up p.phase then then-t else t))
happens p now x t then-t is e f = go (up p.phase)
  where
    go : (b : Bool) → (if b then now else p).echoes ≡ echoes_noted (if b then (if up (if b then now else p).phase then (if b then then-t else t) else echo_cleared (if b then then-t else t)) else (if b then then-t else t))
    go true = is ∙ standing now.phase x then-t e
    go false = f

-- the same where nothing is told of it
passes : (p now : Peer) (t : EchoHistory) → now.echoes ≡ kept_echoes now.phase p.echoes → p.echoes ≡ echoes_noted t
    → (if up p.phase then now else p).echoes ≡ echoes_noted (while_up p.phase (if up p.phase then now else p).phase t)
passes p now t is f = go (up p.phase)
  where
    go : (b : Bool) → (if b then now else p).echoes ≡ echoes_noted (if b then (if up (if b then now else p).phase then t else echo_cleared t) else t)
    go true = is ∙ standing now.phase p.echoes t f
    go false = f

-- a clearing
clears : (p q : Phase) (x : Echoes) (t : EchoHistory) → x ≡ echoes_noted t → purge_echo x ≡ echoes_noted (while_up p q (echo_cleared t))
clears p q x t e = ap purge_echo e ∙ go (up p) (up q)
  where
    go : (a b : Bool) → purge_echo (echoes_noted t) ≡ echoes_noted (if a then (if b then echo_cleared t else echo_cleared (echo_cleared t)) else echo_cleared t)
    go true true = refl
    go true false = refl
    go false b = refl

-- the host is up afterwards where it was
stays : (p q : Phase) (t : EchoHistory) → (up p ≡ true → up q ≡ true) → t ≡ while_up p q t
stays p q t still = go (up p) refl
  where
    inner : (b : Bool) → b ≡ true → t ≡ (if b then t else echo_cleared t)
    inner true e = refl
    inner false e = absurd (cc)

    go : (a : Bool) → up p ≡ a → t ≡ (if a then (if up q then t else echo_cleared t) else t)
    go true e = inner (up q) (still e)
    go false e = refl

-- Phases.

up-clear : (p : Phase) → up p ≡ true → Clear p
up-clear p e = go p.down p.want p.owe p.wait e
  where
    go : (a b c d : Bool) → not (a || b || c || d) ≡ true → (b ≡ false) × (c ≡ false)
    go false false false false e = (refl, refl)
    go false false false true e = absurd (cc)
    go false false true d e = absurd (cc)
    go false true c d e = absurd (cc)
    go true b c d e = absurd (cc)

rrp-up : (p : Phase) → up p ≡ true → up (hears_rrp p) ≡ true
rrp-up p e = go p.down p.want p.owe p.wait e
  where
    go : (a b c d : Bool) → not (a || b || c || d) ≡ true → not (a || b || c || false) ≡ true
    go false false false false e = refl
    go false false false true e = absurd (cc)
    go false false true d e = absurd (cc)
    go false true c d e = absurd (cc)
    go true b c d e = absurd (cc)

-- where no RST is wanted and no RRP is owed, settling makes nothing
settled : (quiet : Bool) (p : Phase) → Clear p → phase_settles quiet p ≡ p
settled true p k = ap phase_asks (no-answer p.owe k.1) ∙ no-rst p.want k.0
  where
    no-answer : (b : Bool) → b ≡ false → (if b then record p { down = false; owe = false; waiting = if list_any is_rrp p.waiting then p.waiting else p.waiting ++ Command.Rrp ∷ [] } else p) ≡ p
    no-answer false e = refl
    no-answer true e = absurd (cc)

    no-rst : (b : Bool) → b ≡ false → (if b then record p { down = false; want = false; wait = true; waiting = if list_any is_rst p.waiting then p.waiting else p.waiting ++ Command.Rst ∷ [] } else p) ≡ p
    no-rst false e = refl
    no-rst true e = absurd (cc)
settled false p k = refl

-- By calls.

pair-call : (pair : Pair) (call : PairCall) (p : Peer) (t : EchoHistory) → p.echoes ≡ echoes_noted t → (calls pair call p).echoes ≡ echoes_noted (while_up p.phase (calls pair call p).phase t)
pair-call pair call p t e = passes p (calls_up pair call p) t refl e

-- an echo that was accepted found the host up, a place, and none awaited
pub accepted-echo : (byte : ℕ) (p : Peer) → reply_of_echo byte p ≡ Ok tt → (up p.phase ≡ true) × (is_full p.phase ≡ false) × (p.echoes.awaited ≡ false)
accepted-echo byte p e = go (up p.phase) refl e
  where
    inner : (a b : Bool) → call_accepted (if a then Err Busy else if b then Err QueueFull else Ok (Command.Eco byte)) ≡ Ok tt → (b ≡ false) × (a ≡ false)
    inner true b e = absurd (cc)
    inner false true e = absurd (cc)
    inner false false e = (refl, refl)

    go : (b : Bool) → up p.phase ≡ b → (if b then call_accepted (echo_answer byte (is_full p.phase) p.echoes) else Err NotUp) ≡ Ok tt → (up p.phase ≡ true) × (is_full p.phase ≡ false) × (p.echoes.awaited ≡ false)
    go true f e = let w = inner p.echoes.awaited (is_full p.phase) e in (f, w.0, w.1)
    go false f e = absurd (cc)

echo-call : (byte : ℕ) (p : Peer) (t : EchoHistory) → reply_of_echo byte p ≡ Ok tt → p.echoes ≡ echoes_noted t
    → (calls_echo byte p).echoes ≡ echoes_noted (while_up p.phase (calls_echo byte p).phase (echo_accepted t))
echo-call byte p t r e = go (up p.phase) (accepted-echo byte p r).0
  where
    now : Peer
    now = echo_called byte p

    asked : (b : Bool) → b ≡ false → echo_asked b p.echoes ≡ echoes_noted (echo_accepted t)
    asked true f = absurd (cc)
    asked false f = ap (echo_asked false) e ∙ by t.asked
      where
        by : (a : Bool) → (let x : Echoes = record { awaited = a || true; echoed = t.byte; errors = last_of 16 t.errors } in x) ≡ echoes_noted (echo_accepted t)
        by true = refl
        by false = refl

    go : (b : Bool) → b ≡ true → (if b then now else p).echoes ≡ echoes_noted (if b then (if up (if b then now else p).phase then echo_accepted t else echo_cleared (echo_accepted t)) else echo_accepted t)
    go true f = standing now.phase (echo_asked (is_full p.phase) p.echoes) (echo_accepted t) (asked (is_full p.phase) (accepted-echo byte p r).1)
    go false f = absurd (cc)

reset-call : (quiet : Bool) (p : Peer) (t : EchoHistory) → reset_answer p.phase ≡ Ok tt → p.echoes ≡ echoes_noted t
    → (calls_reset quiet p).echoes ≡ echoes_noted (while_up p.phase (calls_reset quiet p).phase (echo_cleared t))
reset-call quiet p t r e = go (is_resetting p.phase) r
  where
    go : (b : Bool) → (let r : Result (Unit {0}) CallFault = if b then Err Busy else Ok tt in r) ≡ Ok tt
        → (if b then p else cleared (resets quiet p.phase) p).echoes ≡ echoes_noted (while_up p.phase (if b then p else cleared (resets quiet p.phase) p).phase (echo_cleared t))
    go true f = absurd (cc)
    go false f = clears p.phase (resets quiet p.phase) p.echoes t e

same-phase : (p : Peer) (t : EchoHistory) → p.echoes ≡ echoes_noted t → p.echoes ≡ echoes_noted (while_up p.phase p.phase t)
same-phase p t e = e ∙ ap echoes_noted (stays p.phase p.phase t (λ u. u))

called : (asked : Option (ℕ × Asked)) (s : PeerState) (t : EchoHistory) → IsDone asked s → s.peer.echoes ≡ echoes_noted t
    → (state_asked asked s).peer.echoes ≡ echoes_noted (while_up s.peer.phase (state_asked asked s).peer.phase (echo_done asked t))
called None s t d e = same-phase s.peer t e
called (Some (peer, Asks pair call)) s t d e = pair-call pair call s.peer t e
called (Some (peer, Asks_echo byte)) s t d e = echo-call byte s.peer t d e
called (Some (peer, Asks_reset)) s t d e = reset-call (is_quiet s.slots) s.peer t d e
called (Some (peer, Asks_wake)) s t d e = same-phase s.peer t e

-- By commands that come.

pub command-heard : (quiet : Bool) (c : Command) (p : Peer) (t : EchoHistory) → p.echoes ≡ echoes_noted t
    → (hears quiet c p).echoes ≡ echoes_noted (while_up p.phase (hears quiet c p).phase (echo_heard (up p.phase) c t))
command-heard quiet Command.Rst p t e = clears p.phase (hears_rst quiet p.phase) p.echoes t e
command-heard quiet Command.Rrp p t e = e ∙ ap echoes_noted (no-other (up p.phase)) ∙ ap echoes_noted (stays p.phase (hears_rrp p.phase) (if up p.phase then t else t) (rrp-up p.phase))
  where
    no-other : (b : Bool) → t ≡ (if b then t else t)
    no-other true = refl
    no-other false = refl
command-heard quiet (Command.Erp byte) p t e = happens p (hears_other quiet (Command.Erp byte) p) (hear_erp byte p.echoes) t (erp_came byte t) refl (ap (hear_erp byte) e) e
command-heard quiet (Command.Err code bytes) p t e =
    let error : Error = record { code = code; bytes = bytes } in
    happens p (hears_other quiet (Command.Err code bytes) p) (hear_err error p.echoes) t (err_came error t) refl
    (ap (hear_err error) e ∙ ap (λ (xs : List Error). let x : Echoes = record { awaited = t.asked; echoed = t.byte; errors = xs } in x) (last-again error t.errors)) e
command-heard quiet c p t e = happens p (hears_other quiet c p) p.echoes t t refl e e

heard-all : (cs : List Command) (s : PeerState) (t : EchoHistory) → s.peer.echoes ≡ echoes_noted t → (state_hears_all cs s).peer.echoes ≡ echoes_noted (echo_heard_all cs s t)
heard-all [] s t e = e
heard-all (c ∷ cs) s t e =
    heard-all cs (state_hears c s) (while_up s.peer.phase (state_hears c s).peer.phase (echo_heard (up s.peer.phase) c t)) (command-heard (is_quiet s.slots) c s.peer t e)

last-heard : (fault : Option CommandFault) (s : PeerState) (t : EchoHistory) → s.peer.echoes ≡ echoes_noted t → (hears_last fault s).peer.echoes ≡ echoes_noted (while_up s.peer.phase (hears_last fault s).peer.phase t)
last-heard None s t e = same-phase s.peer t e
last-heard (Some fault) s t e = passes s.peer (makes (Command.Err fault.code fault.bytes ∷ []) s.peer) t refl e

-- By messages that come: what the note says became of one tells the case.

-- what is told of a message with this outcome, of the commands of it, at the state after it
abbrev came : List Command → Received → PeerState → PeerState → EchoHistory → EchoHistory
came cs (Received.Control count) s now t = while_up (state_hears_all cs s).peer.phase now.peer.phase (echo_heard_all cs s t)
came cs told s now t = while_up s.peer.phase now.peer.phase t

message-heard : (on : ℕ) (bits : List Bool) (o : Result Message MessageFault) (s : PeerState) (t : EchoHistory) → s.peer.echoes ≡ echoes_noted t
    → (message_after on bits o s).peer.echoes ≡ echoes_noted (came (commands_read o) (message_received on o s) s (message_after on bits o s) t)
message-heard on bits (Err fault) s t e = same-phase s.peer t e
message-heard on bits (Ok m) s t e = go (is_wrong_link on) (on == control_link)
  where
    cs : List Command
    cs = commands_in (bytes_of m.text)

    control : (b : Bool) → (if b then hears_last (fault_in (bytes_of m.text)) (state_hears_all cs s) else record s { counts = record s.counts { wrong_size = one_more s.counts.wrong_size } }).peer.echoes
        ≡ echoes_noted (came cs (if b then Received.Control (length cs) else Received.WrongSize) s (if b then hears_last (fault_in (bytes_of m.text)) (state_hears_all cs s) else record s { counts = record s.counts { wrong_size = one_more s.counts.wrong_size } }) t)
    control true = last-heard (fault_in (bytes_of m.text)) (state_hears_all cs s) (echo_heard_all cs s t) (heard-all cs s t e)
    control false = same-phase s.peer t e

    text : (b : Bool) → came cs (if b then Received.Text (took on m s) else Received.NotUp) s (state_after_text on (take 72 bits) m s) t ≡ while_up s.peer.phase (state_after_text on (take 72 bits) m s).peer.phase t
    text true = refl
    text false = refl

    go : (a b : Bool) → (if a then record s { counts = record s.counts { wrong_link = one_more s.counts.wrong_link } } else if b then state_after_control m s else state_after_text on (take 72 bits) m s).peer.echoes
        ≡ echoes_noted (came cs (if a then Received.WrongLink else if b then (if m.size == control_size then Received.Control (length cs) else Received.WrongSize) else if up s.peer.phase then Received.Text (took on m s) else Received.NotUp) s
        (if a then record s { counts = record s.counts { wrong_link = one_more s.counts.wrong_link } } else if b then state_after_control m s else state_after_text on (take 72 bits) m s) t)
    go true b = same-phase s.peer t e
    go false true = control (m.size == control_size)
    go false false = passes s.peer (takes_text on (take 72 bits) m.size m.text s.peer) t refl e ∙ sym (ap echoes_noted (text (up s.peer.phase)))

-- By answers.

answer-heard : (on : ℕ) (how : Answer) (slots : LinkSlots) (p : Peer) (t : EchoHistory) → p.echoes ≡ echoes_noted t → (after_answer on how slots p).echoes ≡ echoes_noted (while_up p.phase (after_answer on how slots p).phase t)
answer-heard on Rfnm slots p t e = at (on == control_link)
  where
    -- a text was taken
    freed : (b : Bool) → up p.phase ≡ b → (if b then frees_up on p else p).echoes ≡ echoes_noted (if b then (if up (phase_settles (is_quiet slots) (if b then frees_up on p else p).phase) then t else echo_cleared t) else t)
    freed true u =
        let now : Peer = frees_up on p in
        standing now.phase p.echoes t e
        ∙ ap (λ (q : Phase). echoes_noted (if up q then t else echo_cleared t)) (sym (settled (is_quiet slots) now.phase (makes-clear (made_if_any (answer (answered_in on Texts.Rfnm p.ends))) p.phase (up-clear p.phase u))))
    freed false u = e

    at : (b : Bool) → (if b then p else frees on p).echoes ≡ echoes_noted (while_up p.phase (phase_settles (is_quiet slots) (if b then p else frees on p).phase) t)
    at true = e ∙ ap echoes_noted (stays p.phase (phase_settles (is_quiet slots) p.phase) t (λ u. ap up (settled (is_quiet slots) p.phase (up-clear p.phase u)) ∙ u))
    at false = freed (up p.phase) refl
answer-heard on Incomplete slots p t e = same-phase p t e
answer-heard on Dead slots p t e = same-phase p t e

answered-heard : (on : ℕ) (how : Answer) (s : PeerState) (t : EchoHistory) → s.peer.echoes ≡ echoes_noted t → (answer_comes on how s).peer.echoes ≡ echoes_noted (while_up s.peer.phase (answer_comes on how s).peer.phase t)
answered-heard on how s t e = go (is_answered on s)
  where
    go : (b : Bool) → (if b then answer_taken on how s else record s { counts = record s.counts { stray = one_more s.counts.stray } }).peer.echoes
        ≡ echoes_noted (while_up s.peer.phase (if b then answer_taken on how s else record s { counts = record s.counts { stray = one_more s.counts.stray } }).peer.phase t)
    go true = answer-heard on how (with_slot s.slots on (answered how (slot_at s.slots on))) s.peer t e
    go false = same-phase s.peer t e

-- By what goes out.

out-heard : (r : Result Leader Short) (message : List Bool) (s : PeerState) (t : EchoHistory) → s.peer.echoes ≡ echoes_noted t → (out_for r message s).peer.echoes ≡ echoes_noted (while_up s.peer.phase (out_for r message s).peer.phase t)
out-heard (Err short) message s t e = same-phase s.peer t e
out-heard (Ok leader) message s t e = by (slot_at s.slots leader.link)
  where
    made : (b : Bool) → (if b then peer_sends s.peer else cuts leader.link s.peer).echoes ≡ echoes_noted (while_up s.peer.phase (if b then peer_sends s.peer else cuts leader.link s.peer).phase t)
    made true = same-phase s.peer t e
    made false = same-phase s.peer t e

    by : (slot : LinkSlot) → (after_by slot leader.link s.peer).echoes ≡ echoes_noted (while_up s.peer.phase (after_by slot leader.link s.peer).phase t)
    by Empty = made (leader.link == control_link)
    by (Ready m) = same-phase s.peer t e
    by (Travelling m) = same-phase s.peer t e
    by (Held m) = same-phase s.peer t e

-- Note by note.

in-case : (message : List Bool) (told : Received) (s : PeerState) (t : EchoHistory) → echo_by (HostNote.In message told) s t ≡ came (commands_in_message message) told s (bits_for (leader_in message) message s) t
in-case message (Received.Control count) s t = refl
in-case message told s t = refl

in-heard : (r : Result Leader Short) (message : List Bool) (told : Received) (s : PeerState) (t : EchoHistory) → IsIn r message told s → s.peer.echoes ≡ echoes_noted t
    → (bits_for r message s).peer.echoes ≡ echoes_noted (came (commands_in_message message) told s (bits_for r message s) t)
in-heard (Err short) message told s t i e = absurd i
in-heard (Ok leader) message told s t i e =
    message-heard leader.link message (message_in message) s t e
    ∙ ap (λ (x : Received). echoes_noted (came (commands_in_message message) x s (message_after leader.link message (message_in message) s) t)) (sym i)

pub note-heard : (n : ℕ) (note : HostNote) (s : PeerState) (t : EchoHistory) → IsSaidOf n note s → s.peer.echoes ≡ echoes_noted t → (note_for note s).peer.echoes ≡ echoes_noted (echo_by note s t)
note-heard n (HostNote.Done call) s t p e = called (asked_in call) s t p e
note-heard n (HostNote.Took peer pair bytes text) s t p e = pair-call pair (Take bytes) s.peer t e
note-heard n (HostNote.Out message) s t p e = out-heard (leader_in message) message s t e
note-heard n (HostNote.In message told) s t p e = in-heard (leader_in message) message told s t p e ∙ sym (ap echoes_noted (in-case message told s t))
note-heard n (HostNote.Answered peer link how told) s t p e = answered-heard link how s t e
note-heard n other s t p e = same-phase s.peer t e

run-heard : (n : ℕ) (all : List HostNote) (s : PeerState) (t : EchoHistory) → IsRunOf n all s → s.peer.echoes ≡ echoes_noted t → (notes_for all s).peer.echoes ≡ echoes_noted (echo_from all s t)
run-heard n [] s t p e = e
run-heard n (note ∷ rest) s t p e = run-heard n rest (note_for note s) (echo_by note s t) p.1 (note-heard n note s t p.0 e)

pub echoes-noted : (me : ℕ) (ns : List ℕ) (all : List HostNote) (n : ℕ) (s : PeerState) → FromBeginning me ns all → state_of (after_notes all (new_host me ns)) n ≡ Some s → s.peer.echoes ≡ echoes_noted (echo_of (notes_of_peer n all))
echoes-noted me ns all n s from there =
    ap (λ (x : PeerState). x.peer.echoes) (kept_as_noted me ns all n s from there)
    ∙ run-heard n (notes_of_peer n all) new_state no_echo (each_peer me ns all n from (is_a_peer me ns all n s from there)).run refl
