-- What a host has counted of a peer is what the notes say, note by note.
use Rattle.std.proofs.Common.{◌≡◌, ℕ, ◌+◌, ◌-◌, ◌==◌, min, nat_lt, nat_le, is_none, Bool, true, false, not, ◌&&◌, ◌||◌, if◌then◌else◌, List, [], ◌∷◌, length, take, Option, None, Some, Result, Ok, Err, refl, sym, ap, ◌∙◌, arith}
use Rattle.ncp_numbers.specs.Bytes.{bytes_of}
use Rattle.ncp_leader.specs.declared.leader.Leader.{Leader}
use Rattle.ncp_leader.specs.declared.leader.Short.{Short}
use Rattle.ncp_leader.specs.declared.fault.MessageFault.{MessageFault}
use Rattle.ncp_leader.specs.Leader.{leader_in}
use Rattle.ncp_leader.specs.Message.{Message, message_in}
use Rattle.ncp_wire.specs.declared.command.Command.{Command}
use Rattle.ncp_wire.specs.declared.fault.CommandFault.{CommandFault}
use Rattle.ncp_control.specs.Reading.{commands_in, fault_in}
use Rattle.ncp_wire.specs.declared.answer.Answer.{Answer}
use Rattle.ncp_model.specs.declared.pair.Pair.{Pair}
use Rattle.ncp_model.specs.declared.outcomes.Heard.{Heard}
use Rattle.ncp_model.specs.declared.outcomes.Heard.TheVariants.{Nothing, Reply, Late, Full}
use Rattle.ncp_model.specs.declared.outcomes.Took.{Took}
use Rattle.ncp_model.specs.declared.limits.TheConstants.{MAX_COUNT, MAX_BY_PEER, MAX_MESSAGES, MAX_AMOUNT}
use Rattle.ncp_model.specs.Pairs.{sends, receives, is_proper}
use Rattle.ncp_model.specs.Endpoint.{Endpoint, or_new}
use Rattle.std.specs.FinMap.{get}
use Rattle.ncp_slot.specs.Slots.{is_quiet}
use Rattle.ncp_model.specs.Effect.{Effect, Stays, Becomes, answer, leaves, closing, wrong_parameters, not_connected}
use Rattle.ncp_model.specs.Ends.{Ends, any, count, is_by_peer, hears_link, end_of, sender_on, receiver_on, hear}
use Rattle.ncp_model.specs.Commands.{errs, wrong_rts, wrong_str, heard_link, heard_size, hear_cls_at, at_open, all_at, gvb_at, ret_at, interrupted}
use Rattle.ncp_model.specs.Echo.{Echoes}
use Rattle.ncp_model.specs.Phase.{up}
use Rattle.ncp_model.specs.Peers.{Peer}
use Rattle.ncp_peer.specs.declared.counts.Counts.{Counts}
use Rattle.ncp_peer.specs.declared.received.Received.{Received}
use Rattle.ncp_peer.specs.Counting.{one_more, one_more_if, no_counts, is_late, counts_while_up, counts_after, counts_after_fault, counts_of_text}
use Rattle.ncp_peer.specs.PeerState.{PeerState, new_state, control_link, is_answered, answer_taken, answer_comes}
use Rattle.ncp_peer.specs.Hearing.{control_size, state_after_control, state_after_text, is_wrong_link, took, state_hears, state_hears_all, hears_last, message_after, message_received, answer_received}
use Rattle.ncp_host.specs.Host.{state_of, new_host}
use Rattle.ncp_transcript.specs.Asked.{asked_in, Asked, Asks, Asks_echo, Asks_reset, Asks_wake}
use Rattle.ncp_transcript.specs.declared.note.HostNote.{HostNote}
use Rattle.ncp_transcript.specs.After.{after_notes}
use Rattle.ncp_proof_runs.specs.Peers.{FromBeginning, notes_of_peer, state_asked, bits_for, out_for, note_for, notes_for}
use Rattle.ncp_proof_runs.specs.Echoing.{EchoHistory, no_echo, while_up, echo_heard, commands_read, commands_in_message, echo_by, echoes_noted}
use Rattle.ncp_proof_runs.specs.Counted.{one_if, counted_as, end_named, is_late_end, counted_up, counted_heard, counted_heard_all, fault_read, counted_fault, counted_by, counted_from, counted_so_far, counts_capped}
use Rattle.ncp_proof_runs.proofs.Said.{IsIn, IsSaidOf, IsRunOf}
use Rattle.ncp_proof_runs.proofs.EachPeer.{each_peer}
use Rattle.ncp_proof_runs.proofs.InRuns.{is_a_peer, kept_as_noted}
use Rattle.ncp_proof_runs.proofs.EchoTold.{command-heard, note-heard}

-- One more, where it can rise no further.

risen : (n : ℕ) → min (min n MAX_COUNT + 1) MAX_COUNT ≡ min (n + 1) MAX_COUNT
risen n = grind arith

one-told : (b : Bool) (n : ℕ) → one_more_if b (min n MAX_COUNT) ≡ min (one_if b n) MAX_COUNT
one-told true n = risen n
one-told false n = refl

-- What is late.

at_open-late : (c : Command) (act : Endpoint → Effect Heard) (o : Option (Pair × Endpoint)) → ((e : Endpoint) → is_late (answer (act e)) ≡ false) → is_late (answer (at_open c act (end_of o))) ≡ is_late_end o
at_open-late c act None h = refl
at_open-late c act (Some p) h = go p.1.leaving p.1.left p.1.opened
  where
    go : (a b d : Bool) → is_late (answer (if a || b then Stays Late else if not d then errs not_connected c else act p.1)) ≡ (a || b)
    go true b d = refl
    go false true d = refl
    go false false true = h p.1
    go false false false = refl

cls-late : (pair : Pair) (o : Option Endpoint) → is_late (answer (hear_cls_at pair o)) ≡ false
cls-late pair None = refl
cls-late pair (Some e) = go e.cls (e.left || e.leaving) (sends pair && e.busy) (receives pair && nat_lt 0 (length e.stored))
  where
    go : (a b c d : Bool)
        → is_late (answer (if a then errs wrong_parameters (Command.Cls pair.remote pair.local) else if b then Becomes (record e { cls = true }) Nothing else if c then Becomes (record e { cls = true; leaving = true; stored = [] }) Nothing else if d then Becomes (record e { cls = true; leaving = true }) Nothing else Becomes (leaves (record e { cls = true })) (Reply (closing pair)))) ≡ false
    go true b c d = refl
    go false true c d = refl
    go false false true d = refl
    go false false false true = refl
    go false false false false = refl

-- of two tests the first that holds
either-late : (a b : Bool) (x y z : Effect Heard) → is_late (answer x) ≡ false → is_late (answer y) ≡ false → is_late (answer z) ≡ false → is_late (answer (if a then x else if b then y else z)) ≡ false
either-late true b x y z e f g = e
either-late false true x y z e f g = f
either-late false false x y z e f g = g

one-late : (a : Bool) (x y : Effect Heard) → is_late (answer x) ≡ false → is_late (answer y) ≡ false → is_late (answer (if a then x else y)) ≡ false
one-late true x y e f = e
one-late false x y e f = f

named-late : (c : Command) (m : Ends) → is_late (answer (hear c m)) ≡ is_late_end (end_named c m)
named-late (Command.All on messages bits) m =
    at_open-late (Command.All on messages bits) (all_at on messages bits) (sender_on on m)
    (λ e. one-late (nat_lt MAX_MESSAGES (e.messages + messages) || nat_lt MAX_AMOUNT (e.bits + bits)) (errs wrong_parameters (Command.All on messages bits)) (Becomes (record e { messages = e.messages + messages; bits = e.bits + bits }) Nothing) refl refl)
named-late (Command.Gvb on fm fb) m = at_open-late (Command.Gvb on fm fb) (gvb_at on fm fb) (sender_on on m) (λ e. refl)
named-late (Command.Ret on messages bits) m =
    at_open-late (Command.Ret on messages bits) (ret_at on messages bits) (receiver_on on m)
    (λ e. one-late (nat_lt e.messages messages || nat_lt e.bits bits) (errs wrong_parameters (Command.Ret on messages bits)) (Becomes (record e { messages = e.messages - messages; bits = e.bits - bits; recall = false }) Nothing) refl refl)
named-late (Command.Inr on) m = at_open-late (Command.Inr on) interrupted (sender_on on m) (λ e. refl)
named-late (Command.Ins on) m = at_open-late (Command.Ins on) interrupted (receiver_on on m) (λ e. refl)
named-late (Command.Rts receive send on) m =
    let pair : Pair = record { local = send; remote = receive } in
    let before : Option Endpoint = get m pair in
    either-late (wrong_rts pair on (any (hears_link on) m) before) (is_none before && nat_le MAX_BY_PEER (count is_by_peer m)) (errs wrong_parameters (Command.Rts receive send on)) (Stays Full) (Becomes (heard_link on (or_new before)) Nothing) refl refl refl
named-late (Command.Str send receive of_size) m =
    let pair : Pair = record { local = receive; remote = send } in
    let before : Option Endpoint = get m pair in
    either-late (wrong_str pair of_size before) (is_none before && nat_le MAX_BY_PEER (count is_by_peer m)) (errs wrong_parameters (Command.Str send receive of_size)) (Stays Full) (Becomes (heard_size of_size (or_new before)) Nothing) refl refl refl
named-late (Command.Cls my your) m =
    let pair : Pair = record { local = your; remote = my } in
    one-late (not (is_proper pair)) (errs wrong_parameters (Command.Cls my your)) (hear_cls_at pair (get m pair)) refl (cls-late pair (get m pair))
named-late c m = refl

-- A command that comes.

module _ (p : Peer) (t : EchoHistory) (n : Counts) (e : p.echoes ≡ echoes_noted t) where
  stray-told : counts_while_up (Command.Erp 0) p (counts_capped n) ≡ counts_capped (counted_up (Command.Erp 0) p t n)
  stray-told =
      ap (λ (x : Echoes). let k : Counts = record (counts_capped n) { stray = one_more_if (not x.awaited) (min n.stray MAX_COUNT) } in k) e
      ∙ ap (λ (j : ℕ). let k : Counts = record (counts_capped n) { stray = j } in k) (one-told (not t.asked) n.stray)

  late-told : (c : Command) → (let k : Counts = record (counts_capped n) { late = one_more_if (is_late (answer (hear c p.ends))) (min n.late MAX_COUNT) } in k) ≡ (let k : Counts = record (counts_capped n) { late = min (one_if (is_late_end (end_named c p.ends)) n.late) MAX_COUNT } in k)
  late-told c =
      ap (λ (b : Bool). let k : Counts = record (counts_capped n) { late = one_more_if b (min n.late MAX_COUNT) } in k) (named-late c p.ends)
      ∙ ap (λ (j : ℕ). let k : Counts = record (counts_capped n) { late = j } in k) (one-told (is_late_end (end_named c p.ends)) n.late)

  dropped : (x y : Counts) → x ≡ counts_capped y → (if up p.phase then x else record (counts_capped n) { not_up = one_more (min n.not_up MAX_COUNT) }) ≡ counts_capped (if up p.phase then y else record n { not_up = n.not_up + 1 })
  dropped x y f = go (up p.phase)
    where
      go : (b : Bool) → (if b then x else record (counts_capped n) { not_up = one_more (min n.not_up MAX_COUNT) }) ≡ counts_capped (if b then y else record n { not_up = n.not_up + 1 })
      go true = f
      go false = ap (λ (j : ℕ). let k : Counts = record (counts_capped n) { not_up = j } in k) (risen n.not_up)

  command-counted : (c : Command) → counts_after c p (counts_capped n) ≡ counts_capped (counted_heard c p t n)
  command-counted Command.Rst = refl
  command-counted Command.Rrp = ap (λ (j : ℕ). let k : Counts = record (counts_capped n) { stray = j } in k) (one-told (not p.phase.wait) n.stray)
  command-counted (Command.Erp byte) = dropped (counts_while_up (Command.Erp byte) p (counts_capped n)) (counted_up (Command.Erp byte) p t n) stray-told
  command-counted c = dropped (counts_while_up c p (counts_capped n)) (counted_up c p t n) (late-told c)

all-counted : (cs : List Command) (s : PeerState) (t : EchoHistory) (n : Counts) → s.peer.echoes ≡ echoes_noted t → s.counts ≡ counts_capped n → (state_hears_all cs s).counts ≡ counts_capped (counted_heard_all cs s t n)
all-counted [] s t n e f = f
all-counted (c ∷ cs) s t n e f =
    all-counted cs (state_hears c s) (while_up s.peer.phase (state_hears c s).peer.phase (echo_heard (up s.peer.phase) c t)) (counted_heard c s.peer t n)
    (command-heard (is_quiet s.slots) c s.peer t e)
    (ap (counts_after c s.peer) f ∙ command-counted s.peer t n e c)

fault-counted : (fault : Option CommandFault) (s : PeerState) (n : Counts) → s.counts ≡ counts_capped n → (hears_last fault s).counts ≡ counts_capped (counted_fault fault s.peer n)
fault-counted None s n f = f
fault-counted (Some fault) s n f = ap (counts_after_fault s.peer) f ∙ ap (λ (j : ℕ). let k : Counts = record (counts_capped n) { not_up = j } in k) (flipped (up s.peer.phase))
  where
    flipped : (b : Bool) → one_more_if (if b then false else true) (min n.not_up MAX_COUNT) ≡ min (one_if (not b) n.not_up) MAX_COUNT
    flipped true = refl
    flipped false = risen n.not_up

-- A text, by what became of it.

text-counted : (k : Took) (n : Counts) → counts_of_text k (counts_capped n) ≡ counts_capped (counted_as (Received.Text k) n)
text-counted Took.Admitted n = refl
text-counted Took.Late n = ap (λ (j : ℕ). let k : Counts = record (counts_capped n) { late = j } in k) (risen n.late)
text-counted Took.WrongSize n = ap (λ (j : ℕ). let k : Counts = record (counts_capped n) { wrong_size = j } in k) (risen n.wrong_size)
text-counted Took.Over n = ap (λ (j : ℕ). let k : Counts = record (counts_capped n) { over = j } in k) (risen n.over)
text-counted Took.NotOpen n = refl

-- A message, by what the note says became of it.

abbrev came : Option CommandFault → List Command → Received → PeerState → EchoHistory → Counts → Counts
came fault cs (Received.Control count) s t n = counted_fault fault (state_hears_all cs s).peer (counted_heard_all cs s t n)
came fault cs told s t n = counted_as told n

message-counted : (on : ℕ) (bits : List Bool) (o : Result Message MessageFault) (s : PeerState) (t : EchoHistory) (n : Counts) → s.peer.echoes ≡ echoes_noted t → s.counts ≡ counts_capped n
    → (message_after on bits o s).counts ≡ counts_capped (came (fault_read o) (commands_read o) (message_received on o s) s t n)
message-counted on bits (Err fault) s t n e f =
    ap (λ (x : Counts). let k : Counts = record x { faults = one_more x.faults } in k) f ∙ ap (λ (j : ℕ). let k : Counts = record (counts_capped n) { faults = j } in k) (risen n.faults)
message-counted on bits (Ok m) s t n e f = go (is_wrong_link on) (on == control_link)
  where
    cs : List Command
    cs = commands_in (bytes_of m.text)

    fault : Option CommandFault
    fault = fault_in (bytes_of m.text)

    control : (b : Bool) → (if b then hears_last fault (state_hears_all cs s) else record s { counts = record s.counts { wrong_size = one_more s.counts.wrong_size } }).counts
        ≡ counts_capped (came fault cs (if b then Received.Control (length cs) else Received.WrongSize) s t n)
    control true = fault-counted fault (state_hears_all cs s) (counted_heard_all cs s t n) (all-counted cs s t n e f)
    control false = ap (λ (x : Counts). let k : Counts = record x { wrong_size = one_more x.wrong_size } in k) f ∙ ap (λ (j : ℕ). let k : Counts = record (counts_capped n) { wrong_size = j } in k) (risen n.wrong_size)

    text : (b : Bool) → (if b then counts_of_text (took on m s) s.counts else record s.counts { not_up = one_more s.counts.not_up })
        ≡ counts_capped (came fault cs (if b then Received.Text (took on m s) else Received.NotUp) s t n)
    text true = ap (counts_of_text (took on m s)) f ∙ text-counted (took on m s) n
    text false = ap (λ (x : Counts). let k : Counts = record x { not_up = one_more x.not_up } in k) f ∙ ap (λ (j : ℕ). let k : Counts = record (counts_capped n) { not_up = j } in k) (risen n.not_up)

    go : (a b : Bool) → (if a then record s { counts = record s.counts { wrong_link = one_more s.counts.wrong_link } } else if b then state_after_control m s else state_after_text on (take 72 bits) m s).counts
        ≡ counts_capped (came fault cs (if a then Received.WrongLink else if b then (if m.size == control_size then Received.Control (length cs) else Received.WrongSize) else if up s.peer.phase then Received.Text (took on m s) else Received.NotUp) s t n)
    go true b = ap (λ (x : Counts). let k : Counts = record x { wrong_link = one_more x.wrong_link } in k) f ∙ ap (λ (j : ℕ). let k : Counts = record (counts_capped n) { wrong_link = j } in k) (risen n.wrong_link)
    go false true = control (m.size == control_size)
    go false false = text (up s.peer.phase)

in-case : (message : List Bool) (told : Received) (s : PeerState) (t : EchoHistory) (n : Counts) → counted_by (HostNote.In message told) s t n ≡ came (fault_read (message_in message)) (commands_in_message message) told s t n
in-case message (Received.Control count) s t n = refl
in-case message told s t n = refl

in-counted : (r : Result Leader Short) (message : List Bool) (told : Received) (s : PeerState) (t : EchoHistory) (n : Counts) → IsIn r message told s → s.peer.echoes ≡ echoes_noted t → s.counts ≡ counts_capped n
    → (bits_for r message s).counts ≡ counts_capped (came (fault_read (message_in message)) (commands_in_message message) told s t n)
in-counted (Err short) message told s t n i e f = absurd i
in-counted (Ok leader) message told s t n i e f =
    message-counted leader.link message (message_in message) s t n e f
    ∙ ap (λ (x : Received). counts_capped (came (fault_read (message_in message)) (commands_in_message message) x s t n)) (sym i)

-- An answer, by what the note says of it.

answered-counted : (on : ℕ) (how : Answer) (told : Received) (s : PeerState) (n : Counts) → told ≡ answer_received on s → s.counts ≡ counts_capped n → (answer_comes on how s).counts ≡ counts_capped (counted_as told n)
answered-counted on how told s n i f = go (is_answered on s) ∙ ap (λ (x : Received). counts_capped (counted_as x n)) (sym i)
  where
    go : (b : Bool) → (if b then answer_taken on how s else record s { counts = record s.counts { stray = one_more s.counts.stray } }).counts ≡ counts_capped (counted_as (if b then Received.Answered else Received.Stray) n)
    go true = f
    go false = ap (λ (x : Counts). let k : Counts = record x { stray = one_more x.stray } in k) f ∙ ap (λ (j : ℕ). let k : Counts = record (counts_capped n) { stray = j } in k) (risen n.stray)

-- Note by note.

called-counts : (asked : Option (ℕ × Asked)) (s : PeerState) → (state_asked asked s).counts ≡ s.counts
called-counts None s = refl
called-counts (Some (peer, Asks pair call)) s = refl
called-counts (Some (peer, Asks_echo byte)) s = refl
called-counts (Some (peer, Asks_reset)) s = refl
called-counts (Some (peer, Asks_wake)) s = refl

out-counts : (r : Result Leader Short) (message : List Bool) (s : PeerState) → (out_for r message s).counts ≡ s.counts
out-counts (Err short) message s = refl
out-counts (Ok leader) message s = refl

note-counted : (k : ℕ) (note : HostNote) (s : PeerState) (t : EchoHistory) (n : Counts) → IsSaidOf k note s → s.peer.echoes ≡ echoes_noted t → s.counts ≡ counts_capped n → (note_for note s).counts ≡ counts_capped (counted_by note s t n)
note-counted k (HostNote.Done call) s t n p e f = called-counts (asked_in call) s ∙ f
note-counted k (HostNote.Out message) s t n p e f = out-counts (leader_in message) message s ∙ f
note-counted k (HostNote.In message told) s t n p e f = in-counted (leader_in message) message told s t n p e f ∙ sym (ap counts_capped (in-case message told s t n))
note-counted k (HostNote.Answered peer link how told) s t n p e f = answered-counted link how told s n p f
note-counted k other s t n p e f = f

run-counted : (k : ℕ) (all : List HostNote) (s : PeerState) (t : EchoHistory) (n : Counts) → IsRunOf k all s → s.peer.echoes ≡ echoes_noted t → s.counts ≡ counts_capped n → (notes_for all s).counts ≡ counts_capped (counted_from all s t n)
run-counted k [] s t n p e f = f
run-counted k (note ∷ rest) s t n p e f = run-counted k rest (note_for note s) (echo_by note s t) (counted_by note s t n) p.1 (note-heard k note s t p.0 e) (note-counted k note s t n p.0 e f)

pub counts-noted : (me : ℕ) (ns : List ℕ) (all : List HostNote) (n : ℕ) (s : PeerState) → FromBeginning me ns all → state_of (after_notes all (new_host me ns)) n ≡ Some s → s.counts ≡ counts_capped (counted_so_far (notes_of_peer n all))
counts-noted me ns all n s from there =
    ap (λ (x : PeerState). x.counts) (kept_as_noted me ns all n s from there)
    ∙ run-counted n (notes_of_peer n all) new_state no_echo no_counts (each_peer me ns all n from (is_a_peer me ns all n s from there)).run refl refl
