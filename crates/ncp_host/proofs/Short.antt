-- A control message has room for each command that waits, whatever a host lives through: so the first of
-- them goes out with the next one.
use Rattle.std.proofs.Common.{◌≡◌, ◌≤◌, ℕ, ◌+◌, ◌-◌, ◌==◌, Bool, true, false, nat_lt, nat_le, if◌then◌else◌, List, [], ◌∷◌, ◌++◌, length, take, min, replicate, All, Option, None, Some, Result, Ok, Err, refl, ap, ◌∙◌, subst, arith}
use Rattle.std.specs.FinMap.{get}
use Rattle.std.proofs.Math.Nat.{min-le_left}
use Rattle.std.proofs.lemmas.List.{length-take, length-append}
use Rattle.std.proofs.lemmas.List.Elements.{All-nil, All-head, All-drop}
use Rattle.ncp_numbers.specs.Bytes.{bytes_of, bytes_for}
use Rattle.ncp_wire.specs.declared.command.Command.{Command}
use Rattle.ncp_wire.specs.declared.command.Command.TheVariants.{Rst, Rrp}
use Rattle.ncp_wire.specs.declared.command.Command.TheVariants as commands
use Rattle.ncp_wire.specs.declared.fault.CommandFault.{CommandFault}
use Rattle.ncp_wire.specs.Spelling.{spelling, padded, error_of}
use Rattle.ncp_control.specs.Texts.{fault_of}
use Rattle.ncp_control.specs.Reading.{commands_in, fault_in, rest_in}
use Rattle.ncp_control.proofs.Text.{length-bytes_of}
use Rattle.ncp_leader.specs.declared.leader.Leader.{Leader}
use Rattle.ncp_leader.specs.declared.regular.TheConstants.{FRONT_BITS}
use Rattle.ncp_leader.specs.declared.fault.MessageFault.{MessageFault}
use Rattle.ncp_leader.specs.Message.{Message, message_in}
use Rattle.ncp_slot.specs.declared.slot.Slot.TheVariants.{Empty, Ready, Travelling, Held}
use Rattle.ncp_wire.specs.declared.answer.Answer.{Answer}
use Rattle.ncp_wire.specs.declared.answer.Answer.TheVariants.{Rfnm, Incomplete, Dead}
use Rattle.ncp_slot.specs.Slots.{LinkSlot, slot_at, is_quiet}
use Rattle.ncp_model.specs.declared.pair.Pair.{Pair}
use Rattle.ncp_model.specs.declared.call_fault.CallFault.TheVariants.{Busy, QueueFull}
use Rattle.ncp_model.specs.declared.outcomes.Took.{Took}
use Rattle.ncp_model.specs.Endpoint.{Endpoint}
use Rattle.ncp_model.specs.Effect.{answer, made_if_any, made_by_call, made_by_hearing, text_error}
use Rattle.ncp_model.specs.Texts.{made_by_text}
use Rattle.ncp_model.specs.Texts as texts
use Rattle.ncp_model.specs.Ends.{Ends, hear, text_in, end_of, sender_on, receiver_on, answered_at, answered_in}
use Rattle.ncp_model.specs.Echo.{echo_answer}
use Rattle.ncp_model.specs.EndpointEvents.{EndpointEvent, happens}
use Rattle.ncp_model.specs.EndpointEvents as all
use Rattle.ncp_model.specs.Phase.{Phase, Reaction, new_phase, up, goes_down, makes_all, is_resetting}
use Rattle.ncp_model.specs.Phase as phases
use Rattle.ncp_model.specs.Sending.{fitting, next_commands, is_full}
use Rattle.ncp_model.specs.Peers.{Peer, PairCall, Ask_to_send, Ask_to_receive, Close, Give, Take, Allocate, Call_back, Interrupt, called, calls_up, echo_called, hears_other, takes_text, frees_up, reaction, echo_replies}
use Rattle.ncp_model.specs.Peers as peers
use Rattle.ncp_peer.specs.PeerState.{PeerState, control_link, frees_on, is_answered, answer_taken, answer_comes}
use Rattle.ncp_peer.specs.Counting.{one_more}
use Rattle.ncp_peer.specs.Hearing.{state_hears, state_hears_all, hears_last, state_hears_text, control_size, state_after_control, state_after_text, is_wrong_link, message_after, regular, answer_of, after_bits}
use Rattle.ncp_peer.specs.Output.{after_by, after_output}
use Rattle.ncp_phase.specs.Waiting.{IsShort}
use Rattle.ncp_peer.specs.Soundness.{IsFit}
use Rattle.ncp_host.proofs.EachWaiting.{Each, EachWaits, each_of_both}
use Rattle.ncp_host.proofs.EachWaiting as each

abbrev AreShort : List Command → Type 0
AreShort cs = Each IsShort cs

-- ---- they go out

few : (c : Command) → IsShort c → length (spelling c) ≤ 12
few commands.Nop h = omega arith
few (commands.Rts receive send link) h = omega arith
few (commands.Str send receive size) h = omega arith
few (commands.Cls my your) h = omega arith
few (commands.All link messages bits) h = omega arith
few (commands.Gvb link fm fb) h = omega arith
few (commands.Ret link messages bits) h = omega arith
few (commands.Inr link) h = omega arith
few (commands.Ins link) h = omega arith
few (commands.Eco byte) h = omega arith
few (commands.Erp byte) h = omega arith
few (commands.Err code bytes) h = let ten : length bytes ≤ 10 = grind (arith, h) in omega arith
few commands.Rst h = omega arith
few commands.Rrp h = omega arith

fits_one : (n : ℕ) → n ≤ 12 → nat_le n 120 ≡ true
fits_one n l = grind (arith, l)

-- something goes out where something waits
pub some_go : (cs : List Command) → All IsShort cs → nat_lt 0 (length (next_commands cs)) ≡ nat_lt 0 (length cs)
some_go [] k = refl
some_go (c ∷ cs) k =
    ap (λ b. nat_lt 0 (length (if b then c ∷ fitting (120 - length (spelling c)) cs else []))) (fits_one (length (spelling c)) (few c (All-head IsShort c cs k)))
    ∙ both c (fitting (120 - length (spelling c)) cs) cs
  where
    both : (c : Command) (xs ys : List Command) → nat_lt 0 (length (c ∷ xs)) ≡ nat_lt 0 (length (c ∷ ys))
    both c xs ys = grind arith

-- ---- what is made

padded_ten : (bytes : List ℕ) → nat_le (length (padded 10 bytes)) 10 ≡ true
padded_ten bytes =
    let l : length (padded 10 bytes) ≡ min 10 (length (bytes ++ replicate 10 0)) = length-take 10 (bytes ++ replicate 10 0) in
    let m : min 10 (length (bytes ++ replicate 10 0)) ≤ 10 = min-le_left 10 (length (bytes ++ replicate 10 0)) in
    grind (arith, l, m)

error_short : (code : ℕ) (c : Command) → IsShort (error_of code c)
error_short code c = padded_ten (spelling c)

text_error_short : (head text : List Bool) → length head ≤ 72 → IsShort (text_error head text)
text_error_short head text l =
    let bits : List Bool = head ++ take 8 (text ++ replicate 8 false) in
    let eight : length (take 8 (text ++ replicate 8 false)) ≡ min 8 (length (text ++ replicate 8 false)) = length-take 8 (text ++ replicate 8 false) in
    let few : min 8 (length (text ++ replicate 8 false)) ≤ 8 = min-le_left 8 (length (text ++ replicate 8 false)) in
    let joined : length bits ≡ length head + length (take 8 (text ++ replicate 8 false)) = length-append head (take 8 (text ++ replicate 8 false)) in
    let bytes : length (bytes_of bits) ≡ bytes_for (length bits) = length-bytes_of bits in
    let long : length bits ≤ 80 = omega (arith, eight, few, joined, l) in
    let ten : bytes_for (length bits) ≤ 10 = omega (arith, long) in
    grind (arith, bytes, ten)

fault_short : (bytes : List ℕ) (fault : CommandFault) → fault_of bytes ≡ Some fault → IsShort (commands.Err fault.code fault.bytes)
fault_short [] fault e = absurd (cc e)
fault_short (opcode ∷ bytes) fault e = subst (λ (f : CommandFault). IsShort (commands.Err f.code f.bytes)) (same _ fault e) (padded_ten (opcode ∷ bytes))
  where
    same : (f g : CommandFault) → ◌≡◌ {A = Option CommandFault} (Some f) (Some g) → f ≡ g
    same f g e = cc e

-- all but a text that comes
abbrev is_no_text : EndpointEvent → Bool
is_no_text (all.Text_comes head of_size text) = false
is_no_text what = true

made_short : (pair : Pair) (what : EndpointEvent) (before : Option Endpoint) → is_no_text what ≡ true → AreShort (happens pair what before).made
made_short pair (all.Asks_to_send of_size with_room own full) None n = grind arith
made_short pair (all.Asks_to_send of_size with_room own full) (Some e) n = grind arith
made_short pair (all.Asks_to_receive with_room on own full) None n = grind arith
made_short pair (all.Asks_to_receive with_room on own full) (Some e) n = grind arith
made_short pair (all.Closes full) None n = tt
made_short pair (all.Closes full) (Some e) n = grind arith
made_short pair (all.Gives text) None n = tt
made_short pair (all.Gives text) (Some e) n = tt
made_short pair (all.Takes bytes) None n = tt
made_short pair (all.Takes bytes) (Some e) n = grind arith
made_short pair (all.Allocates m b full) None n = tt
made_short pair (all.Allocates m b full) (Some e) n = grind arith
made_short pair (all.Calls_back m b full) None n = tt
made_short pair (all.Calls_back m b full) (Some e) n = grind arith
made_short pair (all.Interrupts full) None n = tt
made_short pair (all.Interrupts full) (Some e) n = grind arith
made_short pair (all.Rts_comes on taken by_peer) None n = let x = error_short 3 (commands.Rts pair.remote pair.local on) in grind (arith, x)
made_short pair (all.Rts_comes on taken by_peer) (Some e) n = let x = error_short 3 (commands.Rts pair.remote pair.local on) in grind (arith, x)
made_short pair (all.Str_comes of_size by_peer) None n = let x = error_short 3 (commands.Str pair.remote pair.local of_size) in grind (arith, x)
made_short pair (all.Str_comes of_size by_peer) (Some e) n = let x = error_short 3 (commands.Str pair.remote pair.local of_size) in grind (arith, x)
made_short pair all.Cls_comes None n = let x = error_short 3 (commands.Cls pair.remote pair.local) in let y = error_short 4 (commands.Cls pair.remote pair.local) in grind (arith, x, y)
made_short pair all.Cls_comes (Some e) n = let x = error_short 3 (commands.Cls pair.remote pair.local) in grind (arith, x)
made_short pair (all.All_comes on m b) None n = (error_short 5 (commands.All on m b), tt)
made_short pair (all.All_comes on m b) (Some e) n = let x = error_short 5 (commands.All on m b) in let y = error_short 3 (commands.All on m b) in grind (arith, x, y)
made_short pair (all.Gvb_comes on m b) None n = (error_short 5 (commands.Gvb on m b), tt)
made_short pair (all.Gvb_comes on m b) (Some e) n = let x = error_short 5 (commands.Gvb on m b) in grind (arith, x)
made_short pair (all.Ret_comes on m b) None n = (error_short 5 (commands.Ret on m b), tt)
made_short pair (all.Ret_comes on m b) (Some e) n = let x = error_short 5 (commands.Ret on m b) in let y = error_short 3 (commands.Ret on m b) in grind (arith, x, y)
made_short pair (all.Inr_comes on) None n = (error_short 5 (commands.Inr on), tt)
made_short pair (all.Inr_comes on) (Some e) n = let x = error_short 5 (commands.Inr on) in grind (arith, x)
made_short pair (all.Ins_comes on) None n = (error_short 5 (commands.Ins on), tt)
made_short pair (all.Ins_comes on) (Some e) n = let x = error_short 5 (commands.Ins on) in grind (arith, x)
made_short pair (all.Text_comes head of_size text) before n = absurd (cc n)
made_short pair all.Text_goes_out before n = tt
made_short pair (all.Is_answered Rfnm) None n = tt
made_short pair (all.Is_answered Rfnm) (Some e) n = grind arith
made_short pair (all.Is_answered Incomplete) before n = tt
made_short pair (all.Is_answered Dead) before n = tt
made_short pair all.Is_cleared before n = tt

-- for a text that comes at most one ERR
took_short : (head text : List Bool) (took : Took) → length head ≤ 72 → AreShort (made_by_text head text took)
took_short head text took l = go took
  where
    x : IsShort (text_error head text)
    x = text_error_short head text l

    go : (took : Took) → AreShort (made_by_text head text took)
    go Took.Admitted = tt
    go Took.Late = tt
    go Took.WrongSize = tt
    go Took.Over = tt
    go Took.NotOpen = (x, tt)

-- ---- the calls of a user

abbrev pub FitPeer : Peer → Type 0
FitPeer p = EachWaits IsShort p.phase

if_fit : (b : Bool) (p q : Peer) → FitPeer p → FitPeer q → FitPeer (if b then p else q)
if_fit true p q k l = k
if_fit false p q k l = l

makes_fit : (cs : List Command) (q : Phase) → AreShort cs → EachWaits IsShort q → EachWaits IsShort (makes_all cs q)
makes_fit cs q f k = each.all_made IsShort refl refl cs q f k

no_text : (call : PairCall) (full : Bool) (m : Ends) → is_no_text (called call full m) ≡ true
no_text (Ask_to_send of_size with_room) full m = refl
no_text (Ask_to_receive with_room) full m = refl
no_text Close full m = refl
no_text (Give text) full m = refl
no_text (Take bytes) full m = refl
no_text (Allocate x y) full m = refl
no_text (Call_back x y) full m = refl
no_text Interrupt full m = refl

pub fit-calls : (pair : Pair) (call : PairCall) (p : Peer) → FitPeer p → FitPeer (peers.calls pair call p)
fit-calls pair call p k =
    if_fit (up p.phase) (calls_up pair call p) p
    (makes_fit (peers.happened_at pair call p).made p.phase (made_short pair (called call (is_full p.phase) p.ends) (get p.ends pair) (no_text call (is_full p.phase) p.ends)) k)
    k

pub fit-echo : (byte : ℕ) (p : Peer) → FitPeer p → FitPeer (peers.calls_echo byte p)
fit-echo byte p k = if_fit (up p.phase) (echo_called byte p) p (makes_fit (made_by_call (echo_answer byte (is_full p.phase) p.echoes)) p.phase (go p.echoes.awaited (is_full p.phase)) k) k
  where
    go : (a b : Bool) → AreShort (made_by_call (if a then Err Busy else if b then Err QueueFull else Ok (commands.Eco byte)))
    go true b = tt
    go false true = tt
    go false false = (refl, tt)

pub fit-reset : (quiet : Bool) (p : Peer) → FitPeer p → FitPeer (peers.calls_reset quiet p)
fit-reset quiet p k = if_fit (is_resetting p.phase) p (peers.cleared (phases.resets quiet p.phase) p) k (each.reset IsShort refl refl quiet p.phase k)

-- ---- what comes

-- a command that names a link says the same at each pair
abbrev some_pair : Pair
some_pair = record { local = 0; remote = 0 }

heard_short : (c : Command) (m : Ends) → AreShort (made_by_hearing (answer (hear c m)))
heard_short (commands.Rts receive send on) m = made_short (record { local = send; remote = receive }) (all.Rts_comes on _ _) (get m (record { local = send; remote = receive })) refl
heard_short (commands.Str send receive of_size) m = made_short (record { local = receive; remote = send }) (all.Str_comes of_size _) (get m (record { local = receive; remote = send })) refl
heard_short (commands.Cls my your) m = made_short (record { local = your; remote = my }) all.Cls_comes (get m (record { local = your; remote = my })) refl
heard_short (commands.All on x y) m = made_short some_pair (all.All_comes on x y) (end_of (sender_on on m)) refl
heard_short (commands.Gvb on x y) m = made_short some_pair (all.Gvb_comes on x y) (end_of (sender_on on m)) refl
heard_short (commands.Ret on x y) m = made_short some_pair (all.Ret_comes on x y) (end_of (receiver_on on m)) refl
heard_short (commands.Inr on) m = made_short some_pair (all.Inr_comes on) (end_of (sender_on on m)) refl
heard_short (commands.Ins on) m = made_short some_pair (all.Ins_comes on) (end_of (receiver_on on m)) refl
heard_short c m = tt

echoed_short : (c : Command) → AreShort (echo_replies c)
echoed_short (commands.Eco byte) = (refl, tt)
echoed_short c = tt

phase_heard : (c : Command) (r : Reaction) (q : Phase) → AreShort r.replies → EachWaits IsShort q → EachWaits IsShort (phases.phase_hears c r q)
phase_heard Rst r q f k = each.rst_heard IsShort refl refl r.quiet q k
phase_heard Rrp r q f k = k
phase_heard c r q f k = go (up q) r.full
  where
    go : (b d : Bool) → EachWaits IsShort (if b then (if d then goes_down q else makes_all r.replies q) else q)
    go true true = each.down IsShort refl refl q k
    go true false = each.all_made IsShort refl refl r.replies q f k
    go false d = k

other_fit : (quiet : Bool) (c : Command) (p : Peer) → FitPeer p → FitPeer (if up p.phase then hears_other quiet c p else p)
other_fit quiet c p k = if_fit (up p.phase) (hears_other quiet c p) p (phase_heard c (reaction quiet c p) p.phase replies k) k
  where
    replies : AreShort (reaction quiet c p).replies
    replies = each_of_both IsShort (made_by_hearing (answer (hear c p.ends))) (echo_replies c) (heard_short c p.ends) (echoed_short c)

hears_fit : (quiet : Bool) (c : Command) (p : Peer) → FitPeer p → FitPeer (peers.hears quiet c p)
hears_fit quiet Rst p k = each.rst_heard IsShort refl refl quiet p.phase k
hears_fit quiet Rrp p k = k
hears_fit quiet c p k = other_fit quiet c p k

all_fit : (cs : List Command) (s : PeerState) → IsFit s → IsFit (state_hears_all cs s)
all_fit [] s k = k
all_fit (c ∷ cs) s k = all_fit cs (state_hears c s) (hears_fit (is_quiet s.slots) c s.peer k)

last_fit : (fault : Option CommandFault) (s : PeerState) → ((f : CommandFault) → fault ≡ Some f → IsShort (commands.Err f.code f.bytes)) → IsFit s → IsFit (hears_last fault s)
last_fit None s f k = k
last_fit (Some fault) s f k = if_fit (up s.peer.phase) (peers.makes (commands.Err fault.code fault.bytes ∷ []) s.peer) s.peer (makes_fit (commands.Err fault.code fault.bytes ∷ []) s.peer.phase (f fault refl, tt) k) k

control_fit : (m : Message) (s : PeerState) → IsFit s → IsFit (state_after_control m s)
control_fit m s k = go (m.size == control_size)
  where
    bytes : List ℕ
    bytes = bytes_of m.text

    go : (b : Bool) → IsFit (if b then state_hears_text (commands_in bytes) (fault_in bytes) s else record s { counts = record s.counts { wrong_size = one_more s.counts.wrong_size } })
    go true = last_fit (fault_in bytes) (state_hears_all (commands_in bytes) s) (λ f e. fault_short (rest_in bytes) f e) (all_fit (commands_in bytes) s k)
    go false = k

text_fit : (on : ℕ) (bits : List Bool) (m : Message) (s : PeerState) → IsFit s → IsFit (state_after_text on (take FRONT_BITS bits) m s)
text_fit on bits m s k = if_fit (up s.peer.phase) (takes_text on head m.size m.text s.peer) s.peer (makes_fit (made_by_text head m.text took) s.peer.phase (took_short head m.text took front) k) k
  where
    head : List Bool
    head = take FRONT_BITS bits

    took : Took
    took = answer (text_in on m.size m.text s.peer.ends)

    front : length head ≤ 72
    front = let l : length (take 72 bits) ≡ min 72 (length bits) = length-take 72 bits in let m = min-le_left 72 (length bits) in omega (arith, l, m)

message_fit : (on : ℕ) (bits : List Bool) (m : Result Message MessageFault) (s : PeerState) → IsFit s → IsFit (message_after on bits m s)
message_fit on bits (Err fault) s k = k
message_fit on bits (Ok m) s k = go (is_wrong_link on) (on == control_link)
  where
    go : (b c : Bool) → IsFit (if b then record s { counts = record s.counts { wrong_link = one_more s.counts.wrong_link } } else if c then state_after_control m s else state_after_text on (take FRONT_BITS bits) m s)
    go true c = k
    go false true = control_fit m s k
    go false false = text_fit on bits m s k

freed_fit : (on : ℕ) (p : Peer) → FitPeer p → FitPeer (frees_on on p)
freed_fit on p k = if_fit (on == control_link) p (peers.frees on p) k (if_fit (up p.phase) (frees_up on p) p (makes_fit (made_if_any (answer (answered_in on texts.Rfnm p.ends))) p.phase (freed_short (sender_on on p.ends)) k) k)
  where
    freed_short : (o : Option (Pair × Endpoint)) → AreShort (made_if_any (answer (answered_at texts.Rfnm o)))
    freed_short None = tt
    freed_short (Some q) = made_short q.0 (all.Is_answered texts.Rfnm) (Some q.1) refl

taken_fit : (on : ℕ) (how : Answer) (s : PeerState) → IsFit s → IsFit (answer_taken on how s)
taken_fit on Rfnm s k = each.settled IsShort refl refl _ (frees_on on s.peer).phase (freed_fit on s.peer k)
taken_fit on Incomplete s k = k
taken_fit on Dead s k = k

answer_fit : (on : ℕ) (how : Answer) (s : PeerState) → IsFit s → IsFit (answer_comes on how s)
answer_fit on how s k = go (is_answered on s)
  where
    go : (b : Bool) → IsFit (if b then answer_taken on how s else record s { counts = record s.counts { stray = one_more s.counts.stray } })
    go true = taken_fit on how s k
    go false = k

pub fit-bits : (leader : Leader) (bits : List Bool) (s : PeerState) → IsFit s → IsFit (after_bits leader bits s)
fit-bits leader bits s k = go (leader.kind == regular)
  where
    go : (b : Bool) → IsFit (if b then message_after leader.link bits (message_in bits) s else answer_comes leader.link (answer_of leader.kind) s)
    go true = message_fit leader.link bits (message_in bits) s k
    go false = answer_fit leader.link (answer_of leader.kind) s k

-- ---- what goes out

pub fit-output : (on : ℕ) (message : List Bool) (s : PeerState) → IsFit s → IsFit (after_output on message s)
fit-output on message s k = go (slot_at s.slots on)
  where
    made : (b : Bool) → FitPeer (if b then peers.peer_sends s.peer else peers.cuts on s.peer)
    made true = All-drop IsShort (length (next_commands s.peer.phase.waiting)) s.peer.phase.waiting k
    made false = k

    go : (slot : LinkSlot) → FitPeer (after_by slot on s.peer)
    go Empty = made (on == control_link)
    go (Ready m) = k
    go (Travelling m) = k
    go (Held m) = k

pub fit-new : EachWaits IsShort new_phase
fit-new = All-nil IsShort
