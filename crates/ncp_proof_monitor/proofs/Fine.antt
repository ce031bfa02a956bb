-- After any event, the commands queued at a host can be encoded, and its ends satisfy the invariant.
use Rattle.std.proofs.Common.{◌≡◌, ◌<◌, ℕ, ◌==◌, ◌^◌, suc, Bool, true, false, not, nat_lt, if◌then◌else◌, List, [], ◌∷◌, length, take, All, Option, None, Some, Result, Ok, Err, refl, length-take-le, ltb-false, arith}
use Rattle.std.specs.FinMap.{get}
use Rattle.ncp_numbers.specs.Bytes.{bytes_of}
use Rattle.ncp_leader.specs.declared.leader.Leader.{Leader}
use Rattle.ncp_leader.specs.declared.leader.Short.{Short}
use Rattle.ncp_leader.specs.declared.fault.MessageFault.{MessageFault}
use Rattle.ncp_leader.specs.declared.regular.TheConstants.{FRONT_BITS}
use Rattle.ncp_leader.specs.Leader.{leader_in, number_at}
use Rattle.ncp_leader.specs.Message.{Message, message_in, message_at, size_at, text_end}
use Rattle.ncp_wire.specs.declared.command.Command.{Command}
use Rattle.ncp_wire.specs.declared.command.Command.TheVariants.{Rst, Rrp}
use Rattle.ncp_wire.specs.declared.fault.CommandFault.{CommandFault}
use Rattle.ncp_wire.specs.declared.answer.Answer.{Answer}
use Rattle.ncp_wire.specs.declared.answer.Answer.TheVariants.{Rfnm, Incomplete, Dead}
use Rattle.ncp_wire.specs.Spelling.{IsCommand}
use Rattle.ncp_control.specs.Reading.{commands_in, fault_in}
use Rattle.ncp_control.proofs.Reading.{reads, error_at_fault}
use Rattle.ncp_control.proofs.Text.{bytes_are_small}
use Rattle.ncp_slot.specs.declared.slot.Slot.{Slot}
use Rattle.ncp_slot.specs.Slots.{LinkSlot, LinkSlots, slot_at, with_slot, is_quiet}
use Rattle.ncp_slot.specs.Slot.{answered}
use Rattle.ncp_model.specs.declared.pair.Pair.{Pair}
use Rattle.ncp_model.specs.Effect.{answer, made_if_any, made_by_call}
use Rattle.ncp_model.specs.Echo.{echo_answer}
use Rattle.ncp_model.specs.Ends.{Ends, put, sender_on, receiver_on, pair_of, demux_command, hear, text_in, answered_in, map_after_at, no_ends}
use Rattle.ncp_model.specs.EndpointEvents.{EndpointEvent, happens}
use Rattle.ncp_model.specs.Phase.{up, is_resetting, makes_all, phase_hears, resets}
use Rattle.ncp_model.specs.Sending.{is_full}
use Rattle.ncp_model.specs.Texts.{made_by_text}
use Rattle.ncp_model.specs.Peers.{Peer, PairCall, Take, called, calls_echo, calls_reset, calls_up, cleared, cuts, echo_called, frees, frees_up, hears, hears_fault, hears_other, hears_text, makes, peer_sends, reaction, takes_text}
use Rattle.ncp_model.specs.Peers
use Rattle.ncp_proof_machine.proofs.EndsGood.{EndsInvariant, none-good, good-after, put-changes, called-suits, called-fresh}
use Rattle.ncp_transcript_two.specs.Tie.{IsPair, IsCall, IsAsked, FieldsInRange}
use Rattle.ncp_transcript_two.specs.Seen.{done, call_body, NoteFits}
use Rattle.ncp_transcript_two.proofs.Well.{makes-well, calls-well, echo-well, reset-well, settles-well, sends-well, hears-well, text-well, frees-well, cuts-well}
use Rattle.ncp_peer.specs.PeerState.{PeerState, control_link, frees_on, after_answer, is_answered, answer_taken, answer_comes}
use Rattle.ncp_peer.specs.Counting.{one_more}
use Rattle.ncp_peer.specs.Hearing.{state_hears, state_hears_all, hears_last, state_hears_text, control_size, state_after_control, state_after_text, is_wrong_link, message_after}
use Rattle.ncp_peer.specs.Output.{after_by}
use Rattle.ncp_transcript.specs.Asked.{Asked, Asks, Asks_echo, Asks_reset, Asks_wake, asked_in, state_after_asked}
use Rattle.ncp_transcript.specs.declared.note.HostNote.{HostNote}
use Rattle.ncp_proof_runs.specs.Peers.{state_asked, bits_for, out_for, note_for}
use Rattle.ncp_proof_monitor.proofs.EndsStay.{command_good, text_good, cut_good, answered_good}

pub record PeerInvariant (p : Peer) : Type 0 where
  pub good : EndsInvariant p.ends
  pub well : FieldsInRange p

fine_if : (b : Bool) (p q : Peer) → PeerInvariant p → PeerInvariant q → PeerInvariant (if b then p else q)
fine_if true p q k l = k
fine_if false p q k l = l

pub good_if : (b : Bool) (p q : Peer) → EndsInvariant p.ends → EndsInvariant q.ends → EndsInvariant (if b then p else q).ends
good_if true p q k l = k
good_if false p q k l = l

pub kept_good : (b : Bool) (m : Ends) → EndsInvariant m → EndsInvariant (if b then m else no_ends)
kept_good true m g = g
kept_good false m g = none-good

first : {A B : Type 0} → A × B → A
first p = p.0

second : {A B : Type 0} → A × B → B
second p = p.1

-- ---- calls

calls_fine : (pair : Pair) (call : PairCall) (p : Peer) → IsPair pair × IsCall call → PeerInvariant p → PeerInvariant (Peers.calls pair call p)
calls_fine pair call p f k =
    let what : EndpointEvent = called call (is_full p.phase) p.ends in
    let did = happens pair what (get p.ends pair) in
    record {
      good = good_if (up p.phase) (calls_up pair call p) p
          (kept_good (up (makes_all did.made p.phase)) (put p.ends pair did.after)
          (good-after p.ends (put p.ends pair did.after) pair what (called-suits pair call (is_full p.phase) p.ends) (put-changes p.ends pair what) (called-fresh call (is_full p.phase) p.ends) k.good))
          k.good;
      well = calls-well pair call p (first f) (second f) (k.good.limits pair) k.well;
    }

echo_fine : (byte : ℕ) (p : Peer) → byte < 2 ^ 8 → PeerInvariant p → PeerInvariant (calls_echo byte p)
echo_fine byte p f k = record {
  good = good_if (up p.phase) (echo_called byte p) p (kept_good (up (makes_all (made_by_call (echo_answer byte (is_full p.phase) p.echoes)) p.phase)) p.ends k.good) k.good;
  well = echo-well byte p f k.well;
}

reset_fine : (q : Bool) (p : Peer) → PeerInvariant p → PeerInvariant (calls_reset q p)
reset_fine q p k = record { good = good_if (is_resetting p.phase) p (cleared (resets q p.phase) p) k.good none-good; well = reset-well q p k.well }

asked_fine : (asked : Asked) (s : PeerState) → IsAsked asked → PeerInvariant s.peer → PeerInvariant (state_after_asked asked s).peer
asked_fine (Asks pair call) s f k = calls_fine pair call s.peer f k
asked_fine (Asks_echo byte) s f k = echo_fine byte s.peer f k
asked_fine Asks_reset s f k = reset_fine (is_quiet s.slots) s.peer k
asked_fine Asks_wake s f k = k

done_fine : (o : Option (ℕ × Asked)) (s : PeerState) → NoteFits (done o) → PeerInvariant s.peer → PeerInvariant (state_asked o s).peer
done_fine None s f k = k
done_fine (Some (peer, asked)) s f k = asked_fine asked s f k

-- ---- bits come

hears_fine : (q : Bool) (c : Command) (p : Peer) → IsCommand c → PeerInvariant p → PeerInvariant (hears q c p)
hears_fine q c p f k = record { good = by c; well = hears-well q c p f k.good k.well }
  where
    by : (c : Command) → EndsInvariant (hears q c p).ends
    by Rst = none-good
    by Rrp = k.good
    by c = good_if (up p.phase) (hears_other q c p) p (kept_good (up (phase_hears c (reaction q c p) p.phase)) (map_after_at p.ends (demux_command c p.ends) (hear c p.ends)) (command_good c p.ends k.good)) k.good

all_fine : (cs : List Command) (s : PeerState) → All IsCommand cs → PeerInvariant s.peer → PeerInvariant (state_hears_all cs s).peer
all_fine [] s f k = k
all_fine (c ∷ cs) s f k = all_fine cs (state_hears c s) (λ i d l. f (suc i) d (omega (arith, l))) (hears_fine (is_quiet s.slots) c s.peer (f 0 c (omega arith)) k)

fault_fine : (fault : CommandFault) (p : Peer) → IsCommand (Command.Err fault.code fault.bytes) → PeerInvariant p → PeerInvariant (hears_fault fault p)
fault_fine fault p f k =
    let cs : List Command = Command.Err fault.code fault.bytes ∷ [] in
    fine_if (up p.phase) (makes cs p) p (record { good = kept_good (up (makes_all cs p.phase)) p.ends k.good; well = makes-well cs p (f, tt) k.well }) k

last_fine : (o : Option CommandFault) (s : PeerState) → ((fault : CommandFault) → o ≡ Some fault → IsCommand (Command.Err fault.code fault.bytes)) → PeerInvariant s.peer → PeerInvariant (hears_last o s).peer
last_fine None s f k = k
last_fine (Some fault) s f k = fault_fine fault s.peer (f fault refl) k

text_fine : (on : ℕ) (head : List Bool) (of_size : ℕ) (text : List Bool) (p : Peer) → length head ≡ 72 → PeerInvariant p → PeerInvariant (hears_text on head of_size text p)
text_fine on head of_size text p l k =
    let took = text_in on of_size text p.ends in
    record {
      good = good_if (up p.phase) (takes_text on head of_size text p) p
          (kept_good (up (makes_all (made_by_text head text (answer took)) p.phase)) (map_after_at p.ends (pair_of (receiver_on on p.ends)) took) (text_good p.ends on of_size text k.good))
          k.good;
      well = text-well on head of_size text p l k.good k.well;
    }

long : (bits : List Bool) (m : Message) → message_in bits ≡ Ok m → length (take FRONT_BITS bits) ≡ 72
long bits m e = go (nat_lt (length bits) FRONT_BITS) refl e
  where
    go : (b : Bool) → nat_lt (length bits) FRONT_BITS ≡ b
        → (if b then Err MessageFault.ShortPrefix
        else if not (number_at bits 32 8 == 0) then Err MessageFault.M1NotZero
        else if size_at bits == 0 then Err MessageFault.SizeZero
        else if not (number_at bits 64 8 == 0) then Err MessageFault.M2NotZero
        else if nat_lt (length bits) (text_end bits) then Err MessageFault.TextMissing
        else Ok (message_at bits)) ≡ Ok m
        → length (take FRONT_BITS bits) ≡ 72
    go true g e = absurd (cc)
    go false g e = length-take-le FRONT_BITS bits (ltb-false (length bits) FRONT_BITS g)

message_fine : (on : ℕ) (bits : List Bool) (r : Result Message MessageFault) (s : PeerState) → message_in bits ≡ r → PeerInvariant s.peer → PeerInvariant (message_after on bits r s).peer
message_fine on bits (Err fault) s e k = k
message_fine on bits (Ok m) s e k = go (is_wrong_link on) (on == control_link) (m.size == control_size)
  where
    bytes : List ℕ
    bytes = bytes_of m.text

    control : PeerInvariant (state_hears_text (commands_in bytes) (fault_in bytes) s).peer
    control =
        let small = bytes_are_small m.text in
        last_fine (fault_in bytes) (state_hears_all (commands_in bytes) s) (λ fault f. error_at_fault bytes fault small f) (all_fine (commands_in bytes) s (reads bytes small).each k)

    in_control : (b : Bool) → PeerInvariant (if b then state_hears_text (commands_in bytes) (fault_in bytes) s else record s { counts = record s.counts { wrong_size = one_more s.counts.wrong_size } }).peer
    in_control true = control
    in_control false = k

    go : (wrong zero eight : Bool) → PeerInvariant (if wrong then record s { counts = record s.counts { wrong_link = one_more s.counts.wrong_link } } else if zero then state_after_control m s else state_after_text on (take FRONT_BITS bits) m s).peer
    go true zero eight = k
    go false true eight = in_control (m.size == control_size)
    go false false eight = text_fine on (take FRONT_BITS bits) m.size m.text s.peer (long bits m e) k

bits_fine : (r : Result Leader Short) (bits : List Bool) (s : PeerState) → PeerInvariant s.peer → PeerInvariant (bits_for r bits s).peer
bits_fine (Err short) bits s k = k
bits_fine (Ok leader) bits s k = message_fine leader.link bits (message_in bits) s refl k

-- ---- an answer comes

frees_fine : (on : ℕ) (p : Peer) → PeerInvariant p → PeerInvariant (frees on p)
frees_fine on p k =
    let act = answered_in on Rfnm p.ends in
    record {
      good = good_if (up p.phase) (frees_up on p) p (kept_good (up (makes_all (made_if_any (answer act)) p.phase)) (map_after_at p.ends (pair_of (sender_on on p.ends)) act) (answered_good p.ends on k.good)) k.good;
      well = frees-well on p k.good k.well;
    }

answer_fine : (on : ℕ) (how : Answer) (s : PeerState) → PeerInvariant s.peer → PeerInvariant (answer_comes on how s).peer
answer_fine on how s k = go (is_answered on s)
  where
    now : LinkSlots
    now = with_slot s.slots on (answered how (slot_at s.slots on))

    freed : (b : Bool) → PeerInvariant (if b then s.peer else frees on s.peer)
    freed true = k
    freed false = frees_fine on s.peer k

    after : (how : Answer) → PeerInvariant (after_answer on how now s.peer)
    after Rfnm =
        let f : PeerInvariant (frees_on on s.peer) = freed (on == control_link) in
        record { good = f.good; well = settles-well (is_quiet now) (frees_on on s.peer) f.well }
    after Incomplete = k
    after Dead = k

    go : (b : Bool) → PeerInvariant (if b then answer_taken on how s else record s { counts = record s.counts { stray = one_more s.counts.stray } }).peer
    go true = after how
    go false = k

-- ---- a message is sent

out_fine : (r : Result Leader Short) (message : List Bool) (s : PeerState) → PeerInvariant s.peer → PeerInvariant (out_for r message s).peer
out_fine (Err short) message s k = k
out_fine (Ok leader) message s k = by (slot_at s.slots leader.link)
  where
    made : (b : Bool) → PeerInvariant (if b then peer_sends s.peer else cuts leader.link s.peer)
    made true = record { good = k.good; well = sends-well s.peer k.well }
    made false = record { good = cut_good s.peer.ends leader.link k.good; well = cuts-well leader.link s.peer k.well }

    by : (slot : LinkSlot) → PeerInvariant (after_by slot leader.link s.peer)
    by Slot.Empty = made (leader.link == control_link)
    by (Slot.Ready m) = k
    by (Slot.Travelling m) = k
    by (Slot.Held m) = k

-- ---- a note

pub note_fine : (note : HostNote) (s : PeerState) → NoteFits (call_body note) → PeerInvariant s.peer → PeerInvariant (note_for note s).peer
note_fine (HostNote.Done call) s f k = done_fine (asked_in call) s f k
note_fine (HostNote.Took peer pair bytes text) s f k = calls_fine pair (Take bytes) s.peer f k
note_fine (HostNote.Out message) s f k = out_fine (leader_in message) message s k
note_fine (HostNote.In message received) s f k = bits_fine (leader_in message) message s k
note_fine (HostNote.Answered peer link how received) s f k = answer_fine link how s k
note_fine other s f k = k
