-- Meant for other crates too: they cite what is public here.
--
-- One host, whatever its peer sends.
use Rattle.std.proofs.Common.{◌≡◌, ℕ, ◌+◌, ◌==◌, ◌≤◌, Bool, true, false, cond, List, [], ◌∷◌, Option, None, Some, Result, Ok, Err, sym, ap, subst, ◌∙◌, arith, le_trans}
use Rattle.ncp_numbers.specs.Bytes.{bytes_of}
use Rattle.ncp_leader.specs.declared.leader.Leader.{Leader}
use Rattle.ncp_leader.specs.declared.fault.MessageFault.{MessageFault}
use Rattle.ncp_leader.specs.declared.regular.TheConstants.{FRONT_BITS}
use Rattle.ncp_leader.specs.Message.{Message, message_in}
use Rattle.ncp_wire.specs.declared.command.Command.{Command}
use Rattle.ncp_wire.specs.declared.fault.CommandFault.{CommandFault}
use Rattle.ncp_wire.specs.declared.answer.Answer.{Answer}
use Rattle.ncp_wire.specs.declared.answer.Answer.TheVariants.{Rfnm, Incomplete, Dead}
use Rattle.ncp_control.specs.Reading.{commands_in, fault_in}
use Rattle.ncp_slot.specs.declared.slot.Slot.TheVariants.{Empty}
use Rattle.ncp_slot.specs.Slots.{LinkSlots, LinkSlot, slot_at, with_slot, is_quiet}
use Rattle.ncp_slot.specs.Slot.{answered}
use Rattle.ncp_peer.specs.Counting.{one_more}
use Rattle.std.specs.Prelude.{take}
use Rattle.ncp_model.specs.Effect.{answer}
use Rattle.ncp_model.specs.Ends.{cut_in}
use Rattle.ncp_model.specs.EndpointEvents.{of_cut}
use Rattle.ncp_model.specs.Sending.{next_commands}
use Rattle.ncp_model.specs.Peers.{Peer, cuts, frees, peer_sends}
use Rattle.ncp_peer.specs.PeerState.{PeerState, control_link, after_answer, answer_comes, answer_taken, frees_on, is_answered}
use Rattle.ncp_peer.specs.Hearing.{state_hears, state_hears_all, hears_last, state_hears_text, state_after_control, control_size, is_wrong_link, message_after, state_after_text, answer_of, after_bits, regular}
use Rattle.ncp_peer.specs.Output.{made_on, after_made, after_by, output_by, output_on, after_output, control_message, text_message}
use Rattle.ncp_proof_progress.specs.Work.{causes_all, queue_work, peer_work, takes_away}
use Rattle.ncp_proof_progress.proofs.PeerWork.{comes-work, fault-work, text-work, cut-work, sends-work, free-work, settle-work}
use Rattle.ncp_proof_quiescence.specs.HostWork.{fault_brings, control_brings, message_brings, bits_bring}

all-work : (cs : List Command) (s : PeerState) → peer_work (state_hears_all cs s).peer ≤ peer_work s.peer + causes_all cs
unfolding causes_all
all-work [] s = omega arith
all-work (c ∷ cs) s = let h = all-work cs (state_hears c s) in let k = comes-work (is_quiet s.slots) c s.peer in omega (arith, h, k)

last-work : (fault : Option CommandFault) (s : PeerState) → peer_work (hears_last fault s).peer ≤ peer_work s.peer + fault_brings fault
last-work None s = omega arith
last-work (Some fault) s = fault-work fault s.peer

-- one of two states, by a test
choose : (b : Bool) (x y : PeerState) (n k j : ℕ) → peer_work x.peer ≤ n + k → peer_work y.peer ≤ n + j → peer_work (cond b x y).peer ≤ n + cond b k j
choose true x y n k j g h = g
choose false x y n k j g h = h

same : (s : PeerState) → peer_work s.peer ≤ peer_work s.peer + 0
same s = omega arith

control-work : (m : Message) (s : PeerState) → peer_work (state_after_control m s).peer ≤ peer_work s.peer + control_brings m
control-work m s =
    let cs = commands_in (bytes_of m.text) in
    let h = all-work cs s in
    let k = last-work (fault_in (bytes_of m.text)) (state_hears_all cs s) in
    choose (m.size == control_size) (state_hears_text cs (fault_in (bytes_of m.text)) s) (record s { counts = record s.counts { wrong_size = one_more s.counts.wrong_size } })
    (peer_work s.peer) (causes_all cs + fault_brings (fault_in (bytes_of m.text))) 0 (omega (arith, h, k)) (same s)

pub message-work : (on : ℕ) (bits : List Bool) (r : Result Message MessageFault) (s : PeerState) → peer_work (message_after on bits r s).peer ≤ peer_work s.peer + message_brings on r
message-work on bits (Err fault) s = same s
message-work on bits (Ok m) s =
    choose (is_wrong_link on) (record s { counts = record s.counts { wrong_link = one_more s.counts.wrong_link } }) (cond (on == control_link) (state_after_control m s) (state_after_text on (take FRONT_BITS bits) m s))
    (peer_work s.peer) 0 (cond (on == control_link) (control_brings m) 1) (same s)
    (choose (on == control_link) (state_after_control m s) (state_after_text on (take FRONT_BITS bits) m s) (peer_work s.peer) (control_brings m) 1 (control-work m s) (text-work on (take FRONT_BITS bits) m.size m.text s.peer))

freed-work : (on : ℕ) (p : Peer) → peer_work (frees_on on p) ≤ peer_work p
freed-work on p = go (on == control_link)
  where
    go : (b : Bool) → peer_work (cond b p (frees on p)) ≤ peer_work p
    go true = omega arith
    go false = free-work on p

after-answer-work : (on : ℕ) (how : Answer) (slots : LinkSlots) (p : Peer) → peer_work (after_answer on how slots p) ≤ peer_work p
after-answer-work on Rfnm slots p = le_trans (settle-work (is_quiet slots) (frees_on on p)) (freed-work on p)
after-answer-work on Incomplete slots p = omega arith
after-answer-work on Dead slots p = omega arith

pub answer-work : (on : ℕ) (how : Answer) (s : PeerState) → peer_work (answer_comes on how s).peer ≤ peer_work s.peer + 0
answer-work on how s = go (is_answered on s)
  where
    taken : peer_work (answer_taken on how s).peer ≤ peer_work s.peer
    taken = after-answer-work on how (with_slot s.slots on (answered how (slot_at s.slots on))) s.peer

    go : (b : Bool) → peer_work (cond b (answer_taken on how s) (record s { counts = record s.counts { stray = one_more s.counts.stray } })).peer ≤ peer_work s.peer + 0
    go true = let h = taken in omega (arith, h)
    go false = same s

pub bits-work : (leader : Leader) (bits : List Bool) (s : PeerState) → peer_work (after_bits leader bits s).peer ≤ peer_work s.peer + bits_bring leader bits
bits-work leader bits s =
    choose (leader.kind == regular) (message_after leader.link bits (message_in bits) s) (answer_comes leader.link (answer_of leader.kind) s) (peer_work s.peer) (message_brings leader.link (message_in bits)) 0
    (message-work leader.link bits (message_in bits) s) (answer-work leader.link (answer_of leader.kind) s)

-- what is made takes one at least

some-control : (number : ℕ) (cs : List Command) (m : List Bool) → control_message number cs ≡ Some m → 1 ≤ queue_work cs
unfolding queue_work
some-control number [] m e = absurd (cc e)
some-control number (c ∷ cs) m e = omega arith

some-text : (number on : ℕ) (o : Option (ℕ × List Bool)) (m : List Bool) → text_message number on o ≡ Some m → 1 ≤ takes_away (of_cut o)
some-text number on None m e = absurd (cc e)
some-text number on (Some text) m e = omega arith

pub made-work : (number on : ℕ) (p : Peer) (m : List Bool) → made_on number on p ≡ Some m → peer_work (after_made on p) + 1 ≤ peer_work p
made-work number on p m e = go (on == control_link) e
  where
    go : (b : Bool) → cond b (control_message number (next_commands p.phase.waiting)) (text_message number on (answer (cut_in on p.ends))) ≡ Some m → peer_work (cond b (peer_sends p) (cuts on p)) + 1 ≤ peer_work p
    go true e = let h = sends-work p in let k = some-control number (next_commands p.phase.waiting) m e in omega (arith, h, k)
    go false e = let h = cut-work on p in let k = some-text number on (answer (cut_in on p.ends)) m e in omega (arith, h, k)

pub goes-work : (number on : ℕ) (m : List Bool) (s : PeerState) → slot_at s.slots on ≡ Empty → output_on number on s ≡ Some m → peer_work (after_output on m s).peer + 1 ≤ peer_work s.peer
goes-work number on m s e o =
    let f : made_on number on s.peer ≡ Some m = sym (ap (λ (x : LinkSlot). output_by x number on s.peer) e) ∙ o in
    subst (λ (x : LinkSlot). peer_work (after_by x on s.peer) + 1 ≤ peer_work s.peer) (sym e) (made-work number on s.peer m f)
