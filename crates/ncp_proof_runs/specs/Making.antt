-- The commands made for a peer, note by note, less those that a clearing struck, and how many of them
-- were sent; those made, and those received, since the last clearing; the RSTs and RRPs made and received
-- that decide whether the host is up; and the fresh control messages sent (NIC 8246, control messages,
-- RST and RRP). This profile's rules: when each command is made, and that a clearing strikes queued
-- commands, except RST and RRP.
use Rattle.std.specs.Prelude.{ℕ, ◌+◌, ◌==◌, Bool, true, false, ◌&&◌, if◌then◌else◌, List, [], ◌∷◌, ◌++◌, length, take, drop, Option, None, Some, Result, Ok, Err}
use Rattle.std.specs.List.{filter, list_any}
use Rattle.ncp_numbers.specs.Bytes.{bits_of_bytes, bytes_of}
use Rattle.ncp_leader.specs.declared.leader.Leader.{Leader}
use Rattle.ncp_leader.specs.declared.leader.Short.{Short}
use Rattle.ncp_leader.specs.declared.fault.MessageFault.{MessageFault}
use Rattle.ncp_leader.specs.declared.regular.TheConstants.{FRONT_BITS}
use Rattle.ncp_leader.specs.Leader.{leader_in}
use Rattle.ncp_leader.specs.Message.{Message, message_in}
use Rattle.ncp_wire.specs.declared.command.Command.{Command}
use Rattle.ncp_wire.specs.declared.command.Command.TheVariants.{Rst, Rrp}
use Rattle.ncp_wire.specs.declared.fault.CommandFault.{CommandFault}
use Rattle.ncp_control.specs.Reading.{commands_in, fault_in}
use Rattle.ncp_wire.specs.Spelling.{spellings}
use Rattle.ncp_wire.specs.declared.answer.Answer.{Answer}
use Rattle.ncp_wire.specs.declared.answer.Answer.TheVariants.{Rfnm, Incomplete, Dead}
use Rattle.ncp_slot.specs.Slot.{answered}
use Rattle.ncp_slot.specs.Slots.{LinkSlots, slot_at, with_slot, is_quiet}
use Rattle.ncp_model.specs.declared.pair.Pair.{Pair}
use Rattle.ncp_model.specs.Effect.{answer, made_if_any, made_by_call, made_by_hearing}
use Rattle.ncp_model.specs.Texts.{made_by_text}
use Rattle.ncp_model.specs.Texts
use Rattle.ncp_model.specs.Ends.{hear, text_in, answered_in}
use Rattle.ncp_model.specs.Echo.{echo_answer}
use Rattle.ncp_model.specs.Phase.{Phase, up, is_rst, is_rrp, is_reset, is_other, is_resetting, has_room_for_one, wants_reset, owes_answer, phase_answers, phase_makes}
use Rattle.ncp_model.specs.Sending.{is_full, next_commands}
use Rattle.ncp_model.specs.Peers.{Peer, Take, happened_at, is_full_up, echo_replies, PairCall}
use Rattle.ncp_peer.specs.PeerState.{PeerState, new_state, control_link, is_answered, frees_on}
use Rattle.ncp_peer.specs.Hearing.{control_size, is_wrong_link, state_hears, state_hears_all}
use Rattle.ncp_peer.specs.Output.{message_to}
use Rattle.ncp_transcript.specs.declared.note.HostNote.{HostNote}
use Rattle.ncp_transcript.specs.Asked.{Asked, Asks, Asks_echo, Asks_reset, asked_in}
use Rattle.ncp_proof_runs.specs.Peers.{is_this_number, note_for}
use Rattle.ncp_proof_runs.specs.Links.{LinkSoFar, nothing_noted, goes_fresh, link_of_leader, noted_by}

pub record Made : Type 0 where
  pub all : List Command  -- made, and not struck; the oldest first
  pub gone : ℕ  -- the number of them that were sent, from the front
  pub cleared : ℕ  -- the number of them, from the front, made before the last clearing
  pub came : List Command  -- received while up since the last clearing, except RST and RRP
  pub began : Bool  -- an RST or RRP was made since the start and the last going down
  pub did_reset : Bool  -- an RST was made since the last accepted reset
  pub got_answer : Bool  -- an RRP was received since the last RST that was made
  pub gave_answer : Bool  -- an RRP was made since the last RST that was received

-- at the start nothing is owed in either direction, and the host is not up
abbrev pub nothing_made : Made
nothing_made = record { all = []; gone = 0; cleared = 0; came = []; began = false; did_reset = true; got_answer = true; gave_answer = true }

-- the host is up with the peer
abbrev pub is_up_noted : Made → Bool
is_up_noted l = l.began && l.did_reset && l.got_answer && l.gave_answer

abbrev pub made : Command → Made → Made
made c l = record l { all = l.all ++ c ∷ [] }

-- after a command received while the host is up
abbrev pub made_heard : Command → Made → Made
made_heard c l = record l { came = l.came ++ c ∷ [] }

-- A clearing strikes unsent commands, except RST and RRP. Commands made and received since then count
-- again, from empty.

abbrev pub not_struck : Made → List Command
not_struck l = take l.gone l.all ++ filter is_reset (drop l.gone l.all)

abbrev pub struck : Made → Made
struck l = record l { all = not_struck l; cleared = length (not_struck l); came = [] }

-- the commands made since the last clearing, except RST and RRP
abbrev pub made_since : Made → List Command
made_since l = filter is_other (drop l.cleared l.all)

-- each of these is a clearing: going down, an accepted reset, an RST received
abbrev pub went_down : Made → Made
went_down l = record (struck l) { began = false }

abbrev pub reset_asked : Made → Made
reset_asked l = record (struck l) { did_reset = false }

abbrev pub made_rst_came : Made → Made
made_rst_came l = record (struck l) { gave_answer = false }

abbrev pub rrp_came : Made → Made
rrp_came l = record l { got_answer = true }

-- the next of them are sent
abbrev pub made_sent : Made → Made
made_sent l = record l { gone = l.gone + length (next_commands (drop l.gone l.all)) }

-- The commands made in a phase: a command of a call or a reply, while up; if it has no room the host goes
-- down. While the data links are quiet, the RRP owed, then the RST wanted; if one of its kind is still
-- queued it counts as made, and none is added.

abbrev pub counts_rrp : Made → Made
counts_rrp l = record l { began = true; gave_answer = true }

abbrev pub counts_rst : Made → Made
counts_rst l = record l { began = true; did_reset = true; got_answer = false }

abbrev pub made_in : Command → Phase → Made → Made
made_in c p l = if up p && is_other c then (if has_room_for_one p then made c l else went_down l) else l

abbrev pub all_made_in : List Command → Phase → Made → Made
all_made_in [] p l = l
all_made_in (c ∷ cs) p l = all_made_in cs (phase_makes c p) (made_in c p l)

abbrev pub answer_made : Phase → Made → Made
answer_made p l = if p.owe then counts_rrp (if list_any is_rrp p.waiting then l else made Rrp l) else l

abbrev pub reset_made : Phase → Made → Made
reset_made p l = if p.want then counts_rst (if list_any is_rst p.waiting then l else made Rst l) else l

abbrev pub settling_made : Bool → Phase → Made → Made
settling_made quiet p l = if quiet then reset_made (phase_answers p) (answer_made p l) else l

-- After each call.

abbrev pub by_pair_call : Pair → PairCall → PeerState → Made → Made
by_pair_call pair call s l = if up s.peer.phase then all_made_in (happened_at pair call s.peer).made s.peer.phase l else l

abbrev pub by_echo : ℕ → PeerState → Made → Made
by_echo byte s l = if up s.peer.phase then all_made_in (made_by_call (echo_answer byte (is_full s.peer.phase) s.peer.echoes)) s.peer.phase l else l

abbrev pub by_reset : PeerState → Made → Made
by_reset s l = if is_resetting s.peer.phase then l else settling_made (is_quiet s.slots) (wants_reset s.peer.phase) (reset_asked l)

abbrev pub by_asked : Option (ℕ × Asked) → PeerState → Made → Made
by_asked (Some (peer, Asks pair call)) s l = by_pair_call pair call s l
by_asked (Some (peer, Asks_echo byte)) s l = by_echo byte s l
by_asked (Some (peer, Asks_reset)) s l = by_reset s l
by_asked other s l = l

-- After each command received, and after the fault of a control text.

abbrev pub by_other : Command → Peer → Made → Made
by_other c p l =
    if up p.phase
    then (if is_full_up (answer (hear c p.ends)) then went_down l else all_made_in (made_by_hearing (answer (hear c p.ends)) ++ echo_replies c) p.phase (made_heard c l))
    else l

abbrev pub by_command : Bool → Command → Peer → Made → Made
by_command quiet Rst p l = settling_made quiet (owes_answer p.phase) (made_rst_came l)
by_command quiet Rrp p l = rrp_came l
by_command quiet c p l = by_other c p l

abbrev pub by_commands : List Command → PeerState → Made → Made
by_commands [] s l = l
by_commands (c ∷ cs) s l = by_commands cs (state_hears c s) (by_command (is_quiet s.slots) c s.peer l)

abbrev pub by_fault : Option CommandFault → PeerState → Made → Made
by_fault None s l = l
by_fault (Some fault) s l = if up s.peer.phase then all_made_in (Command.Err fault.code fault.bytes ∷ []) s.peer.phase l else l

abbrev pub by_control : Message → PeerState → Made → Made
by_control m s l =
    if m.size == control_size
    then by_fault (fault_in (bytes_of m.text)) (state_hears_all (commands_in (bytes_of m.text)) s) (by_commands (commands_in (bytes_of m.text)) s l)
    else l

abbrev pub by_text : ℕ → List Bool → Message → PeerState → Made → Made
by_text on head m s l = if up s.peer.phase then all_made_in (made_by_text head m.text (answer (text_in on m.size m.text s.peer.ends))) s.peer.phase l else l

abbrev pub by_message : ℕ → List Bool → Result Message MessageFault → PeerState → Made → Made
by_message on bits (Err fault) s l = l
by_message on bits (Ok m) s l = if is_wrong_link on then l else if on == control_link then by_control m s l else by_text on (take FRONT_BITS bits) m s l

abbrev pub by_bits : Result Leader Short → List Bool → PeerState → Made → Made
by_bits (Err short) bits s l = l
by_bits (Ok leader) bits s l = by_message leader.link bits (message_in bits) s l

-- After an answer: an acknowledged text frees its sender, and the host settles.

abbrev pub by_freeing : ℕ → Peer → Made → Made
by_freeing on p l = if on == control_link then l else if up p.phase then all_made_in (made_if_any (answer (answered_in on Texts.Rfnm p.ends))) p.phase l else l

abbrev pub by_answer : ℕ → Answer → LinkSlots → Peer → Made → Made
by_answer on Rfnm slots p l = settling_made (is_quiet slots) (frees_on on p).phase (by_freeing on p l)
by_answer on Incomplete slots p l = l
by_answer on Dead slots p l = l

abbrev pub by_answered : ℕ → Answer → PeerState → Made → Made
by_answered on how s l = if is_answered on s then by_answer on how (with_slot s.slots on (answered how (slot_at s.slots on))) s.peer l else l

-- After each note: a fresh message on link 0 takes the next of the commands made.

abbrev pub by_out : Result Leader Short → LinkSoFar → Made → Made
by_out r t l = if is_this_number control_link (link_of_leader r) then (if goes_fresh t then made_sent l else l) else l

abbrev pub made_by_note : HostNote → PeerState → LinkSoFar → Made → Made
made_by_note (HostNote.Done call) s t l = by_asked (asked_in call) s l
made_by_note (HostNote.Took peer pair bytes text) s t l = by_pair_call pair (Take bytes) s l
made_by_note (HostNote.Out message) s t l = by_out (leader_in message) t l
made_by_note (HostNote.In message told) s t l = by_bits (leader_in message) message s l
made_by_note (HostNote.Answered peer link how told) s t l = by_answered link how s l
made_by_note other s t l = l

abbrev pub made_from : List HostNote → PeerState → LinkSoFar → Made → Made
made_from [] s t l = l
made_from (note ∷ rest) s t l = made_from rest (note_for note s) (noted_by control_link note t) (made_by_note note s t l)

-- the control message of a list of commands; and the commands of several lists, in order
abbrev pub message_of : ℕ → List Command → List Bool
message_of n cs = message_to n control_link control_size (bits_of_bytes (spellings cs))

abbrev pub joined : List (List Command) → List Command
joined [] = []
joined (cs ∷ css) = cs ++ joined css

-- the commands made, by all notes of a peer
abbrev pub made_of : List HostNote → Made
made_of all = made_from all new_state nothing_noted nothing_made
