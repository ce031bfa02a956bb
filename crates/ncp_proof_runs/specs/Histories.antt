-- The history of a pair of sockets since its connection opened, as the notes of a peer show it: the text
-- given, got and taken, and the amounts granted, returned and used (the words are this profile's). A
-- history variable only: no rule reads it.
use Rattle.std.specs.Prelude.{ℕ, ◌==◌, Bool, if◌then◌else◌, List, [], ◌∷◌, take, Option, Some, Result, Ok, Err}
use Rattle.std.specs.FinMap.{get}
use Rattle.ncp_numbers.specs.Bytes.{bytes_of}
use Rattle.ncp_leader.specs.declared.leader.Leader.{Leader}
use Rattle.ncp_leader.specs.declared.leader.Short.{Short}
use Rattle.ncp_leader.specs.declared.fault.MessageFault.{MessageFault}
use Rattle.ncp_leader.specs.declared.regular.TheConstants.{FRONT_BITS}
use Rattle.ncp_leader.specs.Leader.{leader_in}
use Rattle.ncp_leader.specs.Message.{Message, message_in}
use Rattle.ncp_wire.specs.declared.command.Command.{Command}
use Rattle.ncp_control.specs.Reading.{commands_in}
use Rattle.ncp_model.specs.declared.pair.Pair.{Pair}
use Rattle.ncp_model.specs.Pairs.{same}
use Rattle.ncp_model.specs.Endpoint.{Endpoint}
use Rattle.ncp_model.specs.Ends.{Ends, pair_of, receiver_on, demux_command}
use Rattle.ncp_model.specs.EndpointEvents.{EndpointEvent, Transition, Text_comes, happens}
use Rattle.ncp_model.specs.Demux.{comes}
use Rattle.ncp_model.specs.Phase.{up}
use Rattle.ncp_model.specs.Sending.{is_full}
use Rattle.ncp_model.specs.Peers.{Take, called, PairCall}
use Rattle.ncp_proof_endpoint.specs.Histories.{PairHistory, no_past, adds, opens, reopened}
use Rattle.ncp_peer.specs.PeerState.{PeerState, new_state, control_link}
use Rattle.ncp_peer.specs.Hearing.{control_size, is_wrong_link, state_hears}
use Rattle.ncp_transcript.specs.declared.note.HostNote.{HostNote}
use Rattle.ncp_transcript.specs.Asked.{Asked, Asks, asked_in}
use Rattle.ncp_proof_runs.specs.Peers.{note_for}

-- the history after an event on a pair; it starts again, from empty, when the connection opens
abbrev pub past_then : Option Endpoint → EndpointEvent → Transition → PairHistory → PairHistory
past_then before what did past = adds what did.outcome (if opens before did.after then reopened past else past)

-- the history after an event on the pair that a look-up found, if it is this pair
abbrev pub past_at : Pair → Option Pair → Option EndpointEvent → Ends → PairHistory → PairHistory
past_at pair (Some p) (Some what) m past = if same pair p then past_then (get m pair) what (happens pair what (get m pair)) past else past
past_at pair p what m past = past

-- After a call, a command received and a text received, while the host is up.

abbrev pub past_called : Pair → Pair → PairCall → PeerState → PairHistory → PairHistory
past_called pair p call s past = if up s.peer.phase then past_at pair (Some p) (Some (called call (is_full s.peer.phase) s.peer.ends)) s.peer.ends past else past

abbrev pub past_heard : Pair → Command → PeerState → PairHistory → PairHistory
past_heard pair c s past = if up s.peer.phase then past_at pair (demux_command c s.peer.ends) (comes c s.peer.ends) s.peer.ends past else past

abbrev pub past_heard_all : Pair → List Command → PeerState → PairHistory → PairHistory
past_heard_all pair [] s past = past
past_heard_all pair (c ∷ cs) s past = past_heard_all pair cs (state_hears c s) (past_heard pair c s past)

abbrev pub past_text : Pair → ℕ → List Bool → Message → PeerState → PairHistory → PairHistory
past_text pair on head m s past =
    if up s.peer.phase then past_at pair (pair_of (receiver_on on s.peer.ends)) (Some (Text_comes head m.size m.text)) s.peer.ends past else past

abbrev pub past_message : Pair → ℕ → List Bool → Result Message MessageFault → PeerState → PairHistory → PairHistory
past_message pair on bits (Err fault) s past = past
past_message pair on bits (Ok m) s past =
    if is_wrong_link on then past
    else if on == control_link then (if m.size == control_size then past_heard_all pair (commands_in (bytes_of m.text)) s past else past)
    else past_text pair on (take FRONT_BITS bits) m s past

abbrev pub past_bits : Pair → Result Leader Short → List Bool → PeerState → PairHistory → PairHistory
past_bits pair (Err short) bits s past = past
past_bits pair (Ok leader) bits s past = past_message pair leader.link bits (message_in bits) s past

abbrev pub past_asked : Pair → Option (ℕ × Asked) → PeerState → PairHistory → PairHistory
past_asked pair (Some (peer, Asks p call)) s past = past_called pair p call s past
past_asked pair other s past = past

abbrev pub past_by : Pair → HostNote → PeerState → PairHistory → PairHistory
past_by pair (HostNote.Done call) s past = past_asked pair (asked_in call) s past
past_by pair (HostNote.Took peer p bytes text) s past = past_called pair p (Take bytes) s past
past_by pair (HostNote.In message told) s past = past_bits pair (leader_in message) message s past
past_by pair other s past = past

abbrev pub past_from : Pair → List HostNote → PeerState → PairHistory → PairHistory
past_from pair [] s past = past
past_from pair (note ∷ rest) s past = past_from pair rest (note_for note s) (past_by pair note s past)

-- the history of a pair, of all notes of a peer
abbrev pub past_so_far : Pair → List HostNote → PairHistory
past_so_far pair all = past_from pair all new_state no_past
