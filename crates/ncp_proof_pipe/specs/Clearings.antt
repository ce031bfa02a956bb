-- Why a side of a pipe stops though its user did not close it, by the notes of its host for the peer. The host is cleared
-- by an accepted reset, by an RST that it reads, or by going down; or it reads a CLS. Going down has no note of its own:
-- the rules say when the flag `down` is set.
use Rattle.std.specs.Prelude.{ℕ, ◌+◌, ◌==◌, Bool, false, not, ◌&&◌, if◌then◌else◌, List, [], ◌∷◌, length, Result, Ok}
use Rattle.std.specs.List.{filter}
use Rattle.ncp_numbers.specs.Bytes.{bytes_of}
use Rattle.ncp_leader.specs.declared.leader.Leader.{Leader}
use Rattle.ncp_leader.specs.declared.leader.Short.{Short}
use Rattle.ncp_leader.specs.declared.fault.MessageFault.{MessageFault}
use Rattle.ncp_leader.specs.Leader.{leader_in}
use Rattle.ncp_leader.specs.Message.{Message, message_in}
use Rattle.ncp_wire.specs.declared.command.Command.{Command}
use Rattle.ncp_control.specs.Reading.{commands_in}
use Rattle.ncp_model.specs.declared.pair.Pair.{Pair}
use Rattle.ncp_model.specs.Pairs.{same}
use Rattle.ncp_model.specs.Phase.{up, is_rst}
use Rattle.ncp_peer.specs.PeerState.{PeerState, new_state, control_link}
use Rattle.ncp_peer.specs.Hearing.{control_size, state_hears, state_hears_all}
use Rattle.ncp_transcript.specs.declared.call.Call.TheVariants as calls
use Rattle.ncp_transcript.specs.declared.note.HostNote.{HostNote}
use Rattle.ncp_proof_runs.specs.Peers.{note_for}

-- the commands of the control message that a note reports as received

abbrev pub read_by : Result Leader Short → Result Message MessageFault → List Command
read_by (Ok leader) (Ok m) = if leader.link == control_link && m.size == control_size then commands_in (bytes_of m.text) else []
read_by leader m = []

abbrev pub commands_read : HostNote → List Command
commands_read (HostNote.In message received) = read_by (leader_in message) (message_in message)
commands_read note = []

-- How often the host is cleared while it is up. Else it has no endpoint.

abbrev pub if_up : PeerState → ℕ
if_up s = if up s.peer.phase then 1 else 0

abbrev pub went_down : PeerState → PeerState → ℕ
went_down s now = if not s.peer.phase.down && now.peer.phase.down then 1 else 0

-- by a command that it reads, which may be an RST
abbrev pub cleared_by_command : Command → PeerState → ℕ
cleared_by_command c s = if is_rst c then if_up s else went_down s (state_hears c s)

abbrev pub cleared_reading : List Command → PeerState → ℕ
cleared_reading [] s = 0
cleared_reading (c ∷ cs) s = cleared_by_command c s + cleared_reading cs (state_hears c s)

-- by a note: an accepted reset; the commands that it reports as read, and what else it reports
abbrev pub cleared_by : HostNote → PeerState → ℕ
cleared_by (HostNote.Done (calls.Reset peer)) s = if_up s
cleared_by note s = cleared_reading (commands_read note) s + went_down (state_hears_all (commands_read note) s) (note_for note s)

abbrev pub clearings_from : List HostNote → PeerState → ℕ
clearings_from [] s = 0
clearings_from (note ∷ told) s = cleared_by note s + clearings_from told (note_for note s)

abbrev pub clearings : List HostNote → ℕ
clearings told = clearings_from told new_state

-- the CLSs read for a pair

abbrev pub is_close_of : Pair → Command → Bool
is_close_of pair (Command.Cls my your) = same pair (record { local = your; remote = my })
is_close_of pair c = false

abbrev pub closes_read : Pair → List HostNote → ℕ
closes_read pair [] = 0
closes_read pair (note ∷ told) = length (filter (is_close_of pair) (commands_read note)) + closes_read pair told
