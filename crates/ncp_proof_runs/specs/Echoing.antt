-- The awaited echo of a peer, the byte of the last one, and the ERRs received, as the notes of the peer
-- show them (NIC 8246, ECO, ERP and ERR). This profile's rules: one echo at a time, a clearing ends it,
-- commands received while the host is not up are dropped, and the last 16 ERRs are kept. Nothing here
-- uses a rule of echoes: of the state before a note, only whether the host is up with the peer is read.
use Rattle.std.specs.Prelude.{ℕ, ◌-◌, Bool, true, false, if◌then◌else◌, List, [], ◌∷◌, ◌++◌, length, drop, Option, None, Some, Result, Ok, Err}
use Rattle.ncp_numbers.specs.Bytes.{bytes_of}
use Rattle.ncp_leader.specs.declared.fault.MessageFault.{MessageFault}
use Rattle.ncp_leader.specs.Message.{Message, message_in}
use Rattle.ncp_wire.specs.declared.command.Command.{Command}
use Rattle.ncp_wire.specs.declared.command.Command.TheVariants.{Rst, Erp}
use Rattle.ncp_control.specs.Reading.{commands_in}
use Rattle.ncp_model.specs.declared.outcomes.Error.{Error}
use Rattle.ncp_model.specs.declared.limits.TheConstants.{MAX_ERRORS}
use Rattle.ncp_model.specs.Echo.{Echoes}
use Rattle.ncp_model.specs.Phase.{Phase, up}
use Rattle.ncp_peer.specs.declared.received.Received.{Received}
use Rattle.ncp_peer.specs.PeerState.{PeerState, new_state}
use Rattle.ncp_peer.specs.Hearing.{state_hears, state_hears_all}
use Rattle.ncp_transcript.specs.declared.note.HostNote.{HostNote}
use Rattle.ncp_transcript.specs.Asked.{Asked, Asks_echo, Asks_reset, asked_in}
use Rattle.ncp_proof_runs.specs.Peers.{note_for}

-- the history of the notes so far
pub record EchoHistory : Type 0 where
  pub asked : Bool  -- an echo was accepted, with no ERP and no clearing since
  pub byte : Option ℕ  -- of the last ERP received for an echo
  pub errors : List Error  -- all received ERRs, oldest first

abbrev pub no_echo : EchoHistory
no_echo = record { asked = false; byte = None; errors = [] }

abbrev pub echo_accepted : EchoHistory → EchoHistory
echo_accepted t = record t { asked = true }

-- an ERP received while no echo is awaited leaves the byte unchanged
abbrev pub erp_came : ℕ → EchoHistory → EchoHistory
erp_came byte t = record t { asked = false; byte = if t.asked then Some byte else t.byte }

abbrev pub err_came : Error → EchoHistory → EchoHistory
err_came error t = record t { errors = t.errors ++ error ∷ [] }

-- a clearing ends the echo, and keeps the byte and the ERRs
abbrev pub echo_cleared : EchoHistory → EchoHistory
echo_cleared t = record t { asked = false }

-- If the host was up and no longer is, it was cleared: by a reset, by an RST received, or by going down.
abbrev pub while_up : Phase → Phase → EchoHistory → EchoHistory
while_up before after t = if up before then (if up after then t else echo_cleared t) else t

-- After each call that was done.

abbrev pub echo_done : Option (ℕ × Asked) → EchoHistory → EchoHistory
echo_done (Some (peer, Asks_echo byte)) t = echo_accepted t
echo_done (Some (peer, Asks_reset)) t = echo_cleared t
echo_done other t = t

-- After each command received, whether the host is up or not. An RST clears.

abbrev pub echo_heard_up : Command → EchoHistory → EchoHistory
echo_heard_up (Erp byte) t = erp_came byte t
echo_heard_up (Command.Err code data_bytes) t = err_came (record { code = code; bytes = data_bytes }) t
echo_heard_up c t = t

abbrev pub echo_heard : Bool → Command → EchoHistory → EchoHistory
echo_heard is_up Rst t = echo_cleared t
echo_heard is_up c t = if is_up then echo_heard_up c t else t

abbrev pub echo_heard_all : List Command → PeerState → EchoHistory → EchoHistory
echo_heard_all [] s t = t
echo_heard_all (c ∷ cs) s t = echo_heard_all cs (state_hears c s) (while_up s.peer.phase (state_hears c s).peer.phase (echo_heard (up s.peer.phase) c t))

-- After each note: for a control message received, each of its commands, then its fault, for which the
-- host may go down.

abbrev pub commands_read : Result Message MessageFault → List Command
commands_read (Err fault) = []
commands_read (Ok m) = commands_in (bytes_of m.text)

abbrev pub commands_in_message : List Bool → List Command
commands_in_message message = commands_read (message_in message)

abbrev pub echo_noted : HostNote → EchoHistory → EchoHistory
echo_noted (HostNote.Done call) t = echo_done (asked_in call) t
echo_noted note t = t

abbrev pub echo_by : HostNote → PeerState → EchoHistory → EchoHistory
echo_by (HostNote.In message (Received.Control count)) s t =
    while_up (state_hears_all (commands_in_message message) s).peer.phase (note_for (HostNote.In message (Received.Control count)) s).peer.phase
    (echo_heard_all (commands_in_message message) s t)
echo_by note s t = while_up s.peer.phase (note_for note s).peer.phase (echo_noted note t)

-- the history after a list of notes, in order
abbrev pub echo_from : List HostNote → PeerState → EchoHistory → EchoHistory
echo_from [] s t = t
echo_from (note ∷ rest) s t = echo_from rest (note_for note s) (echo_by note s t)

-- the history of all notes of a peer
abbrev pub echo_of : List HostNote → EchoHistory
echo_of all = echo_from all new_state no_echo

-- The host's state for this history: of the ERRs the last 16.

abbrev pub last_of : ℕ → List Error → List Error
last_of many errors = drop (length errors - many) errors

abbrev pub echoes_noted : EchoHistory → Echoes
echoes_noted t = record { awaited = t.asked; echoed = t.byte; errors = last_of MAX_ERRORS t.errors }
