-- The sums of counted events of a peer, as its notes show them: each note of a counted kind, and each
-- command of a control message (that they are counted is this profile's rule). These sums are unbounded;
-- the host's counts stop at their greatest value. Of the state before a note, only this is read: whether
-- the host is up with the peer, whether it awaits an RRP, and whether the end that a command names is
-- leaving or left.
use Rattle.std.specs.Prelude.{ℕ, ◌+◌, min, Bool, false, not, ◌||◌, if◌then◌else◌, List, [], ◌∷◌, Option, None, Some, Result, Ok, Err}
use Rattle.ncp_numbers.specs.Bytes.{bytes_of}
use Rattle.ncp_leader.specs.declared.fault.MessageFault.{MessageFault}
use Rattle.ncp_leader.specs.Message.{Message, message_in}
use Rattle.ncp_wire.specs.declared.command.Command.{Command}
use Rattle.ncp_wire.specs.declared.command.Command.TheVariants.{All, Gvb, Ret, Inr, Ins, Erp, Rst, Rrp}
use Rattle.ncp_wire.specs.declared.fault.CommandFault.{CommandFault}
use Rattle.ncp_control.specs.Reading.{fault_in}
use Rattle.ncp_model.specs.declared.pair.Pair.{Pair}
use Rattle.ncp_model.specs.declared.limits.TheConstants.{MAX_COUNT}
use Rattle.ncp_model.specs.declared.outcomes.Took.{Took}
use Rattle.ncp_model.specs.Endpoint.{Endpoint}
use Rattle.ncp_model.specs.Ends.{Ends, sender_on, receiver_on}
use Rattle.ncp_model.specs.Phase.{up}
use Rattle.ncp_model.specs.Peers.{Peer}
use Rattle.ncp_peer.specs.declared.counts.Counts.{Counts}
use Rattle.ncp_peer.specs.declared.received.Received.{Received}
use Rattle.ncp_peer.specs.Counting.{no_counts}
use Rattle.ncp_peer.specs.PeerState.{PeerState, new_state}
use Rattle.ncp_peer.specs.Hearing.{state_hears, state_hears_all}
use Rattle.ncp_transcript.specs.declared.note.HostNote.{HostNote}
use Rattle.ncp_proof_runs.specs.Peers.{note_for}
use Rattle.ncp_proof_runs.specs.Echoing.{EchoHistory, no_echo, while_up, echo_heard, commands_in_message, echo_by}

abbrev pub one_if : Bool → ℕ → ℕ
one_if it n = if it then n + 1 else n

-- the counts after the result that a note reports for a message or an answer
abbrev pub counted_as : Received → Counts → Counts
counted_as Received.Stray n = record n { stray = n.stray + 1 }
counted_as (Received.Fault fault) n = record n { faults = n.faults + 1 }
counted_as Received.WrongLink n = record n { wrong_link = n.wrong_link + 1 }
counted_as Received.WrongSize n = record n { wrong_size = n.wrong_size + 1 }
counted_as Received.NotUp n = record n { not_up = n.not_up + 1 }
counted_as (Received.Text Took.Late) n = record n { late = n.late + 1 }
counted_as (Received.Text Took.WrongSize) n = record n { wrong_size = n.wrong_size + 1 }
counted_as (Received.Text Took.Over) n = record n { over = n.over + 1 }
counted_as told n = n

-- A late command names the link of an end that is leaving or left.

abbrev pub end_named : Command → Ends → Option (Pair × Endpoint)
end_named (All on messages bits) m = sender_on on m
end_named (Gvb on fm fb) m = sender_on on m
end_named (Inr on) m = sender_on on m
end_named (Ret on messages bits) m = receiver_on on m
end_named (Ins on) m = receiver_on on m
end_named c m = None

abbrev pub is_late_end : Option (Pair × Endpoint) → Bool
is_late_end None = false
is_late_end (Some p) = p.1.leaving || p.1.left

-- A command received while the host is up: an ERP is stray if no echo is awaited; any other may be late.
abbrev pub counted_up : Command → Peer → EchoHistory → Counts → Counts
counted_up (Erp byte) p t n = record n { stray = one_if (not t.asked) n.stray }
counted_up c p t n = record n { late = one_if (is_late_end (end_named c p.ends)) n.late }

-- An RRP is stray if none is awaited. While the host is not up, any other command except RST is dropped
-- and counted.
abbrev pub counted_heard : Command → Peer → EchoHistory → Counts → Counts
counted_heard Rst p t n = n
counted_heard Rrp p t n = record n { stray = one_if (not p.phase.wait) n.stray }
counted_heard c p t n = if up p.phase then counted_up c p t n else record n { not_up = n.not_up + 1 }

abbrev pub counted_heard_all : List Command → PeerState → EchoHistory → Counts → Counts
counted_heard_all [] s t n = n
counted_heard_all (c ∷ cs) s t n =
    counted_heard_all cs (state_hears c s) (while_up s.peer.phase (state_hears c s).peer.phase (echo_heard (up s.peer.phase) c t)) (counted_heard c s.peer t n)

-- the fault of a control text, dropped while the host is not up

abbrev pub fault_read : Result Message MessageFault → Option CommandFault
fault_read (Err fault) = None
fault_read (Ok m) = fault_in (bytes_of m.text)

abbrev pub counted_fault : Option CommandFault → Peer → Counts → Counts
counted_fault None p n = n
counted_fault (Some fault) p n = record n { not_up = one_if (not (up p.phase)) n.not_up }

-- The counts after each note: for a control message received, each of its commands, then its fault.
abbrev pub counted_by : HostNote → PeerState → EchoHistory → Counts → Counts
counted_by (HostNote.In message (Received.Control count)) s t n =
    counted_fault (fault_read (message_in message)) (state_hears_all (commands_in_message message) s).peer (counted_heard_all (commands_in_message message) s t n)
counted_by (HostNote.In message told) s t n = counted_as told n
counted_by (HostNote.Answered peer link how told) s t n = counted_as told n
counted_by note s t n = n

-- the counts after a list of notes, in order
abbrev pub counted_from : List HostNote → PeerState → EchoHistory → Counts → Counts
counted_from [] s t n = n
counted_from (note ∷ rest) s t n = counted_from rest (note_for note s) (echo_by note s t) (counted_by note s t n)

-- the counts after all notes of a peer
abbrev pub counted_so_far : List HostNote → Counts
counted_so_far all = counted_from all new_state no_echo no_counts

-- the host's counts for these sums
abbrev pub counts_capped : Counts → Counts
counts_capped n = record {
  stray = min n.stray MAX_COUNT;
  faults = min n.faults MAX_COUNT;
  wrong_link = min n.wrong_link MAX_COUNT;
  wrong_size = min n.wrong_size MAX_COUNT;
  not_up = min n.not_up MAX_COUNT;
  late = min n.late MAX_COUNT;
  over = min n.over MAX_COUNT;
}
