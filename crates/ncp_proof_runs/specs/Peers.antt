-- The notes of each peer, and the state for it that they alone determine.
use Rattle.std.specs.Prelude.{◌≡◌, ℕ, ◌<◌, ◌==◌, Bool, false, true, if◌then◌else◌, List, [], ◌∷◌, Option, None, Some, Result, Ok, Err}
use Rattle.std.specs.List.{filter}
use Rattle.ncp_leader.specs.declared.leader.Leader.{Leader}
use Rattle.ncp_leader.specs.declared.leader.Short.{Short}
use Rattle.ncp_leader.specs.Leader.{leader_in}
use Rattle.ncp_leader.specs.Message.{message_in}
use Rattle.ncp_model.specs.Peers.{Take}
use Rattle.ncp_host.specs.declared.ignored.Ignored.{Ignored}
use Rattle.ncp_peer.specs.declared.received.Received.{Received}
use Rattle.ncp_peer.specs.Counting.{one_more}
use Rattle.ncp_peer.specs.PeerState.{PeerState, state_calls, answer_comes}
use Rattle.ncp_peer.specs.Hearing.{regular, message_after}
use Rattle.ncp_peer.specs.Output.{after_output}
use Rattle.ncp_host.specs.Host.{is_one_of, are_distinct, new_host}
use Rattle.ncp_transcript.specs.declared.note.HostNote.{HostNote}
use Rattle.ncp_transcript.specs.Asked.{Asked, asked_in, state_after_asked, peer_of_call}
use Rattle.ncp_transcript.specs.Runs.{IsHostRun}

-- the notes of a host from its beginning: its peers are distinct, and each number fits a leader
pub record FromBeginning (me : ℕ) (ns : List ℕ) (notes : List HostNote) : Type 0 where
  pub distinct : are_distinct ns ≡ true
  pub places : (n : ℕ) → is_one_of n ns ≡ true → n < 256
  pub run : IsHostRun notes (new_host me ns)

-- The peer that a note names.

-- a regular message names the host of its leader: its source or its destination (BBN 1822, section 3)
abbrev pub peer_of_leader : Result Leader Short → Option ℕ
peer_of_leader (Err short) = None
peer_of_leader (Ok leader) = if leader.kind == regular then Some leader.host else None

abbrev pub peer_of_note : HostNote → Option ℕ
peer_of_note (HostNote.Refused call fault) = peer_of_call call
peer_of_note (HostNote.Done call) = peer_of_call call
peer_of_note (HostNote.Took peer pair bytes text) = Some peer
peer_of_note (HostNote.State peer pair record_read) = Some peer
peer_of_note (HostNote.Phase peer flags) = Some peer
peer_of_note (HostNote.Echoed peer byte) = Some peer
peer_of_note (HostNote.Errors peer errors) = Some peer
peer_of_note (HostNote.Counts peer counts) = Some peer
peer_of_note (HostNote.Waiting peer place command) = Some peer
peer_of_note (HostNote.Kept peer link message) = Some peer
peer_of_note (HostNote.Ignored ignored) = None
peer_of_note (HostNote.Out message) = peer_of_leader (leader_in message)
peer_of_note HostNote.Nothing = None
peer_of_note (HostNote.In message received) = peer_of_leader (leader_in message)
peer_of_note (HostNote.Answered peer link answer received) = Some peer

abbrev pub is_this_number : ℕ → Option ℕ → Bool
is_this_number n None = false
is_this_number n (Some m) = m == n

abbrev pub names : ℕ → HostNote → Bool
names n note = is_this_number n (peer_of_note note)

abbrev pub notes_of_peer : ℕ → List HostNote → List HostNote
notes_of_peer n all = filter (names n) all

-- The state for the peer that a note names, after the note.

abbrev pub state_asked : Option (ℕ × Asked) → PeerState → PeerState
state_asked None s = s
state_asked (Some (peer, asked)) s = state_after_asked asked s

abbrev pub bits_for : Result Leader Short → List Bool → PeerState → PeerState
bits_for (Err short) bits s = s
bits_for (Ok leader) bits s = message_after leader.link bits (message_in bits) s

abbrev pub out_for : Result Leader Short → List Bool → PeerState → PeerState
out_for (Err short) message s = s
out_for (Ok leader) message s = after_output leader.link message s

abbrev pub note_for : HostNote → PeerState → PeerState
note_for (HostNote.Done call) s = state_asked (asked_in call) s
note_for (HostNote.Took peer pair bytes text) s = state_calls pair (Take bytes) s
note_for (HostNote.Out message) s = out_for (leader_in message) message s
note_for (HostNote.In message received) s = bits_for (leader_in message) message s
note_for (HostNote.Answered peer link answer received) s = answer_comes link answer s
note_for other s = s

-- the state after a list of notes, in order
abbrev pub notes_for : List HostNote → PeerState → PeerState
notes_for [] s = s
notes_for (note ∷ rest) s = notes_for rest (note_for note s)

-- Ignored messages: too short for a leader, of another type, or from a host that is no peer.

abbrev pub ignored_more : Received → Ignored → Ignored
ignored_more Received.Short i = record i { short = one_more i.short }
ignored_more (Received.Other kind) i = record i { other = one_more i.other }
ignored_more Received.Unknown i = record i { unknown = one_more i.unknown }
ignored_more told i = i

abbrev pub ignored_after : HostNote → Ignored → Ignored
ignored_after (HostNote.In message told) i = ignored_more told i
ignored_after other i = i

abbrev pub ignored_by : List HostNote → Ignored → Ignored
ignored_by [] i = i
ignored_by (note ∷ rest) i = ignored_by rest (ignored_after note i)
