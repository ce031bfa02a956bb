-- A run of one host: each note is correct by the rules at the state after the notes before it.
use Rattle.std.specs.Prelude.{◌≡◌, ◌⊎◌, ◌<◌, ℕ, true, List, [], ◌∷◌, Option, None, Some}
use Rattle.ncp_peer.specs.declared.received.Received.{Received}
use Rattle.ncp_peer.specs.PeerState.{PeerState}
use Rattle.ncp_host.specs.Host.{Host, state_of, numbers_of, is_one_of, are_peers, new_host}
use Rattle.ncp_peer.specs.Hearing.{answer_received}
use Rattle.ncp_host.specs.Arrivals.{received_in}
use Rattle.ncp_host.specs.Turns.{next_output}
use Rattle.ncp_transcript.specs.declared.call.Call.TheVariants as calls
use Rattle.ncp_transcript.specs.declared.input.Input.{Input}
use Rattle.ncp_transcript.specs.declared.note.HostNote.{HostNote}
use Rattle.ncp_transcript.specs.declared.note.HostNote.TheVariants as notes
use Rattle.ncp_transcript.specs.Answers.{answer_to}
use Rattle.ncp_transcript.specs.After.{after_note, after_notes}
use Rattle.ncp_transcript.specs.Noting.{IsOutOfMemory, answer_in, HostNoted}

-- the result of receiving an answer for a peer, if the host has that peer
abbrev pub answer_returned : Option PeerState → ℕ → Option Received
answer_returned None link = None
answer_returned (Some s) link = Some (answer_received link s)

-- the correctness of one note at the state before it
abbrev pub IsHostSaid : HostNote → Host → Type 0
IsHostSaid (notes.Refused call fault) h = (answer_to call h ≡ notes.Refused call fault) ⊎ IsOutOfMemory call (notes.Refused call fault) h
IsHostSaid (notes.Done call) h = answer_to call h ≡ notes.Done call
IsHostSaid (notes.Took peer pair bytes text) h = answer_to (calls.Take peer pair bytes) h ≡ notes.Took peer pair bytes text
IsHostSaid (notes.State peer pair r) h = answer_to (calls.State peer pair) h ≡ notes.State peer pair r
IsHostSaid (notes.Phase peer flags) h = answer_to (calls.Phase peer) h ≡ notes.Phase peer flags
IsHostSaid (notes.Echoed peer byte) h = answer_to (calls.Echoed peer) h ≡ notes.Echoed peer byte
IsHostSaid (notes.Errors peer errors) h = answer_to (calls.Errors peer) h ≡ notes.Errors peer errors
IsHostSaid (notes.Counts peer counts) h = answer_to (calls.Counts peer) h ≡ notes.Counts peer counts
IsHostSaid (notes.Waiting peer place command) h = answer_to (calls.Waiting peer place) h ≡ notes.Waiting peer place command
IsHostSaid (notes.Kept peer link message) h = answer_to (calls.Kept peer link) h ≡ notes.Kept peer link message
IsHostSaid (notes.Ignored ignored) h = answer_to calls.Ignored h ≡ notes.Ignored ignored
IsHostSaid (notes.Out message) h = next_output h ≡ Some message
IsHostSaid notes.Nothing h = next_output h ≡ None
IsHostSaid (notes.In message received) h = (answer_in message h ≡ None) × (received_in message h ≡ received)
IsHostSaid (notes.Answered peer link answer received) h = answer_returned (state_of h peer) link ≡ Some received

-- each note is what the rules say at the state before it
abbrev pub IsHostRun : List HostNote → Host → Type 0
IsHostRun [] h = Unit {0}
IsHostRun (note ∷ rest) h = IsHostSaid note h × IsHostRun rest (after_note note h)

-- the notes of inputs, one for each, in order
abbrev pub AreHostNotes : List Input → List HostNote → Host → Type 0
AreHostNotes [] [] h = Unit {0}
AreHostNotes (input ∷ inputs) (note ∷ rest) h = HostNoted input note h × AreHostNotes inputs rest (after_note note h)
AreHostNotes inputs rest h = ⊥

-- the host in its first state, with its number and its peers
abbrev pub host_began : Host → Host
host_began h = new_host h.me (numbers_of h.peers)

-- a transcript: a host can have these peers, and each number fits a leader; the notes are a run from the
-- first state, and lead to the host as it is now
pub record IsHostTranscript (notes : List HostNote) (now : Host) : Type 0 where
  pub peers : are_peers now.me (numbers_of now.peers) ≡ true
  pub fits : (n : ℕ) → is_one_of n (numbers_of now.peers) ≡ true → n < 256
  pub run : IsHostRun notes (host_began now)
  pub state : now ≡ after_notes notes (host_began now)
