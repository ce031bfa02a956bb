-- The note of an input, by the rules at the state of the host before it.
use Rattle.std.specs.Prelude.{◌≡◌, ◌⊎◌, ℕ, ◌==◌, Bool, true, ◌||◌, if◌then◌else◌, List, Option, None, Some, Result, Ok, Err}
use Rattle.ncp_leader.specs.declared.leader.Leader.{Leader}
use Rattle.ncp_leader.specs.declared.leader.Short.{Short}
use Rattle.ncp_leader.specs.Leader.{leader_in}
use Rattle.ncp_model.specs.declared.call_fault.CallFault.TheVariants.{OutOfMemory}
use Rattle.ncp_peer.specs.declared.received.Received.{Received}
use Rattle.ncp_peer.specs.PeerState.{PeerState}
use Rattle.ncp_host.specs.Host.{Host, state_of}
use Rattle.ncp_peer.specs.Hearing.{rfnm, destination_dead, incomplete, answer_of}
use Rattle.ncp_host.specs.Arrivals.{received_in}
use Rattle.ncp_host.specs.Turns.{next_output}
use Rattle.ncp_transcript.specs.declared.call.Call.{Call}
use Rattle.ncp_transcript.specs.declared.input.Input.{Input}
use Rattle.ncp_transcript.specs.declared.input.Input.TheVariants as inputs
use Rattle.ncp_transcript.specs.declared.note.HostNote.{HostNote}
use Rattle.ncp_transcript.specs.declared.note.HostNote.TheVariants.{Refused, Done, Out, Nothing, In, Answered}
use Rattle.ncp_transcript.specs.Answers.{answer_to, takes_memory}

-- A call is noted with its answer by the rules. One that allocates may be refused on allocation failure,
-- but only if no other refusal applies.

-- the call allocates, nothing else refuses it, and an allocation failure is noted
pub record IsOutOfMemory (call : Call) (note : HostNote) (h : Host) : Type 0 where
  pub takes : takes_memory call ≡ true
  pub good : answer_to call h ≡ Done call
  pub said : note ≡ Refused call OutOfMemory

abbrev pub CallNoted : Call → HostNote → Host → Type 0
CallNoted call note h = (note ≡ answer_to call h) ⊎ IsOutOfMemory call note h

-- Received bits: an answer about a message to a peer is noted as one, and all other bits with their
-- result.

-- the type of an answer (BBN 1822, section 3)
abbrev pub is_answer : ℕ → Bool
is_answer kind = kind == rfnm || kind == destination_dead || kind == incomplete

-- the leader of bits that are an answer about a message to a peer
abbrev pub if_peer : Option PeerState → Leader → Option Leader
if_peer None leader = None
if_peer (Some s) leader = Some leader

abbrev pub answer_with : Result Leader Short → Host → Option Leader
answer_with (Err short) h = None
answer_with (Ok leader) h = if is_answer leader.kind then if_peer (state_of h leader.host) leader else None

abbrev pub answer_in : List Bool → Host → Option Leader
answer_in bits h = answer_with (leader_in bits) h

abbrev pub note_as : Option Leader → List Bool → Received → HostNote
note_as None bits received = In bits received
note_as (Some leader) bits received = Answered leader.host leader.link (answer_of leader.kind) received

abbrev pub note_of_bits : List Bool → Host → HostNote
note_of_bits bits h = note_as (answer_in bits h) bits (received_in bits h)

-- The next message, or nothing if no link is ready.

abbrev pub note_of_message : Option (List Bool) → HostNote
note_of_message None = Nothing
note_of_message (Some message) = Out message

abbrev pub note_of_output : Host → HostNote
note_of_output h = note_of_message (next_output h)

abbrev pub HostNoted : Input → HostNote → Host → Type 0
HostNoted (inputs.Call call) note h = CallNoted call note h
HostNoted (inputs.In bits) note h = note ≡ note_of_bits bits h
HostNoted inputs.Out note h = note ≡ note_of_output h
