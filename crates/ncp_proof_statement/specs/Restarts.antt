-- The notes of a restart for a peer: an Incomplete Transmission on each link with an unacknowledged
-- message, from the lowest link up.
use Rattle.std.specs.Prelude.{◌≡◌, ◌≢◌, ℕ, Bool, true, false, List, [], ◌∷◌, ◌++◌}
use Rattle.ncp_wire.specs.declared.answer.Answer.TheVariants.{Incomplete}
use Rattle.ncp_peer.specs.declared.received.Received.{Received}
use Rattle.ncp_slot.specs.Slots.{HasSlot}
use Rattle.ncp_subnet.specs.declared.transit.Transit.TheVariants.{Delivered}
use Rattle.ncp_host.specs.Host.{Host, state_of, new_host}
use Rattle.ncp_peer.specs.Output.{links}
use Rattle.ncp_host.specs.Restarting.{is_message_out, incomplete_comes}
use Rattle.ncp_transcript.specs.declared.note.HostNote.{HostNote}
use Rattle.ncp_transcript.specs.After.{after_notes}
use Rattle.ncp_transcript_two.specs.declared.side.Side.{Side}
use Rattle.ncp_transcript_two.specs.declared.side.Side.TheVariants.{A, B}
use Rattle.ncp_statement.specs.Statement.{link_state}
use Rattle.ncp_proof_statement.specs.Notes.{SidedNotes, notes_by, as_notes}

abbrev pub answer_noted_if : Bool → ℕ → ℕ → List HostNote → List HostNote
answer_noted_if true number on rest = HostNote.Answered number on Incomplete Received.Answered ∷ rest
answer_noted_if false number on rest = rest

abbrev pub incompletes_noted : ℕ → List ℕ → Host → List HostNote
incompletes_noted number [] h = []
incompletes_noted number (on ∷ ons) h = answer_noted_if (is_message_out on (state_of h number)) number on (incompletes_noted number ons (incomplete_comes number on h))

abbrev pub notes_of_restart : ℕ → Host → List HostNote
notes_of_restart number h = incompletes_noted number links h

-- no message to a peer is unanswered
abbrev pub NoneUnanswered : ℕ → Host → Type 0
NoneUnanswered number h = (on : ℕ) → HasSlot on → is_message_out on (state_of h number) ≡ false

-- The notes of two hosts, the last of them those of a restart at the host of one side.

abbrev pub noted_at : Side → List HostNote → SidedNotes
noted_at side [] = []
noted_at side (n ∷ ns) = (side, n) ∷ noted_at side ns

abbrev pub restart_noted : Side → ℕ → ℕ → SidedNotes → List HostNote
restart_noted A a b ns = notes_of_restart b (after_notes (notes_by A ns) (new_host a (b ∷ [])))
restart_noted B a b ns = notes_of_restart a (after_notes (notes_by B ns) (new_host b (a ∷ [])))

abbrev pub with_restart : Side → ℕ → ℕ → SidedNotes → SidedNotes
with_restart side a b ns = ns ++ noted_at side (restart_noted side a b ns)

-- by the notes, none of the unanswered messages of a side arrived
abbrev pub NoneArrived : Side → SidedNotes → Type 0
NoneArrived side ns = (on : ℕ) → link_state side on (as_notes ns) ≢ Delivered
