-- The moves of the notes of two hosts, and the moves they allow. A new message makes three moves: it is
-- sent, delivered, and answered.
use Rattle.std.specs.Prelude.{ℕ, ◌+◌, ◌*◌, ◌≤◌, List, [], ◌∷◌, Option, None, Some}
use Rattle.std.specs.FinMap.{get}
use Rattle.ncp_proof_machine.specs.Resets.{Party, This, That}
use Rattle.ncp_proof_machine.specs.Hosts.{TwoNodes}
use Rattle.ncp_transcript.specs.Asked.{Asked, Asks, Asks_echo, Asks_reset, Asks_wake}
use Rattle.ncp_transcript_two.specs.World.{World, swap, NoteBody, Called, Out, In, Went_lost, Went_dead, Answered, Nothing}
use Rattle.ncp_transcript_two.specs.Tie.{Refines}
use Rattle.ncp_transcript_two.specs.declared.note.Note.{Note}
use Rattle.ncp_transcript_two.specs.Between.{Hosts, hosts_after_note, hosts_after_notes}
use Rattle.ncp_transcript_two.specs.Transcript.{began}
use Rattle.ncp_transcript_two.specs.Seen.{seen, as_rules, body_of, side_of}
use Rattle.ncp_proof_progress.specs.Work.{call_budget}
use Rattle.ncp_proof_progress.specs.HostsWork.{work}

-- one move for each sending, delivery, loss, dead destination and answer
abbrev pub body_moves : NoteBody → ℕ
body_moves (Called asked reply) = 0
body_moves (Out message) = 1
body_moves (In on message received) = 1
body_moves (Went_lost on) = 1
body_moves (Went_dead on) = 1
body_moves (Answered on how received) = 1
body_moves Nothing = 0

-- a call that was done allows three moves for each message of its `call_budget`; the budget of a text
-- given is two messages for each of its bytes, in the byte size of the end
abbrev pub call_allows : Asked → World → ℕ
call_allows (Asks pair call) v = 3 * call_budget call (get v.this.peer.ends pair)
call_allows (Asks_echo byte) v = 6
call_allows Asks_reset v = 6
call_allows Asks_wake v = 0

-- a lost message is sent again; one to a dead destination is woken first
abbrev pub body_allows : NoteBody → World → ℕ
body_allows (Called asked reply) v = call_allows asked v
body_allows (Went_lost on) v = 3
body_allows (Went_dead on) v = 4
body_allows told v = 0

-- the world with the host of a note's side as this host
abbrev pub from_side : Party → World → World
from_side This v = v
from_side That v = swap v

-- the moves of a note's body, if it has one; a refused call has none, and so allows nothing
abbrev pub note_moves : Option NoteBody → ℕ
note_moves None = 0
note_moves (Some told) = body_moves told

abbrev pub note_allows : Party → Option NoteBody → World → ℕ
note_allows side None v = 0
note_allows side (Some told) v = body_allows told (from_side side v)

-- the moves of all notes; then: the moves they allow, from these hosts on
unfoldable pub notes_move : List Note → ℕ
notes_move [] = 0
notes_move (note ∷ rest) = note_moves (body_of note) + notes_move rest

unfoldable pub notes_allow : List Note → Hosts → ℕ
notes_allow [] w = 0
notes_allow (note ∷ rest) w = note_allows (as_rules (side_of note)) (body_of note) (seen w) + notes_allow rest (hosts_after_note note w)

-- The moves of a transcript, plus the work left to two hosts of the model that the observed state
-- refines, are at most what its calls, losses and dead destinations allow.
abbrev pub MovesAreBounded : List Note → Hosts → Type 0
MovesAreBounded notes w = (x : TwoNodes) × Refines x (seen w) × (notes_move notes + work x ≤ notes_allow notes (began w))

-- From any state of a transcript on: the later moves are at most the work left there, plus what the later
-- calls, losses and dead destinations allow.
abbrev pub MoreIsBounded : List Note → List Note → Hosts → Type 0
MoreIsBounded before after w =
    (x : TwoNodes) × Refines x (seen (hosts_after_notes before (began w))) × (notes_move before + work x ≤ notes_allow before (began w))
    × (notes_move after ≤ work x + notes_allow after (hosts_after_notes before (began w)))
