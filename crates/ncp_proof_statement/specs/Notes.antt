-- The notes that two hosts make, each by itself, over an unknown subnet.
use Rattle.std.specs.Prelude.{ℕ, ◌==◌, if◌then◌else◌, List, [], ◌∷◌, ◌++◌}
use Rattle.ncp_subnet.specs.Messages.{link_in}
use Rattle.ncp_transcript.specs.declared.note.HostNote.{HostNote}
use Rattle.ncp_transcript.specs.declared.note.HostNote.TheVariants as of_host
use Rattle.ncp_transcript.specs.declared.call.Call.TheVariants as calls
use Rattle.ncp_proof_runs.specs.Peers.{names}
use Rattle.ncp_transcript_two.specs.declared.side.Side.{Side}
use Rattle.ncp_transcript_two.specs.declared.side.Side.TheVariants.{A, B}
use Rattle.ncp_transcript_two.specs.declared.note.Note.{Note}
use Rattle.ncp_transcript_two.specs.declared.note.Note.TheVariants as notes
use Rattle.ncp_transcript_two.specs.Between.{other}
use Rattle.ncp_transcript_two.specs.Seen.{CallFits}
use Rattle.ncp_transcript_two.specs.Sides.{if_same}

-- the notes of two hosts, each with the side of the host that made it, in the order in which they were made
abbrev pub SidedNotes : Type 0
SidedNotes = List (Side × HostNote)

-- the notes of the host of one side
abbrev pub notes_by : Side → SidedNotes → List HostNote
notes_by side [] = []
notes_by side (n ∷ ns) = if_same side n.0 n.1 ++ notes_by side ns

-- The same as notes of a world. A message that a host receives is one of the other side, on the link in
-- its leader. An answer is about a message of the host itself.
abbrev pub as_note : Side → HostNote → Note
as_note side (of_host.Out message) = notes.Out side (of_host.Out message)
as_note side of_host.Nothing = notes.Out side of_host.Nothing
as_note side (of_host.In message received) = notes.Came (other side) (link_in message) (of_host.In message received)
as_note side (of_host.Answered peer link how received) = notes.Answered side link (of_host.Answered peer link how received)
as_note side note = notes.Called side note

-- each of the notes as one of a world
abbrev pub as_notes : SidedNotes → List Note
as_notes [] = []
as_notes (n ∷ ns) = as_note n.0 n.1 ∷ as_notes ns

-- the notes of a world without those that its subnet makes itself: a loss, a dead destination, an
-- impossible event
abbrev pub without_subnet : List Note → List Note
without_subnet [] = []
without_subnet (notes.Lost by link ∷ ns) = without_subnet ns
without_subnet (notes.FoundDead by link ∷ ns) = without_subnet ns
without_subnet (notes.Nothing by link wanted ∷ ns) = without_subnet ns
without_subnet (n ∷ ns) = n ∷ without_subnet ns

-- the numbers of each call fit the fields of its commands, as the types of the calls ensure
abbrev pub NotedCallFits : HostNote → Type 0
NotedCallFits (of_host.Refused call fault) = CallFits call
NotedCallFits (of_host.Done call) = CallFits call
NotedCallFits (of_host.Took peer pair bytes text) = CallFits (calls.Take peer pair bytes)
NotedCallFits note = Unit {0}

-- the same of all notes
abbrev pub NotedCallsFit : SidedNotes → Type 0
NotedCallsFit [] = Unit {0}
NotedCallsFit (n ∷ ns) = NotedCallFits n.1 × NotedCallsFit ns

-- from the notes of two hosts that may have other peers, those that name the other of the two
abbrev pub mutual_notes : ℕ → ℕ → SidedNotes → SidedNotes
mutual_notes a b [] = []
mutual_notes a b ((A, note) ∷ ns) = if names b note then (A, note) ∷ mutual_notes a b ns else mutual_notes a b ns
mutual_notes a b ((B, note) ∷ ns) = if names a note then (B, note) ∷ mutual_notes a b ns else mutual_notes a b ns

-- the notes of any number of hosts, each with the number of the host that made it
abbrev pub NumberedNotes : Type 0
NumberedNotes = List (ℕ × HostNote)

abbrev pub notes_of_host : ℕ → NumberedNotes → List HostNote
notes_of_host number [] = []
notes_of_host number (n ∷ ns) = if n.0 == number then n.1 ∷ notes_of_host number ns else notes_of_host number ns

-- the notes of two of them, the first as side A
abbrev pub notes_of_two : ℕ → ℕ → NumberedNotes → SidedNotes
notes_of_two a b [] = []
notes_of_two a b (n ∷ ns) = if n.0 == a then (A, n.1) ∷ notes_of_two a b ns else if n.0 == b then (B, n.1) ∷ notes_of_two a b ns else notes_of_two a b ns
