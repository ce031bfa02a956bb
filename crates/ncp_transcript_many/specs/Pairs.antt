-- The notes of two hosts among those of two to eight, read off the notes alone; and the notes of one
-- host.
use Rattle.std.specs.Prelude.{◌≡◌, ◌≢◌, ℕ, ◌==◌, true, ◌&&◌, if◌then◌else◌, List, [], ◌∷◌, ◌++◌, Option, None, Some}
use Rattle.ncp_transcript.specs.declared.note.HostNote.{HostNote}
use Rattle.ncp_transcript.specs.Runs as runs
use Rattle.ncp_proof_runs.specs.Peers.{peer_of_note}
use Rattle.ncp_transcript_two.specs.declared.side.Side.{Side}
use Rattle.ncp_transcript_two.specs.declared.side.Side.TheVariants.{A, B}
use Rattle.ncp_transcript_two.specs.declared.note.Move.TheVariants as moves
use Rattle.ncp_transcript_two.specs.declared.note.Note.{Note}
use Rattle.ncp_transcript_two.specs.declared.note.Note.TheVariants as notes
use Rattle.ncp_transcript_two.specs.Between.{Hosts, new_hosts, hosts_after_notes}
use Rattle.ncp_transcript_two.specs.Seen.{seen}
use Rattle.ncp_transcript_many.specs.declared.many_event.ManyEvent.{ManyEvent}
use Rattle.ncp_transcript_many.specs.declared.many_event.ManyEvent.TheVariants as events
use Rattle.ncp_transcript_many.specs.declared.many_note.ManyNote.{ManyNote}
use Rattle.ncp_transcript_many.specs.declared.many_note.ManyNote.TheVariants as many
use Rattle.ncp_transcript_many.specs.Network.{Network, is_there, host_at, between}

-- The two hosts that a note names, the caller or the sender first: of a call, the host and the peer; of
-- an output, the host and the destination; of an event of the subnet, the sender and the destination.

abbrev pub with_peer : ℕ → Option ℕ → Option (ℕ × ℕ)
with_peer host None = None
with_peer host (Some peer) = Some (host, peer)

abbrev pub ways_of : ManyEvent → Option (ℕ × ℕ)
ways_of (events.Call host call) = None
ways_of (events.Out host) = None
ways_of (events.Deliver from to link) = Some (from, to)
ways_of (events.Lose from to link) = Some (from, to)
ways_of (events.Dead from to link) = Some (from, to)
ways_of (events.Answer from to link) = Some (from, to)

abbrev pub two_of : ManyNote → Option (ℕ × ℕ)
two_of (many.Called host note) = with_peer host (peer_of_note note)
two_of (many.Out host note) = with_peer host (peer_of_note note)
two_of (many.Came from to link note) = Some (from, to)
two_of (many.Lost from to link) = Some (from, to)
two_of (many.FoundDead from to link) = Some (from, to)
two_of (many.Answered from to link note) = Some (from, to)
two_of (many.Nothing event) = ways_of event

-- the side of the first, if these are the two hosts of a world of two
abbrev pub side_of_pair : ℕ → ℕ → Option (ℕ × ℕ) → Option Side
side_of_pair a b None = None
side_of_pair a b (Some p) = if p.0 == a && p.1 == b then Some A else (if p.0 == b && p.1 == a then Some B else None)

-- A note as a note of two hosts, with the side of the caller or the sender.

abbrev pub vain : Side → ManyEvent → List Note
vain side (events.Call host call) = []
vain side (events.Out host) = []
vain side (events.Deliver from to link) = notes.Nothing side link moves.Deliver ∷ []
vain side (events.Lose from to link) = notes.Nothing side link moves.Lose ∷ []
vain side (events.Dead from to link) = notes.Nothing side link moves.Dead ∷ []
vain side (events.Answer from to link) = notes.Nothing side link moves.Answer ∷ []

abbrev pub on_side : Side → ManyNote → List Note
on_side side (many.Called host note) = notes.Called side note ∷ []
on_side side (many.Out host note) = notes.Out side note ∷ []
on_side side (many.Came from to link note) = notes.Came side link note ∷ []
on_side side (many.Lost from to link) = notes.Lost side link ∷ []
on_side side (many.FoundDead from to link) = notes.FoundDead side link ∷ []
on_side side (many.Answered from to link note) = notes.Answered side link note ∷ []
on_side side (many.Nothing event) = vain side event

abbrev pub if_side : Option Side → ManyNote → List Note
if_side None note = []
if_side (Some side) note = on_side side note

-- the note, if it names both hosts, with the first at side A
abbrev pub note_between : ℕ → ℕ → ManyNote → List Note
note_between a b note = if_side (side_of_pair a b (two_of note)) note

abbrev pub notes_between : ℕ → ℕ → List ManyNote → List Note
notes_between a b [] = []
notes_between a b (note ∷ rest) = note_between a b note ++ notes_between a b rest

-- the world of two that these notes lead to
abbrev pub hosts_between : ℕ → ℕ → List ManyNote → Hosts
hosts_between a b ns = hosts_after_notes (notes_between a b ns) (new_hosts a b)

-- it holds for the notes of each two hosts, and the world of two that they lead to
abbrev pub ForEachPair : (List Note → Hosts → Type 0) → List ManyNote → Network → Type 0
ForEachPair P ns m = (a b : ℕ) → is_there a m ≡ true → is_there b m ≡ true → a ≢ b → P (notes_between a b ns) (hosts_between a b ns)

-- it holds for the notes of each two hosts, and these two as they are among all
abbrev pub ForEachTwo : (List Note → Hosts → Type 0) → List ManyNote → Network → Type 0
ForEachTwo P ns m = (a b : ℕ) → is_there a m ≡ true → is_there b m ≡ true → a ≢ b → P (notes_between a b ns) (between a b m)

-- the observed state of each two hosts among all is that of the world of two that their notes lead to
abbrev pub SeenOfEachPair : List ManyNote → Network → Type 0
SeenOfEachPair ns m = (a b : ℕ) → is_there a m ≡ true → is_there b m ≡ true → a ≢ b → seen (hosts_between a b ns) ≡ seen (between a b m)

-- The notes of one host: its calls, its output, and its arrivals.

abbrev pub if_at : ℕ → ℕ → HostNote → List HostNote
if_at number host note = if host == number then note ∷ [] else []

abbrev pub note_at_host : ℕ → ManyNote → List HostNote
note_at_host number (many.Called host note) = if_at number host note
note_at_host number (many.Out host note) = if_at number host note
note_at_host number (many.Came from to link note) = if_at number to note
note_at_host number (many.Answered from to link note) = if_at number from note
note_at_host number rest = []

abbrev pub notes_at_host : ℕ → List ManyNote → List HostNote
notes_at_host number [] = []
notes_at_host number (note ∷ rest) = note_at_host number note ++ notes_at_host number rest

-- the notes of each host are a transcript of that host alone
abbrev pub EachOfManyByItself : List ManyNote → Network → Type 0
EachOfManyByItself ns m = (host : ℕ) → is_there host m ≡ true → runs.IsHostTranscript (notes_at_host host ns) (host_at host m)
