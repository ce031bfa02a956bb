-- Properties of each transcript and of each side of it; and of the hosts before a certain note.
use Rattle.std.specs.Prelude.{◌≡◌, ℕ, Bool, List, ◌∷◌, ◌++◌}
use Rattle.ncp_model.specs.declared.pair.Pair.{Pair}
use Rattle.ncp_host.specs.declared.ignored.Ignored.{Ignored}
use Rattle.ncp_peer.specs.PeerState.{PeerState}
use Rattle.ncp_host.specs.Host.{Host}
use Rattle.ncp_transcript.specs.declared.note.HostNote.{HostNote}
use Rattle.ncp_transcript.specs.declared.note.HostNote.TheVariants as of_host
use Rattle.ncp_transcript_two.specs.World.{World, swap, WorldEvent, world_run_from}
use Rattle.ncp_transcript_two.specs.Tie.{IsNewWorld, AreEvents}
use Rattle.ncp_transcript_two.specs.Underway.{NoResetUnderway}
use Rattle.ncp_transcript_two.specs.OnePeer.{one_peer}
use Rattle.ncp_transcript_two.specs.declared.side.Side.{Side}
use Rattle.ncp_transcript_two.specs.declared.event.Event.{Event}
use Rattle.ncp_transcript_two.specs.declared.note.Move.{Move}
use Rattle.ncp_transcript_two.specs.declared.note.Note.{Note}
use Rattle.ncp_transcript_two.specs.declared.note.Note.TheVariants as of_world
use Rattle.ncp_transcript_two.specs.Between.{Hosts, host_of, hosts_after_notes}
use Rattle.ncp_transcript_two.specs.Transcript.{AreNotes, began, IsTranscript}

-- while both hosts are up, no RST or RRP is underway (queued or in flight) in either direction
abbrev pub NoResetEitherWay : World → Type 0
NoResetEitherWay v = NoResetUnderway v × NoResetUnderway (swap v)

-- a new world between hosts with these numbers
abbrev pub IsNewBetween : ℕ → ℕ → World → Type 0
IsNewBetween here there v = (v.here ≡ here) × (v.there ≡ there) × IsNewWorld v

-- it holds for the world after each run from a new one
abbrev pub AfterRunsOfTwo : (World → Type 0) → Type 0
AfterRunsOfTwo holds = (v : World) (events : List WorldEvent) → IsNewWorld v → AreEvents events → holds (world_run_from events v)

-- it holds for a host with one peer: for the peer's number, the host, and its state for the peer
abbrev pub OfOnePeer : (ℕ → Host → PeerState → Type 0) → Type 0
OfOnePeer holds = (me number : ℕ) (ignored : Ignored) (s : PeerState) → holds number (one_peer me number ignored s) s

-- it holds for a list of events and their notes at some hosts
abbrev pub OfEventNotes : (List Event → List Note → Hosts → Type 0) → Type 0
OfEventNotes holds = (events : List Event) (notes : List Note) (w : Hosts) → AreNotes events notes w → holds events notes w

-- it holds for each transcript and the hosts it leads to; then: for each side, and for each pair at each
-- side
abbrev pub OfTranscripts : (List Note → Hosts → Type 0) → Type 0
OfTranscripts holds = (notes : List Note) (w : Hosts) → IsTranscript notes w → holds notes w

abbrev pub OfSides : (Side → List Note → Hosts → Type 0) → Type 0
OfSides holds = (notes : List Note) (w : Hosts) (side : Side) → IsTranscript notes w → holds side notes w

abbrev pub OfPairsAtSides : (Side → Pair → List Note → Hosts → Type 0) → Type 0
OfPairsAtSides holds = (notes : List Note) (w : Hosts) (side : Side) (pair : Pair) → IsTranscript notes w → holds side pair notes w

-- it holds wherever `Nothing` is noted of an event on a link: for the side, the link, the event and the
-- hosts before it; then: for a host that had nothing to send, and for one that sent a message
abbrev pub WhereNothingHappened : (Side → ℕ → Move → Hosts → Type 0) → Type 0
WhereNothingHappened holds =
    (before after : List Note) (w : Hosts) (side : Side) (link : ℕ) (wanted : Move) → IsTranscript (before ++ of_world.Nothing side link wanted ∷ after) w → holds side link wanted (hosts_after_notes before (began w))

abbrev pub WhereNoneWentOut : (Host → Type 0) → Type 0
WhereNoneWentOut holds =
    (before after : List Note) (w : Hosts) (side : Side) → IsTranscript (before ++ of_world.Out side of_host.Nothing ∷ after) w → holds (host_of side (hosts_after_notes before (began w)))

abbrev pub WhereOneWentOut : (List Bool → Host → Type 0) → Type 0
WhereOneWentOut holds =
    (before after : List Note) (w : Hosts) (side : Side) (message : List Bool) → IsTranscript (before ++ of_world.Out side (of_host.Out message) ∷ after) w → holds message (host_of side (hosts_after_notes before (began w)))

-- it holds wherever an arrival is noted: for the side, the link, the note of the host, and the present
-- hosts; then the same for an answer
abbrev pub WhereItCame : (Side → ℕ → HostNote → Hosts → Type 0) → Type 0
WhereItCame holds =
    (before after : List Note) (w : Hosts) (side : Side) (link : ℕ) (note : HostNote) → IsTranscript (before ++ of_world.Came side link note ∷ after) w → holds side link note w

abbrev pub WhereItWasAnswered : (Side → ℕ → HostNote → Hosts → Type 0) → Type 0
WhereItWasAnswered holds =
    (before after : List Note) (w : Hosts) (side : Side) (link : ℕ) (note : HostNote) → IsTranscript (before ++ of_world.Answered side link note ∷ after) w → holds side link note w

-- it holds for each transcript in two parts
abbrev pub OfTwoParts : (List Note → List Note → Hosts → Type 0) → Type 0
OfTwoParts holds = (before after : List Note) (w : Hosts) → IsTranscript (before ++ after) w → holds before after w
