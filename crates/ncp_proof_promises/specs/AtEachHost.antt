-- Properties of each host of a transcript and its own notes.
use Rattle.std.specs.Prelude.{List}
use Rattle.ncp_peer.specs.PeerState.{PeerState}
use Rattle.ncp_transcript.specs.declared.note.HostNote.{HostNote}
use Rattle.ncp_proof_runs.specs.Peers.{notes_of_peer}
use Rattle.ncp_transcript_two.specs.declared.note.Note.{Note}
use Rattle.ncp_transcript_two.specs.declared.side.Side.{Side}
use Rattle.ncp_transcript_two.specs.Between.{Hosts, other, side_number, host_of}
use Rattle.ncp_transcript_two.specs.Sides.{notes_at}
use Rattle.ncp_transcript_two.specs.Transcript.{IsTranscript}
use Rattle.ncp_transcript_two.specs.Seen.{had_for}

-- it holds for the host's own notes of the other, and its state for the other
abbrev pub AtEachHost : (List HostNote → PeerState → Type 0) → Type 0
AtEachHost holds =
    (notes : List Note) (w : Hosts) (side : Side) → IsTranscript notes w → holds (notes_of_peer (side_number (other side) w) (notes_at side notes)) (had_for (side_number (other side) w) (host_of side w))
