-- Properties of each side of a transcript: of the host's state for the other, and of its history
-- variables.
use Rattle.std.specs.Prelude.{ℕ, List}
use Rattle.ncp_proof_machine.specs.Watching.{HistoryVars}
use Rattle.ncp_peer.specs.PeerState.{PeerState}
use Rattle.ncp_transcript.specs.declared.note.HostNote.{HostNote}
use Rattle.ncp_proof_runs.specs.Peers.{notes_of_peer}
use Rattle.ncp_proof_runs.specs.Making.{Made, made_of}
use Rattle.ncp_transcript_two.specs.declared.note.Note.{Note}
use Rattle.ncp_transcript_two.specs.declared.side.Side.{Side}
use Rattle.ncp_transcript_two.specs.Between.{Hosts, other, side_number, host_of}
use Rattle.ncp_transcript_two.specs.Sides.{notes_at}
use Rattle.ncp_transcript_two.specs.Transcript.{began, IsTranscript}
use Rattle.ncp_transcript_two.specs.Seen.{seen, had_for}
use Rattle.ncp_proof_promises.specs.Since.{watch_at, none_watched, watched_from, IsSilentWhileDown}

-- it holds for the number of the other host, the host's own notes of it, and its state for it
abbrev pub AtEachSide : (ℕ → List HostNote → PeerState → Type 0) → Type 0
AtEachSide holds =
    (notes : List Note) (w : Hosts) (side : Side) → IsTranscript notes w → holds (side_number (other side) w) (notes_of_peer (side_number (other side) w) (notes_at side notes)) (had_for (side_number (other side) w) (host_of side w))

-- it holds for a host's history variables, and the commands that its own notes show it made
abbrev pub AtEachWatch : (HistoryVars → Made → Type 0) → Type 0
AtEachWatch holds =
    (notes : List Note) (w : Hosts) (side : Side) → IsTranscript notes w → holds (watch_at side (watched_from notes (began w) none_watched)) (made_of (notes_of_peer (side_number (other side) w) (notes_at side notes)))

-- each host that is not up has made and received no command since it was last cleared
abbrev pub AreSilentWhileDown : List Note → Hosts → Type 0
AreSilentWhileDown notes w =
    IsSilentWhileDown (seen w).this (watched_from notes (began w) none_watched).this × IsSilentWhileDown (seen w).that (watched_from notes (began w) none_watched).that
