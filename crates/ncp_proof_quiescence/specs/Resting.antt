-- Pending work at a host of a transcript waits for something.
use Rattle.std.specs.Prelude.{◌≡◌, true, false, List}
use Rattle.std.specs.FinMap.{get}
use Rattle.ncp_model.specs.declared.pair.Pair.{Pair}
use Rattle.ncp_slot.specs.Slots.{is_quiet}
use Rattle.ncp_peer.specs.PeerState.{PeerState}
use Rattle.ncp_transcript_two.specs.declared.note.Note.{Note}
use Rattle.ncp_transcript_two.specs.Between.{Hosts}
use Rattle.ncp_transcript_two.specs.Seen.{seen}
use Rattle.ncp_proof_progress.specs.Idle.{LeavingAt}

-- an RST wanted and an RRP owed wait for an unacknowledged text; a leaving end waits for the answer to
-- its text, or for its user to take the text it holds
abbrev pub LeftWaits : PeerState → Type 0
LeftWaits s = record {
  want : is_quiet s.slots ≡ true → s.peer.phase.want ≡ false;
  owe : is_quiet s.slots ≡ true → s.peer.phase.owe ≡ false;
  ends : (pair : Pair) → LeavingAt pair (get s.peer.ends pair);
}

-- at both hosts of a transcript
abbrev pub IsLeftWaiting : List Note → Hosts → Type 0
IsLeftWaiting notes w = LeftWaits (seen w).this × LeftWaits (seen w).that
