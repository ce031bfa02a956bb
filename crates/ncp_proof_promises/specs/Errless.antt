-- Between two hosts no ERR is ever underway (queued or in flight), and none was received.
use Rattle.std.specs.Prelude.{◌≡◌, false, []}
use Rattle.std.specs.List.{list_any}
use Rattle.ncp_peer.specs.PeerState.{PeerState}
use Rattle.ncp_transcript_two.specs.Subnet.{TransitByLink}
use Rattle.ncp_transcript_two.specs.Underway.{underway}
use Rattle.ncp_proof_promises.specs.Judged.{is_error}

-- no ERR is queued at the host or in its undelivered message, and it received none
abbrev pub HasNoErr : PeerState → TransitByLink → Type 0
HasNoErr s u = (list_any is_error (underway s u) ≡ false) × (s.peer.echoes.errors ≡ [])
