use Rattle.std.proofs.Common.{ℕ, ◌≤◌, ◌<◌, IfSome, None}
use Rattle.std.specs.Prelude.{slice_get}
use Rattle.ncp_peer.specs.PeerState.{control_link}
use Rattle.ncp_peer.specs.Silence.{SilentFrom}
use Rattle.ncp_host.proofs.host.first_not_idle.Given as goal

abbrev pub invariant-loop-place : goal.invariant-loop-place
invariant-loop-place g l = (at : ℕ) → l.from ≤ at → at < l.place → IfSome (slice_get l.peers at) (SilentFrom control_link None)
