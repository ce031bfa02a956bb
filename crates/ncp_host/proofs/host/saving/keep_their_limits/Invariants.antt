use Rattle.std.proofs.Common.{ℕ, ◌<◌, IfSome, slice_get}
use Rattle.ncp_peer.specs.Soundness.{IsWell}
use Rattle.ncp_peer.specs.Loading.{FitsIn}
use Rattle.ncp_host.proofs.host.saving.keep_their_limits.Given as goal

-- the first of them do
abbrev pub invariant-loop-place : goal.invariant-loop-place
invariant-loop-place g l = (k : ℕ) → k < l.place → IfSome (slice_get l.peers k) (λ s. IsWell s → FitsIn s)
