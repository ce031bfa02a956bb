use Rattle.std.proofs.Common.{◌≡◌, ◌<◌, ℕ, None}
use Rattle.ncp_host.specs.Host.{state_of}
use Rattle.ncp_peer.specs.PeerCalls.{kept_for}
use Rattle.ncp_world.proofs.keeping.first_kept.Given as goal

-- no message is kept on the links before this one
abbrev pub invariant-loop-link : goal.invariant-loop-link
invariant-loop-link g l = (lower : ℕ) → lower < l.link → kept_for (state_of l.fn.host l.fn.peer) lower ≡ None
