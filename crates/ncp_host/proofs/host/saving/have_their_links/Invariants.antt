use Rattle.std.proofs.Common.{take}
use Rattle.std.specs.List.{All}
use Rattle.ncp_slot.specs.Links.{HasItsLinks}
use Rattle.ncp_peer.specs.PeerState.{PeerState}
use Rattle.ncp_host.proofs.host.saving.have_their_links.Given as goal

-- the first of them have
abbrev pub invariant-loop-place : goal.invariant-loop-place
invariant-loop-place g l = All (λ (s : PeerState). HasItsLinks s.slots) (take l.place l.peers)
