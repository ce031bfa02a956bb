use Rattle.std.proofs.Common.{◌<◌, ◌^◌, ℕ, refl}
use Rattle.ncp_peer.specs.PeerState.{new_state}
use Rattle.ncp_transcript_two.specs.Subnet.{none_in_transit}
use Rattle.ncp_transcript_two.specs.World.{World}
use Rattle.ncp_transcript_two.specs.OfTranscripts.{IsNewBetween}
use Rattle.ncp_transcript_two.proofs.laws.worlds_can_begin.Goals as goal

begins : (here there : ℕ) → here < 2 ^ 8 → there < 2 ^ 8 → (v : World) × IsNewBetween here there v
begins here there h t = (
  record { here = here; there = there; this = new_state; that = new_state; going = none_in_transit; coming = none_in_transit },
  (refl, refl, record { here = h; there = t; this = refl; that = refl; going = λ on. refl; coming = λ on. refl }),
)

pub returns : goal.returns
returns c = begins
