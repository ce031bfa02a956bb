use Rattle.std.proofs.Common.{◌≡◌, false, subst}
use Rattle.ncp_model.specs.Phase.{up}
use Rattle.ncp_model.specs.Ends.{no_ends}
use Rattle.ncp_model.specs.Peers.{Peer}
use Rattle.ncp_peer.specs.Loading.{FitPeer}
use Rattle.ncp_peer.proofs.association.Association.keeps_its_limits.Goals as goal

pub returns : goal.returns
returns g c =
    subst (λ (p : Peer). (up p.phase ≡ false → p.ends ≡ no_ends) → FitPeer p) c.self.view_is (λ down. record {
      queue = c.keeps_its_limits.ensures.fits;
      bytes = c.keeps_its_limits.ensures.data;
      ends = record {
        own = c.keeps_its_limits-2.ensures.own;
        by_peer = c.keeps_its_limits-2.ensures.by_peer;
        hears = c.keeps_its_limits-2.ensures.hears;
        uses = c.keeps_its_limits-2.ensures.uses;
        each = c.connections_are_possible.ensures;
      };
      down = down;
      echoes = record { few = c.keeps_its_limits-3.ensures.few; whole = c.keeps_its_limits-3.ensures.whole };
    })
