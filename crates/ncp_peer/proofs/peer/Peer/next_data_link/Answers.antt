use Rattle.std.proofs.Common.{ℕ, Option, subst, sym}
use Rattle.ncp_peer.specs.PeerState.{PeerState}
use Rattle.ncp_peer.specs.Silence.{SilentFrom}
use Rattle.ncp_peer.proofs.Silence.{silent_to_next}
use Rattle.ncp_peer.proofs.peer.Peer.next_data_link.Goals as goal

pub returns : goal.returns
returns g c =
    let s : PeerState = record { peer = c.self.inside.association; slots = c.self.inside.slots; counts = c.self.inside.counts } in
    subst (λ (q : PeerState). SilentFrom c.args.from c.lower_of.result q) c.self.view_is
    (subst (λ (o : Option ℕ). SilentFrom c.args.from o s) (sym c.lower_of.ensures)
    (silent_to_next s c.self.inside.again c.args.from c.first_from-again.result c.next_cut-cut.result c.requires c.self.invariant.has_ready c.first_from-again.ensures.lowest c.first_from-again.ensures.last c.next_cut-cut.ensures))
