use Rattle.std.proofs.Common.{None, subst, sym, ◌∙◌, ap}
use Rattle.std.specs.Option.{is_some}
use Rattle.ncp_peer.specs.PeerState.{PeerState}
use Rattle.ncp_peer.specs.Silence.{SilentFrom}
use Rattle.ncp_peer.proofs.Silence.{silent_where_idle}
use Rattle.ncp_peer.proofs.peer.Peer.is_idle.Goals as goal

pub returns : goal.returns
returns g c =
    let s : PeerState = record { peer = c.self.inside.association; slots = c.self.inside.slots; counts = c.self.inside.counts } in
    λ h. subst (λ (q : PeerState). SilentFrom 0 None q) c.self.view_is
    (silent_where_idle s c.self.inside.again c.first_from.result c.next_cut.result c.self.invariant.has_ready c.first_from.ensures.lowest
    (sym c.is_some.ensures ∙ c.if-is_some.false) c.next_cut.ensures (sym c.is_some-2.ensures ∙ c.if-is_some-2.false)
    (ap is_some (sym c.waiting.ensures) ∙ sym c.is_some-3.ensures ∙ c.if-is_some-3.false))
