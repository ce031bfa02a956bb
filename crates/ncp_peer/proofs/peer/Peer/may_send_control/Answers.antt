use Rattle.std.proofs.Common.{subst, sym, ◌∙◌, ap}
use Rattle.ncp_peer.specs.PeerState.{PeerState, control_link}
use Rattle.ncp_peer.specs.Silence.{IsSilent}
use Rattle.std.specs.Option.{is_some}
use Rattle.ncp_peer.proofs.Silence.{silent_control}
use Rattle.ncp_peer.proofs.peer.Peer.may_send_control.Goals as goal

pub returns : goal.returns
returns g c =
    let s : PeerState = record { peer = c.self.inside.association; slots = c.self.inside.slots; counts = c.self.inside.counts } in
    λ h. subst (λ (q : PeerState). IsSilent control_link q) c.self.view_is
    (silent_control s (sym c.is_empty.ensures ∙ c.if-not-is_empty.false) (ap is_some (sym c.waiting.ensures) ∙ sym c.is_some.ensures ∙ h))
