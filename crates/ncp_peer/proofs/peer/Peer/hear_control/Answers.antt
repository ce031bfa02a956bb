use Rattle.ncp_peer.specs.PeerState.{PeerState}
use Rattle.ncp_peer.proofs.Receiving.{control_heard}
use Rattle.ncp_slot.specs.Slots.{is_quiet}
use Rattle.std.proofs.Common.{sym, ap, ◌∙◌}
use Rattle.ncp_peer.proofs.peer.Peer.hear_control.Goals as goal

pub returns-clause-state : goal.returns-clause-state
returns-clause-state g c =
    let s : PeerState = record { peer = c.self.inside.association; slots = c.self.inside.slots; counts = c.self.inside.counts } in
    control_heard c.args.message.now c.args.self.now s c.is_quiet-quiet.result c.text.result c.hear_all-count.new.self c.hear_all-count.new.counts
    c.self.view_is (sym c.size.ensures.size ∙ c.if-size-ne-CONTROL_SIZE.false) (c.is_quiet-quiet.ensures ∙ ap (λ (p : PeerState). is_quiet p.slots) (sym c.self.view_is)) c.text.ensures.text c.hear_all-count.ensures.peer c.hear_all-count.ensures.counts
