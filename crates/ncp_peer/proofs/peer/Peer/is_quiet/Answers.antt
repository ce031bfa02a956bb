use Rattle.std.proofs.Common.{sym, ap, ◌∙◌, arith}
use Rattle.ncp_slot.specs.Slots.{is_quiet}
use Rattle.ncp_peer.specs.PeerState.{PeerState}
use Rattle.ncp_peer.proofs.Silence.{quiet_where_none, not_quiet}
use Rattle.ncp_peer.proofs.peer.Peer.is_quiet.Goals as goal

pub returns-else-is_empty : goal.returns-else-is_empty
returns-else-is_empty g c =
    let least = c.in-Some.ensures.lowest.least in
    c.if-is_empty.false ∙ sym (not_quiet c.self.inside.slots c.in-Some.link (omega arith) c.in-Some.ensures.last (sym c.is_empty.ensures ∙ c.if-is_empty.false))
    ∙ ap (λ (p : PeerState). is_quiet p.slots) c.self.view_is

pub returns-in-None : goal.returns-in-None
returns-in-None g c = sym (quiet_where_none c.self.inside.slots c.self.inside.kept c.self.invariant.has_kept c.in-None.ensures.lowest) ∙ ap (λ (p : PeerState). is_quiet p.slots) c.self.view_is
