use Rattle.ncp_peer.specs.Hearing.{message_after, message_received}
use Rattle.ncp_peer.specs.PeerState.{PeerState}
use Rattle.ncp_peer.proofs.Receiving.{text_told, text_is_returned, control_told, wrong_received, wrong_heard}
use Rattle.std.proofs.Common.{ℕ, Err, Ok, sym, ap, ◌∙◌}
use Rattle.ncp_peer.proofs.peer.Peer.hear_message.Goals as goal

pub returns-clause-state : goal.returns-clause-state
returns-clause-state g c =
    c.hear_text.ensures.state
    ∙ text_told c.args.link c.args.bits.now c.slice.result c.in-Ok.message c.args.self.now c.if-link-eq-UNUSED_LINK.false c.if-link-gt-LAST_LINK.false c.if-link-eq-CONTROL_LINK.false c.slice.ensures.bits
    ∙ ap (λ r. message_after c.args.link c.args.bits.now r c.args.self.now) (sym c.in-Ok.is ∙ c.read_regular_in.ensures.exact)

pub returns-clause-received : goal.returns-clause-received
returns-clause-received g c =
    c.hear_text.ensures.received
    ∙ text_is_returned c.args.link c.args.bits.now c.in-Ok.message c.args.self.now c.if-link-eq-UNUSED_LINK.false c.if-link-gt-LAST_LINK.false c.if-link-eq-CONTROL_LINK.false
    ∙ ap (λ r. message_received c.args.link r c.args.self.now) (sym c.in-Ok.is ∙ c.read_regular_in.ensures.exact)

pub returns-in-Err-clause-state : goal.returns-in-Err-clause-state
returns-in-Err-clause-state g c =
    let s : PeerState = record { peer = c.self.inside.association; slots = c.self.inside.slots; counts = c.self.inside.counts } in
    ap (λ (n : ℕ). record s { counts = record s.counts { faults = n } }) c.one_more-self-inside.ensures
    ∙ ap (message_after c.args.link c.args.bits.now (Err c.in-Err.fault)) c.self.view_is
    ∙ ap (λ r. message_after c.args.link c.args.bits.now r c.args.self.now) (sym c.in-Err.is ∙ c.read_regular_in.ensures.exact)

pub returns-then-link-eq-UNUSED_LINK-clause-received : goal.returns-then-link-eq-UNUSED_LINK-clause-received
returns-then-link-eq-UNUSED_LINK-clause-received g c =
    wrong_received c.args.link c.args.bits.now c.in-Ok.message c.args.self.now c.then-link-eq-UNUSED_LINK.either
    ∙ ap (λ r. message_received c.args.link r c.args.self.now) (sym c.in-Ok.is ∙ c.read_regular_in.ensures.exact)

pub returns-then-link-eq-UNUSED_LINK-clause-state : goal.returns-then-link-eq-UNUSED_LINK-clause-state
returns-then-link-eq-UNUSED_LINK-clause-state g c =
    let s : PeerState = record { peer = c.self.inside.association; slots = c.self.inside.slots; counts = c.self.inside.counts } in
    wrong_heard c.args.link c.args.bits.now c.in-Ok.message s c.one_more-self-inside-then-link-eq-UNUSED_LINK.result c.then-link-eq-UNUSED_LINK.either c.one_more-self-inside-then-link-eq-UNUSED_LINK.ensures
    ∙ ap (message_after c.args.link c.args.bits.now (Ok c.in-Ok.message)) c.self.view_is
    ∙ ap (λ r. message_after c.args.link c.args.bits.now r c.args.self.now) (sym c.in-Ok.is ∙ c.read_regular_in.ensures.exact)

pub returns-then-link-eq-CONTROL_LINK-clause-state : goal.returns-then-link-eq-CONTROL_LINK-clause-state
returns-then-link-eq-CONTROL_LINK-clause-state g c =
    c.hear_control.ensures.state
    ∙ control_told c.args.link c.args.bits.now c.in-Ok.message c.args.self.now c.if-link-eq-UNUSED_LINK.false c.if-link-gt-LAST_LINK.false c.if-link-eq-CONTROL_LINK.true
    ∙ ap (λ r. message_after c.args.link c.args.bits.now r c.args.self.now) (sym c.in-Ok.is ∙ c.read_regular_in.ensures.exact)
