use Rattle.std.proofs.Common.{ap, not, ◌∙◌}
use Rattle.ncp_wire.specs.declared.answer.Answer.TheVariants.{Incomplete}
use Rattle.ncp_peer.specs.PeerState.{PeerState}
use Rattle.ncp_peer.specs.GivingUp.{gives_up}
use Rattle.ncp_peer.proofs.GivingUp.{not_out, was_out}
use Rattle.ncp_peer.proofs.Silence.{marked_again}
use Rattle.ncp_peer.proofs.peer.Peer.give_up.Goals as goal

pub returns-else-is_ok : goal.returns-else-is_ok
returns-else-is_ok g c =
    let s : PeerState = record { peer = c.self.inside.association; slots = c.self.inside.slots; counts = c.self.inside.counts } in
    not_out c.answer.result c.args.link s c.answer.ensures.variant c.answer.new.self (c.is_ok.ensures.negation ∙ ap not c.if-is_ok.false) c.answer.ensures.err
    ∙ ap (gives_up c.args.link) c.self.view_is

pub returns-then-is_ok : goal.returns-then-is_ok
returns-then-is_ok g c =
    let s : PeerState = record { peer = c.self.inside.association; slots = c.self.inside.slots; counts = c.self.inside.counts } in
    was_out c.answer.result c.args.link s c.answer.ensures.variant c.answer.new.self (c.is_ok.ensures.negation ∙ ap not c.if-is_ok.true) c.answer.ensures.ok
    ∙ ap (gives_up c.args.link) c.self.view_is

pub invariant_of-self : goal.invariant_of-self
invariant_of-self g c =
    marked_again c.self.inside.kept c.self.inside.again c.insert.new.self c.self.inside.slots c.answer.new.self c.args.link Incomplete c.self.invariant c.answer.ensures.slot c.answer.ensures.others c.insert.ensures
