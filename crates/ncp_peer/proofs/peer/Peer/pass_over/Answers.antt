use Rattle.std.proofs.Common.{sym, ◌∙◌}
use Rattle.ncp_peer.proofs.Silence.{marked_over}
use Rattle.ncp_peer.proofs.peer.Peer.pass_over.Goals as goal

pub invariant_of-self : goal.invariant_of-self
invariant_of-self g c =
    marked_over c.self.inside.kept c.self.inside.again c.remove.new.self c.remove-then-is_empty.new.self c.self.inside.slots c.args.link c.self.invariant (sym c.is_empty.ensures ∙ c.if-is_empty.true) c.remove.ensures c.remove-then-is_empty.ensures
