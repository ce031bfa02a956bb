use Rattle.std.proofs.Common.{sym, ap, ◌∙◌}
use Rattle.ncp_model.specs.Peers.{hears, hears_other}
use Rattle.ncp_peer.proofs.Hearing.{hears_is}
use Rattle.ncp_peer.proofs.association.Association.hear.Goals as goal

pub returns-then-is_up-clause-peer : goal.returns-then-is_up-clause-peer
returns-then-is_up-clause-peer g c =
    c.hear_other.ensures.peer c.args.quiet
    ∙ ap (λ p. hears_other c.args.quiet c.args.command.now p) (sym c.self-else-is_rrp.view_is)
    ∙ hears_is c.args.quiet c.args.command.now _ (sym c.is_rst.ensures ∙ c.if-is_rst.false) (sym c.is_rrp.ensures ∙ c.if-is_rrp.false) (sym c.is_up.ensures ∙ c.if-is_up.true)
    ∙ ap (hears c.args.quiet c.args.command.now) c.self-else-is_rrp.view_is
