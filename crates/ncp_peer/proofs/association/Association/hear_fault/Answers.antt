use Rattle.std.proofs.Common.{Bool, if◌then◌else◌, [], ◌∷◌, sym, ap, ◌∙◌}
use Rattle.ncp_wire.specs.declared.command.Command.TheVariants.{Err}
use Rattle.ncp_model.specs.Phase.{up}
use Rattle.ncp_model.specs.Peers.{Peer, makes}
use Rattle.ncp_peer.proofs.association.Association.hear_fault.Goals as goal

pub returns-then-is_up-clause-peer : goal.returns-then-is_up-clause-peer
returns-then-is_up-clause-peer g c =
    let stands = ap (λ (p : Peer). up p.phase) (sym c.self.view_is) ∙ sym c.is_up.ensures ∙ c.if-is_up.true in
    c.make.ensures ∙ sym (ap (λ (b : Bool). if b then makes (Err c.args.fault.code c.args.fault.bytes ∷ []) c.args.self.now else c.args.self.now) stands)
