use Rattle.std.proofs.Common.{sym, ap, ◌∙◌}
use Rattle.std.specs.List.{list_all}
use Rattle.ncp_model.specs.Peers.{Peer}
use Rattle.ncp_phase.specs.Waiting.{has_short_data}
use Rattle.ncp_phase.proofs.Short.{all_short}
use Rattle.ncp_peer.proofs.Placed.{placed_agree}
use Rattle.ncp_peer.proofs.Agreed.{all_are_short}
use Rattle.ncp_peer.proofs.association.Association.is_well.Goals as goal

pub returns-then-are_placed-clause-agree : goal.returns-then-are_placed-clause-agree
returns-then-are_placed-clause-agree g c = λ _. placed_agree c.args.self.now.ends c.args.slots.now (c.are_placed.ensures.placed c.if-are_placed.true)

pub returns-then-are_placed-clause-fit : goal.returns-then-are_placed-clause-fit
returns-then-are_placed-clause-fit g c = λ e. all_short c.args.self.now.phase.waiting (ap (λ (p : Peer). list_all has_short_data p.phase.waiting) (sym c.self.view_is) ∙ sym c.is_short.ensures ∙ e)

pub returns-then-are_placed-clause-well : goal.returns-then-are_placed-clause-well
returns-then-are_placed-clause-well g c = λ agree links short. c.is_short.ensures ∙ ap (λ (p : Peer). list_all has_short_data p.phase.waiting) c.self.view_is ∙ all_are_short c.args.self.now.phase.waiting short
