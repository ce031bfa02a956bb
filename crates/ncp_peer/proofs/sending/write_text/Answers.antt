use Rattle.std.proofs.Common.{◌++◌, ℕ, List, Bool, Option, sym, ap, ◌∙◌}
use Rattle.ncp_leader.proofs.Fronts.{front_text}
use Rattle.ncp_model.specs.Effect.{answer}
use Rattle.ncp_model.specs.Ends.{cut_in}
use Rattle.ncp_conn.specs.Cutting.{cut_text}
use Rattle.ncp_conn.proofs.Sizes.{counts_it}
use Rattle.ncp_peer.specs.Output.{leader_to}
use Rattle.ncp_peer.proofs.sending.write_text.Goals as goal

pub returns-clause-message : goal.returns-clause-message
returns-clause-message g c =
    let text : Option (ℕ × List Bool) = answer (cut_in c.args.link c.args.association.now.ends) in
    c.cut_onto.ensures.bits
    ∙ ap (λ (bits : List Bool). bits ++ cut_text text) c.write_front.ensures.front
    ∙ front_text (leader_to c.args.number c.args.link) c.args.counted.0 c.args.counted.1 (cut_text text) (counts_it text c.args.counted.0 c.args.counted.1 (sym c.requires))
