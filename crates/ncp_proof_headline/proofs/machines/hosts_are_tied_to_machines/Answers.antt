use Rattle.std.proofs.Common.{ap, ◌∙◌}
use Rattle.ncp_proof_connection.specs.Sharing.{Shared}
use Rattle.ncp_proof_machine.specs.Hosts.{TwoNodes, nodes_swapped, run}
use Rattle.ncp_proof_headline.specs.Tied.{IsTied}
use Rattle.ncp_proof_headline.proofs.HostsHeld.{Ever, ever, ever-swapped}
use Rattle.ncp_proof_headline.proofs.machines.hosts_are_tied_to_machines.Goals as goal

tied : (w : TwoNodes) → Ever w → IsTied w
tied w e =
    let t = e.holds.joined.ties in
    (t.reached.events, t.reached.may, λ p s. (ap (λ (g : Shared). g.sender p) t.reached.is_it ∙ t.there.sender p s, ap (λ (g : Shared). g.receiver p) t.reached.is_it ∙ t.there.receiver p s))

pub returns-clause-there : goal.returns-clause-there
returns-clause-there c = λ es. tied (run es) (ever es)

pub returns-clause-back : goal.returns-clause-back
returns-clause-back c = λ es. tied (nodes_swapped (run es)) (ever-swapped (run es) (ever es))
