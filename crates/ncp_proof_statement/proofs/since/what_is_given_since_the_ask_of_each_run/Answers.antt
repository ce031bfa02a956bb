use Rattle.std.proofs.Common.{Bool, true, if◌then◌else◌, List, [], sym, ap, ◌∙◌}
use Rattle.ncp_proof_runs.specs.Peers.{notes_of_peer}
use Rattle.ncp_statement.specs.Statement.{UserEvent}
use Rattle.ncp_proof_statement.specs.Since.{uses_by, tallied, no_givings, givings_with}
use Rattle.ncp_proof_statement.proofs.Noted.{noted-from}
use Rattle.ncp_proof_statement.proofs.Sending.{run-kept, given-tallied}
use Rattle.ncp_proof_statement.proofs.since.what_is_given_since_the_ask_of_each_run.Goals as goal

pub returns : goal.returns
returns c me ns all n pair from r =
    let k = run-kept pair (notes_of_peer n all) r in
    let told = given-tallied (uses_by pair (notes_of_peer n all)) true [] ∙ ap (λ (us : List UserEvent). (tallied givings_with no_givings us).given) (noted-from me ns n pair [] all from) in
    (k.0, k.1.0 ∙ ap (λ (x : List Bool). if k.0 then [] else x) (sym told))
