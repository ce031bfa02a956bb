use Rattle.std.proofs.Common.{refl}
use Rattle.ncp_model.specs.Rows.{outward}
use Rattle.ncp_proof_promises.proofs.examples.openings_happen_and_are_seen.Goals as goal

pub returns-clause-own_text : goal.returns-clause-own_text
returns-clause-own_text c own other e f =
    let k = c.openings_and_texts_out_happen.ensures.sender in
    absurd (cc ((f outward 2 refl k.0).0 k.1, e))
