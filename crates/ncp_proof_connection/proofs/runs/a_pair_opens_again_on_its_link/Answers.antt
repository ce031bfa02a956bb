use Rattle.std.proofs.Common.{refl}
use Rattle.ncp_proof_connection.proofs.runs.a_pair_opens_again_on_its_link.Goals as goal

pub returns-clause-open : goal.returns-clause-open
returns-clause-open c = (refl, refl)

pub returns-clause-link : goal.returns-clause-link
returns-clause-link c = refl

pub returns-clause-link_there : goal.returns-clause-link_there
returns-clause-link_there c = refl

pub returns-clause-from_empty : goal.returns-clause-from_empty
returns-clause-from_empty c = refl

pub returns-clause-anew_given : goal.returns-clause-anew_given
returns-clause-anew_given c = refl
