use Rattle.std.proofs.Common.{refl}
use Rattle.ncp_proof_connection.proofs.runs.a_host_is_cleared_with_a_text_out.Goals as goal

pub returns-clause-cleared : goal.returns-clause-cleared
returns-clause-cleared c = refl

pub returns-clause-cleared_text_stays : goal.returns-clause-cleared_text_stays
returns-clause-cleared_text_stays c = refl

pub returns-clause-cleared_sender_is_busy : goal.returns-clause-cleared_sender_is_busy
returns-clause-cleared_sender_is_busy c = refl

pub returns-clause-from_empty : goal.returns-clause-from_empty
returns-clause-from_empty c = (refl, refl)
