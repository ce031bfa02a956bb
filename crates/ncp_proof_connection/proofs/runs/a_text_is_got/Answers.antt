use Rattle.std.proofs.Common.{refl}
use Rattle.ncp_proof_connection.proofs.runs.a_text_is_got.Goals as goal

pub returns-clause-open : goal.returns-clause-open
returns-clause-open c = (refl, refl)

pub returns-clause-out : goal.returns-clause-out
returns-clause-out c = refl

pub returns-clause-got : goal.returns-clause-got
returns-clause-got c = refl

pub returns-clause-waiting : goal.returns-clause-waiting
returns-clause-waiting c = refl

pub returns-clause-outstanding : goal.returns-clause-outstanding
returns-clause-outstanding c = refl

pub returns-clause-outstanding_bits : goal.returns-clause-outstanding_bits
returns-clause-outstanding_bits c = refl

pub returns-clause-counters : goal.returns-clause-counters
returns-clause-counters c = refl

pub returns-clause-counters_bits : goal.returns-clause-counters_bits
returns-clause-counters_bits c = refl
