use Rattle.std.proofs.Common.{refl}
use Rattle.ncp_model.specs.Amounts.{back}
use Rattle.ncp_proof_connection.proofs.runs.a_part_is_called_back.Goals as goal

pub returns-clause-open : goal.returns-clause-open
unfolding back
returns-clause-open c = (refl, refl)

pub returns-clause-outstanding : goal.returns-clause-outstanding
unfolding back
returns-clause-outstanding c = refl

pub returns-clause-outstanding_bits : goal.returns-clause-outstanding_bits
unfolding back
returns-clause-outstanding_bits c = refl

pub returns-clause-counters : goal.returns-clause-counters
unfolding back
returns-clause-counters c = refl

pub returns-clause-counters_bits : goal.returns-clause-counters_bits
unfolding back
returns-clause-counters_bits c = refl

pub returns-clause-interrupts : goal.returns-clause-interrupts
unfolding back
returns-clause-interrupts c = refl

pub returns-clause-interrupts_there : goal.returns-clause-interrupts_there
unfolding back
returns-clause-interrupts_there c = refl
