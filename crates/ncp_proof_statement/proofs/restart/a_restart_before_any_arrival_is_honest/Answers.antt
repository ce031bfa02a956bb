use Rattle.ncp_proof_statement.specs.Restarts.{with_restart}
use Rattle.ncp_proof_statement.proofs.Lasting.{goes-on}
use Rattle.ncp_proof_statement.proofs.restart.a_restart_before_any_arrival_is_honest.Goals as goal

pub returns-clause-run : goal.returns-clause-run
returns-clause-run c side a b ns t none = goes-on a b ns t side none

pub returns-clause-headline : goal.returns-clause-headline
returns-clause-headline c side a b ns t none = c.headline_over_any_subnet.ensures a b (with_restart side a b ns) (goes-on a b ns t side none)
