use Rattle.std.proofs.Common.{ap}
use Rattle.ncp_proof_endpoint.specs.Histories.{PairHistory}
use Rattle.ncp_proof_runs.proofs.Got.{got-noted}
use Rattle.ncp_proof_runs.proofs.histories.what_is_admitted_is_got.Goals as goal

pub returns-clause-got : goal.returns-clause-got
returns-clause-got c me ns before after message leader m pair from e f to = ap (λ (x : PairHistory). x.got) (got-noted me ns before after message leader m pair from e f to)

pub returns-clause-used : goal.returns-clause-used
returns-clause-used c me ns before after message leader m pair from e f to = ap (λ (x : PairHistory). x.used_messages) (got-noted me ns before after message leader m pair from e f to)
