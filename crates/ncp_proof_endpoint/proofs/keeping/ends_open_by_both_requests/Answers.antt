use Rattle.ncp_proof_endpoint.proofs.Opens.{limit-opens, limit-meets}
use Rattle.ncp_proof_endpoint.proofs.keeping.ends_open_by_both_requests.Goals as goal

pub returns-clause-asked : goal.returns-clause-asked
returns-clause-asked c = λ pair what before e h was now. (limit-opens pair what before e h was now).0

pub returns-clause-heard : goal.returns-clause-heard
returns-clause-heard c = λ pair what before e h was now. (limit-opens pair what before e h was now).1

pub returns-clause-stays : goal.returns-clause-stays
returns-clause-stays c = λ pair what before e h was now. (limit-opens pair what before e h was now).2

pub returns-clause-not_left : goal.returns-clause-not_left
returns-clause-not_left c = λ pair what before e h was now. (limit-opens pair what before e h was now).3

pub returns-clause-meets : goal.returns-clause-meets
returns-clause-meets c = limit-meets
