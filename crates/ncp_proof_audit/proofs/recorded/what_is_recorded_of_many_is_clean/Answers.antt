use Rattle.ncp_proof_audit.proofs.Clean.{no_line, good_verdict}
use Rattle.ncp_proof_audit.proofs.recorded.what_is_recorded_of_many_is_clean.Goals as goal

pub returns-clause-lines : goal.returns-clause-lines
returns-clause-lines c = λ notes now t standard. no_line standard notes now t

pub returns-clause-verdict : goal.returns-clause-verdict
returns-clause-verdict c = λ notes now t standard. good_verdict standard notes now t
