use Rattle.ncp_proof_audit.proofs.Clean.{no_line_of_two, good_verdict_of_two}
use Rattle.ncp_proof_audit.proofs.recorded.what_is_recorded_of_two_is_clean.Goals as goal

pub returns-clause-lines : goal.returns-clause-lines
returns-clause-lines c = λ notes w t standard. no_line_of_two standard notes w t

pub returns-clause-verdict : goal.returns-clause-verdict
returns-clause-verdict c = λ notes w t standard. good_verdict_of_two standard notes w t
