use Rattle.ncp_proof_monitor_exact.proofs.Noting.{noted_by_records}
use Rattle.ncp_proof_monitor_exact.proofs.coverage.what_is_noted_is_what_the_records_say.Goals as goal

pub returns : goal.returns
returns c = noted_by_records
