use Rattle.ncp_proof_follow_tables.proofs.FilesKept.{reports_at_its_own}
use Rattle.ncp_proof_follow_tables.proofs.texts.a_record_reports_at_its_own_interface.Goals as goal

pub returns : goal.returns
returns c = reports_at_its_own
