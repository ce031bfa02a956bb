use Rattle.ncp_proof_follow.proofs.FollowReports.{follow_opened}
use Rattle.ncp_proof_follow.proofs.told.follow_reports_what_was_got.Goals as goal

pub returns : goal.returns
returns c = follow_opened
