use Rattle.ncp_proof_statement.proofs.Between.{two, seen-same}
use Rattle.ncp_proof_statement.proofs.among.two_among_others_are_two_by_themselves.Goals as goal

pub returns-clause-alone : goal.returns-clause-alone
returns-clause-alone c x y ns t = two x y ns t c.each_peer_is_by_itself.ensures.alone

pub returns-clause-seen : goal.returns-clause-seen
returns-clause-seen c x y ns t = seen-same x y ns t (two x y ns t c.each_peer_is_by_itself.ensures.alone) c.each_peer_is_by_itself.ensures.kept
