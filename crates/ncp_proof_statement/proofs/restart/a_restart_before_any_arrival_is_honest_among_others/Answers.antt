use Rattle.ncp_proof_statement.proofs.LastingAmong.{goes-on-a, goes-on-b}
use Rattle.ncp_proof_statement.proofs.restart.a_restart_before_any_arrival_is_honest_among_others.Goals as goal

pub returns-clause-first : goal.returns-clause-first
returns-clause-first c x y ns t = goes-on-a x y ns t (c.two_among_others_are_two_by_themselves.ensures.alone x y ns t) c.each_peer_is_by_itself.ensures.kept

pub returns-clause-second : goal.returns-clause-second
returns-clause-second c x y ns t = goes-on-b x y ns t (c.two_among_others_are_two_by_themselves.ensures.alone x y ns t) c.each_peer_is_by_itself.ensures.kept
