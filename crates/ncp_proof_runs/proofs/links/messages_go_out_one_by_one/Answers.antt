use Rattle.ncp_proof_runs.proofs.InRuns.{goes_out, ready_out, unanswered_out, again_out, woken_out}
use Rattle.ncp_proof_runs.proofs.links.messages_go_out_one_by_one.Goals as goal

pub returns-clause-addressed : goal.returns-clause-addressed
returns-clause-addressed c message me ns before after from = let g = goes_out me ns before after message from in (g.n, g.on, g.a_peer, g.a_link, g.leader)

pub returns-clause-ready : goal.returns-clause-ready
returns-clause-ready c = ready_out

pub returns-clause-alone : goal.returns-clause-alone
returns-clause-alone c = unanswered_out

pub returns-clause-again : goal.returns-clause-again
returns-clause-again c = again_out

pub returns-clause-woken : goal.returns-clause-woken
returns-clause-woken c = woken_out
