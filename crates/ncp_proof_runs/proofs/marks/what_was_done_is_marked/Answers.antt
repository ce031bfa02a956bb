use Rattle.ncp_proof_runs.proofs.Marked.{sender-marked, receiver-marked, close-marked, reset-marked}
use Rattle.ncp_proof_runs.proofs.marks.what_was_done_is_marked.Goals as goal

pub returns-clause-sender : goal.returns-clause-sender
returns-clause-sender c of_size room me ns before after n pair from = (sender-marked me ns before after n pair of_size room from).0

pub returns-clause-sender_size : goal.returns-clause-sender_size
returns-clause-sender_size c of_size room me ns before after n pair from = (sender-marked me ns before after n pair of_size room from).1

pub returns-clause-receiver : goal.returns-clause-receiver
returns-clause-receiver c room me ns before after n pair from = receiver-marked me ns before after n pair room from

pub returns-clause-closed : goal.returns-clause-closed
returns-clause-closed c = close-marked

pub returns-clause-cleared : goal.returns-clause-cleared
returns-clause-cleared c = reset-marked
