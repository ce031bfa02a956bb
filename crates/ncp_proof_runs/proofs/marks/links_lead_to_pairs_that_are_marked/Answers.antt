use Rattle.ncp_proof_runs.proofs.LinksMarked.{sender-led, receiver-led}
use Rattle.ncp_proof_runs.proofs.marks.links_lead_to_pairs_that_are_marked.Goals as goal

pub returns-clause-sender : goal.returns-clause-sender
returns-clause-sender c me ns all n on s pair from there e = (sender-led me ns all n on s pair from there e).0

pub returns-clause-sender_heard : goal.returns-clause-sender_heard
returns-clause-sender_heard c me ns all n on s pair from there e = (sender-led me ns all n on s pair from there e).1

pub returns-clause-sender_link : goal.returns-clause-sender_link
returns-clause-sender_link c me ns all n on s pair from there e = (sender-led me ns all n on s pair from there e).2

pub returns-clause-receiver : goal.returns-clause-receiver
returns-clause-receiver c me ns all n on s pair from there e = (receiver-led me ns all n on s pair from there e).0

pub returns-clause-receiver_asked : goal.returns-clause-receiver_asked
returns-clause-receiver_asked c me ns all n on s pair from there e = (receiver-led me ns all n on s pair from there e).1

pub returns-clause-receiver_link : goal.returns-clause-receiver_link
returns-clause-receiver_link c me ns all n on s pair from there e = (receiver-led me ns all n on s pair from there e).2
