use Rattle.ncp_proof_connection.specs.Sharing.{shared}
use Rattle.ncp_proof_connection.proofs.Named.{names_ever, sockets_find_sender, sockets_find_receiver}
use Rattle.ncp_proof_connection.proofs.sharing.sockets_lead_home.Goals as goal

pub returns-clause-sender : goal.returns-clause-sender
returns-clause-sender c = λ events. sockets_find_sender (shared events) (names_ever events)

pub returns-clause-receiver : goal.returns-clause-receiver
returns-clause-receiver c = λ events. sockets_find_receiver (shared events) (names_ever events)
