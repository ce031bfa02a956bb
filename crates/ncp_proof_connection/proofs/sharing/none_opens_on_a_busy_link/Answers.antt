use Rattle.ncp_proof_connection.specs.Sharing.{shared, shared_occurs}
use Rattle.ncp_proof_connection.proofs.Projecting.{fits_ever, fits_keep}
use Rattle.ncp_proof_connection.proofs.LinkSteps.{links_ever, links_keep}
use Rattle.ncp_proof_connection.proofs.Found.{sender_opens_not, receiver_opens_not}
use Rattle.ncp_proof_connection.proofs.sharing.none_opens_on_a_busy_link.Goals as goal

pub returns-clause-sender : goal.returns-clause-sender
returns-clause-sender c = λ events e m n p q on out. (let f = fits_ever events m in sender_opens_not (shared events) (shared_occurs e (shared events)) f (fits_keep e (shared events) n f) (links_keep e (shared events) n f (links_ever events m)) on p q out)

pub returns-clause-receiver : goal.returns-clause-receiver
returns-clause-receiver c = λ events e m n p q on out. (let f = fits_ever events m in receiver_opens_not (shared events) (shared_occurs e (shared events)) f (fits_keep e (shared events) n f) (links_keep e (shared events) n f (links_ever events m)) on p q out)
