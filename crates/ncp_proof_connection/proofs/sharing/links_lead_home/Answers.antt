use Rattle.ncp_proof_connection.specs.Sharing.{shared}
use Rattle.ncp_proof_connection.proofs.Projecting.{fits_ever}
use Rattle.ncp_proof_connection.proofs.LinkSteps.{links_ever}
use Rattle.ncp_proof_connection.proofs.Found.{grant_finds, return_finds, request_fits, sender_holds, receiver_holds}
use Rattle.ncp_proof_connection.proofs.sharing.links_lead_home.Goals as goal

pub returns-clause-grant : goal.returns-clause-grant
returns-clause-grant c = λ events m. grant_finds (shared events) (fits_ever events m) (links_ever events m)

pub returns-clause-give_back : goal.returns-clause-give_back
returns-clause-give_back c = λ events m. return_finds (shared events) (fits_ever events m) (links_ever events m)

pub returns-clause-request : goal.returns-clause-request
returns-clause-request c = λ events m. request_fits (shared events) (fits_ever events m) (links_ever events m)

pub returns-clause-sender : goal.returns-clause-sender
returns-clause-sender c = λ events m. sender_holds (shared events) (fits_ever events m) (links_ever events m)

pub returns-clause-receiver : goal.returns-clause-receiver
returns-clause-receiver c = λ events m. receiver_holds (shared events) (fits_ever events m) (links_ever events m)
