use Rattle.ncp_proof_connection.specs.Connections.{occur}
use Rattle.ncp_proof_connection.proofs.Whole.{ever, both_open, what_was_held, what_begins, out_is_opened}
use Rattle.ncp_proof_connection.proofs.connections.nothing_is_lost_or_made.Goals as goal

pub returns-clause-safe : goal.returns-clause-safe
returns-clause-safe c = λ pair events sd. (ever pair sd events).local.safe

pub returns-clause-amounts : goal.returns-clause-amounts
returns-clause-amounts c = λ pair events sd o. (both_open pair sd (occur pair events) (ever pair sd events) o).0

pub returns-clause-parted : goal.returns-clause-parted
returns-clause-parted c = λ pair events sd o. (both_open pair sd (occur pair events) (ever pair sd events) o).1

pub returns-clause-held : goal.returns-clause-held
returns-clause-held c = λ pair events sd. what_was_held pair sd (occur pair events) (ever pair sd events)

pub returns-clause-beginning : goal.returns-clause-beginning
returns-clause-beginning c = λ pair events sd. what_begins pair sd (occur pair events) (ever pair sd events)

pub returns-clause-opened : goal.returns-clause-opened
returns-clause-opened c = λ pair events sd. out_is_opened pair sd (occur pair events) (ever pair sd events)
