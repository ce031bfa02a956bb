use Rattle.ncp_proof_connection.specs.Clearings.{change}
use Rattle.ncp_proof_connection.proofs.Outliving.{fit_ever, fit_safe, fit_open, fit_held, fit_begins, fit_taken, fit_opened}
use Rattle.ncp_proof_connection.proofs.connections.clearings_lose_and_make_nothing.Goals as goal

pub returns-clause-safe : goal.returns-clause-safe
returns-clause-safe c = λ pair cs sd. (let h = change pair cs in fit_safe pair sd h.sends h.receives h.connection (fit_ever pair sd cs))

pub returns-clause-amounts : goal.returns-clause-amounts
returns-clause-amounts c = λ pair cs sd o. (let h = change pair cs in (fit_open pair sd h.sends h.receives h.connection (fit_ever pair sd cs) o).0)

pub returns-clause-parted : goal.returns-clause-parted
returns-clause-parted c = λ pair cs sd o. (let h = change pair cs in (fit_open pair sd h.sends h.receives h.connection (fit_ever pair sd cs) o).1)

pub returns-clause-held : goal.returns-clause-held
returns-clause-held c = λ pair cs sd. (let h = change pair cs in fit_held pair sd h.sends h.receives h.connection (fit_ever pair sd cs))

pub returns-clause-beginning : goal.returns-clause-beginning
returns-clause-beginning c = λ pair cs sd. (let h = change pair cs in fit_begins pair sd h.sends h.receives h.connection (fit_ever pair sd cs))

pub returns-clause-taken : goal.returns-clause-taken
returns-clause-taken c = λ pair cs sd. (let h = change pair cs in fit_taken pair sd h.sends h.receives h.connection (fit_ever pair sd cs))

pub returns-clause-opened : goal.returns-clause-opened
returns-clause-opened c = λ pair cs sd. (let h = change pair cs in fit_opened pair sd h.sends h.receives h.connection (fit_ever pair sd cs))
