use Rattle.ncp_proof_connection.specs.Sharing.{shared, connection_at}
use Rattle.ncp_proof_connection.proofs.Outliving.{fit_safe, fit_open, fit_held, fit_begins, fit_taken, fit_opened}
use Rattle.ncp_proof_connection.proofs.Projecting.{fits_ever}
use Rattle.ncp_proof_connection.proofs.sharing.each_loses_and_makes_nothing.Goals as goal

pub returns-clause-safe : goal.returns-clause-safe
returns-clause-safe c = λ events p m sd. (let s = shared events in (fit_safe p sd s.sends s.receives (connection_at p s) (fits_ever events m p sd)))

pub returns-clause-amounts : goal.returns-clause-amounts
returns-clause-amounts c = λ events p m sd o. (let s = shared events in (fit_open p sd s.sends s.receives (connection_at p s) (fits_ever events m p sd) o).0)

pub returns-clause-parted : goal.returns-clause-parted
returns-clause-parted c = λ events p m sd o. (let s = shared events in (fit_open p sd s.sends s.receives (connection_at p s) (fits_ever events m p sd) o).1)

pub returns-clause-held : goal.returns-clause-held
returns-clause-held c = λ events p m sd. (let s = shared events in (fit_held p sd s.sends s.receives (connection_at p s) (fits_ever events m p sd)))

pub returns-clause-beginning : goal.returns-clause-beginning
returns-clause-beginning c = λ events p m sd. (let s = shared events in (fit_begins p sd s.sends s.receives (connection_at p s) (fits_ever events m p sd)))

pub returns-clause-taken : goal.returns-clause-taken
returns-clause-taken c = λ events p m sd. (let s = shared events in (fit_taken p sd s.sends s.receives (connection_at p s) (fits_ever events m p sd)))

pub returns-clause-opened : goal.returns-clause-opened
returns-clause-opened c = λ events p m sd. (let s = shared events in (fit_opened p sd s.sends s.receives (connection_at p s) (fits_ever events m p sd)))
