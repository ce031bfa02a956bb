use Rattle.std.proofs.Common.{rules}
use Rattle.ncp_conn.proofs.entry.Entry.take_stored.Goals as goal

pub returns-clause-entry : goal.returns-clause-entry
returns-clause-entry g c = search rules
