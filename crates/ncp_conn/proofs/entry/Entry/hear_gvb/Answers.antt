use Rattle.std.proofs.Common.{rules}
use Rattle.ncp_conn.proofs.entry.Entry.hear_gvb.Goals as goal

pub returns-clause-entry : goal.returns-clause-entry
returns-clause-entry g c = search rules
