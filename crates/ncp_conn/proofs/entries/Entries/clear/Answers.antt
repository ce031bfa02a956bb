use Rattle.std.proofs.Common.{rules}
use Rattle.ncp_conn.proofs.entries.Entries.clear.Goals as goal

pub returns-clause-slots : goal.returns-clause-slots
returns-clause-slots g c = search rules
