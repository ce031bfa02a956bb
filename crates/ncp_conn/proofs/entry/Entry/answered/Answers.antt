use Rattle.std.proofs.Common.{rules}
use Rattle.ncp_conn.proofs.entry.Entry.answered.Goals as goal

pub returns-then-self-clause-entry : goal.returns-then-self-clause-entry
returns-then-self-clause-entry g c = search rules

pub returns-clause-entry : goal.returns-clause-entry
returns-clause-entry g c = search rules
