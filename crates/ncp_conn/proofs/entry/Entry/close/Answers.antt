use Rattle.std.proofs.Common.{rules}
use Rattle.ncp_conn.proofs.entry.Entry.close.Goals as goal

pub returns-then-self-3-clause-answer : goal.returns-then-self-3-clause-answer
returns-then-self-3-clause-answer g c = search rules

pub returns-then-self-3-clause-entry : goal.returns-then-self-3-clause-entry
returns-then-self-3-clause-entry g c = search rules
