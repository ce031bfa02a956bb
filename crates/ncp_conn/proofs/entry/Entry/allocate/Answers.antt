use Rattle.std.proofs.Common.{rules}
use Rattle.ncp_conn.proofs.entry.Entry.allocate.Goals as goal

pub returns-then-full-clause-answer : goal.returns-then-full-clause-answer
returns-then-full-clause-answer g c = search rules
