use Rattle.std.proofs.Common.{rules}
use Rattle.ncp_conn.proofs.entry.Entry.hear_text.Goals as goal

pub invariant_of-self : goal.invariant_of-self
invariant_of-self g c = search rules

pub returns-clause-answer : goal.returns-clause-answer
returns-clause-answer g c = search rules

pub returns-clause-entry : goal.returns-clause-entry
returns-clause-entry g c = search rules
