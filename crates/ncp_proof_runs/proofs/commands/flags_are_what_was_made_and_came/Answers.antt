use Rattle.ncp_proof_runs.proofs.InOrder.{flags-noted, up-noted, flags-said}
use Rattle.ncp_proof_runs.proofs.commands.flags_are_what_was_made_and_came.Goals as goal

pub returns-clause-down : goal.returns-clause-down
returns-clause-down c me ns all n s from there = (flags-noted me ns all n s from there).0

pub returns-clause-want : goal.returns-clause-want
returns-clause-want c me ns all n s from there = (flags-noted me ns all n s from there).1

pub returns-clause-owe : goal.returns-clause-owe
returns-clause-owe c me ns all n s from there = (flags-noted me ns all n s from there).3

pub returns-clause-wait : goal.returns-clause-wait
returns-clause-wait c me ns all n s from there = (flags-noted me ns all n s from there).2

pub returns-clause-up : goal.returns-clause-up
returns-clause-up c = up-noted

pub returns-clause-down_noted : goal.returns-clause-down_noted
returns-clause-down_noted c n flags me ns before after from = (flags-said me ns before after n flags from).0

pub returns-clause-want_noted : goal.returns-clause-want_noted
returns-clause-want_noted c n flags me ns before after from = (flags-said me ns before after n flags from).1

pub returns-clause-owe_noted : goal.returns-clause-owe_noted
returns-clause-owe_noted c n flags me ns before after from = (flags-said me ns before after n flags from).2

pub returns-clause-wait_noted : goal.returns-clause-wait_noted
returns-clause-wait_noted c n flags me ns before after from = (flags-said me ns before after n flags from).3
