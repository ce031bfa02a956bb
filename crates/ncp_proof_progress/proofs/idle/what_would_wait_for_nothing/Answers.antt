use Rattle.std.proofs.Common.{refl, arith}
use Rattle.ncp_proof_machine.specs.Hosts.{all_empty}
use Rattle.ncp_proof_progress.proofs.idle.what_would_wait_for_nothing.Goals as goal

pub returns-clause-sender : goal.returns-clause-sender
returns-clause-sender c l = absurd (cc (l.busy refl refl))

pub returns-clause-receiver : goal.returns-clause-receiver
returns-clause-receiver c l = absurd (cc (l.shut refl refl))

pub returns-clause-emptied : goal.returns-clause-emptied
returns-clause-emptied c l = absurd (let h = l.holds refl refl in omega (arith, h))

pub returns-clause-wanted : goal.returns-clause-wanted
unfolding all_empty
returns-clause-wanted c r = absurd (cc (r.want refl))

pub returns-clause-owed : goal.returns-clause-owed
unfolding all_empty
returns-clause-owed c r = absurd (cc (r.owe refl))
