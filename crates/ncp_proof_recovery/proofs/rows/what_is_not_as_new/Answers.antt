use Rattle.std.proofs.Common.{refl}
use Rattle.ncp_proof_recovery.proofs.rows.what_is_not_as_new.Goals as goal

pub returns-clause-down : goal.returns-clause-down
returns-clause-down c = λ f. cc f.up

pub returns-clause-fresh : goal.returns-clause-fresh
returns-clause-fresh c = record { up = refl; ends = refl; echo = refl }

pub returns-clause-echo : goal.returns-clause-echo
returns-clause-echo c = λ f. cc f.echo

pub returns-clause-down_too : goal.returns-clause-down_too
returns-clause-down_too c = λ f. cc f.up

pub returns-clause-new : goal.returns-clause-new
returns-clause-new c = record { up = refl; ends = refl; echo = refl }

pub returns-clause-echo_too : goal.returns-clause-echo_too
returns-clause-echo_too c = λ f. cc f.echo
