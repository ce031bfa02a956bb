use Rattle.std.proofs.Common.{refl}
use Rattle.ncp_numbers.specs.Numbers.{number_of}
use Rattle.ncp_proof_runs.proofs.links.one_message_on_its_link.Goals as goal

pub returns-clause-lost : goal.returns-clause-lost
unfolding number_of
returns-clause-lost c = refl

pub returns-clause-held : goal.returns-clause-held
unfolding number_of
returns-clause-held c = refl

pub returns-clause-stray : goal.returns-clause-stray
unfolding number_of
returns-clause-stray c = refl

pub returns-clause-stray_unanswered : goal.returns-clause-stray_unanswered
unfolding number_of
returns-clause-stray_unanswered c = refl

pub returns-clause-stray_elsewhere : goal.returns-clause-stray_elsewhere
unfolding number_of
returns-clause-stray_elsewhere c = refl

pub returns-clause-woken : goal.returns-clause-woken
unfolding number_of
returns-clause-woken c = refl

pub returns-clause-woken_not_fresh : goal.returns-clause-woken_not_fresh
unfolding number_of
returns-clause-woken_not_fresh c = refl

pub returns-clause-taken : goal.returns-clause-taken
unfolding number_of
returns-clause-taken c = refl

pub returns-clause-taken_fresh : goal.returns-clause-taken_fresh
unfolding number_of
returns-clause-taken_fresh c = refl

pub returns-clause-came : goal.returns-clause-came
unfolding number_of
returns-clause-came c = refl
