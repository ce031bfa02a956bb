use Rattle.std.proofs.Common.{refl}
use Rattle.ncp_numbers.specs.Numbers.{number_of}
use Rattle.ncp_proof_runs.proofs.commands.a_message_is_fresh_once.Goals as goal

pub returns-clause-control : goal.returns-clause-control
unfolding number_of
returns-clause-control c = refl

pub returns-clause-text : goal.returns-clause-text
unfolding number_of
returns-clause-text c = refl

pub returns-clause-last : goal.returns-clause-last
unfolding number_of
returns-clause-last c = refl
