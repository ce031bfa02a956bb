use Rattle.ncp_play_host.proofs.Inputs.{events_are_inputs, first_are_inputs}
use Rattle.ncp_play_host.proofs.laws.events_are_inputs.Goals as goal

pub returns-clause-all : goal.returns-clause-all
returns-clause-all c = events_are_inputs

pub returns-clause-first : goal.returns-clause-first
returns-clause-first c = first_are_inputs
