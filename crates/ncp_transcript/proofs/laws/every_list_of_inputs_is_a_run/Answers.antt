use Rattle.ncp_transcript.proofs.Growing.{steps_noted, notes_many, notes_run}
use Rattle.ncp_transcript.proofs.laws.every_list_of_inputs_is_a_run.Goals as goal

pub returns-clause-steps : goal.returns-clause-steps
returns-clause-steps c = steps_noted

pub returns-clause-many : goal.returns-clause-many
returns-clause-many c = notes_many

pub returns-clause-run : goal.returns-clause-run
returns-clause-run c = notes_run
