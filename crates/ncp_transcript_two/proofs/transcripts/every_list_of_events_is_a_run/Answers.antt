use Rattle.ncp_transcript_two.proofs.Growing.{notes_many, notes_run}
use Rattle.ncp_transcript_two.proofs.transcripts.every_list_of_events_is_a_run.Goals as goal

pub returns-clause-many : goal.returns-clause-many
returns-clause-many c = notes_many

pub returns-clause-run : goal.returns-clause-run
returns-clause-run c = notes_run
