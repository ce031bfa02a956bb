use Rattle.ncp_transcript_many.proofs.ManyRuns.{notes-many, notes-run, events-transcript}
use Rattle.ncp_transcript_many.proofs.transcripts.every_list_of_events_is_a_run_of_many.Goals as goal

pub returns-clause-many : goal.returns-clause-many
returns-clause-many c = notes-many

pub returns-clause-run : goal.returns-clause-run
returns-clause-run c = notes-run

pub returns-clause-transcript : goal.returns-clause-transcript
returns-clause-transcript c = events-transcript
