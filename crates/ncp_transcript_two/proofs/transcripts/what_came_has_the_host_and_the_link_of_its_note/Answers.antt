use Rattle.ncp_transcript_two.proofs.Naming.{came-named, answered-named}
use Rattle.ncp_transcript_two.proofs.transcripts.what_came_has_the_host_and_the_link_of_its_note.Goals as goal

pub returns-clause-came : goal.returns-clause-came
returns-clause-came c = came-named

pub returns-clause-answered : goal.returns-clause-answered
returns-clause-answered c = answered-named
