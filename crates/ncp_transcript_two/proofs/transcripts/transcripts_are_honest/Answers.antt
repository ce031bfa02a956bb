use Rattle.ncp_transcript_two.proofs.Headlines.{is-honest, came-begins, goes-again}
use Rattle.ncp_transcript_two.proofs.transcripts.transcripts_are_honest.Goals as goal

pub returns-clause-honest : goal.returns-clause-honest
returns-clause-honest c = is-honest

pub returns-clause-came : goal.returns-clause-came
returns-clause-came c = came-begins

pub returns-clause-again : goal.returns-clause-again
returns-clause-again c = goes-again
