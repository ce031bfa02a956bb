use Rattle.ncp_transcript_many.proofs.OnePair.{between-one, one-pair}
use Rattle.ncp_transcript_many.proofs.transcripts.a_note_is_of_one_pair.Goals as goal

pub returns-clause-one : goal.returns-clause-one
returns-clause-one c = between-one

pub returns-clause-one_pair : goal.returns-clause-one_pair
returns-clause-one_pair c = one-pair
