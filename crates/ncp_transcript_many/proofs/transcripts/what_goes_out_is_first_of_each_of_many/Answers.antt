use Rattle.ncp_transcript_many.proofs.FirstOfMany.{in-vain, goes-first}
use Rattle.ncp_transcript_many.proofs.transcripts.what_goes_out_is_first_of_each_of_many.Goals as goal

pub returns-clause-nothing : goal.returns-clause-nothing
returns-clause-nothing c = in-vain

pub returns-clause-out : goal.returns-clause-out
returns-clause-out c = goes-first
