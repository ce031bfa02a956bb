use Rattle.ncp_transcript_two.specs.Seen.{seen}
use Rattle.ncp_proof_pipe.proofs.Dropping.{as-pipes}
use Rattle.ncp_proof_pipe.proofs.notes.each_pair_is_a_pipe.Goals as goal

pub returns : goal.returns
returns c ns w t = as-pipes (seen w) ns (c.each_stop_has_a_reason.ensures ns w t)
