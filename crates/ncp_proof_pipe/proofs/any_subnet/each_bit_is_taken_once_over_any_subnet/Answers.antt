use Rattle.ncp_proof_statement.specs.Notes.{as_notes, mutual_notes}
use Rattle.ncp_proof_statement.specs.Finished.{seen_between}
use Rattle.ncp_proof_pipe.proofs.Dropping.{as-pipes, once}
use Rattle.ncp_proof_pipe.proofs.any_subnet.each_bit_is_taken_once_over_any_subnet.Goals as goal

pub returns : goal.returns
returns c x y ns t = once (seen_between x y ns) (as_notes (mutual_notes x.me y.me ns)) c.each_bit_is_taken_once.ensures (as-pipes (seen_between x y ns) (as_notes (mutual_notes x.me y.me ns)) (c.each_pair_is_a_pipe_over_any_subnet.ensures.among x y ns t))
