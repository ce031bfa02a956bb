use Rattle.ncp_proof_monitor_messages.proofs.FileOfTwo.{two_of_many}
use Rattle.ncp_proof_monitor_messages.proofs.many.the_file_of_two_is_one_of_many.Goals as goal

pub returns : goal.returns
returns c = two_of_many
