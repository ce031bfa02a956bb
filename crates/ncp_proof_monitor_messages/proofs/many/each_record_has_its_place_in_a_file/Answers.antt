use Rattle.ncp_proof_monitor_messages.proofs.Among.{all_fit}
use Rattle.ncp_proof_monitor_messages.proofs.many.each_record_has_its_place_in_a_file.Goals as goal

pub returns : goal.returns
returns c = all_fit
