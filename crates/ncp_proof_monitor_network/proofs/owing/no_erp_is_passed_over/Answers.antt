-- What is next is the first that fits, with no ERP before it.
use Rattle.std.proofs.Common.{refl}
use Rattle.ncp_proof_monitor_network.proofs.owing.no_erp_is_passed_over.Goals as goal

pub returns : goal.returns
returns c = record { next = tt; following = refl; passed = λ x. x }
