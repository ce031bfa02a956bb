use Rattle.ncp_bits.proofs.Judging.{bits_first, bits_none}
use Rattle.ncp_bits.proofs.laws.bits_faults_are_in_order.Goals as goal

pub returns-clause-first : goal.returns-clause-first
returns-clause-first c = bits_first

pub returns-clause-none : goal.returns-clause-none
returns-clause-none c = bits_none
