use Rattle.ncp_numbers.proofs.Numbers.{length-bits_of, bits_of-number_of, number_of-fits}
use Rattle.ncp_numbers.proofs.Fields.{number_of-fitting}
use Rattle.ncp_numbers.proofs.laws.numbers_are_bits.Goals as goal

pub returns-clause-number : goal.returns-clause-number
returns-clause-number c = number_of-fitting

pub returns-clause-len : goal.returns-clause-len
returns-clause-len c = length-bits_of

pub returns-clause-bits : goal.returns-clause-bits
returns-clause-bits c = bits_of-number_of

pub returns-clause-fits : goal.returns-clause-fits
returns-clause-fits c = number_of-fits
