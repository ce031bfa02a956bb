use Rattle.std.proofs.Common.{refl}
use Rattle.ncp_numbers.specs.Bytes.{byte_bits}
use Rattle.ncp_numbers.specs.Numbers.{bits_of}
use Rattle.ncp_subnet.specs.Messages.{from_host, answer_bits}
use Rattle.ncp_subnet.proofs.laws.messages_are_addressed_so.Goals as goal

pub returns-clause-comes : goal.returns-clause-comes
unfolding from_host byte_bits bits_of
returns-clause-comes c = refl

pub returns-clause-answer : goal.returns-clause-answer
unfolding answer_bits byte_bits bits_of
returns-clause-answer c = refl
