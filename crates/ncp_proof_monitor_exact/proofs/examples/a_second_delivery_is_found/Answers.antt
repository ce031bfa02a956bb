use Rattle.std.proofs.Common.{refl}
use Rattle.ncp_numbers.specs.Bytes.{byte_bits, bytes_of, byte_of}
use Rattle.ncp_numbers.specs.Numbers.{number_of, bits_of}
use Rattle.ncp_control.specs.Reading.{command_with, command_at, commands_within}
use Rattle.ncp_proof_monitor_exact.proofs.examples.a_second_delivery_is_found.Goals as goal

pub returns-clause-found : goal.returns-clause-found
unfolding number_of bits_of byte_bits byte_of bytes_of command_with command_at commands_within lib.Count.ones
returns-clause-found c = refl

pub returns-clause-unfaithful : goal.returns-clause-unfaithful
unfolding number_of bits_of byte_bits byte_of bytes_of command_with command_at commands_within lib.Count.ones
returns-clause-unfaithful c k = k.0.1
