use Rattle.std.proofs.Common.{refl}
use Rattle.ncp_numbers.specs.Bytes.{byte_bits, bytes_of, byte_of}
use Rattle.ncp_numbers.specs.Numbers.{number_of, bits_of}
use Rattle.ncp_subnet.specs.Messages.{from_host}
use Rattle.ncp_control.specs.Reading.{command_with, command_at, commands_within}
use Rattle.ncp_proof_monitor_exact.proofs.examples.a_faithful_capture_is_clean.Goals as goal

pub returns-clause-found : goal.returns-clause-found
unfolding number_of bits_of byte_bits byte_of bytes_of command_with command_at commands_within lib.Count.ones
returns-clause-found c = refl

pub returns-clause-watched : goal.returns-clause-watched
unfolding number_of bits_of byte_bits byte_of bytes_of command_with command_at commands_within lib.Count.ones
returns-clause-watched c = refl

pub returns-clause-faithful : goal.returns-clause-faithful
unfolding number_of bits_of byte_bits byte_of bytes_of command_with command_at commands_within from_host lib.Count.ones
returns-clause-faithful c = ((refl, tt), tt)
