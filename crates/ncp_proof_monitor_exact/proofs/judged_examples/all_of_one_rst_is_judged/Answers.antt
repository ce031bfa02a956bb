use Rattle.std.proofs.Common.{refl}
use Rattle.ncp_numbers.specs.Bytes.{byte_bits, bytes_of, byte_of}
use Rattle.ncp_numbers.specs.Numbers.{number_of, bits_of}
use Rattle.ncp_control.specs.Reading.{command_with, command_at, commands_within}
use Rattle.ncp_proof_monitor_exact.proofs.judged_examples.all_of_one_rst_is_judged.Goals as goal

pub returns-clause-found : goal.returns-clause-found
unfolding number_of bits_of byte_bits byte_of bytes_of command_with command_at commands_within lib.Count.ones
returns-clause-found c = refl

pub returns-clause-sender : goal.returns-clause-sender
unfolding number_of bits_of byte_bits byte_of bytes_of command_with command_at commands_within lib.Count.ones
returns-clause-sender c = refl

pub returns-clause-receiver : goal.returns-clause-receiver
unfolding number_of bits_of byte_bits byte_of bytes_of command_with command_at commands_within lib.Count.ones
returns-clause-receiver c = refl

pub returns-clause-others : goal.returns-clause-others
unfolding number_of bits_of byte_bits byte_of bytes_of command_with command_at commands_within lib.Count.ones
returns-clause-others c = refl
