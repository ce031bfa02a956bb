use Rattle.std.proofs.Common.{refl}
use Rattle.ncp_numbers.specs.Bytes.{byte_bits, bytes_of, byte_of}
use Rattle.ncp_numbers.specs.Numbers.{number_of, bits_of}
use Rattle.ncp_control.specs.Reading.{command_with, command_at, commands_within}
use Rattle.ncp_proof_monitor_exact.proofs.judged_examples.other_captures_are_not_judged.Goals as goal

pub returns-clause-suspended : goal.returns-clause-suspended
unfolding number_of bits_of byte_bits byte_of bytes_of command_with command_at commands_within lib.Count.ones
returns-clause-suspended c = refl

pub returns-clause-clean : goal.returns-clause-clean
unfolding number_of bits_of byte_bits byte_of bytes_of command_with command_at commands_within lib.Count.ones
returns-clause-clean c = refl

pub returns-clause-restarted : goal.returns-clause-restarted
unfolding number_of bits_of byte_bits byte_of bytes_of command_with command_at commands_within lib.Count.ones
returns-clause-restarted c = refl
