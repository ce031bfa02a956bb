use Rattle.std.proofs.Common.{refl}
use Rattle.ncp_numbers.specs.Numbers.{bits_of, number_of}
use Rattle.ncp_numbers.specs.Bytes.{byte_bits, byte_of, bytes_of}
use Rattle.ncp_control.specs.Reading.{command_with, command_at, commands_within}
use Rattle.ncp_play_files.proofs.examples.messages_are_judged_so.Goals as goal

pub returns-clause-control : goal.returns-clause-control
unfolding bits_of number_of byte_bits byte_of bytes_of command_with command_at commands_within
returns-clause-control c = refl

pub returns-clause-bad : goal.returns-clause-bad
unfolding bits_of number_of byte_bits byte_of bytes_of command_with command_at commands_within
returns-clause-bad c = refl
