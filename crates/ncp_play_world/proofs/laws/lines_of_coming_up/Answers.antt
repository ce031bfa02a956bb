use Rattle.std.proofs.Common.{refl}
use Rattle.std.specs.Fmt.{digits}
use Rattle.ncp_numbers.specs.Numbers.{bits_of, number_of}
use Rattle.ncp_numbers.specs.Bytes.{byte_bits, byte_of, bytes_of}
use Rattle.ncp_control.specs.Reading.{command_with, command_at, commands_within, items_in}
use Rattle.ncp_play_world.proofs.laws.lines_of_coming_up.Goals as goal

pub returns : goal.returns
unfolding digits bits_of number_of byte_bits byte_of bytes_of command_with command_at commands_within items_in
returns c = refl
