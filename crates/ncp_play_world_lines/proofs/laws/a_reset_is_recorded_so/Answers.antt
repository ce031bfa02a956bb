use Rattle.std.proofs.Common.{refl}
use Rattle.ncp_numbers.specs.Numbers.{bits_of, number_of}
use Rattle.ncp_numbers.specs.Bytes.{byte_bits, byte_of, bytes_of}
use Rattle.ncp_subnet.specs.Messages.{answer_bits}
use Rattle.ncp_play_world_lines.proofs.laws.a_reset_is_recorded_so.Goals as goal

pub returns : goal.returns
unfolding bits_of number_of byte_bits byte_of bytes_of answer_bits
returns c = refl
