use Rattle.std.proofs.Common.{refl}
use Rattle.std.specs.Fmt.{digits}
use Rattle.ncp_numbers.specs.Numbers.{bits_of, number_of}
use Rattle.ncp_numbers.specs.Bytes.{byte_bits, byte_of, bytes_of}
use Rattle.ncp_play_notes.proofs.laws.a_side.Goals as goal

pub returns : goal.returns
unfolding digits bits_of number_of byte_bits byte_of bytes_of
returns c = refl
