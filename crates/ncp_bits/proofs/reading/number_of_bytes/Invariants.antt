use Rattle.std.proofs.Common.{◌≡◌, take}
use Rattle.ncp_numbers.specs.Numbers.{number_of}
use Rattle.ncp_numbers.specs.Bytes.{bits_of_bytes}
use Rattle.ncp_bits.proofs.reading.number_of_bytes.Given as goal

abbrev pub invariant-loop-byte : goal.invariant-loop-byte
invariant-loop-byte l = l.number ≡ number_of (bits_of_bytes (take l.byte-index l.bytes))
