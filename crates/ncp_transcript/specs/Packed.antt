-- A message as a note keeps it: eight bits a byte, spare bits zero.
use Rattle.std.specs.Prelude.{ℕ, ◌≡◌, ◌≤◌, Bool, List, length, take}
use Rattle.ncp_numbers.specs.Bytes.{bits_of_bytes, bytes_of}
use Rattle.ncp_bits.specs.declared.bits.TheConstants.{MAX_BITS}

-- the first `count` bits of bytes
abbrev pub bits_in : List ℕ → ℕ → List Bool
bits_in bytes count = take count (bits_of_bytes bytes)

-- the bytes are those of `count` bits, without excess
pub record IsExact (bytes : List ℕ) (count : ℕ) : Type 0 where
  pub packed : bytes ≡ bytes_of (bits_in bytes count)
  pub len : count ≡ length (bits_in bytes count)
  pub fits : count ≤ MAX_BITS
