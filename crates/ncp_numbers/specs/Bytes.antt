-- Bytes as bits, eight to a byte.
use Rattle.std.specs.Prelude.{ℕ, ◌*◌, ◌-◌, Bool, false, List, length, take, drop, replicate, map, ◌++◌}
use Rattle.std.specs.List.{flat_map, range_with_len}
use Rattle.std.specs.Int.{div_ceil}
use Rattle.ncp_numbers.specs.Numbers.{number_of, bits_of}

unfoldable pub byte_bits : ℕ → List Bool
byte_bits byte = bits_of 8 byte

-- the bits of bytes, in order
abbrev pub bits_of_bytes : List ℕ → List Bool
bits_of_bytes bytes = flat_map byte_bits bytes

-- the number of bytes that `len` bits need
abbrev pub bytes_for : ℕ → ℕ
bytes_for len = div_ceil len 8

-- the number of spare bits in the last of them
abbrev pub spare_for : ℕ → ℕ
spare_for len = 8 * bytes_for len - len

-- the byte of the first eight bits, padded with zeros
unfoldable pub byte_of : List Bool → ℕ
byte_of bits = number_of (take 8 (bits ++ replicate 8 false))

-- the bytes of bits, spare bits zero
unfoldable pub bytes_of : List Bool → List ℕ
bytes_of bits = map (λ place. byte_of (drop (8 * place) bits)) (range_with_len 0 (bytes_for (length bits)))
