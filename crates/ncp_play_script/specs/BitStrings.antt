-- Bits in two words of a script: their number, and their bytes in hexadecimal (this profile).
use Rattle.std.specs.Prelude.{ℕ, ◌+◌, ◌*◌, ◌==◌, nat_lt, Bool, List, [], ◌∷◌, length, Option, Some, None, option_map, if◌then◌else◌}
use Rattle.std.specs.Char.{digit_value}
use Rattle.std.specs.Result.{result_ok}
use Rattle.ncp_numbers.specs.Bytes.{bytes_for}
use Rattle.ncp_bits.specs.Bits.{read_bytes}
use Rattle.ncp_bits.specs.declared.bits.TheConstants.{MAX_BITS}
use Rattle.ncp_play_script.specs.Words.{number_first}

-- the value of a hexadecimal digit of either case
abbrev pub hex_value : ℕ → Option ℕ
hex_value digit = if nat_lt (digit_value digit) 16 then Some (digit_value digit) else None

-- bytes preceded by a byte of two digits, if all of them are valid
abbrev pub with_byte : Option ℕ → Option ℕ → Option (List ℕ) → Option (List ℕ)
with_byte None low bytes = None
with_byte (Some high) None bytes = None
with_byte (Some high) (Some low) bytes = option_map (λ behind. (16 * high + low) ∷ behind) bytes

-- the bytes that hexadecimal digits spell, two digits a byte
abbrev pub hex_bytes : List ℕ → Option (List ℕ)
hex_bytes [] = Some []
hex_bytes (high ∷ []) = None
hex_bytes (high ∷ low ∷ digits) = with_byte (hex_value high) (hex_value low) (hex_bytes digits)

-- `len` bits in exactly their number of bytes, with spare bits zero
abbrev pub bits_in_bytes : ℕ → List ℕ → Option (List Bool)
bits_in_bytes len bytes = if length bytes == bytes_for len then result_ok (read_bytes bytes len) else None

abbrev pub bits_in_hex : ℕ → Option (List ℕ) → Option (List Bool)
bits_in_hex len None = None
bits_in_hex len (Some bytes) = bits_in_bytes len bytes

-- `len` bits in the first word, and the words after it; no word is read for 0 bits
abbrev pub bits_in_word : ℕ → List (List ℕ) → Option (List Bool × List (List ℕ))
bits_in_word len [] = None
bits_in_word len (word ∷ words) = option_map (λ bits. (bits, words)) (bits_in_hex len (hex_bytes word))

abbrev pub bits_after : Option (ℕ × List (List ℕ)) → Option (List Bool × List (List ℕ))
bits_after None = None
bits_after (Some (len, words)) = if len == 0 then Some ([], words) else bits_in_word len words

-- the bits in the first words, and the words after them
abbrev pub bits_first : List (List ℕ) → Option (List Bool × List (List ℕ))
bits_first words = bits_after (number_first MAX_BITS words)
