-- The parts of lines: numbers after names, bytes in hexadecimal, and the counting of lines.
use Rattle.std.specs.Prelude.{ℕ, ◌+◌, ◌-◌, ◌/◌, ◌%◌, ◌^◌, min, nat_lt, List, [], ◌∷◌, ◌++◌, decimal, if◌then◌else◌}
use Rattle.std.specs.List.{flat_map}

-- a number after its name
abbrev pub field : List ℕ → ℕ → List ℕ
field name number = name ++ decimal number

-- a digit of a hexadecimal number
abbrev pub hex_digit : ℕ → ℕ
hex_digit number = if nat_lt number 10 then 48 + number else 87 + number

abbrev pub hex_byte : ℕ → List ℕ
hex_byte byte = hex_digit (byte / 16) ∷ hex_digit (byte % 16) ∷ []

-- bytes in hexadecimal
abbrev pub hex_of : List ℕ → List ℕ
hex_of bytes = flat_map hex_byte bytes

-- the next number; the largest stays
abbrev pub number_after : ℕ → ℕ
number_after number = min (number + 1) (2 ^ 32 - 1)
