-- Numbers as bits. The first bit is the most significant of its field (BBN 1822, section 3).
use Rattle.std.specs.Prelude.{ℕ, ◌+◌, ◌/◌, ◌%◌, ◌^◌, ◌==◌, suc, zero, Bool, List, [], ◌∷◌, length, slice_range, if◌then◌else◌}

-- the number with these bits: the last has weight 1, and each other twice the weight of the next
unfoldable pub number_of : List Bool → ℕ
number_of [] = 0
number_of (bit ∷ bits) = (if bit then 2 ^ length bits else 0) + number_of bits

-- the bit of a number with weight 2 ^ place
abbrev pub bit_of : ℕ → ℕ → Bool
bit_of number place = (number / 2 ^ place) % 2 == 1

-- a number in `width` bits, most significant first
unfoldable pub bits_of : ℕ → ℕ → List Bool
bits_of zero number = []
bits_of (suc width) number = bit_of number width ∷ bits_of width number

-- the number in a field: `width` bits from the bit `at` on
abbrev pub number_at : List Bool → ℕ → ℕ → ℕ
number_at bits at width = number_of (slice_range bits at (at + width))
