-- The bits of bytes, or the fault for which they are refused.
use Rattle.std.specs.Prelude.{ℕ, ◌≡◌, ◌<◌, ◌*◌, Bool, true, nat_lt, List, [], ◌∷◌, length, take, drop, Result, Ok, Err, if◌then◌else◌}
use Rattle.std.specs.List.{list_any}
use Rattle.ncp_numbers.specs.Bytes.{bits_of_bytes, bytes_for}
use Rattle.ncp_bits.specs.declared.bits.TheConstants.{MAX_BITS}
use Rattle.ncp_bits.specs.declared.bits.BitsFault.{BitsFault}
use Rattle.ncp_bits.specs.declared.bits.BitsFault.TheVariants.{TooLong, ShortBytes, SpareNotZero}

-- the bits after the first `len`, in the last byte used
abbrev pub spare_bits : List ℕ → ℕ → List Bool
spare_bits bytes len = drop len (bits_of_bytes (take (bytes_for len) bytes))

-- the first `len` bits of bytes, or the first fault
abbrev pub read_bytes : List ℕ → ℕ → Result (List Bool) BitsFault
read_bytes bytes len =
    if nat_lt MAX_BITS len then Err TooLong
    else if nat_lt (length bytes) (bytes_for len) then Err ShortBytes
    else if list_any (λ bit. bit) (spare_bits bytes len) then Err SpareNotZero
    else Ok (take len (bits_of_bytes bytes))

-- a bit is set
abbrev pub HasOne : List Bool → Type 0
HasOne bits = list_any (λ bit. bit) bits ≡ true

-- the condition of each fault, on the bytes and the number of bits to be read
abbrev pub IsAtFault : List ℕ → ℕ → BitsFault → Type 0
IsAtFault bytes len TooLong = MAX_BITS < len
IsAtFault bytes len ShortBytes = 8 * length bytes < len
IsAtFault bytes len SpareNotZero = HasOne (spare_bits bytes len)

-- the order of the checks
abbrev pub judged : List BitsFault
judged = TooLong ∷ ShortBytes ∷ SpareNotZero ∷ []
