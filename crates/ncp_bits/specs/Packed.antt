-- Packed bits, eight to a byte, in runs that start at any bit.
use Rattle.std.specs.Prelude.{ℕ, ◌+◌, ◌*◌, ◌<◌, ◌≤◌, ◌^◌, Bool, List, length, take, drop}
use Rattle.ncp_numbers.specs.Bytes.{bits_of_bytes}
use Rattle.ncp_bits.specs.declared.bits.TheConstants.{MAX_BITS}

-- the run of `len` bits from the bit `from` on
unfoldable pub bit_run : List ℕ → ℕ → ℕ → List Bool
bit_run bytes from len = take len (drop from (bits_of_bytes bytes))

-- bytes that start with `len` bits; the bits after them are arbitrary
pub record HoldsBits (bytes : List ℕ) (len : ℕ) : Type 0 where
  pub fits : len ≤ MAX_BITS
  pub inside : len ≤ 8 * length bytes

-- bytes with room for `capacity` bits that hold a run of at most as many; it may start at any bit
pub record HoldsRun (bytes : List ℕ) (from len capacity : ℕ) : Type 0 where
  pub fits : len ≤ capacity
  pub inside : from + len ≤ 8 * length bytes
  pub room : capacity + 8 ≤ 8 * length bytes
  pub counted : 8 * length bytes < 2 ^ 64

-- a part of bytes: it starts in the first byte, and is no longer than a message
pub record IsPart (bytes : List ℕ) (skip len : ℕ) : Type 0 where
  pub near : skip < 8
  pub fits : len ≤ MAX_BITS
  pub inside : skip + len ≤ 8 * length bytes
