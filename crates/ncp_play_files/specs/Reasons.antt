-- Why no record begins at the front of bytes, in the order of the checks.
use Rattle.std.specs.Prelude.{ℕ, ◌==◌, ◌||◌, not, true, nat_lt, Bool, List, [], ◌∷◌, drop, length, Option, Some, None, if◌then◌else◌}
use Rattle.std.specs.List.{list_any}
use Rattle.byteorder.specs.Endian.{big_number}
use Rattle.ncp_numbers.specs.Bytes.{bytes_for}
use Rattle.ncp_bits.specs.Bits.{spare_bits}
use Rattle.ncp_bits.specs.declared.bits.TheConstants.{MAX_BITS}
use Rattle.ncp_play_files.specs.declared.file.FileFault.{FileFault}
use Rattle.ncp_play_files.specs.declared.file.FileFault.TheVariants.{Truncated, TooLong, SpareNotZero, BadDirection}

-- a fault, and whether it applies
abbrev pub Reason : Type 0
Reason = FileFault × Bool

-- the first fault that applies
abbrev pub first_fault_of : List Reason → Option FileFault
first_fault_of [] = None
first_fault_of (reason ∷ reasons) = if reason.1 then Some reason.0 else first_fault_of reasons

-- version 1, in order: fewer than two bytes of a length; a length over the limit; fewer bytes than the
-- length; a spare bit that is set
abbrev pub reasons_at : List ℕ → List Reason
reasons_at bytes =
    let bits = big_number 2 bytes in
    (Truncated, nat_lt (length bytes) 2)
    ∷ (TooLong, nat_lt MAX_BITS bits)
    ∷ (Truncated, nat_lt (length (drop 2 bytes)) (bytes_for bits))
    ∷ (SpareNotZero, list_any (λ bit. bit) (spare_bits (drop 2 bytes) bits))
    ∷ []

-- the first byte names no direction
abbrev pub names_none : List ℕ → Bool
names_none [] = true
names_none (byte ∷ bytes) = not (byte == 72 || byte == 73)

-- version 2, in order: a byte that names no direction; no byte for the host after it; then as in version
-- 1
abbrev pub placed_reasons_at : List ℕ → List Reason
placed_reasons_at bytes = (BadDirection, names_none bytes) ∷ (Truncated, nat_lt (length bytes) 2) ∷ reasons_at (drop 2 bytes)
