-- The number of reads and writes that bytes take.
use Rattle.std.specs.Prelude.{ℕ, ◌+◌, ◌-◌, ◌*◌, ◌≤◌, Bool, true, false, List, [], ◌∷◌, length, Option, Some, None}
use Rattle.std.specs.Int.{div_ceil}
use Rattle.ncp_play_stream.specs.declared.source.TheConstants.{LEAST_PIECE}

-- the maximum number of reads for this many bytes: one for each byte, or, if each read returns as much as
-- it can, one for each piece
abbrev pub reads_for : Bool → ℕ → ℕ
reads_for false bytes = bytes
reads_for true bytes = div_ceil bytes LEAST_PIECE

-- the number of reads beyond those that the remaining bytes take
abbrev pub reads_beyond : Bool → ℕ → Option (List ℕ) → ℕ
reads_beyond full reads None = 0
reads_beyond full reads (Some bytes) = reads - reads_for full (length bytes)

-- the number of bytes written, plus a piece for each write that is left, if each write takes as much as
-- it can; otherwise 0
abbrev pub bytes_and_writes : Bool → ℕ → Option (List ℕ) → ℕ
bytes_and_writes false writes written = 0
bytes_and_writes true writes None = 0
bytes_and_writes true writes (Some bytes) = length bytes + writes * LEAST_PIECE

-- two writes may write less than a piece if one of them fails
abbrev pub lost_pieces : Bool → ℕ
lost_pieces false = 0
lost_pieces true = 2 * LEAST_PIECE

-- one write may write less than a piece: a last one, which empties the buffer; if a write fails, two
abbrev pub unpaid : Bool → List ℕ → ℕ
unpaid true page = lost_pieces true
unpaid false [] = LEAST_PIECE
unpaid false (byte ∷ bytes) = 0

-- each write is charged to a piece of written bytes or to a read, but for `short` bytes
abbrev pub Paid : Bool → ℕ → Option (List ℕ) → ℕ → ℕ → Option (List ℕ) → ℕ → ℕ → Type 0
Paid full writes written reads writes' written' reads' short =
    bytes_and_writes full writes written + reads' * LEAST_PIECE ≤ bytes_and_writes full writes' written' + reads * LEAST_PIECE + short
