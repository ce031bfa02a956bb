-- How often a file is read and written.
use Rattle.std.proofs.Common.{ℕ, ◌+◌, ◌-◌, ◌*◌, ◌/◌, ◌≤◌, Bool, true, false, List, [], ◌∷◌, length, Option, Some, None, arith}
use Rattle.ncp_play_stream.specs.Pieces.{reads_for, reads_beyond, unpaid}

-- the reads that were done, by those that are left
pub reads_done : (full : Bool) (was now more : ℕ) (bytes : List ℕ) (left : Option (List ℕ)) → reads_beyond full was (Some bytes) ≤ reads_beyond full now left + more → was ≤ now + reads_for full (length bytes) + more
reads_done full was now more bytes None h = omega arith
reads_done full was now more bytes (Some rest) h = omega arith

-- the writes, by the bytes that were written and the reads that were done
pub writes_done : (was now : List ℕ) (before after had have lost : ℕ) → length was + before * 4096 + have * 4096 ≤ length now + after * 4096 + had * 4096 + lost → lost ≤ 8192 → before ≤ after + (length now - length was) / 4096 + (had - have) + 2
writes_done was now before after had have lost h k = omega arith

pub unpaid_few : (failed : Bool) (page : List ℕ) → unpaid failed page ≤ 8192
unpaid_few true page = omega arith
unpaid_few false [] = omega arith
unpaid_few false (byte ∷ page) = omega arith
