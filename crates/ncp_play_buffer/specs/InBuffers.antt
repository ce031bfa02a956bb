-- A bound for reading on from an in buffer.
use Rattle.std.specs.Prelude.{ℕ, ◌+◌, ◌*◌, List, length}
use Rattle.ncp_play_buffer.specs.declared.in_buffer.TheConstants.{WINDOW_SIZE}

-- the remaining work of a reader: reads, and bytes in the buffer
abbrev pub read_measure : ℕ → List ℕ → ℕ
read_measure reads window = reads * (WINDOW_SIZE + 1) + length window
