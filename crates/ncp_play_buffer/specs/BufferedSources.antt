-- The state of a buffered source, an in buffer with its source, in terms of its source's ghosts; and the
-- reads that writes are charged to.
use Rattle.std.specs.Prelude.{◌≡◌, ℕ, Bool, List, Option}
use Rattle.ncp_play_stream.specs.Pieces.{reads_beyond, Paid}
use Rattle.ncp_play_stream.specs.Streams.{RemainingInput}
use Rattle.ncp_play_stream.specs.declared.sink.Sink as sinks
use Rattle.ncp_play_stream.specs.declared.source.Source.{Ghosts}
use Rattle.ncp_play_buffer.specs.InBuffers.{read_measure}
use Rattle.ncp_play_buffer.specs.declared.buffered_source.BufferedSource.{BufferedSource}
use Rattle.ncp_play_buffer.specs.declared.buffered_sink.BufferedSink.{BufferedSink}

-- the buffer and the source are those that were borrowed
abbrev pub SameInlet : {S : Type 0} → BufferedSource S → BufferedSource S → Type 0
SameInlet input input' = (input'.window.ghost_name ≡ input.window.ghost_name) × (input'.source.ghost_name ≡ input.source.ghost_name)

module _ {S : Type 0} (source : Ghosts S) where
  -- the bytes that the source has left, if it reports them
  abbrev pub left_in : BufferedSource S → Option (List ℕ)
  left_in input = source.left input.source.now

  -- the number of reads left
  abbrev pub reads_left : BufferedSource S → ℕ
  reads_left input = source.reads input.source.now

  -- a read has failed
  abbrev pub read_failed : BufferedSource S → Bool
  read_failed input = source.has_failed input.source.now

  -- the number of reads beyond those that the remaining bytes take
  abbrev pub slack : BufferedSource S → ℕ
  slack input = reads_beyond source.gives_all (reads_left input) (left_in input)

  -- the remaining work of a reader
  abbrev pub work : BufferedSource S → ℕ
  work input = read_measure (reads_left input) input.window.now

  -- these bytes are still to be read, in the buffer or from the source
  abbrev pub Brings : BufferedSource S → List ℕ → Type 0
  Brings input bytes = RemainingInput input.window.now (left_in input) bytes

  -- each write is charged to a piece of written bytes or to a read, except for a number of bytes that
  -- `short` gives for the out buffer
  abbrev pub PaidBy : {W : Type 0} → sinks.Ghosts W → BufferedSink W → BufferedSource S → BufferedSink W → BufferedSource S → (List ℕ → ℕ) → Type 0
  PaidBy sink out input out' input' short =
      Paid sink.takes_all (sink.writes out.sink.now) (sink.written out.sink.now) (reads_left input) (sink.writes out'.sink.now) (sink.written out'.sink.now)
      (reads_left input') (short out'.page.now)
