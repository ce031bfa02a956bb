-- The state of a buffered sink, an out buffer with its sink, in terms of its sink's ghosts.
use Rattle.std.specs.Prelude.{◌≡◌, ℕ, Bool, List, [], Option, Result}
use Rattle.ncp_play_stream.specs.Pieces.{bytes_and_writes}
use Rattle.ncp_play_stream.specs.Streams.{SaidSoFar, WritesText, WritesPrefixOf, WritesTextOrPrefixOf}
use Rattle.ncp_play_stream.specs.declared.sink.Sink.{Ghosts}
use Rattle.ncp_play_stream.specs.declared.source.Failed.{Failed}
use Rattle.ncp_play_buffer.specs.declared.buffered_sink.BufferedSink.{BufferedSink}

-- the buffer and the sink are those that were borrowed
abbrev pub SameOutlet : {W : Type 0} → BufferedSink W → BufferedSink W → Type 0
SameOutlet out out' = (out'.page.ghost_name ≡ out.page.ghost_name) × (out'.sink.ghost_name ≡ out.sink.ghost_name)

module _ {W : Type 0} (sink : Ghosts W) where
  -- the bytes that were written, if the sink reports them
  abbrev pub written_by : BufferedSink W → Option (List ℕ)
  written_by out = sink.written out.sink.now

  -- a write has failed
  abbrev pub write_failed : BufferedSink W → Bool
  write_failed out = sink.has_failed out.sink.now

  -- the budget of writes: the number of bytes written, plus a piece for each write that is left
  abbrev pub write_budget : BufferedSink W → ℕ
  write_budget out = bytes_and_writes sink.takes_all (sink.writes out.sink.now) (sink.written out.sink.now)

  -- exactly this text was rendered since the sink held `was`
  abbrev pub HasSaid : List ℕ → BufferedSink W → List ℕ → Type 0
  HasSaid was out text = SaidSoFar was out.page.now (written_by out) text

  -- this text was appended to everything rendered before
  abbrev pub RendersAll : BufferedSink W → List ℕ → BufferedSink W → Type 0
  RendersAll out text out' = WritesText out.page.now (written_by out) text out'.page.now (written_by out')

  -- a prefix of this text was written, and the rest is lost
  abbrev pub RendersPart : BufferedSink W → List ℕ → BufferedSink W → Type 0
  RendersPart out text out' = WritesPrefixOf out.page.now (written_by out) text (written_by out')

  -- by the result: this text was appended, or a prefix of it was written
  abbrev pub RendersOrBreaks : BufferedSink W → List ℕ → Result Unit Failed → BufferedSink W → Type 0
  RendersOrBreaks out text result out' = WritesTextOrPrefixOf out.page.now (written_by out) text result out'.page.now (written_by out')

  -- by the result: this text was rendered and the buffer is empty, or a prefix of it was written
  abbrev pub WritesOrBreaks : BufferedSink W → List ℕ → Result Unit Failed → BufferedSink W → Type 0
  WritesOrBreaks out text result out' = WritesTextOrPrefixOf out.page.now (written_by out) text result [] (written_by out')
