use Rattle.std.proofs.Common.{◌≡◌, ◌≤◌, ℕ, List}
use Rattle.ncp_play_stream.specs.Streams.{RemainingInput}
use Rattle.ncp_play_buffer.specs.InBuffers.{read_measure}
use Rattle.ncp_play_reader.proofs.Pieces.{Underway}
use Rattle.ncp_play_reader.proofs.reading.next_line.Given as goal

abbrev pub invariant-loop-line : goal.invariant-loop-line
invariant-loop-line g l =
    let s = g.S.Source in
    record {
      told : (bytes : List ℕ) → RemainingInput l.initial.window (s.left l.initial.source) bytes → Underway bytes l.line l.window (s.left l.source);
      read_measure : read_measure (s.reads l.source) l.window ≤ read_measure (s.reads l.initial.source) l.initial.window;
      mark : s.has_failed l.source ≡ s.has_failed l.initial.source;
    }

abbrev pub decreases-loop-line : goal.decreases-loop-line
decreases-loop-line g l = read_measure (g.S.Source.reads l.source) l.window
