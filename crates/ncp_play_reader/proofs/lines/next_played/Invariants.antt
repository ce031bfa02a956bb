use Rattle.std.proofs.Common.{◌≡◌, ℕ, List, Option, Result, ◌≤◌}
use Rattle.ncp_play_stream.specs.declared.source.Failed.{Failed}
use Rattle.ncp_play_stream.specs.Streams.{RemainingInput}
use Rattle.ncp_play_buffer.specs.InBuffers.{read_measure}
use Rattle.ncp_play_reader.specs.declared.lines.Lines.{Lines}
use Rattle.ncp_play_reader.specs.declared.lines.NextLine.{NextLine}
use Rattle.ncp_play_reader.specs.NextLines.{ReadsNextLine}
use Rattle.ncp_play_reader.proofs.lines.next_played.Given as goal

-- the result for the remaining bytes is the result for all
abbrev pub invariant-loop-ended : goal.invariant-loop-ended
invariant-loop-ended g l =
    let s = g.S.Source in
    record {
      told : (bytes : List ℕ) → RemainingInput l.initial.lines.window (s.left l.initial.source) bytes → (now : List ℕ) × RemainingInput l.lines.window (s.left l.source) now
          × ((r : Result NextLine Failed) (lines : Lines) (left : Option (List ℕ)) → ReadsNextLine l.lines.number now r lines left → ReadsNextLine l.initial.lines.number bytes r lines left);
      read_measure : read_measure (s.reads l.source) l.lines.window ≤ read_measure (s.reads l.initial.source) l.initial.lines.window;
      mark : s.has_failed l.source ≡ s.has_failed l.initial.source;
    }

abbrev pub decreases-loop-ended : goal.decreases-loop-ended
decreases-loop-ended g l = read_measure (g.S.Source.reads l.source) l.lines.window
