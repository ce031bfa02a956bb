use Rattle.std.proofs.Common.{◌≡◌, ◌≤◌, ◌-◌, length, take}
use Rattle.std.specs.Io.KnownBytes.{Appends}
use Rattle.ncp_play_program.proofs.put.put.Given as goal

abbrev pub invariant-loop-done : goal.invariant-loop-done
invariant-loop-done g l =
    let s = g.W.Sink in
    record {
      inside : l.done ≤ length l.piece;
      bytes : Appends (s.written l.initial.sink) (s.written l.sink) (take l.done l.piece);
      mark : s.has_failed l.sink ≡ s.has_failed l.initial.sink;
    }

abbrev pub decreases-loop-done : goal.decreases-loop-done
decreases-loop-done g l = length l.piece - l.done
