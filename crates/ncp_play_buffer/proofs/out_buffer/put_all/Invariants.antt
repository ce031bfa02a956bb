use Rattle.std.proofs.Common.{◌≡◌, ◌<◌, ◌≤◌, ◌+◌, ◌-◌, ◌⊎◌, true, length, take}
use Rattle.std.specs.Io.KnownBytes.{Appends}
use Rattle.ncp_play_buffer.proofs.out_buffer.put_all.Given as goal

abbrev pub invariant-loop-done : goal.invariant-loop-done
invariant-loop-done g l =
    let s = g.W.Sink in
    record {
      inside : l.done ≤ length l.piece;
      bytes : Appends (s.written l.initial.sink) (s.written l.sink) (take l.done l.piece);
      writes : s.takes_all ≡ true
          → ((l.done ≡ 0) × (s.writes l.sink ≡ s.writes l.initial.sink))
          ⊎ ((s.writes l.initial.sink ≤ s.writes l.sink + 1) × (0 < l.done) × (l.done < length l.piece → s.room l.sink ≡ 0));
      mark : s.has_failed l.sink ≡ s.has_failed l.initial.sink;
    }

abbrev pub decreases-loop-done : goal.decreases-loop-done
decreases-loop-done g l = length l.piece - l.done
