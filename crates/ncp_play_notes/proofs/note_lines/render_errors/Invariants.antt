use Rattle.std.proofs.Common.{◌≡◌, ◌≤◌, take}
use Rattle.ncp_play_buffer.specs.BufferedSinks.{SameOutlet, write_failed, write_budget, RendersAll}
use Rattle.ncp_play_notes.specs.Results.{error_lines}
use Rattle.ncp_play_notes.proofs.note_lines.render_errors.Given as goal

abbrev pub invariant-loop-error : goal.invariant-loop-error
invariant-loop-error g l =
    let w = g.W.Sink in
    record {
      said : RendersAll w l.initial.out (error_lines (take l.error-index l.errors)) l.out;
      writes : write_budget w l.initial.out ≤ write_budget w l.out;
      mark : write_failed w l.out ≡ write_failed w l.initial.out;
      same_outlet : SameOutlet l.initial.out l.out;
    }
