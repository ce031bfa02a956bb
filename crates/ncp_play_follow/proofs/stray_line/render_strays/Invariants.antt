use Rattle.std.proofs.Common.{◌≡◌, ◌≤◌, take}
use Rattle.std.specs.List.{flat_map}
use Rattle.ncp_play_buffer.specs.BufferedSinks.{SameOutlet, write_failed, write_budget, RendersAll}
use Rattle.ncp_play_follow.specs.ConnectionLines.{stray_line}
use Rattle.ncp_play_follow.proofs.stray_line.render_strays.Given as goal

abbrev pub invariant-loop-session : goal.invariant-loop-session
invariant-loop-session g l =
    let w = g.W.Sink in
    record {
      said : RendersAll w l.initial.out (flat_map stray_line (take l.session-index l.sessions)) l.out;
      writes : write_budget w l.initial.out ≤ write_budget w l.out;
      mark : write_failed w l.out ≡ write_failed w l.initial.out;
      same_outlet : SameOutlet l.initial.out l.out;
    }
