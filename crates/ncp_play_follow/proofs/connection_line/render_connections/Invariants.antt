use Rattle.std.proofs.Common.{◌≡◌, ◌≤◌, take}
use Rattle.std.specs.List.{flat_map}
use Rattle.ncp_play_buffer.specs.BufferedSinks.{SameOutlet, write_failed, write_budget, RendersAll}
use Rattle.ncp_play_follow.specs.ConnectionLines.{connection_lines}
use Rattle.ncp_play_follow.proofs.connection_line.render_connections.Given as goal

abbrev pub invariant-loop-connection : goal.invariant-loop-connection
invariant-loop-connection g l =
    let w = g.W.Sink in
    record {
      said : RendersAll w l.initial.out (flat_map (connection_lines l.letters) (take l.connection-index l.told)) l.out;
      writes : write_budget w l.initial.out ≤ write_budget w l.out;
      mark : write_failed w l.out ≡ write_failed w l.initial.out;
      same_outlet : SameOutlet l.initial.out l.out;
    }
