use Rattle.std.proofs.Common.{◌≡◌, ◌≤◌, take}
use Rattle.std.specs.List.{flat_map}
use Rattle.ncp_play_buffer.specs.BufferedSinks.{SameOutlet, write_failed, write_budget, RendersAll}
use Rattle.ncp_play_audit.specs.FindingLines.{reported_line}
use Rattle.ncp_play_audit.proofs.finding_line.render_findings.Given as goal

abbrev pub invariant-loop-finding : goal.invariant-loop-finding
invariant-loop-finding g l =
    let w = g.W.Sink in
    record {
      said : RendersAll w l.initial.out (flat_map (reported_line l.standard l.number l.at) (take l.finding-index l.found)) l.out;
      writes : write_budget w l.initial.out ≤ write_budget w l.out;
      mark : write_failed w l.out ≡ write_failed w l.initial.out;
      same_outlet : SameOutlet l.initial.out l.out;
    }
