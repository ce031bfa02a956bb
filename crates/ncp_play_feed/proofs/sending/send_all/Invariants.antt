use Rattle.std.proofs.Common.{◌≡◌, ◌≤◌, ℕ, List, Result}
use Rattle.ncp_play_buffer.specs.BufferedSinks.{SameOutlet, written_by, write_failed, write_budget}
use Rattle.ncp_transcript.specs.Alone.{Alone}
use Rattle.ncp_play_notes.specs.declared.fault.PlayFault.{PlayFault}
use Rattle.ncp_play_notes.specs.declared.heading.LinePrefix.{LinePrefix}
use Rattle.ncp_play_notes.specs.Playing.{Tells}
use Rattle.ncp_play_feed.specs.Steps.{SendsFrom}
use Rattle.ncp_play_feed.specs.Going.{open_links}
use Rattle.ncp_play_feed.proofs.sending.send_all.Given as goal

abbrev pub invariant-loop : goal.invariant-loop
invariant-loop g l =
    let w = g.W.Sink in
    record {
      events : (r : Result Unit PlayFault) (now : Alone) → SendsFrom l.alone r now → SendsFrom l.initial.alone r now;
      told : (was : List ℕ) (first : LinePrefix) → Tells was first l.initial.alone.notes l.initial.heading l.initial.out.page.now (written_by w l.initial.out) → Tells was first l.alone.notes l.heading l.out.page.now (written_by w l.out);
      sink_mark : write_failed w l.out ≡ write_failed w l.initial.out;
      writes : write_budget w l.initial.out ≤ write_budget w l.out;
      same_outlet : SameOutlet l.initial.out l.out;
    }

abbrev pub decreases-loop : goal.decreases-loop
decreases-loop g l = open_links l.alone.host
