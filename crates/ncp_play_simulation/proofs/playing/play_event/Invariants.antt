use Rattle.std.proofs.Common.{◌≡◌, ◌≤◌, ◌-◌, ◌^◌, ℕ, List, length}
use Rattle.ncp_play_buffer.specs.BufferedSinks.{SameOutlet, written_by, write_failed, write_budget}
use Rattle.ncp_play_simulation.specs.Rules.{Begins}
use Rattle.ncp_play_simulation.specs.Playing.{Tells}
use Rattle.ncp_play_simulation.proofs.playing.play_event.Given as goal

-- the event has left `left` notes, all rendered, and has not ended
abbrev pub invariant-loop-left : goal.invariant-loop-left
invariant-loop-left g l =
    let w = g.W.Sink in let rules = g.C.Simulation.rules in
    record {
      begun : Begins rules l.event 0 l.left l.initial.player.hosts l.player.hosts;
      told : (began : g.row.C-Hosts.Denot) (was : List ℕ) → Tells rules (g.T.Renderer.rendering l.first) began was l.initial.player.hosts l.initial.player.number l.initial.out.page.now (written_by w l.initial.out)
          → Tells rules (g.T.Renderer.rendering l.first) began was l.player.hosts l.player.number l.out.page.now (written_by w l.out);
      few : l.left ≤ length (rules.notes l.player.hosts);
      writes : write_budget w l.initial.out ≤ write_budget w l.out;
      mark : write_failed w l.out ≡ write_failed w l.initial.out;
      same_outlet : SameOutlet l.initial.out l.out;
    }

-- the number of further notes that can be counted
abbrev pub decreases-loop-left : goal.decreases-loop-left
decreases-loop-left g l = 2 ^ 64 - length (g.C.Simulation.rules.notes l.player.hosts)
