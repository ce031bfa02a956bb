use Rattle.std.proofs.Common.{◌≡◌, ℕ, List}
use Rattle.ncp_play_buffer.specs.BufferedSinks.{SameOutlet, written_by, write_failed}
use Rattle.ncp_play_reader.specs.LentScripts.{SameScript, ScriptBrings, is_cut_off, script_work}
use Rattle.ncp_play_simulation.specs.Playing.{Tells}
use Rattle.ncp_play_simulation.specs.Players.{GoesOn}
use Rattle.ncp_play_simulation.proofs.player.play_lines.Given as goal

abbrev pub invariant-loop : goal.invariant-loop
invariant-loop g l =
    let s = g.R.Source in let w = g.W.Sink in
    record {
      events : (bytes : List ℕ) → ScriptBrings s l.initial.script bytes
          → (now : List ℕ) × ScriptBrings s l.script now × GoesOn g.C.Simulation.rules l.first l.initial.script.lines.now.number bytes l.initial.player.hosts l.script.lines.now.number now l.player.hosts;
      told : (began : g.row.C-Hosts.Denot) (was : List ℕ) → Tells g.C.Simulation.rules (g.T.Renderer.rendering l.first) began was l.initial.player.hosts l.initial.player.number l.initial.out.page.now (written_by w l.initial.out)
          → Tells g.C.Simulation.rules (g.T.Renderer.rendering l.first) began was l.player.hosts l.player.number l.out.page.now (written_by w l.out);
      source_mark : is_cut_off s l.script ≡ is_cut_off s l.initial.script;
      sink_mark : write_failed w l.out ≡ write_failed w l.initial.out;
      same_script : SameScript l.initial.script l.script;
      same_outlet : SameOutlet l.initial.out l.out;
    }

abbrev pub decreases-loop : goal.decreases-loop
decreases-loop g l = script_work g.R.Source l.script
