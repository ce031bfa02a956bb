use Rattle.std.proofs.Common.{◌≡◌, ℕ, List, Option, Result}
use Rattle.ncp_play_buffer.specs.BufferedSinks.{SameOutlet, written_by, write_failed}
use Rattle.ncp_transcript.specs.Alone.{Alone}
use Rattle.ncp_play_reader.specs.LentScripts.{SameScript, ScriptBrings, is_cut_off, script_work}
use Rattle.ncp_play_notes.specs.declared.fault.PlayFault.{PlayFault}
use Rattle.ncp_play_notes.specs.declared.heading.LinePrefix.{LinePrefix}
use Rattle.ncp_play_notes.specs.Playing.{Tells}
use Rattle.ncp_play_host.specs.declared.lines.LinesEnd.{LinesEnd}
use Rattle.ncp_play_host.specs.Doing.{LinesDo}
use Rattle.ncp_play_host.proofs.lines.play_lines.Given as goal

-- the effect of the remaining lines is that of all
abbrev pub invariant-loop-end : goal.invariant-loop-end
invariant-loop-end g l =
    let s = g.R.Source in let w = g.W.Sink in
    record {
      events : (bytes : List ℕ) → ScriptBrings s l.initial.script bytes → (now : List ℕ) × ScriptBrings s l.script now
          × ((r : Result LinesEnd PlayFault) (alone : Alone) (window : List ℕ) (left : Option (List ℕ)) → LinesDo l.peers l.script.lines.now.number now l.alone r alone window left → LinesDo l.peers l.initial.script.lines.now.number bytes l.initial.alone r alone window left);
      told : (was : List ℕ) (first : LinePrefix) → Tells was first l.initial.alone.notes l.initial.heading l.initial.out.page.now (written_by w l.initial.out) → Tells was first l.alone.notes l.heading l.out.page.now (written_by w l.out);
      source_mark : is_cut_off s l.script ≡ is_cut_off s l.initial.script;
      sink_mark : write_failed w l.out ≡ write_failed w l.initial.out;
      same_script : SameScript l.initial.script l.script;
      same_outlet : SameOutlet l.initial.out l.out;
    }

abbrev pub decreases-loop-end : goal.decreases-loop-end
decreases-loop-end g l = script_work g.R.Source l.script
