use Rattle.std.proofs.Common.{◌≡◌, ℕ, List, drop, Result}
use Rattle.ncp_play_buffer.specs.BufferedSinks.{SameOutlet, written_by, write_failed}
use Rattle.ncp_transcript.specs.Alone.{Alone}
use Rattle.ncp_play_notes.specs.declared.fault.PlayFault.{PlayFault}
use Rattle.ncp_play_notes.specs.declared.heading.LinePrefix.{LinePrefix}
use Rattle.ncp_play_notes.specs.Playing.{Tells}
use Rattle.ncp_play_host.specs.Events.{inputs_of_restarts, DoesAllOf}
use Rattle.ncp_play_host.proofs.restarting.play_restarts.Given as goal

-- the effect of the remaining peers is that of all
abbrev pub invariant-loop-peer : goal.invariant-loop-peer
invariant-loop-peer g l =
    let w = g.W.Sink in
    record {
      events : (r : Result Unit PlayFault) (now : Alone) → DoesAllOf (inputs_of_restarts (drop l.peer-index l.peers) l.alone.host) l.alone r now → DoesAllOf (inputs_of_restarts l.peers l.fn.alone.host) l.fn.alone r now;
      told : (was : List ℕ) (first : LinePrefix) → Tells was first l.fn.alone.notes l.fn.heading l.fn.out.page.now (written_by w l.fn.out) → Tells was first l.alone.notes l.heading l.out.page.now (written_by w l.out);
      mark : write_failed w l.out ≡ write_failed w l.fn.out;
      same_outlet : SameOutlet l.fn.out l.out;
    }
