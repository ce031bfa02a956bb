use Rattle.std.proofs.Common.{◌≡◌, ℕ, ◌-◌, List, Result}
use Rattle.std.specs.List.{range_with_len}
use Rattle.ncp_play_buffer.specs.BufferedSinks.{SameOutlet, written_by, write_failed}
use Rattle.ncp_transcript.specs.Alone.{Alone}
use Rattle.ncp_play_notes.specs.declared.fault.PlayFault.{PlayFault}
use Rattle.ncp_play_notes.specs.declared.heading.LinePrefix.{LinePrefix}
use Rattle.ncp_play_notes.specs.Playing.{Tells}
use Rattle.ncp_play_host.specs.Events.{incompletes_on, inputs_of_restart, DoesAllOf}
use Rattle.ncp_play_host.proofs.restarting.play_restart.Given as goal

-- the effect of the remaining links is that of all
abbrev pub invariant-loop-link : goal.invariant-loop-link
invariant-loop-link g l =
    let w = g.W.Sink in
    record {
      events : (r : Result Unit PlayFault) (now : Alone) → DoesAllOf (incompletes_on l.fn.peer (range_with_len l.link (72 - l.link)) l.alone.host) l.alone r now → DoesAllOf (inputs_of_restart l.fn.peer l.fn.alone.host) l.fn.alone r now;
      told : (was : List ℕ) (first : LinePrefix) → Tells was first l.fn.alone.notes l.fn.heading l.fn.out.page.now (written_by w l.fn.out) → Tells was first l.alone.notes l.heading l.out.page.now (written_by w l.out);
      mark : write_failed w l.out ≡ write_failed w l.fn.out;
      same_outlet : SameOutlet l.fn.out l.out;
    }
