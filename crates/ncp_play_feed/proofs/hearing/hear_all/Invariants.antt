use Rattle.std.proofs.Common.{◌≡◌, ◌≤◌, ℕ, List, Option, Result}
use Rattle.ncp_play_buffer.specs.BufferedSinks.{SameOutlet, written_by, write_failed}
use Rattle.ncp_play_buffer.specs.BufferedSources.{SameInlet, read_failed, slack, work, Brings, PaidBy}
use Rattle.ncp_transcript.specs.Alone.{Alone}
use Rattle.ncp_play_notes.specs.declared.fault.PlayFault.{PlayFault}
use Rattle.ncp_play_notes.specs.declared.heading.LinePrefix.{LinePrefix}
use Rattle.ncp_play_notes.specs.Playing.{Tells}
use Rattle.ncp_play_feed.specs.Steps.{HearsFrom}
use Rattle.ncp_play_feed.proofs.hearing.hear_all.Given as goal

abbrev pub invariant-loop-messages : goal.invariant-loop-messages
invariant-loop-messages g l =
    let s = g.R.Source in let w = g.W.Sink in
    record {
      events : (bytes : List ℕ) → Brings s l.initial.input bytes
          → (rest : List ℕ) × Brings s l.input rest
          × ((r : Result Unit PlayFault) (now : Alone) (left : Option (List ℕ)) → HearsFrom rest l.alone r now left → HearsFrom bytes l.initial.alone r now left);
      told : (was : List ℕ) (first : LinePrefix) → Tells was first l.initial.alone.notes l.initial.heading l.initial.out.page.now (written_by w l.initial.out) → Tells was first l.alone.notes l.heading l.out.page.now (written_by w l.out);
      source_mark : read_failed s l.input ≡ read_failed s l.initial.input;
      sink_mark : write_failed w l.out ≡ write_failed w l.initial.out;
      reads : slack s l.initial.input ≤ slack s l.input;
      writes : PaidBy s w l.initial.out l.initial.input l.out l.input (λ _. 0);
      same_inlet : SameInlet l.initial.input l.input;
      same_outlet : SameOutlet l.initial.out l.out;
    }

abbrev pub decreases-loop-messages : goal.decreases-loop-messages
decreases-loop-messages g l = work g.R.Source l.input
