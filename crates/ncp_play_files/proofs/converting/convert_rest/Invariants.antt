use Rattle.std.proofs.Common.{◌≡◌, ◌≤◌, ℕ, List, Option, Result}
use Rattle.ncp_play_buffer.specs.BufferedSinks.{SameOutlet, write_failed, HasSaid}
use Rattle.ncp_play_buffer.specs.BufferedSources.{SameInlet, read_failed, slack, work, Brings, PaidBy}
use Rattle.ncp_play_files.specs.declared.file.FileFault.{FileFault}
use Rattle.ncp_play_files.specs.Converted.{next_at}
use Rattle.ncp_play_files.specs.Steps.{RendersFrom}
use Rattle.ncp_play_files.specs.Turning.{message_printed}
use Rattle.ncp_play_files.proofs.converting.convert_rest.Given as goal

-- what holds of the rest, with whatever number, holds of all
abbrev pub invariant-loop-records : goal.invariant-loop-records
invariant-loop-records g l =
    let s = g.S.Source in let w = g.W.Sink in
    record {
      told : (bytes was said : List ℕ) → Brings s l.initial.input bytes → HasSaid w was l.initial.out said
          → (now now_said : List ℕ) × Brings s l.input now × HasSaid w was l.out now_said
          × ((r : Result Unit FileFault) (left : Option (List ℕ)) (page : List ℕ) (written : Option (List ℕ))
          → ((number : ℕ) → RendersFrom (next_at l.turn.from l.turn.wanted) (message_printed l.turn.given) number now was now_said r left page written)
          → (number : ℕ) → RendersFrom (next_at l.turn.from l.turn.wanted) (message_printed l.turn.given) number bytes was said r left page written);
      reads : slack s l.initial.input ≤ slack s l.input;
      source_mark : read_failed s l.input ≡ read_failed s l.initial.input;
      writes : PaidBy s w l.initial.out l.initial.input l.out l.input (λ _. 0);
      sink_mark : write_failed w l.out ≡ write_failed w l.initial.out;
      same_inlet : SameInlet l.initial.input l.input;
      same_outlet : SameOutlet l.initial.out l.out;
    }

abbrev pub decreases-loop-records : goal.decreases-loop-records
decreases-loop-records g l = work g.S.Source l.input
