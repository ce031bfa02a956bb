use Rattle.std.proofs.Common.{◌≡◌, ◌≤◌, ℕ, false, List, Option, Result}
use Rattle.ncp_play_buffer.specs.BufferedSinks.{SameOutlet, write_failed, write_budget, HasSaid}
use Rattle.ncp_play_buffer.specs.BufferedSources.{SameInlet, read_failed, slack, work, Brings, PaidBy}
use Rattle.ncp_play_files.specs.declared.file.FileFault.{FileFault}
use Rattle.ncp_play_files.specs.PassSteps.{PassesFrom}
use Rattle.ncp_play_files.proofs.passing.pass_records.Given as goal

-- what holds of the rest holds of all
abbrev pub invariant-loop-number : goal.invariant-loop-number
invariant-loop-number g l =
    let s = g.S.Source in let w = g.W.Sink in let rules = g.P.Pass.rules in
    record {
      told : (bytes was said : List ℕ) → Brings s l.initial.input bytes → HasSaid w was l.initial.out said
          → (now now_said : List ℕ) × Brings s l.input now × HasSaid w was l.out now_said
          × ((r : Result Unit FileFault) (last : rules.State) (left : Option (List ℕ)) (page : List ℕ) (written : Option (List ℕ)) → PassesFrom rules (g.R.Records.version l.records) l.number (rules.state l.pass) now was now_said r last left page written
          → PassesFrom rules (g.R.Records.version l.records) 1 (rules.state l.initial.pass) bytes was said r last left page written);
      closes : rules.closes (rules.state l.pass) ≡ rules.closes (rules.state l.initial.pass);
      reads : slack s l.initial.input ≤ slack s l.input;
      source_mark : read_failed s l.input ≡ read_failed s l.initial.input;
      writes : PaidBy s w l.initial.out l.initial.input l.out l.input (λ _. 0);
      unprompted : rules.is_prompt ≡ false → write_budget w l.initial.out ≤ write_budget w l.out;
      sink_mark : write_failed w l.out ≡ write_failed w l.initial.out;
      same_inlet : SameInlet l.initial.input l.input;
      same_outlet : SameOutlet l.initial.out l.out;
    }

abbrev pub decreases-loop-number : goal.decreases-loop-number
decreases-loop-number g l = work g.S.Source l.input
