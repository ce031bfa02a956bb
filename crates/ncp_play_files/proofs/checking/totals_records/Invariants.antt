use Rattle.std.proofs.Common.{◌≡◌, ◌≤◌, ℕ, List, Option, Result}
use Rattle.ncp_play_buffer.specs.BufferedSources.{SameInlet, read_failed, slack, work, Brings}
use Rattle.ncp_play_files.specs.declared.file.FileFault.{FileFault}
use Rattle.ncp_play_files.specs.declared.tally.Totals.{Totals}
use Rattle.ncp_play_files.specs.Tallies.{no_messages, put_together, TotalsFrom}
use Rattle.ncp_play_files.proofs.checking.totals_records.Given as goal

abbrev pub invariant-loop-record_class : goal.invariant-loop-record_class
invariant-loop-record_class g l =
    let s = g.S.Source in
    record {
      told : (bytes : List ℕ) → Brings s l.initial.input bytes
          → (now : List ℕ) × Brings s l.input now × ((r : Result Totals FileFault) (left : Option (List ℕ)) → TotalsFrom (g.R.Records.version l.records) now (put_together l.counts) r left → TotalsFrom (g.R.Records.version l.records) bytes no_messages r left);
      reads : slack s l.initial.input ≤ slack s l.input;
      mark : read_failed s l.input ≡ read_failed s l.initial.input;
      same_inlet : SameInlet l.initial.input l.input;
    }

abbrev pub decreases-loop-record_class : goal.decreases-loop-record_class
decreases-loop-record_class g l = work g.S.Source l.input
