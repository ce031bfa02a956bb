use Rattle.std.proofs.Common.{◌∙◌, List, Option, ℕ, sym, subst}
use Rattle.ncp_play_files.specs.Tallies.{JudgesNext}
use Rattle.ncp_play_files.proofs.checking.judge_on.Goals as goal

pub returns-clause-output : goal.returns-clause-output
returns-clause-output g c = λ bytes a.
    subst (λ (left : Option (List ℕ)). JudgesNext (g.R.Records.version c.args.records) bytes c.judge_next-judged.result c.judge_next-judged.new.input.window.now left) (sym c.stop_at_fault.ensures.left)
    (c.judge_next-judged.ensures.output bytes a)

pub returns-clause-mark : goal.returns-clause-mark
returns-clause-mark g c = c.stop_at_fault.ensures.mark ∙ c.judge_next-judged.ensures.mark

pub returns-clause-reads : goal.returns-clause-reads
returns-clause-reads g c = rw (c.stop_at_fault.ensures.left, c.stop_at_fault.ensures.reads) c.judge_next-judged.ensures.reads

pub returns-clause-taken : goal.returns-clause-taken
returns-clause-taken g c = rw (c.stop_at_fault.ensures.left, c.stop_at_fault.ensures.reads) c.judge_next-judged.ensures.taken

pub returns-clause-read_measure : goal.returns-clause-read_measure
returns-clause-read_measure g c = rw c.stop_at_fault.ensures.reads c.judge_next-judged.ensures.read_measure
