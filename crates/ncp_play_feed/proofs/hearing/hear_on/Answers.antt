use Rattle.std.proofs.Common.{◌∙◌, ◌||◌, List, Option, ℕ, [], refl, sym, ap, subst, arith}
use Rattle.std.proofs.Math.Bool.{or-false}
use Rattle.ncp_play_files.specs.Waiting.{lacks_message}
use Rattle.ncp_play_files.proofs.Contents.{holds_some}
use Rattle.ncp_play_notes.specs.Faults.{play_write_failed}
use Rattle.ncp_play_feed.specs.Steps.{HearsOn}
use Rattle.ncp_play_feed.proofs.Arrivals.{hears_on, paid_on}
use Rattle.ncp_play_feed.proofs.hearing.hear_on.Goals as goal

pub returns-in-Ok-clause-events : goal.returns-in-Ok-clause-events
returns-in-Ok-clause-events g c = λ bytes ahead.
    let r = c.hear_next-heard.result in
    subst (λ (left : Option (List ℕ)). HearsOn bytes c.args.alone.now r c.hear_next-heard.new.alone c.hear_next-heard.new.input.window.now left) (sym c.stop_at_fault.ensures.left)
    (hears_on bytes c.hear_next-heard.new.input.window.now (g.R.Source.left c.hear_next-heard.new.input.source.now) c.args.alone.now c.hear_next-heard.new.alone r (c.hear_next-heard.ensures.events bytes ahead))

pub returns-in-Ok-clause-output : goal.returns-in-Ok-clause-output
returns-in-Ok-clause-output g c = λ was first told. c.hear_next-heard.ensures.output was first (told.0, c.in-Ok.ensures.output was _ told.1)

pub returns-in-Ok-clause-source_mark : goal.returns-in-Ok-clause-source_mark
returns-in-Ok-clause-source_mark g c = c.stop_at_fault.ensures.mark ∙ c.hear_next-heard.ensures.source_mark

pub returns-in-Ok-clause-sink_mark : goal.returns-in-Ok-clause-sink_mark
returns-in-Ok-clause-sink_mark g c = c.hear_next-heard.ensures.sink_mark ∙ ap (λ b. b || play_write_failed c.hear_next-heard.result) (c.in-Ok.ensures.mark ∙ or-false _)

pub returns-in-Ok-clause-reads : goal.returns-in-Ok-clause-reads
returns-in-Ok-clause-reads g c = rw (c.stop_at_fault.ensures.left, c.stop_at_fault.ensures.reads) c.hear_next-heard.ensures.reads

pub returns-in-Ok-clause-taken : goal.returns-in-Ok-clause-taken
returns-in-Ok-clause-taken g c = rw (c.stop_at_fault.ensures.left, c.stop_at_fault.ensures.reads) c.hear_next-heard.ensures.taken

pub returns-in-Ok-clause-read_measure : goal.returns-in-Ok-clause-read_measure
returns-in-Ok-clause-read_measure g c = rw c.stop_at_fault.ensures.reads c.hear_next-heard.ensures.read_measure

pub returns-in-Ok-clause-writes : goal.returns-in-Ok-clause-writes
returns-in-Ok-clause-writes g c =
    let w = g.W.Sink in let s = g.R.Source in
    rw c.stop_at_fault.ensures.reads (
    paid_on w.takes_all (w.writes c.args.out.now.sink.now) (w.writes c.flush_before_wait.new.out.sink.now) (w.writes c.hear_next-heard.new.out.sink.now) (w.written c.args.out.now.sink.now) (w.written c.flush_before_wait.new.out.sink.now) (w.written c.hear_next-heard.new.out.sink.now)
    (s.reads c.args.input.now.source.now) (s.reads c.hear_next-heard.new.input.source.now) (lacks_message 0 c.args.input.now.window.now) c.hear_next-heard.result c.in-Ok.ensures.writes c.hear_next-heard.ensures.writes c.hear_next-heard.ensures.lowers c.hear_next-heard.ensures.waited)

pub returns-in-Err-clause-events : goal.returns-in-Err-clause-events
returns-in-Err-clause-events g c = λ bytes ahead. let all = holds_some bytes in ([], all.0, all.1, all.2, refl)

pub returns-in-Err-clause-output : goal.returns-in-Err-clause-output
returns-in-Err-clause-output g c = λ was first told. (c.in-Err.ensures.output.1, c.in-Err.ensures.output.2 was _ told.1)

pub returns-in-Err-clause-sink_mark : goal.returns-in-Err-clause-sink_mark
returns-in-Err-clause-sink_mark g c = rw c.in-Err.ensures.output.0 at c.in-Err.ensures.mark

pub returns-in-Err-clause-writes : goal.returns-in-Err-clause-writes
returns-in-Err-clause-writes g c = omega (arith, c.in-Err.ensures.writes)
