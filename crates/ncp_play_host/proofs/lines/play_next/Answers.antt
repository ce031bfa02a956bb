use Rattle.std.proofs.Common.{Option}
use Rattle.std.proofs.lemmas.Result.{err_from_is_err_and}
use Rattle.ncp_play_script.specs.Scripts as scripts
use Rattle.ncp_play_script.specs.Scripts.{lines_of}
use Rattle.ncp_play_host.specs.Asking.{course_of}
use Rattle.ncp_play_host.specs.declared.lines.LinesEnd.{LinesEnd}
use Rattle.ncp_play_host.proofs.Does.{does_none, asked_fault, does_fault, next_fault, does_one, does_one_last}
use Rattle.ncp_play_host.proofs.Telling.{prints_end}
use Rattle.ncp_play_host.proofs.lines.play_next.Goals as goal
use Rattle.ncp_play_host.proofs.lines.play_next.Goals.{then-ended, else-ended}

pub returns-in_err-next_asked-clause-events : goal.returns-in_err-next_asked-clause-events
returns-in_err-next_asked-clause-events g c = λ bytes ahead.
    let left = g.R.Source.left c.next_asked.new.script.source.now in
    let p = err_from_is_err_and c.from_residual.result c.from_residual.ensures.1 in
    next_fault c.args.peers.now c.args.script.now.lines.now.number bytes c.args.alone.now c.args.alone.now c.from_residual.result p.0 c.next_asked.new.script.lines.now left p.1
    (rw p.2 (asked_fault c.args.peers.now c.args.script.now.lines.now.number bytes c.args.alone.now c.in_err-next_asked.field-0.0 c.next_asked.new.script.lines.now left (c.in_err-next_asked.ensures.output bytes ahead)))

pub returns-in_err-play_on-in-Does-clause-events : goal.returns-in_err-play_on-in-Does-clause-events
returns-in_err-play_on-in-Does-clause-events g c = λ bytes ahead.
    let left = g.R.Source.left c.next_asked.new.script.source.now in
    let result = c.from_residual-in_err-play_on-in-Does.result in
    let p = err_from_is_err_and result c.from_residual-in_err-play_on-in-Does.ensures.1 in
    let asks = rw c.in-Does.is at (c.in_ok-next_asked.ensures.output bytes ahead) in
    next_fault c.args.peers.now c.args.script.now.lines.now.number bytes c.args.alone.now c.play_on.new.alone result p.0 c.next_asked.new.script.lines.now left p.1
    (rw p.2 (does_fault c.args.peers.now c.args.script.now.lines.now.number bytes c.in-Does.event c.args.alone.now c.in-Does.ended c.play_on.new.alone c.in_err-play_on-in-Does.field-0.0 c.next_asked.new.script.lines.now left asks c.in_err-play_on-in-Does.ensures.events))

pub returns-in-Over-clause-events : goal.returns-in-Over-clause-events
returns-in-Over-clause-events g c = λ bytes ahead. does_none c.args.peers.now (course_of c.args.peers.now c.args.script.now.lines.now.number (lines_of bytes)) scripts.Over c.args.alone.now (rw c.in-Over.is at (c.in_ok-next_asked.ensures.output bytes ahead))

pub returns-in-FeedAfter-clause-events : goal.returns-in-FeedAfter-clause-events
returns-in-FeedAfter-clause-events g c = λ bytes ahead.
    let asks = rw c.in-FeedAfter.is at (c.in_ok-next_asked.ensures.output bytes ahead) in
    (asks.0, does_none c.args.peers.now (course_of c.args.peers.now c.args.script.now.lines.now.number (lines_of bytes)) (scripts.Fed asks.0) c.args.alone.now asks.1, asks.2)

pub returns-after-ended-clause-events : goal.returns-after-ended-clause-events
returns-after-ended-clause-events g c = λ bytes ahead.
    let left = g.R.Source.left c.next_asked.new.script.source.now in
    let asks = rw c.in-Does.is at (c.in_ok-next_asked.ensures.output bytes ahead) in
    elim c.if-ended.branch [
      | then-ended w ↦ does_one c.args.peers.now c.args.script.now.lines.now.number bytes c.in-Does.event c.args.alone.now c.in-Does.ended c.if-ended.result c.play_on.new.alone c.next_asked.new.script.lines.now left w.if-ended.true w.result-is asks c.in_ok-play_on-in-Does.ensures.events
      | else-ended w ↦ does_one_last c.args.peers.now c.args.script.now.lines.now.number bytes c.in-Does.event c.args.alone.now c.in-Does.ended c.if-ended.result c.play_on.new.alone c.next_asked.new.script.lines.now left w.if-ended.false w.result-is asks c.in_ok-play_on-in-Does.ensures.events
    ]

pub returns-in_err-play_on-in-Does-clause-output : goal.returns-in_err-play_on-in-Does-clause-output
returns-in_err-play_on-in-Does-clause-output g c = λ was first tells.
    let result = c.from_residual-in_err-play_on-in-Does.result in
    let p = err_from_is_err_and result c.from_residual-in_err-play_on-in-Does.ensures.1 in
    prints_end (Unit {0}) (Option LinesEnd) was first c.play_on.new.alone.notes result p.0 c.play_on.new.heading c.play_on.new.out.page.now (g.W.Sink.written c.play_on.new.out.sink.now) p.1
    (rw p.2 (c.in_err-play_on-in-Does.ensures.output was first tells))

pub returns-after-ended-clause-output : goal.returns-after-ended-clause-output
returns-after-ended-clause-output g c = λ was first tells. c.in_ok-play_on-in-Does.ensures.output was first tells
