use Rattle.std.proofs.lemmas.Result.{err_from_is_err_and}
use Rattle.ncp_play_host.specs.declared.lines.LinesEnd.{LinesEnd}
use Rattle.ncp_play_host.specs.Played.{first_line_prefix}
use Rattle.ncp_play_host.proofs.Behind.{after_none, after_over, following_fault, after_feed, prints_none}
use Rattle.ncp_play_host.proofs.Telling.{prints_end}
use Rattle.ncp_play_host.proofs.playing.play_after.Goals as goal

pub returns-then-not-ended-clause-events : goal.returns-then-not-ended-clause-events
returns-then-not-ended-clause-events g c = λ bytes ahead none. after_none c.args.peers.now c.args.script.now.lines.now.number bytes c.args.alone.now (g.R.Source.left c.args.script.now.source.now) (none c.if-not-ended.true)

pub returns-in_err-play_lines-clause-events : goal.returns-in_err-play_lines-clause-events
returns-in_err-play_lines-clause-events g c = λ bytes ahead none.
    let p = err_from_is_err_and c.from_residual.result c.from_residual.ensures.1 in
    rw (p.1, p.2) (
    following_fault c.args.peers.now c.args.script.now.lines.now.number bytes c.args.alone.now c.play_lines.new.alone c.in_err-play_lines.field-0.0 c.play_lines.new.script.lines.now.window (g.R.Source.left c.play_lines.new.script.source.now) (c.in_err-play_lines.ensures.events bytes ahead))

pub returns-in_err-play_lines-clause-output : goal.returns-in_err-play_lines-clause-output
returns-in_err-play_lines-clause-output g c = λ was none said.
    let p = err_from_is_err_and c.from_residual.result c.from_residual.ensures.1 in
    let tells = prints_none was c.args.alone.now.notes c.args.out.now.page.now (g.W.Sink.written c.args.out.now.sink.now) none said in (
      c.play_lines.new.heading,
      prints_end LinesEnd (Unit {0}) was first_line_prefix c.play_lines.new.alone.notes c.from_residual.result p.0 c.play_lines.new.heading c.play_lines.new.out.page.now (g.W.Sink.written c.play_lines.new.out.sink.now) p.1
          (rw p.2 (c.in_err-play_lines.ensures.output was first_line_prefix tells)),
    )

pub returns-in-Over-clause-events : goal.returns-in-Over-clause-events
returns-in-Over-clause-events g c = λ bytes ahead none.
    after_over c.args.peers.now c.args.script.now.lines.now.number bytes c.args.alone.now c.play_lines.new.alone (g.R.Source.left c.play_lines.new.script.source.now) (rw c.in-Over.is at (c.in_ok-play_lines.ensures.events bytes ahead))

pub returns-in-Over-clause-output : goal.returns-in-Over-clause-output
returns-in-Over-clause-output g c = λ was none said.
    let tells = prints_none was c.args.alone.now.notes c.args.out.now.page.now (g.W.Sink.written c.args.out.now.sink.now) none said in
    (c.play_lines.new.heading, c.in_ok-play_lines.ensures.output was first_line_prefix tells)

pub returns-in-FeedAfter-clause-events : goal.returns-in-FeedAfter-clause-events
returns-in-FeedAfter-clause-events g c = λ bytes ahead none.
    let lines = rw c.in-FeedAfter.is at (c.in_ok-play_lines.ensures.events bytes ahead) in
    after_feed c.args.peers.now c.args.script.now.lines.now.number bytes lines.0 c.args.alone.now c.play_lines.new.alone c.feed.new.alone c.feed.result (g.R.Source.left c.feed.new.input.source.now) lines.1 (c.feed.ensures.events lines.0 lines.2)

pub returns-in-FeedAfter-clause-output : goal.returns-in-FeedAfter-clause-output
returns-in-FeedAfter-clause-output g c = λ was none said.
    let tells = prints_none was c.args.alone.now.notes c.args.out.now.page.now (g.W.Sink.written c.args.out.now.sink.now) none said in
    (c.feed.new.heading, c.feed.ensures.output was first_line_prefix (c.in_ok-play_lines.ensures.output was first_line_prefix tells))
