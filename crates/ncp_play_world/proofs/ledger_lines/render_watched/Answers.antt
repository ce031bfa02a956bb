use Rattle.ncp_play_stream.proofs.Saying.{writes_line, answers_no_room}
use Rattle.ncp_play_world.specs.LedgerLines.{watched_line}
use Rattle.ncp_play_world.proofs.ledger_lines.render_watched.Goals as goal

pub returns-in_err-make_room-clause-output : goal.returns-in_err-make_room-clause-output
returns-in_err-make_room-clause-output g c =
    let w = g.W.Sink in
    answers_no_room c.args.out.now.page.now (watched_line c.args.ledger) (w.written c.args.out.now.sink.now) (w.written c.make_room.new.self.sink.now) c.make_room.new.self.page.now c.from_residual.result c.from_residual.ensures.0
    c.in_err-make_room.ensures.err

pub returns-clause-output : goal.returns-clause-output
returns-clause-output g c =
    let w = g.W.Sink in
    writes_line c.args.out.now.page.now c.make_room.new.self.page.now c.push_watched.new.page (watched_line c.args.ledger) (w.written c.args.out.now.sink.now) (w.written c.make_room.new.self.sink.now) c.in_ok-make_room.ensures.ok
    c.push_watched.ensures
