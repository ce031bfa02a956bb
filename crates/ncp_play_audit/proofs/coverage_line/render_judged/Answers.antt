use Rattle.std.proofs.Common.{[]}
use Rattle.ncp_play_stream.proofs.Saying.{answers_broken, writes_prefix_longer, writes_more, writes_pushed}
use Rattle.ncp_play_audit.specs.CoverageLines.{judged_line}
use Rattle.ncp_play_audit.proofs.coverage_line.render_judged.Goals as goal

pub returns-in_err-make_room-clause-output : goal.returns-in_err-make_room-clause-output
returns-in_err-make_room-clause-output g c =
    let w = g.W.Sink in let before = w.written c.args.out.now.sink.now in let after = w.written c.make_room.new.self.sink.now in
    answers_broken c.args.out.now.page.now (judged_line c.args.number) before after c.make_room.new.self.page.now c.from_residual.result c.from_residual.ensures.0
    (writes_prefix_longer c.args.out.now.page.now [] (judged_line c.args.number) before after c.in_err-make_room.ensures.err)

pub returns-clause-output : goal.returns-clause-output
returns-clause-output g c =
    let w = g.W.Sink in let before = w.written c.args.out.now.sink.now in let after = w.written c.make_room.new.self.sink.now in
    writes_more c.args.out.now.page.now [] c.make_room.new.self.page.now (judged_line c.args.number) c.push_judged.new.page before after after c.in_ok-make_room.ensures.ok
    (writes_pushed c.make_room.new.self.page.now (judged_line c.args.number) c.push_judged.new.page after c.push_judged.ensures)
