use Rattle.std.proofs.Common.{◌≡◌, ◌∙◌, ◌++◌, ap}
use Rattle.ncp_numbers.specs.Bytes.{bytes_of}
use Rattle.ncp_play_stream.proofs.Saying.{writes_line, answers_no_room}
use Rattle.ncp_play_follow.proofs.text.TextingPass.close.Goals as goal

pub returns-in_err-make_room-clause-output : goal.returns-in_err-make_room-clause-output
returns-in_err-make_room-clause-output g c =
    let w = g.W.Sink in
    answers_no_room c.args.out.now.page.now (bytes_of c.args.self.now.spare) (w.written c.args.out.now.sink.now) (w.written c.make_room.new.self.sink.now) c.make_room.new.self.page.now c.from_residual.result c.from_residual.ensures.0 c.in_err-make_room.ensures.err

pub returns-clause-output : goal.returns-clause-output
returns-clause-output g c =
    let w = g.W.Sink in let text = bytes_of c.args.self.now.spare in
    let put : c.push_part.new.page ≡ c.make_room.new.self.page.now ++ text = c.push_part.ensures.bytes ∙ ap (λ bits. c.make_room.new.self.page.now ++ bytes_of bits) c.whole.ensures in
    writes_line c.args.out.now.page.now c.make_room.new.self.page.now c.push_part.new.page text (w.written c.args.out.now.sink.now) (w.written c.make_room.new.self.sink.now) c.in_ok-make_room.ensures.ok put
