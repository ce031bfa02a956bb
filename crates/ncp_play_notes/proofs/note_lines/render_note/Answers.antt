use Rattle.ncp_play_stream.proofs.Saying.{answers_after, answers_broken, writes_prefix_longer}
use Rattle.ncp_play_notes.specs.NoteLines.{first_line, lines_after}
use Rattle.ncp_play_notes.proofs.note_lines.render_note.Goals as goal

pub returns-in_err-render_first_line-clause-output : goal.returns-in_err-render_first_line-clause-output
returns-in_err-render_first_line-clause-output g c =
    let w = g.W.Sink in let note = c.args.note.now in let page = c.args.out.now.page.now in
    let was = w.written c.args.out.now.sink.now in let now = w.written c.render_first_line.new.out.sink.now in
    answers_broken page _ was now c.render_first_line.new.out.page.now c.from_residual.result c.from_residual.ensures.0
    (writes_prefix_longer page (first_line c.args.heading note) (lines_after note) was now c.in_err-render_first_line.ensures.output)

pub returns-clause-output : goal.returns-clause-output
returns-clause-output g c =
    let w = g.W.Sink in let note = c.args.note.now in let page = c.args.out.now.page.now in
    let was = w.written c.args.out.now.sink.now in let mid = w.written c.render_first_line.new.out.sink.now in let now = w.written c.render_after.new.out.sink.now in
    answers_after page (first_line c.args.heading note) c.render_first_line.new.out.page.now (lines_after note) c.render_after.new.out.page.now was mid now c.render_after.result c.in_ok-render_first_line.ensures.output c.render_after.ensures.output
