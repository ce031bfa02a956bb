use Rattle.std.proofs.Common.{Some, ◌≡◌, rules}
use Rattle.ncp_web.proofs.Said.{beginning, said_all}
use Rattle.ncp_web.proofs.readers.render_lines.Goals as goal

pub returns-in-Ok : goal.returns-in-Ok
returns-in-Ok g c =
    let same_sink : c.flush.new.self.sink.now ≡ c.sink-1.given.0 = search rules in
    rw (← same_sink) (
    said_all (g.H.Scripted.note_lines c.args.number c.args.note.now) c.new-page.result c.args.sink.now.written c.new-page.ensures c.requires.empty c.render_note.new.out.page.now c.flush.new.self.page.now c.flush.new.self.sink.now.written
    (Some c.render_note.new.out.sink.now.written) c.flush.result c.in-Ok.ensures.output c.flush.ensures.ok c.flush.ensures.err)

pub returns-in-Err : goal.returns-in-Err
returns-in-Err g c =
    let same_sink : c.render_note.new.out.sink.now ≡ c.in-Err.sink-in-Err-1-own.given.0 = search rules in
    rw (← same_sink) (
    beginning (g.H.Scripted.note_lines c.args.number c.args.note.now) c.new-page.result c.args.sink.now.written c.new-page.ensures c.requires.empty c.render_note.new.out.sink.now.written c.in-Err.ensures.output)
