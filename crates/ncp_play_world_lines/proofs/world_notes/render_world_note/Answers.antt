use Rattle.std.proofs.Common.{ℕ, List, sym, ap, ◌∙◌, subst}
use Rattle.ncp_play_stream.specs.Streams.{WritesTextOrPrefixOf}
use Rattle.ncp_play_notes.specs.declared.heading.LinePrefix.{LinePrefix}
use Rattle.ncp_play_notes.specs.NoteLines.{note_lines}
use Rattle.ncp_play_world_lines.specs.WorldNotes.{world_note_lines}
use Rattle.ncp_play_world_lines.proofs.world_notes.render_world_note.Goals as goal

pub returns-in-Called-clause-output : goal.returns-in-Called-clause-output
returns-in-Called-clause-output g c =
    let w = g.W.Sink in
    subst (λ (bytes : List ℕ). WritesTextOrPrefixOf c.args.out.now.page.now (w.written c.args.out.now.sink.now) bytes c.render_note.result c.render_note.new.out.page.now (w.written c.render_note.new.out.sink.now))
    (ap (λ (heading : LinePrefix). note_lines heading c.in-Called.note) c.line_prefix_of.ensures ∙ ap (world_note_lines c.args.number) (sym c.in-Called.is)) c.render_note.ensures.output

pub returns-in-Out-clause-output : goal.returns-in-Out-clause-output
returns-in-Out-clause-output g c =
    let w = g.W.Sink in
    subst (λ (bytes : List ℕ). WritesTextOrPrefixOf c.args.out.now.page.now (w.written c.args.out.now.sink.now) bytes c.render_note-in-Out.result c.render_note-in-Out.new.out.page.now (w.written c.render_note-in-Out.new.out.sink.now))
    (ap (λ (heading : LinePrefix). note_lines heading c.in-Out.note) c.line_prefix_of-in-Out.ensures ∙ ap (world_note_lines c.args.number) (sym c.in-Out.is)) c.render_note-in-Out.ensures.output
