use Rattle.std.proofs.Common.{ℕ, List, Bool, sym, ap, ◌∙◌, subst}
use Rattle.ncp_leader.specs.Message.{message_in}
use Rattle.ncp_play_files.specs.Lines.{message_lines}
use Rattle.ncp_play_stream.specs.Streams.{WritesTextOrPrefixOf}
use Rattle.ncp_play_notes.specs.Results.{error_lines}
use Rattle.ncp_play_notes.specs.NoteLines.{lines_after}
use Rattle.ncp_play_notes.proofs.note_lines.render_after.Goals as goal

pub returns-in-Out-clause-output : goal.returns-in-Out-clause-output
returns-in-Out-clause-output g c =
    let w = g.W.Sink in
    subst (λ (lines : List ℕ). WritesTextOrPrefixOf c.args.out.now.page.now (w.written c.args.out.now.sink.now) lines c.render_details.result c.render_details.new.out.page.now (w.written c.render_details.new.out.sink.now))
    (ap (λ (message : List Bool). message_lines (message_in message)) c.whole.ensures ∙ ap lines_after (sym c.in-Out.is)) c.render_details.ensures.output

pub returns-in-Errors-clause-output : goal.returns-in-Errors-clause-output
returns-in-Errors-clause-output g c =
    let w = g.W.Sink in
    subst (λ (lines : List ℕ). WritesTextOrPrefixOf c.args.out.now.page.now (w.written c.args.out.now.sink.now) lines c.render_errors.result c.render_errors.new.out.page.now (w.written c.render_errors.new.out.sink.now))
    (ap error_lines c.as_slice.ensures ∙ ap lines_after (sym c.in-Errors.is)) c.render_errors.ensures.output
