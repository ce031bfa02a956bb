use Rattle.std.proofs.Common.{ℕ, List, sym, ap, ◌∙◌, subst}
use Rattle.ncp_play_files.specs.declared.file.Direction.TheVariants.{FromImp}
use Rattle.ncp_play_files.specs.declared.version.CapturePoint.{CapturePoint}
use Rattle.ncp_play_files.specs.Versions.{placed, bytes_with_capture_point}
use Rattle.ncp_play_stream.specs.Streams.{WritesTextOrPrefixOf}
use Rattle.ncp_transcript.specs.declared.note.HostNote.{HostNote}
use Rattle.ncp_play_world_lines.specs.Recorded.{came_to, bytes_if}
use Rattle.ncp_play_world_lines.proofs.recording.render_came.Goals as goal

pub returns-in-In-clause-output : goal.returns-in-In-clause-output
returns-in-In-clause-output g c =
    let w = g.W.Sink in
    subst (λ (bytes : List ℕ). WritesTextOrPrefixOf c.args.out.now.page.now (w.written c.args.out.now.sink.now) bytes c.render_message.result c.render_message.new.out.page.now (w.written c.render_message.new.out.sink.now))
    (ap (λ (capture_point : CapturePoint). bytes_with_capture_point capture_point c.whole.result) c.capture_point_at-capture_point.ensures ∙ ap (bytes_with_capture_point (placed FromImp c.args.host)) c.whole.ensures ∙ ap (λ (note : HostNote). bytes_if (came_to c.args.host note)) (sym c.in-In.is)) c.render_message.ensures.output

pub returns-in-Answered-clause-output : goal.returns-in-Answered-clause-output
returns-in-Answered-clause-output g c =
    let w = g.W.Sink in
    subst (λ (bytes : List ℕ). WritesTextOrPrefixOf c.args.out.now.page.now (w.written c.args.out.now.sink.now) bytes c.render_message-in-Answered.result c.render_message-in-Answered.new.out.page.now (w.written c.render_message-in-Answered.new.out.sink.now))
    (ap (λ (capture_point : CapturePoint). bytes_with_capture_point capture_point c.whole-in-Answered.result) c.capture_point_at-capture_point.ensures
    ∙ ap (bytes_with_capture_point (placed FromImp c.args.host)) (c.whole-in-Answered.ensures ∙ c.answer_bits.ensures) ∙ ap (λ (note : HostNote). bytes_if (came_to c.args.host note)) (sym c.in-Answered.is)) c.render_message-in-Answered.ensures.output
