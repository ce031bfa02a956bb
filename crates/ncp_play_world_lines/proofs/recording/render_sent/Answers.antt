use Rattle.std.proofs.Common.{ℕ, List, sym, ap, ◌∙◌, subst}
use Rattle.ncp_play_files.specs.declared.file.Direction.TheVariants.{ToImp}
use Rattle.ncp_play_files.specs.declared.version.CapturePoint.{CapturePoint}
use Rattle.ncp_play_files.specs.Versions.{placed, bytes_with_capture_point}
use Rattle.ncp_play_stream.specs.Streams.{WritesTextOrPrefixOf}
use Rattle.ncp_transcript.specs.declared.note.HostNote.{HostNote}
use Rattle.ncp_play_world_lines.specs.Recorded.{recorded_from, bytes_if}
use Rattle.ncp_play_world_lines.proofs.recording.render_sent.Goals as goal

pub returns-in-Out-clause-output : goal.returns-in-Out-clause-output
returns-in-Out-clause-output g c =
    let w = g.W.Sink in
    subst (λ (bytes : List ℕ). WritesTextOrPrefixOf c.args.out.now.page.now (w.written c.args.out.now.sink.now) bytes c.render_message.result c.render_message.new.out.page.now (w.written c.render_message.new.out.sink.now))
    (ap (λ (capture_point : CapturePoint). bytes_with_capture_point capture_point c.whole.result) c.capture_point_at.ensures ∙ ap (bytes_with_capture_point (placed ToImp c.args.host)) c.whole.ensures ∙ ap (λ (note : HostNote). bytes_if (recorded_from c.args.host note)) (sym c.in-Out.is)) c.render_message.ensures.output
