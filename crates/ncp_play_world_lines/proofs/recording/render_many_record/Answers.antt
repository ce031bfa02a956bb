use Rattle.std.proofs.Common.{ℕ, List, sym, ap, subst}
use Rattle.ncp_play_stream.specs.Streams.{WritesTextOrPrefixOf}
use Rattle.ncp_play_world_lines.specs.Recorded.{many_note_bytes}
use Rattle.ncp_play_world_lines.proofs.recording.render_many_record.Goals as goal

pub returns-in-Out-clause-output : goal.returns-in-Out-clause-output
returns-in-Out-clause-output g c =
    let w = g.W.Sink in
    subst (λ (bytes : List ℕ). WritesTextOrPrefixOf c.args.out.now.page.now (w.written c.args.out.now.sink.now) bytes c.render_sent.result c.render_sent.new.out.page.now (w.written c.render_sent.new.out.sink.now))
    (ap many_note_bytes (sym c.in-Out.is)) c.render_sent.ensures.output

pub returns-in-Came-clause-output : goal.returns-in-Came-clause-output
returns-in-Came-clause-output g c =
    let w = g.W.Sink in
    subst (λ (bytes : List ℕ). WritesTextOrPrefixOf c.args.out.now.page.now (w.written c.args.out.now.sink.now) bytes c.render_came.result c.render_came.new.out.page.now (w.written c.render_came.new.out.sink.now))
    (ap many_note_bytes (sym c.in-Came.is)) c.render_came.ensures.output

pub returns-in-Answered-clause-output : goal.returns-in-Answered-clause-output
returns-in-Answered-clause-output g c =
    let w = g.W.Sink in
    subst (λ (bytes : List ℕ). WritesTextOrPrefixOf c.args.out.now.page.now (w.written c.args.out.now.sink.now) bytes c.render_came-in-Answered.result c.render_came-in-Answered.new.out.page.now (w.written c.render_came-in-Answered.new.out.sink.now))
    (ap many_note_bytes (sym c.in-Answered.is)) c.render_came-in-Answered.ensures.output
