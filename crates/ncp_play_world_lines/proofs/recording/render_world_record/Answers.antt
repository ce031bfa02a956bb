use Rattle.std.proofs.Common.{ℕ, List, rules, sym, ap, ◌∙◌, subst}
use Rattle.ncp_play_stream.specs.Streams.{WritesTextOrPrefixOf}
use Rattle.ncp_play_world_lines.specs.Recorded.{recorded_from, came_to, bytes_if, note_bytes}
use Rattle.ncp_play_world_lines.proofs.recording.render_world_record.Goals as goal

pub returns-in-Out-clause-output : goal.returns-in-Out-clause-output
returns-in-Out-clause-output g c =
    let w = g.W.Sink in
    subst (λ (bytes : List ℕ). WritesTextOrPrefixOf c.args.out.now.page.now (w.written c.args.out.now.sink.now) bytes c.render_sent.result c.render_sent.new.out.page.now (w.written c.render_sent.new.out.sink.now))
    (ap (λ host. bytes_if (recorded_from host c.in-Out.note)) c.number_of.ensures ∙ ap (note_bytes c.args.hosts) (sym c.in-Out.is)) c.render_sent.ensures.output

pub returns-in-Answered-clause-output : goal.returns-in-Answered-clause-output
returns-in-Answered-clause-output g c =
    let w = g.W.Sink in
    subst (λ (bytes : List ℕ). WritesTextOrPrefixOf c.args.out.now.page.now (w.written c.args.out.now.sink.now) bytes c.render_came-in-Answered.result c.render_came-in-Answered.new.out.page.now (w.written c.render_came-in-Answered.new.out.sink.now))
    (ap (λ host. bytes_if (came_to host c.in-Answered.note)) c.number_of-in-Answered.ensures ∙ ap (note_bytes c.args.hosts) (sym c.in-Answered.is)) c.render_came-in-Answered.ensures.output

pub returns-in_default : goal.returns-in_default
returns-in_default g c = search rules
