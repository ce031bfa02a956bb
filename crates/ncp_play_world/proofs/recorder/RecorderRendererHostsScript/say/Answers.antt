use Rattle.std.proofs.Common.{Ok}
use Rattle.ncp_play_world_lines.specs.declared.settling.ScriptNote.{ScriptNote}
use Rattle.ncp_play_world_lines.specs.declared.settling.ScriptNote.TheVariants.{Noted, Settled}
use Rattle.ncp_play_world_lines.specs.Settling.{trace_bytes}
use Rattle.ncp_play_world.proofs.Tellings.{printed_last, no_last, nothing_said}
use Rattle.ncp_play_world.proofs.recorder.RecorderRendererHostsScript.say.Goals as goal

pub returns-in-Some-Noted-clause-output : goal.returns-in-Some-Noted-clause-output
returns-in-Some-Noted-clause-output g c = λ before note e.
    let w = g.W.Sink in let page = c.args.out.now.page.now in let old = w.written c.args.out.now.sink.now in let traces = c.args.hosts.now.traces in
    printed_last traces before note e (λ (trace : ScriptNote _). trace_bytes (g.H.Scripted.note_bytes c.args.first.now.hosts) trace) (Noted c.in-Some-Noted.note.now) page c.render_record.new.out.page.now old (w.written c.render_record.new.out.sink.now) c.render_record.result
    (rw c.in-Some-Noted.field-0-is at c.in-Some-Noted.ensures) c.render_record.ensures.output

pub returns-in-Some-Settled-clause-output : goal.returns-in-Some-Settled-clause-output
returns-in-Some-Settled-clause-output g c = λ before note e.
    let w = g.W.Sink in let page = c.args.out.now.page.now in let old = w.written c.args.out.now.sink.now in let traces = c.args.hosts.now.traces in
    printed_last traces before note e (λ (trace : ScriptNote _). trace_bytes (g.H.Scripted.note_bytes c.args.first.now.hosts) trace) (Settled c.in-Some-Settled.field-0-0) page page old old (Ok tt) (rw c.in-Some-Settled.field-0-is at c.in-Some-Settled.ensures) (nothing_said page old)

pub returns-in-None-clause-output : goal.returns-in-None-clause-output
returns-in-None-clause-output g c = λ before note e. absurd (no_last c.args.hosts.now.traces before note e c.in-None.ensures)
