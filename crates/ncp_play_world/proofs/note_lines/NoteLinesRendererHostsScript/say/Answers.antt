use Rattle.std.proofs.Common.{ℕ, List, ◌++◌, sym, subst}
use Rattle.std.specs.Prelude.{Option, option_map}
use Rattle.std.proofs.lemmas.List.{append-nil}
use Rattle.ncp_transcript_two.specs.declared.ledger.Ledger.{Ledger}
use Rattle.ncp_play_world_lines.specs.declared.settling.ScriptNote.{ScriptNote}
use Rattle.ncp_play_world_lines.specs.declared.settling.ScriptNote.TheVariants.{Noted, Settled}
use Rattle.ncp_play_stream.specs.Streams.{WritesTextOrPrefixOf}
use Rattle.ncp_play_stream.proofs.Saying.{writes_prefix_longer, answers_broken, answers_after}
use Rattle.ncp_play_world_lines.specs.Settling.{settled_line}
use Rattle.ncp_play_world.specs.LedgerLines.{ledger_line}
use Rattle.ncp_play_world.specs.Renderings.{lines_watching}
use Rattle.ncp_play_world.proofs.Tellings.{printed_last, no_last}
use Rattle.ncp_play_world.proofs.note_lines.NoteLinesRendererHostsScript.say.Goals as goal

pub returns-in_err-render_note-in-Some-Noted-clause-output : goal.returns-in_err-render_note-in-Some-Noted-clause-output
returns-in_err-render_note-in-Some-Noted-clause-output g c = λ before note e.
    let w = g.W.Sink in let page = c.args.out.now.page.now in let old = w.written c.args.out.now.sink.now in let traces = c.args.hosts.now.traces in
    let now = w.written c.render_note.new.out.sink.now in let last = c.render_note.new.out.page.now in
    let lines = g.H.Scripted.note_lines c.args.number c.in-Some-Noted.note.now in
    let watched = c.args.first.now.watch in
    let ledger = ledger_line (option_map (λ it. g.H.Scripted.ledger_at it.sender it.pair c.args.hosts.now.hosts.hosts) watched) in
    printed_last traces before note e (λ (trace : ScriptNote _). (lines_watching g.H.Scripted.note_lines g.H.Scripted.ledger_at watched).of_note c.args.number trace c.args.hosts.now) (Noted c.in-Some-Noted.note.now) page last old now c.from_residual.result
    (rw c.in-Some-Noted.field-0-is at c.in-Some-Noted.ensures)
    (answers_broken page (lines ++ ledger) old now last c.from_residual.result c.from_residual.ensures.0 (writes_prefix_longer page lines ledger old now c.in_err-render_note-in-Some-Noted.ensures.output))

pub returns-in_ok-render_note-in-Some-Noted-clause-output : goal.returns-in_ok-render_note-in-Some-Noted-clause-output
returns-in_ok-render_note-in-Some-Noted-clause-output g c = λ before note e.
    let w = g.W.Sink in let page = c.args.out.now.page.now in let old = w.written c.args.out.now.sink.now in let traces = c.args.hosts.now.traces in
    let lines = g.H.Scripted.note_lines c.args.number c.in-Some-Noted.note.now in
    let watched = c.args.first.now.watch in
    let ledger = ledger_line (option_map (λ it. g.H.Scripted.ledger_at it.sender it.pair c.args.hosts.now.hosts.hosts) watched) in
    printed_last traces before note e (λ (trace : ScriptNote _). (lines_watching g.H.Scripted.note_lines g.H.Scripted.ledger_at watched).of_note c.args.number trace c.args.hosts.now) (Noted c.in-Some-Noted.note.now) page c.render_ledger.new.out.page.now old
    (w.written c.render_ledger.new.out.sink.now) c.render_ledger.result (rw c.in-Some-Noted.field-0-is at c.in-Some-Noted.ensures)
    (answers_after page lines c.render_note.new.out.page.now ledger c.render_ledger.new.out.page.now old (w.written c.render_note.new.out.sink.now) (w.written c.render_ledger.new.out.sink.now) c.render_ledger.result c.in_ok-render_note-in-Some-Noted.ensures.output
    (subst (λ (it : Option (Option Ledger)). WritesTextOrPrefixOf c.render_note.new.out.page.now (w.written c.render_note.new.out.sink.now) (ledger_line it) c.render_ledger.result c.render_ledger.new.out.page.now (w.written c.render_ledger.new.out.sink.now)) c.watched.ensures
    c.render_ledger.ensures.output))

pub returns-in-Some-Settled-clause-output : goal.returns-in-Some-Settled-clause-output
returns-in-Some-Settled-clause-output g c = λ before note e.
    let w = g.W.Sink in let page = c.args.out.now.page.now in let old = w.written c.args.out.now.sink.now in let traces = c.args.hosts.now.traces in
    let now = w.written c.render_settled.new.out.sink.now in let last = c.render_settled.new.out.page.now in
    printed_last traces before note e (λ (trace : ScriptNote _). (lines_watching g.H.Scripted.note_lines g.H.Scripted.ledger_at c.args.first.now.watch).of_note c.args.number trace c.args.hosts.now) (Settled c.in-Some-Settled.many) page last old now c.render_settled.result
    (rw c.in-Some-Settled.field-0-is at c.in-Some-Settled.ensures)
    (subst (λ (text : List ℕ). WritesTextOrPrefixOf page old text c.render_settled.result last now) (sym (append-nil (settled_line c.args.number c.in-Some-Settled.many))) c.render_settled.ensures.output)

pub returns-in-None-clause-output : goal.returns-in-None-clause-output
returns-in-None-clause-output g c = λ before note e. absurd (no_last c.args.hosts.now.traces before note e c.in-None.ensures)
