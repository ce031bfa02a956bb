use Rattle.std.proofs.Common.{◌≡◌, ◌∙◌, ◌++◌, ◌∷◌, [], List, sym, subst}
use Rattle.ncp_transcript.specs.declared.note.HostNote.{HostNote}
use Rattle.ncp_transcript.specs.Alone.{Alone, IsHostStep}
use Rattle.ncp_play_stream.specs.Streams.{WritesText, WritesPrefixOf}
use Rattle.ncp_play_notes.specs.declared.heading.LinePrefix.{LinePrefix}
use Rattle.ncp_play_notes.specs.NoteLines.{note_lines}
use Rattle.ncp_play_notes.specs.Playing.{Tells, PrintsPrefixOf}
use Rattle.ncp_play_notes.proofs.OneInput.{prints_one, prints_one_broken, last_note, on_no_error, on_error}
use Rattle.ncp_play_notes.proofs.playing.play_input.Goals as goal

pub returns-then-is_err-clause-events : goal.returns-then-is_err-clause-events
returns-then-is_err-clause-events g c = on_error (c.step.new.self ≡ c.args.alone.now) c.step.result c.step.ensures.err (sym c.is_err.ensures.value ∙ c.if-is_err.true)

pub returns-then-is_err-clause-output : goal.returns-then-is_err-clause-output
returns-then-is_err-clause-output g c = λ was first told.
    let same = on_error (c.step.new.self ≡ c.args.alone.now) c.step.result c.step.ensures.err (sym c.is_err.ensures.value ∙ c.if-is_err.true) in
    subst (λ (alone : Alone). Tells was first alone.notes c.args.heading.now c.args.out.now.page.now (g.W.Sink.written c.args.out.now.sink.now)) (sym same) told

pub returns-in-Ok-clause-output : goal.returns-in-Ok-clause-output
returns-in-Ok-clause-output g c = λ was first told.
    let w = g.W.Sink in let before = c.args.alone.now.notes in let page = c.args.out.now.page.now in let heading = c.args.heading.now in
    let old = w.written c.args.out.now.sink.now in let now = w.written c.render_note.new.out.sink.now in let last = c.render_note.new.out.page.now in
    let step : IsHostStep c.args.input.now c.args.alone.now c.step.new.self = on_no_error (IsHostStep c.args.input.now c.args.alone.now c.step.new.self) c.step.result c.step.ensures.step (sym c.is_err.ensures.value ∙ c.if-is_err.false) in
    let same : c.index-notes-notes.result ≡ step.0 = last_note c.transcript-notes.result.now before step.0 c.index-notes-notes.result (c.transcript-notes.ensures.notes ∙ step.2) c.index-notes-notes.is in
    let says = subst (λ (note : HostNote). WritesText page old (note_lines heading note) last now) same c.in-Ok.ensures.output in
    subst (λ (notes : List HostNote). Tells was first notes c.next.result last now) (sym step.2)
    (subst (λ (next : LinePrefix). Tells was first (before ++ step.0 ∷ []) next last now) (sym c.next.ensures) (prints_one was first heading before step.0 page old told last now says))

pub returns-in-Err-clause-output : goal.returns-in-Err-clause-output
returns-in-Err-clause-output g c = λ was first told.
    let w = g.W.Sink in let before = c.args.alone.now.notes in let page = c.args.out.now.page.now in let heading = c.args.heading.now in
    let old = w.written c.args.out.now.sink.now in let now = w.written c.render_note.new.out.sink.now in
    let step : IsHostStep c.args.input.now c.args.alone.now c.step.new.self = on_no_error (IsHostStep c.args.input.now c.args.alone.now c.step.new.self) c.step.result c.step.ensures.step (sym c.is_err.ensures.value ∙ c.if-is_err.false) in
    let same : c.index-notes-notes.result ≡ step.0 = last_note c.transcript-notes.result.now before step.0 c.index-notes-notes.result (c.transcript-notes.ensures.notes ∙ step.2) c.index-notes-notes.is in
    let says = subst (λ (note : HostNote). WritesPrefixOf page old (note_lines heading note) now) same c.in-Err.ensures.output in
    subst (λ (notes : List HostNote). PrintsPrefixOf was first notes now) (sym step.2) (prints_one_broken was first heading before step.0 page old told now says)

pub returns-in-Ok-clause-events : goal.returns-in-Ok-clause-events
returns-in-Ok-clause-events g c = on_no_error (IsHostStep c.args.input.now c.args.alone.now c.step.new.self) c.step.result c.step.ensures.step (sym c.is_err.ensures.value ∙ c.if-is_err.false)

pub returns-in-Err-clause-events : goal.returns-in-Err-clause-events
returns-in-Err-clause-events g c = on_no_error (IsHostStep c.args.input.now c.args.alone.now c.step.new.self) c.step.result c.step.ensures.step (sym c.is_err.ensures.value ∙ c.if-is_err.false)

pub returns-in-Ok-clause-mark : goal.returns-in-Ok-clause-mark
returns-in-Ok-clause-mark g c = c.in-Ok.ensures.mark

pub returns-in-Ok-clause-writes : goal.returns-in-Ok-clause-writes
returns-in-Ok-clause-writes g c = c.in-Ok.ensures.writes

pub returns-in-Err-clause-mark : goal.returns-in-Err-clause-mark
returns-in-Err-clause-mark g c = c.in-Err.ensures.mark

pub returns-in-Err-clause-writes : goal.returns-in-Err-clause-writes
returns-in-Err-clause-writes g c = c.in-Err.ensures.writes
