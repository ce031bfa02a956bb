use Rattle.std.proofs.Common.{◌++◌, sym, ap, ◌∙◌}
use Rattle.ncp_transcript.specs.declared.note.HostNote.{HostNote}
use Rattle.ncp_play_notes.specs.Results.{result_words}
use Rattle.ncp_play_notes.proofs.results.push_result.Goals as goal

pub returns-in-Refused-clause-bytes : goal.returns-in-Refused-clause-bytes
returns-in-Refused-clause-bytes c = c.push_refused.ensures.bytes ∙ ap (λ (note : HostNote). c.args.page.now ++ result_words note) (sym c.in-Refused.is)

pub returns-in-Done-clause-bytes : goal.returns-in-Done-clause-bytes
returns-in-Done-clause-bytes c = c.push_text.ensures.bytes ∙ ap (λ (note : HostNote). c.args.page.now ++ result_words note) (sym c.in-Done.is)

pub returns-in-Took-clause-bytes : goal.returns-in-Took-clause-bytes
returns-in-Took-clause-bytes c = c.push_took.ensures.bytes ∙ ap (λ (note : HostNote). c.args.page.now ++ result_words note) (sym c.in-Took.is)

pub returns-in-State-clause-bytes : goal.returns-in-State-clause-bytes
returns-in-State-clause-bytes c = c.push_state.ensures.bytes ∙ ap (λ (note : HostNote). c.args.page.now ++ result_words note) (sym c.in-State.is)

pub returns-in-Phase-clause-bytes : goal.returns-in-Phase-clause-bytes
returns-in-Phase-clause-bytes c = c.push_phase.ensures.bytes ∙ ap (λ (note : HostNote). c.args.page.now ++ result_words note) (sym c.in-Phase.is)

pub returns-in-Echoed-clause-bytes : goal.returns-in-Echoed-clause-bytes
returns-in-Echoed-clause-bytes c = c.push_echoed.ensures.bytes ∙ ap (λ (note : HostNote). c.args.page.now ++ result_words note) (sym c.in-Echoed.is)

pub returns-in-Errors-clause-bytes : goal.returns-in-Errors-clause-bytes
returns-in-Errors-clause-bytes c = c.push_errors.ensures.bytes ∙ ap (λ (note : HostNote). c.args.page.now ++ result_words note) (sym c.in-Errors.is)

pub returns-in-Counts-clause-bytes : goal.returns-in-Counts-clause-bytes
returns-in-Counts-clause-bytes c = c.push_counts.ensures.bytes ∙ ap (λ (note : HostNote). c.args.page.now ++ result_words note) (sym c.in-Counts.is)

pub returns-in-Ignored-clause-bytes : goal.returns-in-Ignored-clause-bytes
returns-in-Ignored-clause-bytes c = c.push_ignored.ensures.bytes ∙ ap (λ (note : HostNote). c.args.page.now ++ result_words note) (sym c.in-Ignored.is)
