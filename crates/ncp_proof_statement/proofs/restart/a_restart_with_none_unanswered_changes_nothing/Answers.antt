use Rattle.std.proofs.Common.{List, sym, ap, ◌∙◌}
use Rattle.ncp_transcript.specs.declared.note.HostNote.{HostNote}
use Rattle.ncp_transcript.specs.After.{after_notes}
use Rattle.ncp_proof_statement.proofs.Lasting.{no-notes}
use Rattle.ncp_proof_statement.proofs.restart.a_restart_with_none_unanswered_changes_nothing.Goals as goal

pub returns-clause-notes : goal.returns-clause-notes
returns-clause-notes c = no-notes

pub returns-clause-host : goal.returns-clause-host
returns-clause-host c number h n none =
    sym (c.a_restart_is_noted_as_answers.ensures.after number h n) ∙ ap (λ (ns : List HostNote). after_notes ns h) (no-notes number h none)
