use Rattle.std.proofs.Common.{List, ◌∷◌, ◌++◌, sym, subst}
use Rattle.ncp_transcript_two.specs.declared.note.Note.{Note}
use Rattle.ncp_transcript_two.specs.Between.{hosts_after_notes}
use Rattle.ncp_transcript_two.specs.Transcript.{began, IsTranscript}
use Rattle.ncp_transcript_two.specs.Impossible.{IsImpossible}
use Rattle.ncp_subnet.specs.Ways.{OnLink}
use Rattle.ncp_proof_promises.proofs.Beginnings.{begins}
use Rattle.ncp_proof_statement.proofs.Carrying.{carried-is}
use Rattle.ncp_proof_statement.proofs.headline.each_output_is_accepted.Goals as goal

pub returns-clause-link_state : goal.returns-clause-link_state
returns-clause-link_state c ns w side on t = carried-is side on ns w t (c.each_output_is_accepted_after_its_note.ensures ns w t)

pub returns-clause-vain : goal.returns-clause-vain
returns-clause-vain c ns w t before after side link wanted e =
    let at : IsTranscript (before ++ Note.Nothing side link wanted ∷ after) w = subst (λ (xs : List Note). IsTranscript xs w) e t in
    let v = hosts_after_notes before (began w) in
    let front = begins before (Note.Nothing side link wanted ∷ after) w at in
    subst (λ (has : OnLink). IsImpossible wanted has) (sym (carried-is side link before v front (c.each_output_is_accepted_after_its_note.ensures before v front))) (c.nothing_is_noted_only_where_nothing_can_be.ensures.moves before after w side link wanted at)
