use Rattle.std.proofs.Common.{List, subst}
use Rattle.ncp_model.specs.Pairs.{counterpart}
use Rattle.ncp_transcript_two.specs.declared.side.Side.{Side}
use Rattle.ncp_transcript_two.specs.declared.side.Side.TheVariants.{A, B}
use Rattle.ncp_transcript_two.specs.declared.note.Note.{Note}
use Rattle.ncp_transcript_two.specs.Between.{Hosts, hosts_after_notes}
use Rattle.ncp_transcript_two.specs.Transcript.{began, IsTranscript}
use Rattle.ncp_transcript_two.specs.OfRules.{histories_of}
use Rattle.ncp_proof_statement.proofs.GoingOn.{Carried, took-goes-on}
use Rattle.ncp_proof_statement.proofs.headline.taken_is_prefix.Goals as goal

pub returns : goal.returns
returns c ns w is before after side peer q bytes text e =
    took-goes-on before after w side peer q bytes text (subst (λ (xs : List Note). IsTranscript xs w) e is) (λ u s.
    let v : Hosts = hosts_after_notes before (began w) in
    let begins = c.transcripts_keep_the_headline.ensures.beginning before v (counterpart q) u s in
    let held = c.transcripts_keep_the_headline.ensures.held before v (counterpart q) u s in
    go side (record { begins = begins.1; kept = held.1 }) (record { begins = begins.0; kept = held.0 }))
  where
    go : (side : Side) → Carried A q (hosts_after_notes before (began w)) (histories_of before (hosts_after_notes before (began w))) → Carried B q (hosts_after_notes before (began w)) (histories_of before (hosts_after_notes before (began w)))
        → Carried side q (hosts_after_notes before (began w)) (histories_of before (hosts_after_notes before (began w)))
    go A a b = a
    go B a b = b
