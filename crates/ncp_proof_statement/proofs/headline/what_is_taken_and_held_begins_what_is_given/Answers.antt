use Rattle.ncp_model.specs.Pairs.{counterpart}
use Rattle.ncp_transcript_two.specs.declared.side.Side.{Side}
use Rattle.ncp_transcript_two.specs.declared.side.Side.TheVariants.{A, B}
use Rattle.ncp_transcript_two.specs.OfRules.{histories_of}
use Rattle.ncp_proof_statement.proofs.GoingOn.{Carried, held-begins, counterpart-sends}
use Rattle.ncp_proof_statement.proofs.headline.what_is_taken_and_held_begins_what_is_given.Goals as goal

pub returns : goal.returns
returns c ns w side pair is r live stays =
    let begins = c.transcripts_keep_the_headline.ensures.beginning ns w (counterpart pair) is (counterpart-sends pair r) in
    let held = c.transcripts_keep_the_headline.ensures.held ns w (counterpart pair) is (counterpart-sends pair r) in
    held-begins ns w is side pair r live stays (go side (record { begins = begins.1; kept = held.1 }) (record { begins = begins.0; kept = held.0 }))
  where
    go : (side : Side) → Carried A pair w (histories_of ns w) → Carried B pair w (histories_of ns w) → Carried side pair w (histories_of ns w)
    go A a b = a
    go B a b = b
