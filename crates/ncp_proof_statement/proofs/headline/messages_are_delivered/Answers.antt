use Rattle.ncp_proof_machine.specs.Resets.{This, That}
use Rattle.ncp_transcript_two.specs.declared.side.Side.TheVariants.{A, B}
use Rattle.ncp_proof_statement.proofs.Delivering.{honest-same}
use Rattle.ncp_proof_statement.proofs.headline.messages_are_delivered.Goals as goal

pub returns : goal.returns
returns c ns w is A on = honest-same w.number_a A on ns w is (c.transcripts_are_honest.ensures.honest ns w is This on)
returns c ns w is B on = honest-same w.number_b B on ns w is (c.transcripts_are_honest.ensures.honest ns w is That on)
