use Rattle.ncp_transcript.proofs.message.Message.from_bits.Goals as goal

pub returns : goal.returns
returns c = c.pack.ensures
