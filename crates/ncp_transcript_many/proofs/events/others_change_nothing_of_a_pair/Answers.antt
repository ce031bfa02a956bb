use Rattle.ncp_transcript_many.proofs.EveryPair.{pairs-same, pair-alone}
use Rattle.ncp_transcript_many.proofs.events.others_change_nothing_of_a_pair.Goals as goal

pub returns-clause-same : goal.returns-clause-same
returns-clause-same c = pairs-same

pub returns-clause-alone : goal.returns-clause-alone
returns-clause-alone c = pair-alone
