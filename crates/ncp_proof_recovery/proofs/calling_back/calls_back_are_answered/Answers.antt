use Rattle.ncp_transcript_many.proofs.EachPair.{for-two}
use Rattle.ncp_proof_quiescence.specs.Settled.{IsSettled}
use Rattle.ncp_proof_recovery.specs.CallingBack.{AllReturnedThen}
use Rattle.ncp_proof_recovery.proofs.Returned.{settled-returned, transcript-returned}
use Rattle.ncp_proof_recovery.proofs.calling_back.calls_back_are_answered.Goals as goal

pub returns-clause-ever : goal.returns-clause-ever
returns-clause-ever c = settled-returned

pub returns-clause-two : goal.returns-clause-two
returns-clause-two c = transcript-returned

pub returns-clause-many : goal.returns-clause-many
returns-clause-many c = for-two (λ ns h v. IsSettled v → AllReturnedThen v) transcript-returned
