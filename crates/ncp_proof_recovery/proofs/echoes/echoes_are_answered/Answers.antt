use Rattle.std.proofs.Common.{refl}
use Rattle.ncp_proof_machine.specs.Hosts.{all_empty}
use Rattle.ncp_transcript_many.proofs.EachPair.{for-two}
use Rattle.ncp_proof_quiescence.specs.Settled.{IsSettled}
use Rattle.ncp_proof_recovery.specs.Echoes.{NoneAwaitsThen}
use Rattle.ncp_proof_recovery.proofs.EchoesEnd.{settled-echoes, transcript-echoes}
use Rattle.ncp_proof_recovery.proofs.echoes.echoes_are_answered.Goals as goal

pub returns-clause-ever : goal.returns-clause-ever
returns-clause-ever c = settled-echoes

pub returns-clause-asked : goal.returns-clause-asked
unfolding all_empty
returns-clause-asked c f = cc (f refl refl).0

pub returns-clause-two : goal.returns-clause-two
returns-clause-two c = transcript-echoes

pub returns-clause-many : goal.returns-clause-many
returns-clause-many c = for-two (λ ns h v. IsSettled v → NoneAwaitsThen v) transcript-echoes
