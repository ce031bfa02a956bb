use Rattle.ncp_transcript_two.specs.Seen.{seen}
use Rattle.ncp_transcript_two.proofs.Headlines.{watched-all}
use Rattle.ncp_proof_promises.specs.Resetting.{OnlyResetsAct}
use Rattle.ncp_proof_promises.proofs.Each.{of-each-note}
use Rattle.ncp_proof_promises.proofs.Waiting.{still-here, still-there, only-resets-act}
use Rattle.ncp_proof_promises.proofs.promises.only_resets_act_until_the_answer.Goals as goal

pub returns-clause-waiting : goal.returns-clause-waiting
returns-clause-waiting c notes w t =
    let k = watched-all notes w t in
    (λ a. still-here k.0 (seen w) k.1 a, λ a. still-there k.0 (seen w) k.1 a)

pub returns-clause-acts : goal.returns-clause-acts
returns-clause-acts c = of-each-note OnlyResetsAct only-resets-act
