use Rattle.std.proofs.Common.{ap}
use Rattle.ncp_model.specs.Echo.{Echoes}
use Rattle.ncp_proof_runs.proofs.EchoTold.{echoes-noted}
use Rattle.ncp_proof_runs.proofs.EchoNoted.{byte-noted, errors-noted, echo-accepted, echo-busy}
use Rattle.ncp_proof_runs.proofs.echoes.echoes_and_errors_are_what_their_notes_say.Goals as goal

pub returns-clause-awaited : goal.returns-clause-awaited
returns-clause-awaited c me ns all n s from there = ap (λ (x : Echoes). x.awaited) (echoes-noted me ns all n s from there)

pub returns-clause-echoed : goal.returns-clause-echoed
returns-clause-echoed c me ns all n s from there = ap (λ (x : Echoes). x.echoed) (echoes-noted me ns all n s from there)

pub returns-clause-errors : goal.returns-clause-errors
returns-clause-errors c me ns all n s from there = ap (λ (x : Echoes). x.errors) (echoes-noted me ns all n s from there)

pub returns-clause-accepted : goal.returns-clause-accepted
returns-clause-accepted c = λ n byte me ns before after from. echo-accepted me ns before after n byte from

pub returns-clause-busy : goal.returns-clause-busy
returns-clause-busy c = λ n byte me ns before after from. echo-busy me ns before after n byte from

pub returns-clause-byte_noted : goal.returns-clause-byte_noted
returns-clause-byte_noted c = λ n byte me ns before after from. byte-noted me ns before after n byte from

pub returns-clause-errors_noted : goal.returns-clause-errors_noted
returns-clause-errors_noted c = λ n errors me ns before after from. errors-noted me ns before after n errors from
