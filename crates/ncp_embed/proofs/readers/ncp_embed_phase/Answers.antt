use Rattle.std.proofs.Common.{sym, ap, ◌∙◌}
use Rattle.ncp_host.specs.Calls.{flags_returned}
use Rattle.ncp_results.specs.Returned.{phase_of}
use Rattle.ncp_embed.specs.Exports.{formed, formed_in}
use Rattle.ncp_embed.proofs.Calling.{found}
use Rattle.ncp_embed.proofs.readers.ncp_embed_phase.Goals as goal

pub returns-in-Ok-clause-output : goal.returns-in-Ok-clause-output
returns-in-Ok-clause-output c =
    let answered = ap (λ answer. formed phase_of answer c.args.out.now) (sym c.in-Ok.is ∙ c.phase-answer.ensures) in
    let there = ap (λ at. formed_in phase_of (flags_returned c.args.peer) at c.args.out.now) (found c.take.result c.in-Some.held c.deref.result.now c.args.handle.now.host c.in-Some.is c.take.ensures.held c.deref.ensures) in
    cc
