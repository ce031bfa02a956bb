use Rattle.std.proofs.Common.{Some, ap, ◌∙◌}
use Rattle.ncp_model.specs.declared.pair.Pair.{Pair}
use Rattle.ncp_model.specs.Peers.{Close}
use Rattle.ncp_host.specs.Host.{Host}
use Rattle.ncp_host.specs.Calls.{call_reply, after_call_to}
use Rattle.ncp_embed.specs.Which.{of_which}
use Rattle.ncp_results.specs.Codes.{code_of}
use Rattle.ncp_embed.specs.Exports.{held, code_in, host_changed_in}
use Rattle.ncp_embed.proofs.Calling.{found}
use Rattle.ncp_embed.proofs.calls.ncp_embed_close.Goals as goal

pub returns-clause-code : goal.returns-clause-code
returns-clause-code c =
    let there = ap (code_in (of_which call_reply c.args.which.now Close)) (found c.take.result c.in-Some.held c.deref_mut.result.now c.args.handle.now.host c.in-Some.is c.take.ensures.held c.deref_mut.ensures.value) in
    let meant = ap (λ (pair : Pair). call_reply c.args.which.now.peer pair Close c.deref_mut.result.now.host) c.pair.ensures in
    c.code_of.ensures ∙ ap code_of (c.close-answer.ensures.reply ∙ meant) ∙ there

pub returns-clause-host : goal.returns-clause-host
returns-clause-host c =
    let there = ap (host_changed_in (of_which after_call_to c.args.which.now Close)) (found c.take.result c.in-Some.held c.deref_mut.result.now c.args.handle.now.host c.in-Some.is c.take.ensures.held c.deref_mut.ensures.value) in
    let meant = ap (λ (pair : Pair). after_call_to c.args.which.now.peer pair Close c.deref_mut.result.now.host) c.pair.ensures in
    c.put.ensures ∙ ap (λ (h : Host). Some (held h)) (c.close-answer.ensures.host ∙ meant) ∙ there
