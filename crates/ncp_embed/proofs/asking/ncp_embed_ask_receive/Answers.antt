use Rattle.ncp_model.specs.Peers.{Ask_to_receive}
use Rattle.ncp_host.specs.Calls.{call_reply, after_call_to}
use Rattle.ncp_embed.specs.Which.{of_which}
use Rattle.ncp_embed.proofs.Calling.{done}
use Rattle.ncp_embed.proofs.asking.ncp_embed_ask_receive.Goals as goal

pub returns-clause-done : goal.returns-clause-done
returns-clause-done c =
    let call = Ask_to_receive c.args.room in
    done c.take.result c.in-Some.held c.deref_mut.result.now c.args.handle.now.host c.in-Some.is c.take.ensures.held c.deref_mut.ensures.value
    (of_which call_reply c.args.which.now call) (of_which after_call_to c.args.which.now call) c.ask_receive-answer.result c.ask_receive-answer.new.self c.put.new.handle.host c.code_of.result
    c.code_of.ensures c.put.ensures c.ask_receive-answer.ensures.done
