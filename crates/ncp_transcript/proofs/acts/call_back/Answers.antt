use Rattle.std.proofs.Common.{ap, ◌∙◌}
use Rattle.ncp_transcript.specs.declared.call.Call.TheVariants.{CallBack}
use Rattle.ncp_transcript.specs.Notes.{done_or_refused}
use Rattle.ncp_transcript.proofs.Doing.{done_or_stays}
use Rattle.ncp_transcript.proofs.acts.call_back.Goals as goal

pub returns-clause-note : goal.returns-clause-note
returns-clause-note g c = c.done.ensures ∙ ap (done_or_refused (CallBack c.args.peer c.args.pair c.args.fm c.args.fb)) c.call_back-reply.ensures.reply

pub returns-clause-host : goal.returns-clause-host
returns-clause-host g c =
    done_or_stays (CallBack c.args.peer c.args.pair c.args.fm c.args.fb) c.call_back-reply.result c.done.result c.args.host.now c.call_back-reply.new.self c.done.ensures c.call_back-reply.ensures.host c.call_back-reply.ensures.err
