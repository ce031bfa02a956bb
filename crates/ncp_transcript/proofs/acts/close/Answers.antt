use Rattle.std.proofs.Common.{ap, ◌∙◌}
use Rattle.ncp_transcript.specs.declared.call.Call.TheVariants.{Close}
use Rattle.ncp_transcript.specs.Notes.{done_or_refused}
use Rattle.ncp_transcript.proofs.Doing.{done_or_stays}
use Rattle.ncp_transcript.proofs.acts.close.Goals as goal

pub returns-clause-note : goal.returns-clause-note
returns-clause-note g c = c.done.ensures ∙ ap (done_or_refused (Close c.args.peer c.args.pair)) c.close-reply.ensures.reply

pub returns-clause-host : goal.returns-clause-host
returns-clause-host g c =
    done_or_stays (Close c.args.peer c.args.pair) c.close-reply.result c.done.result c.args.host.now c.close-reply.new.self c.done.ensures c.close-reply.ensures.host c.close-reply.ensures.err
