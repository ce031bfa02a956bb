use Rattle.std.proofs.Common.{ap, ◌∙◌}
use Rattle.ncp_transcript.specs.declared.call.Call.TheVariants.{Reset}
use Rattle.ncp_transcript.specs.Notes.{done_or_refused}
use Rattle.ncp_transcript.proofs.Doing.{done_or_stays}
use Rattle.ncp_transcript.proofs.acts.reset.Goals as goal

pub returns-clause-note : goal.returns-clause-note
returns-clause-note g c = c.done.ensures ∙ ap (done_or_refused (Reset c.args.peer)) c.reset-reply.ensures.reply

pub returns-clause-host : goal.returns-clause-host
returns-clause-host g c =
    done_or_stays (Reset c.args.peer) c.reset-reply.result c.done.result c.args.host.now c.reset-reply.new.self c.done.ensures c.reset-reply.ensures.host c.reset-reply.ensures.err
