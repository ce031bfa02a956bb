use Rattle.std.proofs.Common.{ap, ◌∙◌}
use Rattle.ncp_transcript.specs.declared.call.Call.TheVariants.{Echo}
use Rattle.ncp_transcript.specs.Notes.{done_or_refused}
use Rattle.ncp_transcript.proofs.Doing.{done_or_stays}
use Rattle.ncp_transcript.proofs.acts.echo.Goals as goal

pub returns-clause-note : goal.returns-clause-note
returns-clause-note g c = c.done.ensures ∙ ap (done_or_refused (Echo c.args.peer c.args.byte)) c.echo-reply.ensures.reply

pub returns-clause-host : goal.returns-clause-host
returns-clause-host g c =
    done_or_stays (Echo c.args.peer c.args.byte) c.echo-reply.result c.done.result c.args.host.now c.echo-reply.new.self c.done.ensures c.echo-reply.ensures.host c.echo-reply.ensures.err
