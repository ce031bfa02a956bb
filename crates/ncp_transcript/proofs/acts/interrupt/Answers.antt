use Rattle.std.proofs.Common.{ap, ◌∙◌}
use Rattle.ncp_transcript.specs.declared.call.Call.TheVariants.{Interrupt}
use Rattle.ncp_transcript.specs.Notes.{done_or_refused}
use Rattle.ncp_transcript.proofs.Doing.{done_or_stays}
use Rattle.ncp_transcript.proofs.acts.interrupt.Goals as goal

pub returns-clause-note : goal.returns-clause-note
returns-clause-note g c = c.done.ensures ∙ ap (done_or_refused (Interrupt c.args.peer c.args.pair)) c.interrupt-reply.ensures.reply

pub returns-clause-host : goal.returns-clause-host
returns-clause-host g c =
    done_or_stays (Interrupt c.args.peer c.args.pair) c.interrupt-reply.result c.done.result c.args.host.now c.interrupt-reply.new.self c.done.ensures c.interrupt-reply.ensures.host c.interrupt-reply.ensures.err
