use Rattle.std.proofs.Common.{ap, ◌∙◌}
use Rattle.ncp_transcript.specs.declared.call.Call.TheVariants.{Allocate}
use Rattle.ncp_transcript.specs.Notes.{done_or_refused}
use Rattle.ncp_transcript.proofs.Doing.{done_or_stays}
use Rattle.ncp_transcript.proofs.acts.allocate.Goals as goal

pub returns-clause-note : goal.returns-clause-note
returns-clause-note g c = c.done.ensures ∙ ap (done_or_refused (Allocate c.args.peer c.args.pair c.args.messages c.args.bits)) c.allocate-reply.ensures.reply

pub returns-clause-host : goal.returns-clause-host
returns-clause-host g c =
    done_or_stays (Allocate c.args.peer c.args.pair c.args.messages c.args.bits) c.allocate-reply.result c.done.result c.args.host.now c.allocate-reply.new.self c.done.ensures c.allocate-reply.ensures.host c.allocate-reply.ensures.err
