use Rattle.std.proofs.Common.{refl}
use Rattle.ncp_transcript.specs.declared.call.Call.TheVariants.{AskReceive}
use Rattle.ncp_transcript.proofs.Doing.{done_or_short, noted_or_short}
use Rattle.ncp_transcript.proofs.acts.ask_receive.Goals as goal

pub returns-clause-note : goal.returns-clause-note
returns-clause-note g c = noted_or_short (AskReceive c.args.peer c.args.pair.local c.args.pair.remote c.args.room) c.ask_receive-reply.result c.done.result c.args.host.now c.ask_receive-reply.new.self c.done.ensures refl c.ask_receive-reply.ensures.done

pub returns-clause-host : goal.returns-clause-host
returns-clause-host g c = done_or_short (AskReceive c.args.peer c.args.pair.local c.args.pair.remote c.args.room) c.ask_receive-reply.result c.done.result c.args.host.now c.ask_receive-reply.new.self c.done.ensures c.ask_receive-reply.ensures.done c.ask_receive-reply.ensures.err
