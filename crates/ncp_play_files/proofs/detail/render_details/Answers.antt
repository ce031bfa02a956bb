use Rattle.std.proofs.Common.{◌∙◌, Result, sym, subst}
use Rattle.ncp_leader.specs.declared.fault.MessageFault.{MessageFault}
use Rattle.ncp_leader.specs.Message.{Message}
use Rattle.ncp_play_files.specs.Lines.{message_lines}
use Rattle.ncp_play_stream.specs.Streams.{WritesTextOrPrefixOf}
use Rattle.ncp_play_files.proofs.detail.render_details.Goals as goal

pub returns-in-Ok-clause-output : goal.returns-in-Ok-clause-output
returns-in-Ok-clause-output g c =
    let w = g.W.Sink in
    subst (λ (read : Result Message MessageFault). WritesTextOrPrefixOf c.args.out.now.page.now (w.written c.args.out.now.sink.now) (message_lines read) c.render_message.result c.render_message.new.out.page.now (w.written c.render_message.new.out.sink.now))
    (sym c.in-Ok.is ∙ c.read_regular_in.ensures.exact) c.render_message.ensures.output

pub returns-in-Err-clause-output : goal.returns-in-Err-clause-output
returns-in-Err-clause-output g c =
    let w = g.W.Sink in
    subst (λ (read : Result Message MessageFault). WritesTextOrPrefixOf c.args.out.now.page.now (w.written c.args.out.now.sink.now) (message_lines read) c.render_fault.result c.render_fault.new.out.page.now (w.written c.render_fault.new.out.sink.now))
    (sym c.in-Err.is ∙ c.read_regular_in.ensures.exact) c.render_fault.ensures.output
