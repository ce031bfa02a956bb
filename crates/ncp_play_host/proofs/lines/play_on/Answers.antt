use Rattle.ncp_play_host.specs.Events.{inputs_of}
use Rattle.ncp_play_host.proofs.Inputs.{first_all}
use Rattle.ncp_play_host.proofs.lines.play_on.Goals as goal

pub returns-in-Ok-flush_before_line-clause-output : goal.returns-in-Ok-flush_before_line-clause-output
returns-in-Ok-flush_before_line-clause-output g c = λ was first told.
    let one = c.in-Ok.ensures.output was first told in
    (one.0, c.in-Ok-flush_before_line.ensures.ok was _ one.1)

pub returns-in-Err-flush_before_line-clause-output : goal.returns-in-Err-flush_before_line-clause-output
returns-in-Err-flush_before_line-clause-output g c = λ was first told.
    let one = c.in-Ok.ensures.output was first told in
    (c.in-Err-flush_before_line.ensures.err.0, c.in-Err-flush_before_line.ensures.err.1 was _ one.1)

pub returns-in-Err-flush_before_line-clause-events : goal.returns-in-Err-flush_before_line-clause-events
returns-in-Err-flush_before_line-clause-events g c = first_all (inputs_of c.args.peers.now c.args.event.now c.args.alone.now.host) c.args.alone.now c.play_event.new.alone c.in-Ok.ensures.events
