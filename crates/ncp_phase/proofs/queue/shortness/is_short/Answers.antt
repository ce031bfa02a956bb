use Rattle.ncp_phase.proofs.Short.{command_short}
use Rattle.ncp_phase.proofs.queue.shortness.is_short.Goals as goal

pub returns : goal.returns
returns c = command_short c.args.command.now c.put_command-bytes.ensures.command
