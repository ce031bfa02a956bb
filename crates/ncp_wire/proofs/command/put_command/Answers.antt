use Rattle.ncp_wire.proofs.command.put_command.Goals as goal

pub returns-in-Err-clause-command : goal.returns-in-Err-clause-command
returns-in-Err-clause-command c = rw c.in-Err.is c.error_bytes.ensures.command
