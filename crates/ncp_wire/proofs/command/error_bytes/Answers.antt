use Rattle.std.proofs.Common.{◌≡◌, length, arith, rules}
use Rattle.ncp_wire.proofs.command.error_bytes.Goals as goal

pub returns-clause-command : goal.returns-clause-command
returns-clause-command c = let ten : length c.args.bytes ≡ 10 = search rules in (omega arith, ten, c.push_bytes.ensures.small)
