use Rattle.std.proofs.Common.{rules}
use Rattle.ncp_conn.proofs.equality.equal_ends.Goals as goal

pub returns : goal.returns
returns c = search rules
