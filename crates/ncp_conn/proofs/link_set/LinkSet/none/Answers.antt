use Rattle.std.proofs.Common.{rules}
use Rattle.ncp_conn.proofs.link_set.LinkSet.none.Goals as goal

pub returns : goal.returns
returns c = search rules
