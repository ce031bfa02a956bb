use Rattle.std.proofs.Common.{rules}
use Rattle.ncp_conn.proofs.entry.Entry.bytes_to_send.Goals as goal

pub returns : goal.returns
returns g c = search rules
