use Rattle.std.proofs.Common.{rules}
use Rattle.ncp_conn.proofs.entries.Entries.new.Goals as goal

pub returns-clause-room : goal.returns-clause-room
returns-clause-room g c = search rules
