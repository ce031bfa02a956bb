use Rattle.std.proofs.Common.{◌-◌}
use Rattle.ncp_conn.proofs.entries.+free_from.Given as goal

abbrev pub decreases-free_from : goal.decreases-free_from
decreases-free_from l = 72 - l.link
