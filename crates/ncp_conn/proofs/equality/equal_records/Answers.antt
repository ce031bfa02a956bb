use Rattle.ncp_conn.proofs.Same.{records_decided}
use Rattle.ncp_conn.proofs.equality.equal_records.Goals as goal

pub returns : goal.returns
returns c = records_decided c.args.one.now c.args.other.now c.eq.result c.eq.ensures
