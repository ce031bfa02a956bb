use Rattle.ncp_conn.specs.Cutting.{may_cut}
use Rattle.ncp_conn.proofs.Cutting.{first_found}
use Rattle.ncp_conn.proofs.Tables.{sending_is}
use Rattle.ncp_conn.proofs.table.Table.next_cut.Goals as goal

pub returns : goal.returns
returns g c =
    first_found (may_cut c.args.self.now) c.self.inside.entries.sending 71 c.args.from c.first_from.result
    (sending_is c.self.inside.entries c.args.self.now c.self.view_is c.self.invariant) c.first_from.ensures.lowest c.first_from.ensures.last
