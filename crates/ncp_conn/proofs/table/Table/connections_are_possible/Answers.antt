use Rattle.ncp_conn.proofs.Possible.{all_possible}
use Rattle.ncp_conn.proofs.table.Table.connections_are_possible.Goals as goal

pub returns : goal.returns
returns g c = all_possible c.self.inside.entries c.args.self.now c.self.view_is c.self.invariant c.are_possible.ensures
