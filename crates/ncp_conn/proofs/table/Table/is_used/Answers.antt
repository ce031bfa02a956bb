use Rattle.std.proofs.Common.{sym, ap, ◌∙◌, is_some}
use Rattle.ncp_conn.proofs.Tables.{is_used}
use Rattle.ncp_conn.proofs.table.Table.is_used.Goals as goal

pub returns : goal.returns
returns g c = c.is_some.ensures ∙ ap is_some c.key.ensures ∙ sym (is_used c.self.inside.entries c.args.self.now c.self.view_is c.self.invariant c.args.link)
