use Rattle.std.proofs.Common.{sym, ap, is_none, refl}
use Rattle.ncp_conn.proofs.Tables.{got, got_none}
use Rattle.ncp_conn.proofs.table.Table.is_vacant.Goals as goal

pub returns-in_default : goal.returns-in_default
returns-in_default g c = ap is_none (sym (got_none c.self.inside.entries c.args.self.now c.self.view_is c.self.invariant c.args.pair c.in_default.ensures.found))

pub returns : goal.returns
returns g c = ap is_none (sym (got c.self.inside.entries c.args.self.now c.self.view_is c.self.invariant c.in-Some._key c.args.pair (c.args.pair, c.in-Some.ensures.found.0) c.in-Some.ensures.found.1 refl))
