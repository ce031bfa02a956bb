use Rattle.std.proofs.Common.{sym, ap, ◌∙◌, Option}
use Rattle.ncp_model.specs.Endpoint.{Endpoint, or_new}
use Rattle.ncp_conn.proofs.Tables.{its_pair, got, got_none}
use Rattle.ncp_conn.proofs.table.Table.is_heard.Goals as goal

pub returns-in_default : goal.returns-in_default
returns-in_default g c = ap (λ (o : Option Endpoint). (or_new o).heard) (sym (got_none c.self.inside.entries c.args.self.now c.self.view_is c.self.invariant c.args.pair c.in_default.ensures.found))

pub returns : goal.returns
returns g c = c.is_heard.ensures ∙ ap (λ (o : Option Endpoint). (or_new o).heard) (sym (got c.self.inside.entries c.args.self.now c.self.view_is c.self.invariant c.in-Some.key c.args.pair c.index.result.now c.index.ensures (its_pair c.self.inside.entries.slab c.in-Some.key c.args.pair c.index.result.now c.in-Some.ensures.found c.index.ensures)))
