use Rattle.std.proofs.Common.{sym, ap, ◌∙◌, Option}
use Rattle.ncp_model.specs.Endpoint.{Endpoint, or_new}
use Rattle.ncp_model.specs.Calls.{end_to_ask}
use Rattle.ncp_conn.proofs.Tables.{its_pair, got, got_none}
use Rattle.ncp_conn.proofs.table.Table.end_may_ask.Goals as goal

pub returns-in_default : goal.returns-in_default
returns-in_default g c = ap (λ (o : Option Endpoint). end_to_ask (or_new o)) (sym (got_none c.self.inside.entries c.args.self.now c.self.view_is c.self.invariant c.args.pair c.in_default.ensures.found))

pub returns : goal.returns
returns g c = c.may_ask.ensures ∙ ap (λ (o : Option Endpoint). end_to_ask (or_new o)) (sym (got c.self.inside.entries c.args.self.now c.self.view_is c.self.invariant c.in-Some.key c.args.pair c.index.result.now c.index.ensures (its_pair c.self.inside.entries.slab c.in-Some.key c.args.pair c.index.result.now c.in-Some.ensures.found c.index.ensures)))
