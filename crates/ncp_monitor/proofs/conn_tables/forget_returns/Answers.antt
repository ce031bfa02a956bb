use Rattle.std.proofs.Common.{not, rules}
use Rattle.std.proofs.lemmas.Fn.{filter_same}
use Rattle.ncp_monitor.specs.ConnStates.{is_return}
use Rattle.ncp_monitor.proofs.conn_tables.forget_returns.Goals as goal

pub returns-clause-items : goal.returns-clause-items
returns-clause-items c = filter_same _ (λ due. not (is_return c.args.at c.args.peer c.args.host c.args.link due)) _ (λ due r f k. search rules) _ _ c.retain.ensures.filtered
