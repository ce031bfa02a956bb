use Rattle.std.proofs.Common.{not, rules}
use Rattle.std.proofs.lemmas.Fn.{filter_same}
use Rattle.ncp_monitor.specs.ConnStates.{is_fact_between}
use Rattle.ncp_monitor.proofs.conn_tables.forget_facts.Goals as goal

pub returns-clause-items : goal.returns-clause-items
returns-clause-items c = filter_same _ (λ known_fact. not (is_fact_between c.args.at c.args.peer known_fact)) _ (λ known_fact r f k. search rules) _ _ c.retain.ensures.filtered
