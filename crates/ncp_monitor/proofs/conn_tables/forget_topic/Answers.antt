use Rattle.std.proofs.Common.{not, rules}
use Rattle.std.proofs.lemmas.Fn.{filter_same}
use Rattle.ncp_monitor.specs.ConnStates.{is_topic}
use Rattle.ncp_monitor.proofs.conn_tables.forget_topic.Goals as goal

pub returns-clause-items : goal.returns-clause-items
returns-clause-items c = filter_same _ (λ one. not (is_topic c.args.at c.args.peer c.args.what one)) _ (λ one r f k. search rules) _ _ c.retain.ensures.filtered
