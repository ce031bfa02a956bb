use Rattle.std.proofs.Common.{not, rules}
use Rattle.std.proofs.lemmas.Fn.{filter_same}
use Rattle.ncp_monitor.specs.Speaking.{is_admission}
use Rattle.ncp_monitor.proofs.conn_tables.forget_admissions.Goals as goal

pub returns-clause-items : goal.returns-clause-items
returns-clause-items c = filter_same _ (λ known_fact. not (is_admission c.args.at c.args.peer known_fact)) _ (λ known_fact r f k. search rules) _ _ c.retain.ensures.filtered
