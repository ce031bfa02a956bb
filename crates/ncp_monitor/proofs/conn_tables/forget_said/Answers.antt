use Rattle.std.proofs.Common.{not, true, rules}
use Rattle.std.proofs.lemmas.Fn.{filter_same}
use Rattle.ncp_monitor.specs.Replies.{is_due_of}
use Rattle.ncp_monitor.proofs.conn_tables.forget_said.Goals as goal

pub returns-clause-items : goal.returns-clause-items
returns-clause-items c = filter_same _ (λ due. not (is_due_of c.args.at c.args.peer true due)) _ (λ due r f k. search rules) _ _ c.retain.ensures.filtered
