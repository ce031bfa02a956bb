use Rattle.std.proofs.Common.{sym, ap, ◌∙◌}
use Rattle.ncp_wire.specs.declared.command.Command.{Command}
use Rattle.ncp_model.specs.Effect.{answer}
use Rattle.ncp_model.specs.Ends.{hear, demux_command, map_after_at}
use Rattle.ncp_conn.proofs.table.Table.hear.Goals as goal

pub returns-in-Rts-clause-answer : goal.returns-in-Rts-clause-answer
returns-in-Rts-clause-answer g c = c.hear_rts.ensures.answer ∙ ap (λ (x : Command). answer (hear x c.args.self.now)) (sym c.in-Rts.is)

pub returns-in-Rts-clause-table : goal.returns-in-Rts-clause-table
returns-in-Rts-clause-table g c = c.hear_rts.ensures.table ∙ ap (λ (x : Command). map_after_at c.args.self.now (demux_command x c.args.self.now) (hear x c.args.self.now)) (sym c.in-Rts.is)

pub returns-in-Str-clause-answer : goal.returns-in-Str-clause-answer
returns-in-Str-clause-answer g c = c.hear_str.ensures.answer ∙ ap (λ (x : Command). answer (hear x c.args.self.now)) (sym c.in-Str.is)
