use Rattle.std.proofs.Common.{ℕ, sym, ap, ◌∙◌}
use Rattle.ncp_wire.specs.declared.command.Command.{Command}
use Rattle.ncp_monitor.specs.Allocation.{after_allocation, after_ret, after_open}
use Rattle.ncp_monitor.proofs.allocation.after_open.Goals as goal

pub returns-in-All : goal.returns-in-All
returns-in-All c =
    c.after_all.ensures
    ∙ ap (λ (k : Command). after_allocation c.args.judge_context.flow k c.in-All.messages c.in-All.bits c.args.place c.args.conn_tables.now) c.in-All.is
    ∙ sym (ap (λ (k : Command). after_open c.args.judge_context.flow c.args.judge_context.kept.now k c.args.receive_link c.args.place c.args.conn_tables.now) c.in-All.is)

pub returns-in-Ret : goal.returns-in-Ret
returns-in-Ret c =
    c.after_ret.ensures
    ∙ ap (λ (n : ℕ). after_ret c.args.judge_context.flow c.args.command.now c.args.receive_link n c.in-Ret.bits c.args.place c.args.conn_tables.now) c.from.ensures
    ∙ ap (λ (k : Command). after_ret c.args.judge_context.flow k c.args.receive_link c.in-Ret.messages c.in-Ret.bits c.args.place c.args.conn_tables.now) c.in-Ret.is
    ∙ sym (ap (λ (k : Command). after_open c.args.judge_context.flow c.args.judge_context.kept.now k c.args.receive_link c.args.place c.args.conn_tables.now) c.in-Ret.is)
