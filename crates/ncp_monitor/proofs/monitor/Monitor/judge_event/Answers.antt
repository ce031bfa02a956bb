use Rattle.std.proofs.Common.{◌∙◌}
use Rattle.ncp_monitor.proofs.Events.{out_after, out_found, in_after, in_found}
use Rattle.ncp_monitor.proofs.monitor.Monitor.judge_event.Goals as goal

pub returns-in-Out-clause-after : goal.returns-in-Out-clause-after
returns-in-Out-clause-after c = rw c.in-Out.is (
    c.judge_message.ensures.after
    ∙ out_after c.args.self.now c.judge_out-fresh.new.self c.args.passing.at c.in-Out.peer c.in-Out.link c.args.message.now c.turn_at-context.result c.judge_out-fresh.result
    c.judge_out-fresh.ensures.after c.turn_at-context.ensures c.judge_out-fresh.ensures.fresh)

pub returns-in-Out-clause-found : goal.returns-in-Out-clause-found
returns-in-Out-clause-found c = rw c.in-Out.is (
    out_found c.args.self.now c.judge_out-fresh.new.self c.args.passing.way c.args.passing.at c.in-Out.peer c.in-Out.link c.args.message.now c.turn_at-context.result c.judge_out-fresh.result
    c.args.found.now c.judge_out-fresh.new.found c.judge_message.new.found
    c.judge_out-fresh.ensures.after c.turn_at-context.ensures c.judge_out-fresh.ensures.fresh c.requires c.judge_out-fresh.ensures.found c.judge_message.ensures.found)

pub returns-in-In-clause-after : goal.returns-in-In-clause-after
returns-in-In-clause-after c = rw c.in-In.is (
    c.judge_message-in-In.ensures.after
    ∙ in_after c.args.self.now c.judge_in.new.self c.args.passing.at c.in-In.peer c.in-In.link c.args.message.now c.turn_at-context-in-In.result c.judge_in.ensures.after c.turn_at-context-in-In.ensures)

pub returns-in-In-clause-found : goal.returns-in-In-clause-found
returns-in-In-clause-found c = rw c.in-In.is (
    in_found c.args.self.now c.judge_in.new.self c.args.passing.way c.args.passing.at c.in-In.peer c.in-In.link c.args.message.now c.turn_at-context-in-In.result
    c.args.found.now c.judge_in.new.found c.judge_message-in-In.new.found
    c.judge_in.ensures.after c.turn_at-context-in-In.ensures c.requires c.judge_in.ensures.found c.judge_message-in-In.ensures.found)
