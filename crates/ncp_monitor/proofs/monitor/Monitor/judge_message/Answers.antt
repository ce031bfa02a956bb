use Rattle.std.proofs.Common.{Result, option_map, refl, ap, ◌∙◌}
use Rattle.ncp_leader.specs.declared.fault.MessageFault.{MessageFault}
use Rattle.ncp_leader.specs.Message.{Message}
use Rattle.ncp_monitor.specs.Phases.{broken_by}
use Rattle.ncp_monitor.specs.Messages.{judged_bits, rule_of_message}
use Rattle.ncp_monitor.proofs.Events.{message_said}
use Rattle.ncp_monitor.proofs.monitor.Monitor.judge_message.Goals as goal

pub returns-in-Ok-clause-found : goal.returns-in-Ok-clause-found
returns-in-Ok-clause-found c =
    message_said c.args.self.now c.args.heard.line.at c.args.heard.line.peer c.args.heard.line.link c.judged_bits-len.result c.args.heard.context c.args.heard.fresh c.args.message.now c.read_regular-read.result c.in-Ok.regular
    c.args.found.now c.judge_alone.new.found c.judge_regular.new.found (option_map (broken_by c.args.heard.context) (rule_of_message c.read_regular-read.result c.args.heard.line.link c.judged_bits-len.result))
    refl c.read_regular-read.ensures.exact (c.judged_bits-len.ensures.bits ∙ ap (λ (r : Result Message MessageFault). judged_bits r c.args.message.now) c.read_regular-read.ensures.exact) c.in-Ok.is c.judge_alone.ensures.found c.judge_regular.ensures.found
