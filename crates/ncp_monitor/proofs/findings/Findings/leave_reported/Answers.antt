use Rattle.std.proofs.Common.{rules, List, filter, ap, ◌∙◌}
use Rattle.ncp_monitor.specs.declared.finding.Finding.{Finding}
use Rattle.std.proofs.lemmas.Fn.{filter_same}
use Rattle.ncp_monitor.specs.Resets.{reports}
use Rattle.ncp_monitor.proofs.findings.Findings.leave_reported.Goals as goal

pub returns : goal.returns
returns c = filter_same _ (reports c.args.trust c.args.at) _ (λ x b f' k. search rules) _ _ c.retain.ensures.filtered ∙ ap (λ (found : List Finding). filter (reports c.args.trust c.args.at) found) c.self.view_is
