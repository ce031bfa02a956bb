-- By comparing each two.
use Rattle.std.proofs.Common.{refl}
use Rattle.ncp_play_explain.proofs.Apart.{pairs_distinct}
use Rattle.ncp_play_audit.specs.Rules.{rules_reported}
use Rattle.ncp_play_audit.proofs.rules.each_rule_has_one_meaning.Goals as goal

pub returns : goal.returns
returns c = pairs_distinct rules_reported refl
