use Rattle.ncp_results.proofs.EachLink.{all_acknowledged, nothing_told, none_unanswered, all_sent}
use Rattle.ncp_results.proofs.laws.when_nothing_is_unacknowledged.Goals as goal

pub returns-clause-nothing : goal.returns-clause-nothing
returns-clause-nothing c number h s known = (all_acknowledged number h s known, nothing_told number h s known)

pub returns-clause-unanswered : goal.returns-clause-unanswered
returns-clause-unanswered c = none_unanswered

pub returns-clause-converse : goal.returns-clause-converse
returns-clause-converse c = all_sent
