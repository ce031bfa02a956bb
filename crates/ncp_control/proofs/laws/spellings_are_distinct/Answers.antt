use Rattle.ncp_control.proofs.Reading.{one_spelling, spelling_takes, spelling_short, spelling_small, spellings_small}
use Rattle.ncp_control.proofs.laws.spellings_are_distinct.Goals as goal

pub returns-clause-pairwise_distinct : goal.returns-clause-pairwise_distinct
returns-clause-pairwise_distinct c = λ one other more rest a b is. (one_spelling one other more rest a b is).0

pub returns-clause-distinct_after : goal.returns-clause-distinct_after
returns-clause-distinct_after c = λ one other more rest a b is. (one_spelling one other more rest a b is).1

pub returns-clause-some : goal.returns-clause-some
returns-clause-some c = spelling_takes

pub returns-clause-short : goal.returns-clause-short
returns-clause-short c = spelling_short

pub returns-clause-bytes : goal.returns-clause-bytes
returns-clause-bytes c = spelling_small

pub returns-clause-joined : goal.returns-clause-joined
returns-clause-joined c = spellings_small
