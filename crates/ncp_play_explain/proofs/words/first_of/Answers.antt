-- The first word stands before the first space.
use Rattle.std.proofs.Common.{◌==◌, [], unwrap_or, ap, ◌∙◌}
use Rattle.std.specs.List.{slice_get}
use Rattle.ncp_play_explain.proofs.FirstWords.{first_split}
use Rattle.ncp_play_explain.proofs.words.first_of.Goals as goal

pub returns-in-Some-clause-line : goal.returns-in-Some-clause-line
returns-in-Some-clause-line c = λ line same. ap (λ o. unwrap_or o []) (c.in-Some.ensures ∙ ap (λ words. slice_get words 0) same ∙ first_split (λ byte. byte == 32) line)
