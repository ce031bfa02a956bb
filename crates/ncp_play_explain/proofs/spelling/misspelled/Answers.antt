-- A line of signs is text.
use Rattle.ncp_play_explain.proofs.spelling.misspelled.Goals as goal

pub returns-clause-spaces : goal.returns-clause-spaces
returns-clause-spaces c = λ _. rw c.in-Ok.ensures.cases.0 at c.wrong_spaces.ensures.printed
