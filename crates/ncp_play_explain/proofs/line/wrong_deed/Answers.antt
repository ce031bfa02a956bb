-- The words after the verb.
use Rattle.ncp_play_explain.proofs.line.wrong_deed.Goals as goal

pub returns-in-Some : goal.returns-in-Some
returns-in-Some c = rw (← c.in-Some.ensures) (rw c.words_after.ensures at c.wrong_verb.ensures)
