-- What is said of any table, of this one.
use Rattle.ncp_play_explain.proofs.script_words.script_word_meaning.Goals as goal

pub returns-clause-known : goal.returns-clause-known
returns-clause-known c = c.text_beside.ensures.known

pub returns-clause-unknown : goal.returns-clause-unknown
returns-clause-unknown c = c.text_beside.ensures.unknown
