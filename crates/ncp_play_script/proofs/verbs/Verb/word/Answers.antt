use Rattle.std.proofs.Common.{sym, ap}
use Rattle.ncp_play_script.specs.Verbs.{word_of_verb}
use Rattle.ncp_play_script.proofs.verbs.Verb.word.Goals as goal

pub returns-in-Echo : goal.returns-in-Echo
returns-in-Echo c = ap word_of_verb (sym c.in-Echo.is)
