-- In one table, in the other, or in none.
use Rattle.std.proofs.Common.{◌≡◌}
use Rattle.std.proofs.lemmas.List.Elements.{Contains-append_left}
use Rattle.ncp_play_explain.specs.Printed.{message_words, other_words}
use Rattle.ncp_play_explain.proofs.Found.{found_after, found_nowhere}
use Rattle.ncp_play_explain.proofs.printed.word_meaning.Goals as goal

pub returns-in-Some-clause-known : goal.returns-in-Some-clause-known
returns-in-Some-clause-known c = Contains-append_left message_words other_words (c.args.word.now, c.in-Some.text.now) c.in-Some.ensures.known

pub returns-in-None-clause-known : goal.returns-in-None-clause-known
returns-in-None-clause-known c = found_after (λ text. (c.args.word.now, text.now)) message_words other_words c.other_word_meaning.result c.other_word_meaning.ensures.known

pub returns-in-None-clause-unknown : goal.returns-in-None-clause-unknown
returns-in-None-clause-unknown c =
    found_nowhere (λ entry. entry.0 ≡ c.args.word.now → ⊥) message_words other_words c.other_word_meaning.result c.in-None.ensures.unknown c.other_word_meaning.ensures.unknown
