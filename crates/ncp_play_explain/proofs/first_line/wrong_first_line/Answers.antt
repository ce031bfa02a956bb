-- A line of no bytes has no wrong spaces, and one of signs is text.
use Rattle.std.proofs.Common.{sym, ◌∙◌}
use Rattle.ncp_play_explain.proofs.Spelled.{empty_is_spaced}
use Rattle.ncp_play_explain.proofs.first_line.wrong_first_line.Goals as goal

pub returns-then-is_empty-clause-spaces : goal.returns-then-is_empty-clause-spaces
returns-then-is_empty-clause-spaces c = λ _ _ _ wide. absurd (wide (empty_is_spaced c.args.first.now (sym c.is_empty.ensures ∙ c.if-is_empty.true)))

pub returns-in-Ok-clause-hosts : goal.returns-in-Ok-clause-hosts
returns-in-Ok-clause-hosts c = λ _ _ _. rw c.in-Ok.ensures.cases.0 at c.wrong_words.ensures.hosts

pub returns-in-Ok-clause-head : goal.returns-in-Ok-clause-head
returns-in-Ok-clause-head c = λ _ _ _. rw c.in-Ok.ensures.cases.0 at c.wrong_words.ensures.head
