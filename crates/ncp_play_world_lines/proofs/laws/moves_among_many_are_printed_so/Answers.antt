use Rattle.std.proofs.Common.{refl}
use Rattle.std.specs.Fmt.{digits}
use Rattle.ncp_play_world_lines.proofs.laws.moves_among_many_are_printed_so.Goals as goal

pub returns-clause-deliver : goal.returns-clause-deliver
unfolding digits
returns-clause-deliver c = λ m. refl

pub returns-clause-lose : goal.returns-clause-lose
unfolding digits
returns-clause-lose c = refl

pub returns-clause-dead : goal.returns-clause-dead
unfolding digits
returns-clause-dead c = refl

pub returns-clause-answer : goal.returns-clause-answer
unfolding digits
returns-clause-answer c = refl

pub returns-clause-no_deliver : goal.returns-clause-no_deliver
unfolding digits
returns-clause-no_deliver c = refl

pub returns-clause-no_lose : goal.returns-clause-no_lose
unfolding digits
returns-clause-no_lose c = refl

pub returns-clause-no_dead : goal.returns-clause-no_dead
unfolding digits
returns-clause-no_dead c = refl

pub returns-clause-no_answer : goal.returns-clause-no_answer
unfolding digits
returns-clause-no_answer c = refl
