-- A number is printed as a number.
use Rattle.ncp_play_explain.proofs.arguments.wrong_argument.Goals as goal

pub returns-in-Number : goal.returns-in-Number
returns-in-Number c = rw (c.in-Number.is, c.in-Some.is) c.wrong_number.ensures
