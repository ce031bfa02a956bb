use Rattle.std.proofs.Common.{refl}
use Rattle.ncp_transcript_two.proofs.Alike.{delivers-alike, loses-alike, dies-alike, answers-alike}
use Rattle.ncp_transcript_two.proofs.laws.subnets_move_alike.Goals as goal

pub returns-clause-delivered : goal.returns-clause-delivered
returns-clause-delivered c on v = delivers-alike on v (v.going on) refl

pub returns-clause-lost : goal.returns-clause-lost
returns-clause-lost c on v = loses-alike on v (v.going on) refl

pub returns-clause-dead : goal.returns-clause-dead
returns-clause-dead c on v = dies-alike on v (v.going on) refl

pub returns-clause-answered : goal.returns-clause-answered
returns-clause-answered c on v = answers-alike on v (v.going on) refl
