use Rattle.std.proofs.Common.{refl}
use Rattle.std.specs.Fmt.{digits}
use Rattle.ncp_play_world.proofs.laws.ledgers_are_printed_so.Goals as goal

pub returns-clause-some : goal.returns-clause-some
unfolding digits
returns-clause-some c = refl

pub returns-clause-each : goal.returns-clause-each
unfolding digits
returns-clause-each c = refl

pub returns-clause-large : goal.returns-clause-large
unfolding digits
returns-clause-large c = refl
