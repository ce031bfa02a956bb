use Rattle.std.proofs.Common.{refl}
use Rattle.ncp_monitor.proofs.laws.nobody_is_blamed_at_rest.Goals as goal

pub returns-clause-unasked : goal.returns-clause-unasked
returns-clause-unasked c = refl

pub returns-clause-passing : goal.returns-clause-passing
returns-clause-passing c = refl

pub returns-clause-following : goal.returns-clause-following
returns-clause-following c = refl

pub returns-clause-twice : goal.returns-clause-twice
returns-clause-twice c = refl

pub returns-clause-again : goal.returns-clause-again
returns-clause-again c = refl

pub returns-clause-copied : goal.returns-clause-copied
returns-clause-copied c = refl

pub returns-clause-queued : goal.returns-clause-queued
returns-clause-queued c = refl

pub returns-clause-answered : goal.returns-clause-answered
returns-clause-answered c = refl

pub returns-clause-text : goal.returns-clause-text
returns-clause-text c = refl

pub returns-clause-control : goal.returns-clause-control
returns-clause-control c = refl

pub returns-clause-room : goal.returns-clause-room
returns-clause-room c = refl
