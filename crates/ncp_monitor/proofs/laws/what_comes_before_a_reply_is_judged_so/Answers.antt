use Rattle.std.proofs.Common.{refl}
use Rattle.ncp_monitor.proofs.laws.what_comes_before_a_reply_is_judged_so.Goals as goal

pub returns-clause-judged : goal.returns-clause-judged
returns-clause-judged c = refl

pub returns-clause-early : goal.returns-clause-early
returns-clause-early c = refl

pub returns-clause-known : goal.returns-clause-known
returns-clause-known c = refl

pub returns-clause-busy : goal.returns-clause-busy
returns-clause-busy c = refl

pub returns-clause-dropped : goal.returns-clause-dropped
returns-clause-dropped c = refl

pub returns-clause-awaits : goal.returns-clause-awaits
returns-clause-awaits c = refl

pub returns-clause-unacted : goal.returns-clause-unacted
returns-clause-unacted c = refl

pub returns-clause-text : goal.returns-clause-text
returns-clause-text c = refl

pub returns-clause-passing : goal.returns-clause-passing
returns-clause-passing c = refl

pub returns-clause-control : goal.returns-clause-control
returns-clause-control c = refl

pub returns-clause-unasked : goal.returns-clause-unasked
returns-clause-unasked c = refl

pub returns-clause-replied : goal.returns-clause-replied
returns-clause-replied c = refl

pub returns-clause-reset : goal.returns-clause-reset
returns-clause-reset c = refl

pub returns-clause-again : goal.returns-clause-again
returns-clause-again c = refl

pub returns-clause-down : goal.returns-clause-down
returns-clause-down c = refl

pub returns-clause-up : goal.returns-clause-up
returns-clause-up c = refl
