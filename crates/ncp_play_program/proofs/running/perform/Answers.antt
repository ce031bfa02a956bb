use Rattle.std.proofs.Common.{inr, refl, rules}
use Rattle.ncp_play_program.proofs.running.perform.Goals as goal

pub returns-in-Err : goal.returns-in-Err
returns-in-Err g c = record { ended = inr (c.in-Err.error, c.in-Err.ensures.kinds, search rules, refl) }
