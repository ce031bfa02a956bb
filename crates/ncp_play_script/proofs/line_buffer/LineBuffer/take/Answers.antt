use Rattle.std.proofs.Common.{refl, sym, ◌∙◌}
use Rattle.ncp_play_script.proofs.line_buffer.LineBuffer.take.Goals as goal

pub returns-in-Some-clause-used : goal.returns-in-Some-clause-used
returns-in-Some-clause-used c = (c.in-Some.place, sym c.position_of.ensures ∙ c.in-Some.is, refl)
