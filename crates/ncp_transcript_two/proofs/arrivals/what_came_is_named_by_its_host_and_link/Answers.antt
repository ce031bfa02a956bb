use Rattle.std.proofs.Common.{refl}
use Rattle.ncp_transcript_two.proofs.arrivals.what_came_is_named_by_its_host_and_link.Goals as goal

pub returns-clause-answer : goal.returns-clause-answer
returns-clause-answer c how r = (how, r, refl)

pub returns-clause-message : goal.returns-clause-message
returns-clause-message c m r h l = (m, r, refl, h, l)
