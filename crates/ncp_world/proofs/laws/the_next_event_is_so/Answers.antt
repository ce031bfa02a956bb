use Rattle.std.proofs.Common.{refl}
use Rattle.ncp_subnet.specs.declared.transit.Transit.TheVariants.{Free, Accepted, Delivered, Lost, Dead}
use Rattle.ncp_transcript_two.specs.declared.side.Side.TheVariants.{A, B}
use Rattle.ncp_transcript_two.specs.declared.event.Event.TheVariants as events
use Rattle.ncp_world.specs.Lowest.{first_passing}
use Rattle.ncp_world.specs.TwoKind.{two_kind}
use Rattle.ncp_world.proofs.Order.{going-by, none-going, two-sends, two-goes, two-other, two-none}
use Rattle.ncp_world.proofs.laws.the_next_event_is_so.Goals as goal

pub returns-clause-sends : goal.returns-clause-sends
returns-clause-sends c w e = two-sends w e

pub returns-clause-delivers : goal.returns-clause-delivers
returns-clause-delivers c w link message e lowest has = two-goes w (events.Deliver A link) e (going-by two_kind A B w link (Accepted message) lowest has)

pub returns-clause-answers : goal.returns-clause-answers
returns-clause-answers c w link e lowest has = two-goes w (events.Answer A link) e (going-by two_kind A B w link Delivered lowest has)

pub returns-clause-lost : goal.returns-clause-lost
returns-clause-lost c w link e lowest has = two-goes w (events.Answer A link) e (going-by two_kind A B w link Lost lowest has)

pub returns-clause-dead : goal.returns-clause-dead
returns-clause-dead c w link e lowest has = two-goes w (events.Answer A link) e (going-by two_kind A B w link Dead lowest has)

pub returns-clause-wakes : goal.returns-clause-wakes
returns-clause-wakes c w link e lowest has = two-goes w (two_kind.wake A B w) e (going-by two_kind A B w link Free lowest has)

pub returns-clause-other : goal.returns-clause-other
returns-clause-other c w e f g = two-other w e (none-going two_kind A B w f) g

pub returns-clause-none : goal.returns-clause-none
returns-clause-none c w e f g h = two-none w e (none-going two_kind A B w f) g (none-going two_kind B A w h)

pub returns-clause-lowest : goal.returns-clause-lowest
unfolding first_passing
returns-clause-lowest c = refl
