use Rattle.ncp_subnet.specs.declared.transit.Transit.TheVariants.{Free, Accepted, Delivered}
use Rattle.ncp_transcript_many.specs.declared.many_event.ManyEvent.TheVariants as events
use Rattle.ncp_world.specs.ManyKind.{many_kind}
use Rattle.ncp_world.proofs.Order.{going-by, none-going, many-sends, many-goes, many-goes-next, many-other, many-none}
use Rattle.ncp_world.proofs.laws.the_next_event_of_many_is_so.Goals as goal

pub returns-clause-first : goal.returns-clause-first
returns-clause-first c m named e = many-sends m 3 1 2 named e

pub returns-clause-to_first : goal.returns-clause-to_first
returns-clause-to_first c m link message named e lowest has = many-goes m 3 1 2 named (events.Deliver 3 1 link) e (going-by many_kind 3 1 m link (Accepted message) lowest has)

pub returns-clause-to_second : goal.returns-clause-to_second
returns-clause-to_second c m link named e none lowest has = many-goes-next m 3 1 2 named (events.Answer 3 2 link) e (none-going many_kind 3 1 m none) (going-by many_kind 3 2 m link Delivered lowest has)

pub returns-clause-wakes : goal.returns-clause-wakes
returns-clause-wakes c m link named e lowest has = many-goes m 3 1 2 named (many_kind.wake 3 1 m) e (going-by many_kind 3 1 m link Free lowest has)

pub returns-clause-other : goal.returns-clause-other
returns-clause-other c m named e f g h = many-other m 3 1 2 named e (none-going many_kind 3 1 m f) (none-going many_kind 3 2 m g) h

pub returns-clause-none : goal.returns-clause-none
returns-clause-none c m named e f g h i j k l n =
    many-none m 3 1 2 named e (none-going many_kind 3 1 m f) (none-going many_kind 3 2 m g)
    h (none-going many_kind 1 3 m i) (none-going many_kind 1 2 m j)
    k (none-going many_kind 2 3 m l) (none-going many_kind 2 1 m n)
