-- Impossible events in a network of two to eight hosts, for which `Nothing` is noted.
use Rattle.ncp_subnet.specs.Subnet.{transit_at}
use Rattle.ncp_transcript_two.specs.declared.note.Move.TheVariants as moves
use Rattle.ncp_transcript_two.specs.Impossible.{IsImpossible}
use Rattle.ncp_transcript_many.specs.declared.many_event.ManyEvent.{ManyEvent}
use Rattle.ncp_transcript_many.specs.declared.many_event.ManyEvent.TheVariants as events
use Rattle.ncp_transcript_many.specs.Network.{Network}

-- the event is impossible for the message of a link. A call and an output of a host that is present are
-- always possible.
abbrev pub CannotHappen : ManyEvent → Network → Type 0
CannotHappen (events.Call host call) m = ⊥
CannotHappen (events.Out host) m = ⊥
CannotHappen (events.Deliver from to link) m = IsImpossible moves.Deliver (transit_at m.subnet from to link)
CannotHappen (events.Lose from to link) m = IsImpossible moves.Lose (transit_at m.subnet from to link)
CannotHappen (events.Dead from to link) m = IsImpossible moves.Dead (transit_at m.subnet from to link)
CannotHappen (events.Answer from to link) m = IsImpossible moves.Answer (transit_at m.subnet from to link)
