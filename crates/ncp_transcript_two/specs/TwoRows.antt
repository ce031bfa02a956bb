-- More notes of the examples.
use Rattle.std.specs.Prelude.{Bool, List, [], ◌∷◌}
use Rattle.ncp_wire.specs.declared.answer.Answer.{Answer}
use Rattle.ncp_model.specs.declared.outcomes.Took.TheVariants as took
use Rattle.ncp_proof_machine.specs.Resets.{This, That}
use Rattle.ncp_peer.specs.declared.received.Received.{Received}
use Rattle.ncp_peer.specs.declared.received.Received.TheVariants as received
use Rattle.ncp_transcript_two.specs.Subnet.{from_host}
use Rattle.ncp_transcript_two.specs.World.{In, Answered, WorldNote}
use Rattle.ncp_transcript_two.specs.Honest.{MessageEvent, Sent, Arrives, Acked, Nacked}
use Rattle.ncp_transcript_two.specs.ExampleNotes.{noted_at}

-- a message is lost, sent again, and acknowledged; then: one is acknowledged, and another is sent
abbrev pub lost_and_taken : List Bool → List MessageEvent
lost_and_taken m = Sent m ∷ Nacked ∷ Sent m ∷ Arrives (from_host 1 m) ∷ Acked ∷ []

abbrev pub one_taken : List Bool → List Bool → List MessageEvent
one_taken m n = Sent m ∷ Acked ∷ Sent n ∷ []

-- a message arrives at this host on link 2
abbrev pub comes_on_2 : List Bool → Received → List WorldNote
comes_on_2 m r = noted_at This (In 2 m r) ∷ []

-- this host reads a control message, and receives a late text; that host receives bits that are no
-- message, and an answer
abbrev pub read_here : List Bool → WorldNote
read_here m = noted_at This (In 0 m (received.Control 1))

abbrev pub late_here : List Bool → WorldNote
late_here m = noted_at This (In 2 m (received.Text took.Late))

abbrev pub short_there : List Bool → WorldNote
short_there n = noted_at That (In 2 n received.Short)

abbrev pub answered_there : Answer → WorldNote
answered_there how = noted_at That (Answered 2 how received.Answered)
