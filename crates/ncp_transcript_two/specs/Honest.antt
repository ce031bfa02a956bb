-- The subnet, and the order on one link, as the notes of a run show them. These definitions use the notes
-- alone: no host, no slot and no subnet is named here.
use Rattle.std.specs.Prelude.{◌≡◌, ◌≤◌, ℕ, ◌==◌, Bool, true, false, List, [], ◌∷◌, ◌++◌, length}
use Rattle.ncp_wire.specs.declared.answer.Answer.{Answer}
use Rattle.ncp_wire.specs.declared.answer.Answer.TheVariants.{Rfnm, Incomplete, Dead}
use Rattle.ncp_proof_machine.specs.Resets.{Party, This, That}
use Rattle.ncp_transcript_two.specs.Subnet.{link_in, from_host}
use Rattle.ncp_transcript_two.specs.World.{NoteBody, Called, Out, In, Went_lost, Went_dead, Answered, Nothing, WorldNote}

-- the message event that a note shows for one side and one link
pub data MessageEvent : Type 0 where
  Sent : (m : List Bool) → MessageEvent
  Arrives : (m : List Bool) → MessageEvent
  Acked : MessageEvent
  Nacked : MessageEvent
  Other : MessageEvent

abbrev pub answer_event : Answer → MessageEvent
answer_event Rfnm = Acked
answer_event Incomplete = Nacked
answer_event Dead = Nacked

abbrev pub if_on : Bool → MessageEvent → MessageEvent
if_on true d = d
if_on false d = Other

abbrev pub message_event_of_body : ℕ → NoteBody → MessageEvent
message_event_of_body on (Called asked reply) = Other
message_event_of_body on (Out m) = if_on (link_in m == on) (Sent m)
message_event_of_body on (In k m r) = if_on (k == on) (Arrives m)
message_event_of_body on (Went_lost k) = Other
message_event_of_body on (Went_dead k) = Other
message_event_of_body on (Answered k how r) = if_on (k == on) (answer_event how)
message_event_of_body on Nothing = Other

abbrev pub is_side : Party → Party → Bool
is_side This This = true
is_side That That = true
is_side a b = false

abbrev pub message_event_in : Party → ℕ → WorldNote → MessageEvent
message_event_in side on n = if_on (is_side side n.side) (message_event_of_body on n.told)

abbrev pub message_events_in : Party → ℕ → List WorldNote → List MessageEvent
message_events_in side on [] = []
message_events_in side on (n ∷ ns) = message_event_in side on n ∷ message_events_in side on ns

-- An honest subnet: exactly one answer follows each message sent, before the next one. A message answered
-- by RFNM was delivered once before, as from the host with this number; one answered by Incomplete
-- Transmission or Destination Dead was not delivered. The last message sent may still be unanswered,
-- delivered or not.

pub data InFlight : Type 0 where
  Clear : InFlight  -- the last message was answered, or none was sent
  Flying : (m : List Bool) → InFlight
  Landed : InFlight

-- an honest subnet, from a state of one link of the host with this number on
abbrev pub HonestFrom : ℕ → InFlight → List MessageEvent → Type 0
HonestFrom number p [] = Unit {0}
HonestFrom number p (Other ∷ ds) = HonestFrom number p ds
HonestFrom number Clear (Sent m ∷ ds) = HonestFrom number (Flying m) ds
HonestFrom number (Flying m) (Arrives n ∷ ds) = (n ≡ from_host number m) × HonestFrom number Landed ds
HonestFrom number (Flying m) (Nacked ∷ ds) = HonestFrom number Clear ds
HonestFrom number Landed (Acked ∷ ds) = HonestFrom number Clear ds
HonestFrom number p (d ∷ ds) = ⊥

abbrev pub number_of_side : ℕ → ℕ → Party → ℕ
number_of_side here there This = here
number_of_side here there That = there

-- `here` and `there` are the numbers of this host and of that one
abbrev pub IsHonest : ℕ → ℕ → List WorldNote → Type 0
IsHonest here there notes = (side : Party) (on : ℕ) → HonestFrom (number_of_side here there side) Clear (message_events_in side on notes)

-- A sent message is fresh if no answer precedes it, or the last answer was RFNM. The messages sent are
-- the fresh ones, in the form in which they arrive; any other repeats the previous one.

abbrev pub sent_from : ℕ → Bool → List MessageEvent → List (List Bool)
sent_from number fresh [] = []
sent_from number true (Sent m ∷ ds) = from_host number m ∷ sent_from number true ds
sent_from number false (Sent m ∷ ds) = sent_from number false ds
sent_from number fresh (Acked ∷ ds) = sent_from number true ds
sent_from number fresh (Nacked ∷ ds) = sent_from number false ds
sent_from number fresh (Arrives m ∷ ds) = sent_from number fresh ds
sent_from number fresh (Other ∷ ds) = sent_from number fresh ds

abbrev pub sent : ℕ → Party → ℕ → List WorldNote → List (List Bool)
sent number side on notes = sent_from number true (message_events_in side on notes)

abbrev pub messages_coming : List MessageEvent → List (List Bool)
messages_coming [] = []
messages_coming (Arrives m ∷ ds) = m ∷ messages_coming ds
messages_coming (d ∷ ds) = messages_coming ds

abbrev pub came : Party → ℕ → List WorldNote → List (List Bool)
came side on notes = messages_coming (message_events_in side on notes)

-- a message that is not fresh equals the previous one
abbrev pub RepeatsFrom : List Bool → Bool → List MessageEvent → Type 0
RepeatsFrom last fresh [] = Unit {0}
RepeatsFrom last true (Sent m ∷ ds) = RepeatsFrom m true ds
RepeatsFrom last false (Sent m ∷ ds) = (m ≡ last) × RepeatsFrom last false ds
RepeatsFrom last fresh (Acked ∷ ds) = RepeatsFrom last true ds
RepeatsFrom last fresh (Nacked ∷ ds) = RepeatsFrom last false ds
RepeatsFrom last fresh (Arrives m ∷ ds) = RepeatsFrom last fresh ds
RepeatsFrom last fresh (Other ∷ ds) = RepeatsFrom last fresh ds

abbrev pub Repeats : Party → ℕ → List WorldNote → Type 0
Repeats side on notes = RepeatsFrom [] true (message_events_in side on notes)

-- the first is a prefix of the second, shorter by at most `few`
abbrev pub IsPrefixWithin : ℕ → List (List Bool) → List (List Bool) → Type 0
IsPrefixWithin few xs ys = (rest : List (List Bool)) × (ys ≡ xs ++ rest) × (length rest ≤ few)
