-- The history of one link, read from the events that were given and their notes. It does not mention
-- slots.
use Rattle.std.specs.Prelude.{Bool, true, false, not, ◌&&◌, ◌||◌, List, [], ◌∷◌, Option, Some, None, unwrap_or, if◌then◌else◌}
use Rattle.std.specs.List.{zip, filter_map, list_any, last_or}
use Rattle.ncp_wire.specs.declared.answer.Answer.{Answer}
use Rattle.ncp_wire.specs.declared.answer.Answer.TheVariants.{Rfnm, Incomplete, Dead}
use Rattle.ncp_slot.specs.declared.laws.LinkEvent.{LinkEvent}
use Rattle.ncp_slot.specs.declared.laws.LinkEvent.TheVariants as event
use Rattle.ncp_slot.specs.declared.laws.LinkNote.{LinkNote}
use Rattle.ncp_slot.specs.declared.laws.LinkNote.TheVariants as note

-- events, each with its note
abbrev pub LinkHistory : Type 0
LinkHistory = List (LinkEvent × LinkNote)

abbrev pub history_of : List LinkEvent → List LinkNote → LinkHistory
history_of events notes = zip events notes

-- an effect on the link
pub data Deed : Type 0 where
  Accepted : List Bool → Deed  -- a message was accepted by Put
  HandedOut : List Bool → Deed  -- a message was handed out
  Answered : Answer → Deed  -- an answer was accepted
  Woken : Deed  -- there was a Wake

-- the effect of an event, if it had one
abbrev pub deed_of : LinkEvent × LinkNote → Option Deed
deed_of (event.Put message, note.Put true) = Some (Accepted message)
deed_of (event.Hand, note.Handed (Some message)) = Some (HandedOut message)
deed_of (event.Answer answer, note.Answered true) = Some (Answered answer)
deed_of (event.Wake, note.Woken) = Some Woken
deed_of happened = None

abbrev pub deeds_in : LinkHistory → List Deed
deeds_in history = filter_map deed_of history

abbrev pub deeds_of : List LinkEvent → List LinkNote → List Deed
deeds_of events notes = deeds_in (history_of events notes)

-- the messages accepted by Put
abbrev pub accepted_in : List Deed → List (List Bool)
accepted_in [] = []
accepted_in (Accepted message ∷ deeds) = message ∷ accepted_in deeds
accepted_in (HandedOut message ∷ deeds) = accepted_in deeds
accepted_in (Answered answer ∷ deeds) = accepted_in deeds
accepted_in (Woken ∷ deeds) = accepted_in deeds

-- the messages handed out
abbrev pub handed_in : List Deed → List (List Bool)
handed_in [] = []
handed_in (Accepted message ∷ deeds) = handed_in deeds
handed_in (HandedOut message ∷ deeds) = message ∷ handed_in deeds
handed_in (Answered answer ∷ deeds) = handed_in deeds
handed_in (Woken ∷ deeds) = handed_in deeds

-- the accepted answers
abbrev pub answers_in : List Deed → List Answer
answers_in [] = []
answers_in (Accepted message ∷ deeds) = answers_in deeds
answers_in (HandedOut message ∷ deeds) = answers_in deeds
answers_in (Answered answer ∷ deeds) = answer ∷ answers_in deeds
answers_in (Woken ∷ deeds) = answers_in deeds

abbrev pub is_rfnm : Answer → Bool
is_rfnm Rfnm = true
is_rfnm Incomplete = false
is_rfnm Dead = false

abbrev pub is_dead : Answer → Bool
is_dead Rfnm = false
is_dead Incomplete = false
is_dead Dead = true

abbrev pub has_rfnm : List Deed → Bool
has_rfnm deeds = list_any is_rfnm (answers_in deeds)

abbrev pub has_answer : List Deed → Bool
has_answer deeds = list_any (λ answer. true) (answers_in deeds)

-- each accepted message is followed by an RFNM
abbrev pub all_answered : List Deed → Bool
all_answered [] = true
all_answered (Accepted message ∷ deeds) = has_rfnm deeds && all_answered deeds
all_answered (HandedOut message ∷ deeds) = all_answered deeds
all_answered (Answered answer ∷ deeds) = all_answered deeds
all_answered (Woken ∷ deeds) = all_answered deeds

-- a message was handed out, and no answer accepted since
abbrev pub is_out : List Deed → Bool
is_out [] = false
is_out (Accepted message ∷ deeds) = is_out deeds
is_out (HandedOut message ∷ deeds) = not (has_answer deeds) || is_out deeds
is_out (Answered answer ∷ deeds) = is_out deeds
is_out (Woken ∷ deeds) = is_out deeds

-- there was a Wake
abbrev pub has_wake : List Deed → Bool
has_wake [] = false
has_wake (Accepted message ∷ deeds) = has_wake deeds
has_wake (HandedOut message ∷ deeds) = has_wake deeds
has_wake (Answered answer ∷ deeds) = has_wake deeds
has_wake (Woken ∷ deeds) = true

-- the last accepted answer was Dead, with no Wake since
abbrev pub is_held_back : List Deed → Bool
is_held_back [] = false
is_held_back (Accepted message ∷ deeds) = is_held_back deeds
is_held_back (HandedOut message ∷ deeds) = is_held_back deeds
is_held_back (Answered answer ∷ deeds) = is_dead answer && not (has_answer deeds || has_wake deeds) || is_held_back deeds
is_held_back (Woken ∷ deeds) = is_held_back deeds

-- the messages handed out for the first time: when no answer was accepted before, or the last one was an
-- RFNM. `again`: whether the last answer before these effects was another one
abbrev pub fresh_in : Bool → List Deed → List (List Bool)
fresh_in again [] = []
fresh_in again (Accepted message ∷ deeds) = fresh_in again deeds
fresh_in again (HandedOut message ∷ deeds) = if again then fresh_in again deeds else message ∷ fresh_in again deeds
fresh_in again (Answered answer ∷ deeds) = fresh_in (not (is_rfnm answer)) deeds
fresh_in again (Woken ∷ deeds) = fresh_in again deeds

-- the last accepted message
abbrev pub last_accepted : List Deed → List Bool
last_accepted deeds = unwrap_or (last_or None (accepted_in deeds)) []
