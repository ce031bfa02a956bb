-- The properties of every link, over any list of events.
use Rattle.std.specs.Prelude.{◌≡◌, ◌≤◌, Bool, false, ◌||◌, List, [], ◌∷◌, ◌++◌, ◌⊎◌, length, Option, is_none, if◌then◌else◌}
use Rattle.ncp_slot.specs.declared.slot.Slot.TheVariants.{Empty, Ready, Travelling, Held}
use Rattle.ncp_wire.specs.declared.answer.Answer.{Answer}
use Rattle.ncp_wire.specs.declared.answer.Answer.TheVariants.{Incomplete, Dead}
use Rattle.ncp_slot.specs.declared.laws.LinkEvent.{LinkEvent}
use Rattle.ncp_slot.specs.declared.laws.LinkEvent.TheVariants as event
use Rattle.ncp_slot.specs.declared.laws.LinkNote.{LinkNote}
use Rattle.ncp_slot.specs.declared.laws.LinkNote.TheVariants as note
use Rattle.ncp_slot.specs.Slots.{LinkSlot}
use Rattle.ncp_slot.specs.Deeds.{LinkHistory, Deed, HandedOut, deeds_in, accepted_in, handed_in, answers_in, all_answered, is_out, is_held_back, fresh_in, last_accepted}

-- a note of an event's kind
abbrev pub IsNoteOf : LinkEvent → LinkNote → Type 0
IsNoteOf (event.Put message) (note.Put accepted) = Unit {0}
IsNoteOf event.Hand (note.Handed message) = Unit {0}
IsNoteOf (event.Answer answer) (note.Answered accepted) = Unit {0}
IsNoteOf event.Wake note.Woken = Unit {0}
IsNoteOf happened told = ⊥

-- one note for each event, of its kind
abbrev pub AreNotesOf : List LinkEvent → List LinkNote → Type 0
AreNotesOf [] [] = Unit {0}
AreNotesOf (happened ∷ events) (told ∷ notes) = IsNoteOf happened told × AreNotesOf events notes
AreNotesOf events notes = ⊥

-- exactly one answer is accepted between two consecutive messages handed out
abbrev pub OneAnswerBetween : List Deed → Type 0
OneAnswerBetween deeds =
    (earlier between later : List Deed) (message next : List Bool)
    → deeds ≡ earlier ++ HandedOut message ∷ (between ++ HandedOut next ∷ later)
    → handed_in between ≡ [] → length (answers_in between) ≡ 1

-- a message handed out after Incomplete or Dead equals the previous one
abbrev pub SameAfterFailure : List Deed → Type 0
SameAfterFailure deeds =
    (earlier between later : List Deed) (message next : List Bool)
    → deeds ≡ earlier ++ HandedOut message ∷ (between ++ HandedOut next ∷ later)
    → handed_in between ≡ []
    → (answers_in between ≡ Incomplete ∷ []) ⊎ (answers_in between ≡ Dead ∷ []) → next ≡ message

-- the messages handed out for the first time are, in order, a prefix of the accepted ones, shorter by at
-- most one
abbrev pub OthersInOrder : List Deed → Type 0
OthersInOrder deeds =
    (rest : List (List Bool)) × (accepted_in deeds ≡ fresh_in false deeds ++ rest) × (length rest ≤ 1)

-- directly after a prefix of the history, an event got this note
abbrev pub Happens : LinkHistory → LinkHistory → LinkEvent → LinkNote → Type 0
Happens history before happened told = (after : LinkHistory) × (history ≡ before ++ (happened, told) ∷ after)

-- a Put is accepted exactly when each message accepted before was answered by an RFNM
abbrev pub PutsTold : LinkHistory → Type 0
PutsTold history =
    (before : LinkHistory) (message : List Bool) (accepted : Bool)
    → Happens history before (event.Put message) (note.Put accepted)
    → accepted ≡ all_answered (deeds_in before)

-- an Answer is accepted exactly when a message was handed out and no answer was accepted since
abbrev pub AnswersTold : LinkHistory → Type 0
AnswersTold history =
    (before : LinkHistory) (answer : Answer) (accepted : Bool)
    → Happens history before (event.Answer answer) (note.Answered accepted)
    → accepted ≡ is_out (deeds_in before)

-- a Hand returns None exactly in three cases: a message is unanswered; the last accepted answer was Dead,
-- with no Wake since; each message accepted before was answered by an RFNM
abbrev pub HandsTold : LinkHistory → Type 0
HandsTold history =
    (before : LinkHistory) (message : Option (List Bool))
    → Happens history before event.Hand (note.Handed message)
    → is_none message ≡ (is_out (deeds_in before) || is_held_back (deeds_in before) || all_answered (deeds_in before))

-- the slot of the link after these effects
abbrev pub slot_told : List Deed → LinkSlot
slot_told deeds =
    if all_answered deeds then Empty
    else if is_out deeds then Travelling (last_accepted deeds)
    else if is_held_back deeds then Held (last_accepted deeds)
    else Ready (last_accepted deeds)
