-- Runs of one slot: the notes and the last slot of a list of events.
use Rattle.std.proofs.Common.{◌≡◌, List, [], ◌∷◌, ◌++◌, refl, sym, ap, subst}
use Rattle.std.specs.List.{cons_option}
use Rattle.ncp_slot.specs.declared.slot.Slot.TheVariants.{Empty, Ready, Travelling, Held}
use Rattle.ncp_wire.specs.declared.answer.Answer.TheVariants.{Rfnm, Incomplete, Dead}
use Rattle.ncp_slot.specs.declared.laws.LinkEvent.{LinkEvent}
use Rattle.ncp_slot.specs.declared.laws.LinkEvent.TheVariants as event
use Rattle.ncp_slot.specs.declared.laws.LinkNote.{LinkNote}
use Rattle.ncp_slot.specs.Slot.{woken}
use Rattle.ncp_slot.specs.Slots.{LinkSlot}
use Rattle.ncp_slot.specs.Steps.{slot_after, note_at}
use Rattle.ncp_slot.specs.Deeds.{LinkHistory, history_of, Deed, Accepted, HandedOut, Answered, Woken, deed_of, deeds_in, deeds_of}
use Rattle.ncp_slot.specs.Laws.{AreNotesOf, IsNoteOf, Happens}

abbrev pub slot_from : LinkSlot → List LinkEvent → LinkSlot
slot_from slot [] = slot
slot_from slot (happened ∷ events) = slot_from (slot_after slot happened) events

abbrev pub notes_from : LinkSlot → List LinkEvent → List LinkNote
notes_from slot [] = []
notes_from slot (happened ∷ events) = note_at slot happened ∷ notes_from (slot_after slot happened) events

pub slot_from-push : (slot : LinkSlot) (events : List LinkEvent) (happened : LinkEvent) → slot_from slot (events ++ happened ∷ []) ≡ slot_after (slot_from slot events) happened
slot_from-push slot [] happened = refl
slot_from-push slot (first ∷ events) happened = slot_from-push (slot_after slot first) events happened

pub notes_from-push : (slot : LinkSlot) (events : List LinkEvent) (happened : LinkEvent) → notes_from slot (events ++ happened ∷ []) ≡ notes_from slot events ++ note_at (slot_from slot events) happened ∷ []
notes_from-push slot [] happened = refl
notes_from-push slot (first ∷ events) happened = ap (λ notes. note_at slot first ∷ notes) (notes_from-push (slot_after slot first) events happened)

is_note : (slot : LinkSlot) (happened : LinkEvent) → IsNoteOf happened (note_at slot happened)
is_note slot (event.Put message) = tt
is_note slot event.Hand = tt
is_note slot (event.Answer answer) = tt
is_note slot event.Wake = tt

-- one note an event, of its kind
pub are_notes : (slot : LinkSlot) (events : List LinkEvent) → AreNotesOf events (notes_from slot events)
are_notes slot [] = tt
are_notes slot (happened ∷ events) = (is_note slot happened, are_notes (slot_after slot happened) events)

-- a history leads from one slot to another
abbrev pub Leads : LinkSlot → LinkHistory → LinkSlot → Type 0
Leads slot [] last = slot ≡ last
Leads slot (told ∷ history) last = (told.1 ≡ note_at slot told.0) × Leads (slot_after slot told.0) history last

pub leads : (slot : LinkSlot) (events : List LinkEvent) → Leads slot (history_of events (notes_from slot events)) (slot_from slot events)
leads slot [] = refl
leads slot (happened ∷ events) = (refl, leads (slot_after slot happened) events)

-- what led up to an event, and how the event was noted
pub leads_up : (before : LinkHistory) (happened : LinkEvent) (told : LinkNote) (after : LinkHistory) (slot last : LinkSlot) → Leads slot (before ++ (happened, told) ∷ after) last → (there : LinkSlot) × Leads slot before there × (told ≡ note_at there happened)
leads_up [] happened told after slot last run = (slot, refl, run.0)
leads_up (first ∷ before) happened told after slot last run =
    let rest = leads_up before happened told after (slot_after slot first.0) last run.1 in
    (rest.0, (run.0, rest.1), rest.2)

-- deeds lead from one slot to another
abbrev pub Does : LinkSlot → List Deed → LinkSlot → Type 0
Does slot [] last = slot ≡ last
Does Empty (Accepted message ∷ deeds) last = Does (Ready message) deeds last
Does (Ready message) (HandedOut handed ∷ deeds) last = (handed ≡ message) × Does (Travelling message) deeds last
Does (Travelling message) (Answered Rfnm ∷ deeds) last = Does Empty deeds last
Does (Travelling message) (Answered Incomplete ∷ deeds) last = Does (Ready message) deeds last
Does (Travelling message) (Answered Dead ∷ deeds) last = Does (Held message) deeds last
Does slot (Woken ∷ deeds) last = Does (woken slot) deeds last
Does slot (deed ∷ deeds) last = ⊥

does_first : (slot : LinkSlot) (happened : LinkEvent) (deeds : List Deed) (last : LinkSlot) → Does (slot_after slot happened) deeds last → Does slot (cons_option (deed_of (happened, note_at slot happened)) deeds) last
does_first Empty (event.Put message) deeds last h = h
does_first Empty event.Hand deeds last h = h
does_first Empty (event.Answer Rfnm) deeds last h = h
does_first Empty (event.Answer Incomplete) deeds last h = h
does_first Empty (event.Answer Dead) deeds last h = h
does_first Empty event.Wake deeds last h = h
does_first (Ready kept) (event.Put message) deeds last h = h
does_first (Ready kept) event.Hand deeds last h = (refl, h)
does_first (Ready kept) (event.Answer Rfnm) deeds last h = h
does_first (Ready kept) (event.Answer Incomplete) deeds last h = h
does_first (Ready kept) (event.Answer Dead) deeds last h = h
does_first (Ready kept) event.Wake deeds last h = h
does_first (Travelling kept) (event.Put message) deeds last h = h
does_first (Travelling kept) event.Hand deeds last h = h
does_first (Travelling kept) (event.Answer Rfnm) deeds last h = h
does_first (Travelling kept) (event.Answer Incomplete) deeds last h = h
does_first (Travelling kept) (event.Answer Dead) deeds last h = h
does_first (Travelling kept) event.Wake deeds last h = h
does_first (Held kept) (event.Put message) deeds last h = h
does_first (Held kept) event.Hand deeds last h = h
does_first (Held kept) (event.Answer Rfnm) deeds last h = h
does_first (Held kept) (event.Answer Incomplete) deeds last h = h
does_first (Held kept) (event.Answer Dead) deeds last h = h
does_first (Held kept) event.Wake deeds last h = h

-- the deeds of a history lead where it leads
pub does : (history : LinkHistory) (slot last : LinkSlot) → Leads slot history last → Does slot (deeds_in history) last
does [] slot last run = run
does (told ∷ history) slot last run =
    let P : LinkNote → Type 0 = λ n. Does slot (cons_option (deed_of (told.0, n)) (deeds_in history)) last in
    subst P (sym run.0) (does_first slot told.0 (deeds_in history) last (does history (slot_after slot told.0) last run.1))

-- where the notes are those of the events, the history leads to the slot of the events
pub leads_all : (events : List LinkEvent) (notes : List LinkNote) → notes ≡ notes_from Empty events → Leads Empty (history_of events notes) (slot_from Empty events)
leads_all events notes is =
    let P : List LinkNote → Type 0 = λ ns. Leads Empty (history_of events ns) (slot_from Empty events) in
    subst P (sym is) (leads Empty events)

pub are_notes_all : (events : List LinkEvent) (notes : List LinkNote) → notes ≡ notes_from Empty events → AreNotesOf events notes
are_notes_all events notes is =
    let P : List LinkNote → Type 0 = λ ns. AreNotesOf events ns in
    subst P (sym is) (are_notes Empty events)

pub does_all : (events : List LinkEvent) (notes : List LinkNote) → notes ≡ notes_from Empty events → Does Empty (deeds_of events notes) (slot_from Empty events)
does_all events notes is = does (history_of events notes) Empty (slot_from Empty events) (leads_all events notes is)

-- what led up to an event in a history that leads from an empty slot
pub before_happens : (history before : LinkHistory) (happened : LinkEvent) (told : LinkNote) (last : LinkSlot) → Leads Empty history last → Happens history before happened told → (there : LinkSlot) × Does Empty (deeds_in before) there × (told ≡ note_at there happened)
before_happens history before happened told last run happens =
    let P : LinkHistory → Type 0 = λ h. Leads Empty h last in
    let up = leads_up before happened told happens.0 Empty last (subst P happens.1 run) in
    (up.0, does before Empty up.0 up.1, up.2)
