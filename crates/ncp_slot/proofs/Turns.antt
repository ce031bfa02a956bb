-- What deeds tell that lead from an empty slot.
use Rattle.std.proofs.Common.{◌≡◌, ◌≤◌, Bool, true, false, not, ◌&&◌, ◌||◌, ◌⊎◌, inl, inr, List, [], ◌∷◌, ◌++◌, length, Option, Some, None, is_none, unwrap_or, refl, sym, ap, subst, ◌∙◌, arith}
use Rattle.std.specs.List.{last_or}
use Rattle.ncp_slot.specs.declared.slot.Slot.TheVariants.{Empty, Ready, Travelling, Held}
use Rattle.ncp_wire.specs.declared.answer.Answer.TheVariants.{Rfnm, Incomplete, Dead}
use Rattle.ncp_slot.specs.declared.laws.LinkEvent.TheVariants as event
use Rattle.ncp_slot.specs.declared.laws.LinkNote.TheVariants as note
use Rattle.ncp_slot.specs.Slot.{woken, ready_message, is_empty, is_travelling, is_held}
use Rattle.ncp_slot.specs.Slots.{LinkSlot}
use Rattle.ncp_slot.specs.Deeds.{LinkHistory, deeds_in, Deed, Accepted, HandedOut, Answered, Woken, accepted_in, handed_in, answers_in, has_rfnm, has_answer, all_answered, has_wake, is_out, is_held_back, fresh_in}
use Rattle.ncp_slot.specs.Laws.{OneAnswerBetween, SameAfterFailure, OthersInOrder, PutsTold, AnswersTold, HandsTold, slot_told}
use Rattle.ncp_slot.proofs.Runs.{Does, Leads, before_happens}

-- whether all is answered in the end, seen from a slot on the way
abbrev all_answered_from : LinkSlot → List Deed → Bool
all_answered_from Empty deeds = all_answered deeds
all_answered_from (Ready message) deeds = has_rfnm deeds && all_answered deeds
all_answered_from (Travelling message) deeds = has_rfnm deeds && all_answered deeds
all_answered_from (Held message) deeds = has_rfnm deeds && all_answered deeds

pub all_answered-does : (slot : LinkSlot) (deeds : List Deed) (last : LinkSlot) → Does slot deeds last → all_answered_from slot deeds ≡ is_empty last
all_answered-does Empty [] last h = ap is_empty h
all_answered-does (Ready message) [] last h = ap is_empty h
all_answered-does (Travelling message) [] last h = ap is_empty h
all_answered-does (Held message) [] last h = ap is_empty h
all_answered-does Empty (Accepted message ∷ deeds) last h = all_answered-does (Ready message) deeds last h
all_answered-does (Ready message) (HandedOut handed ∷ deeds) last h = all_answered-does (Travelling message) deeds last h.1
all_answered-does (Travelling message) (Answered Rfnm ∷ deeds) last h = all_answered-does Empty deeds last h
all_answered-does (Travelling message) (Answered Incomplete ∷ deeds) last h = all_answered-does (Ready message) deeds last h
all_answered-does (Travelling message) (Answered Dead ∷ deeds) last h = all_answered-does (Held message) deeds last h
all_answered-does Empty (Woken ∷ deeds) last h = all_answered-does Empty deeds last h
all_answered-does (Ready message) (Woken ∷ deeds) last h = all_answered-does (Ready message) deeds last h
all_answered-does (Travelling message) (Woken ∷ deeds) last h = all_answered-does (Travelling message) deeds last h
all_answered-does (Held message) (Woken ∷ deeds) last h = all_answered-does (Ready message) deeds last h
all_answered-does slot (deed ∷ deeds) last h = absurd h

-- whether a message is out in the end, seen from a slot on the way
abbrev is_out_from : LinkSlot → List Deed → Bool
is_out_from Empty deeds = is_out deeds
is_out_from (Ready message) deeds = is_out deeds
is_out_from (Travelling message) deeds = not (has_answer deeds) || is_out deeds
is_out_from (Held message) deeds = is_out deeds

pub is_out-does : (slot : LinkSlot) (deeds : List Deed) (last : LinkSlot) → Does slot deeds last → is_out_from slot deeds ≡ is_travelling last
is_out-does Empty [] last h = ap is_travelling h
is_out-does (Ready message) [] last h = ap is_travelling h
is_out-does (Travelling message) [] last h = ap is_travelling h
is_out-does (Held message) [] last h = ap is_travelling h
is_out-does Empty (Accepted message ∷ deeds) last h = is_out-does (Ready message) deeds last h
is_out-does (Ready message) (HandedOut handed ∷ deeds) last h = is_out-does (Travelling message) deeds last h.1
is_out-does (Travelling message) (Answered Rfnm ∷ deeds) last h = is_out-does Empty deeds last h
is_out-does (Travelling message) (Answered Incomplete ∷ deeds) last h = is_out-does (Ready message) deeds last h
is_out-does (Travelling message) (Answered Dead ∷ deeds) last h = is_out-does (Held message) deeds last h
is_out-does Empty (Woken ∷ deeds) last h = is_out-does Empty deeds last h
is_out-does (Ready message) (Woken ∷ deeds) last h = is_out-does (Ready message) deeds last h
is_out-does (Travelling message) (Woken ∷ deeds) last h = is_out-does (Travelling message) deeds last h
is_out-does (Held message) (Woken ∷ deeds) last h = is_out-does (Ready message) deeds last h
is_out-does slot (deed ∷ deeds) last h = absurd h

or_true : (b : Bool) → (b || true) ≡ true
or_true true = refl
or_true false = refl

-- whether a message is held in the end, seen from a slot on the way
abbrev is_held_back_from : LinkSlot → List Deed → Bool
is_held_back_from Empty deeds = is_held_back deeds
is_held_back_from (Ready message) deeds = is_held_back deeds
is_held_back_from (Travelling message) deeds = is_held_back deeds
is_held_back_from (Held message) deeds = not (has_answer deeds || has_wake deeds) || is_held_back deeds

pub is_held_back-does : (slot : LinkSlot) (deeds : List Deed) (last : LinkSlot) → Does slot deeds last → is_held_back_from slot deeds ≡ is_held last
is_held_back-does Empty [] last h = ap is_held h
is_held_back-does (Ready message) [] last h = ap is_held h
is_held_back-does (Travelling message) [] last h = ap is_held h
is_held_back-does (Held message) [] last h = ap is_held h
is_held_back-does Empty (Accepted message ∷ deeds) last h = is_held_back-does (Ready message) deeds last h
is_held_back-does (Ready message) (HandedOut handed ∷ deeds) last h = is_held_back-does (Travelling message) deeds last h.1
is_held_back-does (Travelling message) (Answered Rfnm ∷ deeds) last h = is_held_back-does Empty deeds last h
is_held_back-does (Travelling message) (Answered Incomplete ∷ deeds) last h = is_held_back-does (Ready message) deeds last h
is_held_back-does (Travelling message) (Answered Dead ∷ deeds) last h = is_held_back-does (Held message) deeds last h
is_held_back-does Empty (Woken ∷ deeds) last h = is_held_back-does Empty deeds last h
is_held_back-does (Ready message) (Woken ∷ deeds) last h = is_held_back-does (Ready message) deeds last h
is_held_back-does (Travelling message) (Woken ∷ deeds) last h = is_held_back-does (Travelling message) deeds last h
is_held_back-does (Held message) (Woken ∷ deeds) last h = ap (λ b. not b || is_held_back deeds) (or_true (has_answer deeds)) ∙ is_held_back-does (Ready message) deeds last h
is_held_back-does slot (deed ∷ deeds) last h = absurd h

-- the message that a slot has, or else the one before
abbrev kept_or : Option (List Bool) → LinkSlot → Option (List Bool)
kept_or was Empty = was
kept_or was (Ready message) = Some message
kept_or was (Travelling message) = Some message
kept_or was (Held message) = Some message

abbrev IsKept : LinkSlot → Option (List Bool) → Type 0
IsKept Empty last_one = Unit {0}
IsKept (Ready message) last_one = last_one ≡ Some message
IsKept (Travelling message) last_one = last_one ≡ Some message
IsKept (Held message) last_one = last_one ≡ Some message

is_kept : (slot : LinkSlot) (was : Option (List Bool)) → IsKept slot (kept_or was slot)
is_kept Empty was = tt
is_kept (Ready message) was = refl
is_kept (Travelling message) was = refl
is_kept (Held message) was = refl

last_accepted-does : (slot : LinkSlot) (deeds : List Deed) (last : LinkSlot) (was : Option (List Bool)) → Does slot deeds last → IsKept last (last_or (kept_or was slot) (accepted_in deeds))
last_accepted-does slot [] last was h = let P : LinkSlot → Type 0 = λ s. IsKept s (kept_or was slot) in subst P h (is_kept slot was)
last_accepted-does Empty (Accepted message ∷ deeds) last was h = last_accepted-does (Ready message) deeds last was h
last_accepted-does (Ready message) (HandedOut handed ∷ deeds) last was h = last_accepted-does (Travelling message) deeds last was h.1
last_accepted-does (Travelling message) (Answered Rfnm ∷ deeds) last was h = last_accepted-does Empty deeds last (Some message) h
last_accepted-does (Travelling message) (Answered Incomplete ∷ deeds) last was h = last_accepted-does (Ready message) deeds last was h
last_accepted-does (Travelling message) (Answered Dead ∷ deeds) last was h = last_accepted-does (Held message) deeds last was h
last_accepted-does Empty (Woken ∷ deeds) last was h = last_accepted-does Empty deeds last was h
last_accepted-does (Ready message) (Woken ∷ deeds) last was h = last_accepted-does (Ready message) deeds last was h
last_accepted-does (Travelling message) (Woken ∷ deeds) last was h = last_accepted-does (Travelling message) deeds last was h
last_accepted-does (Held message) (Woken ∷ deeds) last was h = last_accepted-does (Ready message) deeds last was h
last_accepted-does slot (deed ∷ deeds) last was h = absurd h

slot_told-by : (deeds : List Deed) (last : LinkSlot) → all_answered deeds ≡ is_empty last → is_out deeds ≡ is_travelling last → is_held_back deeds ≡ is_held last → IsKept last (last_or None (accepted_in deeds)) → slot_told deeds ≡ last
slot_told-by deeds Empty answered out held kept = rw answered refl
slot_told-by deeds (Ready message) answered out held kept = rw (answered, out, held) (ap (λ o. Ready (unwrap_or o [])) kept)
slot_told-by deeds (Travelling message) answered out held kept = rw (answered, out) (ap (λ o. Travelling (unwrap_or o [])) kept)
slot_told-by deeds (Held message) answered out held kept = rw (answered, out, held) (ap (λ o. Held (unwrap_or o [])) kept)

-- the slot in the end is the one that is told
pub slot_told-does : (deeds : List Deed) (last : LinkSlot) → Does Empty deeds last → slot_told deeds ≡ last
slot_told-does deeds last h = slot_told-by deeds last (all_answered-does Empty deeds last h) (is_out-does Empty deeds last h) (is_held_back-does Empty deeds last h) (last_accepted-does Empty deeds last None h)

-- one list is a beginning of another, shorter by at most one
abbrev Begins : List (List Bool) → List (List Bool) → Type 0
Begins front whole = (rest : List (List Bool)) × (whole ≡ front ++ rest) × (length rest ≤ 1)

begins_more : (handed message : List Bool) (front whole : List (List Bool)) → handed ≡ message → Begins front whole → Begins (handed ∷ front) (message ∷ whole)
begins_more handed message front whole is h = (h.0, ap (λ m. m ∷ whole) (sym is) ∙ ap (λ xs. handed ∷ xs) h.1, h.2)

-- messages go out in order, seen from a slot on the way; `again` says whether its message was
-- handed out before
abbrev InOrderFrom : LinkSlot → Bool → List Deed → Type 0
InOrderFrom Empty true deeds = Unit {0}
InOrderFrom Empty false deeds = Begins (fresh_in false deeds) (accepted_in deeds)
InOrderFrom (Ready message) true deeds = Begins (fresh_in true deeds) (accepted_in deeds)
InOrderFrom (Ready message) false deeds = Begins (fresh_in false deeds) (message ∷ accepted_in deeds)
InOrderFrom (Travelling message) again deeds = Begins (fresh_in again deeds) (accepted_in deeds)
InOrderFrom (Held message) true deeds = Begins (fresh_in true deeds) (accepted_in deeds)
InOrderFrom (Held message) false deeds = Unit {0}

in_order-does : (slot : LinkSlot) (again : Bool) (deeds : List Deed) (last : LinkSlot) → Does slot deeds last → InOrderFrom slot again deeds
in_order-does Empty true deeds last h = tt
in_order-does Empty false [] last h = ([], refl, omega arith)
in_order-does (Ready message) true [] last h = ([], refl, omega arith)
in_order-does (Ready message) false [] last h = (message ∷ [], refl, omega arith)
in_order-does (Travelling message) again [] last h = ([], refl, omega arith)
in_order-does (Held message) true [] last h = ([], refl, omega arith)
in_order-does (Held message) false deeds last h = tt
in_order-does Empty false (Accepted message ∷ deeds) last h = in_order-does (Ready message) false deeds last h
in_order-does (Ready message) true (HandedOut handed ∷ deeds) last h = in_order-does (Travelling message) true deeds last h.1
in_order-does (Ready message) false (HandedOut handed ∷ deeds) last h = begins_more handed message _ _ h.0 (in_order-does (Travelling message) false deeds last h.1)
in_order-does (Travelling message) again (Answered Rfnm ∷ deeds) last h = in_order-does Empty false deeds last h
in_order-does (Travelling message) again (Answered Incomplete ∷ deeds) last h = in_order-does (Ready message) true deeds last h
in_order-does (Travelling message) again (Answered Dead ∷ deeds) last h = in_order-does (Held message) true deeds last h
in_order-does Empty false (Woken ∷ deeds) last h = in_order-does Empty false deeds last h
in_order-does (Ready message) true (Woken ∷ deeds) last h = in_order-does (Ready message) true deeds last h
in_order-does (Ready message) false (Woken ∷ deeds) last h = in_order-does (Ready message) false deeds last h
in_order-does (Travelling message) again (Woken ∷ deeds) last h = in_order-does (Travelling message) again deeds last h
in_order-does (Held message) true (Woken ∷ deeds) last h = in_order-does (Ready message) true deeds last h
in_order-does slot again (deed ∷ deeds) last h = absurd h

pub OthersInOrder-does : (deeds : List Deed) (last : LinkSlot) → Does Empty deeds last → OthersInOrder deeds
OthersInOrder-does deeds last h = in_order-does Empty false deeds last h

-- no message was taken in between, so the one before is handed out again
abbrev Failed : List Deed → Type 0
Failed between = (answers_in between ≡ Incomplete ∷ []) ⊎ (answers_in between ≡ Dead ∷ [])

-- what is between a slot on the way and the next message handed out
abbrev NextFrom : LinkSlot → List Deed → List Bool → Type 0
NextFrom Empty between next = answers_in between ≡ []
NextFrom (Ready message) between next = (answers_in between ≡ []) × (next ≡ message)
NextFrom (Travelling message) between next = (length (answers_in between) ≡ 1) × (Failed between → next ≡ message)
NextFrom (Held message) between next = (answers_in between ≡ []) × (next ≡ message)

next-does : (slot : LinkSlot) (between : List Deed) (next : List Bool) (later : List Deed) (last : LinkSlot) → Does slot (between ++ HandedOut next ∷ later) last → handed_in between ≡ [] → NextFrom slot between next
next-does Empty [] next later last h none = absurd h
next-does (Ready message) [] next later last h none = (refl, h.0)
next-does (Travelling message) [] next later last h none = absurd h
next-does (Held message) [] next later last h none = absurd h
next-does Empty (Accepted message ∷ between) next later last h none = (next-does (Ready message) between next later last h none).0
next-does (Ready message) (HandedOut handed ∷ between) next later last h none = absurd (cc)
next-does (Travelling message) (Answered Rfnm ∷ between) next later last h none =
    let no_more : answers_in between ≡ [] = next-does Empty between next later last h none in
    (ap (λ answers. length (Rfnm ∷ answers)) no_more, elim [ inl incomplete ↦ absurd (cc) | inr dead ↦ absurd (cc) ])
next-does (Travelling message) (Answered Incomplete ∷ between) next later last h none =
    let rest : (answers_in between ≡ []) × (next ≡ message) = next-does (Ready message) between next later last h none in
    (ap (λ answers. length (Incomplete ∷ answers)) rest.0, λ failed. rest.1)
next-does (Travelling message) (Answered Dead ∷ between) next later last h none =
    let rest : (answers_in between ≡ []) × (next ≡ message) = next-does (Held message) between next later last h none in
    (ap (λ answers. length (Dead ∷ answers)) rest.0, λ failed. rest.1)
next-does Empty (Woken ∷ between) next later last h none = next-does Empty between next later last h none
next-does (Ready message) (Woken ∷ between) next later last h none = next-does (Ready message) between next later last h none
next-does (Travelling message) (Woken ∷ between) next later last h none = next-does (Travelling message) between next later last h none
next-does (Held message) (Woken ∷ between) next later last h none = next-does (Ready message) between next later last h none
next-does slot (deed ∷ between) next later last h none = absurd h

abbrev Between : List Bool → List Deed → List Bool → Type 0
Between message between next = (length (answers_in between) ≡ 1) × (Failed between → next ≡ message)

between-does : (slot : LinkSlot) (earlier : List Deed) (message : List Bool) (between : List Deed) (next : List Bool) (later : List Deed) (last : LinkSlot) → Does slot (earlier ++ HandedOut message ∷ (between ++ HandedOut next ∷ later)) last → handed_in between ≡ [] → Between message between next
between-does Empty [] message between next later last h none = absurd h
between-does (Ready kept) [] message between next later last h none =
    let there : Between kept between next = next-does (Travelling kept) between next later last h.1 none in
    (there.0, λ failed. there.1 failed ∙ sym h.0)
between-does (Travelling kept) [] message between next later last h none = absurd h
between-does (Held kept) [] message between next later last h none = absurd h
between-does Empty (Accepted kept ∷ earlier) message between next later last h none = between-does (Ready kept) earlier message between next later last h none
between-does (Ready kept) (HandedOut handed ∷ earlier) message between next later last h none = between-does (Travelling kept) earlier message between next later last h.1 none
between-does (Travelling kept) (Answered Rfnm ∷ earlier) message between next later last h none = between-does Empty earlier message between next later last h none
between-does (Travelling kept) (Answered Incomplete ∷ earlier) message between next later last h none = between-does (Ready kept) earlier message between next later last h none
between-does (Travelling kept) (Answered Dead ∷ earlier) message between next later last h none = between-does (Held kept) earlier message between next later last h none
between-does slot (Woken ∷ earlier) message between next later last h none = between-does (woken slot) earlier message between next later last h none
between-does slot (deed ∷ earlier) message between next later last h none = absurd h

between-split : (deeds : List Deed) (last : LinkSlot) → Does Empty deeds last → (earlier between later : List Deed) (message next : List Bool) → deeds ≡ earlier ++ HandedOut message ∷ (between ++ HandedOut next ∷ later) → handed_in between ≡ [] → Between message between next
between-split deeds last h earlier between later message next is none =
    let P : List Deed → Type 0 = λ ds. Does Empty ds last in
    between-does Empty earlier message between next later last (subst P is h) none

pub OneAnswerBetween-does : (deeds : List Deed) (last : LinkSlot) → Does Empty deeds last → OneAnswerBetween deeds
OneAnswerBetween-does deeds last h earlier between later message next is none = (between-split deeds last h earlier between later message next is none).0

pub SameAfterFailure-does : (deeds : List Deed) (last : LinkSlot) → Does Empty deeds last → SameAfterFailure deeds
SameAfterFailure-does deeds last h earlier between later message next is none failed = (between-split deeds last h earlier between later message next is none).1 failed

pub PutsTold-leads : (history : LinkHistory) (last : LinkSlot) → Leads Empty history last → PutsTold history
PutsTold-leads history last run before message accepted happens =
    let up = before_happens history before (event.Put message) (note.Put accepted) last run happens in
    let told : accepted ≡ is_empty up.0 = cc (up.2) in
    told ∙ sym (all_answered-does Empty (deeds_in before) up.0 up.1)

pub AnswersTold-leads : (history : LinkHistory) (last : LinkSlot) → Leads Empty history last → AnswersTold history
AnswersTold-leads history last run before answer accepted happens =
    let up = before_happens history before (event.Answer answer) (note.Answered accepted) last run happens in
    let told : accepted ≡ is_travelling up.0 = cc (up.2) in
    told ∙ sym (is_out-does Empty (deeds_in before) up.0 up.1)

none_ready : (slot : LinkSlot) → is_none (ready_message slot) ≡ (is_travelling slot || is_held slot || is_empty slot)
none_ready Empty = refl
none_ready (Ready message) = refl
none_ready (Travelling message) = refl
none_ready (Held message) = refl

pub HandsTold-leads : (history : LinkHistory) (last : LinkSlot) → Leads Empty history last → HandsTold history
HandsTold-leads history last run before message happens =
    let up = before_happens history before event.Hand (note.Handed message) last run happens in
    let told : message ≡ ready_message up.0 = cc (up.2) in
    ap is_none told ∙ none_ready up.0
    ∙ ap (λ b. b || is_held up.0 || is_empty up.0) (sym (is_out-does Empty (deeds_in before) up.0 up.1))
    ∙ ap (λ b. is_out (deeds_in before) || b || is_empty up.0) (sym (is_held_back-does Empty (deeds_in before) up.0 up.1))
    ∙ ap (λ b. is_out (deeds_in before) || is_held_back (deeds_in before) || b) (sym (all_answered-does Empty (deeds_in before) up.0 up.1))
