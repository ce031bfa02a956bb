-- Slots in a row, and the map from links to slots that they are.
use Rattle.std.proofs.Common.{drop, ◌≡◌, ◌≢◌, ℕ, zero, suc, ◌+◌, ◌-◌, ◌<◌, ◌≤◌, Bool, true, false, cond, List, [], ◌∷◌, length, get_or, slice_set, replicate, Option, Some, None, unwrap_or, ◌↔◌, inl, inr, ◌⊎◌, refl, sym, ap, ◌∙◌, arith, eq-eqb}
use Rattle.std.specs.List.{slice_get, list_all, range_with_len}
use Rattle.std.specs.Ordering.{nat_cmp, eq_by_cmp}
use Rattle.std.specs.Cmp.{unsigned_tied}
use Rattle.std.specs.FinMap.{find, get, insert, get-insert, get-from_entries, same_map, nat_cmp-IsAntisymmetric}
use Rattle.std.proofs.lemmas.Cmp.{nat_cmp_total}
use Rattle.std.proofs.lemmas.Bool.{ne_eqb, cases_lt, cases_eq, and_parts, and_from}
use Rattle.std.proofs.lemmas.Bool.Decides.{eqb_tells}
use Rattle.std.proofs.lemmas.Option.{unwrap_or-slice_get}
use Rattle.std.proofs.lemmas.List.{get_or_default}
use Rattle.std.proofs.Math.ListN.{get_or-eq_default}
use Rattle.ncp_slot.specs.declared.slot.Slot.TheVariants.{Empty, Ready, Travelling, Held}
use Rattle.ncp_slot.specs.declared.slots.TheConstants.{SLOTS}
use Rattle.ncp_wire.specs.declared.links.TheConstants.{FIRST_LINK, DATA_LINKS}
use Rattle.ncp_slot.specs.Slot.{is_empty, is_ready}
use Rattle.ncp_slot.specs.Slots.{LinkSlot, LinkSlots, IsQuiet, is_quiet, no_slots, slot_at, with_slot, OtherSlotsStay, link_of_index, with_links, slots_in}

same : (a b : ℕ) → a ≡ b → eq_by_cmp nat_cmp a b ≡ true
same a b e = unsigned_tied a b ∙ eq-eqb a b e

apart : (a b : ℕ) → a ≢ b → eq_by_cmp nat_cmp a b ≡ false
apart a b ne = unsigned_tied a b ∙ ne_eqb a b ne

link_at-cases : (place : ℕ) → ((place ≡ 0) × (link_of_index place ≡ 0)) ⊎ ((0 < place) × (link_of_index place ≡ place + 1))
link_at-cases zero = inl (refl, refl)
link_at-cases (suc place) = inr (omega arith, rw (ne_eqb (suc place) 0 (omega arith)) refl)

-- the slot of a link among slots from a place on
find-with_links : (slots : List LinkSlot) (place link : ℕ) → link ≢ 1 → place ≤ link - 1 → find nat_cmp link (with_links place slots) ≡ slice_get slots (link - 1 - place)
find-with_links [] place link has from = refl
find-with_links (slot ∷ slots) place link has from =
    go (link - 1 - place) refl (find-with_links slots (place + 1) link has)
  where
    go : (d : ℕ) → link - 1 - place ≡ d → (place + 1 ≤ link - 1 → find nat_cmp link (with_links (place + 1) slots) ≡ slice_get slots (link - 1 - (place + 1))) → cond (eq_by_cmp nat_cmp link (link_of_index place)) (Some slot) (find nat_cmp link (with_links (place + 1) slots)) ≡ slice_get (slot ∷ slots) d
    go zero e rest = elim (link_at-cases place) [
      | inl h ↦ rw (same link (link_of_index place) (let k : link ≡ 0 = omega arith in k ∙ sym h.1)) refl
      | inr h ↦ rw (same link (link_of_index place) (let k : link ≡ place + 1 = omega arith in k ∙ sym h.1)) refl
    ]
    go (suc d) e rest =
        let before : slice_get slots (link - 1 - (place + 1)) ≡ slice_get slots d = ap (slice_get slots) (omega arith) in
        elim (link_at-cases place) [
          | inl h ↦ rw (apart link (link_of_index place) (λ k. let j : link ≡ 0 = k ∙ h.1 in absurd (omega arith))) (rest (omega arith) ∙ before)
          | inr h ↦ rw (apart link (link_of_index place) (λ k. let j : link ≡ place + 1 = k ∙ h.1 in absurd (omega arith))) (rest (omega arith) ∙ before)
        ]

-- no slot is beside the link that has none
find-with_links-none : (slots : List LinkSlot) (place : ℕ) → find nat_cmp 1 (with_links place slots) ≡ None
find-with_links-none [] place = refl
find-with_links-none (slot ∷ slots) place = elim (link_at-cases place) [
  | inl h ↦ rw (apart 1 (link_of_index place) (λ k. let j : 1 ≡ 0 = k ∙ h.1 in absurd (omega arith))) (find-with_links-none slots (place + 1))
  | inr h ↦ rw (apart 1 (link_of_index place) (λ k. let j : 1 ≡ place + 1 = k ∙ h.1 in absurd (omega arith))) (find-with_links-none slots (place + 1))
]

slice_get-set_same : (slots : List LinkSlot) (place : ℕ) (slot : LinkSlot) → place < length slots → slice_get (slice_set slots place slot) place ≡ Some slot
slice_get-set_same [] place slot h = absurd (omega arith)
slice_get-set_same (first ∷ slots) zero slot h = refl
slice_get-set_same (first ∷ slots) (suc place) slot h = slice_get-set_same slots place slot (omega arith)

slice_get-set_other : (slots : List LinkSlot) (place other : ℕ) (slot : LinkSlot) → other ≢ place → slice_get (slice_set slots place slot) other ≡ slice_get slots other
slice_get-set_other [] place other slot h = refl
slice_get-set_other (first ∷ slots) zero zero slot h = absurd (h refl)
slice_get-set_other (first ∷ slots) zero (suc other) slot h = refl
slice_get-set_other (first ∷ slots) (suc place) zero slot h = refl
slice_get-set_other (first ∷ slots) (suc place) (suc other) slot h = slice_get-set_other slots place other slot (λ e. h (ap suc e))

pub get-slots_in : (slots : List LinkSlot) (link : ℕ) → link ≢ 1 → get (slots_in slots) link ≡ slice_get slots (link - 1)
unfolding slots_in
get-slots_in slots link has = get-from_entries nat_cmp_total (with_links 0 slots) link ∙ find-with_links slots 0 link has (omega arith) ∙ ap (slice_get slots) (omega arith)

pub get-slots_in-none : (slots : List LinkSlot) → get (slots_in slots) 1 ≡ None
unfolding slots_in
get-slots_in-none slots = get-from_entries nat_cmp_total (with_links 0 slots) 1 ∙ find-with_links-none slots 0

-- to change the slot at a link's place is to change the slot of the link
pub slots_in-set : (slots : List LinkSlot) (link : ℕ) (slot : LinkSlot) → link ≢ 1 → link - 1 < length slots → slots_in (slice_set slots (link - 1) slot) ≡ with_slot (slots_in slots) link slot
unfolding with_slot
slots_in-set slots link slot has inside = same_map nat_cmp_total nat_cmp-IsAntisymmetric _ _ (λ q. at q ∙ sym (get-insert nat_cmp_total (slots_in slots) link slot q))
  where
    at : (q : ℕ) → get (slots_in (slice_set slots (link - 1) slot)) q ≡ cond (eq_by_cmp nat_cmp q link) (Some slot) (get (slots_in slots) q)
    at q = elim (eqb_tells q 1) [
      | inl one ↦ rw (one.1, apart 1 link (λ e. has (sym e)), get-slots_in-none (slice_set slots (link - 1) slot), get-slots_in-none slots) refl
      | inr other ↦ elim (eqb_tells q link) [
        | inl at_link ↦ rw (same q link at_link.1) (get-slots_in _ q other.1 ∙ ap (slice_get (slice_set slots (link - 1) slot)) (omega arith) ∙ slice_get-set_same slots (link - 1) slot inside)
        | inr away ↦ rw (apart q link away.1) (get-slots_in _ q other.1 ∙ slice_get-set_other slots (link - 1) (q - 1) slot (λ e. away.1 (omega arith)) ∙ sym (get-slots_in slots q other.1))
      ]
    ]

-- the slot of a link is that at its place
pub slot_at-slots_in : (slots : List LinkSlot) (link : ℕ) → link ≢ 1 → slot_at (slots_in slots) link ≡ get_or slots (link - 1) Empty
unfolding slot_at
slot_at-slots_in slots link has = ap (λ o. unwrap_or o Empty) (get-slots_in slots link has) ∙ unwrap_or-slice_get slots (link - 1) Empty

pub slot_at-slots_in-none : (slots : List LinkSlot) → slot_at (slots_in slots) 1 ≡ Empty
unfolding slot_at
slot_at-slots_in-none slots = ap (λ o. unwrap_or o Empty) (get-slots_in-none slots)

pub slot_at-with_slot_same : (slots : LinkSlots) (link : ℕ) (slot : LinkSlot) → slot_at (with_slot slots link slot) link ≡ slot
unfolding slot_at with_slot
slot_at-with_slot_same slots link slot =
    let e : get (insert slots link slot) link ≡ Some slot = get-insert nat_cmp_total slots link slot link ∙ rw (same link link refl) refl in
    ap (λ o. unwrap_or o Empty) e

pub slot_at-with_slot_other : (slots : LinkSlots) (link : ℕ) (slot : LinkSlot) → OtherSlotsStay slots (with_slot slots link slot) link
unfolding slot_at with_slot
slot_at-with_slot_other slots link slot other ne =
    let e : get (insert slots link slot) other ≡ get slots other = get-insert nat_cmp_total slots link slot other ∙ rw (apart other link ne) refl in
    ap (λ o. unwrap_or o Empty) e

-- what is written last at a link stays
pub with_slot-twice : (slots : LinkSlots) (link : ℕ) (first last : LinkSlot) → with_slot (with_slot slots link first) link last ≡ with_slot slots link last
unfolding with_slot
with_slot-twice slots link first last = same_map nat_cmp_total nat_cmp-IsAntisymmetric _ _ (λ q.
    get-insert nat_cmp_total (insert slots link first) link last q
    ∙ ap (cond (eq_by_cmp nat_cmp q link) (Some last)) (get-insert nat_cmp_total slots link first q)
    ∙ twice (eq_by_cmp nat_cmp q link) (get slots q)
    ∙ sym (get-insert nat_cmp_total slots link last q))
  where
    twice : (b : Bool) (rest : Option LinkSlot) → cond b (Some last) (cond b (Some first) rest) ≡ cond b (Some last) rest
    twice true rest = refl
    twice false rest = refl

get_or-replicate-default : (count place : ℕ) (slot : LinkSlot) → get_or (replicate count slot) place slot ≡ slot
get_or-replicate-default zero place slot = refl
get_or-replicate-default (suc count) zero slot = refl
get_or-replicate-default (suc count) (suc place) slot = get_or-replicate-default count place slot

pub slot_at-replicate : (count link : ℕ) → slot_at (slots_in (replicate count Empty)) link ≡ Empty
slot_at-replicate count link = elim (eqb_tells link 1) [
  | inl one ↦ rw one.1 (slot_at-slots_in-none (replicate count Empty))
  | inr has ↦ slot_at-slots_in (replicate count Empty) link has.1 ∙ get_or-replicate-default count (link - 1) Empty
]

pub slot_at-no_slots : (link : ℕ) → slot_at no_slots link ≡ Empty
unfolding no_slots
slot_at-no_slots link = slot_at-replicate SLOTS link

-- what stands at a link's place is the slot of the link
pub slot_at-place : (slots : List LinkSlot) (all : LinkSlots) (link place : ℕ) (slot : LinkSlot) → slots_in slots ≡ all → link ≢ 1 → place ≡ link - 1 → place < length slots → slot ≡ get_or slots place slot → slot_at all link ≡ slot
slot_at-place slots all link place slot is has there inside read =
    ap (λ (s : LinkSlots). slot_at s link) (sym is) ∙ slot_at-slots_in slots link has
    ∙ ap (λ (k : ℕ). get_or slots k Empty) (sym there) ∙ get_or_default slots place Empty slot inside ∙ sym read

-- to change what stands at a link's place is to change the slot of the link
pub slots_in-place : (slots : List LinkSlot) (all : LinkSlots) (link place : ℕ) (slot : LinkSlot) → slots_in slots ≡ all → link ≢ 1 → place ≡ link - 1 → place < length slots → slots_in (slice_set slots place slot) ≡ with_slot all link slot
slots_in-place slots all link place slot is has there inside =
    ap (λ (k : ℕ). slots_in (slice_set slots k slot)) there ∙ slots_in-set slots link slot has (omega arith) ∙ ap (λ (s : LinkSlots). with_slot s link slot) is

pub slot_at-changed : (new all : LinkSlots) (link : ℕ) (slot : LinkSlot) → new ≡ with_slot all link slot → slot_at new link ≡ slot
slot_at-changed new all link slot is = ap (λ (s : LinkSlots). slot_at s link) is ∙ slot_at-with_slot_same all link slot

pub OthersStay-changed : (new all : LinkSlots) (link : ℕ) (slot : LinkSlot) → new ≡ with_slot all link slot → OtherSlotsStay all new link
OthersStay-changed new all link slot is other ne = ap (λ (s : LinkSlots). slot_at s other) is ∙ slot_at-with_slot_other all link slot other ne

-- a link without a slot
pub slot_at-past : (slots : List LinkSlot) (all : LinkSlots) (link : ℕ) → slots_in slots ≡ all → (link ≢ 1 → length slots ≤ link - 1) → slot_at all link ≡ Empty
slot_at-past slots all link is past = ap (λ (s : LinkSlots). slot_at s link) (sym is) ∙ elim (eqb_tells link 1) [
  | inl one ↦ rw one.1 (slot_at-slots_in-none slots)
  | inr has ↦ slot_at-slots_in slots link has.1 ∙ get_or-eq_default slots Empty (past has.1)
]

pub link_at-has : (place : ℕ) → link_of_index place ≢ 1
link_at-has place e = elim (link_at-cases place) [
  | inl h ↦ absurd (omega (arith, h.1, e))
  | inr h ↦ absurd (omega (arith, h.1, e))
]

pub place-link_at : (place : ℕ) → place ≡ link_of_index place - 1
place-link_at place = elim (link_at-cases place) [
  | inl h ↦ rw h.1 (omega arith)
  | inr h ↦ rw h.1 (omega arith)
]

-- no slot before a place is ready
pub none_ready-below : (slots : List LinkSlot) (all : LinkSlots) (place : ℕ) → slots_in slots ≡ all → ((k : ℕ) → k < place → is_ready (get_or slots k Empty) ≡ false) → (lower : ℕ) → lower < link_of_index place → is_ready (slot_at all lower) ≡ false
none_ready-below slots all place is none lower below = ap (λ (s : LinkSlots). is_ready (slot_at s lower)) (sym is) ∙ elim (eqb_tells lower 1) [
  | inl one ↦ rw (one.1, slot_at-slots_in-none slots) refl
  | inr has ↦ ap is_ready (slot_at-slots_in slots lower has.1) ∙ none (lower - 1) (elim (link_at-cases place) [
    | inl h ↦ let k : lower < 0 = rw h.1 at below in absurd (omega arith)
    | inr h ↦ let k : lower < place + 1 = rw h.1 at below in let ne : lower ≢ 1 = has.1 in omega arith
  ])
]

-- no slot is ready
pub none_ready : (slots : List LinkSlot) (all : LinkSlots) → slots_in slots ≡ all → ((k : ℕ) → k < length slots → is_ready (get_or slots k Empty) ≡ false) → (link : ℕ) → is_ready (slot_at all link) ≡ false
none_ready slots all is none link = ap (λ (s : LinkSlots). is_ready (slot_at s link)) (sym is) ∙ elim (eqb_tells link 1) [
  | inl one ↦ rw (one.1, slot_at-slots_in-none slots) refl
  | inr has ↦ ap is_ready (slot_at-slots_in slots link has.1) ∙ in_row (link - 1)
]
  where
    in_row : (k : ℕ) → is_ready (get_or slots k Empty) ≡ false
    in_row k = elim (cases_lt k (length slots)) [
      | inl h ↦ none k h
      | inr h ↦ ap is_ready (get_or-eq_default slots Empty h)
    ]

all_empty-at : (slots : List LinkSlot) → list_all is_empty slots ≡ true → (place : ℕ) → get_or slots place Empty ≡ Empty
all_empty-at [] h place = refl
all_empty-at (Empty ∷ slots) h zero = refl
all_empty-at (Empty ∷ slots) h (suc place) = all_empty-at slots h place
all_empty-at (Ready message ∷ slots) h place = cc
all_empty-at (Travelling message ∷ slots) h place = cc
all_empty-at (Held message ∷ slots) h place = cc

all_empty-each : (slots : List LinkSlot) → ((place : ℕ) → place < length slots → get_or slots place Empty ≡ Empty) → list_all is_empty slots ≡ true
all_empty-each [] h = refl
all_empty-each (slot ∷ slots) h =
    let first : slot ≡ Empty = h 0 (omega arith) in
    rw first (all_empty-each slots (λ place inside. h (suc place) (omega arith)))

-- the data links are quiet where all slots but the first are empty
pub quiet-all_empty : (slots : List LinkSlot) (all : LinkSlots) → slots_in slots ≡ all → list_all is_empty (drop 1 slots) ≡ true → IsQuiet all
quiet-all_empty [] all is empty link from to = ap (λ (s : LinkSlots). slot_at s link) (sym is) ∙ slot_at-slots_in [] link (omega arith)
quiet-all_empty (control ∷ data_slots) all is empty link from to =
    ap (λ (s : LinkSlots). slot_at s link) (sym is) ∙ slot_at-slots_in (control ∷ data_slots) link (omega arith)
    ∙ ap (λ (k : ℕ). get_or (control ∷ data_slots) k Empty) (let k : link - 1 ≡ suc (link - 2) = omega arith in k) ∙ all_empty-at data_slots empty (link - 2)

pub all_empty-quiet : (slots : List LinkSlot) (all : LinkSlots) → slots_in slots ≡ all → length slots ≡ SLOTS → IsQuiet all → list_all is_empty (drop 1 slots) ≡ true
all_empty-quiet [] all is len quiet = refl
all_empty-quiet (control ∷ data_slots) all is len quiet = all_empty-each data_slots (λ place inside.
    sym (slot_at-slots_in (control ∷ data_slots) (suc place + 1) (omega arith) ∙ ap (λ (k : ℕ). get_or (control ∷ data_slots) k Empty) (let k : suc place + 1 - 1 ≡ suc place = omega arith in k))
    ∙ ap (λ (s : LinkSlots). slot_at s (suc place + 1)) is ∙ quiet (suc place + 1) (omega arith) (omega arith))

list_all_in : (p : ℕ → Bool) (from count : ℕ) → list_all p (range_with_len from count) ≡ true → (k : ℕ) → from ≤ k → k < from + count → p k ≡ true
list_all_in p from zero h k low high = absurd (omega arith)
list_all_in p from (suc count) h k low high =
    let parts : (p from ≡ true) × (list_all p (range_with_len (from + 1) count) ≡ true) = and_parts _ _ h in
    elim (cases_eq from k) [
      | inl e ↦ ap p (sym e) ∙ parts.0
      | inr ne ↦ list_all_in p (from + 1) count parts.1 k (omega arith) (omega arith)
    ]

all_in_list : (p : ℕ → Bool) (from count : ℕ) → ((k : ℕ) → from ≤ k → k < from + count → p k ≡ true) → list_all p (range_with_len from count) ≡ true
all_in_list p from zero h = refl
all_in_list p from (suc count) h = and_from _ _ (h from (omega arith) (omega arith)) (all_in_list p (from + 1) count (λ k low high. h k (omega arith) (omega arith)))

empty_told : (slot : LinkSlot) → is_empty slot ≡ true → slot ≡ Empty
empty_told Empty h = refl
empty_told (Ready message) h = cc
empty_told (Travelling message) h = cc
empty_told (Held message) h = cc

-- the test tells whether the data links are quiet
pub is_quiet-tells : (all : LinkSlots) → (is_quiet all ≡ true) ↔ IsQuiet all
unfolding is_quiet
is_quiet-tells all = (
  λ h link low high. empty_told (slot_at all link) (list_all_in (λ k. is_empty (slot_at all k)) FIRST_LINK DATA_LINKS h link low (omega arith)),
  λ quiet. all_in_list (λ k. is_empty (slot_at all k)) FIRST_LINK DATA_LINKS (λ k low high. ap is_empty (quiet k low (omega arith))),
)

pub same_test : (a b : Bool) {P : Type 0} → ((a ≡ true) ↔ P) → ((b ≡ true) ↔ P) → a ≡ b
same_test true true p q = refl
same_test false false p q = refl
same_test true false p q = sym (q.1 (p.0 refl))
same_test false true p q = p.1 (q.0 refl)
