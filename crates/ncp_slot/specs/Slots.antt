-- The slots of a host's links to one peer. Link 0 is the control link; links 2 to 71 carry
-- connections (NIC 8246). Each has a slot.
use Rattle.std.specs.Prelude.{◌≡◌, ◌≢◌, ℕ, ◌+◌, ◌<◌, ◌≤◌, Bool, IsTrue, List, [], ◌∷◌, map, unwrap_or, replicate, refl, nat_eq, if◌then◌else◌}
use Rattle.std.specs.List.{list_all, range_with_len}
use Rattle.std.specs.Ordering.{nat_cmp}
use Rattle.std.specs.FinMap.{FinMap, code, entries, get, insert, from_entries}
use Rattle.std.specs.Coded.{Coded, code_by, coded×, coded_ℕ, coded_bool, coded_list}
use Rattle.ncp_slot.specs.declared.slots.TheConstants.{SLOTS}
use Rattle.ncp_wire.specs.declared.links.TheConstants.{UNUSED_LINK, FIRST_LINK, LAST_LINK, DATA_LINKS}
use Rattle.ncp_slot.specs.declared.slot.Slot.{Slot}
use Rattle.ncp_slot.specs.declared.slot.Slot.TheVariants.{Empty, Ready, Travelling, Held}
use Rattle.ncp_slot.specs.Slot.{woken, is_empty, is_ready, is_held}

-- link 0 and links 2 to 71
abbrev pub HasSlot : ℕ → Type 0
HasSlot link = (link ≢ UNUSED_LINK) × (link ≤ LAST_LINK)

-- the slot of a link: its messages are lists of bits
abbrev pub LinkSlot : Type 0
LinkSlot = Slot (List Bool)

-- the slots, each by its link
abbrev pub LinkSlots : Type 0
LinkSlots = FinMap nat_cmp LinkSlot

-- the slot of a link; empty if the map has none
unfoldable pub slot_at : LinkSlots → ℕ → LinkSlot
slot_at slots link = unwrap_or (get slots link) Empty

-- the slots with this one for a link
unfoldable pub with_slot : LinkSlots → ℕ → LinkSlot → LinkSlots
with_slot slots link slot = insert slots link slot

-- the slots after the user asked for held messages
unfoldable pub all_woken : LinkSlots → LinkSlots
all_woken slots = from_entries (map (λ (entry : ℕ × LinkSlot). (entry.0, woken entry.1)) (entries slots))

-- the slot of every other link is unchanged
abbrev pub OtherSlotsStay : LinkSlots → LinkSlots → ℕ → Type 0
OtherSlotsStay old new link = (other : ℕ) → other ≢ link → slot_at new other ≡ slot_at old other

-- every other link with an empty slot still has an empty one
abbrev pub OthersStayEmpty : LinkSlots → LinkSlots → ℕ → Type 0
OthersStayEmpty old new link = (other : ℕ) → other ≢ link → slot_at old other ≡ Empty → slot_at new other ≡ Empty

-- a link has a message that is to be sent
abbrev pub IsReady : LinkSlots → ℕ → Type 0
IsReady slots link = IsTrue (is_ready (slot_at slots link))

-- a link has a held message
abbrev pub IsHeld : LinkSlots → ℕ → Type 0
IsHeld slots link = IsTrue (is_held (slot_at slots link))

-- the lowest link with a message that is to be sent
abbrev pub IsFirstReady : LinkSlots → ℕ → Type 0
IsFirstReady slots link = IsReady slots link × ((lower : ℕ) → lower < link → ¬ IsReady slots lower)

-- the data links are quiet if each of their slots is empty
abbrev pub IsQuiet : LinkSlots → Type 0
IsQuiet slots = (link : ℕ) → FIRST_LINK ≤ link → link ≤ LAST_LINK → slot_at slots link ≡ Empty

-- the data links
abbrev pub data_links : List ℕ
data_links = range_with_len FIRST_LINK DATA_LINKS

-- whether they are quiet, as a test
unfoldable pub is_quiet : LinkSlots → Bool
is_quiet slots = list_all (λ link. is_empty (slot_at slots link)) data_links

-- the link of the slot at an index: links 0, 2, 3 and so on
abbrev pub link_of_index : ℕ → ℕ
link_of_index place = if nat_eq place 0 then 0 else place + 1

-- a list of slots, from an index on, each with its link
abbrev pub with_links : ℕ → List LinkSlot → List (ℕ × LinkSlot)
with_links place [] = []
with_links place (slot ∷ slots) = (link_of_index place, slot) ∷ with_links (place + 1) slots

-- the map of a list of slots, which has them in the order of their links
unfoldable pub slots_in : List LinkSlot → LinkSlots
slots_in slots = from_entries (with_links 0 slots)

-- every link that has a slot has an empty one
unfoldable pub no_slots : LinkSlots
no_slots = slots_in (replicate SLOTS Empty)

-- a slot as stored: a number for its kind, and its message
abbrev pub slot_parts : LinkSlot → ℕ × List Bool
slot_parts Empty = (0, [])
slot_parts (Ready message) = (1, message)
slot_parts (Travelling message) = (2, message)
slot_parts (Held message) = (3, message)

abbrev pub slot_of_parts : ℕ × List Bool → LinkSlot
slot_of_parts parts =
    if nat_eq parts.0 0 then Empty
    else if nat_eq parts.0 1 then Ready parts.1
    else if nat_eq parts.0 2 then Travelling parts.1
    else Held parts.1

abbrev pub slot_of_parts-slot_parts : (slot : LinkSlot) → slot_of_parts (slot_parts slot) ≡ slot
slot_of_parts-slot_parts Empty = refl
slot_of_parts-slot_parts (Ready message) = refl
slot_of_parts-slot_parts (Travelling message) = refl
slot_of_parts-slot_parts (Held message) = refl

abbrev pub coded_slot : Coded LinkSlot
coded_slot = code_by (ℕ × List Bool) (coded× coded_ℕ (coded_list coded_bool)) slot_parts slot_of_parts slot_of_parts-slot_parts

abbrev pub coded_slots : Coded LinkSlots
coded_slots = code coded_ℕ coded_slot
