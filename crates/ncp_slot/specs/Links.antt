-- The links that have a slot.
use Rattle.std.specs.Prelude.{ℕ, IsTrue, is_some, ◌↔◌}
use Rattle.std.specs.FinMap.{get}
use Rattle.ncp_slot.specs.Slots.{LinkSlots, HasSlot}

-- the map has exactly the links that have a slot (this profile)
abbrev pub HasItsLinks : LinkSlots → Type 0
HasItsLinks slots = (link : ℕ) → IsTrue (is_some (get slots link)) ↔ HasSlot link
