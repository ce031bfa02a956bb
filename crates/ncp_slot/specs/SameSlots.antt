-- Equality of two hosts' slots, link by link.
use Rattle.std.specs.Prelude.{◌≡◌, ℕ}
use Rattle.ncp_slot.specs.Slots.{HasSlot, LinkSlots, slot_at}

-- every link that has a slot has the same one in both
abbrev pub SameAtLinks : LinkSlots → LinkSlots → Type 0
SameAtLinks one other = (link : ℕ) → HasSlot link → slot_at one link ≡ slot_at other link
