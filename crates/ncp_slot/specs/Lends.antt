-- The state of slots after the buffer of a message was mutably borrowed.
use Rattle.std.specs.Prelude.{ℕ, Bool, List}
use Rattle.std.specs.Borrow.{Lends, Fml, MutBor}
use Rattle.ncp_bits.specs.contracts.bits.Bits.{the_row as bits_row}
use Rattle.ncp_slot.specs.declared.slot.Slot.TheVariants.{Travelling}
use Rattle.ncp_slot.specs.Slots.{LinkSlots, with_slot}
use Rattle.ncp_slot.specs.contracts.slots.Slots.{the_row}

-- the link's message is what was last written, and it is travelling
abbrev pub LendsMessage : MutBor LinkSlots → ℕ → MutBor (List Bool) → Fml
LendsMessage s link r = Lends the_row bits_row s r (λ w. with_slot s.now link (Travelling w))
