-- The state of a slot after the buffer of its message was mutably borrowed.
use Rattle.std.specs.Prelude.{Bool, List}
use Rattle.std.specs.Borrow.{Lends, Fml, MutBor}
use Rattle.ncp_bits.specs.contracts.bits.Bits.{the_row as bits_row}
use Rattle.ncp_slot.specs.declared.slot.Slot.TheVariants.{Travelling}
use Rattle.ncp_slot.specs.Slots.{LinkSlot}
use Rattle.ncp_slot.specs.contracts.place.Place.{the_row}

-- the message is what was last written, and it is travelling
abbrev pub LendsTravelling : MutBor LinkSlot → MutBor (List Bool) → Fml
LendsTravelling s r = Lends the_row bits_row s r (λ w. Travelling w)
