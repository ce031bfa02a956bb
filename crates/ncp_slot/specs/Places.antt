-- A slot in memory has its state and its message in separate fields.
use Rattle.ncp_slot.specs.declared.slot.Slot.{Slot}
use Rattle.ncp_slot.specs.declared.slot.Slot.TheVariants.{Empty, Ready, Travelling, Held}

-- the slot in this state, with this message (this profile)
abbrev pub filled : {M : Type 0} → M → Slot (Unit {0}) → Slot M
filled message Empty = Empty
filled message (Ready none) = Ready message
filled message (Travelling none) = Travelling message
filled message (Held none) = Held message
