use Rattle.ncp_slot.proofs.Places.{slot_at-with_slot_same, slot_at-with_slot_other, with_slot-twice, slot_at-no_slots}
use Rattle.ncp_slot.proofs.laws.slots_are_independent.Goals as goal

pub returns-clause-same : goal.returns-clause-same
returns-clause-same c = slot_at-with_slot_same

pub returns-clause-others : goal.returns-clause-others
returns-clause-others c = slot_at-with_slot_other

pub returns-clause-twice : goal.returns-clause-twice
returns-clause-twice c = with_slot-twice

pub returns-clause-none : goal.returns-clause-none
returns-clause-none c = slot_at-no_slots
