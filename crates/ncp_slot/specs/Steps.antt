-- The effect of one event on the slot of its link, and its note.
use Rattle.ncp_slot.specs.declared.laws.LinkEvent.{LinkEvent}
use Rattle.ncp_slot.specs.declared.laws.LinkEvent.TheVariants as event
use Rattle.ncp_slot.specs.declared.laws.LinkNote.{LinkNote}
use Rattle.ncp_slot.specs.declared.laws.LinkNote.TheVariants as note
use Rattle.ncp_slot.specs.Slot.{put_in, handed_out, answered, woken, ready_message, is_empty, is_travelling}
use Rattle.ncp_slot.specs.Slots.{LinkSlot}

abbrev pub slot_after : LinkSlot → LinkEvent → LinkSlot
slot_after slot (event.Put message) = put_in message slot
slot_after slot event.Hand = handed_out slot
slot_after slot (event.Answer answer) = answered answer slot
slot_after slot event.Wake = woken slot

abbrev pub note_at : LinkSlot → LinkEvent → LinkNote
note_at slot (event.Put message) = note.Put (is_empty slot)
note_at slot event.Hand = note.Handed (ready_message slot)
note_at slot (event.Answer answer) = note.Answered (is_travelling slot)
note_at slot event.Wake = note.Woken
