use Rattle.std.proofs.Common.{◌≡◌, ◌≢◌, ◌≤◌, ℕ, take, vec_len, vec_capacity, length}
use Rattle.ncp_slot.specs.declared.slot.Slot.TheVariants.{Empty}
use Rattle.ncp_slot.specs.Slots.{slot_at}
use Rattle.ncp_slot.proofs.Runs.{slot_from, notes_from}
use Rattle.ncp_slot.proofs.laws.run_link.Given as goal

abbrev pub invariant-loop-event : goal.invariant-loop-event
invariant-loop-event l = record {
  len : vec_len l.notes ≡ l.event-index;
  room : length l.events ≤ vec_capacity l.notes;
  notes : l.notes.items ≡ notes_from Empty (take l.event-index l.events);
  slot : slot_at l.slots l.link ≡ slot_from Empty (take l.event-index l.events);
  others : (other : ℕ) → other ≢ l.link → slot_at l.slots other ≡ Empty;
}
