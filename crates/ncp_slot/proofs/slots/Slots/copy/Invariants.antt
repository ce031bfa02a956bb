use Rattle.std.proofs.Common.{◌≡◌, ◌≤◌, vec_len, vec_capacity, take}
use Rattle.std.specs.Box.{boxed_slice_items}
use Rattle.ncp_slot.specs.declared.slots.TheConstants.{SLOTS}
use Rattle.ncp_slot.proofs.slots.Slots.copy.Given as goal

-- the first of the slots are copied
abbrev pub invariant-loop-place : goal.invariant-loop-place
invariant-loop-place l = record {
  len : vec_len l.copies ≡ l.place;
  room : SLOTS ≤ vec_capacity l.copies;
  copied : l.copies.items ≡ take l.place (boxed_slice_items l.self-inside.slots);
}
