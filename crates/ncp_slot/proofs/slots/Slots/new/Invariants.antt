use Rattle.std.proofs.Common.{◌≡◌, ◌≤◌, vec_len, vec_capacity, replicate}
use Rattle.ncp_slot.specs.declared.slot.Slot.TheVariants.{Empty}
use Rattle.ncp_slot.specs.declared.slots.TheConstants.{SLOTS}
use Rattle.ncp_slot.proofs.slots.Slots.new.Given as goal

abbrev pub invariant-loop-place : goal.invariant-loop-place
invariant-loop-place l = record {
  len : vec_len l.slots ≡ l._place;
  room : SLOTS ≤ vec_capacity l.slots;
  empty : l.slots.items ≡ replicate l._place Empty;
}
