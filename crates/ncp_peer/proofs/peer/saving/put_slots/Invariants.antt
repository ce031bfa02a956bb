use Rattle.std.proofs.Common.{◌≡◌, ◌-◌, ◌++◌}
use Rattle.std.specs.List.{range_with_len}
use Rattle.ncp_peer.specs.SavedPeer.{slots_on, slots_saved}
use Rattle.ncp_peer.proofs.peer.saving.put_slots.Given as goal

-- what is written, and what is left to be written
abbrev pub invariant-loop-link : goal.invariant-loop-link
invariant-loop-link l = l.out.items ++ slots_on (range_with_len l.link (72 - l.link)) l.slots ≡ l.fn.out.items ++ slots_saved l.slots
