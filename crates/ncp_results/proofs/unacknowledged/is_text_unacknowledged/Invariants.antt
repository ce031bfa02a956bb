use Rattle.std.proofs.Common.{◌≡◌, ◌-◌}
use Rattle.std.specs.List.{range_with_len}
use Rattle.ncp_slot.specs.Slots.{data_links}
use Rattle.ncp_host.specs.Host.{state_of}
use Rattle.ncp_results.specs.Unacknowledged.{is_any_unacknowledged}
use Rattle.ncp_results.proofs.unacknowledged.is_text_unacknowledged.Given as goal

-- one is among the links that are left if and only if one is among all
abbrev pub invariant-loop-link : goal.invariant-loop-link
invariant-loop-link l = is_any_unacknowledged (range_with_len l.link (72 - l.link)) (state_of l.fn.host l.fn.peer) ≡ is_any_unacknowledged data_links (state_of l.fn.host l.fn.peer)
