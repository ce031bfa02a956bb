use Rattle.std.proofs.Common.{◌≡◌}
use Rattle.ncp_numbers.specs.Bytes.{bytes_of}
use Rattle.ncp_control.specs.Texts.{commands_among}
use Rattle.ncp_control.specs.Reading.{commands_in}
use Rattle.ncp_results.specs.Unacknowledged.{has_reset_among}
use Rattle.ncp_results.proofs.commands.has_reset_at.Given as goal

-- one is among what is left if and only if one is among all
abbrev pub invariant-loop-item : goal.invariant-loop-item
invariant-loop-item l = has_reset_among (commands_among l.item-iterator) ≡ has_reset_among (commands_in (bytes_of l.fn.text))
