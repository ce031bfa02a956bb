use Rattle.std.proofs.Common.{◌≡◌}
use Rattle.ncp_numbers.specs.Bytes.{bytes_of}
use Rattle.ncp_control.specs.Texts.{commands_among}
use Rattle.ncp_control.specs.Reading.{commands_in}
use Rattle.ncp_results.specs.Commands.{no_tally, command_tally_from}
use Rattle.ncp_results.proofs.commands.tally_at.Given as goal

-- what is left makes of the tally what all make of none
abbrev pub invariant-loop-item : goal.invariant-loop-item
invariant-loop-item l = command_tally_from l.tally (commands_among l.item-iterator) ≡ command_tally_from no_tally (commands_in (bytes_of l.fn.text))
