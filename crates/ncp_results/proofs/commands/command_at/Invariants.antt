use Rattle.std.proofs.Common.{◌≡◌, slice_get}
use Rattle.ncp_numbers.specs.Bytes.{bytes_of}
use Rattle.ncp_control.specs.Texts.{items_of}
use Rattle.ncp_control.specs.Reading.{commands_in, fault_in}
use Rattle.ncp_results.proofs.commands.command_at.Given as goal

-- what is looked for stands as far behind the front of what is left
abbrev pub invariant-loop-item : goal.invariant-loop-item
invariant-loop-item l = slice_get l.item-iterator l.left ≡ slice_get (items_of (commands_in (bytes_of l.fn.text)) (fault_in (bytes_of l.fn.text))) l.fn.place
