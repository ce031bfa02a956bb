use Rattle.std.proofs.Common.{List, Result, slice_get, ap, ◌∙◌}
use Rattle.ncp_wire.specs.declared.command.Command.{Command}
use Rattle.ncp_wire.specs.declared.fault.CommandFault.{CommandFault}
use Rattle.ncp_results.proofs.commands.command_at.Goals as goal

pub loop-item-init : goal.loop-item-init
loop-item-init c = ap (λ (items : List (Result Command CommandFault)). slice_get items c.args.place) (c.into_iter-item-iterator.ensures.into_iter_gives ∙ c.new-item-items.ensures.items)
