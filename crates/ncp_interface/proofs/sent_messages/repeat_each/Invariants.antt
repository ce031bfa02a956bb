use Rattle.std.proofs.Common.{◌≡◌, ◌++◌, map, take, drop}
use Rattle.ncp_interface.specs.Slots.{after_repeat_at}
use Rattle.ncp_interface.proofs.sent_messages.repeat_each.Given as goal

abbrev pub invariant-loop-one : goal.invariant-loop-one
invariant-loop-one l = l.kept ≡ map (after_repeat_at l.at) (take l.one-index l.initial.kept) ++ drop l.one-index l.initial.kept
