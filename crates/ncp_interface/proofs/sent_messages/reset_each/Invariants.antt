use Rattle.std.proofs.Common.{◌≡◌, ◌++◌, map, take, drop}
use Rattle.ncp_interface.specs.Doubts.{after_reset_at}
use Rattle.ncp_interface.proofs.sent_messages.reset_each.Given as goal

abbrev pub invariant-loop-one : goal.invariant-loop-one
invariant-loop-one l = l.kept ≡ map (after_reset_at l.at) (take l.one-index l.initial.kept) ++ drop l.one-index l.initial.kept
