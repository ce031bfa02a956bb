use Rattle.ncp_phase.proofs.Filling.{Filled}
use Rattle.std.proofs.Common.{◌≡◌}
use Rattle.ncp_phase.proofs.queue.Queue.take_text.Given as goal

abbrev pub invariant-loop-place : goal.invariant-loop-place
invariant-loop-place l = record {
  filled : Filled l.initial.self-inside.commands.items l._place l.self-inside.commands.items l.text.items;
  capacity : l.self-inside.commands.capacity ≡ 512;
}
