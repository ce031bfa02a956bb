use Rattle.std.proofs.Common.{◌≡◌, ◌++◌, drop}
use Rattle.ncp_saved.specs.Values.{listed, command_saved}
use Rattle.ncp_phase.proofs.phase.saving.put_waiting.Given as goal

-- what is written, and what is left to be written
abbrev pub invariant-loop-place : goal.invariant-loop-place
invariant-loop-place l = l.out.items ++ listed command_saved (drop l.place l.waiting) ≡ l.initial.out.items ++ listed command_saved l.waiting
