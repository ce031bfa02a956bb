use Rattle.std.proofs.Common.{◌≡◌, ◌++◌, drop}
use Rattle.ncp_saved.specs.Values.{listed, error_saved}
use Rattle.ncp_phase.proofs.echoes.saving.put_errors.Given as goal

-- what is written, and what is left to be written
abbrev pub invariant-loop-place : goal.invariant-loop-place
invariant-loop-place l = l.out.items ++ listed error_saved (drop l.place l.errors.items) ≡ l.initial.out.items ++ listed error_saved l.errors.items
