use Rattle.std.proofs.Common.{ℕ, ◌<◌, IfSome, slice_get}
use Rattle.ncp_phase.specs.Restoring.{HasAllData}
use Rattle.ncp_phase.proofs.echoes.saving.are_whole.Given as goal

-- the first of them are
abbrev pub invariant-loop-place : goal.invariant-loop-place
invariant-loop-place l = (k : ℕ) → k < l.place → IfSome (slice_get l.errors.items k) HasAllData
