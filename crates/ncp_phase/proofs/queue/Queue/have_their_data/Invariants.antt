use Rattle.std.proofs.Common.{ℕ, ◌<◌, IfSome, slice_get}
use Rattle.ncp_saved.specs.Reading.{HasItsData}
use Rattle.ncp_phase.proofs.queue.Queue.have_their_data.Given as goal

-- the first of them have
abbrev pub invariant-loop-place : goal.invariant-loop-place
invariant-loop-place l = (k : ℕ) → k < l.place → IfSome (slice_get l.self k) HasItsData
