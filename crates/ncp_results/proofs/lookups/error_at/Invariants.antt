use Rattle.std.proofs.Common.{◌≡◌, slice_get}
use Rattle.ncp_results.proofs.lookups.error_at.Given as goal

-- what is looked for stands as far behind the front of what is left
abbrev pub invariant-loop-error : goal.invariant-loop-error
invariant-loop-error l = slice_get l.error-iterator l.left ≡ slice_get l.fn.errors l.fn.place
